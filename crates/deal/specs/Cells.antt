-- The cells of the row that the least mask is worked out in. Cell (i, j) is about what is left when i items went to the left list and j to the right one.
-- Assumes nothing: these are definitions.
use Rattle.std.specs.Prelude.{◌≡◌, ◌⊎◌, List, ◌∷◌, ℕ, ◌+◌, ◌*◌, ◌^◌, ◌≤◌, ◌<◌, get_or, length, drop, Option, Some, None}
use Rattle.deal.specs.Deal.{Deals}

-- v is a mask that is at most m
pub record Upto (v : Option ℕ) (m : ℕ) : Type 0 where
  pub mask : ℕ
  pub some : v ≡ Some mask
  pub low : mask ≤ m

-- the least mask, or that there is none
pub record Cell (xs l r : List ℕ) (v : Option ℕ) : Type 0 where
  pub spare : (k : ℕ) → v ≡ Some k → k < 2 ^ length xs
  pub deals : (k : ℕ) → v ≡ Some k → Deals xs l r k
  pub least : (m : ℕ) → Deals xs l r m → Upto v m

-- a mask of the items behind the item at place i has room for one bit more
pub record Putting (side : List ℕ) (i : ℕ) (rest : Option ℕ) (bit : ℕ) : Type 0 where
  pub is_bit : bit ≤ 1
  pub room : i < length side → (k : ℕ) → rest ≡ Some k → k < 2147483648

-- the item x is the first of ys, and the mask of what follows is there: the mask with x's bit before it
pub record Onto (x : ℕ) (ys : List ℕ) (rest : Option ℕ) (bit v : ℕ) : Type 0 where
  pub tail : List ℕ
  pub first : ys ≡ x ∷ tail
  pub mask : ℕ
  pub some : rest ≡ Some mask
  pub is : v ≡ 2 * mask + bit

-- v is that mask, or there is none
pub record Put (x : ℕ) (ys : List ℕ) (rest : Option ℕ) (bit : ℕ) (v : Option ℕ) : Type 0 where
  pub put : (zs : List ℕ) → ys ≡ x ∷ zs → (k : ℕ) → rest ≡ Some k → v ≡ Some (2 * k + bit)
  pub only : (k : ℕ) → v ≡ Some k → Onto x ys rest bit k

pub record Lesser (a b v : Option ℕ) : Type 0 where
  pub first : (k : ℕ) → a ≡ Some k → Upto v k
  pub second : (k : ℕ) → b ≡ Some k → Upto v k
  pub one : (k : ℕ) → v ≡ Some k → (a ≡ Some k) ⊎ (b ≡ Some k)

module _ (xs l r : List ℕ) where
  -- lists that could be dealt so by their lengths, at most 31 items
  pub record Sized : Type 0 where
    pub sum : length xs ≡ length l + length r
    pub few : length xs ≤ 31

  -- the cell of what is left when i items went to l and j to r
  pub record CellAt (i j : ℕ) (v : Option ℕ) : Type 0 where
    pub cell : Cell (drop (i + j) xs) (drop i l) (drop j r) v

  -- what a cell is worked out from
  pub record CellReady (i j : ℕ) (below beside : Option ℕ) : Type 0 where
    pub sized : Sized
    pub in_l : i ≤ length l
    pub in_r : j ≤ length r
    pub below_is : i < length l → CellAt (i + 1) j below
    pub beside_is : j < length r → CellAt i (j + 1) beside

  -- the cells at i
  pub record Row (i : ℕ) (row : List (Option ℕ)) : Type 0 where
    pub at : (j : ℕ) → j ≤ length r → CellAt i j (get_or row j None)

  -- before and after the cells at i are worked out from those at i + 1
  pub record Before (i : ℕ) (row : List (Option ℕ)) : Type 0 where
    pub sized : Sized
    pub in_l : i ≤ length l
    pub long : length row ≡ 32
    pub below : i < length l → Row (i + 1) row

  pub record After (i : ℕ) (row : List (Option ℕ)) : Type 0 where
    pub long : length row ≡ 32
    pub cells : Row i row
