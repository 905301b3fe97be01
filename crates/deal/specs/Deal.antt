-- Dealing a list's items out to two lists by a mask, and the least mask that does it: what `deal` promises. Assumes nothing: these are definitions.
use Rattle.std.specs.Prelude.{◌≡◌, List, ℕ, ◌^◌, ◌≤◌, ◌<◌, length, None, Option, Some}
use Rattle.zones.specs.Zones.{part}

-- the mask deals the items out to l and r, each in its order
pub record Deals {A : Type 0} (xs l r : List A) (mask : ℕ) : Type 0 where
  pub left : part 0 mask xs ≡ l
  pub right : part 1 mask xs ≡ r

-- the least of all masks that do; its spare bits are 0
pub record Least {A : Type 0} (xs l r : List A) (mask : ℕ) : Type 0 where
  pub spare : mask < 2 ^ length xs
  pub deals : Deals xs l r mask
  pub least : (m : ℕ) → Deals xs l r m → mask ≤ m

-- the least mask, or there is none
abbrev pub Answers : (xs l r : List ℕ) → Option ℕ → Type 0
Answers xs l r (Some m) = Least xs l r m
Answers xs l r None = (m : ℕ) → Deals xs l r m → ⊥
