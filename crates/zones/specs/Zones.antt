-- A sequent by value as two lists of numbers, what each operation makes of them, and the sequent that they mean. Assumes nothing: these are definitions.
use Rattle.std.specs.Prelude.{◌≡◌, Bool, true, false, List, [], ◌∷◌, ◌++◌, map, ℕ, suc, ◌+◌, ◌≤◌, ◌<◌, ◌/◌, ◌%◌, eqb, leb, get_or, length, take, drop}
use Rattle.logic.specs.Formula.{Formula}
use Rattle.logic.specs.Sequent.{Sequent, ◌﹔◌}
use Rattle.zones.specs.declared.Zones.{Zones}

abbrev pub linears : Zones → List ℕ
linears z = take z.linear_len z.linear

abbrev pub unrestricteds : Zones → List ℕ
unrestricteds z = take z.unrestricted_len z.unrestricted

-- at most 31 formulas, both zones together
pub record Fits (z : Zones) : Type 0 where
  pub few : z.linear_len + z.unrestricted_len ≤ 31
  pub linear_sized : length z.linear ≡ 31
  pub unrestricted_sized : length z.unrestricted ≡ 31

-- `remove(i)` and `[i] = a`
abbrev pub remove : {A : Type 0} → ℕ → List A → List A
remove i xs = take i xs ++ drop (suc i) xs

abbrev pub replace : {A : Type 0} → ℕ → A → List A → List A
replace i a xs = take i xs ++ (a ∷ drop (suc i) xs)

-- 1 where the lowest bit of the mask is `side`, and else 0
abbrev pub as_number : Bool → ℕ
as_number true = 1
as_number false = 0

abbrev pub bit : ℕ → ℕ → ℕ
bit side mask = as_number (eqb (mask % 2) side)

-- 1 from place i on, and else 0
abbrev pub past : ℕ → ℕ → ℕ
past i k = as_number (leb i k)

abbrev pub keep : {A : Type 0} → Bool → A → List A → List A
keep true x xs = x ∷ xs
keep false x xs = xs

-- the items whose bit of the mask is `side`, in order: one half of `all_splits`, side 0 its left and side 1 its right
unfoldable pub part : {A : Type 0} → ℕ → ℕ → List A → List A
part side mask [] = []
part side mask (x ∷ xs) = keep (eqb (mask % 2) side) x (part side (mask / 2) xs)

-- the operations, on zones of numbers or of formulas
pub data Change (A : Type 0) : Type 0 where
  without : (i : ℕ) → Change A
  replaced : (i : ℕ) (a : A) → Change A
  pushed : (a : A) → Change A
  only : (a : A) → Change A
  split : (side i mask : ℕ) (a : A) → Change A
  without_unrestricted : (i : ℕ) → Change A
  pushed_unrestricted : (a : A) → Change A

abbrev pub linear_after : {A : Type 0} → Change A → List A → List A
linear_after (without i) Γ = remove i Γ
linear_after (replaced i a) Γ = replace i a Γ
linear_after (pushed a) Γ = Γ ++ (a ∷ [])
linear_after (only a) Γ = a ∷ []
linear_after (split side i mask a) Γ = part side mask (remove i Γ) ++ (a ∷ [])
linear_after (without_unrestricted i) Γ = Γ
linear_after (pushed_unrestricted a) Γ = Γ

abbrev pub unrestricted_after : {A : Type 0} → Change A → List A → List A
unrestricted_after (without i) Θ = Θ
unrestricted_after (replaced i a) Θ = Θ
unrestricted_after (pushed a) Θ = Θ
unrestricted_after (only a) Θ = Θ
unrestricted_after (split side i mask a) Θ = Θ
unrestricted_after (without_unrestricted i) Θ = remove i Θ
unrestricted_after (pushed_unrestricted a) Θ = Θ ++ (a ∷ [])

-- the zones that an operation makes of others
pub record Made (z : Zones) (change : Change ℕ) (r : Zones) : Type 0 where
  pub fits : Fits r
  pub linear : linears r ≡ linear_after change (linears z)
  pub unrestricted : unrestricteds r ≡ unrestricted_after change (unrestricteds z)
  pub linear_count : r.linear_len ≡ length (linear_after change (linears z))
  pub unrestricted_count : r.unrestricted_len ≡ length (unrestricted_after change (unrestricteds z))

pub record Empty (r : Zones) : Type 0 where
  pub fits : Fits r
  pub linear : linears r ≡ []
  pub unrestricted : unrestricteds r ≡ []

-- the items up to place `last` with the one at place i taken out
pub record Shifted (items : List ℕ) (i last : ℕ) (r : List ℕ) : Type 0 where
  pub sized : length r ≡ length items
  pub moved : take last r ≡ remove i (take (suc last) items)

-- the sequent, where a number x stands for the formula `told x`
abbrev pub meant : (ℕ → Formula) → Zones → Sequent
meant told z = map told (linears z) ﹔ map told (unrestricteds z)

-- every number is below n: of a list, of both zones, of what an operation adds
pub record Below (n : ℕ) (xs : List ℕ) : Type 0 where
  pub below : (i : ℕ) → i < length xs → get_or xs i 0 < n

pub record Within (n : ℕ) (z : Zones) : Type 0 where
  pub linear : Below n (linears z)
  pub unrestricted : Below n (unrestricteds z)

abbrev pub Adds : ℕ → Change ℕ → Type 0
Adds n (without i) = Unit {0}
Adds n (replaced i a) = a < n
Adds n (pushed a) = a < n
Adds n (only a) = a < n
Adds n (split side i mask a) = a < n
Adds n (without_unrestricted i) = Unit {0}
Adds n (pushed_unrestricted a) = a < n
