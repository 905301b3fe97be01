-- A formula that stands in bytes, by its sign and its parts; and what entering it answers. Assumes nothing: these are definitions.
use Rattle.std.specs.Prelude.{◌≡◌, ◌⊎◌, List, ℕ, ◌+◌, ◌≤◌, ◌<◌, None, Option, Some}
use Rattle.logic.specs.Formula.{Formula, height, size}
use Rattle.formula.specs.Signs.{Stands}
use Rattle.logic.specs.Parts.{make}
use Rattle.held.specs.Signs.{node}
use Rattle.held.specs.Words.{view, Wf}
use Rattle.held.specs.Answers.{Stored, NoRoom}
use Rattle.held.specs.Turn.{Entered, Over}
use Rattle.enter.specs.declared.Sign.{Sign}
use Rattle.enter.specs.declared.Sign.TheVariants as sign

-- the bytes of a formula stand there
pub record Standing (s : List ℕ) (at : ℕ) : Type 0 where
  pub formula : Formula
  pub stands : Stands s at formula

-- f is a unit or a name, of the tag t and the name n, and next is the place after it
pub record LeafAt (at t n next : ℕ) (f : Formula) : Type 0 where
  pub made : (x y : Formula) → make t n x y ≡ f
  pub kind : ((t < 4) × (n ≡ 0)) ⊎ (((4 ≤ t) × (t < 6)) × (n < 65536))
  pub after : next ≡ at + size f

-- f is of the tag t and one part, which stands behind the tag
pub record PartAt (s : List ℕ) (at t : ℕ) (f : Formula) : Type 0 where
  pub part : Formula
  pub made : (n : ℕ) (y : Formula) → make t n part y ≡ f
  pub low : 11 ≤ t
  pub high : t < 13
  pub stands : Stands s (at + 1) part
  pub wide : size f ≡ 1 + size part

-- f is of the tag t and two parts, one behind the other
pub record PairAt (s : List ℕ) (at t : ℕ) (f : Formula) : Type 0 where
  pub left : Formula
  pub right : Formula
  pub made : (n : ℕ) → make t n left right ≡ f
  pub low : 6 ≤ t
  pub high : t < 11
  pub first : Stands s (at + 1) left
  pub second : Stands s (at + 1 + size left) right
  pub wide : size f ≡ 1 + size left + size right

-- what stands there, whatever formula it is
abbrev pub SignOf : List ℕ → ℕ → Sign → Type 0
SignOf s at (sign.Leaf t n next) = (f : Formula) → Stands s at f → LeafAt at t n next f
SignOf s at (sign.One t) = (f : Formula) → Stands s at f → PartAt s at t f
SignOf s at (sign.Two t) = (f : Formula) → Stands s at f → PairAt s at t f

-- the formula is held, or there is no room for it
abbrev pub StoredAs : List ℕ → ℕ → ℕ → ℕ → ℕ → Option (ℕ × ℕ) → List ℕ → Type 0
StoredAs m t a b next (Some (i, p)) m' = (p ≡ next) × Stored m (node t a b (view m)) i m'
StoredAs m t a b next None m' = NoRoom m (node t a b (view m)) m'

-- a formula stands there that is no higher and no longer than a held one may be
pub record Enterable (m s : List ℕ) (at : ℕ) : Type 0 where
  pub wf : Wf m
  pub formula : Formula
  pub stands : Stands s at formula
  pub tall : height formula ≤ 64
  pub wide : size formula < 65536

-- whatever formula stands there is entered with its parts, and p is the place after it; or there is no room for them, and some may have been entered
abbrev pub EnteredFrom : List ℕ → List ℕ → ℕ → Option (ℕ × ℕ) → List ℕ → Type 0
EnteredFrom m s at (Some (i, p)) m' = (f : Formula) → Stands s at f → (p ≡ at + size f) × Entered m f i m'
EnteredFrom m s at None m' = (f : Formula) → Stands s at f → Over m f m'
