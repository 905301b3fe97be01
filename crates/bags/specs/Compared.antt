-- What the comparison of two formulas in a message answers: whether they are the same, each read its own way, and the places after them. A contract speaks of any formulas that stand at
-- the two places. Assumes nothing.
use Rattle.std.specs.Prelude.{◌≡◌, Bool, true, false, ◌&&◌, Option, Some, None, List, ℕ, ◌+◌, ◌≤◌, min, eqb, length, get_or}
use Rattle.logic.specs.Formula.{Formula, same, size, height}
use Rattle.logic.specs.Parts.{tag_of}
use Rattle.logic.specs.Legal.{as_number}
use Rattle.wire.specs.Write.{write_formula}
use Rattle.tree.specs.Stands.{Stands}
use Rattle.tree.specs.Places.{FormulaAt}
use Rattle.bags.specs.Reading.{read_as, named, binary, unary, rest_of, left_how, right_how}
use Rattle.bags.specs.declared.Place.{Place}
use Rattle.bags.specs.declared.Tops.{Tops}
use Rattle.bags.specs.declared.Tops.TheVariants.{Told, One, Two}

-- the formula, as it is read at a place
abbrev pub read_at : Place → Formula → Formula
read_at x f = read_as x.how f

unfoldable pub compared : Bool → ℕ → ℕ → Option (ℕ × ℕ)
compared true a b = Some (a, b)
compared false a b = None

-- places of a message of so many bytes
abbrev pub Inside : ℕ → Option (ℕ × ℕ) → Type 0
Inside len (Some p) = (p.0 ≤ len) × (p.1 ≤ len)
Inside len None = Unit {0}

abbrev pub TopsInside : ℕ → Tops → Type 0
TopsInside len (Told r) = Inside len r
TopsInside len One = Unit {0}
TopsInside len Two = Unit {0}

pub record RightOf (x : Place) (at : ℕ) (r : Place) : Type 0 where
  pub at_is : r.at ≡ at
  pub how_is : r.how ≡ right_how x.how

module _ (s : List ℕ) where
  pub record SignOf (x : Place) (r : ℕ) : Type 0 where
    pub is : (f : Formula) → Stands s x.at (write_formula f) → r ≡ tag_of (read_at x f)

  pub record LeftOf (x r : Place) : Type 0 where
    pub at_is : r.at ≡ min (x.at + 1) (length s)
    pub how_is : r.how ≡ left_how (get_or s x.at 0) x.how

  pub record Names (a b : ℕ) (r : Option (ℕ × ℕ)) : Type 0 where
    pub inside : Inside (length s) r
    pub right : (f g : Formula) (m n : ℕ) → Stands s a (write_formula f) → Stands s b (write_formula g) → rest_of f ≡ named m → rest_of g ≡ named n
        → r ≡ compared (eqb m n) (a + size f) (b + size g)

  module _ (x y : Place) where
    -- the formulas are the same exactly where their only parts are; or where their left parts and their right parts are
    pub record OnePart (f g : Formula) : Type 0 where
      pub a : Formula
      pub b : Formula
      pub of_f : rest_of f ≡ unary a
      pub of_g : rest_of g ≡ unary b
      pub both : same (read_at x f) (read_at y g) ≡ same (read_as (left_how (tag_of f) x.how) a) (read_as (left_how (tag_of g) y.how) b)

    pub record TwoParts (f g : Formula) : Type 0 where
      pub a : Formula
      pub a' : Formula
      pub b : Formula
      pub b' : Formula
      pub of_f : rest_of f ≡ binary a a'
      pub of_g : rest_of g ≡ binary b b'
      pub both : same (read_at x f) (read_at y g) ≡ same (read_as (left_how (tag_of f) x.how) a) (read_as (left_how (tag_of g) y.how) b) && same (read_as (right_how x.how) a') (read_as (right_how y.how) b')

    abbrev pub Tell : Formula → Formula → Tops → Type 0
    Tell f g (Told r) = r ≡ compared (same (read_at x f) (read_at y g)) (x.at + size f) (y.at + size g)
    Tell f g One = OnePart f g
    Tell f g Two = TwoParts f g

    pub record TopsAre (r : Tops) : Type 0 where
      pub inside : TopsInside (length s) r
      pub right : (f g : Formula) → Stands s x.at (write_formula f) → Stands s y.at (write_formula g) → Tell f g r

    pub record Compares (levels : ℕ) (r : Option (ℕ × ℕ)) : Type 0 where
      pub inside : Inside (length s) r
      pub right : (f g : Formula) → Stands s x.at (write_formula f) → Stands s y.at (write_formula g) → height f ≤ levels → height g ≤ levels
          → r ≡ compared (same (read_at x f) (read_at y g)) (x.at + size f) (y.at + size g)

    pub record Once (r : ℕ) : Type 0 where
      pub small : r ≤ 1
      pub right : (f g : Formula) → FormulaAt s x.at f → FormulaAt s y.at g → r ≡ as_number (same (read_at x f) (read_at y g))
