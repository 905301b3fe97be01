-- Lists of held formulas, by number, and what entering a zone's formulas and negating listed ones answer. Assumes nothing: these are definitions.
use Rattle.std.specs.Prelude.{◌≡◌, List, [], map, ℕ, ◌+◌, ◌≤◌, ◌<◌, get_or, length, None, Option, Some}
use Rattle.std.proofs.Math.Seq.{slice}
use Rattle.logic.specs.Formula.{Formula, One, negate}
use Rattle.logic.specs.Held.{enter_all}
use Rattle.wire.specs.Write.{write_formulas}
use Rattle.wire.specs.Read.{got, read_all}
use Rattle.wire.specs.Fits.{ZoneFits}
use Rattle.held.specs.Words.{count, most, view, told, named, Wf, Extends}

-- the n numbers from place `from` on are those of the first n formulas of fs
pub record Names (m numbers : List ℕ) (from n : ℕ) (fs : List Formula) : Type 0 where
  pub low : (j : ℕ) → j < n → get_or numbers (from + j) 0 < count m
  pub here : (j : ℕ) → j < n → told m (get_or numbers (from + j) 0) ≡ get_or fs j One

-- from one place up to another stand these formulas
pub record Zone (s : List ℕ) (at end : ℕ) (fs : List Formula) : Type 0 where
  pub ordered : at ≤ end
  pub inside : end ≤ length s
  pub bytes_are : slice at end s ≡ write_formulas fs
  pub read : read_all (slice at end s) ≡ got fs []

-- formulas stand there, and there is room to list them
pub record Zoned (m s : List ℕ) (at end : ℕ) (numbers : List ℕ) (from : ℕ) : Type 0 where
  pub wf : Wf m
  pub formulas : List Formula
  pub zone : Zone s at end formulas
  pub fits : ZoneFits formulas
  pub room : from + length formulas ≤ length numbers

-- all of a list of formulas is entered, with parts
pub record EnteredAll (m : List ℕ) (fs : List Formula) (m' : List ℕ) : Type 0 where
  pub wf : Wf m'
  pub grew : Extends m m'
  pub all : view m' ≡ enter_all fs (view m)

-- there is no room for all of them; some may have been entered
pub record OverAll (m : List ℕ) (fs : List Formula) (m' : List ℕ) : Type 0 where
  pub wf : Wf m'
  pub grew : Extends m m'
  pub over : most < length (enter_all fs (view m))

-- the formulas fs are entered and listed from place `from` on
pub record ListedAll (m : List ℕ) (fs : List Formula) (numbers : List ℕ) (from n : ℕ) (m' numbers' : List ℕ) : Type 0 where
  pub entered : EnteredAll m fs m'
  pub counted : n ≡ length fs
  pub names : Names m' numbers' from n fs
  pub long : length numbers' ≡ length numbers
  pub kept : (j : ℕ) → j < from → get_or numbers' j 0 ≡ get_or numbers j 0

abbrev pub ListedFrom : List ℕ → List ℕ → ℕ → ℕ → List ℕ → ℕ → Option ℕ → List ℕ → List ℕ → Type 0
ListedFrom m s at end numbers from (Some n) m' numbers' = (fs : List Formula) → read_all (slice at end s) ≡ got fs [] → ListedAll m fs numbers from n m' numbers'
ListedFrom m s at end numbers from None m' numbers' = (fs : List Formula) → read_all (slice at end s) ≡ got fs [] → OverAll m fs m'

-- the first n numbers are of held formulas
pub record Negatable (m numbers : List ℕ) (n : ℕ) : Type 0 where
  pub wf : Wf m
  pub room : n ≤ length numbers
  pub low : (j : ℕ) → j < n → get_or numbers j 0 < count m

-- the negations are entered, and listed in their places
pub record NegatedAll (m numbers : List ℕ) (n : ℕ) (m' numbers' : List ℕ) : Type 0 where
  pub entered : EnteredAll m (map negate (named m numbers n)) m'
  pub names : Names m' numbers' 0 n (map negate (named m numbers n))
  pub long : length numbers' ≡ length numbers
  pub kept : (j : ℕ) → n ≤ j → get_or numbers' j 0 ≡ get_or numbers j 0

abbrev pub NegatedFrom : List ℕ → List ℕ → ℕ → Option (Unit {0}) → List ℕ → List ℕ → Type 0
NegatedFrom m numbers n (Some _) m' numbers' = NegatedAll m numbers n m' numbers'
NegatedFrom m numbers n None m' numbers' = OverAll m (map negate (named m numbers n)) m'
