-- Runs of formulas in a message, and the multisets that up to three of them make, as a list of runs: which formulas they are, as they are read, and what counting and comparing them answers. A contract
-- speaks of any formulas that a run reads as. Assumes nothing.
use Rattle.std.specs.Prelude.{◌≡◌, Bool, true, ◌&&◌, List, [], ◌∷◌, ◌++◌, map, ℕ, ◌+◌, ◌≤◌, eqb, length}
use Rattle.std.specs.List.{All}
use Rattle.logic.specs.Formula.{Formula, size}
use Rattle.logic.specs.Legal.{times, plain}
use Rattle.logic.specs.Key.{same_bag}
use Rattle.tree.specs.Places.{FormulaAt}
use Rattle.bags.specs.Reading.{read_as}
use Rattle.bags.specs.Compared.{read_at}
use Rattle.bags.specs.declared.Place.{Place}
use Rattle.bags.specs.declared.Run.{Run}

-- the longest tree message
pub record Short (s : List ℕ) : Type 0 where
  pub short : length s ≤ 65538

-- places of a message of so many bytes
pub record RunWithin (len : ℕ) (run : Run) : Type 0 where
  pub at_inside : run.at ≤ len
  pub end_inside : run.end ≤ len

pub record BagWithin (len : ℕ) (bag : List Run) : Type 0 where
  pub few : length bag ≤ 3
  pub runs_within : All (RunWithin len) bag

module _ (s : List ℕ) where
  -- formulas one after another, up to `end`
  module _ (end : ℕ) where
    abbrev pub Along : ℕ → List Formula → Type 0
    Along at [] = at ≡ end
    Along at (f ∷ fs) = FormulaAt s at f × Along (at + size f) fs

  -- the formulas of a run, as they are read
  pub record Reads (run : Run) (fs : List Formula) : Type 0 where
    pub stand : List Formula
    pub along : Along run.end run.at stand
    pub read : fs ≡ map (read_as run.how) stand

  -- and those of runs one after another
  abbrev pub AllRead : List Run → List Formula → Type 0
  AllRead [] fs = fs ≡ []
  AllRead (run ∷ runs) fs = (gs : List Formula) × (hs : List Formula) × Reads run gs × AllRead runs hs × (fs ≡ gs ++ hs)

  pub record BagReads (bag : List Run) (fs : List Formula) : Type 0 where
    pub all_read : AllRead bag fs

  -- what counting answers
  pub record Counts (run : Run) (x : Place) (r : ℕ) : Type 0 where
    pub few : r ≤ length s
    pub right : (fs : List Formula) (f : Formula) → Reads run fs → FormulaAt s x.at f → r ≡ times plain (read_at x f) fs

  pub record CountsIn (bag : List Run) (x : Place) (r : ℕ) : Type 0 where
    pub right : (fs : List Formula) (f : Formula) → BagReads bag fs → FormulaAt s x.at f → r ≡ times plain (read_at x f) fs

  pub record Long (run : Run) (r : ℕ) : Type 0 where
    pub few : r ≤ length s
    pub right : (fs : List Formula) → Reads run fs → r ≡ length fs

  pub record LongIn (bag : List Run) (r : ℕ) : Type 0 where
    pub right : (fs : List Formula) → BagReads bag fs → r ≡ length fs

-- each formula of the first list stands in the other two equally often
unfoldable pub agree_on : List Formula → List Formula → List Formula → Bool
agree_on [] xs ys = true
agree_on (f ∷ fs) xs ys = eqb (times plain f xs) (times plain f ys) && agree_on fs xs ys

module _ (s : List ℕ) where
  pub record Agrees (run : Run) (x y : List Run) (r : Bool) : Type 0 where
    pub right : (fs xs ys : List Formula) → Reads s run fs → BagReads s x xs → BagReads s y ys → r ≡ agree_on fs xs ys

  pub record BagsSame (x y : List Run) (r : Bool) : Type 0 where
    pub right : (xs ys : List Formula) → BagReads s x xs → BagReads s y ys → r ≡ same_bag xs ys
