-- The table of negations: word x is one more than the number of the negation of formula x, or 0 where that is not held. Assumes nothing: these are definitions.
use Rattle.std.specs.Prelude.{◌≡◌, List, ℕ, ◌+◌, ◌≤◌, ◌<◌, get_or, length}
use Rattle.logic.specs.Formula.{Formula, negate}
use Rattle.held.specs.Words.{at, count, most, told, Wf}

-- r is one more than the number of f, or 0 where f is not held
pub record Noted (m : List ℕ) (f : Formula) (r : ℕ) : Type 0 where
  pub sound : (y : ℕ) → r ≡ y + 1 → (y < count m) × (told m y ≡ f)
  pub complete : (y : ℕ) → y < count m → told m y ≡ f → r ≡ y + 1

-- the first n words
pub record Table (m table : List ℕ) (n : ℕ) : Type 0 where
  pub wf : Wf m
  pub sized : length table ≡ most
  pub filled : (x : ℕ) → x < n → Noted m (negate (told m x)) (get_or table x 0)

-- r is above the left part of each implication among the first n formulas
pub record Above (m : List ℕ) (n r : ℕ) : Type 0 where
  pub low : r ≤ count m
  pub above : (x : ℕ) → x < n → at m x 0 ≡ 10 → at m x 1 < r

-- the table as implications are spelled out by it: the words of their left parts
pub record Negated (m table : List ℕ) : Type 0 where
  pub wf : Wf m
  pub sized : length table ≡ most
  pub left : (x : ℕ) → x < count m → at m x 0 ≡ 10 → Noted m (negate (told m (at m x 1))) (get_or table (at m x 1) 0)
