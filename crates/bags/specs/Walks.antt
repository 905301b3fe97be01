-- A walk over the formulas of a run, one after another, and over the runs of a multiset: what is left of them, and what the loops keep. Assumes nothing.
use Rattle.std.specs.Prelude.{◌≡◌, List, ◌∷◌, ◌++◌, map, ℕ, ◌+◌, ◌*◌, ◌≤◌, length, drop}
use Rattle.logic.specs.Formula.{Formula, size}
use Rattle.logic.specs.Legal.{times, plain}
use Rattle.tree.specs.Places.{FormulaAt}
use Rattle.bags.specs.Reading.{read_as}
use Rattle.bags.specs.Compared.{read_at}
use Rattle.bags.specs.Runs.{Along, Reads, BagReads, agree_on}
use Rattle.bags.specs.declared.How.{How}
use Rattle.bags.specs.declared.Place.{Place}
use Rattle.bags.specs.declared.Run.{Run}

module _ (s : List ℕ) (end : ℕ) where
  -- formulas that are left at p, with Q of them
  pub record Left (p : ℕ) (Q : List Formula → Type 0) : Type 0 where
    pub rest : List Formula
    pub along : Along s end p rest
    pub so : Q rest

  -- a formula at p and those behind it, with Q of them
  pub record Here (p : ℕ) (Q : List Formula → Type 0) : Type 0 where
    pub formula : Formula
    pub others : List Formula
    pub stands : FormulaAt s p formula
    pub within : p + size formula ≤ end
    pub along : Along s end (p + size formula) others
    pub so : Q (formula ∷ others)

  -- from p₀ to p: P of all formulas and those left, whichever they are
  pub record Walk (p₀ p : ℕ) (P : List Formula → List Formula → Type 0) : Type 0 where
    pub left : (fs : List Formula) → Along s end p₀ fs → Left p (P fs)

  -- what the loops keep
  module _ (how : How) (p₀ p : ℕ) where
    pub record Timing (x : Place) (n : ℕ) : Type 0 where
      pub few : n ≤ p
      pub inside : p ≤ length s
      pub walk : Walk p₀ p (λ fs rest. (f : Formula) → FormulaAt s x.at f → times plain (read_at x f) (map (read_as how) fs) ≡ n + times plain (read_at x f) (map (read_as how) rest))

    pub record Agreeing (x y : List Run) : Type 0 where
      pub walk : Walk p₀ p (λ fs rest. (xs ys : List Formula) → BagReads s x xs → BagReads s y ys → agree_on (map (read_as how) fs) xs ys ≡ agree_on (map (read_as how) rest) xs ys)

  pub record Counting (p₀ p n : ℕ) : Type 0 where
    pub few : n ≤ p
    pub inside : p ≤ length s
    pub walk : Walk p₀ p (λ fs rest. length fs ≡ n + length rest)

module _ (s : List ℕ) (bag : List Run) where
  -- formulas of the runs from the i-th on, with Q of them
  pub record RunsLeft (i : ℕ) (Q : List Formula → Type 0) : Type 0 where
    pub rest : List Formula
    pub read : BagReads s (drop i bag) rest
    pub so : Q rest

  -- those of the i-th run and of those behind it, with Q of them
  pub record RunHere (i : ℕ) (run : Run) (Q : List Formula → Type 0) : Type 0 where
    pub formulas : List Formula
    pub others : List Formula
    pub reads : Reads s run formulas
    pub read : BagReads s (drop (i + 1) bag) others
    pub so : Q (formulas ++ others)

  -- from the first run to the i-th: P of all formulas and those left, whichever they are
  pub record RunsWalk (i : ℕ) (P : List Formula → List Formula → Type 0) : Type 0 where
    pub left : (fs : List Formula) → BagReads s bag fs → RunsLeft i (P fs)

  -- what the loops keep
  module _ (i : ℕ) where
    pub record TimingAll (x : Place) (n : ℕ) : Type 0 where
      pub few : n ≤ i * 65538
      pub walk : RunsWalk i (λ fs rest. (f : Formula) → FormulaAt s x.at f → times plain (read_at x f) fs ≡ n + times plain (read_at x f) rest)

    pub record CountingAll (n : ℕ) : Type 0 where
      pub few : n ≤ i * 65538
      pub walk : RunsWalk i (λ fs rest. length fs ≡ n + length rest)

    pub record AgreeingAll (x y : List Run) : Type 0 where
      pub walk : RunsWalk i (λ fs rest. (xs ys : List Formula) → BagReads s x xs → BagReads s y ys → agree_on fs xs ys ≡ agree_on rest xs ys)
