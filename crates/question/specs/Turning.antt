-- A two-sided question written one-sided, in the code's steps. Assumes nothing.
use Rattle.std.specs.Prelude.{◌≡◌, List, [], ◌∷◌, ◌++◌, ℕ, ◌+◌, ◌-◌, ◌≤◌, length}
use Rattle.logic.specs.Formula.{Formula}
use Rattle.logic.specs.Sequent.{two_sided}
use Rattle.wire.specs.Write.{two_bytes}
use Rattle.wire.specs.Read.{got, read_question}
use Rattle.question.specs.Answers.{zone_size}

-- the front of a one-sided question of n bytes whose last zone is empty: version, length, kind, and the first zone's length
unfoldable pub head_of : ℕ → List ℕ
head_of n = (1 ∷ two_bytes (n - 3)) ++ (1 ∷ two_bytes (n - 8))

-- the bytes are a two-sided question whose antecedents end at `middle`, and there is as much room for it
pub record TwoSided (s : List ℕ) (middle : ℕ) (out : List ℕ) : Type 0 where
  pub antecedent : List Formula
  pub succedent : List Formula
  pub read : read_question s ≡ got (two_sided antecedent succedent) []
  pub middle_is : middle ≡ 6 + zone_size antecedent
  pub room : length s ≤ length out
