-- Sequents, as in sequent.rs: two zones. `focus` is left out: every sequent here has none. Document 01's questions of both kinds. Assumes nothing.
use Rattle.std.specs.Prelude.{List, [], ◌++◌, map, ℕ, ◌+◌, length}
use Rattle.logic.specs.Formula.{Formula, negate}

pub record Sequent : Type 0 where
  pub linear : List Formula
  pub unrestricted : List Formula

abbrev pub ◌﹔◌ : List Formula → List Formula → Sequent
◌﹔◌ Γ Θ = record { linear = Γ; unrestricted = Θ }

infix 10 ◌﹔◌
-- how many formulas a sequent has, both zones together
abbrev pub count : Sequent → ℕ
count q = length q.linear + length q.unrestricted

-- kind 1: a sequent; kind 2: `TwoSidedSequent`
pub data Question : Type 0 where
  one_sided : (linear unrestricted : List Formula) → Question
  two_sided : (antecedent succedent : List Formula) → Question

unfoldable pub to_one_sided : Question → Sequent
to_one_sided (one_sided Γ Θ) = Γ ﹔ Θ
to_one_sided (two_sided Γ Δ) = map negate Γ ++ Δ ﹔ []
