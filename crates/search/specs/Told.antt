-- A tree's words over a sequent that is spelled out already, as the ring's members see it: over the question, where an implication may still have to be spelled out, this is `expand`.
-- And the tree's sequents are of held formulas, so that its bytes can be written. Assumes nothing: these are definitions.
use Rattle.std.specs.Prelude.{◌≡◌, List, [], ◌∷◌, ◌++◌, ℕ, zero, suc}
use Rattle.std.proofs.Math.Option.{Option, none, some}
use Rattle.logic.specs.Formula.{Formula}
use Rattle.logic.specs.Sequent.{Sequent}
use Rattle.logic.specs.Tree.{Tree}
use Rattle.expand.specs.Short.{step, grown, expand}
use Rattle.expand.specs.InMemory.{InMemory}

unfoldable pub expand_spelled : (levels : ℕ) → Sequent → List ℕ → Option (Tree × List ℕ)
expand_spelled zero q ws = none
expand_spelled (suc n) q [] = none
expand_spelled (suc n) q (w ∷ ws) = grown (expand n) q (step q w) ws

-- the words are those of the tree, whatever words follow
pub record Tells (levels : ℕ) (q : Sequent) (ws : List ℕ) (fs : List Formula) (t : Tree) : Type 0 where
  pub told : (rest : List ℕ) → expand_spelled levels q (ws ++ rest) ≡ some (t, rest)
  pub held : InMemory fs t
