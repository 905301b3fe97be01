-- At most 31 formulas: in every sequent of a tree; in each of some sequents, by a limit. Assumes nothing: these are definitions.
use Rattle.std.specs.Prelude.{◌≡◌, false, List, [], ◌∷◌, ◌≤◌}
use Rattle.logic.specs.Sequent.{Sequent, count}
use Rattle.logic.specs.Tree.{Tree, Trees, node, ∅, ◌▹◌}
use Rattle.logic.specs.Limits.{Limit, exceeds}

abbrev mutual
  pub Few : Tree → Type 0
  Few (node r q ts) = (count q ≤ 31) × Few* ts

  pub Few* : Trees → Type 0
  Few* ∅ = Unit {0}
  Few* (t ▹ ts) = Few t × Few* ts

-- none of the sequents exceeds the limit
pub data FewEach (most : Limit) : List Sequent → Type 0 where
  few_none : FewEach most []
  few_more : {q : Sequent} {qs : List Sequent} → exceeds most (count q) ≡ false → FewEach most qs → FewEach most (q ∷ qs)
