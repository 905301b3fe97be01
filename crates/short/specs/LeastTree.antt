-- A short tree beside the tree that it was made of: at every node the same rule, with the least place, then the least mask. Assumes nothing: these are definitions.
use Rattle.std.specs.Prelude.{◌≡◌}
use Rattle.logic.specs.Tree.{Tree, Trees, node, ∅, ◌▹◌, conclusions}
use Rattle.short.specs.Short.{Short, short, Shorts, □, ◌▸◌}
use Rattle.short.specs.Least.{Least}

abbrev mutual
  pub LeastTree : Tree → Short → Type 0
  LeastTree (node r c ts) (short r' i mask ss) = (r' ≡ r) × Least r c (conclusions ts) i mask × LeastTrees ts ss

  pub LeastTrees : Trees → Shorts → Type 0
  LeastTrees ∅ □ = Unit {0}
  LeastTrees ∅ (s ▸ ss) = ⊥
  LeastTrees (t ▹ ts) □ = ⊥
  LeastTrees (t ▹ ts) (s ▸ ss) = LeastTree t s × LeastTrees ts ss
