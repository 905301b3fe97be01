-- A property of each node of a tree, told without a walk and without numbers. Assumes nothing.
use Rattle.logic.specs.Sequent.{Sequent}
use Rattle.logic.specs.Tree.{Rule, Tree, Trees, node, ∅, ◌▹◌}

module _ (P : Rule → Sequent → Trees → Type 0) where
  abbrev mutual
    pub Everywhere : Tree → Type 0
    Everywhere (node r q ps) = P r q ps × All_everywhere ps

    pub All_everywhere : Trees → Type 0
    All_everywhere ∅ = Unit {0}
    All_everywhere (t ▹ ts) = Everywhere t × All_everywhere ts
