-- A tree whose sequents a memory can name: each has at most 31 formulas, and its linear formulas are held. So are the implications spelled out, which no word names: the writer of a tree
-- looks them up. Assumes nothing: these are definitions.
use Rattle.std.specs.Prelude.{◌≡◌, true, List, ℕ, ◌≤◌, ◌<◌, get_or, length}
use Rattle.logic.specs.Formula.{Formula, One, among}
use Rattle.logic.specs.Sequent.{Sequent, count}
use Rattle.logic.specs.Tree.{Tree, Trees, node, ∅, ◌▹◌}

pub record Kept (fs : List Formula) (q : Sequent) : Type 0 where
  pub few : count q ≤ 31
  pub held : (i : ℕ) → i < length q.linear → among (get_or q.linear i One) fs ≡ true

unfoldable mutual
  pub InMemory : List Formula → Tree → Type 0
  InMemory fs (node r q ts) = Kept fs q × InMemory* fs ts

  pub InMemory* : List Formula → Trees → Type 0
  InMemory* fs ∅ = Unit {0}
  InMemory* fs (t ▹ ts) = InMemory fs t × InMemory* fs ts
