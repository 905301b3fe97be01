-- Laws of trees in a memory: what is held stays held, and how a node comes to be in a memory. Assumes nothing.
use Rattle.std.specs.Prelude.{◌≡◌, true, List}
use Rattle.logic.specs.Formula.{Formula, among}
use Rattle.logic.specs.Sequent.{Sequent}
use Rattle.logic.specs.Tree.{Rule, Tree, Trees, node, ∅, ◌▹◌}
use Rattle.expand.specs.InMemory.{Kept, InMemory, InMemory*}

-- the formulas of one list are among those of another
pub record Grows (fs gs : List Formula) : Type 0 where
  pub stays : (f : Formula) → among f fs ≡ true → among f gs ≡ true

module _ {fs gs : List Formula} (g : Grows fs gs) where
  pub kept_grows : {q : Sequent} → Kept fs q → Kept gs q
  kept_grows k = record { few = k.few; held = λ i l. g.stays _ (k.held i l) }

mutual
  unfolding InMemory InMemory*

  pub in_memory_grows : {fs gs : List Formula} → Grows fs gs → (t : Tree) → InMemory fs t → InMemory gs t
  in_memory_grows g (node r q ts) k = (kept_grows g k.0, in_memory_grows* g ts k.1)

  pub in_memory_grows* : {fs gs : List Formula} → Grows fs gs → (ts : Trees) → InMemory* fs ts → InMemory* gs ts
  in_memory_grows* g ∅ k = tt
  in_memory_grows* g (t ▹ ts) k = (in_memory_grows g t k.0, in_memory_grows* g ts k.1)

module _ {fs : List Formula} {q : Sequent} (r : Rule) (k : Kept fs q) where
  pub in_memory_leaf : InMemory fs (node r q ∅)
  unfolding InMemory InMemory*
  in_memory_leaf = (k, tt)

  pub in_memory_one : (t : Tree) → InMemory fs t → InMemory fs (node r q (t ▹ ∅))
  unfolding InMemory InMemory*
  in_memory_one t i = (k, (i, tt))

  pub in_memory_two : (t u : Tree) → InMemory fs t → InMemory fs u → InMemory fs (node r q (t ▹ u ▹ ∅))
  unfolding InMemory InMemory*
  in_memory_two t u i j = (k, (i, (j, tt)))
