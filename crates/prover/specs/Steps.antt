-- What the functions below `prove` ask and answer. Assumes nothing: these are definitions.
use Rattle.std.specs.Prelude.{◌≡◌, List, ℕ}
use Rattle.logic.specs.Tree.{Tree}
use Rattle.logic.specs.Outcome.{found, Memory}
use Rattle.zones.specs.declared.Zones.{Zones}
use Rattle.expand.specs.Trees.{Carries, most_levels, OfTree}
use Rattle.memory.specs.Meaning.{formula_words}
use Rattle.search.specs.declared.Prover.{Prover}
use Rattle.search.specs.declared.counters.Counters.{Counters}
use Rattle.search.specs.Plans.{sequent}
use Rattle.search.specs.Asked.{proving, Remembers}
use Rattle.prover.specs.declared.Answer.{Answer}
use Rattle.prover.specs.Promise.{Left, answered, output_after, Settled}

-- the work words stand for a tree of held formulas
abbrev pub Writable : (m w : List ℕ) → Zones → Type 0
Writable m w z = Carries (formula_words m) w z most_levels 0

-- the answer to that tree, and the output after it
pub record Wrote (c : Counters) (out : List ℕ) (r : Answer) (out' : List ℕ) (t : Tree) (rest : List ℕ) : Type 0 where
  pub answer_is : r ≡ answered (found t) c out
  pub output_is : out' ≡ output_after (found t) out

abbrev pub Writes : (m w : List ℕ) → Zones → Counters → List ℕ → Answer → List ℕ → Type 0
Writes m w z c out r out' = OfTree (formula_words m) w z most_levels 0 (Wrote c out r out')

-- whatever memory of the logic's the words stand for, all is as its search of the sequent leaves it
pub record Searches (p : Prover) (z : Zones) (m w out : List ℕ) (left : Left) : Type 0 where
  pub settled : (memory : Memory) → Remembers m memory → Settled w out (proving p (sequent m z) memory).0 (proving p (sequent m z) memory).1 left
