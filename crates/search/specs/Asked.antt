-- The contract of `prove`, the way into the ring: what it asks of its caller (`Asked`), what it answers against the logic's `prove` (`Proves`), and what a caller has of that where a tree is
-- found (`Carried`). Assumes nothing: these are definitions.
use Rattle.std.specs.Prelude.{◌≡◌, true, List, ℕ, suc, ◌≤◌, length, get_or, drop}
use Rattle.logic.specs.Sequent.{Sequent}
use Rattle.logic.specs.Tree.{Tree}
use Rattle.logic.specs.Answer as answer
use Rattle.logic.specs.Outcome as logic
use Rattle.logic.specs.Outcome.{State, Memory}
use Rattle.logic.specs.Search.{as_stated, prove}
use Rattle.formula.specs.declared.Refusal.{Refusal}
use Rattle.formula.specs.Answers.{coded}
use Rattle.zones.specs.declared.Zones.{Zones}
use Rattle.failures.specs.Alike.{Alike}
use Rattle.memory.specs.Meaning.{holds, failed, Wf, Grew, StandsIn}
use Rattle.expand.specs.Short.{spelled, Expands}
use Rattle.expand.specs.InMemory.{InMemory}
use Rattle.search.specs.declared.Prover.{Prover}
use Rattle.search.specs.declared.counters.Counters.{Counters}
use Rattle.search.specs.declared.Outcome.{Outcome}
use Rattle.search.specs.Plans.{sequent}
use Rattle.search.specs.Contract.{Stands, Says, counters_of, end_of}

-- `Prover::new`: the whole budget, and the cache on
abbrev pub fresh : ℕ → Prover
fresh limit = record { limit = limit; budget = 16384; cache = true }

-- the logic's `prove`, under a prover's settings
abbrev pub proving : Prover → Sequent → Memory → logic.Outcome × State
proving p q memory = prove (as_stated p.cache p.budget) p.limit q memory

-- the words stand for a memory of the logic's
pub record Remembers (m : List ℕ) (memory : Memory) : Type 0 where
  pub held : memory.held ≡ holds m
  pub failures : Alike (failed m) memory.failures

pub record Asked (p : Prover) (z : Zones) (m w : List ℕ) : Type 0 where
  pub zones : StandsIn m z
  pub wf : Wf m
  pub shallow : p.limit ≤ 64
  pub small : p.budget ≤ 16384
  pub room : p.budget ≤ length w

-- the words of the work slice from `explored` on are as they were
pub record Proves (p : Prover) (z : Zones) (m w : List ℕ) (r : Outcome) (m' w' : List ℕ) : Type 0 where
  pub says : (memory : Memory) → Remembers m memory → Says (suc p.limit) (spelled (sequent m z)) 0 m' w' (proving p (sequent m z) memory).0 (proving p (sequent m z) memory).1 r
  pub beyond : (i : ℕ) → (counters_of r).explored ≤ i → get_or w' i 0 ≡ get_or w i 0
  pub size : length w' ≡ length w
  pub wf : Wf m'
  pub grew : Grew m m'
  pub explored : (counters_of r).explored ≤ p.budget
  pub hits : (counters_of r).hits ≤ (counters_of r).explored
  pub reached : (counters_of r).reached ≤ suc p.limit
  pub words : end_of 0 r ≤ (counters_of r).explored

-- the outcome o with the state s is a tree, and the work words w begin with its nodes' words, up to `end`
pub record Carried (z : Zones) (m w : List ℕ) (end : ℕ) (c : Counters) (o : logic.Outcome) (s : State) : Type 0 where
  pub tree : Tree
  pub found : o ≡ logic.found tree
  pub stands : Stands c m s
  pub expands : Expands 65 (sequent m z) w tree (drop end w)
  pub held : InMemory (holds m) tree

-- the outcome o is the refusal that the answer r gives
pub record RefusedAs (r : Refusal) (o : logic.Outcome) : Type 0 where
  pub refusal : answer.Refusal
  pub refused : o ≡ logic.refused refusal
  pub number : r ≡ coded refusal
