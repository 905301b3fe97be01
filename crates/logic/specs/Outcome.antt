-- What a search answers, and what it hands on: the counters, the formulas held and the recorded failures. Assumes nothing.
use Rattle.std.specs.Prelude.{Bool, true, false, List, [], ◌∷◌, ◌++◌, ℕ, suc, max, length}
use Rattle.logic.specs.Formula.{Formula}
use Rattle.logic.specs.Tree.{Tree}
use Rattle.logic.specs.Answer.{Refusal, number, held_full, failures_full}
use Rattle.logic.specs.Key.{Key, contains}
use Rattle.logic.specs.Held.{enter}
use Rattle.logic.specs.Limits.{Limit, exceeds}

-- `Option<Proof>`, or a refusal
pub data Outcome : Type 0 where
  found : Tree → Outcome
  nothing : Outcome
  refused : Refusal → Outcome

-- document 01's number for an outcome
abbrev pub outcome_number : Outcome → ℕ
outcome_number (found t) = 0
outcome_number nothing = 1
outcome_number (refused r) = number r

-- the outcome is no refusal
abbrev pub Ended : Outcome → Type 0
Ended (found t) = Unit {0}
Ended nothing = Unit {0}
Ended (refused r) = ⊥

-- what the caller lends: the formulas held and the recorded failures (the Rust's `cache`), both in order of entry
pub record Memory : Type 0 where
  pub held : List Formula
  pub failures : List Key

-- `ProverStats`, and the memory
pub record State : Type 0 where
  pub explored : ℕ
  pub hits : ℕ
  pub reached : ℕ
  pub memory : Memory

-- counters at 0
abbrev pub start : Memory → State
start m = record { explored = 0; hits = 0; reached = 0; memory = m }

-- a computation of the Rust over `&mut self`
abbrev pub Search : Type 0
Search = State → Outcome × State

infixr 20 ◌or_else◌
infixr 15 ◌if_found◌
infix 10 when◌then◌else◌
abbrev pub answer : Outcome → Search
answer o s = (o, s)

unfoldable pub when◌then◌else◌ : Bool → Search → Search → Search
when true then m else n = m
when false then m else n = n

-- `if let Some(proof) = m { return Some(proof); } n`: a refusal is passed up
abbrev pub or_next : Outcome → State → Search → Outcome × State
or_next (found t) s n = (found t, s)
or_next nothing s n = n s
or_next (refused r) s n = (refused r, s)

unfoldable pub ◌or_else◌ : Search → Search → Search
◌or_else◌ m n s = let r = m s in or_next r.0 r.1 n

-- `if let Some(premise) = m { k(premise) } else { None }`: a refusal is passed up
abbrev pub found_next : Outcome → State → (Tree → Search) → Outcome × State
found_next (found t) s k = k t s
found_next nothing s k = (nothing, s)
found_next (refused r) s k = (refused r, s)

unfoldable pub ◌if_found◌ : Search → (Tree → Search) → Search
◌if_found◌ m k s = let r = m s in found_next r.0 r.1 k

-- a visit is counted: explored, and the depth reached
unfoldable pub visited : ℕ → State → State
visited depth s = record { explored = suc s.explored; hits = s.hits; reached = max s.reached depth; memory = s.memory }

unfoldable pub hit : State → State
hit s = record { explored = s.explored; hits = suc s.hits; reached = s.reached; memory = s.memory }

abbrev pub with_memory : Memory → State → State
with_memory m s = record { explored = s.explored; hits = s.hits; reached = s.reached; memory = m }

abbrev pub with_failure : Key → State → State
with_failure k s = with_memory record { held = s.memory.held; failures = s.memory.failures ++ (k ∷ []) } s

abbrev pub with_held : List Formula → State → State
with_held fs s = with_memory record { held = fs; failures = s.memory.failures } s

-- `self.cache.insert(key)`: a new failure wants room
unfoldable pub record_failure : Limit → Key → Search
record_failure most k s =
    (when contains s.memory.failures k then answer nothing else
    when exceeds most (suc (length s.memory.failures)) then answer (refused failures_full) else
    λ s. (nothing, with_failure k s))
    s

-- a formula is made, and held with its parts or not at all; then the search goes on
unfoldable pub made : Limit → Formula → Search → Search
made most f m s =
    let fs = enter f s.memory.held in
    (when exceeds most (length fs) then answer (refused held_full) else λ s. m (with_held fs s)) s
