-- The recorded failures as keys, and what recording one does to the state of the search's definition. Assumes nothing: these are definitions.
use Rattle.std.specs.Prelude.{◌≡◌, true, false, List, [], ◌∷◌, ◌++◌, map, ℕ, ◌≤◌, ◌<◌, length}
use Rattle.logic.specs.Formula.{Formula}
use Rattle.logic.specs.Key.{Key, contains}
use Rattle.logic.specs.Legal.{Same, plain}
use Rattle.logic.specs.Answer.{failures_full}
use Rattle.logic.specs.Limits.{at_most}
use Rattle.logic.specs.Outcome.{Outcome, nothing, refused, State, with_memory, record_failure}
use Rattle.failures.specs.declared.Noted.{Noted}
use Rattle.failures.specs.declared.Noted.TheVariants as noted
use Rattle.failures.specs.Alike.{Alike}
use Rattle.failures.specs.Items.{key_of}
use Rattle.failures.specs.Records.{most, records}

-- the recorded failures, in order of entry, where a number x stands for the formula `told x`
abbrev pub failed : (ℕ → Formula) → List ℕ → List Key
failed told f = map (key_of told) (records f)

-- a key k that was to be recorded among the failures ks, which are js after it: it was known; or it is new, and stands last as some list of the same multiset; or there is no room
pub record AsKnown (ks : List Key) (k : Key) (js : List Key) : Type 0 where
  pub known : contains ks k ≡ true
  pub same : js ≡ ks

pub record AsNew (ks : List Key) (k : Key) (js : List Key) : Type 0 where
  pub new : contains ks k ≡ false
  pub room : length ks < most
  pub key : Key
  pub same : Same plain key k
  pub last : js ≡ ks ++ (key ∷ [])

pub record AsFull (ks : List Key) (k : Key) (js : List Key) : Type 0 where
  pub new : contains ks k ≡ false
  pub full : most ≤ length ks
  pub same : js ≡ ks

abbrev pub NotedAs : List Key → Key → Noted → List Key → Type 0
NotedAs ks k noted.Known js = AsKnown ks k js
NotedAs ks k noted.Recorded js = AsNew ks k js
NotedAs ks k noted.Full js = AsFull ks k js

-- what the search's definition answers there
abbrev pub outcome_of : Noted → Outcome
outcome_of noted.Known = nothing
outcome_of noted.Recorded = nothing
outcome_of noted.Full = refused failures_full

-- `record_failure` at the state s answers so, and leaves failures that the failures js are alike to
pub record Recording (s : State) (k : Key) (r : Noted) (js : List Key) : Type 0 where
  pub failures : List Key
  pub answers : record_failure (at_most most) k s ≡ (outcome_of r, with_memory record { held = s.memory.held; failures = failures } s)
  pub alike : Alike js failures
