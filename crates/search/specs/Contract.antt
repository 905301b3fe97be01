-- The contracts of the ring, against the logic's search itself: how counters and memory stand for a state, what a member asks (`Ready`), and what it answers (`Agrees`). Assumes nothing:
-- these are definitions.
use Rattle.std.specs.Prelude.{◌≡◌, Bool, true, false, List, [], ◌∷◌, ℕ, suc, ◌+◌, ◌^◌, ◌≤◌, max, length, get_or, set, take, drop}
use Rattle.std.proofs.Math.Option.{some}
use Rattle.std.proofs.Math.Seq.{slice}
use Rattle.logic.specs.Formula.{One}
use Rattle.logic.specs.Sequent.{Sequent, ◌﹔◌}
use Rattle.logic.specs.Tree.{Rule, PlusIntroLeft, PlusIntroRight}
use Rattle.logic.specs.Outcome as logic
use Rattle.logic.specs.Outcome.{State, Search, ◌or_else◌}
use Rattle.logic.specs.Search.{as_stated, prove_with_depth, from_one, from_two, prove_sync, prove_focused, tensor_masks, try_contraction, try_weakening}
use Rattle.zones.specs.declared.Zones.{Zones}
use Rattle.zones.specs.Zones.{remove, replace}
use Rattle.failures.specs.Alike.{Alike}
use Rattle.memory.specs.Meaning.{holds, failed, told, Wf, Grew, StandsIn, key_of}
use Rattle.memory.specs.Shapes.{RecordedOr}
use Rattle.expand.specs.Short.{step, ◌by◌, spelled}
use Rattle.expand.specs.InMemory as in_memory
use Rattle.search.specs.Told.{Tells}
use Rattle.formula.specs.Answers.{coded}
use Rattle.search.specs.Walk as walk
use Rattle.search.specs.Plans.{sequent, exponential, premise_of, rule_named}
use Rattle.search.specs.declared.plan.Exponential.{Exponential}
use Rattle.search.specs.declared.Prover.{Prover}
use Rattle.search.specs.declared.counters.Counters.{Counters}
use Rattle.search.specs.declared.Outcome.{Outcome}
use Rattle.search.specs.declared.Outcome.TheVariants.{Found, Nothing, Refused}

-- a visit of the logic's search, under a prover's settings
abbrev pub visiting : Prover → ℕ → ℕ → Sequent → Search
visiting p left depth q = prove_with_depth (as_stated p.cache p.budget) left depth q

-- counters and memory stand for a state of the search. The memory lists a failure's items by their numbers, so its failures are alike to the definition's
pub record Stands (c : Counters) (m : List ℕ) (s : State) : Type 0 where
  pub explored : s.explored ≡ c.explored
  pub hits : s.hits ≡ c.hits
  pub reached : s.reached ≡ c.reached
  pub held : s.memory.held ≡ holds m
  pub failures : Alike (failed m) s.memory.failures

-- the counters after a visit is counted, after a depth is reached, after a hit
abbrev pub counted : Counters → Counters
counted c = record { explored = c.explored + 1; hits = c.hits; reached = c.reached }

abbrev pub reached_at : ℕ → Counters → Counters
reached_at depth c = record { explored = c.explored; hits = c.hits; reached = max c.reached depth }

abbrev pub struck : Counters → Counters
struck c = record { explored = c.explored; hits = c.hits + 1; reached = c.reached }

abbrev pub zeroes : Counters
zeroes = record { explored = 0; hits = 0; reached = 0 }

abbrev pub counters_of : Outcome → Counters
counters_of (Found end c) = c
counters_of (Nothing c) = c
counters_of (Refused r c) = c

-- the next free work word, where the tree's words begin at `at`
abbrev pub end_of : ℕ → Outcome → ℕ
end_of at (Found end c) = end
end_of at (Nothing c) = at
end_of at (Refused r c) = at

-- An answer says what the logic's outcome is: a tree by its words, from `at` on, with so many levels left
abbrev pub Says : ℕ → Sequent → ℕ → List ℕ → List ℕ → logic.Outcome → State → Outcome → Type 0
Says n q at m w (logic.found t) s (Found end c) = Stands c m s × Tells n q (slice at end w) (holds m) t
Says n q at m w (logic.found t) s (Nothing c) = ⊥
Says n q at m w (logic.found t) s (Refused r c) = ⊥
Says n q at m w logic.nothing s (Found end c) = ⊥
Says n q at m w logic.nothing s (Nothing c) = Stands c m s
Says n q at m w logic.nothing s (Refused r c) = ⊥
Says n q at m w (logic.refused k) s (Found end c) = ⊥
Says n q at m w (logic.refused k) s (Nothing c) = ⊥
Says n q at m w (logic.refused k) s (Refused r c) = Stands c m s × (r ≡ coded k)

-- What a member asks. slack: 0 before the visit is counted, 1 after. far: the depth and the levels left
pub record Ready (slack : ℕ) (z : Zones) (far at : ℕ) (p : Prover) (c : Counters) (m w : List ℕ) : Type 0 where
  pub zones : StandsIn m z
  pub wf : Wf m
  pub shallow : far ≤ 65
  pub within : c.explored ≤ p.budget
  pub small : p.budget ≤ 16384
  pub room : p.budget ≤ length w
  pub stack : at + slack ≤ c.explored
  pub struck : c.hits + slack ≤ c.explored

-- What it answers, of the search `run` at the sequent q: the words below `at`, and those that no visit could use, are as they were
pub record Agrees (n : ℕ) (q : Sequent) (run : Search) (at : ℕ) (p : Prover) (c : Counters) (m w : List ℕ) (r : Outcome) (m' w' : List ℕ) : Type 0 where
  pub says : (s : State) → Stands c m s → Says n q at m' w' (run s).0 (run s).1 r
  pub front : take at w' ≡ take at w
  pub beyond : (i : ℕ) → (counters_of r).explored ≤ i → get_or w' i 0 ≡ get_or w i 0
  pub size : length w' ≡ length w
  pub wf : Wf m'
  pub grew : Grew m m'
  pub within : (counters_of r).explored ≤ p.budget
  pub more : c.explored ≤ (counters_of r).explored
  pub struck : (counters_of r).hits + c.explored ≤ (counters_of r).explored + c.hits
  pub low : at ≤ end_of at r
  pub stack : end_of at r ≤ (counters_of r).explored

-- a rule of one premise, and of two, whose word is x: at whatever sequent the word means that
pub record Under (n x : ℕ) (q : Sequent) (run : Search) (at : ℕ) (p : Prover) (c : Counters) (m w : List ℕ) (r : Outcome) (m' w' : List ℕ) : Type 0 where
  pub over : (conclusion : Sequent) (rule : Rule) → in_memory.Kept (holds m) conclusion → step conclusion x ≡ some (q ∷ [] by rule) → Agrees (suc n) conclusion (from_one rule conclusion run) at p c m w r m' w'

pub record Both (n x : ℕ) (q q' : Sequent) (run run' : Search) (at : ℕ) (p : Prover) (c : Counters) (m w : List ℕ) (r : Outcome) (m' w' : List ℕ) : Type 0 where
  pub over : (conclusion : Sequent) (rule : Rule) → in_memory.Kept (holds m) conclusion → step conclusion x ≡ some (q ∷ q' ∷ [] by rule) → Agrees (suc n) conclusion (from_two rule conclusion run run') at p c m w r m' w'

-- a node without premises
pub record Leaf (x at : ℕ) (c : Counters) (w : List ℕ) (r : Outcome) (w' : List ℕ) : Type 0 where
  pub answer : r ≡ Found (at + 1) c
  pub words : w' ≡ set w at x

-- a no is recorded where the cache is on, and else nothing is done
pub record FiledOr (p : Prover) (m : List ℕ) (z : Zones) (r : Bool) (m' : List ℕ) : Type 0 where
  pub on : p.cache ≡ true → RecordedOr m (key_of m z) r m'
  pub off : p.cache ≡ false → (r ≡ true) × (m' ≡ m)

-- What each member of the ring answers of the sequent that its zones mean: the search of its name
module _ (p : Prover) (left depth : ℕ) where
  -- a visit one level down
  abbrev pub deeper : Sequent → Search
  deeper = visiting p left (suc depth)

  module _ (z : Zones) (at : ℕ) (c : Counters) (m w : List ℕ) (r : Outcome) (m' w' : List ℕ) where
    abbrev pub Visits : Type 0
    Visits = Agrees left (spelled (sequent m z)) (visiting p left depth (sequent m z)) at p c m w r m' w'

    abbrev pub Decomposes : Type 0
    Decomposes = Agrees (suc left) (spelled (sequent m z)) (walk.rules p.cache p.budget left depth (sequent m z)) at p c m w r m' w'

    -- of the rules that follow, the sequent is spelled out already
    abbrev pub Of : (Sequent → Search) → Type 0
    Of search = Agrees (suc left) (sequent m z) (search (sequent m z)) at p c m w r m' w'

    abbrev pub Syncs : Type 0
    Syncs = Of (prove_sync deeper)

    abbrev pub Chooses : Type 0
    Chooses = Of (walk.positives deeper)

    abbrev pub Focuses : ℕ → Type 0
    Focuses i = Of λ q. prove_focused deeper q (take i q.linear) (get_or q.linear i One) (drop (suc i) q.linear)

    abbrev pub Splits : ℕ → ℕ → ℕ → Type 0
    Splits i a b = Of λ q. tensor_masks deeper q (told m a) (told m b) (remove i q.linear) (2 ^ length (remove i q.linear)) 0

    abbrev pub Pluses : ℕ → ℕ → ℕ → Type 0
    Pluses i a b = Of λ q. from_one PlusIntroLeft q (deeper (replace i (told m a) q.linear ﹔ q.unrestricted)) or_else from_one PlusIntroRight q (deeper (replace i (told m b) q.linear ﹔ q.unrestricted))

    abbrev pub Exponentials : Type 0
    Exponentials = Of (walk.exponentials deeper)

    abbrev pub Copies : Type 0
    Copies = Of λ q. try_contraction deeper q or_else try_weakening deeper q

    abbrev pub Uses : Exponential → Type 0
    Uses e = Of (exponential e deeper)

    abbrev pub Takes : Exponential → ℕ → Type 0
    Takes e i = Of λ q. from_one (rule_named e) q (deeper (premise_of e i q))

    abbrev pub Puts : ℕ → Type 0
    Puts x = Under left x (sequent m z) (deeper (sequent m z)) at p c m w r m' w'

    abbrev pub PutsBoth : ℕ → Zones → Type 0
    PutsBoth x u = Both left x (sequent m z) (sequent m u) (deeper (sequent m z)) (deeper (sequent m u)) at p c m w r m' w'
