-- Laws of the way into the ring: what is held means the same later; what `prove` answers, case by case; a whole question by its sequent. Assumes nothing.
use Rattle.std.specs.Prelude.{◌≡◌, refl, List, ℕ, suc, ◌≤◌, length, drop}
use Rattle.std.proofs.Common.{sym, ap, ◌∙◌, arith, take-append-drop, le-ltb}
use Rattle.std.proofs.Math.Option.{some}
use Rattle.std.proofs.Math.Seq.{slice}
use Rattle.logic.specs.Sequent.{Sequent, count, Question, to_one_sided}
use Rattle.logic.specs.Tree.{Tree}
use Rattle.logic.specs.Held.{enter_question}
use Rattle.logic.specs.Limits.{exceeds}
use Rattle.logic.specs.Outcome as logic
use Rattle.logic.specs.Outcome.{State, Memory, when◌then◌else◌}
use Rattle.logic.specs.Search.{as_stated, prove, ask}
use Rattle.zones.specs.declared.Zones.{Zones}
use Rattle.zones.specs.ZonesLaws.{within_more, meant_agree}
use Rattle.memory.specs.Meaning.{holds, told, Grew, StandsIn}
use Rattle.expand.specs.Short.{spelled, expand, Expands}
use Rattle.expand.specs.ShortLaws.{expands_higher}
use Rattle.search.specs.Told.{Tells}
use Rattle.search.specs.ToldLaws.{tells_expands}
use Rattle.formula.specs.declared.Refusal.{Refusal}
use Rattle.search.specs.declared.Prover.{Prover}
use Rattle.search.specs.declared.counters.Counters.{Counters}
use Rattle.search.specs.declared.Outcome.{Outcome}
use Rattle.search.specs.declared.Outcome.TheVariants.{Found, Nothing, Refused}
use Rattle.search.specs.Plans.{sequent}
use Rattle.search.specs.Contract.{Stands, Says, counters_of}
use Rattle.search.specs.Asked.{proving, Remembers, Asked, Proves, Carried, RefusedAs}

-- what is held stays held, and means the same
pub stands_later : {m m' : List ℕ} {z : Zones} → Grew m m' → StandsIn m z → StandsIn m' z
stands_later g s = record { fits = s.fits; within = within_more g.more s.within }

pub sequent_later : {m m' : List ℕ} {z : Zones} → Grew m m' → StandsIn m z → sequent m' z ≡ sequent m z
sequent_later {m} {m'} g s = meant_agree (told m) (told m') g.same s.within

-- whatever the answer, its counters and the memory stand for the state that the logic's search ends in
module _ (n : ℕ) (q : Sequent) (at : ℕ) (m w : List ℕ) (s : State) where
  pub says_stands : (o : logic.Outcome) (r : Outcome) → Says n q at m w o s r → Stands (counters_of r) m s
  says_stands (logic.found t) (Found end c) h = h.0
  says_stands (logic.found t) (Nothing c) h = absurd h
  says_stands (logic.found t) (Refused r c) h = absurd h
  says_stands logic.nothing (Found end c) h = absurd h
  says_stands logic.nothing (Nothing c) h = h
  says_stands logic.nothing (Refused r c) h = absurd h
  says_stands (logic.refused k) (Found end c) h = absurd h
  says_stands (logic.refused k) (Nothing c) h = absurd h
  says_stands (logic.refused k) (Refused r c) h = h.0

module _ (p : Prover) (z : Zones) (m : List ℕ) (memory : Memory) where
  abbrev outcome : logic.Outcome
  outcome = (proving p (sequent m z) memory).0

  abbrev state : State
  state = (proving p (sequent m z) memory).1

  abbrev Saying : (m' w' : List ℕ) → logic.Outcome → Outcome → Type 0
  Saying m' w' o r = Says (suc p.limit) (spelled (sequent m z)) 0 m' w' o state r

  module _ (k : Remembers m memory) {w m' w' : List ℕ} where
    pub proves_stands : {r : Outcome} → Proves p z m w r m' w' → Stands (counters_of r) m' state
    proves_stands {r} h = says_stands (suc p.limit) (spelled (sequent m z)) 0 m' w' state outcome r (h.says memory k)

    -- a tree, by the words of its nodes
    pub proves_found : {end : ℕ} {c : Counters} → Asked p z m w → Proves p z m w (Found end c) m' w' → Carried z m' w' end c outcome state
    proves_found {end} {c} asked h = go outcome (h.says memory k)
      where
        tree_expands : (t : Tree) → Tells (suc p.limit) (spelled (sequent m z)) (slice 0 end w') (holds m') t → Expands 65 (sequent m' z) w' t (drop end w')
        tree_expands t x =
            let e : expand (suc p.limit) (sequent m z) w' ≡ some (t, drop end w') = ap (expand (suc p.limit) (sequent m z)) (sym (take-append-drop end w')) ∙ (tells_expands (sequent m z) x (drop end w')).expands in
            rw (sequent_later h.grew asked.zones) (expands_higher 65 (omega (arith, asked.shallow)) record { expands = e })

        go : (o : logic.Outcome) → Saying m' w' o (Found end c) → Carried z m' w' end c o state
        go (logic.found t) x = record { tree = t; found = refl; stands = x.0; expands = tree_expands t x.1; held = x.1.held }
        go logic.nothing x = absurd x
        go (logic.refused j) x = absurd x

    pub proves_nothing : {c : Counters} → Proves p z m w (Nothing c) m' w' → outcome ≡ logic.nothing
    proves_nothing {c} h = go outcome (h.says memory k)
      where
        go : (o : logic.Outcome) → Saying m' w' o (Nothing c) → o ≡ logic.nothing
        go (logic.found t) x = absurd x
        go logic.nothing x = refl
        go (logic.refused j) x = absurd x

    pub proves_refused : {r : Refusal} {c : Counters} → Proves p z m w (Refused r c) m' w' → RefusedAs r outcome
    proves_refused {r} {c} h = go outcome (h.says memory k)
      where
        go : (o : logic.Outcome) → Saying m' w' o (Refused r c) → RefusedAs r o
        go (logic.found t) x = absurd x
        go logic.nothing x = absurd x
        go (logic.refused j) x = record { refusal = j; refused = refl; number = x.1 }

-- a question whose formulas are entered is its sequent, proved over them
pub ask_proving : (p : Prover) (question : Question) (memory : Memory) → count (to_one_sided question) ≤ 31 → length (enter_question question memory.held) ≤ 2048
    → ask (as_stated p.cache p.budget) p.limit question memory ≡ proving p (to_one_sided question) record { held = enter_question question memory.held; failures = memory.failures }
unfolding ask prove when◌then◌else◌ exceeds
ask_proving p question memory short room = rw (le-ltb 31 (count (to_one_sided question)) short, le-ltb 2048 (length (enter_question question memory.held)) room)
