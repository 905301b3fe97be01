-- Laws of the steps of `prove`: a tree written or too long, a search's outcome, a question refused or searched. Assumes nothing.
use Rattle.std.specs.Prelude.{◌≡◌, refl, Bool, ℕ, ◌≤◌, leb, length, None, Option, Some}
use Rattle.std.proofs.Common.{sym, ◌∙◌, arith, leb-true, le-leb}
use Rattle.std.proofs.Math.Path.{ap, subst}
use Rattle.std.proofs.Math.Bool.{true, false, and-eq-true_iff}
use mathlib.Core.List.{List, ◌++◌}
use Rattle.std.proofs.Math.ListN.{drop}
use Rattle.logic.specs.Formula.{Formula}
use Rattle.logic.specs.Tree.{Tree, Trees, node, ∅, ◌▹◌}
use Rattle.logic.specs.Outcome.{Outcome, found, State, Memory}
use Rattle.wire.specs.Write.{write_node, write_tree}
use Rattle.wire.specs.Fits.{NodesFew, NodesFew*}
use Rattle.formula.specs.declared.Refusal as refusal
use Rattle.formula.specs.declared.Refusal.TheVariants.{OutputShort}
use Rattle.zones.specs.declared.Zones.{Zones}
use Rattle.question.proofs.TurningLaws.{front_stored}
use Rattle.expand.specs.Short.{expand}
use Rattle.expand.specs.InMemory.{InMemory, InMemory*}
use Rattle.expand.specs.Trees.{most_levels, OfTree, Fitting, Unfit, Answered}
use Rattle.failures.specs.AlikeLaws.{alike_self}
use Rattle.memory.specs.Meaning as memory
use Rattle.memory.specs.Meaning.{holds, held_count, failed, formula_words}
use Rattle.search.specs.declared.Prover.{Prover}
use Rattle.search.specs.declared.counters.Counters.{Counters}
use Rattle.search.specs.declared.Outcome as answer
use Rattle.search.specs.declared.Outcome.TheVariants as outcome
use Rattle.search.specs.Plans.{sequent}
use Rattle.search.specs.Contract as contract
use Rattle.search.specs.Asked.{proving, Remembers, Asked, Proves}
use Rattle.search.specs.AskedLaws.{stands_later, proves_stands, proves_found, proves_nothing, proves_refused}
use Rattle.prover.specs.declared.Answer.{Answer}
use Rattle.prover.specs.declared.Answer.TheVariants.{Found, Nothing, Refused}
use Rattle.prover.specs.Promise.{left_of, counters_of, writable, answered, output_after, Few, Settled}
use Rattle.prover.specs.Steps.{Writable, Wrote, Writes, Searches}

-- ---- a found tree

-- a tree whose sequents a memory names has few formulas in each
mutual
  unfolding InMemory InMemory*

  in_memory_few : (fs : List Formula) (t : Tree) → InMemory fs t → NodesFew t
  in_memory_few fs (node r q ts) h = (h.0.few, in_memory_few* fs ts h.1)

  in_memory_few* : (fs : List Formula) (ts : Trees) → InMemory* fs ts → NodesFew* ts
  in_memory_few* fs ∅ h = tt
  in_memory_few* fs (t ▹ ts) h = (in_memory_few fs t h.0, in_memory_few* fs ts h.1)

module _ (c : Counters) (out : List ℕ) (t : Tree) where
  answered_as : {b : Bool} → writable t out ≡ b → answered (found t) c out ≡ elim b as (λ _. Answer) [ true ↦ Found (length (write_tree t)) c | false ↦ Refused OutputShort c ]
  unfolding answered
  answered_as e = ap (λ b. elim b as (λ _. Answer) [ true ↦ Found (length (write_tree t)) c | false ↦ Refused OutputShort c ]) e

  output_as : {b : Bool} → writable t out ≡ b → output_after (found t) out ≡ elim b as (λ _. List ℕ) [ true ↦ write_tree t ++ drop (length (write_tree t)) out | false ↦ out ]
  unfolding output_after
  output_as e = ap (λ b. elim b as (λ _. List ℕ) [ true ↦ write_tree t ++ drop (length (write_tree t)) out | false ↦ out ]) e

  -- it was written
  wrote_bytes : (rest : List ℕ) {n : ℕ} {out' : List ℕ} → Fitting out out' n t → Wrote c out (Found n c) out' t rest
  wrote_bytes rest {n} {out'} h =
      let size : n ≡ length (write_tree t) = omega (arith, h.wrote.after) in
      let room : length (write_tree t) ≤ length out = omega (arith, h.room, size) in
      let fits : writable t out ≡ true = (and-eq-true_iff _ _).1 (le-leb (length (write_node t)) 65535 h.short, le-leb (length (write_tree t)) (length out) room) in
      record { answer_is = ap (λ k. Found k c) size ∙ sym (answered_as fits); output_is = h.wrote.written ∙ front_stored out (write_tree t) room ∙ sym (output_as fits) }

  -- it is too long
  wrote_none : (rest : List ℕ) {out' : List ℕ} → Unfit out out' t → Wrote c out (Refused OutputShort c) out' t rest
  wrote_none rest {out'} h = go (writable t out) refl
    where
      go : (b : Bool) → writable t out ≡ b → Wrote c out (Refused OutputShort c) out' t rest
      go true e = let both = (and-eq-true_iff (leb (length (write_node t)) 65535) (leb (length (write_tree t)) (length out))).0 e in absurd (h.long (leb-true _ _ both.0) (leb-true _ _ both.1))
      go false e = record { answer_is = sym (answered_as e); output_is = h.same ∙ sym (output_as e) }

-- by the writer's answer
module _ (m : List ℕ) {w : List ℕ} {z : Zones} (c : Counters) (out : List ℕ) {r : Option ℕ} {out' : List ℕ} (h : OfTree (formula_words m) w z most_levels 0 (Answered out out' r)) where
  pub writes_bytes : {n : ℕ} → r ≡ Some n → Writes m w z c out (Found n c) out'
  writes_bytes e = record { of_tree = λ t rest x. wrote_bytes c out t rest (subst (λ y. Answered out out' y t rest) e (h.of_tree t rest x)) }

  pub writes_none : r ≡ None → Writes m w z c out (Refused OutputShort c) out'
  writes_none e = record { of_tree = λ t rest x. wrote_none c out t rest (subst (λ y. Answered out out' y t rest) e (h.of_tree t rest x)) }

-- ---- a search

-- the counters stand for those of the state
stands_counters : {c : Counters} {m : List ℕ} {s : State} → contract.Stands c m s → c ≡ counters_of s
stands_counters h = rw (h.explored, h.hits, h.reached) refl

module _ (p : Prover) (z : Zones) (m w out : List ℕ) where
  -- what all outcomes share
  module _ (memory : Memory) (k : Remembers m memory) {r : answer.Outcome} {m' w' : List ℕ} (h : Proves p z m w r m' w') where
    abbrev o : Outcome
    o = (proving p (sequent m z) memory).0

    abbrev s : State
    s = (proving p (sequent m z) memory).1

    settles : {a : Answer} {out' : List ℕ} → a ≡ answered o (contract.counters_of r) out → out' ≡ output_after o out → Few o → Settled w out o s (left_of a m' w' out')
    settles e f few =
        let stands = proves_stands p z m memory k h in
        let counters = stands_counters stands in
        record {
          answer_is = e ∙ ap (λ c. answered o c out) counters;
          output_is = f;
          memory_formed = h.wf;
          formulas_are = sym stands.held;
          failures_are = stands.failures;
          work_length = h.size;
          work_beyond = λ i l. h.beyond i (subst (λ c. c.explored ≤ i) (sym counters) l);
          few = few;
        }

  -- by the search's answer
  module _ {r : answer.Outcome} {m' w' : List ℕ} (h : Proves p z m w r m' w') where
    pub searches_nothing : {c : Counters} → r ≡ outcome.Nothing c → Searches p z m w out (left_of (Nothing c) m' w' out)
    unfolding answered output_after
    searches_nothing {c} is =
        let h = subst (λ x. Proves p z m w x m' w') is h in
        record { settled = λ memory k. let e = proves_nothing p z m memory k h in settles memory k h (rw e refl) (rw e refl) (rw e tt) }

    pub searches_refused : {why : refusal.Refusal} {c : Counters} → r ≡ outcome.Refused why c → Searches p z m w out (left_of (Refused why c) m' w' out)
    unfolding answered output_after
    searches_refused {why} {c} is =
        let h = subst (λ x. Proves p z m w x m' w') is h in
        record { settled = λ memory k. let e = proves_refused p z m memory k h in settles memory k h (ap (λ x. Refused x c) e.number ∙ rw e.refused refl) (rw e.refused refl) (rw e.refused tt) }

    module _ (asked : Asked p z m w) {end : ℕ} {c : Counters} (is : r ≡ outcome.Found end c) where
      abbrev found_as : Proves p z m w (outcome.Found end c) m' w'
      found_as = subst (λ x. Proves p z m w x m' w') is h

      -- what the writer asks
      pub searches_writable : Writable m' w' z
      unfolding expand memory.told holds held_count
      searches_writable =
          let before : Memory = record { held = holds m; failures = failed m } in
          let e = proves_found p z m before record { held = refl; failures = alike_self (failed m) } asked found_as in
          let stands = stands_later h.grew asked.zones in
          record {
            sound = record { wf = h.wf.formulas; fits = stands.fits; within = stands.within };
            tree = e.tree;
            rest = _;
            expands = e.expands.expands;
            held = e.held;
          }

      pub searches_found : {a : Answer} {out' : List ℕ} → Writes m' w' z c out a out' → Searches p z m w out (left_of a m' w' out')
      unfolding expand memory.told
      searches_found x = record {
        settled = λ memory k.
            let e = proves_found p z m memory k asked found_as in
            let y = x.of_tree e.tree _ e.expands.expands in
            settles memory k found_as (y.answer_is ∙ rw e.found refl) (y.output_is ∙ rw e.found refl) (rw e.found (in_memory_few (holds m') e.tree e.held));
      }
