-- Laws of `prove` itself, one a way out: settings that do not fit, a memory that is not well-formed, a question refused, a question searched. Assumes nothing.
use Rattle.std.proofs.Math.Path.{◌≡◌, refl, sym, ap}
use Rattle.std.proofs.Common.{subst, ◌∙◌, arith, ltb-true, lt-ltb, le-ltb}
use Rattle.std.specs.Prelude.{Bool, Err, Ok, Result, ℕ, ◌≤◌, ◌<◌}
use Rattle.std.proofs.Math.Bool.{true, false}
use mathlib.Core.List.{List, []}
use Rattle.std.proofs.Math.Dec.{ltb}
use Rattle.std.proofs.Math.ListN.{length}
use Rattle.logic.specs.Sequent.{Question, count, to_one_sided}
use Rattle.logic.specs.Answer as answer
use Rattle.logic.specs.Held.{enter_question}
use Rattle.logic.specs.Limits.{exceeds}
use Rattle.logic.specs.Outcome.{refused, start, when◌then◌else◌, Memory}
use Rattle.logic.specs.Search.{ask}
use Rattle.wire.specs.Read as wire
use Rattle.wire.specs.Fits.{Bytes}
use Rattle.wire.proofs.QuestionBytes.{write_read_question}
use Rattle.formula.specs.Answers.{coded}
use Rattle.formula.specs.declared.Refusal.{Refusal}
use Rattle.formula.specs.declared.Refusal.TheVariants.{HeldFull, WrongSetting, WrongMemory}
use Rattle.zones.specs.declared.Zones.{Zones}
use Rattle.question.specs.Answers.{turned}
use Rattle.question.proofs.OneSidedLaws.{turned_fits}
use Rattle.failures.specs.AlikeLaws.{alike_self, alike_of}
use Rattle.memory.specs.Meaning as memory
use Rattle.memory.specs.Meaning.{Wf, holds, held_count, failed}
use Rattle.memory.specs.MeaningLaws.{holds_length}
use Rattle.ask.specs.Reading.{answer_of, reading_of, Taken, TakenOr, ReadInto}
use Rattle.search.specs.declared.Prover.{Prover}
use Rattle.search.specs.Plans.{sequent}
use Rattle.search.specs.Asked.{proving, Asked}
use Rattle.search.specs.AskedLaws.{ask_proving}
use Rattle.prover.specs.declared.Answer.{Answer}
use Rattle.prover.specs.declared.Answer.TheVariants.{Refused}
use Rattle.prover.specs.Promise.{Call, Left, left_of, SettingsFit, zeroes, meaning, searched, answered, output_after, Searched, Promise, settings_refused, memory_refused, question_refused, question_searched}
use Rattle.prover.specs.Steps.{Searches}

-- a question that was read has at most 31 formulas, one-sided too, and nothing is left over
module _ {s : List ℕ} (bytes : Bytes s) {q : Question} {rest : List ℕ} (e : wire.read_question s ≡ wire.got q rest) where
  question_few : count (to_one_sided q) ≤ 31
  unfolding turned
  question_few = (turned_fits q (write_read_question s q rest bytes e).fits).zones_fit.few_formulas

  question_whole : wire.read_question s ≡ wire.got q []
  question_whole = e ∙ ap (λ bs. wire.got q bs) (write_read_question s q rest bytes e).none_left

-- with no room for its formulas it is refused, and nothing has changed
searched_over : (call : Call) (q : Question) → count (to_one_sided q) ≤ 31 → 2048 < length (enter_question q (holds call.memory)) → searched call q ≡ (refused answer.held_full, start (meaning call.memory))
unfolding ask exceeds when◌then◌else◌
searched_over call q few h = rw (le-ltb 31 (count (to_one_sided q)) few, lt-ltb 2048 (length (enter_question q (holds call.memory))) h) refl

-- all is as it was
abbrev as_before : Call → Answer → Left
as_before call r = left_of r call.memory call.work call.output

module _ (call : Call) {r : Answer} where
  pub settings_out : (SettingsFit call → ⊥) → r ≡ Refused WrongSetting zeroes → Promise call (as_before call r)
  unfolding coded
  settings_out n e = settings_refused n (rw e refl)

  module _ (f : SettingsFit call) where
    pub memory_out : (Wf call.memory → ⊥) → r ≡ Refused WrongMemory zeroes → Promise call (as_before call r)
    unfolding coded
    memory_out n e = memory_refused f n (rw e refl)

    module _ (w : Wf call.memory) (bytes : Bytes call.question) {why : Refusal} (e : r ≡ Refused why zeroes) where
      no_room : (q : Question) (rest : List ℕ) → wire.read_question call.question ≡ wire.got q rest → 2048 < length (enter_question q (holds call.memory)) → why ≡ HeldFull → Promise call (as_before call r)
      unfolding answered output_after coded
      no_room q rest h over full =
          question_searched f w q (question_whole bytes h)
          (subst (λ x. Searched call x (as_before call r)) (sym (searched_over call q (question_few bytes h) over)) record {
            answer_is = e ∙ ap (λ k. Refused k zeroes) full;
            output_is = refl;
            memory_formed = w;
            formulas_are = refl;
            failures_are = alike_self _;
            work_length = refl;
            work_beyond = λ i l. refl;
            few = tt;
          })

      by_answer : Err why ≡ answer_of (holds call.memory) (wire.read_question call.question) → Promise call (as_before call r)
      unfolding answer_of exceeds
      by_answer h = go (wire.read_question call.question) refl h
        where
          full : (q : Question) (rest : List ℕ) → wire.read_question call.question ≡ wire.got q rest → (b : Bool) → ltb 2048 (length (enter_question q (holds call.memory))) ≡ b → Err why ≡ elim b as (λ _. Result (Unit {0}) Refusal) [ true ↦ Err HeldFull | false ↦ Ok tt ] → Promise call (as_before call r)
          full q rest m true b h = no_room q rest m (ltb-true _ _ b) cc
          full q rest m false b h = let z : ◌≡◌ {A = ℕ} 0 1 = cc in absurd (omega arith)

          go : (m : wire.Read Question) → wire.read_question call.question ≡ m → Err why ≡ answer_of (holds call.memory) m → Promise call (as_before call r)
          go (wire.refused k) m h = question_refused f w k m (rw e (ap (λ x. left_of (Refused x zeroes) call.memory call.work call.output) (let same : why ≡ coded k = cc in same)))
          go (wire.got q rest) m h = full q rest m _ refl h

      -- by the answer of reading
      pub question_out : {x : Result Zones Refusal} {m : List ℕ} → ReadInto call.memory call.question x m → x ≡ Err why → Promise call (left_of r m call.work call.output)
      question_out {x} {m} h is =
          let same : m ≡ call.memory = subst (λ y. TakenOr y call.memory call.question m) is h.after in
          subst (λ y. Promise call (left_of r y call.work call.output)) (sym same) (by_answer (sym (ap reading_of is) ∙ h.answer))

pub read_taken : {m s m' : List ℕ} {x : Result Zones Refusal} {z : Zones} → ReadInto m s x m' → x ≡ Ok z → Taken m s z m'
read_taken {m} {s} {m'} h is = subst (λ y. TakenOr y m s m') is h.after

-- a question searched
module _ (call : Call) (f : SettingsFit call) (w : Wf call.memory) (bytes : Bytes call.question) {z : Zones} {m : List ℕ} (t : Taken call.memory call.question z m) where
  abbrev prover : Prover
  prover = record { limit = call.limit; budget = call.budget; cache = call.cache }

  pub search_asked : Asked prover z m call.work
  search_asked = record { zones = t.stands; wf = t.wf; shallow = f.depth_fits; small = f.budget_fits; room = f.work_fits }

  -- the memory that the search starts from
  abbrev entered : Memory
  entered = record { held = enter_question t.question (holds call.memory); failures = failed call.memory }

  entered_fits : length (enter_question t.question (holds call.memory)) ≤ 2048
  unfolding held_count
  entered_fits = omega (arith, t.wf.formulas.few, ap length t.all, holds_length m)

  proving_is : proving prover (sequent m z) entered ≡ searched call t.question
  unfolding memory.told
  proving_is = ap (λ q. proving prover q entered) t.means ∙ sym (ask_proving prover t.question (meaning call.memory) (question_few bytes t.read) entered_fits)

  pub search_out : {left : Left} → Searches prover z m call.work call.output left → Promise call left
  search_out {left} h =
      question_searched f w t.question t.read
      (subst (λ x. Searched call x left) proving_is (h.settled entered record { held = sym t.all; failures = alike_of t.failures }))
