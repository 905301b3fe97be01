-- Laws of both calls, over their form and one a way out: a memory that is not well-formed, a question that is refused, and one that is entered into the
-- front of the memory. Assumes nothing.
use Rattle.std.proofs.Math.Path.{◌≡◌, refl, ap}
use Rattle.std.proofs.Common.{◌∙◌, arith, take-append-drop}
use mathlib.Core.List.{List, [], ◌++◌}
use Rattle.std.specs.Prelude.{ℕ, Err, Ok}
use Rattle.logic.specs.Sequent.{Question}
use Rattle.logic.specs.Answer as answer
use Rattle.wire.specs.Read as wire
use Rattle.wire.specs.Fits.{Bytes}
use Rattle.formula.specs.Answers.{coded}
use Rattle.formula.specs.declared.Refusal.{Refusal}
use Rattle.formula.specs.declared.Refusal.TheVariants.{WrongMemory}
use Rattle.question.specs.Answers.{answered}
use Rattle.question.specs.declared.Places.{Places}
use Rattle.held.specs.Words as formulas
use Rattle.memory.specs.Meaning.{Wf, formula_words, failure_words, holds}
use Rattle.ask.specs.ReadingLaws.{extended, askable}
use Rattle.short_trees.specs.Promise.{Form, Call, left_of, Promise, memory_refused, question_refused, question_over, message_refused, message_taken}
use Rattle.short_trees.specs.Steps.{Enterable, Back, Entered, over, unread, taken, EnteredAs}
use Rattle.short_trees.specs.Promise.{Answer}
use Rattle.short_trees.specs.declared.Failure.TheVariants.{Refused}

module _ {A B : Type 0} (form : Form A B) (call : Call) where
  pub memory_out : (Wf call.memory → ⊥) → Promise form call (left_of (Err (Refused WrongMemory)) call.memory call.output)
  unfolding coded
  memory_out n = memory_refused n refl

  module _ (w : Wf call.memory) where
    pub question_out : {why : Refusal} → Err why ≡ answered (wire.read_question call.question)
        → Promise form call (left_of (Err (Refused why)) call.memory call.output)
    unfolding answered
    question_out {why} e = go (wire.read_question call.question) refl e
      where
        go : (m : wire.Read Question) → wire.read_question call.question ≡ m → Err why ≡ answered m
            → Promise form call (left_of (Err (Refused why)) call.memory call.output)
        go (wire.got q rest) m e = let z : ◌≡◌ {A = ℕ} 1 0 = cc in absurd (omega arith)
        go (wire.refused k) m e =
            let same : why ≡ coded k = cc in
            question_refused w k m (ap (λ (c : Refusal). left_of (Err (Refused c)) call.memory call.output) same)

    module _ (bytes : Bytes call.question) {p : Places} (e : Ok p ≡ answered (wire.read_question call.question)) where
      -- what is asked of the words of formulas
      pub call_enterable : Bytes call.message → Enterable form (formula_words call.memory) call.question p call.message
      call_enterable b = record { askable = askable w bytes e; bytes = b }

      module _ {r : Answer} {v out : List ℕ}
          (x : EnteredAs form (formula_words call.memory) call.question call.message call.output r v out) where
        abbrev q : Question
        q = (askable w bytes e).question

        read : wire.read_question call.question ≡ wire.got q []
        read = (askable w bytes e).found.read

        -- nothing has changed
        as_before : (k : answer.Refusal) → Back form k (formula_words call.memory) call.output r v out
            → left_of r (v ++ failure_words call.memory) out ≡ left_of (Err (Refused (coded k))) call.memory call.output
        as_before k b =
            let same : v ++ failure_words call.memory ≡ call.memory =
            ap (λ (f : List ℕ). f ++ failure_words call.memory) b.memory_is ∙ take-append-drop 12289 call.memory
            in
            rw (b.answer_is, same, b.output_is) refl

        pub entered_out : Promise form call (left_of r (v ++ failure_words call.memory) out)
        unfolding holds
        entered_out = go (x.is q read)
          where
            go : Entered form (formula_words call.memory) q call.message call.output r v out → Promise form call (left_of r (v ++ failure_words call.memory) out)
            go (over long b) = question_over w q read long (as_before answer.held_full b)
            go (unread short k h b) = message_refused w q read short k h (as_before k b)
            go (taken short formed grew a h d) =
                let y = extended w formed grew in
                message_taken w q read short a h record {
                  answer_is = d.answer_is;
                  output_is = d.output_is;
                  memory_formed = y.wf;
                  formulas_are = ap (λ (f : List ℕ). formulas.view f) y.front ∙ d.held_is;
                  failures_are = y.failures;
                }
