-- Laws of reading a question into the whole memory: what is entered into the words of formulas leaves the failures their meaning, and the ways of `read_into` answer as it promises.
-- Assumes nothing.
use Rattle.std.specs.Prelude.{◌≡◌, refl, List, [], ◌++◌, ℕ, ◌≤◌, ◌<◌}
use Rattle.std.proofs.Math.Path.{ap}
use Rattle.std.proofs.Common.{◌∙◌, arith, lt-ltb, le-ltb}
use Rattle.std.proofs.Math.ListN.{length, take-append-drop}
use Rattle.logic.specs.Formula.{Formula}
use Rattle.logic.specs.Sequent.{Question}
use Rattle.logic.specs.Held.{enter_question}
use Rattle.logic.specs.Limits.{exceeds}
use Rattle.wire.specs.Read as wire
use Rattle.wire.specs.Read.{got, refused, read_question}
use Rattle.wire.specs.Fits.{Bytes}
use Rattle.formula.specs.Answers.{coded}
use Rattle.formula.specs.declared.Refusal.{Refusal}
use Rattle.formula.specs.declared.Refusal.TheVariants.{HeldFull}
use Rattle.question.specs.Answers.{answered}
use Rattle.question.specs.FoundLaws.{found}
use Rattle.question.specs.declared.Places.{Places}
use Rattle.held.specs.Words as formulas
use Rattle.held.specs.Words.{most}
use Rattle.held.specs.WordsLaws.{held_length}
use Rattle.failures.specs.RecordsLaws.{failures_grow}
use Rattle.failures.specs.FailedLaws.{failed_grows}
use Rattle.std.specs.Option.{ok_or}
use Rattle.std.specs.Prelude.{Err, None, Ok, Option, Some}
use Rattle.zones.specs.declared.Zones.{Zones}
use Rattle.zones.specs.Zones.{meant}
use Rattle.memory.specs.Meaning.{Wf, formula_words, failure_words, holds, held_count, told, failed}
use Rattle.memory.specs.MeaningLaws.{extends_grew}
use Rattle.memory.specs.PartsLaws.{front_changed}
use Rattle.ask.specs.Asking.{Askable, Held, NoRoom, AskedTo}
use Rattle.ask.specs.Reading.{answer_of, Extended, ReadInto}

-- ---- the words of formulas changed, and those of the failures not

pub extended : {m w : List ℕ} → Wf m → formulas.Wf w → formulas.Extends (formula_words m) w → Extended m w (w ++ failure_words m)
unfolding failed
extended {m} {w} z zw grew =
    let p = front_changed 12289 m w zw.sized in
    record {
      wf = record { formulas = rw p.front zw; failures = rw (p.front, p.back) (failures_grow grew z.failures) };
      front = p.front;
      grew = extends_grew m (w ++ failure_words m) (rw p.front grew);
      failures = rw (p.front, p.back) (failed_grows grew z.failures);
    }

-- ---- the ways of `read_into`

-- what was read can be entered
pub askable : {m s : List ℕ} {p : Places} → Wf m → Bytes s → Ok p ≡ answered (read_question s) → Askable (formula_words m) s p
askable {m} {s} z bytes e = let x = found s bytes e in record { wf = z.formulas; question = x.0; found = x.1 }

-- reading's refusal
answer_refused : (fs : List Formula) (x : wire.Read Question) (why : Refusal) → Err why ≡ answered x → Err why ≡ answer_of fs x
unfolding answered answer_of
answer_refused fs (got q rest) why e = absurd cc
answer_refused fs (refused k) why e = let same : why ≡ coded k = cc in ap Err same

pub read_refused : (m s : List ℕ) (why : Refusal) → Err why ≡ answered (read_question s) → ReadInto m s (Err why) m
read_refused m s why e = record { answer = answer_refused (holds m) (read_question s) why e; after = refl }

-- refusal 7, and the sequent
answer_over : (fs : List Formula) (q : Question) → most < length (enter_question q fs) → Err HeldFull ≡ answer_of fs (got q [])
unfolding answer_of exceeds
answer_over fs q l = rw (lt-ltb most (length (enter_question q fs)) l, answer_of)

answer_held : (fs : List Formula) (q : Question) → length (enter_question q fs) ≤ most → Ok tt ≡ answer_of fs (got q [])
unfolding answer_of exceeds
answer_held fs q l = rw (le-ltb most (length (enter_question q fs)) l, answer_of)

module _ {m s : List ℕ} {p : Places} (z : Wf m) (x : Askable (formula_words m) s p) (w : List ℕ) where
  pub read_over : AskedTo (formula_words m) s None w → ReadInto m s (Err HeldFull) (w ++ failure_words m)
  unfolding holds
  read_over y =
      let n : NoRoom (formula_words m) x.question w = y x.question x.found.read in
      let same : w ++ failure_words m ≡ m = ap (λ f. f ++ failure_words m) n.same ∙ take-append-drop 12289 m in
      record { answer = rw x.found.read (answer_over (holds m) x.question n.over); after = same }

  pub read_held : (a : Zones) → AskedTo (formula_words m) s (Some a) w → ReadInto m s (Ok a) (w ++ failure_words m)
  unfolding holds held_count told
  read_held a y =
      let h : Held (formula_words m) x.question a w = y x.question x.found.read in
      let e = extended z h.wf h.grew in
      let long : length (enter_question x.question (holds m)) ≤ most = omega (arith, ap length h.all, held_length w (formulas.count w), h.wf.few) in
      record {
        answer = rw x.found.read (answer_held (holds m) x.question long);
        after = record {
          question = x.question;
          read = x.found.read;
          wf = e.wf;
          grew = e.grew;
          all = rw e.front h.all;
          failures = e.failures;
          stands = record { fits = h.fits; within = rw e.front h.within };
          means = ap (λ f. meant (formulas.told f) a) e.front ∙ h.means;
        };
      }

  -- what was entered, or 7
  pub read_entered : (a : Option Zones) → AskedTo (formula_words m) s a w → ReadInto m s (ok_or a HeldFull) (w ++ failure_words m)
  read_entered None y = read_over y
  read_entered (Some a) y = read_held a y
