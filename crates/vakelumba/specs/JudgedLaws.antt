-- Laws of what the verifier's call at the boundary says: each verdict as a number and a fault, and that no second result meets the promise. Assumes nothing.
use Rattle.std.specs.Prelude.{◌≡◌, Bool, true, false, Result, Ok, Err, ℕ}
use Rattle.std.proofs.Math.Path.{sym, ap}
use Rattle.std.proofs.Common.{◌∙◌}
use Rattle.logic.specs.Tree.{Tree}
use Rattle.logic.specs.Verify.{shape_at}
use Rattle.logic.specs.Strict.{strict_fault}
use Rattle.wire.specs.Read.{Read}
use Rattle.formula.specs.Answers.{number_of}
use Rattle.formula.specs.declared.Refusal.{Refusal}
use Rattle.verify.specs.Verdicts.{checked, answer_number}
use Rattle.verify.specs.Walks.{mode_test}
use Rattle.verify.specs.declared.Rejected.{Rejected}
use Rattle.verify.specs.declared.Rejected.TheVariants.{Refused, Invalid, WrongCount, Mismatch}
use Rattle.vakelumba.specs.declared.verdict.Fault.{Fault}
use Rattle.vakelumba.specs.declared.verdict.Verdict.{Verdict}
use Rattle.vakelumba.specs.Judged.{fault_at, fault_of, verdict, JudgedSaid}

-- a record with this number and this fault
abbrev pub Holds : Verdict → ℕ → Fault → Type 0
Holds d n f = (d.number ≡ n) × (d.fault ≡ f)

-- it is the verdict's, where the two are
verdict_is : (v : Result (Unit {0}) Rejected) {d : Verdict} {n : ℕ} {f : Fault} → Holds d n f → n ≡ answer_number v → f ≡ fault_of v → d ≡ verdict v
verdict_is v h e g = λ i. record { number = (h.0 ∙ e) i; fault = (h.1 ∙ g) i }

module _ {d : Verdict} (v : Result (Unit {0}) Rejected) where
  pub accepted_is : v ≡ Ok tt → Holds d 0 (fault_at 0 0 0 0 0) → d ≡ verdict v
  unfolding answer_number fault_of
  accepted_is e h = verdict_is v h (sym (ap answer_number e)) (sym (ap fault_of e))

  pub refused_is : {k : Refusal} {n : ℕ} → v ≡ Err (Refused k) → n ≡ number_of k → Holds d n (fault_at 0 0 0 0 0) → d ≡ verdict v
  unfolding answer_number fault_of
  refused_is e m h = verdict_is v h (m ∙ sym (ap answer_number e)) (sym (ap fault_of e))

  module _ {r n w : ℕ} where
    pub invalid_is : v ≡ Err (Invalid r n w) → Holds d 13 (fault_at r n w 0 0) → d ≡ verdict v
    unfolding answer_number fault_of
    invalid_is e h = verdict_is v h (sym (ap answer_number e)) (sym (ap fault_of e))

    pub count_is : {expected given : ℕ} → v ≡ Err (WrongCount r n w expected given) → Holds d 14 (fault_at r n w expected given) → d ≡ verdict v
    unfolding answer_number fault_of
    count_is e h = verdict_is v h (sym (ap answer_number e)) (sym (ap fault_of e))

    pub mismatch_is : v ≡ Err (Mismatch r n w) → Holds d 15 (fault_at r n w 0 0) → d ≡ verdict v
    unfolding answer_number fault_of
    mismatch_is e h = verdict_is v h (sym (ap answer_number e)) (sym (ap fault_of e))

-- ---- each mode

module _ (x : Read Tree) {t : Bool} {v : Result (Unit {0}) Rejected} {d : Verdict} where
  pub judged_strict : t ≡ true → v ≡ checked strict_fault x → d ≡ verdict v → d ≡ verdict (checked (mode_test t) x)
  unfolding mode_test
  judged_strict m e h = h ∙ ap verdict (e ∙ ap (λ (b : Bool). checked (mode_test b) x) (sym m))

  pub judged_shape : t ≡ false → v ≡ checked shape_at x → d ≡ verdict v → d ≡ verdict (checked (mode_test t) x)
  unfolding mode_test
  judged_shape m e h = h ∙ ap verdict (e ∙ ap (λ (b : Bool). checked (mode_test b) x) (sym m))

-- no second result meets the promise
pub judged_once : {v : Result (Unit {0}) Rejected} {r r' : ℕ} {f f' : Fault} → JudgedSaid v r f → JudgedSaid v r' f' → (r ≡ r') × (f ≡ f')
judged_once x y = (x.number_is ∙ sym y.number_is, x.fault_is ∙ sym y.fault_is)
