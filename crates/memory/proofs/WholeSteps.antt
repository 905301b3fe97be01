-- Steps of the whole memory's test and reset: what the two parts tell, the whole tells. Assumes nothing.
use mathlib.Core.Path.{◌≡◌, refl, sym, ap, ap₂, ◌∙◌}
use mathlib.Core.Bool.{Bool, true, false}
use mathlib.Core.List.{List, [], ◌++◌}
use Prim.Native.Nat.{ℕ, ◌-◌, ◌≤◌}
use native.Mathlib.Omega.{arith}
use lib.ListN.{length, take, drop, length-append, length-drop}
use lib.Seq.{length-take-le}
use Rattle.held.specs.Answers as held_answers
use Rattle.held.specs.Answers.{Tells}
use Rattle.held.specs.Words as formulas
use Rattle.failures.specs.Failed as failures
use Rattle.failures.specs.FailedLaws.{failed_none}
use Rattle.failures.specs.Records as records
use Rattle.failures.specs.RecordsLaws.{reset_wf}
use Rattle.memory.specs.Meaning.{words, formula_words, failure_words, holds, failed, Wf, Emptied, ResetTo}
use Rattle.memory.specs.PartsLaws.{Parts, back_lent, front_changed, back_changed}

-- the failures' words, as they are lent and as they are put back
abbrev pub lent : List ℕ → List ℕ
lent m = take (length m - 12289) (failure_words m)

abbrev pub put : List ℕ → List ℕ → List ℕ
put m g = formula_words m ++ (g ++ drop (length m - 12289) (failure_words m))

-- the formulas' words of as many words as there must be
pub front_length : (m : List ℕ) → 12289 ≤ length m → 12289 ≡ length (formula_words m)
front_length m l = sym (length-take-le 12289 m l)

-- where the formulas are well-formed, the failures tell whether the whole is
pub wf_tells :
    (m : List ℕ) (r : Bool) → formulas.Wf (formula_words m) → Tells r (records.WfFailures (formula_words m) (lent m)) → Tells r (Wf m)
wf_tells m true z t = record { formulas = z; failures = rw (back_lent 12289 m) at t }
wf_tells m false z t = λ w. t (rw (back_lent 12289 m) w.failures)

-- a memory by its parts
pub parts_wf : {m f g : List ℕ} → Parts 12289 m f g → formulas.Wf f → records.WfFailures f g → Wf m
parts_wf p z w = record { formulas = rw p.front z; failures = rw (p.front, p.back) w }

pub parts_holds : {m f g : List ℕ} → Parts 12289 m f g → holds m ≡ formulas.view f
unfolding holds
parts_holds p = ap formulas.view p.front

pub parts_failed : {m f g : List ℕ} → Parts 12289 m f g → failed m ≡ failures.failed (formulas.told f) g
unfolding failed
parts_failed p = ap₂ (λ f g. failures.failed (formulas.told f) g) p.front p.back

-- the formulas' words reset, and then the failures' words
module _ (m f g : List ℕ) (long : length m ≡ words) where
  abbrev after : List ℕ
  after = f ++ failure_words m

  module _ (z : formulas.Wf f × (formulas.view f ≡ [])) where
    front_reset : Parts 12289 after f (failure_words m)
    front_reset = front_changed 12289 m f z.0.sized

    after_length : length after ≡ words
    after_length = length-append f (failure_words m) ∙ omega (arith, z.0.sized, length-drop 12289 m)

    lent_length : length (lent after) ≡ records.words
    lent_length = ap length (back_lent 12289 after) ∙ length-drop 12289 after ∙ omega (arith, after_length)

    both_reset : (length g ≡ records.words) × formulas.Zeros g 0 records.words → Emptied (put after g)
    both_reset w =
        let p = back_changed 12289 after g (omega (arith, after_length)) in
        let q : Parts 12289 (put after g) f g = record { front = p.front ∙ front_reset.front; back = p.back } in
        record { wf = parts_wf q z.0 (reset_wf f w.0 w.1); no_formula = parts_holds q ∙ z.1; no_failure = parts_failed q ∙ failed_none (formulas.told f) w.1 }

  pub reset_whole : (r s : Bool) → held_answers.ResetTo (formula_words m) r f → records.ResetTo (lent after) s g → ResetTo m 0 (put after g)
  reset_whole true true z w = record { done = λ _. (refl, both_reset z w); refused = λ h. absurd (h long) }
  reset_whole true false z w = absurd (w.1 (lent_length z))
  reset_whole false s z w = absurd (z.1 (sym (front_length m (omega arith))))
