-- The words are settled by what they say, and each call's answer and words by what it promises: no second result meets the promise. Assumes nothing.
use Rattle.std.specs.Prelude.{◌≡◌, refl, Bool, true, false, List, map, get_or, None, Option, Some}
use Rattle.std.proofs.Math.Path.{sym, ap}
use Rattle.std.proofs.Common.{subst, ◌∙◌, arith, get_or-take, get_or-drop}
use Rattle.std.proofs.Math.Logic.{⊎_elim}
use Rattle.std.proofs.lemmas.Bool.{false≢true}
use Prim.Native.Nat.{ℕ, zero, suc, ◌+◌, ◌-◌, ◌≤◌, ◌<◌}
use Rattle.std.proofs.Math.ListN.{length}
use Rattle.logic.specs.Formula.{Formula}
use Rattle.logic.specs.Key.{Key}
use Rattle.logic.proofs.SameLaws.{same_sym, same_trans}
use Rattle.held.specs.Answers.{Tells}
use Rattle.held.specs.OrderLaws.{le_or_lt, eq_or_not}
use Rattle.held.specs.Words as formulas
use Rattle.held.specs.WordsLaws as formula_laws
use Rattle.failures.specs.Alike.{Alike}
use Rattle.failures.specs.AlikeLaws.{alike_of, alike_trans, alike_snoc}
use Rattle.failures.specs.Failed as failures
use Rattle.failures.specs.FailedLaws as failure_laws
use Rattle.failures.specs.Items.{key_of}
use Rattle.failures.specs.Records.{tally, records}
use Rattle.memory.specs.Meaning.{words, formula_words, failure_words, holds, held_count, told, failed, Wf, Emptied, ResetTo}
use Rattle.memory.specs.MeaningLaws.{holds_length}
use Rattle.memory.specs.PartsLaws.{parts_once}
use Rattle.memory.specs.Shapes.{Spelled, SpelledOr, Filed, was_known, is_new, Recorded, NoPlace, RecordedOr}

-- one state, one image: two well-formed memories with the same formulas, and failures that no look-up tells apart, are the same words
module _ (m m' : List ℕ) (z : Wf m) (z' : Wf m') (e : holds m ≡ holds m') where
  same_formulas : formula_words m ≡ formula_words m'
  unfolding holds
  same_formulas = formula_laws.image_once (formula_words m) (formula_words m') z.formulas z'.formulas e

  pub image_once : Alike (failed m) (failed m') → m ≡ m'
  unfolding failed
  image_once a =
      parts_once 12289 m m' same_formulas
      (failure_laws.image_once z.formulas z.failures (rw same_formulas z'.failures)
      (subst (λ f. Alike (failures.failed (formulas.told (formula_words m)) (failure_words m)) (failures.failed (formulas.told f) (failure_words m'))) (sym same_formulas) a))

  -- the same with the failures as lists of items
  pub items_once : records (failure_words m) ≡ records (failure_words m') → m ≡ m'
  unfolding failed
  items_once q = image_once (alike_of (ap (λ f. failures.failed (formulas.told f) (failure_words m)) same_formulas ∙ ap (map (key_of (formulas.told (formula_words m')))) q))

-- a test
pub tells_once : (P : Type 0) (r s : Bool) → Tells r P → Tells s P → r ≡ s
tells_once P true true t u = refl
tells_once P true false t u = absurd (u t)
tells_once P false true t u = absurd (t u)
tells_once P false false t u = refl

-- where nothing is held, every word is zero
module _ (m : List ℕ) (z : Emptied m) where
  no_formulas : held_count m ≡ 0
  no_formulas = sym (holds_length m) ∙ ap length z.no_formula

  no_failures : tally (failure_words m) ≡ 0
  unfolding failed
  no_failures = sym (failure_laws.failed_length (formulas.told (formula_words m)) (failure_words m)) ∙ ap length z.no_failure

  formula_zero : (k : ℕ) → k < 12289 → get_or (formula_words m) k 0 ≡ 0
  unfolding held_count
  formula_zero zero l = no_formulas
  formula_zero (suc k) l = ⊎_elim (λ h. z.wf.formulas.unused.zero (suc k) (omega (arith, no_formulas)) l) (λ h. z.wf.formulas.rest.zero (suc k) (omega (arith, no_formulas)) h) (le_or_lt 10241 (suc k))

  failure_zero : (k : ℕ) → k < 33001 → get_or (failure_words m) k 0 ≡ 0
  failure_zero zero l = no_failures
  failure_zero (suc k) l = ⊎_elim (λ h. z.wf.failures.unused.zero (suc k) (omega (arith, no_failures)) l) (λ h. z.wf.failures.rest.zero (suc k) (omega (arith, no_failures)) h) (le_or_lt 32001 (suc k))

  pub emptied_zero : (k : ℕ) → k < words → get_or m k 0 ≡ 0
  emptied_zero k l = ⊎_elim back front (le_or_lt 12289 k)
    where
      front : k < 12289 → get_or m k 0 ≡ 0
      front h = sym (get_or-take 12289 m k 0 h) ∙ formula_zero k h

      back : 12289 ≤ k → get_or m k 0 ≡ 0
      back h =
          let e : 12289 + (k - 12289) ≡ k = omega arith in
          rw (← e) (sym (get_or-drop 12289 m (k - 12289) 0) ∙ failure_zero (k - 12289) (omega arith))

-- `reset`
pub reset_once : (m m' m'' : List ℕ) (r s : ℕ) → ResetTo m r m' → ResetTo m s m'' → (r ≡ s) × (m' ≡ m'')
reset_once m m' m'' r s a b = ⊎_elim done refused (eq_or_not (length m) words)
  where
    done : length m ≡ words → (r ≡ s) × (m' ≡ m'')
    done e =
        let x = a.done e in
        let y = b.done e in
        (x.0 ∙ sym y.0, image_once m' m'' x.1.wf y.1.wf (x.1.no_formula ∙ sym y.1.no_formula) (alike_of (x.1.no_failure ∙ sym y.1.no_failure)))

    refused : (length m ≡ words → ⊥) → (r ≡ s) × (m' ≡ m'')
    refused h = let x = a.refused h in let y = b.refused h in (x.0 ∙ sym y.0, x.1 ∙ sym y.1)

-- an implication spelled out
module _ (m : List ℕ) (f : Formula) (m' m'' : List ℕ) where
  spelled_words : (i j : ℕ) → Spelled m f i m' → Spelled m f j m'' → m' ≡ m''
  spelled_words i j a b = image_once m' m'' a.wf b.wf (a.all ∙ sym b.all) (alike_of (a.failures ∙ sym b.failures))

  spelled_number : (i j : ℕ) → Spelled m f i m' → Spelled m f j m'' → i ≡ j
  unfolding told held_count
  spelled_number i j a b =
      let e = sym (spelled_words i j a b) in
      (formula_laws.number_once (formula_words m') a.wf.formulas i j a.low (subst (λ w. j < held_count w) e b.low)).0 (a.here ∙ sym (subst (λ w. told w j ≡ f) e b.here))

  pub spelled_once : (r s : Option ℕ) → SpelledOr m f r m' → SpelledOr m f s m'' → (r ≡ s) × (m' ≡ m'')
  spelled_once (Some i) (Some j) a b = (ap Some (spelled_number i j a b), spelled_words i j a b)
  spelled_once (Some i) None a b = absurd (omega (arith, a.room, b.full))
  spelled_once None (Some j) a b = absurd (omega (arith, a.full, b.room))
  spelled_once None None a b = (refl, a.same ∙ sym b.same)

-- a failure recorded
filed_alike : {ks : List Key} {k : Key} {js ls : List Key} → Filed ks k js → Filed ks k ls → Alike js ls
filed_alike (was_known a) (was_known b) = alike_of (a.same ∙ sym b.same)
filed_alike (was_known a) (is_new b) = absurd (false≢true (sym b.new ∙ a.known))
filed_alike (is_new a) (was_known b) = absurd (false≢true (sym a.new ∙ b.known))
filed_alike {ks} (is_new a) (is_new b) =
    alike_trans (alike_of a.last) (alike_trans (alike_snoc {ks = ks} {ls = ks} (alike_of refl) (same_trans a.same (same_sym b.same))) (alike_of (sym b.last)))

filed_or_full : {m : List ℕ} {k : Key} {js m' : List ℕ} → Recorded m k js → NoPlace m k m' → ⊥
filed_or_full {m} {k} a b = go a.failures
  where
    go : {js : List Key} → Filed (failed m) k js → ⊥
    go (was_known h) = false≢true (sym b.new ∙ h.known)
    go (is_new h) = absurd (omega (arith, h.room, b.full))

pub recorded_once : (m : List ℕ) (k : Key) (m' m'' : List ℕ) (r s : Bool) → RecordedOr m k r m' → RecordedOr m k s m'' → (r ≡ s) × (m' ≡ m'')
recorded_once m k m' m'' true true a b = (refl, image_once m' m'' a.wf b.wf (a.all ∙ sym b.all) (filed_alike a.failures b.failures))
recorded_once m k m' m'' true false a b = absurd (filed_or_full a b)
recorded_once m k m' m'' false true a b = absurd (filed_or_full b a)
recorded_once m k m' m'' false false a b = (refl, a.same ∙ sym b.same)
