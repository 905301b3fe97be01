-- Laws of a tensor's step: when it fits two premises, and that it can be taken then. Assumes nothing.
use Rattle.std.specs.Prelude.{◌≡◌, refl, Bool, true, false, not, ℕ, zero, suc, ◌<◌, ◌^◌, ◌/◌, ◌%◌, eqb, ltb, get_or, take, drop}
use Rattle.std.proofs.Math.Path.{sym, ap}
use Rattle.std.proofs.Common.{◌∙◌}
use Rattle.std.proofs.lemmas.Bool.{false≢true}
use Rattle.std.proofs.Math.Bool.{and-eq-true_iff}
use mathlib.Core.List.{List, [], ◌∷◌, ◌++◌}
use native.Mathlib.Omega.{arith}
use Rattle.std.proofs.Math.ListN.{length}
use borrow.Author.Tests.{ltb-true, lt-ltb, eq-eqb}
use Rattle.logic.specs.Formula.{Formula, One, Bottom, Top, Zero, Atom, NegAtom, Tensor, Par, With, Plus, Lolli, OfCourse, WhyNot, spell}
use Rattle.logic.specs.Parts.{tag_of, left_part, right_part}
use Rattle.logic.specs.Sequent.{Sequent, ◌﹔◌}
use Rattle.logic.specs.Split.{keep, left_of, right_of}
use Rattle.logic.specs.Built.{decomposable, Passed, none_yet, and_passed}
use Rattle.logic.specs.Conclusion.{spell_first, concluded}
use Rattle.logic.specs.Concludes.{spell_passed, spell_at}
use Rattle.logic.specs.Tree.{TensorIntro}
use Rattle.zones.specs.Zones.{remove}
use Rattle.short.specs.Steps.{all_passed, formula_at, is_focus, may_take, premises_of}
use Rattle.short.proofs.StepsLaws.{all_passed_passed, Placed, is_focus_placed, is_focus_tells, passed_is_sync}
use Rattle.short.specs.Shortening.{fits}
use Rattle.short.proofs.LeastLaws.{fits_takes, fits_premises, takes_fits}
use Rattle.split.specs.Tensors.{Each, each_none, each_more, Passes, TensorFits}

-- ---- what every formula of a list is, those of its parts are

module _ {P : Formula → Type 0} where
  each_keep : (b : Bool) (f : Formula) {fs : List Formula} → P f → Each P fs → Each P (keep b f fs)
  each_keep true f h ps = each_more f h ps
  each_keep false f h ps = ps

  pub each_left : (mask : ℕ) {fs : List Formula} → Each P fs → Each P (left_of mask fs)
  unfolding left_of
  each_left mask each_none = each_none
  each_left mask (each_more f h ps) = each_keep (eqb (mask % 2) 0) f h (each_left (mask / 2) ps)

  pub each_right : (mask : ℕ) {fs : List Formula} → Each P fs → Each P (right_of mask fs)
  unfolding right_of
  each_right mask each_none = each_none
  each_right mask (each_more f h ps) = each_keep (not (eqb (mask % 2) 0)) f h (each_right (mask / 2) ps)

  each_append : {fs gs : List Formula} → Each P fs → Each P gs → Each P (fs ++ gs)
  each_append each_none qs = qs
  each_append (each_more f h ps) qs = each_more f h (each_append ps qs)

  each_take : (i : ℕ) {fs : List Formula} → Each P fs → Each P (take i fs)
  each_take zero ps = each_none
  each_take (suc i) each_none = each_none
  each_take (suc i) (each_more f h ps) = each_more f h (each_take i ps)

  each_drop : (i : ℕ) {fs : List Formula} → Each P fs → Each P (drop i fs)
  each_drop zero ps = ps
  each_drop (suc i) each_none = each_none
  each_drop (suc i) (each_more f h ps) = each_drop i ps

  pub each_remove : (i : ℕ) {fs : List Formula} → Each P fs → Each P (remove i fs)
  each_remove i ps = each_append (each_take i ps) (each_drop (suc i) ps)

  -- by place
  pub each_at : {fs : List Formula} → Each P fs → (k : ℕ) → k < length fs → P (get_or fs k One)
  each_at each_none k l = absurd (omega arith)
  each_at (each_more f h ps) zero l = h
  each_at (each_more f h ps) (suc k) l = each_at ps k (omega arith)

  pub each_by : (fs : List Formula) → ((k : ℕ) → k < length fs → P (get_or fs k One)) → Each P fs
  each_by [] h = each_none
  each_by (f ∷ fs) h = each_more f (h zero (omega arith)) (each_by fs (λ k l. h (suc k) (omega arith)))

pub passed_each : {fs : List Formula} → Passed fs → Each Passes fs
passed_each none_yet = each_none
passed_each (and_passed {f = f} h ps) = each_more f h (passed_each ps)

pub each_passed : {fs : List Formula} → Each Passes fs → Passed fs
each_passed each_none = none_yet
each_passed (each_more f h ps) = and_passed h (each_passed ps)

-- ---- what a list without decomposable formulas concludes with one formula more: that one is spelled out at its top

spell_plain : (f : Formula) → decomposable f ≡ false → spell f ≡ f
unfolding spell decomposable
spell_plain (Lolli a b) h = absurd (false≢true (sym h))
spell_plain (Atom a) h = refl
spell_plain (NegAtom a) h = refl
spell_plain (Tensor a b) h = refl
spell_plain (Par a b) h = refl
spell_plain One h = refl
spell_plain Bottom h = refl
spell_plain (With a b) h = refl
spell_plain (Plus a b) h = refl
spell_plain Top h = refl
spell_plain Zero h = refl
spell_plain (OfCourse a) h = refl
spell_plain (WhyNot a) h = refl

spell_last : {fs : List Formula} (f : Formula) → Passed fs → spell_first (fs ++ (f ∷ [])) ≡ fs ++ (spell f ∷ [])
spell_last {fs} f ps = go (decomposable f) refl
  where
    go : (b : Bool) → decomposable f ≡ b → spell_first (fs ++ (f ∷ [])) ≡ fs ++ (spell f ∷ [])
    go true h = spell_at f [] ps h
    go false h = spell_passed (each_passed (each_append (passed_each ps) (each_more f h each_none))) ∙ ap (λ (g : Formula). fs ++ (g ∷ [])) (sym (spell_plain f h))

-- ---- the step

module _ (q : Sequent) (i mask : ℕ) where
  abbrev lefts : List Formula
  lefts = left_of mask (remove i q.linear)

  abbrev rights : List Formula
  rights = right_of mask (remove i q.linear)

  concluded_left : Passed q.linear → spell_first (lefts ++ (left_part (formula_at q i) ∷ [])) ≡ lefts ++ (spell (left_part (formula_at q i)) ∷ [])
  concluded_left ps = spell_last (left_part (formula_at q i)) (each_passed (each_left mask (each_remove i (passed_each ps))))

  concluded_right : Passed q.linear → spell_first (rights ++ (right_part (formula_at q i) ∷ [])) ≡ rights ++ (spell (right_part (formula_at q i)) ∷ [])
  concluded_right ps = spell_last (right_part (formula_at q i)) (each_passed (each_right mask (each_remove i (passed_each ps))))

  takes_apart : may_take TensorIntro i mask q ≡ true → (is_focus q i 6 ≡ true) × (mask < 2 ^ length (remove i q.linear))
  unfolding may_take
  takes_apart e =
      let b = (and-eq-true_iff (is_focus q i 6) (ltb mask (2 ^ length (remove i q.linear)))).0 e in
      (b.0, ltb-true mask (2 ^ length (remove i q.linear)) b.1)

  -- a tensor's step is taken where a tensor stands and the mask has no spare bit
  pub tensor_takes : all_passed q.linear ≡ true → i < length q.linear → tag_of (formula_at q i) ≡ 6 → mask < 2 ^ length (remove i q.linear)
      → may_take TensorIntro i mask q ≡ true
  unfolding may_take is_focus
  tensor_takes ps low tag spare =
      (and-eq-true_iff _ _).1 ((and-eq-true_iff _ _).1 (passed_is_sync q some (all_passed_passed _ ps), eq-eqb _ _ tag), lt-ltb _ _ spare)
    where
      some : q.linear ≡ [] → ⊥
      some e = let n : length q.linear ≡ 0 = ap length e in omega arith

  pub taken_tensor : may_take TensorIntro i mask q ≡ true → Placed q i 6
  taken_tensor e = (is_focus_placed q i 6 (omega arith) (takes_apart e).0).0

  -- where some formula is decomposable none is taken
  pub taken_passed : may_take TensorIntro i mask q ≡ true → Passed q.linear
  taken_passed e = (is_focus_tells q i 6 (takes_apart e).0).2

  module _ (d e : Sequent) where
    pub fits_tensor : fits TensorIntro q (d ∷ e ∷ []) i mask ≡ true → TensorFits q d e i mask
    unfolding premises_of
    fits_tensor f =
        let t = takes_apart (fits_takes TensorIntro q (d ∷ e ∷ []) i mask f) in
        let p = is_focus_tells q i 6 t.0 in
        let k = fits_premises TensorIntro q (d ∷ e ∷ []) i mask f in
        let first : concluded (lefts ++ (left_part (formula_at q i) ∷ []) ﹔ q.unrestricted) ≡ d = cc in
        let second : concluded (rights ++ (right_part (formula_at q i) ∷ []) ﹔ q.unrestricted) ≡ e = cc in
        record {
          tensor = p.0;
          spare = t.1;
          left_linear = sym (ap (λ (x : Sequent). x.linear) first) ∙ concluded_left p.2;
          left_unrestricted = sym (ap (λ (x : Sequent). x.unrestricted) first);
          right_linear = sym (ap (λ (x : Sequent). x.linear) second) ∙ concluded_right p.2;
          right_unrestricted = sym (ap (λ (x : Sequent). x.unrestricted) second);
        }

    pub tensor_fits : all_passed q.linear ≡ true → i < length q.linear → TensorFits q d e i mask → fits TensorIntro q (d ∷ e ∷ []) i mask ≡ true
    unfolding premises_of
    tensor_fits ps low f =
        takes_fits TensorIntro q (d ∷ e ∷ []) i mask (tensor_takes ps low f.tensor f.spare) (λ j. first j ∷ second j ∷ [])
      where
        first : concluded (lefts ++ (left_part (formula_at q i) ∷ []) ﹔ q.unrestricted) ≡ d
        first = λ j. record {
          linear = (concluded_left (all_passed_passed _ ps) ∙ sym f.left_linear) j;
          unrestricted = sym f.left_unrestricted j;
        }

        second : concluded (rights ++ (right_part (formula_at q i) ∷ []) ﹔ q.unrestricted) ≡ e
        second = λ j. record {
          linear = (concluded_right (all_passed_passed _ ps) ∙ sym f.right_linear) j;
          unrestricted = sym f.right_unrestricted j;
        }
