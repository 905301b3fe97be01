-- The strict test of a step agrees with document 01's legal steps, rule by rule. The rules with a principal formula share `principal_iff`, those on the unrestricted zone `taken_iff`, and
-- TensorIntro and Cut `shared_iff`: no split is looked for. Assumes nothing.
use Rattle.std.specs.Prelude.{refl, ◌↔◌, Bool, ◌&&◌, List, [], ◌∷◌, ◌++◌}
use mathlib.Core.Logic.Iff
use Rattle.std.proofs.lemmas.Bool.{false≢true}
use Rattle.std.proofs.Math.Bool.{So}
use Rattle.logic.specs.Formula.{Formula, Bottom, Tensor, Par, With, Plus, OfCourse, WhyNot, negate, spell}
use Rattle.logic.specs.Parts.{left_part, right_part}
use Rattle.logic.specs.Sequent.{Sequent}
use Rattle.logic.specs.Tree.{
  Rule,
  Axiom,
  Cut,
  OneIntro,
  BottomIntro,
  TensorIntro,
  ParIntro,
  TopIntro,
  WithIntro,
  PlusIntroLeft,
  PlusIntroRight,
  OfCourseIntro,
  WhyNotIntro,
  Weakening,
  Contraction,
  Dereliction,
  FocusPositive,
  FocusNegative,
  Blur,
}
use Rattle.logic.specs.Key.{same_bag}
use Rattle.logic.specs.Legal.{
  ◌≈◌,
  ◌≋◌,
  Step,
  step_axiom,
  step_one,
  step_top,
  step_bottom,
  step_par,
  step_with,
  step_plus_left,
  step_plus_right,
  step_tensor,
  step_of_course,
  step_why_not,
  step_weakening,
  step_contraction,
  step_dereliction,
  step_cut,
}
use Rattle.logic.proofs.Bags.{same_bag_iff}
use Rattle.logic.specs.Strict.{in_linear, any_binary, any_unary, of_none, of_one, of_two, legal_step}
use Rattle.logic.specs.Principal.{Sign, over_two, two_parts, Principal, Shared}
use Rattle.logic.proofs.PrincipalLaws.{both_iff, linear_same_iff, in_linear_iff, principal_iff, replaced_iff, shared_iff, rest_same, taken_iff}
use Rattle.logic.proofs.LeafLaws.{one_shaped_iff, axiom_shaped_iff, among_top_iff}

-- the signs
par_sign : Sign (over_two Par) two_parts
unfolding spell left_part right_part
par_sign = record { parts_sign = λ ab. refl; spell_sign = λ ab. refl }

with_sign : Sign (over_two With) two_parts
unfolding spell left_part right_part
with_sign = record { parts_sign = λ ab. refl; spell_sign = λ ab. refl }

plus_sign : Sign (over_two Plus) two_parts
unfolding spell left_part right_part
plus_sign = record { parts_sign = λ ab. refl; spell_sign = λ ab. refl }

tensor_sign : Sign (over_two Tensor) two_parts
unfolding spell left_part right_part
tensor_sign = record { parts_sign = λ ab. refl; spell_sign = λ ab. refl }

of_course_sign : Sign OfCourse left_part
unfolding spell left_part
of_course_sign = record { parts_sign = λ a. refl; spell_sign = λ a. refl }

why_not_sign : Sign WhyNot left_part
unfolding spell left_part
why_not_sign = record { parts_sign = λ a. refl; spell_sign = λ a. refl }

-- What each test tells
module _ (q p : Sequent) where
  keeps_iff : So (same_bag p.unrestricted q.unrestricted) ↔ (p.unrestricted ≋ q.unrestricted)
  keeps_iff = same_bag_iff p.unrestricted q.unrestricted

  bottom_iff : So (legal_step BottomIntro q (p ∷ [])) ↔ ((q.linear ≈ Bottom ∷ p.linear) × (p.unrestricted ≋ q.unrestricted))
  unfolding legal_step
  bottom_iff = both_iff (linear_same_iff q.linear (Bottom ∷ p.linear)) keeps_iff

  par_iff : So (legal_step ParIntro q (p ∷ [])) ↔ (Principal (over_two Par) (λ ab Γ. p.linear ≈ ab.0 ∷ ab.1 ∷ Γ) q.linear × (p.unrestricted ≋ q.unrestricted))
  unfolding legal_step any_binary
  par_iff = both_iff (principal_iff par_sign _ _ q.linear (λ ab Γ h. replaced_iff (ab.0 ∷ ab.1 ∷ []) p.linear h)) keeps_iff

  plus_left_iff : So (legal_step PlusIntroLeft q (p ∷ [])) ↔ (Principal (over_two Plus) (λ ab Γ. p.linear ≈ ab.0 ∷ Γ) q.linear × (p.unrestricted ≋ q.unrestricted))
  unfolding legal_step any_binary
  plus_left_iff = both_iff (principal_iff plus_sign _ _ q.linear (λ ab Γ h. replaced_iff (ab.0 ∷ []) p.linear h)) keeps_iff

  plus_right_iff : So (legal_step PlusIntroRight q (p ∷ [])) ↔ (Principal (over_two Plus) (λ ab Γ. p.linear ≈ ab.1 ∷ Γ) q.linear × (p.unrestricted ≋ q.unrestricted))
  unfolding legal_step any_binary
  plus_right_iff = both_iff (principal_iff plus_sign _ _ q.linear (λ ab Γ h. replaced_iff (ab.1 ∷ []) p.linear h)) keeps_iff

  of_course_iff : So (legal_step OfCourseIntro q (p ∷ [])) ↔ (Principal OfCourse (λ a Γ. (q.linear ≈ OfCourse a ∷ []) × (p.linear ≈ a ∷ [])) q.linear × (p.unrestricted ≋ q.unrestricted))
  unfolding legal_step any_unary
  of_course_iff =
      both_iff (principal_iff of_course_sign _ _ q.linear (λ a Γ h. both_iff (linear_same_iff q.linear (OfCourse a ∷ [])) (linear_same_iff p.linear (a ∷ [])))) keeps_iff

  why_not_iff : So (legal_step WhyNotIntro q (p ∷ [])) ↔ Principal WhyNot (λ a Γ. (q.linear ≈ WhyNot a ∷ p.linear) × (p.unrestricted ≋ a ∷ q.unrestricted)) q.linear
  unfolding legal_step any_unary
  why_not_iff =
      principal_iff why_not_sign _ _ q.linear (λ a Γ h. both_iff (linear_same_iff q.linear (WhyNot a ∷ p.linear)) (same_bag_iff p.unrestricted (a ∷ q.unrestricted)))

  weakening_iff : So (legal_step Weakening q (p ∷ [])) ↔ ((a : Formula) × (p.linear ≈ q.linear) × (q.unrestricted ≋ a ∷ p.unrestricted))
  unfolding legal_step
  weakening_iff = taken_iff _ _ q.unrestricted p.unrestricted (λ a. linear_same_iff p.linear q.linear)

  contraction_iff : So (legal_step Contraction q (p ∷ [])) ↔ ((a : Formula) × (p.linear ≈ a ∷ a ∷ q.linear) × (q.unrestricted ≋ a ∷ p.unrestricted))
  unfolding legal_step
  contraction_iff = taken_iff _ _ q.unrestricted p.unrestricted (λ a. linear_same_iff p.linear (a ∷ a ∷ q.linear))

  dereliction_iff : So (legal_step Dereliction q (p ∷ [])) ↔ ((a : Formula) × (p.linear ≈ a ∷ q.linear) × (q.unrestricted ≋ a ∷ p.unrestricted))
  unfolding legal_step
  dereliction_iff = taken_iff _ _ q.unrestricted p.unrestricted (λ a. linear_same_iff p.linear (a ∷ q.linear))

module _ (q p p' : Sequent) where
  keep_iff : So (same_bag p.unrestricted q.unrestricted && same_bag p'.unrestricted q.unrestricted) ↔ ((p.unrestricted ≋ q.unrestricted) × (p'.unrestricted ≋ q.unrestricted))
  keep_iff = both_iff (keeps_iff q p) (keeps_iff q p')

  with_iff : So (legal_step WithIntro q (p ∷ p' ∷ [])) ↔ (Principal (over_two With) (λ ab Γ. (p.linear ≈ ab.0 ∷ Γ) × (p'.linear ≈ ab.1 ∷ Γ)) q.linear × ((p.unrestricted ≋ q.unrestricted) × (p'.unrestricted ≋ q.unrestricted)))
  unfolding legal_step any_binary
  with_iff =
      both_iff (principal_iff with_sign _ _ q.linear (λ ab Γ h. both_iff (replaced_iff (ab.0 ∷ []) p.linear h) (replaced_iff (ab.1 ∷ []) p'.linear h))) keep_iff

  -- both premises hold their formula, and the test t says that the rest of both is Γ
  split_iff : (a b : Formula) (Γ : List Formula) {t : Bool} → So t ↔ (p.linear ++ p'.linear ≈ a ∷ b ∷ Γ) → So ((in_linear a p.linear && in_linear b p'.linear) && t) ↔ Shared a b p.linear p'.linear Γ
  split_iff a b Γ h = Iff.trans (both_iff (both_iff (in_linear_iff a p.linear) (in_linear_iff b p'.linear)) h) (shared_iff a b p.linear p'.linear Γ)

  tensor_iff : So (legal_step TensorIntro q (p ∷ p' ∷ [])) ↔ (Principal (over_two Tensor) (λ ab Γ. Shared ab.0 ab.1 p.linear p'.linear Γ) q.linear × ((p.unrestricted ≋ q.unrestricted) × (p'.unrestricted ≋ q.unrestricted)))
  unfolding legal_step any_binary
  tensor_iff =
      both_iff (principal_iff tensor_sign _ _ q.linear (λ ab Γ h. split_iff ab.0 ab.1 Γ (replaced_iff (ab.0 ∷ ab.1 ∷ []) (p.linear ++ p'.linear) h))) keep_iff

  cut_iff : (c : Formula) → So (legal_step (Cut c) q (p ∷ p' ∷ [])) ↔ (Shared c (negate c) p.linear p'.linear q.linear × ((p.unrestricted ≋ q.unrestricted) × (p'.unrestricted ≋ q.unrestricted)))
  unfolding legal_step
  cut_iff c = both_iff (split_iff c (negate c) q.linear (linear_same_iff (p.linear ++ p'.linear) (c ∷ negate c ∷ q.linear))) keep_iff

-- The test says yes only at a legal step. Premises first: none, one, two
module _ (r : Rule) (q : Sequent) where
  of_none_step : {b : Bool} → (So b → Step r q []) → (ps : List Sequent) → So (of_none b ps) → Step r q ps
  of_none_step h [] e = h e
  of_none_step h (p ∷ ps) e = absurd (false≢true e)

  of_one_step : ((p : Sequent) → So (legal_step r q (p ∷ [])) → Step r q (p ∷ [])) → (ps : List Sequent) → So (of_one (λ p. legal_step r q (p ∷ [])) ps) → Step r q ps
  of_one_step h [] e = absurd (false≢true e)
  of_one_step h (p ∷ []) e = h p e
  of_one_step h (p ∷ p' ∷ ps) e = absurd (false≢true e)

  of_two_step : ((p p' : Sequent) → So (legal_step r q (p ∷ p' ∷ [])) → Step r q (p ∷ p' ∷ [])) → (ps : List Sequent) → So (of_two (λ p p'. legal_step r q (p ∷ p' ∷ [])) ps) → Step r q ps
  of_two_step h [] e = absurd (false≢true e)
  of_two_step h (p ∷ []) e = absurd (false≢true e)
  of_two_step h (p ∷ p' ∷ []) e = h p p' e
  of_two_step h (p ∷ p' ∷ p'' ∷ ps) e = absurd (false≢true e)

legal_step_sound : (r : Rule) (q : Sequent) (ps : List Sequent) → So (legal_step r q ps) → Step r q ps
unfolding legal_step
legal_step_sound Axiom q = of_none_step Axiom q λ e. let h = (axiom_shaped_iff q.linear).0 e in step_axiom h.0 h.1
legal_step_sound OneIntro q = of_none_step OneIntro q λ e. step_one ((one_shaped_iff q.linear).0 e)
legal_step_sound TopIntro q = of_none_step TopIntro q λ e. let h = (among_top_iff q.linear).0 e in step_top h.rest h.same
legal_step_sound BottomIntro q = of_one_step BottomIntro q λ p e. let h = (bottom_iff q p).0 e in step_bottom h.0 h.1
legal_step_sound ParIntro q = of_one_step ParIntro q λ p e.
    let h = (par_iff q p).0 e in
    let d = h.0 in
    step_par d.parts.0 d.parts.1 d.rest d.same d.meets h.1
legal_step_sound PlusIntroLeft q = of_one_step PlusIntroLeft q λ p e.
    let h = (plus_left_iff q p).0 e in
    let d = h.0 in
    step_plus_left d.parts.0 d.parts.1 d.rest d.same d.meets h.1
legal_step_sound PlusIntroRight q = of_one_step PlusIntroRight q λ p e.
    let h = (plus_right_iff q p).0 e in
    let d = h.0 in
    step_plus_right d.parts.0 d.parts.1 d.rest d.same d.meets h.1
legal_step_sound OfCourseIntro q = of_one_step OfCourseIntro q λ p e.
    let h = (of_course_iff q p).0 e in
    let d = h.0 in
    step_of_course d.parts d.meets.0 d.meets.1 h.1
legal_step_sound WhyNotIntro q = of_one_step WhyNotIntro q λ p e. let d = (why_not_iff q p).0 e in step_why_not d.parts d.meets.0 d.meets.1
legal_step_sound Weakening q = of_one_step Weakening q λ p e. let h = (weakening_iff q p).0 e in step_weakening h.0 h.1 h.2
legal_step_sound Contraction q = of_one_step Contraction q λ p e. let h = (contraction_iff q p).0 e in step_contraction h.0 h.1 h.2
legal_step_sound Dereliction q = of_one_step Dereliction q λ p e. let h = (dereliction_iff q p).0 e in step_dereliction h.0 h.1 h.2
legal_step_sound WithIntro q = of_two_step WithIntro q λ p p' e.
    let h = (with_iff q p p').0 e in
    let d = h.0 in
    step_with d.parts.0 d.parts.1 d.rest d.same d.meets.0 d.meets.1 h.1.0 h.1.1
legal_step_sound TensorIntro q = of_two_step TensorIntro q λ p p' e.
    let h = (tensor_iff q p p').0 e in
    let d = h.0 in
    let s = d.meets in
    step_tensor d.parts.0 d.parts.1 s.one s.other (rest_same d.same s.shared) s.with_one s.with_other h.1.0 h.1.1
legal_step_sound (Cut c) q = of_two_step (Cut c) q λ p p' e.
    let h = (cut_iff q p p' c).0 e in
    let s = h.0 in
    step_cut c s.one s.other s.shared s.with_one s.with_other h.1.0 h.1.1
legal_step_sound (FocusPositive i) q = λ ps e. absurd (false≢true e)
legal_step_sound (FocusNegative i) q = λ ps e. absurd (false≢true e)
legal_step_sound Blur q = λ ps e. absurd (false≢true e)

-- and at each
legal_step_complete : {r : Rule} {q : Sequent} {ps : List Sequent} → Step r q ps → So (legal_step r q ps)
unfolding legal_step
legal_step_complete {q} (step_axiom a h) = (axiom_shaped_iff q.linear).1 (a, h)
legal_step_complete {q} (step_one h) = (one_shaped_iff q.linear).1 h
legal_step_complete {q} (step_top Γ h) = (among_top_iff q.linear).1 record { rest = Γ; same = h }
legal_step_complete {q} (step_bottom {p = p} h u) = (bottom_iff q p).1 (h, u)
legal_step_complete {q} (step_par {p = p} a b Γ h k u) = (par_iff q p).1 (record { parts = (a, b); rest = Γ; same = h; meets = k }, u)
legal_step_complete {q} (step_with {p = p} {p' = p'} a b Γ h k k' u u') = (with_iff q p p').1 (record { parts = (a, b); rest = Γ; same = h; meets = (k, k') }, (u, u'))
legal_step_complete {q} (step_plus_left {p = p} a b Γ h k u) = (plus_left_iff q p).1 (record { parts = (a, b); rest = Γ; same = h; meets = k }, u)
legal_step_complete {q} (step_plus_right {p = p} a b Γ h k u) = (plus_right_iff q p).1 (record { parts = (a, b); rest = Γ; same = h; meets = k }, u)
legal_step_complete {q} (step_tensor {p = p} {p' = p'} a b Γ Δ h k k' u u') =
    (tensor_iff q p p').1
    (record { parts = (a, b); rest = Γ ++ Δ; same = h; meets = record { one = Γ; other = Δ; shared = record { each = λ f. refl }; with_one = k; with_other = k' } }, (u, u'))
legal_step_complete {q} (step_of_course {p = p} a h k u) = (of_course_iff q p).1 (record { parts = a; rest = []; same = h; meets = (h, k) }, u)
legal_step_complete {q} (step_why_not {p = p} a h u) = (why_not_iff q p).1 record { parts = a; rest = p.linear; same = h; meets = (h, u) }
legal_step_complete {q} (step_weakening {p = p} a h u) = (weakening_iff q p).1 (a, h, u)
legal_step_complete {q} (step_contraction {p = p} a h u) = (contraction_iff q p).1 (a, h, u)
legal_step_complete {q} (step_dereliction {p = p} a h u) = (dereliction_iff q p).1 (a, h, u)
legal_step_complete {q} (step_cut {p = p} {p' = p'} c Γ Δ h k k' u u') =
    (cut_iff q p p' c).1 (record { one = Γ; other = Δ; shared = h; with_one = k; with_other = k' }, (u, u'))

-- the strict test of a step is document 01's relation
pub legal_step_iff : (r : Rule) (q : Sequent) (ps : List Sequent) → So (legal_step r q ps) ↔ Step r q ps
legal_step_iff r q ps = (legal_step_sound r q ps, legal_step_complete)
