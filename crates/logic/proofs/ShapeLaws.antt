-- Shape mode's test at a node. A legal step passes it, but for ParIntro over an implication: there shape mode wants a par that is written out. Its faults are 13 and 14 alone.
-- Assumes nothing.
use Rattle.std.specs.Prelude.{◌≡◌, refl, ◌↔◌, Bool, true, false, List, ◌∷◌, ℕ, eqb, length}
use Rattle.std.proofs.Common.{ap, arith}
use Rattle.std.proofs.Math.Bool.{So}
use Rattle.std.proofs.lemmas.Bool.{false≢true}
use Rattle.std.proofs.Math.Option.{Option, none, some, none-ne-some, some-ne-none, some-injective}
use Rattle.logic.specs.Formula.{Formula, Bottom, Top, Tensor, Par, With, Plus, OfCourse, same, among, spell}
use Rattle.logic.proofs.FormulaLaws.{same_self}
use Rattle.logic.specs.Parts.{left_part, right_part, is_binary, is_unary}
use Rattle.logic.specs.Sequent.{Sequent}
use Rattle.logic.specs.Tree.{
  Rule,
  Axiom,
  Cut,
  OneIntro,
  BottomIntro,
  TensorIntro,
  ParIntro,
  TopIntro,
  WithIntro,
  PlusIntroLeft,
  PlusIntroRight,
  OfCourseIntro,
  WhyNotIntro,
  Weakening,
  Contraction,
  Dereliction,
  FocusPositive,
  FocusNegative,
  Blur,
}
use Rattle.logic.specs.Verify.{Fault, invalid_rule, wrong_premise_count, context_mismatch, fault_number, any, axiom_shaped, one_shaped, need, need_shape, need_premises, shape_fault}
use Rattle.logic.specs.Legal.{
  ◌≈◌,
  Step,
  step_axiom,
  step_one,
  step_top,
  step_bottom,
  step_par,
  step_with,
  step_plus_left,
  step_plus_right,
  step_tensor,
  step_of_course,
  step_why_not,
  step_weakening,
  step_contraction,
  step_dereliction,
  step_cut,
}
use Rattle.logic.specs.Shaped.{par_shown}
use Rattle.logic.specs.Principal.{Unspelled}
use Rattle.logic.proofs.PrincipalLaws.{unspelled_any_iff, unspelled_among_iff}
use Rattle.logic.proofs.LeafLaws.{one_shaped_iff, axiom_shaped_iff, among_top_iff}

-- a formula of the zone passes the test
shown : (test : Formula → Bool) → Unspelled test → {x : Formula} {xs Γ : List Formula} → spell x ≡ x → So (test x) → xs ≈ x ∷ Γ → So (any test xs)
shown test h {x} {xs} {Γ} e t k = (unspelled_any_iff test h xs).1 record { here = x; fixed = e; stands = record { rest = Γ; same = k }; passes = t }

bottom_among : {xs Γ : List Formula} → xs ≈ Bottom ∷ Γ → So (among Bottom xs)
unfolding spell same
bottom_among {xs} {Γ} h = (unspelled_among_iff Bottom (λ a b. refl) refl xs).1 record { rest = Γ; same = h }

tensor_shown : {a b : Formula} {xs Γ : List Formula} → xs ≈ Tensor a b ∷ Γ → So (any (is_binary Tensor) xs)
unfolding spell same left_part right_part
tensor_shown {a} {b} = shown (is_binary Tensor) (λ a b. refl) refl (same_self (Tensor a b))

with_shown : {a b : Formula} {xs Γ : List Formula} → xs ≈ With a b ∷ Γ → So (any (is_binary With) xs)
unfolding spell same left_part right_part
with_shown {a} {b} = shown (is_binary With) (λ a b. refl) refl (same_self (With a b))

plus_shown : {a b : Formula} {xs Γ : List Formula} → xs ≈ Plus a b ∷ Γ → So (any (is_binary Plus) xs)
unfolding spell same left_part right_part
plus_shown {a} {b} = shown (is_binary Plus) (λ a b. refl) refl (same_self (Plus a b))

of_course_shown : {a : Formula} {xs Γ : List Formula} → xs ≈ OfCourse a ∷ Γ → So (any (is_unary OfCourse) xs)
unfolding spell same left_part
of_course_shown {a} = shown (is_unary OfCourse) (λ a b. refl) refl (same_self (OfCourse a))

need_shape_iff : (b : Bool) → (need_shape b none ≡ none) ↔ So b
need_shape_iff true = (λ e. refl, λ e. refl)
need_shape_iff false = (λ e. absurd (some-ne-none _ e), λ e. absurd (false≢true e))

-- where the step itself makes the test true
sure : {b : Bool} → So b → (need_shape b none ≡ none) ↔ So true
sure {b} h = (λ e. refl, λ e. (need_shape_iff b).1 h)

pub step_shape_iff : {r : Rule} {q : Sequent} {ps : List Sequent} → Step r q ps → (shape_fault r q (length ps) ≡ none) ↔ So (par_shown r q)
unfolding shape_fault par_shown
step_shape_iff {q} (step_axiom a h) = sure ((axiom_shaped_iff q.linear).1 (a, h))
step_shape_iff {q} (step_one h) = sure ((one_shaped_iff q.linear).1 h)
step_shape_iff {q} (step_top Γ h) = sure ((among_top_iff q.linear).1 record { rest = Γ; same = h })
step_shape_iff (step_bottom h u) = sure (bottom_among h)
step_shape_iff {q} (step_par a b Γ h k u) = need_shape_iff (any (is_binary Par) q.linear)
step_shape_iff (step_with a b Γ h k k' u u') = sure (with_shown h)
step_shape_iff (step_plus_left a b Γ h k u) = sure (plus_shown h)
step_shape_iff (step_plus_right a b Γ h k u) = sure (plus_shown h)
step_shape_iff (step_tensor a b Γ Δ h k k' u u') = sure (tensor_shown h)
step_shape_iff (step_of_course a h k u) = sure (of_course_shown h)
step_shape_iff (step_why_not a h u) = sure refl
step_shape_iff (step_weakening a h u) = sure refl
step_shape_iff (step_contraction a h u) = sure refl
step_shape_iff (step_dereliction a h u) = sure refl
step_shape_iff (step_cut c Γ Δ h k k' u u') = sure refl

-- shape mode's tests give 13 and 14 alone
not_15 : Option Fault → Type 0
not_15 o = o ≡ some context_mismatch → ⊥

need_not_15 : (b : Bool) (f : Fault) (o : Option Fault) → (f ≡ context_mismatch → ⊥) → not_15 o → not_15 (need b f o)
unfolding not_15
need_not_15 true f o h k e = k e
need_not_15 false f o h k e = h (some-injective _ _ e)

none_not_15 : not_15 none
unfolding not_15
none_not_15 = none-ne-some _

module _ (q : Sequent) (got : ℕ) where
  shape_next : (b : Bool) (o : Option Fault) → not_15 o → not_15 (need_shape b o)
  shape_next b o = need_not_15 b invalid_rule o λ e. omega (arith, ap fault_number e)

  count_next : (n : ℕ) (o : Option Fault) → not_15 o → not_15 (need_premises n got o)
  count_next n o = need_not_15 (eqb got n) (wrong_premise_count n got) o λ e. omega (arith, ap fault_number e)

  shape_first : (b : Bool) (n : ℕ) → not_15 (need_shape b (need_premises n got none))
  shape_first b n = shape_next b (need_premises n got none) (count_next n none none_not_15)

  count_first : (n : ℕ) (b : Bool) → not_15 (need_premises n got (need_shape b none))
  count_first n b = count_next n (need_shape b none) (shape_next b none none_not_15)

  count_alone : (n : ℕ) → not_15 (need_premises n got none)
  count_alone n = count_next n none none_not_15

  pub shape_fault_not_15 : (r : Rule) → shape_fault r q got ≡ some context_mismatch → ⊥
  unfolding shape_fault not_15
  shape_fault_not_15 Axiom = shape_first (axiom_shaped q.linear) 0
  shape_fault_not_15 OneIntro = shape_first (one_shaped q.linear) 0
  shape_fault_not_15 TopIntro = shape_first (among Top q.linear) 0
  shape_fault_not_15 BottomIntro = shape_first (among Bottom q.linear) 1
  shape_fault_not_15 TensorIntro = count_first 2 (any (is_binary Tensor) q.linear)
  shape_fault_not_15 ParIntro = count_first 1 (any (is_binary Par) q.linear)
  shape_fault_not_15 WithIntro = count_first 2 (any (is_binary With) q.linear)
  shape_fault_not_15 PlusIntroLeft = count_first 1 (any (is_binary Plus) q.linear)
  shape_fault_not_15 PlusIntroRight = count_first 1 (any (is_binary Plus) q.linear)
  shape_fault_not_15 OfCourseIntro = count_first 1 (any (is_unary OfCourse) q.linear)
  shape_fault_not_15 WhyNotIntro = count_alone 1
  shape_fault_not_15 (Cut c) = count_alone 2
  shape_fault_not_15 Weakening = count_alone 1
  shape_fault_not_15 Contraction = count_alone 1
  shape_fault_not_15 Dereliction = count_alone 1
  shape_fault_not_15 (FocusPositive i) = none_not_15
  shape_fault_not_15 (FocusNegative i) = none_not_15
  shape_fault_not_15 Blur = none_not_15
