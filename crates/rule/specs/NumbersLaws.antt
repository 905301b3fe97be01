-- The rules' numbers: 18 of them, each of one rule alone.
use mathlib.Core.Logic.{inl, inr}
use mathlib.Core.Path.{refl, sym, ap, ◌∙◌}
use native.Mathlib.Omega.{arith}
use Rattle.std.specs.Prelude.{◌≡◌, List, [], ◌∷◌, ℕ, ◌<◌, ◌⊎◌, get_or}
use Rattle.rule.specs.Numbers.{number_of}
use Rattle.rule.specs.declared.Rule.{Rule}
use Rattle.rule.specs.declared.Rule.TheVariants.{Axiom, Cut, OneIntro, BottomIntro, TensorIntro, ParIntro, TopIntro, WithIntro, PlusIntroLeft, PlusIntroRight, OfCourseIntro, WhyNotIntro, Weakening, Contraction, Dereliction, FocusPositive, FocusNegative, Blur}

abbrev by_number : List Rule
by_number = Axiom ∷ Cut ∷ OneIntro ∷ BottomIntro ∷ TensorIntro ∷ ParIntro ∷ TopIntro ∷ WithIntro ∷ PlusIntroLeft ∷ PlusIntroRight ∷ OfCourseIntro ∷ WhyNotIntro ∷ Weakening ∷ Contraction ∷ Dereliction ∷ FocusPositive ∷ FocusNegative ∷ Blur ∷ []

numbered : (r : Rule) → get_or by_number (number_of r) Blur ≡ r
numbered Axiom = refl
numbered Cut = refl
numbered OneIntro = refl
numbered BottomIntro = refl
numbered TensorIntro = refl
numbered ParIntro = refl
numbered TopIntro = refl
numbered WithIntro = refl
numbered PlusIntroLeft = refl
numbered PlusIntroRight = refl
numbered OfCourseIntro = refl
numbered WhyNotIntro = refl
numbered Weakening = refl
numbered Contraction = refl
numbered Dereliction = refl
numbered FocusPositive = refl
numbered FocusNegative = refl
numbered Blur = refl

pub one_rule : (r r' : Rule) → number_of r ≡ number_of r' → r ≡ r'
one_rule r r' e = sym (numbered r) ∙ ap (λ (n : ℕ). get_or by_number n Blur) e ∙ numbered r'

pub below_18 : (r : Rule) → number_of r < 18
below_18 Axiom = omega arith
below_18 Cut = omega arith
below_18 OneIntro = omega arith
below_18 BottomIntro = omega arith
below_18 TensorIntro = omega arith
below_18 ParIntro = omega arith
below_18 TopIntro = omega arith
below_18 WithIntro = omega arith
below_18 PlusIntroLeft = omega arith
below_18 PlusIntroRight = omega arith
below_18 OfCourseIntro = omega arith
below_18 WhyNotIntro = omega arith
below_18 Weakening = omega arith
below_18 Contraction = omega arith
below_18 Dereliction = omega arith
below_18 FocusPositive = omega arith
below_18 FocusNegative = omega arith
below_18 Blur = omega arith

-- a rule that is one of several has one of their numbers
pub one_of_two : {r a b : Rule} → (r ≡ a) ⊎ (r ≡ b) → (number_of r ≡ number_of a) ⊎ (number_of r ≡ number_of b)
one_of_two (inl e) = inl (ap number_of e)
one_of_two (inr e) = inr (ap number_of e)

pub one_of_three : {r a b c : Rule} → (r ≡ a) ⊎ ((r ≡ b) ⊎ (r ≡ c)) → (number_of r ≡ number_of a) ⊎ ((number_of r ≡ number_of b) ⊎ (number_of r ≡ number_of c))
one_of_three (inl e) = inl (ap number_of e)
one_of_three (inr e) = inr (one_of_two e)

pub one_of_four : {r a b c d : Rule} → (r ≡ a) ⊎ ((r ≡ b) ⊎ ((r ≡ c) ⊎ (r ≡ d))) → (number_of r ≡ number_of a) ⊎ ((number_of r ≡ number_of b) ⊎ ((number_of r ≡ number_of c) ⊎ (number_of r ≡ number_of d)))
one_of_four (inl e) = inl (ap number_of e)
one_of_four (inr e) = inr (one_of_three e)
