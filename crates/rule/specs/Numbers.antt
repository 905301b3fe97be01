-- The rules by document 01's numbers: 0 to 17, in proof.rs's order. Assumes nothing.
use Rattle.std.specs.Prelude.{◌≡◌, ℕ, ◌<◌, Result, MatchResult}
use Rattle.rule.specs.declared.Rule.{Rule}
use Rattle.rule.specs.declared.Rule.TheVariants.{Axiom, Cut, OneIntro, BottomIntro, TensorIntro, ParIntro, TopIntro, WithIntro, PlusIntroLeft, PlusIntroRight, OfCourseIntro, WhyNotIntro, Weakening, Contraction, Dereliction, FocusPositive, FocusNegative, Blur}
use Rattle.rule.specs.declared.UnknownRule.{UnknownRule}

abbrev pub number_of : Rule → ℕ
number_of Axiom = 0
number_of Cut = 1
number_of OneIntro = 2
number_of BottomIntro = 3
number_of TensorIntro = 4
number_of ParIntro = 5
number_of TopIntro = 6
number_of WithIntro = 7
number_of PlusIntroLeft = 8
number_of PlusIntroRight = 9
number_of OfCourseIntro = 10
number_of WhyNotIntro = 11
number_of Weakening = 12
number_of Contraction = 13
number_of Dereliction = 14
number_of FocusPositive = 15
number_of FocusNegative = 16
number_of Blur = 17

-- the rule with this number, or an error that has a number above all of them
abbrev pub Decodes : ℕ → Result Rule UnknownRule → Type 0
Decodes n r = MatchResult r (λ rule. number_of rule ≡ n) (λ e. (e.0 ≡ n) × (17 < n))
