use mathlib.Core.Path.{ap}
use native.Mathlib.Omega.{arith}
use Rattle.rule.specs.Numbers.{number_of}
use Rattle.rule.specs.NumbersLaws.{one_rule, one_of_two, one_of_three}
use Rattle.rule.specs.declared.Rule.TheVariants.{Axiom, OneIntro, TensorIntro, PlusIntroLeft, PlusIntroRight, OfCourseIntro, Weakening, Contraction, Dereliction}
use Rattle.step.proofs.TakingSteps.{focused_axiom_place, focused_axiom, focused_one, focused_tensor, focused_plus, focused_of_course, focused_kept, focused_other}
use Rattle.step.proofs.takes_focused.Goals as goal

pub returns-then-place-eq0 : goal.returns-then-place-eq0
returns-then-place-eq0 c = focused_axiom c.requires (ap number_of c.in-Axiom.is) c.if-place-eq0.true c.is_pair.ensures

pub returns-else-place-eq0 : goal.returns-else-place-eq0
returns-else-place-eq0 c = focused_axiom_place c.requires (ap number_of c.in-Axiom.is) c.if-place-eq0.false

pub returns-in-OneIntro : goal.returns-in-OneIntro
returns-in-OneIntro c = focused_one c.requires (ap number_of c.in-OneIntro.is) c.is_alone.ensures

pub returns-in-TensorIntro : goal.returns-in-TensorIntro
returns-in-TensorIntro c = focused_tensor c.requires (ap number_of c.in-TensorIntro.is) c.is_split.ensures

pub returns-in-PlusIntroLeft : goal.returns-in-PlusIntroLeft
returns-in-PlusIntroLeft c = let k = one_of_two c.in-PlusIntroLeft.is in focused_plus c.requires (omega (arith, k)) (omega (arith, k)) c.tag_at.ensures

pub returns-in-OfCourseIntro : goal.returns-in-OfCourseIntro
returns-in-OfCourseIntro c = focused_of_course c.requires (ap number_of c.in-OfCourseIntro.is) c.is_alone-in-OfCourseIntro.ensures

pub returns-in-Weakening : goal.returns-in-Weakening
returns-in-Weakening c = let k = one_of_three c.in-Weakening.is in focused_kept c.requires (omega (arith, k)) (omega (arith, k))

pub returns-in_default : goal.returns-in_default
returns-in_default c =
    let d = c.in_default in
    focused_other c.requires (
      (
        (
          (
            (
              (
                (((tt, λ e. d.not-Axiom (one_rule _ Axiom e)), λ e. d.not-OneIntro (one_rule _ OneIntro e)), λ e. d.not-TensorIntro (one_rule _ TensorIntro e)),
                λ e. d.not-PlusIntroLeft (one_rule _ PlusIntroLeft e),
              ),
              λ e. d.not-PlusIntroRight (one_rule _ PlusIntroRight e),
            ),
            λ e. d.not-OfCourseIntro (one_rule _ OfCourseIntro e),
          ),
          λ e. d.not-Weakening (one_rule _ Weakening e),
        ),
        λ e. d.not-Contraction (one_rule _ Contraction e),
      ),
      λ e. d.not-Dereliction (one_rule _ Dereliction e),
    )
