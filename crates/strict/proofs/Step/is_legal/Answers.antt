use mathlib.Core.Path.{sym, ap, ◌∙◌}
use Rattle.std.proofs.Common.{◌≡◌}
use Rattle.rule.specs.Numbers.{number_of}
use Rattle.rule.specs.NumbersLaws.{one_rule}
use Rattle.rule.specs.declared.Rule.TheVariants.{BottomIntro, TensorIntro, ParIntro, WithIntro, PlusIntroLeft, PlusIntroRight, OfCourseIntro, WhyNotIntro, Weakening, Contraction, Dereliction}
use native.Mathlib.Omega.{arith}
use Rattle.logic.specs.Formula.{spell}
use Rattle.logic.specs.Parts.{left_part, right_part}
use Rattle.strict.specs.Steps.{step_by}
use Rattle.strict.specs.RulesLaws.{step_found, step_none, step_past}
use Rattle.strict.proofs.Step.is_legal.Goals as goal

pub returns-in-BottomIntro : goal.returns-in-BottomIntro
unfolding step_by
returns-in-BottomIntro c = step_found (sym c.in-Ok.ensures ∙ ap number_of c.in-BottomIntro.is) λ x Q P P' here q_is p_is p'_is. c.bottom_step.ensures.right x Q P here q_is p_is

pub returns-in-TensorIntro : goal.returns-in-TensorIntro
unfolding step_by
returns-in-TensorIntro c = step_found (sym c.in-Ok.ensures ∙ ap number_of c.in-TensorIntro.is) λ x Q P P' here q_is p_is p'_is. c.tensor_step.ensures.right x Q P P' here q_is p_is p'_is

pub returns-in-ParIntro : goal.returns-in-ParIntro
unfolding step_by
returns-in-ParIntro c = step_found (sym c.in-Ok.ensures ∙ ap number_of c.in-ParIntro.is) λ x Q P P' here q_is p_is p'_is. c.par_step.ensures.right x Q P here q_is p_is

pub returns-in-WithIntro : goal.returns-in-WithIntro
unfolding step_by
returns-in-WithIntro c = step_found (sym c.in-Ok.ensures ∙ ap number_of c.in-WithIntro.is) λ x Q P P' here q_is p_is p'_is. c.with_step.ensures.right x Q P P' here q_is p_is p'_is

pub returns-in-PlusIntroLeft : goal.returns-in-PlusIntroLeft
unfolding step_by
returns-in-PlusIntroLeft c = step_found (sym c.in-Ok.ensures ∙ ap number_of c.in-PlusIntroLeft.is) λ x Q P P' here q_is p_is p'_is. c.plus_step.ensures.right x (left_part (spell x)) Q P here (λ e. here.left_reads (omega (arith, e))) q_is p_is

pub returns-in-PlusIntroRight : goal.returns-in-PlusIntroRight
unfolding step_by
returns-in-PlusIntroRight c = step_found (sym c.in-Ok.ensures ∙ ap number_of c.in-PlusIntroRight.is) λ x Q P P' here q_is p_is p'_is. c.plus_step-in-PlusIntroRight.ensures.right x (right_part (spell x)) Q P here (λ e. here.right_reads (omega (arith, e)) (omega (arith, e))) q_is p_is

pub returns-in-OfCourseIntro : goal.returns-in-OfCourseIntro
unfolding step_by
returns-in-OfCourseIntro c = step_found (sym c.in-Ok.ensures ∙ ap number_of c.in-OfCourseIntro.is) λ x Q P P' here q_is p_is p'_is. c.of_course_step.ensures.right x Q P here q_is p_is

pub returns-in-WhyNotIntro : goal.returns-in-WhyNotIntro
unfolding step_by
returns-in-WhyNotIntro c = step_found (sym c.in-Ok.ensures ∙ ap number_of c.in-WhyNotIntro.is) λ x Q P P' here q_is p_is p'_is. c.why_not_step.ensures.right x Q P here q_is p_is

pub returns-in-Weakening : goal.returns-in-Weakening
unfolding step_by
returns-in-Weakening c = step_found (sym c.in-Ok.ensures ∙ ap number_of c.in-Weakening.is) λ x Q P P' here q_is p_is p'_is. c.weakening_step.ensures.right x Q P here q_is p_is

pub returns-in-Contraction : goal.returns-in-Contraction
unfolding step_by
returns-in-Contraction c = step_found (sym c.in-Ok.ensures ∙ ap number_of c.in-Contraction.is) λ x Q P P' here q_is p_is p'_is. c.contraction_step.ensures.right x Q P here q_is p_is

pub returns-in-Dereliction : goal.returns-in-Dereliction
unfolding step_by
returns-in-Dereliction c = step_found (sym c.in-Ok.ensures ∙ ap number_of c.in-Dereliction.is) λ x Q P P' here q_is p_is p'_is. c.dereliction_step.ensures.right x Q P here q_is p_is

pub returns-in_default : goal.returns-in_default
returns-in_default c = step_past (omega (arith, c.in_default.ensures.1))

pub returns-in_default-rule : goal.returns-in_default-rule
returns-in_default-rule c =
    let k : number_of c.in-Ok.rule ≡ c.args.self.now.of.q.rule = c.in-Ok.ensures in
    let none = c.in_default-rule in
    step_none (((((((((((tt, λ e. none.not-BottomIntro (one_rule _ BottomIntro (k ∙ e))), λ e. none.not-TensorIntro (one_rule _ TensorIntro (k ∙ e))), λ e. none.not-ParIntro (one_rule _ ParIntro (k ∙ e))), λ e. none.not-WithIntro (one_rule _ WithIntro (k ∙ e))), λ e. none.not-PlusIntroLeft (one_rule _ PlusIntroLeft (k ∙ e))), λ e. none.not-PlusIntroRight (one_rule _ PlusIntroRight (k ∙ e))), λ e. none.not-OfCourseIntro (one_rule _ OfCourseIntro (k ∙ e))), λ e. none.not-WhyNotIntro (one_rule _ WhyNotIntro (k ∙ e))), λ e. none.not-Weakening (one_rule _ Weakening (k ∙ e))), λ e. none.not-Contraction (one_rule _ Contraction (k ∙ e))), λ e. none.not-Dereliction (one_rule _ Dereliction (k ∙ e)))
