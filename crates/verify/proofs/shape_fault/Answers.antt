use mathlib.Core.Path.{sym, ap, ◌∙◌}
use Rattle.rule.specs.Numbers.{number_of}
use Rattle.rule.specs.NumbersLaws.{one_of_two, one_of_three, one_of_four}
use Rattle.verify.specs.declared.Order.TheVariants as order
use Rattle.verify.specs.Shapes.{shape_tests, test_of}
use native.Mathlib.Omega.{arith}
use Rattle.verify.specs.ShapesLaws.{shape_found, shape_shared, plus_shared, count_shared, shape_none, order_answer}
use Rattle.verify.proofs.shape_fault.Goals as goal

pub returns-in-Axiom : goal.returns-in-Axiom
unfolding test_of shape_tests
returns-in-Axiom c = shape_found (sym c.in-Ok.ensures ∙ ap number_of c.in-Axiom.is) λ fs there. order_answer 0 c.args.n.premises order.Shape c.ordered_fault.ensures (c.is_axiom.ensures.is fs there)

pub returns-in-Cut : goal.returns-in-Cut
unfolding test_of shape_tests
returns-in-Cut c = shape_found (sym c.in-Ok.ensures ∙ ap number_of c.in-Cut.is) λ fs there. c.count_fault.ensures

pub returns-in-OneIntro : goal.returns-in-OneIntro
unfolding test_of shape_tests
returns-in-OneIntro c = shape_found (sym c.in-Ok.ensures ∙ ap number_of c.in-OneIntro.is) λ fs there. order_answer 0 c.args.n.premises order.Shape c.ordered_fault-in-OneIntro.ensures (c.is_one.ensures.is fs there)

pub returns-in-BottomIntro : goal.returns-in-BottomIntro
unfolding test_of shape_tests
returns-in-BottomIntro c = shape_found (sym c.in-Ok.ensures ∙ ap number_of c.in-BottomIntro.is) λ fs there. order_answer 1 c.args.n.premises order.Shape c.ordered_fault-in-BottomIntro.ensures (c.has_tag.ensures.is fs there)

pub returns-in-TensorIntro : goal.returns-in-TensorIntro
unfolding test_of shape_tests
returns-in-TensorIntro c = shape_found (sym c.in-Ok.ensures ∙ ap number_of c.in-TensorIntro.is) λ fs there. order_answer 2 c.args.n.premises order.Count c.ordered_fault-in-TensorIntro.ensures (c.has_tag-in-TensorIntro.ensures.is fs there)

pub returns-in-ParIntro : goal.returns-in-ParIntro
unfolding test_of shape_tests
returns-in-ParIntro c = shape_found (sym c.in-Ok.ensures ∙ ap number_of c.in-ParIntro.is) λ fs there. order_answer 1 c.args.n.premises order.Count c.ordered_fault-in-ParIntro.ensures (c.has_tag-in-ParIntro.ensures.is fs there)

pub returns-in-TopIntro : goal.returns-in-TopIntro
unfolding test_of shape_tests
returns-in-TopIntro c = shape_found (sym c.in-Ok.ensures ∙ ap number_of c.in-TopIntro.is) λ fs there. order_answer 0 c.args.n.premises order.Shape c.ordered_fault-in-TopIntro.ensures (c.has_tag-in-TopIntro.ensures.is fs there)

pub returns-in-WithIntro : goal.returns-in-WithIntro
unfolding test_of shape_tests
returns-in-WithIntro c = shape_found (sym c.in-Ok.ensures ∙ ap number_of c.in-WithIntro.is) λ fs there. order_answer 2 c.args.n.premises order.Count c.ordered_fault-in-WithIntro.ensures (c.has_tag-in-WithIntro.ensures.is fs there)

pub returns-in-PlusIntroLeft : goal.returns-in-PlusIntroLeft
returns-in-PlusIntroLeft c = let k = one_of_two c.in-PlusIntroLeft.is in shape_shared 8 2 plus_shared (omega (arith, c.in-Ok.ensures, k)) (omega (arith, c.in-Ok.ensures, k)) λ fs there. order_answer 1 c.args.n.premises order.Count c.ordered_fault-in-PlusIntroLeft.ensures (c.has_tag-in-PlusIntroLeft.ensures.is fs there)

pub returns-in-OfCourseIntro : goal.returns-in-OfCourseIntro
unfolding test_of shape_tests
returns-in-OfCourseIntro c = shape_found (sym c.in-Ok.ensures ∙ ap number_of c.in-OfCourseIntro.is) λ fs there. order_answer 1 c.args.n.premises order.Count c.ordered_fault-in-OfCourseIntro.ensures (c.has_tag-in-OfCourseIntro.ensures.is fs there)

pub returns-in-WhyNotIntro : goal.returns-in-WhyNotIntro
returns-in-WhyNotIntro c = let k = one_of_four c.in-WhyNotIntro.is in shape_shared 11 4 count_shared (omega (arith, c.in-Ok.ensures, k)) (omega (arith, c.in-Ok.ensures, k)) λ fs there. c.count_fault-in-WhyNotIntro.ensures

pub returns-in_default : goal.returns-in_default
returns-in_default c = shape_none (omega (arith, c.in_default.ensures.1))

pub returns-in-FocusPositive : goal.returns-in-FocusPositive
returns-in-FocusPositive c = let k = one_of_three c.in-FocusPositive.is in shape_none (omega (arith, c.in-Ok.ensures, k))
