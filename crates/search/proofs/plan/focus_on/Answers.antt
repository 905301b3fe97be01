use Rattle.search.proofs.Leaves.{linear_here, not_alone_one, two_here, not_alone_of_course, not_focused}
use mathlib.Core.Path.{subst, ◌∙◌}
use Rattle.zones.specs.ZonesLaws.{within_linear}
use Rattle.memory.specs.Shapes.{ShapeOf}
use Rattle.search.proofs.plan.focus_on.Goals as goal

pub shape_at-s-requires : goal.shape_at-s-requires
shape_at-s-requires c = (c.requires.0.0, within_linear _ c.requires.0.1.fits c.requires.0.1.within _ c.requires.1)

pub axiom_at-requires : goal.axiom_at-requires
axiom_at-requires c = (c.requires.0, (c.requires.1, linear_here _ c.requires.0.1.fits _ c.requires.1 ∙ subst (ShapeOf _ _) c.in-Atom.is c.shape_at-s.ensures))

pub returns-else-z-eq1 : goal.returns-else-z-eq1
returns-else-z-eq1 c = not_alone_one _ c.requires.0.1.fits _ c.requires.1 (linear_here _ c.requires.0.1.fits _ c.requires.1 ∙ subst (ShapeOf _ _) c.in-One.is c.shape_at-s.ensures) c.if-z-eq1.false

pub returns-in-Tensor : goal.returns-in-Tensor
returns-in-Tensor c = two_here _ c.requires.0.1.fits _ c.requires.1 _ _ _ (subst (ShapeOf _ _) c.in-Tensor.is c.shape_at-s.ensures)

pub returns-in-Plus : goal.returns-in-Plus
returns-in-Plus c = two_here _ c.requires.0.1.fits _ c.requires.1 _ _ _ (subst (ShapeOf _ _) c.in-Plus.is c.shape_at-s.ensures)

pub returns-else-z-eq1-2 : goal.returns-else-z-eq1-2
returns-else-z-eq1-2 c = not_alone_of_course _ c.requires.0.1.fits _ c.requires.1 _ (linear_here _ c.requires.0.1.fits _ c.requires.1 ∙ (subst (ShapeOf _ _) c.in-OfCourse.is c.shape_at-s.ensures).here) c.if-z-eq1-2.false

pub returns-in_default : goal.returns-in_default
returns-in_default c = not_focused _ c.requires.0.1.fits _ c.requires.1 c.shape_at-s.result c.shape_at-s.ensures c.in_default.not-Atom c.in_default.not-One c.in_default.not-Tensor c.in_default.not-Plus c.in_default.not-OfCourse
