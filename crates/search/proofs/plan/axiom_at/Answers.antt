use Rattle.search.proofs.Leaves.{not_beside, not_two, other_name, not_neg_atom}
use mathlib.Core.Path.{subst}
use native.Mathlib.Omega.{arith}
use Rattle.zones.specs.ZonesLaws.{within_linear}
use Rattle.memory.specs.Shapes.{ShapeOf}
use Rattle.search.proofs.plan.axiom_at.Goals as goal

pub shape_at-s-requires : goal.shape_at-s-requires
shape_at-s-requires c = (c.requires.0.0, within_linear _ c.requires.0.1.fits c.requires.0.1.within _ (omega arith))

pub returns-else-other-name : goal.returns-else-other-name
returns-else-other-name c = not_beside _ c.requires.0.1.fits _ c.requires.1.0 _ c.requires.1.1 c.if-z-eq2.true (other_name _ _ _ _ (subst (ShapeOf _ _) c.in-NegAtom.is c.shape_at-s.ensures) c.if-other-name.false)

pub returns-in_default : goal.returns-in_default
returns-in_default c = not_beside _ c.requires.0.1.fits _ c.requires.1.0 _ c.requires.1.1 c.if-z-eq2.true (not_neg_atom _ _ _ c.shape_at-s.result c.shape_at-s.ensures c.in_default.not-NegAtom)

pub returns-else-z-eq2 : goal.returns-else-z-eq2
returns-else-z-eq2 c = not_two _ c.requires.0.1.fits _ c.requires.1.0 _ c.requires.1.1 c.if-z-eq2.false
