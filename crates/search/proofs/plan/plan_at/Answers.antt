use Rattle.search.proofs.Leaves.{undecomposable}
use Rattle.search.proofs.plan.plan_at.Goals as goal

pub returns-in_default : goal.returns-in_default
returns-in_default c = undecomposable _ _ c.shape_at-s.result c.shape_at-s.ensures c.in_default.not-Bottom c.in_default.not-Top c.in_default.not-Par c.in_default.not-With c.in_default.not-Lolli c.in_default.not-WhyNot
