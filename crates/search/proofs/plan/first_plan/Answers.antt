use Rattle.search.proofs.Leaves.{passed_next, planned_here}
use native.Mathlib.Omega.{arith}
use Rattle.logic.specs.Built.{none_yet}
use Rattle.zones.specs.ZonesLaws.{within_linear}
use Rattle.search.specs.Plans.{PlannedAt}
use mathlib.Core.Path.{subst}
use Rattle.search.proofs.plan.first_plan.Goals as goal

pub loop-i-init : goal.loop-i-init
loop-i-init c = none_yet

pub plan_at-p-requires : goal.plan_at-p-requires
plan_at-p-requires c = (c.requires.0, within_linear _ c.requires.1.fits c.requires.1.within _ (omega arith))

pub loop-i-preserved : goal.loop-i-preserved
loop-i-preserved c = passed_next _ c.requires.1.fits _ (omega arith) c.loop-i.invariant (subst (PlannedAt _ _ _) c.in-Rest.is c.plan_at-p.ensures)

pub returns-in_default : goal.returns-in_default
returns-in_default c = planned_here _ c.requires.1.fits _ (omega arith) c.loop-i.invariant c.plan_at-p.result c.plan_at-p.ensures c.in_default.not-Rest
