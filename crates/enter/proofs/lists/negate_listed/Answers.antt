use Rattle.std.proofs.Common.{rules}
use Rattle.enter.proofs.ListSteps.{turning_starts, turning_over, turning_more}
use Rattle.held.proofs.TurnSteps.{entered_at, entered_full}
use mathlib.Core.Path.{refl}
use Rattle.enter.proofs.lists.negate_listed.Goals as goal

pub loop-k-init : goal.loop-k-init
loop-k-init c = turning_starts _ _ _ c.requires

pub returns-in_err-i : goal.returns-in_err-i
returns-in_err-i c = let h = turning_over _ _ _ _ _ c.loop-k.k _ c.loop-k.invariant c.loop-k-test.true refl _ (entered_full _ _ c.negate_held.result _ c.negate_held.ensures c.in_err-i.was) in search rules

pub loop-k-preserved : goal.loop-k-preserved
loop-k-preserved c = turning_more _ _ _ _ _ c.loop-k.k _ c.loop-k.invariant c.loop-k-test.true refl _ _ (entered_at _ _ c.negate_held.result _ _ c.negate_held.ensures c.in_ok-i.was)
