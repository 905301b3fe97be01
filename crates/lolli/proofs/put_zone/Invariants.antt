-- `lolli::put_zone` is safe and ends: the bytes of the zone that are still to be printed fall.
use Rattle.std.proofs.Common.{◌-◌, ◌≤◌}
use Rattle.lolli.proofs.put_zone.Given as goal

abbrev pub invariant-loop-p : goal.invariant-loop-p
invariant-loop-p g l = (l.zone.start ≤ l.p) × (l.p ≤ l.zone.end)

abbrev pub decreases-loop-p : goal.decreases-loop-p
decreases-loop-p g l = l.zone.end - l.p
