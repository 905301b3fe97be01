-- `lolli::put_tree` is safe and ends: each node printed leaves fewer bytes, and each level left is one fewer.
use Rattle.std.proofs.Common.{◌+◌, ◌*◌, ◌-◌, ◌<◌, ◌≤◌, length}
use Rattle.lolli.proofs.put_tree.Given as goal

abbrev pub invariant-loop-at : goal.invariant-loop-at
invariant-loop-at g l = (l.level < 66) × (l.at ≤ length l.s)

abbrev pub decreases-loop-at : goal.decreases-loop-at
decreases-loop-at g l = 2 * (length l.s - l.at) + l.level
