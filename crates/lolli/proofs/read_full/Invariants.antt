-- `lolli::read_full` reads within its buffer: what was read so far is not more than it holds.
use Rattle.std.proofs.Common.{◌≤◌, length}
use Rattle.lolli.proofs.read_full.Given as goal

abbrev pub invariant-loop : goal.invariant-loop
invariant-loop g l = l.done ≤ length l.buf
