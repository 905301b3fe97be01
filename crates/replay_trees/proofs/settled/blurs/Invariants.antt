-- `replay_trees::settled::blurs` keeps the message's length.
use Rattle.std.proofs.Common.{◌≡◌, length}
use Rattle.replay_trees.proofs.settled.blurs.Given as goal

abbrev pub invariant-loop-k : goal.invariant-loop-k
invariant-loop-k l = 402 ≡ length l.s
