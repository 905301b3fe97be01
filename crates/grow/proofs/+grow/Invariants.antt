use lib.ListN.{length}
use Prim.Native.Nat.{◌-◌}
use Rattle.grow.proofs.+grow.Given as goal

abbrev pub decreases-grow : goal.decreases-grow
decreases-grow l = length l.s.now - l.at
