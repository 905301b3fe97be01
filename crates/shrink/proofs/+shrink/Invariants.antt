use Prim.Native.Nat.{◌-◌}
use lib.ListN.{length}
use Rattle.shrink.proofs.+shrink.Given as goal

abbrev pub decreases-shrink : goal.decreases-shrink
decreases-shrink l = length l.s.now - l.at
