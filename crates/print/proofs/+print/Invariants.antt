use Prim.Native.Nat.{◌-◌}
use lib.ListN.{length}
use Rattle.print.proofs.+print.Given as goal

abbrev pub decreases-print : goal.decreases-print
decreases-print l = length l.s.now - l.p.next
