use Prim.Native.Nat.{◌-◌}
use lib.ListN.{length}
use Rattle.formula.proofs.rewrite.+rewrite.Given as goal

abbrev pub decreases-rewrite : goal.decreases-rewrite
decreases-rewrite l = length l.s.now - l.at
