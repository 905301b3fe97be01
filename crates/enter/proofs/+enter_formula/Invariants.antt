use lib.ListN.{length}
use Prim.Native.Nat.{◌-◌}
use Rattle.enter.proofs.+enter_formula.Given as goal

abbrev pub decreases-enter_formula : goal.decreases-enter_formula
decreases-enter_formula l = length l.s.now - l.at
