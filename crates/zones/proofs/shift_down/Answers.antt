use native.Mathlib.Omega.{arith}
use Rattle.zones.proofs.Steps.{shifted}
use Rattle.zones.proofs.shift_down.Goals as goal

pub returns : goal.returns
returns c = let a = c.copy_within.ensures in shifted (omega arith) (omega arith) a.len a.after
