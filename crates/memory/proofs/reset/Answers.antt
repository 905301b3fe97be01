use native.Mathlib.Omega.{arith}
use Rattle.memory.proofs.WholeSteps.{front_length, reset_whole}
use Rattle.memory.proofs.reset.Goals as goal

pub slice_bounds-reset-end-2 : goal.slice_bounds-reset-end-2
slice_bounds-reset-end-2 c = front_length c.args.mem.now (omega (arith, c.if-mem-ne-WORDS.false))

pub returns : goal.returns
returns c = reset_whole c.args.mem.now c.reset.new.mem _ c.if-mem-ne-WORDS.false c.reset.result c.reset-2.result c.reset.ensures c.reset-2.ensures
