-- `memory_runs::full::spell` calls within what the memory asks: the memory was tested, the number is below the count, and the shape is an implication's.
use Rattle.std.proofs.Common.{arith}
use Rattle.memory_runs.proofs.Steps.{number_held}
use Rattle.memory_runs.proofs.full.spell.Goals as goal

pub shape_at-requires : goal.shape_at-requires
shape_at-requires c = (c.if-not-well_formed.ensures, number_held _ _ (omega (arith, c.if-mem-x.false)))

pub spell-requires : goal.spell-requires
spell-requires c = record {
  wf = c.if-not-well_formed.ensures;
  low = number_held _ _ (omega (arith, c.if-mem-x.false));
  left = _;
  right = _;
  here = c.in-Lolli.ensures.here;
}
