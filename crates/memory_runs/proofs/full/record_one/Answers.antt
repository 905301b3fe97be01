-- `memory_runs::full::record_one` calls within what the memory asks: an empty sequent has room, and a sequent of one held formula stands in the memory.
use Rattle.std.proofs.Common.{arith}
use Rattle.memory_runs.proofs.Steps.{number_held, empty_room, one_stands}
use Rattle.memory_runs.proofs.full.record_one.Goals as goal

pub pushed-z-requires : goal.pushed-z-requires
pushed-z-requires c = (c.empty.ensures.fits, empty_room c.empty.ensures)

pub record_failure-requires : goal.record_failure-requires
record_failure-requires c = (c.if-not-well_formed.ensures, one_stands _ _ (number_held _ _ (omega (arith, c.if-mem-x.false))) c.empty.ensures c.pushed-z.ensures)
