use Rattle.expand.proofs.ByteSteps.{written_start, written_room, written_next}
use Rattle.expand.proofs.writers.items_bytes.Goals as goal

pub loop-x-init : goal.loop-x-init
loop-x-init c = written_start c.requires.good c.requires.room

pub formula_bytes-next-requires : goal.formula_bytes-next-requires
formula_bytes-next-requires c = written_room c.requires.good c.requires.room c.loop-x-test.true c.loop-x.invariant

pub loop-x-preserved : goal.loop-x-preserved
loop-x-preserved c = written_next c.requires.good c.requires.room c.loop-x-test.true c.loop-x.invariant c.formula_bytes-next.ensures
