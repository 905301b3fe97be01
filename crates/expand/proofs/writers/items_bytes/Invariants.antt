use Rattle.wire.specs.Write.{write_formulas}
use Rattle.held.specs.Words.{named}
use Rattle.expand.specs.Writing.{Wrote}
use Rattle.expand.proofs.writers.items_bytes.Given as goal

abbrev pub invariant-loop-x : goal.invariant-loop-x
invariant-loop-x l = Wrote l.initial.out l.to (write_formulas (named l.mem l.items l.x-index)) l.out l.next
