use Rattle.deal.proofs.Steps.{Filled}
use Rattle.deal.proofs.table.Given as goal

abbrev pub invariant-loop-i : goal.invariant-loop-i
invariant-loop-i l = Filled l.fn.d.others.now l.fn.d.l.now l.fn.d.r.now l.row l.i
