use Rattle.deal.proofs.Steps.{Filling}
use Rattle.deal.proofs.fill.Given as goal

abbrev pub invariant-loop-j : goal.invariant-loop-j
invariant-loop-j l = Filling l.fn.d.others.now l.fn.d.l.now l.fn.d.r.now l.i l.initial.row l.row l.v l.j
