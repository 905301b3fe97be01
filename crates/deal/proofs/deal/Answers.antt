use native.Mathlib.Omega.{arith}
use Rattle.deal.specs.DealLaws.{dealt_length, cell_answers}
use Rattle.deal.proofs.deal.Goals as goal

pub returns-then-l-n : goal.returns-then-l-n
returns-then-l-n c = λ m d. omega (arith, dealt_length c.args.others.now d)

pub returns-then-r-n : goal.returns-then-r-n
returns-then-r-n c = λ m d. c.if-r-n.true (omega (arith, dealt_length c.args.others.now d))

pub returns : goal.returns
returns c = cell_answers c.table.result c.table.ensures
