use Rattle.deal.specs.DealLaws.{at_end, at_step, left_putting, right_putting}
use Rattle.deal.proofs.cell.Goals as goal

pub returns-then-k-d : goal.returns-then-k-d
returns-then-k-d c = at_end c.requires c.if-k-d.true

pub put-a-requires : goal.put-a-requires
put-a-requires c = left_putting c.requires

pub put-b-requires : goal.put-b-requires
put-b-requires c = right_putting c.requires

pub returns : goal.returns
returns c = at_step c.requires c.if-k-d.false c.put-a.ensures c.put-b.ensures c.lesser.ensures
