use Rattle.bags.specs.RunsLaws.{one_reads, two_reads}
use Rattle.strict.specs.Steps.{takes_out}
use Rattle.strict.proofs.Step.takes_out.Goals as goal

pub returns : goal.returns
unfolding takes_out
returns c = record { right = λ x Q P x_is q_is p_is. c.same_bag.ensures.right _ _ (one_reads (c.unrestricted.ensures.reads q_is)) (two_reads (c.plain.ensures.reads x_is.plain_reads) (c.unrestricted-2.ensures.reads p_is)) }
