use Rattle.bags.specs.RunsLaws.{one_reads}
use Rattle.strict.proofs.Premises.keeps_zone.Goals as goal

pub returns : goal.returns
returns c = record { right = λ Q P q_is p_is. c.same_bag.ensures.right _ _ (one_reads (c.unrestricted.ensures.reads p_is)) (one_reads (c.unrestricted-2.ensures.reads q_is)) }
