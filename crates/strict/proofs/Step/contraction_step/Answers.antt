use Rattle.bags.specs.RunsLaws.{one_reads, three_reads}
use Rattle.std.proofs.Common.{◌∙◌}
use Rattle.strict.specs.StepsLaws.{contraction_no, contraction_told}
use Rattle.strict.proofs.Step.contraction_step.Goals as goal

pub returns-else-same_bag : goal.returns-else-same_bag
returns-else-same_bag c = record { right = λ x Q P x_is q_is p_is. c.if-same_bag.false ∙ contraction_no x Q P (c.same_bag.ensures.right _ _ (one_reads (c.linear.ensures.reads p_is)) (three_reads x_is.whole_reads x_is.whole_reads (c.linear-2.ensures.reads q_is))) c.if-same_bag.false }

pub returns-then-same_bag : goal.returns-then-same_bag
returns-then-same_bag c = record { right = λ x Q P x_is q_is p_is. contraction_told x Q P (c.same_bag.ensures.right _ _ (one_reads (c.linear.ensures.reads p_is)) (three_reads x_is.whole_reads x_is.whole_reads (c.linear-2.ensures.reads q_is))) c.if-same_bag.true (c.takes_out.ensures.right x Q P x_is q_is p_is) }
