use Rattle.bags.specs.RunsLaws.{one_reads, two_reads}
use Rattle.std.proofs.Common.{sym, ◌∙◌}
use borrow.Author.Tests.{ne_eqb}
use Rattle.strict.specs.StepsLaws.{bottom_other, bottom_told}
use Rattle.strict.proofs.Step.bottom_step.Goals as goal

pub returns-then-self-eq1 : goal.returns-then-self-eq1
returns-then-self-eq1 c = record { right = λ x Q P x_is q_is p_is. bottom_told x Q P (sym x_is.tag_is ∙ c.if-self-eq1.true) (c.same_bag.ensures.right _ _ (one_reads (c.linear.ensures.reads q_is)) (two_reads x_is.whole_reads (c.linear-then-self-eq1.ensures.reads p_is))) }

pub returns-else-self-eq1 : goal.returns-else-self-eq1
returns-else-self-eq1 c = record { right = λ x Q P x_is q_is p_is. ne_eqb _ _ c.if-self-eq1.false ∙ bottom_other x Q P (λ e. c.if-self-eq1.false (x_is.tag_is ∙ e)) }
