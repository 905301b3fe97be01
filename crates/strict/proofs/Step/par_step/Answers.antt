use Rattle.bags.specs.RunsLaws.{three_reads, two_reads}
use Rattle.std.proofs.Common.{sym, ◌∙◌, arith}
use borrow.Author.Tests.{ne_eqb}
use Rattle.strict.specs.StepsLaws.{par_other, par_told}
use Rattle.strict.proofs.Step.par_step.Goals as goal

pub returns-then-self-eq7 : goal.returns-then-self-eq7
returns-then-self-eq7 c = let tag = c.if-self-eq7.true in
    record { right = λ x Q P x_is q_is p_is. par_told x Q P (sym x_is.tag_is ∙ tag) (c.same_bag.ensures.right _ _ (two_reads x_is.whole_reads (c.linear.ensures.reads p_is)) (three_reads (x_is.left_reads (omega (arith, tag))) (x_is.right_reads (omega (arith, tag)) (omega (arith, tag))) (c.linear-then-self-eq7.ensures.reads q_is))) }

pub returns-else-self-eq7 : goal.returns-else-self-eq7
returns-else-self-eq7 c = record { right = λ x Q P x_is q_is p_is. ne_eqb _ _ c.if-self-eq7.false ∙ par_other x Q P (λ e. c.if-self-eq7.false (x_is.tag_is ∙ e)) }
