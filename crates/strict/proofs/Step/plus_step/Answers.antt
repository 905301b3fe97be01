use Rattle.std.proofs.Common.{sym, ◌∙◌}
use borrow.Author.Tests.{ne_eqb}
use Rattle.strict.specs.StepsLaws.{plus_other, plus_told, plus_whole}
use Rattle.strict.proofs.Step.plus_step.Goals as goal

pub returns-then-self-eq9 : goal.returns-then-self-eq9
returns-then-self-eq9 c = let tag = c.if-self-eq9.true in
    record { right = λ x a Q P x_is part_is q_is p_is. plus_told x Q P a (sym x_is.tag_is ∙ tag) (c.is_replaced.ensures.right _ _ Q P (plus_whole x (sym x_is.tag_is ∙ tag) x_is.whole_reads) (part_is tag) q_is p_is) }

pub returns-else-self-eq9 : goal.returns-else-self-eq9
returns-else-self-eq9 c = record { right = λ x a Q P x_is part_is q_is p_is. ne_eqb _ _ c.if-self-eq9.false ∙ plus_other x Q P a (λ e. c.if-self-eq9.false (x_is.tag_is ∙ e)) }
