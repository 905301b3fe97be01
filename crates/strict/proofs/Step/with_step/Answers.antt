use Rattle.std.proofs.Common.{sym, ◌∙◌, arith}
use borrow.Author.Tests.{eqb-true}
use Rattle.strict.specs.StepsLaws.{with_other, with_no, with_told, with_whole}
use Rattle.strict.proofs.Step.with_step.Goals as goal
use Rattle.strict.proofs.Step.with_step.Goals.{then-self-eq8, else-self-eq8}

pub returns-then-is_replaced : goal.returns-then-is_replaced
returns-then-is_replaced c = record {
  right = λ x Q P P' x_is q_is p_is p'_is.
      elim c.if-self-eq8.branch [
        | then-self-eq8 w ↦ let tag = w.if-self-eq8.true in
            with_told x Q P P' (sym x_is.tag_is ∙ tag) (w.is_replaced.ensures.right _ _ Q P (with_whole x (sym x_is.tag_is ∙ tag) x_is.whole_reads) (x_is.left_reads (omega (arith, tag))) q_is p_is) (sym w.value-is ∙ c.if-is_replaced.true) (c.is_replaced-then-is_replaced.ensures.right _ _ Q P' (with_whole x (sym x_is.tag_is ∙ tag) x_is.whole_reads) (x_is.right_reads (omega (arith, tag)) (omega (arith, tag))) q_is p'_is)
        | else-self-eq8 w ↦ absurd (w.if-self-eq8.false (eqb-true _ _ (sym w.value-is ∙ c.if-is_replaced.true)))
      ];
}

pub returns-else-is_replaced : goal.returns-else-is_replaced
returns-else-is_replaced c = record {
  right = λ x Q P P' x_is q_is p_is p'_is.
      c.if-is_replaced.false ∙ elim c.if-self-eq8.branch [
        | then-self-eq8 w ↦ let tag = w.if-self-eq8.true in
            with_no x Q P P' (sym x_is.tag_is ∙ tag) (w.is_replaced.ensures.right _ _ Q P (with_whole x (sym x_is.tag_is ∙ tag) x_is.whole_reads) (x_is.left_reads (omega (arith, tag))) q_is p_is) (sym w.value-is ∙ c.if-is_replaced.false)
        | else-self-eq8 w ↦ with_other x Q P P' (λ e. w.if-self-eq8.false (x_is.tag_is ∙ e))
      ];
}
