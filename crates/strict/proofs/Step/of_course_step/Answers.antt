use Rattle.bags.specs.RunsLaws.{one_reads}
use Rattle.std.proofs.Common.{sym, ◌∙◌, arith}
use Rattle.strict.specs.StepsLaws.{of_course_other, of_course_no, of_course_told}
use borrow.Author.Tests.{eqb-true}
use Rattle.strict.proofs.Step.of_course_step.Goals as goal
use Rattle.strict.proofs.Step.of_course_step.Goals.{then-self-eq11, else-self-eq11}

pub returns-then-same_bag : goal.returns-then-same_bag
returns-then-same_bag c = record {
  right = λ x Q P x_is q_is p_is.
      elim c.if-self-eq11.branch [
        | then-self-eq11 w ↦ let tag = w.if-self-eq11.true in
            of_course_told x Q P (sym x_is.tag_is ∙ tag) (w.same_bag.ensures.right _ _ (one_reads (w.linear.ensures.reads q_is)) (one_reads x_is.whole_reads)) (sym w.value-is ∙ c.if-same_bag.true) (c.same_bag-then-same_bag.ensures.right _ _ (one_reads (c.linear-then-same_bag.ensures.reads p_is)) (one_reads (x_is.left_reads (omega (arith, tag)))))
        | else-self-eq11 w ↦ absurd (w.if-self-eq11.false (eqb-true _ _ (sym w.value-is ∙ c.if-same_bag.true)))
      ];
}

pub returns-else-same_bag : goal.returns-else-same_bag
returns-else-same_bag c = record {
  right = λ x Q P x_is q_is p_is.
      c.if-same_bag.false ∙ elim c.if-self-eq11.branch [
        | then-self-eq11 w ↦ of_course_no x Q P (sym x_is.tag_is ∙ w.if-self-eq11.true) (w.same_bag.ensures.right _ _ (one_reads (w.linear.ensures.reads q_is)) (one_reads x_is.whole_reads)) (sym w.value-is ∙ c.if-same_bag.false)
        | else-self-eq11 w ↦ of_course_other x Q P (λ e. w.if-self-eq11.false (x_is.tag_is ∙ e))
      ];
}
