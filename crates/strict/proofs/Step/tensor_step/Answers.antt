use Rattle.bags.specs.RunsLaws.{three_reads}
use Rattle.std.proofs.Common.{sym, ◌∙◌, arith}
use Rattle.std.proofs.lemmas.Bool.{false≢true}
use borrow.Author.Tests.{eqb-true}
use Rattle.strict.specs.StepsLaws.{tensor_other, tensor_no_left, tensor_no_right, tensor_told}
use Rattle.strict.proofs.Step.tensor_step.Goals as goal
use Rattle.strict.proofs.Step.tensor_step.Goals.{then-self-eq6, else-self-eq6, then-stands_in, else-stands_in}

pub returns-then-stands_in-2 : goal.returns-then-stands_in-2
returns-then-stands_in-2 c = record {
  right = λ x Q P P' x_is q_is p_is p'_is.
      elim c.if-stands_in.branch [
        | then-stands_in w ↦ elim c.if-self-eq6.branch [
          | then-self-eq6 v ↦ let tag = v.if-self-eq6.true in
              tensor_told x Q P P' (sym x_is.tag_is ∙ tag) (v.stands_in.ensures.right (x_is.left_reads (omega (arith, tag))) (v.linear.ensures.reads p_is)) (sym v.value-is ∙ w.if-stands_in.true) (w.stands_in-then-stands_in.ensures.right (x_is.right_reads (omega (arith, tag)) (omega (arith, tag))) (w.linear-then-stands_in.ensures.reads p'_is)) (sym w.value-is ∙ c.if-stands_in-2.true) (c.same_bag.ensures.right _ _ (three_reads x_is.whole_reads (c.linear-then-stands_in-2.ensures.reads p_is) (c.linear-then-stands_in-2-2.ensures.reads p'_is)) (three_reads (x_is.left_reads (omega (arith, tag))) (x_is.right_reads (omega (arith, tag)) (omega (arith, tag))) (c.linear-then-stands_in-2-3.ensures.reads q_is)))
          | else-self-eq6 v ↦ absurd (v.if-self-eq6.false (eqb-true _ _ (sym v.value-is ∙ w.if-stands_in.true)))
        ]
        | else-stands_in w ↦ absurd (false≢true (sym w.if-stands_in.false ∙ sym w.value-is ∙ c.if-stands_in-2.true))
      ];
}

pub returns-else-stands_in-2 : goal.returns-else-stands_in-2
returns-else-stands_in-2 c = record {
  right = λ x Q P P' x_is q_is p_is p'_is.
      c.if-stands_in-2.false ∙ elim c.if-stands_in.branch [
        | then-stands_in w ↦ elim c.if-self-eq6.branch [
          | then-self-eq6 v ↦ let tag = v.if-self-eq6.true in
              tensor_no_right x Q P P' (sym x_is.tag_is ∙ tag) (v.stands_in.ensures.right (x_is.left_reads (omega (arith, tag))) (v.linear.ensures.reads p_is)) (sym v.value-is ∙ w.if-stands_in.true) (w.stands_in-then-stands_in.ensures.right (x_is.right_reads (omega (arith, tag)) (omega (arith, tag))) (w.linear-then-stands_in.ensures.reads p'_is)) (sym w.value-is ∙ c.if-stands_in-2.false)
          | else-self-eq6 v ↦ absurd (v.if-self-eq6.false (eqb-true _ _ (sym v.value-is ∙ w.if-stands_in.true)))
        ]
        | else-stands_in w ↦ elim c.if-self-eq6.branch [
          | then-self-eq6 v ↦ let tag = v.if-self-eq6.true in
              tensor_no_left x Q P P' (sym x_is.tag_is ∙ tag) (v.stands_in.ensures.right (x_is.left_reads (omega (arith, tag))) (v.linear.ensures.reads p_is)) (sym v.value-is ∙ w.if-stands_in.false)
          | else-self-eq6 v ↦ tensor_other x Q P P' (λ e. v.if-self-eq6.false (x_is.tag_is ∙ e))
        ]
      ];
}
