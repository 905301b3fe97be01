use Rattle.bags.specs.RunsLaws.{one_reads, two_reads}
use Rattle.std.proofs.Common.{sym, ◌∙◌, arith}
use borrow.Author.Tests.{eqb-true}
use Rattle.strict.specs.StepsLaws.{why_not_other, why_not_no, why_not_told}
use Rattle.strict.proofs.Step.why_not_step.Goals as goal
use Rattle.strict.proofs.Step.why_not_step.Goals.{then-self-eq12, else-self-eq12}

pub returns-then-same_bag : goal.returns-then-same_bag
returns-then-same_bag c = record {
  right = λ x Q P x_is q_is p_is.
      elim c.if-self-eq12.branch [
        | then-self-eq12 w ↦ let tag = w.if-self-eq12.true in
            why_not_told x Q P (sym x_is.tag_is ∙ tag) (w.same_bag.ensures.right _ _ (one_reads (w.linear.ensures.reads q_is)) (two_reads x_is.whole_reads (w.linear-then-self-eq12.ensures.reads p_is))) (sym w.value-is ∙ c.if-same_bag.true) (c.same_bag-then-same_bag.ensures.right _ _ (one_reads (c.unrestricted.ensures.reads p_is)) (two_reads (c.plain.ensures.reads (x_is.part_reads (omega (arith, tag)))) (c.unrestricted-then-same_bag.ensures.reads q_is)))
        | else-self-eq12 w ↦ absurd (w.if-self-eq12.false (eqb-true _ _ (sym w.value-is ∙ c.if-same_bag.true)))
      ];
}

pub returns-else-same_bag : goal.returns-else-same_bag
returns-else-same_bag c = record {
  right = λ x Q P x_is q_is p_is.
      c.if-same_bag.false ∙ elim c.if-self-eq12.branch [
        | then-self-eq12 w ↦ why_not_no x Q P (sym x_is.tag_is ∙ w.if-self-eq12.true) (w.same_bag.ensures.right _ _ (one_reads (w.linear.ensures.reads q_is)) (two_reads x_is.whole_reads (w.linear-then-self-eq12.ensures.reads p_is))) (sym w.value-is ∙ c.if-same_bag.false)
        | else-self-eq12 w ↦ why_not_other x Q P (λ e. w.if-self-eq12.false (x_is.tag_is ∙ e))
      ];
}
