use Rattle.bags.specs.RunsLaws.{three_reads, three_within, two_reads, two_within}
use Rattle.std.proofs.Common.{refl, sym, ◌∙◌}
use Rattle.std.proofs.lemmas.Bool.{false≢true}
use Rattle.strict.specs.ZonesLaws.{cut_within, cut_reads, dual_reads}
use Rattle.strict.specs.StepsLaws.{cut_no_left, cut_no_right, cut_told}
use Rattle.strict.proofs.Premises.cut_step.Goals as goal
use Rattle.strict.proofs.Premises.cut_step.Goals.{then-stands_in, else-stands_in}

pub stands_in-requires-then-stands_in : goal.stands_in-requires-then-stands_in
stands_in-requires-then-stands_in c = let node = c.args.self.now in
    (cut_within c.part_end-end.ensures node.conclusion_inside.argument_inside, c.linear-then-stands_in.ensures.within node.second_inside)

pub same_bag-requires : goal.same_bag-requires
same_bag-requires c = let node = c.args.self.now in
    let ends = c.part_end-end.ensures in
    let at = node.conclusion_inside.argument_inside in
    (node.short, two_within (c.linear-then-stands_in-2.ensures.within node.premise_inside) (c.linear-then-stands_in-2-2.ensures.within node.second_inside), three_within (cut_within ends at) (cut_within ends at) (c.linear-then-stands_in-2-3.ensures.within node.conclusion_inside))

pub returns-then-stands_in-2 : goal.returns-then-stands_in-2
returns-then-stands_in-2 c = let ends = c.part_end-end.ensures in
    record {
      right = λ x Q P P' x_is q_is p_is p'_is.
          elim c.if-stands_in.branch [
            | then-stands_in w ↦ cut_told x Q P P' (c.stands_in.ensures.right (cut_reads ends x_is refl) (c.linear.ensures.reads p_is)) w.if-stands_in.true (w.stands_in-then-stands_in.ensures.right (dual_reads ends x_is refl) (w.linear-then-stands_in.ensures.reads p'_is)) (sym w.value-is ∙ c.if-stands_in-2.true) (c.same_bag.ensures.right _ _ (two_reads (c.linear-then-stands_in-2.ensures.reads p_is) (c.linear-then-stands_in-2-2.ensures.reads p'_is)) (three_reads (cut_reads ends x_is refl) (dual_reads ends x_is refl) (c.linear-then-stands_in-2-3.ensures.reads q_is)))
            | else-stands_in w ↦ absurd (false≢true (sym w.if-stands_in.false ∙ sym w.value-is ∙ c.if-stands_in-2.true))
          ];
    }

pub returns-else-stands_in-2 : goal.returns-else-stands_in-2
returns-else-stands_in-2 c = let ends = c.part_end-end.ensures in
    record {
      right = λ x Q P P' x_is q_is p_is p'_is.
          c.if-stands_in-2.false ∙ elim c.if-stands_in.branch [
            | then-stands_in w ↦ cut_no_right x Q P P' (c.stands_in.ensures.right (cut_reads ends x_is refl) (c.linear.ensures.reads p_is)) w.if-stands_in.true (w.stands_in-then-stands_in.ensures.right (dual_reads ends x_is refl) (w.linear-then-stands_in.ensures.reads p'_is)) (sym w.value-is ∙ c.if-stands_in-2.false)
            | else-stands_in w ↦ cut_no_left x Q P P' (c.stands_in.ensures.right (cut_reads ends x_is refl) (c.linear.ensures.reads p_is)) w.if-stands_in.false
          ];
    }
