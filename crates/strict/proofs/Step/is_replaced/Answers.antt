use Rattle.bags.specs.RunsLaws.{two_reads, two_within}
use Rattle.strict.specs.StepsLaws.{replaced}
use Rattle.strict.proofs.Step.is_replaced.Goals as goal

pub same_bag-requires : goal.same_bag-requires
same_bag-requires c = let step = c.args.self.now.ready in
    (step.short, two_within step.principal_within.whole_within (c.linear.ensures.within c.requires.1), two_within c.requires.0 (c.linear-2.ensures.within step.conclusion_inside))

pub returns : goal.returns
returns c = record { right = λ x a Q P whole_is part_is q_is p_is. replaced x a Q P (c.same_bag.ensures.right _ _ (two_reads whole_is (c.linear.ensures.reads p_is)) (two_reads part_is (c.linear-2.ensures.reads q_is))) }
