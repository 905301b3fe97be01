use native.Mathlib.Omega.{arith}
use Rattle.expand.proofs.NegationSteps.{number_some, number_none, table_next}
use Rattle.expand.proofs.negations.negations.Goals as goal
use Rattle.expand.proofs.negations.negations.Goals.{in-Some, in-None}

pub loop-x-preserved : goal.loop-x-preserved
loop-x-preserved c =
    elim c.match-negation.branch [
      | in-Some w ↦ rw w.table-is (table_next c.loop-x.invariant (omega (arith, c.loop-x-test.true, c.top-x-end.ensures.low)) (number_some _ _ c.negation.result _ c.requires.0 c.negation.ensures w.in-Some.is))
      | in-None w ↦ rw w.table-is (table_next c.loop-x.invariant (omega (arith, c.loop-x-test.true, c.top-x-end.ensures.low)) (number_none _ _ c.negation.result c.negation.ensures w.in-None.is))
    ]
