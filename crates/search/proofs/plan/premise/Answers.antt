use Rattle.search.proofs.Leaves.{premise_dereliction, premise_contraction, premise_weakening}
use Rattle.search.proofs.plan.premise.Goals as goal

pub returns-in-Dereliction : goal.returns-in-Dereliction
returns-in-Dereliction c = rw c.in-Dereliction.is (premise_dereliction c.requires.0 _ c.requires.1.0 c.without_unrestricted-y.ensures c.pushed.ensures)

pub returns-in-Contraction : goal.returns-in-Contraction
returns-in-Contraction c = rw c.in-Contraction.is (premise_contraction c.requires.0 _ c.requires.1.0 c.without_unrestricted-y.ensures c.pushed-in-Contraction.ensures c.pushed-in-Contraction-2.ensures)

pub returns-in-Weakening : goal.returns-in-Weakening
returns-in-Weakening c = rw c.in-Weakening.is (premise_weakening c.requires.0 _ c.requires.1.0 c.without_unrestricted-y.ensures)
