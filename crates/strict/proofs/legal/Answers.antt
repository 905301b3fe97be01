use Rattle.std.proofs.Common.{arith}
use Rattle.strict.specs.RulesLaws.{legal_past, legal_leaf, legal_one, legal_two}
use Rattle.strict.proofs.legal.Goals as goal

pub returns-then-q-from : goal.returns-then-q-from
returns-then-q-from c = legal_past (omega arith)

pub returns-in-0 : goal.returns-in-0
returns-in-0 c = legal_leaf (omega arith) c.in-0.is

pub returns-in-1 : goal.returns-in-1
returns-in-1 c = legal_one (omega arith) c.in-1.is c.one_premise.ensures

pub returns-in_default : goal.returns-in_default
returns-in_default c = legal_two (omega arith) (λ e. omega arith) (λ e. omega arith) c.two_premises.ensures
