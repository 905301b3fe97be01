use native.Mathlib.Omega.{arith}
use Rattle.rule.specs.NumbersLaws.{below_18}
use Rattle.search.proofs.plan.node.Goals as goal

pub word-requires : goal.word-requires
word-requires c = (omega (arith, below_18 c.args.rule, c.from.ensures), (omega (arith, c.requires), omega (arith, c.requires)))
