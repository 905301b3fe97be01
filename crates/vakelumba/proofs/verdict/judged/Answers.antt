use Rattle.wire.specs.Read.{read_tree}
use Rattle.vakelumba.specs.JudgedLaws.{judged_strict, judged_shape}
use Rattle.vakelumba.proofs.verdict.judged.Goals as goal

pub returns-then-strict : goal.returns-then-strict
returns-then-strict c = judged_strict (read_tree c.args.s.now) c.if-strict.true c.verify_strict.ensures c.verdict_of.ensures

pub returns : goal.returns
returns c = judged_shape (read_tree c.args.s.now) c.if-strict.false c.verify.ensures c.verdict_of-2.ensures
