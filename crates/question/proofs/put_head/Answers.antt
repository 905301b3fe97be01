use mathlib.Core.Path.{◌∙◌}
use native.Mathlib.Omega.{arith}
use lib.ListN.{length-set}
use Rattle.question.proofs.TurningLaws.{head_stored}
use Rattle.question.proofs.put_head.Goals as goal

pub put_two-requires : goal.put_two-requires
put_two-requires c = simp length-set (omega arith)

pub bounds-out-3 : goal.bounds-out-3
bounds-out-3 c = omega (arith, c.put_two.auto.out, length-set c.args.out.now 0 1)

pub put_two-requires-2 : goal.put_two-requires-2
put_two-requires-2 c = omega (arith, length-set c.put_two.new.out 3 1, c.put_two.auto.out, length-set c.args.out.now 0 1)

pub shape_of-out : goal.shape_of-out
shape_of-out c = c.put_two-2.auto.out ∙ length-set c.put_two.new.out 3 1 ∙ c.put_two.auto.out ∙ length-set c.args.out.now 0 1

pub returns : goal.returns
returns c = head_stored c.args.out.now c.args.n c.put_two.ensures c.put_two-2.ensures
