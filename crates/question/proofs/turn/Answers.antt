use mathlib.Core.Path.{◌∙◌}
use native.Mathlib.Omega.{arith}
use lib.Dec.{lit<}
use Rattle.question.proofs.TurningLaws.{turn_head, turn_tail, turn_end, turn_negatable, turn_stored}
use Rattle.question.proofs.turn.Goals as goal

pub put_head-requires : goal.put_head-requires
put_head-requires c = turn_head c.args.s.now (record { byte = λ k. (c.type_inv.s k).fits }) c.args.middle c.args.out.now c.requires

pub negate_formulas-requires : goal.negate_formulas-requires
negate_formulas-requires c = turn_negatable c.args.s.now (record { byte = λ k. (c.type_inv.s k).fits }) c.args.middle c.args.out.now c.requires c.put_head.auto.out

pub overflow_add-middle : goal.overflow_add-middle
overflow_add-middle c = omega (arith, turn_tail c.args.s.now (record { byte = λ k. (c.type_inv.s k).fits }) c.args.middle c.args.out.now c.requires (c.negate_formulas.auto.out ∙ c.put_head.auto.out), c.well_formed)

pub copy_from-requires : goal.copy_from-requires
copy_from-requires c = turn_tail c.args.s.now (record { byte = λ k. (c.type_inv.s k).fits }) c.args.middle c.args.out.now c.requires (c.negate_formulas.auto.out ∙ c.put_head.auto.out)

pub overflow_sub-n : goal.overflow_sub-n
overflow_sub-n c = omega (arith, turn_head c.args.s.now (record { byte = λ k. (c.type_inv.s k).fits }) c.args.middle c.args.out.now c.requires)

pub put_two-requires : goal.put_two-requires
put_two-requires c = (turn_end c.args.s.now (record { byte = λ k. (c.type_inv.s k).fits }) c.args.middle c.args.out.now c.requires (c.copy_from.auto.out ∙ c.negate_formulas.auto.out ∙ c.put_head.auto.out), lit< tt)

pub returns : goal.returns
returns c = turn_stored c.args.s.now (record { byte = λ k. (c.type_inv.s k).fits }) c.args.middle c.args.out.now c.requires c.put_head.ensures c.negate_formulas.ensures c.copy_from.ensures c.put_two.ensures
