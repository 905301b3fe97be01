use native.Mathlib.Omega.{arith}
use lib.ListN.{length-set}
use mathlib.Core.Path.{sym, ◌∙◌}
use Rattle.shrink.specs.ShrinkingLaws.{node_bytes_few, node_bytes_tensor, put_nothing, put_plain, put_tensor}
use Rattle.shrink.proofs.put_node.Goals as goal

pub overflow_add-next : goal.overflow_add-next
overflow_add-next c = omega (arith, c.node_length.ensures, node_bytes_few c.args.rule)

pub returns-then-out-next : goal.returns-then-out-next
returns-then-out-next c = put_nothing c.args.place c.args.mask c.node_length.ensures c.if-out-next.true

pub bounds-out-to : goal.bounds-out-to
bounds-out-to c = omega (arith, c.node_length.ensures, c.if-out-next.false, node_bytes_few c.args.rule)

pub bounds-out-to-2 : goal.bounds-out-to-2
bounds-out-to-2 c = simp length-set (omega (arith, c.node_length.ensures, c.if-out-next.false, node_bytes_few c.args.rule))

pub put_mask-requires : goal.put_mask-requires
put_mask-requires c = (c.requires.1.0, simp length-set (omega (arith, c.node_length.ensures, c.if-out-next.false, node_bytes_tensor c.args.rule (c.if-rule-from.true ∙ c.from.ensures))))

pub shape_of-out-then-rule-from : goal.shape_of-out-then-rule-from
shape_of-out-then-rule-from c = (put_tensor {out = c.args.out.now} c.args.place c.args.mask (c.if-rule-from.true ∙ c.from.ensures) c.put_mask.ensures).put.long

pub returns-then-rule-from : goal.returns-then-rule-from
returns-then-rule-from c = put_tensor c.args.place c.args.mask (c.if-rule-from.true ∙ c.from.ensures) c.put_mask.ensures

pub returns : goal.returns
returns c = put_plain c.args.place c.args.mask c.node_length.ensures (λ e. c.if-rule-from.false (e ∙ sym c.from.ensures))
