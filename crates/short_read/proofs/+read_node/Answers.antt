use mathlib.Core.Path.{sym, ap, ◌∙◌}
use native.Mathlib.Omega.{arith}
use Rattle.std.proofs.Common.{rules}
use Rattle.short_read.specs.Reading.{premises_by}
use Rattle.short_read.proofs.Steps.{refused_on, head_there, node_leaf, node_one, node_first_refused, first_landed, node_two}
use Rattle.short_read.proofs.+read_node.Goals as goal

pub returns-in_err-next : goal.returns-in_err-next
returns-in_err-next t c =
    let h = refused_on c.args.s.now c.args.at c.args.levels c.read_head.result c.read_head.ensures c.in_err-next.was in search rules

pub returns-then-n-eq0 : goal.returns-then-n-eq0
returns-then-n-eq0 t c = node_leaf (head_there c.read_head.result c.read_head.ensures c.in_ok-next.was) (sym (c.premises_of-n.ensures ∙ ap premises_by c.byte_at.ensures) ∙ c.if-n-eq0.true)

pub returns-then-n-eq1 : goal.returns-then-n-eq1
returns-then-n-eq1 t c = node_one (head_there c.read_head.result c.read_head.ensures c.in_ok-next.was) c.read_node-first.ensures (sym (c.premises_of-n.ensures ∙ ap premises_by c.byte_at.ensures) ∙ c.if-n-eq1.true)

pub returns-in_err-second : goal.returns-in_err-second
returns-in_err-second t c = let h = node_first_refused (head_there c.read_head.result c.read_head.ensures c.in_ok-next.was) c.read_node-first.ensures (λ z. c.if-n-eq0.false ((c.premises_of-n.ensures ∙ ap premises_by c.byte_at.ensures) ∙ z)) (λ z. c.if-n-eq1.false ((c.premises_of-n.ensures ∙ ap premises_by c.byte_at.ensures) ∙ z)) c.in_err-second.was in search rules

pub read_node-requires : goal.read_node-requires
read_node-requires t c = let there = (head_there c.read_head.result c.read_head.ensures c.in_ok-next.was) in (omega (arith, c.decreases, there.level), ((first_landed there c.read_node-first.ensures (λ z. c.if-n-eq0.false ((c.premises_of-n.ensures ∙ ap premises_by c.byte_at.ensures) ∙ z)) (λ z. c.if-n-eq1.false ((c.premises_of-n.ensures ∙ ap premises_by c.byte_at.ensures) ∙ z)) c.in_ok-second.was).inside, omega (arith, c.requires.1)))

pub returns : goal.returns
returns t c = node_two (head_there c.read_head.result c.read_head.ensures c.in_ok-next.was) c.read_node-first.ensures (λ z. c.if-n-eq0.false ((c.premises_of-n.ensures ∙ ap premises_by c.byte_at.ensures) ∙ z)) (λ z. c.if-n-eq1.false ((c.premises_of-n.ensures ∙ ap premises_by c.byte_at.ensures) ∙ z)) c.in_ok-second.was c.read_node.ensures
