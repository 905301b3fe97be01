use Rattle.std.proofs.Common.{rules}
use Rattle.short_read.proofs.Steps.{short_cut, short_version, short_length, short_root_refused, short_left_over, short_whole}
use Rattle.short_read.proofs.read_short.Goals as goal

pub returns-then-s-lt3 : goal.returns-then-s-lt3
returns-then-s-lt3 c = short_cut c.args.s.now c.if-s-lt3.true

pub returns-then-s-ne-VERSION : goal.returns-then-s-ne-VERSION
returns-then-s-ne-VERSION c = short_version c.args.s.now c.if-s-lt3.false c.if-s-ne-VERSION.true

pub returns-then-s-two_at : goal.returns-then-s-two_at
returns-then-s-two_at c = short_length c.args.s.now c.if-s-lt3.false c.if-s-ne-VERSION.false c.two_at.ensures c.if-s-two_at.true

pub returns-in_err-next : goal.returns-in_err-next
returns-in_err-next c = let h = short_root_refused c.args.s.now c.if-s-lt3.false c.if-s-ne-VERSION.false c.two_at.ensures c.if-s-two_at.false c.read_node.ensures c.in_err-next.was in search rules

pub returns-then-next-s : goal.returns-then-next-s
returns-then-next-s c = short_left_over c.args.s.now c.if-s-lt3.false c.if-s-ne-VERSION.false c.two_at.ensures c.if-s-two_at.false c.read_node.ensures c.in_ok-next.was c.if-next-s.true

pub returns : goal.returns
returns c = short_whole c.args.s.now c.if-s-lt3.false c.if-s-ne-VERSION.false c.two_at.ensures c.if-s-two_at.false c.read_node.ensures c.in_ok-next.was c.if-next-s.false
