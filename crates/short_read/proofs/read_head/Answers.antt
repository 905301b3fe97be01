use native.Mathlib.Omega.{arith}
use Rattle.short_read.proofs.Steps.{head_none, head_too_high, head_unknown, head_short, head_next}
use Rattle.short_read.proofs.read_head.Goals as goal

pub returns-then-at-s : goal.returns-then-at-s
returns-then-at-s c = head_none c.args.s.now c.args.at c.args.levels c.if-at-s.true

pub returns-then-levels-eq0 : goal.returns-then-levels-eq0
returns-then-levels-eq0 c = head_too_high c.args.s.now c.args.at c.args.levels (omega (arith, c.if-at-s.false, c.requires)) c.if-levels-eq0.true

pub returns-then-premises_of-eq-NO_SHORT_FORM : goal.returns-then-premises_of-eq-NO_SHORT_FORM
returns-then-premises_of-eq-NO_SHORT_FORM c = head_unknown c.args.s.now c.args.at c.args.levels (omega (arith, c.if-at-s.false, c.requires)) (omega (arith, c.if-levels-eq0.false)) c.premises_of.ensures c.if-premises_of-eq-NO_SHORT_FORM.true

pub returns-then-s-at : goal.returns-then-s-at
returns-then-s-at c = head_short c.args.s.now c.args.at c.args.levels (omega (arith, c.if-at-s.false, c.requires)) (omega (arith, c.if-levels-eq0.false)) c.premises_of.ensures c.if-premises_of-eq-NO_SHORT_FORM.false c.node_length-n.ensures c.if-s-at.true

pub returns : goal.returns
returns c = head_next c.args.s.now c.args.at c.args.levels (omega (arith, c.if-at-s.false, c.requires)) (omega (arith, c.if-levels-eq0.false)) c.premises_of.ensures c.if-premises_of-eq-NO_SHORT_FORM.false c.node_length-n.ensures c.if-s-at.false
