use Rattle.formula.specs.Reading.{look_of}
use Rattle.formula.specs.ReadingLaws.{looked_none, looked_above, looked_at, looked_name, looked_short}
use Rattle.formula.proofs.look_at.Goals as goal

pub returns-then-at-end : goal.returns-then-at-end
returns-then-at-end c = looked_none _ _ _ _ c.if-at-end.true

pub returns-then-levels-eq0 : goal.returns-then-levels-eq0
returns-then-levels-eq0 c = looked_above _ _ _ _ c.requires c.if-at-end.false c.if-levels-eq0.true c.form_of-form.ensures c.above.ensures

pub returns-then-end-at-lt3 : goal.returns-then-end-at-lt3
returns-then-end-at-lt3 c = looked_short _ _ _ _ c.requires c.if-at-end.false c.if-levels-eq0.false c.form_of-form.ensures c.in-Named.is c.if-end-at-lt3.true

pub returns-in-Unit : goal.returns-in-Unit
unfolding look_of
returns-in-Unit c = looked_at _ _ _ _ c.requires c.if-at-end.false c.if-levels-eq0.false c.form_of-form.ensures c.in-Unit.is

pub returns-else-end-at-lt3 : goal.returns-else-end-at-lt3
returns-else-end-at-lt3 c = looked_name _ _ _ _ c.requires c.if-at-end.false c.if-levels-eq0.false c.form_of-form.ensures c.in-Named.is c.if-end-at-lt3.false

pub returns-in-Binary : goal.returns-in-Binary
unfolding look_of
returns-in-Binary c = looked_at _ _ _ _ c.requires c.if-at-end.false c.if-levels-eq0.false c.form_of-form.ensures c.in-Binary.is

pub returns-in-Unary : goal.returns-in-Unary
unfolding look_of
returns-in-Unary c = looked_at _ _ _ _ c.requires c.if-at-end.false c.if-levels-eq0.false c.form_of-form.ensures c.in-Unary.is

pub returns-in-Unknown : goal.returns-in-Unknown
unfolding look_of
returns-in-Unknown c = looked_at _ _ _ _ c.requires c.if-at-end.false c.if-levels-eq0.false c.form_of-form.ensures c.in-Unknown.is
