use native.Mathlib.Omega.{arith}
use Rattle.expand.proofs.ByteSteps.{formula_start, formula_unit, name_room, formula_name, left_less, right_less, left_room, right_room, formula_two, formula_one}
use Rattle.expand.proofs.writers.+formula_bytes.Goals as goal

pub bounds-out-to : goal.bounds-out-to
bounds-out-to t c = formula_start c.requires c.field-tag.ensures c.field-a.ensures c.field-b.ensures

pub returns-then-tag-lt4 : goal.returns-then-tag-lt4
returns-then-tag-lt4 t c = formula_unit c.requires c.field-tag.ensures c.field-a.ensures c.field-b.ensures c.if-tag-lt4.true

pub two_bytes-requires : goal.two_bytes-requires
two_bytes-requires t c = name_room c.requires c.field-tag.ensures c.field-a.ensures c.field-b.ensures c.if-tag-lt4.false c.if-tag-lt6.true

pub returns-then-tag-lt6 : goal.returns-then-tag-lt6
returns-then-tag-lt6 t c = formula_name c.requires c.field-tag.ensures c.field-a.ensures c.field-b.ensures c.if-tag-lt4.false c.if-tag-lt6.true c.two_bytes.ensures

pub formula_bytes-next-requires : goal.formula_bytes-next-requires
formula_bytes-next-requires t c = let p = c.requires in (omega (arith, c.decreases, left_less p c.field-tag.ensures c.field-a.ensures c.field-b.ensures c.if-tag-lt6.false), left_room p c.field-tag.ensures c.field-a.ensures c.field-b.ensures c.if-tag-lt6.false)

pub formula_bytes-requires : goal.formula_bytes-requires
formula_bytes-requires t c = let p = c.requires in (omega (arith, c.decreases, right_less p c.field-tag.ensures c.field-a.ensures c.field-b.ensures c.if-tag-lt6.false c.if-tag-lt11.true), right_room p c.field-tag.ensures c.field-a.ensures c.field-b.ensures c.formula_bytes-next.ensures c.if-tag-lt6.false c.if-tag-lt11.true)

pub returns-then-tag-lt11 : goal.returns-then-tag-lt11
returns-then-tag-lt11 t c = formula_two c.requires c.field-tag.ensures c.field-a.ensures c.field-b.ensures c.formula_bytes-next.ensures c.if-tag-lt6.false c.if-tag-lt11.true c.formula_bytes.ensures

pub returns : goal.returns
returns t c = formula_one c.requires c.field-tag.ensures c.field-a.ensures c.field-b.ensures c.formula_bytes-next.ensures c.if-tag-lt11.false
