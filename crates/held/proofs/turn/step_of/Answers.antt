use native.Mathlib.Omega.{arith}
use Rattle.held.proofs.TurnSteps.{row_of, step_known, step_leaf, step_two, step_half, step_single}
use mathlib.Core.Path.{refl, ◌∙◌}
use Rattle.held.proofs.turn.step_of.Goals as goal

pub returns-then-known-ne0 : goal.returns-then-known-ne0
returns-then-known-ne0 c = step_known _ _ _ _ c.requires refl c.if-known-ne0.true

pub returns-then-tag-lt6 : goal.returns-then-tag-lt6
returns-then-tag-lt6 c = step_leaf _ _ _ _ c.field-b.result _ (row_of _ _ c.field-tag.result c.field-a.result c.field-b.result c.requires.wf c.requires.low c.field-tag.ensures.value c.field-a.ensures.value c.field-b.ensures.value) c.if-tag-lt6.true (c.from-turned.ensures ∙ c.dual.ensures)

pub returns-then-tag-lt10 : goal.returns-then-tag-lt10
returns-then-tag-lt10 c = step_two _ _ c.field-tag.result _ _ _ (row_of _ _ c.field-tag.result c.field-a.result c.field-b.result c.requires.wf c.requires.low c.field-tag.ensures.value c.field-a.ensures.value c.field-b.ensures.value) (omega arith) (omega arith) (c.from-turned.ensures ∙ c.dual.ensures)

pub returns-then-tag-eq10 : goal.returns-then-tag-eq10
returns-then-tag-eq10 c = step_half _ _ c.field-tag.result _ _ (row_of _ _ c.field-tag.result c.field-a.result c.field-b.result c.requires.wf c.requires.low c.field-tag.ensures.value c.field-a.ensures.value c.field-b.ensures.value) c.if-tag-eq10.true

pub returns : goal.returns
returns c = step_single _ _ c.field-tag.result _ c.field-b.result _ (row_of _ _ c.field-tag.result c.field-a.result c.field-b.result c.requires.wf c.requires.low c.field-tag.ensures.value c.field-a.ensures.value c.field-b.ensures.value) (omega arith) c.if-tag-eq10.false (c.from-turned.ensures ∙ c.dual.ensures)
