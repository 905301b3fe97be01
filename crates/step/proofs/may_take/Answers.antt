use mathlib.Core.Path.{ap, ◌∙◌}
use Rattle.step.specs.Taking.{decomposed_tag}
use Rattle.step.proofs.TakingSteps.{asked_past, take_elsewhere, take_first, take_nothing, focused}
use Rattle.step.proofs.may_take.Goals as goal

pub returns-then-place-first : goal.returns-then-place-first
returns-then-place-first c = take_first c.requires c.first_decomposable-first.ensures c.if-first-z.true c.if-place-first.true c.tag_at.ensures (c.decomposed.ensures ∙ ap decomposed_tag c.in-Some.ensures.is)

pub returns-else-place-first : goal.returns-else-place-first
returns-else-place-first c = take_elsewhere c.requires c.first_decomposable-first.ensures c.if-first-z.true c.if-place-first.false

pub returns-else-z-ne0 : goal.returns-else-z-ne0
returns-else-z-ne0 c = take_nothing c.requires c.first_decomposable-first.ensures c.if-first-z.false c.if-z-ne0.false

pub takes_focused-requires : goal.takes_focused-requires
takes_focused-requires c = focused c.requires c.first_decomposable-first.ensures c.if-first-z.false c.if-z-ne0.true

pub returns-then-z-ne0 : goal.returns-then-z-ne0
returns-then-z-ne0 c = rw c.in-Some.ensures.is at c.takes_focused.ensures

pub returns-in_default : goal.returns-in_default
returns-in_default c = asked_past c.in_default.ensures.is
