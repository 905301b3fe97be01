use native.Mathlib.Omega.{arith}
use mathlib.Core.Path.{◌∙◌}
use Rattle.expand.proofs.NegationSteps.{leaf_next, leaf_noted, lolli_none, lolli_next, lolli_noted, left_none, mid_none_right, mid_next, mid_noted, high_next, high_noted}
use Rattle.expand.proofs.negations.negation.Goals as goal

pub find-requires : goal.find-requires
find-requires c = leaf_next c.requires c.field-tag.ensures c.field-a.ensures c.field-b.ensures c.if-tag-lt6.true (c.from-turned.ensures ∙ c.dual.ensures)

pub returns-then-tag-lt6 : goal.returns-then-tag-lt6
returns-then-tag-lt6 c = leaf_noted c.requires c.field-tag.ensures c.field-a.ensures c.field-b.ensures c.find.result c.if-tag-lt6.true (c.from-turned.ensures ∙ c.dual.ensures) c.find.ensures

pub returns-in_err-right : goal.returns-in_err-right
returns-in_err-right c = rw c.from_residual.ensures (lolli_none c.requires c.field-tag.ensures c.field-a.ensures c.field-b.ensures c.if-tag-eq10.true (omega (arith, c.in_err-right.ensures)))

pub find-requires-then-tag-eq10 : goal.find-requires-then-tag-eq10
find-requires-then-tag-eq10 c = rw c.in_ok-right.ensures.1 (lolli_next c.requires c.field-tag.ensures c.field-a.ensures c.field-b.ensures c.if-tag-eq10.true (λ e. omega (arith, c.in_ok-right.ensures)))

pub returns-then-tag-eq10 : goal.returns-then-tag-eq10
returns-then-tag-eq10 c = lolli_noted c.requires c.field-tag.ensures c.field-a.ensures c.field-b.ensures c.if-tag-eq10.true (λ e. omega (arith, c.in_ok-right.ensures)) c.find-then-tag-eq10.result (rw c.in_ok-right.ensures.1 at c.find-then-tag-eq10.ensures)

pub returns-in_err-left : goal.returns-in_err-left
returns-in_err-left c = rw c.from_residual-in_err-left.ensures (left_none c.requires c.field-tag.ensures c.field-a.ensures c.field-b.ensures c.if-tag-lt6.false c.if-tag-eq10.false (omega (arith, c.in_err-left.ensures)))

pub find-requires-then-tag-gt10 : goal.find-requires-then-tag-gt10
find-requires-then-tag-gt10 c = rw c.in_ok-left.ensures.1 (high_next c.requires c.field-tag.ensures c.field-a.ensures c.field-b.ensures c.if-tag-gt10.true (λ e. omega (arith, c.in_ok-left.ensures)) (c.from-turned.ensures ∙ c.dual.ensures))

pub returns-then-tag-gt10 : goal.returns-then-tag-gt10
returns-then-tag-gt10 c = high_noted c.requires c.field-tag.ensures c.field-a.ensures c.field-b.ensures c.if-tag-gt10.true (λ e. omega (arith, c.in_ok-left.ensures)) (c.from-turned.ensures ∙ c.dual.ensures) c.find-then-tag-gt10.result (rw c.in_ok-left.ensures.1 at c.find-then-tag-gt10.ensures)

pub returns-in_err-right-2 : goal.returns-in_err-right-2
returns-in_err-right-2 c = rw c.from_residual-in_err-right-2.ensures (mid_none_right c.requires c.field-tag.ensures c.field-a.ensures c.field-b.ensures c.if-tag-lt6.false (omega arith) (omega (arith, c.in_err-right-2.ensures)))

pub find-requires-2 : goal.find-requires-2
find-requires-2 c = rw (c.in_ok-left.ensures.1, c.in_ok-right-2.ensures.1) (mid_next c.requires c.field-tag.ensures c.field-a.ensures c.field-b.ensures c.if-tag-lt6.false (omega arith) (λ e. omega (arith, c.in_ok-left.ensures)) (λ e. omega (arith, c.in_ok-right-2.ensures)) (c.from-turned.ensures ∙ c.dual.ensures))

pub returns : goal.returns
returns c = mid_noted c.requires c.field-tag.ensures c.field-a.ensures c.field-b.ensures c.if-tag-lt6.false (omega arith) (λ e. omega (arith, c.in_ok-left.ensures)) (λ e. omega (arith, c.in_ok-right-2.ensures)) (c.from-turned.ensures ∙ c.dual.ensures) c.find-2.result (rw (c.in_ok-left.ensures.1, c.in_ok-right-2.ensures.1) at c.find-2.ensures)
