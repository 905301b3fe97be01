use mathlib.Core.Path.{refl, sym, ◌∙◌}
use Rattle.grow.specs.GrowingLaws.{mask_tensor, mask_none}
use Rattle.grow.proofs.mask_at.Goals as goal

pub returns-then-rule-from : goal.returns-then-rule-from
returns-then-rule-from c = mask_tensor (c.if-rule-from.true ∙ c.from.ensures) c.four_at.ensures

pub returns-else-rule-from : goal.returns-else-rule-from
returns-else-rule-from c = mask_none (λ e. c.if-rule-from.false (e ∙ sym c.from.ensures)) refl
