use native.Mathlib.Omega.{arith}
use Rattle.std.proofs.Common.{rules}
use Rattle.step.proofs.TakingSteps.{linear_fits}
use Rattle.held.proofs.TurnSteps.{entered_at, entered_full}
use Rattle.step.proofs.SpeltSteps.{first_in, spelt_none, spelt_other, is_implication, spelt_full, spelt_lolli}
use Rattle.step.proofs.spell_first.Goals as goal

pub returns-then-i-z : goal.returns-then-i-z
returns-then-i-z c = spelt_none c.requires c.first_decomposable-i.ensures c.if-i-z.true

pub field-requires : goal.field-requires
field-requires c = ((linear_fits c.requires _ (first_in c.first_decomposable-i.ensures c.if-i-z.false), omega arith), c.requires.wf.sized)

pub returns-then-field-ne-LOLLI : goal.returns-then-field-ne-LOLLI
returns-then-field-ne-LOLLI c = spelt_other c.requires c.first_decomposable-i.ensures (first_in c.first_decomposable-i.ensures c.if-i-z.false) c.field.ensures c.if-field-ne-LOLLI.true

pub spell_held-requires : goal.spell_held-requires
spell_held-requires c = is_implication c.requires c.first_decomposable-i.ensures (first_in c.first_decomposable-i.ensures c.if-i-z.false) c.field.ensures c.if-field-ne-LOLLI.false

pub returns-in_err-p : goal.returns-in_err-p
returns-in_err-p c = let h = spelt_full c.requires c.first_decomposable-i.ensures (first_in c.first_decomposable-i.ensures c.if-i-z.false) c.field.ensures c.if-field-ne-LOLLI.false (entered_full _ _ c.spell_held.result _ c.spell_held.ensures c.in_err-p.was) in search rules

pub returns : goal.returns
returns c = spelt_lolli c.requires c.first_decomposable-i.ensures (first_in c.first_decomposable-i.ensures c.if-i-z.false) c.field.ensures c.if-field-ne-LOLLI.false (entered_at _ _ c.spell_held.result _ _ c.spell_held.ensures c.in_ok-p.was) c.replaced.ensures
