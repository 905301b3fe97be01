use mathlib.Core.Path.{sym, ◌∙◌}
use native.Mathlib.Omega.{arith}
use Rattle.expand.proofs.SpellSteps.{linear_fits, first_in, spelled_none, spelled_plain, spellable, spelled_lolli}
use Rattle.expand.proofs.steps.spelled.Goals as goal

pub returns-then-i-n : goal.returns-then-i-n
returns-then-i-n c = spelled_none c.requires c.first_decomposable-i.ensures c.if-i-n.true

pub field-requires : goal.field-requires
field-requires c = ((linear_fits c.requires.sound c.first_decomposable-i.result (first_in c.first_decomposable-i.ensures c.if-i-n.false), omega arith), c.requires.sound.wf.sized)

pub spelled_number-requires : goal.spelled_number-requires
spelled_number-requires c = spellable c.requires c.first_decomposable-i.ensures (first_in c.first_decomposable-i.ensures c.if-i-n.false) (sym c.field.ensures.value ∙ c.if-field-eq10.true)

pub returns-then-field-eq10 : goal.returns-then-field-eq10
returns-then-field-eq10 c = spelled_lolli c.requires c.first_decomposable-i.ensures (first_in c.first_decomposable-i.ensures c.if-i-n.false) c.spelled_number.ensures c.replaced.ensures

pub returns : goal.returns
returns c = spelled_plain c.requires c.first_decomposable-i.ensures (first_in c.first_decomposable-i.ensures c.if-i-n.false) (λ e. c.if-field-eq10.false (c.field.ensures.value ∙ e))
