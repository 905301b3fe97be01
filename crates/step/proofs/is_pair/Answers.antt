use native.Mathlib.Omega.{arith}
use Rattle.step.proofs.TakingSteps.{pair_none, pair_apart, pair_atom, pair_negation, pair_unlike}
use Rattle.step.proofs.is_pair.Goals as goal

pub returns-then-z-ne2 : goal.returns-then-z-ne2
returns-then-z-ne2 c = pair_none c.requires c.if-z-ne2.true

pub returns-then-field : goal.returns-then-field
returns-then-field c = pair_apart c.requires c.if-z-ne2.false c.field.ensures c.field-2.ensures c.if-field.true

pub returns-in-4 : goal.returns-in-4
returns-in-4 c = pair_atom c.requires c.if-z-ne2.false c.field.ensures c.field-2.ensures c.if-field.false c.field-3.ensures c.field-other.ensures c.in-4.is

pub returns-in-5 : goal.returns-in-5
returns-in-5 c = pair_negation c.requires c.if-z-ne2.false c.field.ensures c.field-2.ensures c.if-field.false c.field-3.ensures c.field-other.ensures c.in-5.is

pub returns-in_default : goal.returns-in_default
returns-in_default c = pair_unlike c.requires c.if-z-ne2.false c.field.ensures c.field-2.ensures c.if-field.false c.field-3.ensures c.field-other.ensures (λ e. omega arith) (λ e. omega arith)
