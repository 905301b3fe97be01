use native.Mathlib.Omega.{arith}
use Rattle.least.specs.FindingLaws.{step_high, step_other, step_tensor, step_placed}
use Rattle.least.proofs.least_step.Goals as goal

pub returns-then-node-from : goal.returns-then-node-from
returns-then-node-from c = step_high c.requires.0 (omega (arith, c.from.ensures, c.if-node-from.true))

pub returns-then-node-premises : goal.returns-then-node-premises
returns-then-node-premises c = step_other c.from-rule.ensures (omega (arith, c.from-rule.ensures, c.if-node-from.false, c.from.ensures)) c.node_word.ensures c.premises.ensures c.requires.0 c.if-node-premises.true

pub returns-then-node-from-2 : goal.returns-then-node-from-2
returns-then-node-from-2 c = step_tensor c.from-rule.ensures (omega (arith, c.from-rule.ensures, c.if-node-from.false, c.from.ensures)) c.node_word.ensures c.premises.ensures c.if-node-premises.false (omega (arith, c.from-rule.ensures, c.if-node-from-2.true, c.from-2.ensures)) c.least_tensor.ensures

pub returns : goal.returns
returns c = step_placed c.from-rule.ensures (omega (arith, c.from-rule.ensures, c.if-node-from.false, c.from.ensures)) c.node_word.ensures c.premises.ensures c.if-node-premises.false c.least_place.ensures
