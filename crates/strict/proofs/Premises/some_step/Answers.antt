use mathlib.Core.Path.{refl}
use Rattle.strict.specs.RulesLaws.{trying_start, trying_next, trying_found, trying_end}
use Rattle.strict.proofs.Premises.some_step.Goals as goal

pub loop-x-init : goal.loop-x-init
loop-x-init c = trying_start _ _ _ _ _ _

pub returns-then-is_legal : goal.returns-then-is_legal
returns-then-is_legal c = trying_found _ _ _ _ _ c.loop-x.invariant c.loop-x-test.true c.next_formula-next.ensures c.principal_at.ensures (rw c.if-is_legal.true at c.is_legal.ensures) c.args.zone refl refl

pub loop-x-preserved : goal.loop-x-preserved
loop-x-preserved c = trying_next _ _ _ _ _ c.loop-x.invariant c.loop-x-test.true c.next_formula-next.ensures c.principal_at.ensures (rw c.if-is_legal.false at c.is_legal.ensures)

pub returns : goal.returns
returns c = trying_end _ _ _ _ _ c.loop-x.invariant c.loop-x-test.false c.args.zone refl refl
