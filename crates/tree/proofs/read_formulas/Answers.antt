use native.Mathlib.Omega.{arith}
use borrow.Author.Rules.{rules}
use Rattle.tree.specs.ReadingLaws.{counting_end, counting_refused, counting_further, counting_next}
use Rattle.tree.proofs.read_formulas.Goals as goal

pub returns-in_err-p : goal.returns-in_err-p
returns-in_err-p c = let h = counting_refused _ _ _ c.requires.1 c.loop-p-test.true c.loop-p.invariant c.read_formula.ensures c.in_err-p.was in search rules

pub loop-p-smaller : goal.loop-p-smaller
loop-p-smaller c = let more = counting_further _ _ _ c.requires.1 c.loop-p-test.true c.loop-p.invariant (record { byte = λ k. (c.type_inv.s k).fits }) c.read_formula.ensures c.in_ok-p.was in omega arith

pub loop-p-preserved : goal.loop-p-preserved
loop-p-preserved c = counting_next _ _ _ c.requires.1 c.loop-p-test.true c.loop-p.invariant (record { byte = λ k. (c.type_inv.s k).fits }) c.read_formula.ensures c.in_ok-p.was

pub returns : goal.returns
returns c = counting_end _ _ _ c.requires.1 c.loop-p-test.false c.loop-p.invariant
