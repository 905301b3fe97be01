use mathlib.Core.Path.{sym, ◌∙◌}
use native.Mathlib.Omega.{arith}
use Rattle.std.proofs.Common.{rules}
use Rattle.formula.specs.ReadingLaws.{done, one_goes_on, two_goes_on, one_read, first_refused, second_within, two_read}
use Rattle.formula.proofs.+read_formula.Goals as goal

pub overflow_sub-levels : goal.overflow_sub-levels
overflow_sub-levels t c = (one_goes_on _ _ _ _ c.look_at.ensures c.in-One.is).1

pub read_formula-requires : goal.read_formula-requires
read_formula-requires t c = let g = one_goes_on _ _ _ _ c.look_at.ensures c.in-One.is in (omega (arith, c.decreases), (omega arith, c.requires.1))

pub overflow_sub-levels-in-Two : goal.overflow_sub-levels-in-Two
overflow_sub-levels-in-Two t c = (two_goes_on _ _ _ _ c.look_at.ensures c.in-Two.is).1

pub read_formula-requires-in-Two : goal.read_formula-requires-in-Two
read_formula-requires-in-Two t c = let g = two_goes_on _ _ _ _ c.look_at.ensures c.in-Two.is in (omega (arith, c.decreases), (omega arith, c.requires.1))

pub returns-in_err-second-in-Two : goal.returns-in_err-second-in-Two
returns-in_err-second-in-Two t c = let h = first_refused _ _ _ _ c.look_at.ensures c.in-Two.is c.read_formula-in-Two.ensures (c.in_err-second-in-Two.was) in search rules

pub overflow_sub-levels-in-Two-2 : goal.overflow_sub-levels-in-Two-2
overflow_sub-levels-in-Two-2 t c = (two_goes_on _ _ _ _ c.look_at.ensures c.in-Two.is).1

pub read_formula-requires-in-Two-2 : goal.read_formula-requires-in-Two-2
read_formula-requires-in-Two-2 t c = let g = two_goes_on _ _ _ _ c.look_at.ensures c.in-Two.is in (omega (arith, c.decreases), (second_within _ _ _ _ c.look_at.ensures (record { byte = λ k. (c.type_inv.s k).fits }) c.requires.1 c.in-Two.is (sym c.read_formula-in-Two.ensures ∙ c.in_ok-second-in-Two.was), c.requires.1))

pub returns-in-Done : goal.returns-in-Done
returns-in-Done t c = done _ _ _ _ c.look_at.ensures c.in-Done.is

pub returns-in-One : goal.returns-in-One
returns-in-One t c = one_read _ _ _ _ c.look_at.ensures c.in-One.is c.read_formula.ensures

pub returns-in_ok-second-in-Two : goal.returns-in_ok-second-in-Two
returns-in_ok-second-in-Two t c = two_read _ _ _ _ c.look_at.ensures (record { byte = λ k. (c.type_inv.s k).fits }) c.requires.1 c.in-Two.is (sym c.read_formula-in-Two.ensures ∙ c.in_ok-second-in-Two.was) c.read_formula-in-Two-2.ensures
