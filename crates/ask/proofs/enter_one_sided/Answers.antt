use Rattle.std.proofs.Common.{rules}
use mathlib.Core.Path.{refl}
use Rattle.ask.specs.AskingLaws.{first_listed, first_full, second_listed, second_full, entering_held, entering_over, first_over, second_over, one_sided_held}
use Rattle.ask.proofs.enter_one_sided.Goals as goal

pub returns-in_err-linear_len : goal.returns-in_err-linear_len
returns-in_err-linear_len c = let h = entering_over c.requires.found _ _ (first_over (first_full c.requires.found _ _ _ c.enter_formulas.result _ _ c.enter_formulas.ensures c.in_err-linear_len.was)) in search rules

pub returns-in_err-unrestricted_len : goal.returns-in_err-unrestricted_len
returns-in_err-unrestricted_len c = let h = entering_over c.requires.found _ _ (second_over (first_listed c.requires.found _ _ _ c.enter_formulas.result _ _ c.enter_formulas.ensures c.in_ok-linear_len.was).entered (second_full c.requires.found _ _ _ c.enter_formulas-2.result _ _ c.enter_formulas-2.ensures c.in_err-unrestricted_len.was)) in search rules

pub returns : goal.returns
returns c = entering_held c.requires.found _ _ _ (one_sided_held c.requires (first_listed c.requires.found _ _ _ c.enter_formulas.result _ _ c.enter_formulas.ensures c.in_ok-linear_len.was) (second_listed c.requires.found _ _ _ c.enter_formulas-2.result _ _ c.enter_formulas-2.ensures c.in_ok-unrestricted_len.was) refl refl)
