use Rattle.std.proofs.Common.{rules}
use mathlib.Core.Path.{refl}
use Rattle.ask.specs.AskingLaws.{first_listed, first_full, second_listed, second_full, entering_held, entering_over, first_over, second_over, negatable, negated_full, negated_all, negated_over, two_sided_held}
use Rattle.ask.proofs.enter_two_sided.Goals as goal

pub returns-in_err-n : goal.returns-in_err-n
returns-in_err-n c = let h = entering_over c.requires.found _ _ (first_over (first_full c.requires.found _ _ _ c.enter_formulas.result _ _ c.enter_formulas.ensures c.in_err-n.was)) in search rules

pub returns-in_err-k : goal.returns-in_err-k
returns-in_err-k c = let h = entering_over c.requires.found _ _ (second_over (first_listed c.requires.found _ _ _ c.enter_formulas.result _ _ c.enter_formulas.ensures c.in_ok-n.was).entered (second_full c.requires.found _ _ _ c.enter_formulas-2.result _ _ c.enter_formulas-2.ensures c.in_err-k.was)) in search rules

pub negate_listed-requires : goal.negate_listed-requires
negate_listed-requires c = negatable c.requires (first_listed c.requires.found _ _ _ c.enter_formulas.result _ _ c.enter_formulas.ensures c.in_ok-n.was) (second_listed c.requires.found _ _ _ c.enter_formulas-2.result _ _ c.enter_formulas-2.ensures c.in_ok-k.was) refl

pub returns-in_err-negate_listed : goal.returns-in_err-negate_listed
returns-in_err-negate_listed c = let h = entering_over c.requires.found _ _ (negated_over c.requires (first_listed c.requires.found _ _ _ c.enter_formulas.result _ _ c.enter_formulas.ensures c.in_ok-n.was) (second_listed c.requires.found _ _ _ c.enter_formulas-2.result _ _ c.enter_formulas-2.ensures c.in_ok-k.was) refl (negated_full _ _ _ c.negate_listed.result _ _ c.negate_listed.ensures c.in_err-negate_listed.was)) in search rules

pub returns : goal.returns
returns c = entering_held c.requires.found _ _ _ (two_sided_held c.requires (first_listed c.requires.found _ _ _ c.enter_formulas.result _ _ c.enter_formulas.ensures c.in_ok-n.was) (second_listed c.requires.found _ _ _ c.enter_formulas-2.result _ _ c.enter_formulas-2.ensures c.in_ok-k.was) refl _ (negated_all _ _ _ c.negate_listed.result _ _ c.negate_listed.ensures c.in_ok-negate_listed.was) refl)
