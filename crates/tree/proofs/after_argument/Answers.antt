use mathlib.Core.Logic.{inr}
use mathlib.Core.Path.{sym, ap, ◌∙◌}
use Rattle.std.proofs.Common.{◌≡◌}
use native.Mathlib.Omega.{arith}
use Rattle.rule.specs.Numbers.{number_of}
use Rattle.rule.specs.NumbersLaws.{one_rule, below_18, one_of_two}
use Rattle.rule.specs.declared.Rule.TheVariants.{Cut, FocusPositive, FocusNegative}
use Rattle.tree.specs.PlacesLaws.{argument_none, argument_formula, argument_two}
use Rattle.tree.proofs.after_argument.Goals as goal

pub returns-in_default : goal.returns-in_default
returns-in_default c = argument_none c.args.s.now c.args.at c.args.rule c.requires (λ e. omega (arith, e, c.in_default.ensures.1)) (inr (omega (arith, c.in_default.ensures.1)))

pub returns-else-at-s : goal.returns-else-at-s
returns-else-at-s c = argument_formula c.args.s.now c.args.at c.args.rule c.requires (sym c.in-Ok.ensures ∙ ap number_of c.in-Cut.is) c.next_formula.ensures

pub returns-in-FocusPositive : goal.returns-in-FocusPositive
returns-in-FocusPositive c = let k = one_of_two c.in-FocusPositive.is in argument_two c.args.s.now c.args.at c.args.rule c.requires (omega (arith, c.in-Ok.ensures, k)) (omega (arith, c.in-Ok.ensures, k)) c.after.ensures

pub returns-in_default-known : goal.returns-in_default-known
returns-in_default-known c =
    let k : number_of c.in-Ok.known ≡ c.args.rule = c.in-Ok.ensures in
    let below = below_18 c.in-Ok.known in
    let not_15 : c.args.rule ≡ 15 → ⊥ = λ e. c.in_default-known.not-FocusPositive (one_rule _ FocusPositive (k ∙ e)) in
    let not_16 : c.args.rule ≡ 16 → ⊥ = λ e. c.in_default-known.not-FocusNegative (one_rule _ FocusNegative (k ∙ e)) in
    argument_none c.args.s.now c.args.at c.args.rule c.requires (λ e. c.in_default-known.not-Cut (one_rule _ Cut (k ∙ e))) (grind arith)
