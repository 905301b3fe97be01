use mathlib.Core.Path.{sym, ap, ◌∙◌}
use Rattle.std.proofs.Common.{◌≡◌, get_or}
use native.Mathlib.Omega.{arith}
use Rattle.rule.specs.Numbers.{number_of}
use Rattle.rule.specs.NumbersLaws.{one_rule, below_18, one_of_two}
use Rattle.rule.specs.declared.Rule.TheVariants.{Cut, FocusPositive, FocusNegative}
use Rattle.tree.specs.ReadingLaws.{rule_unknown, rule_cut, rule_bare, rule_two_short, rule_two}
use Rattle.tree.proofs.read_rule.Goals as goal

pub returns-in_default : goal.returns-in_default
returns-in_default c = rule_unknown c.args.s.now c.args.at c.requires c.in_default.ensures.1

pub returns-in-Cut : goal.returns-in-Cut
returns-in-Cut c = rule_cut c.args.s.now c.args.at c.requires (sym c.in-Ok.ensures ∙ ap number_of c.in-Cut.is) c.read_formula.ensures

pub returns-then-s-next-lt2 : goal.returns-then-s-next-lt2
returns-then-s-next-lt2 c = let k = one_of_two c.in-FocusPositive.is in rule_two_short c.args.s.now c.args.at c.requires (omega (arith, c.in-Ok.ensures, k)) (omega (arith, c.in-Ok.ensures, k)) (λ e. omega (arith, c.in-Ok.ensures, k, e)) c.if-s-next-lt2.true

pub returns-else-s-next-lt2 : goal.returns-else-s-next-lt2
returns-else-s-next-lt2 c = let k = one_of_two c.in-FocusPositive.is in rule_two c.args.s.now c.args.at c.requires (omega (arith, c.in-Ok.ensures, k)) (omega (arith, c.in-Ok.ensures, k)) (λ e. omega (arith, c.in-Ok.ensures, k, e)) c.if-s-next-lt2.false

pub returns-in_default-rule : goal.returns-in_default-rule
returns-in_default-rule c =
    let k : number_of c.in-Ok.rule ≡ get_or c.args.s.now c.args.at 0 = c.in-Ok.ensures in
    rule_bare c.args.s.now c.args.at c.requires (omega (arith, k, below_18 c.in-Ok.rule)) (λ e. c.in_default-rule.not-Cut (one_rule _ Cut (k ∙ e))) (λ e. c.in_default-rule.not-FocusPositive (one_rule _ FocusPositive (k ∙ e))) (λ e. c.in_default-rule.not-FocusNegative (one_rule _ FocusNegative (k ∙ e)))
