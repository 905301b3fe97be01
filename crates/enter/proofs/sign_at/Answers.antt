use Rattle.enter.specs.StandingLaws.{unit_sign, name_sign, pair_sign, part_sign, no_sign, name_inside}
use Rattle.formula.specs.SignsLaws.{starts_inside}
use mathlib.Core.Path.{refl, sym, ◌∙◌}
use native.Mathlib.Omega.{arith}
use Rattle.enter.proofs.sign_at.Goals as goal

pub bounds-s-at : goal.bounds-s-at
bounds-s-at c = starts_inside _ _ c.requires.formula c.requires.stands

pub bounds-s-at-2 : goal.bounds-s-at-2
bounds-s-at-2 c = starts_inside _ _ c.requires.formula c.requires.stands

pub overflow_add-result : goal.overflow_add-result
overflow_add-result c = omega (arith, starts_inside _ _ c.requires.formula c.requires.stands)

pub overflow_add-at : goal.overflow_add-at
overflow_add-at c = omega (arith, starts_inside _ _ c.requires.formula c.requires.stands)

pub two-requires : goal.two-requires
two-requires c = omega (arith, name_inside _ _ c.requires.formula c.requires.stands (sym c.form_of.ensures ∙ c.in-Named.is))

pub overflow_add-result-in-Named : goal.overflow_add-result-in-Named
overflow_add-result-in-Named c = omega (arith, name_inside _ _ c.requires.formula c.requires.stands (sym c.form_of.ensures ∙ c.in-Named.is))

pub returns-in-Unit : goal.returns-in-Unit
returns-in-Unit c = unit_sign _ _ _ refl (sym c.form_of.ensures ∙ c.in-Unit.is)

pub returns-in-Named : goal.returns-in-Named
returns-in-Named c = name_sign _ _ _ refl c.two.result c.two.ensures.0 c.two.ensures.1 (sym c.form_of.ensures ∙ c.in-Named.is)

pub returns-in-Binary : goal.returns-in-Binary
returns-in-Binary c = pair_sign _ _ _ refl (sym c.form_of.ensures ∙ c.in-Binary.is)

pub returns-in-Unary : goal.returns-in-Unary
returns-in-Unary c = part_sign _ _ _ refl (sym c.form_of.ensures ∙ c.in-Unary.is)

pub returns-in-Unknown : goal.returns-in-Unknown
returns-in-Unknown c = absurd (no_sign _ _ c.requires.formula c.requires.stands (sym c.form_of.ensures ∙ c.in-Unknown.is))
