use mathlib.Core.Path.{sym, ◌∙◌}
use native.Mathlib.Omega.{arith}
use Rattle.print.specs.PrintingLaws.{read_on, unit_printed, name_printed, unary_ready, unary_printed, first_ready, second_after, second_ready, binary_printed, inside, known, name_inside, tag_known}
use Rattle.print.proofs.+print.Goals as goal

pub bounds-s-at : goal.bounds-s-at
bounds-s-at t c = inside _ _ c.requires

pub overflow_add-inside : goal.overflow_add-inside
overflow_add-inside t c = omega (arith, inside _ _ c.requires)

pub sign-requires : goal.sign-requires
sign-requires t c = tag_known _ _ c.requires

pub overflow_add-at : goal.overflow_add-at
overflow_add-at t c = omega (arith, name_inside _ _ c.requires (sym c.form_of.ensures ∙ c.in-Named.is))

pub bounds-s-at-in-Named : goal.bounds-s-at-in-Named
bounds-s-at-in-Named t c = omega (arith, name_inside _ _ c.requires (sym c.form_of.ensures ∙ c.in-Named.is))

pub overflow_add-at-in-Named : goal.overflow_add-at-in-Named
overflow_add-at-in-Named t c = omega (arith, name_inside _ _ c.requires (sym c.form_of.ensures ∙ c.in-Named.is))

pub bounds-s-at-in-Named-2 : goal.bounds-s-at-in-Named-2
bounds-s-at-in-Named-2 t c = omega (arith, name_inside _ _ c.requires (sym c.form_of.ensures ∙ c.in-Named.is))

pub overflow_add-behind : goal.overflow_add-behind
overflow_add-behind t c = omega (arith, name_inside _ _ c.requires (sym c.form_of.ensures ∙ c.in-Named.is))

pub sign-requires-in-Named : goal.sign-requires-in-Named
sign-requires-in-Named t c = tag_known _ _ c.requires

pub sign-signed-requires : goal.sign-signed-requires
sign-signed-requires t c = tag_known _ _ c.requires

pub print-requires : goal.print-requires
print-requires t c = (omega (arith, inside _ _ c.requires, c.decreases, read_on c.sign-signed.ensures), unary_ready _ c.args.p _ c.args.style _ (sym c.form_of.ensures ∙ c.in-Unary.is) c.sign-signed.ensures c.requires)

pub print-first-requires : goal.print-first-requires
print-first-requires t c = (omega (arith, inside _ _ c.requires, c.decreases, read_on c.emit-open.ensures), first_ready _ c.args.p _ c.args.style _ (sym c.form_of.ensures ∙ c.in-Binary.is) c.emit-open.ensures c.requires)

pub sign-between-requires : goal.sign-between-requires
sign-between-requires t c = tag_known _ _ c.requires

pub print-second-requires : goal.print-second-requires
print-second-requires t c = (omega (arith, inside _ _ c.requires, c.decreases, second_after _ c.args.p _ c.args.style _ (sym c.form_of.ensures ∙ c.in-Binary.is) c.emit-open.ensures c.print-first.ensures c.sign-between.ensures c.requires), second_ready _ c.args.p _ c.args.style _ (sym c.form_of.ensures ∙ c.in-Binary.is) c.emit-open.ensures c.print-first.ensures c.sign-between.ensures c.requires)

pub returns-in-Unit : goal.returns-in-Unit
returns-in-Unit t c = unit_printed _ _ _ _ _ (sym c.form_of.ensures ∙ c.in-Unit.is) c.sign.ensures

pub returns-in-Named : goal.returns-in-Named
returns-in-Named t c = name_printed _ _ _ _ _ (sym c.form_of.ensures ∙ c.in-Named.is) (c.from.ensures ∙ c.from_be_bytes-n.ensures) c.name-named.ensures c.sign-in-Named.ensures

pub returns-in-Unary : goal.returns-in-Unary
returns-in-Unary t c = unary_printed _ _ _ _ _ (sym c.form_of.ensures ∙ c.in-Unary.is) c.sign-signed.ensures c.print.ensures

pub returns-in-Binary : goal.returns-in-Binary
returns-in-Binary t c = binary_printed _ _ _ _ _ (sym c.form_of.ensures ∙ c.in-Binary.is) c.emit-open.ensures c.print-first.ensures c.sign-between.ensures c.print-second.ensures c.emit.ensures

pub returns-in-Unknown : goal.returns-in-Unknown
returns-in-Unknown t c = absurd (known _ _ c.requires (sym c.form_of.ensures ∙ c.in-Unknown.is))
