use mathlib.Core.Path.{refl, sym, ◌∙◌}
use native.Mathlib.Omega.{arith}
use Rattle.formula.proofs.RewritingLaws.{unit_rewritten, named_rewritten, unary_rewritten, binary_rewritten, inside, below, known, name_inside, part_ready, first_ready, second_ready, second_after}
use lib.ListN.{length-set}
use Rattle.formula.proofs.rewrite.+rewrite.Goals as goal

pub bounds-s-at : goal.bounds-s-at
bounds-s-at t c = inside _ _ _ c.requires

pub turned-requires : goal.turned-requires
turned-requires t c = below _ _ _ c.requires

pub bounds-out-at : goal.bounds-out-at
bounds-out-at t c = omega (arith, inside _ _ _ c.requires, c.requires.room)

pub overflow_add-result : goal.overflow_add-result
overflow_add-result t c = omega (arith, inside _ _ _ c.requires)

pub overflow_add-out : goal.overflow_add-out
overflow_add-out t c = omega (arith, name_inside _ _ _ c.requires (sym c.form_of.ensures ∙ c.in-Named.is))

pub bounds-s-at-in-Named : goal.bounds-s-at-in-Named
bounds-s-at-in-Named t c = omega (arith, name_inside _ _ _ c.requires (sym c.form_of.ensures ∙ c.in-Named.is))

pub overflow_add-out-in-Named : goal.overflow_add-out-in-Named
overflow_add-out-in-Named t c = omega (arith, name_inside _ _ _ c.requires (sym c.form_of.ensures ∙ c.in-Named.is))

pub bounds-out-at-in-Named : goal.bounds-out-at-in-Named
bounds-out-at-in-Named t c = simp length-set (omega (arith, name_inside _ _ _ c.requires (sym c.form_of.ensures ∙ c.in-Named.is), c.requires.room))

pub overflow_add-out-in-Named-2 : goal.overflow_add-out-in-Named-2
overflow_add-out-in-Named-2 t c = omega (arith, name_inside _ _ _ c.requires (sym c.form_of.ensures ∙ c.in-Named.is))

pub bounds-s-at-in-Named-2 : goal.bounds-s-at-in-Named-2
bounds-s-at-in-Named-2 t c = omega (arith, name_inside _ _ _ c.requires (sym c.form_of.ensures ∙ c.in-Named.is))

pub overflow_add-out-in-Named-3 : goal.overflow_add-out-in-Named-3
overflow_add-out-in-Named-3 t c = omega (arith, name_inside _ _ _ c.requires (sym c.form_of.ensures ∙ c.in-Named.is))

pub bounds-out-at-in-Named-2 : goal.bounds-out-at-in-Named-2
bounds-out-at-in-Named-2 t c = simp length-set (omega (arith, name_inside _ _ _ c.requires (sym c.form_of.ensures ∙ c.in-Named.is), c.requires.room))

pub overflow_add-result-in-Named : goal.overflow_add-result-in-Named
overflow_add-result-in-Named t c = omega (arith, name_inside _ _ _ c.requires (sym c.form_of.ensures ∙ c.in-Named.is))

pub overflow_add-at : goal.overflow_add-at
overflow_add-at t c = omega (arith, inside _ _ _ c.requires)

pub rewrite-second-requires : goal.rewrite-second-requires
rewrite-second-requires t c = (omega (arith, inside _ _ _ c.requires, c.decreases), first_ready _ _ _ c.requires _ (sym c.form_of.ensures ∙ c.in-Binary.is))

pub rewrite-requires : goal.rewrite-requires
rewrite-requires t c = (omega (arith, inside _ _ _ c.requires, c.decreases, second_after _ _ _ c.requires (sym c.form_of.ensures ∙ c.in-Binary.is) c.rewrite-second.ensures), second_ready _ _ _ c.requires (sym c.form_of.ensures ∙ c.in-Binary.is) c.rewrite-second.ensures (c.rewrite-second.auto.out ∙ simp length-set))

pub overflow_add-at-in-Unary : goal.overflow_add-at-in-Unary
overflow_add-at-in-Unary t c = omega (arith, inside _ _ _ c.requires)

pub rewrite-requires-in-Unary : goal.rewrite-requires-in-Unary
rewrite-requires-in-Unary t c = (omega (arith, inside _ _ _ c.requires, c.decreases), part_ready _ _ _ c.requires _ (sym c.form_of.ensures ∙ c.in-Unary.is))

pub returns-in-Unit : goal.returns-in-Unit
returns-in-Unit t c = unit_rewritten _ _ _ _ c.turned.ensures (sym c.form_of.ensures ∙ c.in-Unit.is)

pub returns-in-Named : goal.returns-in-Named
returns-in-Named t c = named_rewritten _ _ _ _ c.turned.ensures (sym c.form_of.ensures ∙ c.in-Named.is) refl refl

pub shape_of-out-in-Binary : goal.shape_of-out-in-Binary
shape_of-out-in-Binary t c = c.rewrite.auto.out ∙ c.rewrite-second.auto.out ∙ simp length-set

pub returns-in-Binary : goal.returns-in-Binary
returns-in-Binary t c = binary_rewritten _ _ _ _ c.turned.ensures (sym c.form_of.ensures ∙ c.in-Binary.is) c.left.ensures c.rewrite-second.ensures c.rewrite.ensures

pub shape_of-out-in-Unary : goal.shape_of-out-in-Unary
shape_of-out-in-Unary t c = c.rewrite-in-Unary.auto.out ∙ simp length-set

pub returns-in-Unary : goal.returns-in-Unary
returns-in-Unary t c = unary_rewritten _ _ _ _ c.turned.ensures (sym c.form_of.ensures ∙ c.in-Unary.is) c.rewrite-in-Unary.ensures

pub returns-in-Unknown : goal.returns-in-Unknown
returns-in-Unknown t c = absurd (known _ _ _ c.requires (sym c.form_of.ensures ∙ c.in-Unknown.is))
