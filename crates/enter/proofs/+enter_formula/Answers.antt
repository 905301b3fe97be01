use Rattle.std.proofs.Common.{rules}
use Rattle.enter.proofs.Steps.{inside, leaf_next, leaf_close, one_ready, one_full, one_next, one_close, two_ready, two_full, two_ready_2, two_further, two_full_2, two_next, two_close, as_leaf, as_one, as_two, entered_at, entered_full}
use native.Mathlib.Omega.{arith}
use Rattle.enter.proofs.+enter_formula.Goals as goal

pub store-requires : goal.store-requires
store-requires t c = leaf_next _ _ _ c.requires _ _ _ (as_leaf _ _ c.sign_at.result c.sign_at.ensures _ _ _ c.in-Leaf.is)

pub overflow_add-at : goal.overflow_add-at
overflow_add-at t c = omega (arith, inside _ _ _ c.requires)

pub enter_formula-requires : goal.enter_formula-requires
enter_formula-requires t c = (omega (arith, c.decreases, inside _ _ _ c.requires), one_ready _ _ _ c.requires _ (as_one _ _ c.sign_at.result c.sign_at.ensures _ c.in-One.is))

pub returns-in_err-a-in-One : goal.returns-in_err-a-in-One
returns-in_err-a-in-One t c = let h = one_full _ _ _ c.requires _ (as_one _ _ c.sign_at.result c.sign_at.ensures _ c.in-One.is) _ (entered_full _ _ _ c.enter_formula.result _ c.enter_formula.ensures c.in_err-a-in-One.was) in search rules

pub store-requires-in-One : goal.store-requires-in-One
store-requires-in-One t c = one_next _ _ _ c.requires _ (as_one _ _ c.sign_at.result c.sign_at.ensures _ c.in-One.is) _ _ _ (entered_at _ _ _ c.enter_formula.result _ c.enter_formula.ensures _ _ c.in_ok-a-in-One.was)

pub overflow_add-at-in-Two : goal.overflow_add-at-in-Two
overflow_add-at-in-Two t c = omega (arith, inside _ _ _ c.requires)

pub enter_formula-requires-in-Two : goal.enter_formula-requires-in-Two
enter_formula-requires-in-Two t c = (omega (arith, c.decreases, inside _ _ _ c.requires), two_ready _ _ _ c.requires _ (as_two _ _ c.sign_at.result c.sign_at.ensures _ c.in-Two.is))

pub returns-in_err-a-in-Two : goal.returns-in_err-a-in-Two
returns-in_err-a-in-Two t c = let h = two_full _ _ _ c.requires _ (as_two _ _ c.sign_at.result c.sign_at.ensures _ c.in-Two.is) _ (entered_full _ _ _ c.enter_formula-in-Two.result _ c.enter_formula-in-Two.ensures c.in_err-a-in-Two.was) in search rules

pub enter_formula-requires-in-Two-2 : goal.enter_formula-requires-in-Two-2
enter_formula-requires-in-Two-2 t c = (omega (arith, c.decreases, two_further _ _ _ c.requires _ (as_two _ _ c.sign_at.result c.sign_at.ensures _ c.in-Two.is) _ _ _ (entered_at _ _ _ c.enter_formula-in-Two.result _ c.enter_formula-in-Two.ensures _ _ c.in_ok-a-in-Two.was)), two_ready_2 _ _ _ c.requires _ (as_two _ _ c.sign_at.result c.sign_at.ensures _ c.in-Two.is) _ _ _ (entered_at _ _ _ c.enter_formula-in-Two.result _ c.enter_formula-in-Two.ensures _ _ c.in_ok-a-in-Two.was))

pub returns-in_err-b-in-Two : goal.returns-in_err-b-in-Two
returns-in_err-b-in-Two t c = let h = two_full_2 _ _ _ c.requires _ (as_two _ _ c.sign_at.result c.sign_at.ensures _ c.in-Two.is) _ _ _ (entered_at _ _ _ c.enter_formula-in-Two.result _ c.enter_formula-in-Two.ensures _ _ c.in_ok-a-in-Two.was) _ (entered_full _ _ _ c.enter_formula-in-Two-2.result _ c.enter_formula-in-Two-2.ensures c.in_err-b-in-Two.was) in search rules

pub store-requires-in-Two : goal.store-requires-in-Two
store-requires-in-Two t c = two_next _ _ _ c.requires _ (as_two _ _ c.sign_at.result c.sign_at.ensures _ c.in-Two.is) _ _ _ (entered_at _ _ _ c.enter_formula-in-Two.result _ c.enter_formula-in-Two.ensures _ _ c.in_ok-a-in-Two.was) _ _ _ (entered_at _ _ _ c.enter_formula-in-Two-2.result _ c.enter_formula-in-Two-2.ensures _ _ c.in_ok-b-in-Two.was)

pub returns-in-Leaf : goal.returns-in-Leaf
returns-in-Leaf t c = leaf_close _ _ _ c.requires _ _ _ (as_leaf _ _ c.sign_at.result c.sign_at.ensures _ _ _ c.in-Leaf.is) c.store.result _ c.store.ensures

pub returns-in_ok-a-in-One : goal.returns-in_ok-a-in-One
returns-in_ok-a-in-One t c = one_close _ _ _ c.requires _ (as_one _ _ c.sign_at.result c.sign_at.ensures _ c.in-One.is) _ _ _ (entered_at _ _ _ c.enter_formula.result _ c.enter_formula.ensures _ _ c.in_ok-a-in-One.was) c.store-in-One.result _ c.store-in-One.ensures

pub returns-in_ok-b-in-Two : goal.returns-in_ok-b-in-Two
returns-in_ok-b-in-Two t c = two_close _ _ _ c.requires _ (as_two _ _ c.sign_at.result c.sign_at.ensures _ c.in-Two.is) _ _ _ (entered_at _ _ _ c.enter_formula-in-Two.result _ c.enter_formula-in-Two.ensures _ _ c.in_ok-a-in-Two.was) _ _ _ (entered_at _ _ _ c.enter_formula-in-Two-2.result _ c.enter_formula-in-Two-2.ensures _ _ c.in_ok-b-in-Two.was) c.store-in-Two.result _ c.store-in-Two.ensures
