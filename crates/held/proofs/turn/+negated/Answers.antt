use borrow.Author.Rules.{rules}
use Rattle.held.proofs.TurnSteps.{as_known, as_leaf, as_half, as_two, as_single, turned_at, turned_full, turned_known, leaf_close, half_over, half_ready, half_close, two_over, two_over_2, two_ready, two_close, single_over, single_ready, single_close}
use Rattle.held.proofs.turn.+negated.Goals as goal

pub returns-in_err-nb-in-Half : goal.returns-in_err-nb-in-Half
returns-in_err-nb-in-Half t c = let h = half_over _ _ _ _ _ c.requires (as_half _ _ c.step_of.result c.step_of.ensures _ _ c.in-Half.is) _ (turned_full _ _ c.negated.result _ _ c.negated.ensures c.in_err-nb-in-Half.was) in search rules

pub finish-requires-in-Half : goal.finish-requires-in-Half
finish-requires-in-Half t c = half_ready _ _ _ _ _ c.requires (as_half _ _ c.step_of.result c.step_of.ensures _ _ c.in-Half.is) _ _ _ (turned_at _ _ c.negated.result _ _ _ c.negated.ensures c.in_ok-nb-in-Half.was)

pub returns-in_err-na-in-Two : goal.returns-in_err-na-in-Two
returns-in_err-na-in-Two t c = let h = two_over _ _ _ _ _ _ c.requires (as_two _ _ c.step_of.result c.step_of.ensures _ _ _ c.in-Two.is) _ (turned_full _ _ c.negated-in-Two.result _ _ c.negated-in-Two.ensures c.in_err-na-in-Two.was) in search rules

pub returns-in_err-nb-in-Two : goal.returns-in_err-nb-in-Two
returns-in_err-nb-in-Two t c = let h = two_over_2 _ _ _ _ _ _ c.requires (as_two _ _ c.step_of.result c.step_of.ensures _ _ _ c.in-Two.is) _ _ _ _ (turned_at _ _ c.negated-in-Two.result _ _ _ c.negated-in-Two.ensures c.in_ok-na-in-Two.was) (turned_full _ _ c.negated-in-Two-2.result _ _ c.negated-in-Two-2.ensures c.in_err-nb-in-Two.was) in search rules

pub finish-requires-in-Two : goal.finish-requires-in-Two
finish-requires-in-Two t c = two_ready _ _ _ _ _ _ c.requires (as_two _ _ c.step_of.result c.step_of.ensures _ _ _ c.in-Two.is) _ _ _ _ _ _ (turned_at _ _ c.negated-in-Two.result _ _ _ c.negated-in-Two.ensures c.in_ok-na-in-Two.was) (turned_at _ _ c.negated-in-Two-2.result _ _ _ c.negated-in-Two-2.ensures c.in_ok-nb-in-Two.was)

pub returns-in_err-na-in-Single : goal.returns-in_err-na-in-Single
returns-in_err-na-in-Single t c = let h = single_over _ _ _ _ _ c.requires (as_single _ _ c.step_of.result c.step_of.ensures _ _ c.in-Single.is) _ (turned_full _ _ c.negated-in-Single.result _ _ c.negated-in-Single.ensures c.in_err-na-in-Single.was) in search rules

pub finish-requires-in-Single : goal.finish-requires-in-Single
finish-requires-in-Single t c = single_ready _ _ _ _ _ c.requires (as_single _ _ c.step_of.result c.step_of.ensures _ _ c.in-Single.is) _ _ _ (turned_at _ _ c.negated-in-Single.result _ _ _ c.negated-in-Single.ensures c.in_ok-na-in-Single.was)

pub returns-in-Known : goal.returns-in-Known
returns-in-Known t c = turned_known _ _ _ _ c.requires (as_known _ _ c.step_of.result c.step_of.ensures _ c.in-Known.is)

pub returns-in-Leaf : goal.returns-in-Leaf
returns-in-Leaf t c = leaf_close _ _ _ _ _ c.finish.result _ _ c.requires (as_leaf _ _ c.step_of.result c.step_of.ensures _ _ c.in-Leaf.is) c.finish.ensures

pub returns-in_ok-nb-in-Half : goal.returns-in_ok-nb-in-Half
returns-in_ok-nb-in-Half t c = half_close _ _ _ _ _ c.requires (as_half _ _ c.step_of.result c.step_of.ensures _ _ c.in-Half.is) _ _ _ c.finish-in-Half.result _ _ (turned_at _ _ c.negated.result _ _ _ c.negated.ensures c.in_ok-nb-in-Half.was) c.finish-in-Half.ensures

pub returns-in_ok-nb-in-Two : goal.returns-in_ok-nb-in-Two
returns-in_ok-nb-in-Two t c = two_close _ _ _ _ _ _ c.requires (as_two _ _ c.step_of.result c.step_of.ensures _ _ _ c.in-Two.is) _ _ _ _ _ _ c.finish-in-Two.result _ _ (turned_at _ _ c.negated-in-Two.result _ _ _ c.negated-in-Two.ensures c.in_ok-na-in-Two.was) (turned_at _ _ c.negated-in-Two-2.result _ _ _ c.negated-in-Two-2.ensures c.in_ok-nb-in-Two.was) c.finish-in-Two.ensures

pub returns-in_ok-na-in-Single : goal.returns-in_ok-na-in-Single
returns-in_ok-na-in-Single t c = single_close _ _ _ _ _ c.requires (as_single _ _ c.step_of.result c.step_of.ensures _ _ c.in-Single.is) _ _ _ c.finish-in-Single.result _ _ (turned_at _ _ c.negated-in-Single.result _ _ _ c.negated-in-Single.ensures c.in_ok-na-in-Single.was) c.finish-in-Single.ensures
