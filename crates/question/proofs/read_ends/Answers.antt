use Rattle.std.proofs.lemmas.Result.{err_from_is_err_and}
use Rattle.question.specs.StagesLaws.{ends_first, middle_inside, ends_second, ends_left_over, ends_all}
use Rattle.question.proofs.read_ends.Goals as goal

pub returns-in_err-middle : goal.returns-in_err-middle
returns-in_err-middle c = let p = err_from_is_err_and c.from_residual.result c.from_residual.ensures.1 in rw (p.1, p.2, ← c.in_err-middle.was) (ends_first _ c.zone_end.ensures c.in_err-middle.was)

pub zone_end-requires-2 : goal.zone_end-requires-2
zone_end-requires-2 c = (middle_inside _ c.zone_end.ensures c.in_ok-middle.was).1

pub returns-in_err-end : goal.returns-in_err-end
returns-in_err-end c =
    let p = err_from_is_err_and c.from_residual-in_err-end.result c.from_residual-in_err-end.ensures.1 in
    rw (p.1, p.2, ← c.in_err-end.was) (ends_second _ c.zone_end.ensures c.in_ok-middle.was c.zone_end-2.ensures c.in_err-end.was)

pub returns-then-end-s : goal.returns-then-end-s
returns-then-end-s c = ends_left_over _ c.zone_end.ensures c.in_ok-middle.was c.zone_end-2.ensures c.in_ok-end.was c.if-end-s.true

pub returns : goal.returns
returns c = ends_all _ c.zone_end.ensures c.in_ok-middle.was c.zone_end-2.ensures c.in_ok-end.was c.if-end-s.false
