use Rattle.std.proofs.lemmas.Result.{err_from_is_err_and}
use Rattle.std.proofs.Math.Seq.{take-length}
use Rattle.question.proofs.OneSidedLaws.{one_sided_refused, one_sided_short, one_sided_written, one_sided_copied, two_sided_ready}
use Rattle.question.proofs.to_one_sided.Goals as goal

pub returns-in_err-places : goal.returns-in_err-places
returns-in_err-places c =
    let p = err_from_is_err_and c.from_residual.result c.from_residual.ensures.1 in
    rw (p.1, p.2) (one_sided_refused c.args.s.now (record { byte = λ k. (c.type_inv.s k).fits }) c.args.out.now c.read_question.ensures c.in_err-places.was)

pub returns-then-out-n : goal.returns-then-out-n
returns-then-out-n c = one_sided_short c.args.s.now (record { byte = λ k. (c.type_inv.s k).fits }) c.args.out.now c.read_question.ensures c.in_ok-places.was c.if-out-n.true

pub turn-requires : goal.turn-requires
turn-requires c = two_sided_ready c.args.s.now (record { byte = λ k. (c.type_inv.s k).fits }) c.args.out.now c.read_question.ensures c.in_ok-places.was c.if-out-n.false c.if-places-eq-ONE_SIDED.false

pub returns-then-places-eq-ONE_SIDED : goal.returns-then-places-eq-ONE_SIDED
returns-then-places-eq-ONE_SIDED c =
    one_sided_copied c.args.s.now (record { byte = λ k. (c.type_inv.s k).fits }) c.args.out.now c.read_question.ensures c.in_ok-places.was c.if-out-n.false c.if-places-eq-ONE_SIDED.true
    (rw (c.copy_from_slice.ensures.after, take-length c.args.s.now))

pub returns-else-places-eq-ONE_SIDED : goal.returns-else-places-eq-ONE_SIDED
returns-else-places-eq-ONE_SIDED c = one_sided_written c.args.s.now (record { byte = λ k. (c.type_inv.s k).fits }) c.args.out.now c.read_question.ensures c.in_ok-places.was c.if-out-n.false c.turn.ensures
