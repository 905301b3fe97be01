use mathlib.Core.Logic.{⊎_elim}
use native.Mathlib.Omega.{arith}
use Rattle.std.proofs.lemmas.Result.{err_from_is_err_and}
use Rattle.short_trees.specs.ExpandReadLaws.{expand_first, expand_stopped, expand_from, expand_long, expand_short, expand_front, expand_second, expand_goes_on, expand_written}
use Rattle.short_trees.proofs.expand_read.Goals as goal

pub grow-requires : goal.grow-requires
grow-requires c = expand_first c.requires

pub returns-in_err-to : goal.returns-in_err-to
returns-in_err-to c =
    let p = err_from_is_err_and c.from_residual.result c.from_residual.ensures.1 in
    rw (p.1, p.2) (expand_stopped c.requires c.args.out.now c.grow.ensures _ c.in_err-to.was)

pub returns-then-to-gt-LONGEST : goal.returns-then-to-gt-LONGEST
returns-then-to-gt-LONGEST c =
    ⊎_elim (λ over. expand_long c.requires c.args.out.now c.grow.ensures c.in_ok-to.was over) (λ h. expand_short c.requires c.args.out.now c.grow.ensures c.in_ok-to.was h.0 h.1) c.then-to-gt-LONGEST.either

pub bounds-out-0 : goal.bounds-out-0
bounds-out-0 c = omega (arith, expand_from c.requires c.args.out.now c.grow.ensures c.in_ok-to.was)

pub overflow_sub-to : goal.overflow_sub-to
overflow_sub-to c = expand_from c.requires c.args.out.now c.grow.ensures c.in_ok-to.was

pub two_bytes-requires : goal.two_bytes-requires
two_bytes-requires c = expand_front c.requires c.args.out.now c.grow.ensures c.in_ok-to.was (omega arith) (omega arith)

pub grow-requires-2 : goal.grow-requires-2
grow-requires-2 c = expand_second c.requires c.args.out.now c.grow.ensures c.in_ok-to.was (omega arith) (omega arith)

pub returns-in_err-grow : goal.returns-in_err-grow
returns-in_err-grow c = absurd (expand_goes_on c.requires c.args.out.now c.grow.ensures c.in_ok-to.was (omega arith) (omega arith) c.two_bytes.ensures c.grow-2.ensures c.in_err-grow.was)

pub returns : goal.returns
returns c = expand_written c.requires c.args.out.now c.grow.ensures c.in_ok-to.was (omega arith) (omega arith) c.two_bytes.ensures c.grow-2.ensures
