use native.Mathlib.Omega.{arith}
use Rattle.std.proofs.lemmas.Result.{err_from_is_err_and}
use Rattle.short_trees.specs.ShortenReadLaws.{shorten_no_room, shorten_shows, shorten_unlike, shorten_first, shorten_stopped, shorten_from, shorten_short, shorten_front, shorten_second, shorten_goes_on, shorten_written}
use Rattle.short_trees.proofs.shorten_read.Goals as goal

pub returns-in_default : goal.returns-in_default
returns-in_default c = shorten_no_room c.requires c.args.out.now c.spell_first.ensures c.in_default.is

pub is_shown-requires : goal.is_shown-requires
is_shown-requires c = shorten_shows c.requires c.args.out.now c.spell_first.ensures c.in-Some.is

pub returns-then-not-is_shown : goal.returns-then-not-is_shown
returns-then-not-is_shown c = shorten_unlike c.requires c.args.out.now c.spell_first.ensures c.in-Some.is c.is_shown.ensures c.if-not-is_shown.true

pub shrink-requires : goal.shrink-requires
shrink-requires c = shorten_first c.requires c.args.out.now c.spell_first.ensures c.in-Some.is c.is_shown.ensures c.if-not-is_shown.false

pub returns-in_err-to : goal.returns-in_err-to
returns-in_err-to c =
    let p = err_from_is_err_and c.from_residual.result c.from_residual.ensures.1 in
    rw (p.1, p.2) (shorten_stopped c.requires c.args.out.now c.spell_first.ensures c.in-Some.is c.is_shown.ensures c.if-not-is_shown.false c.shrink.ensures _ c.in_err-to.was)

pub returns-then-out-to : goal.returns-then-out-to
returns-then-out-to c = shorten_short c.requires c.args.out.now c.spell_first.ensures c.in-Some.is c.is_shown.ensures c.if-not-is_shown.false c.shrink.ensures c.in_ok-to.was (omega arith)

pub bounds-out-0 : goal.bounds-out-0
bounds-out-0 c = omega (arith, shorten_from c.requires c.args.out.now c.spell_first.ensures c.in-Some.is c.is_shown.ensures c.if-not-is_shown.false c.shrink.ensures c.in_ok-to.was)

pub overflow_sub-to : goal.overflow_sub-to
overflow_sub-to c = (shorten_from c.requires c.args.out.now c.spell_first.ensures c.in-Some.is c.is_shown.ensures c.if-not-is_shown.false c.shrink.ensures c.in_ok-to.was).0

pub two_bytes-requires : goal.two_bytes-requires
two_bytes-requires c = shorten_front c.requires c.args.out.now c.spell_first.ensures c.in-Some.is c.is_shown.ensures c.if-not-is_shown.false c.shrink.ensures c.in_ok-to.was (omega arith)

pub shrink-requires-2 : goal.shrink-requires-2
shrink-requires-2 c = shorten_second c.requires c.args.out.now c.spell_first.ensures c.in-Some.is c.is_shown.ensures c.if-not-is_shown.false c.shrink.ensures c.in_ok-to.was (omega arith)

pub returns-in_err-shrink : goal.returns-in_err-shrink
returns-in_err-shrink c = absurd (shorten_goes_on c.requires c.args.out.now c.spell_first.ensures c.in-Some.is c.is_shown.ensures c.if-not-is_shown.false c.shrink.ensures c.in_ok-to.was (omega arith) c.two_bytes.ensures c.shrink-2.ensures c.in_err-shrink.was)

pub returns : goal.returns
returns c = shorten_written c.requires c.args.out.now c.spell_first.ensures c.in-Some.is c.is_shown.ensures c.if-not-is_shown.false c.shrink.ensures c.in_ok-to.was (omega arith) c.two_bytes.ensures c.shrink-2.ensures
