use mathlib.Core.Path.{refl}
use Rattle.short_read.specs.ReadingLaws.{short_refused}
use Rattle.short_trees.specs.Promise.{expanding}
use Rattle.short_trees.specs.AskedLaws.{asked_over, asked_back, asked_unread, asked_readable, asked_taken, short_whole}
use Rattle.short_trees.proofs.expand_in.Goals as goal

pub returns-in_default : goal.returns-in_default
returns-in_default c = asked_over expanding c.requires c.args.out.now c.enter_question.result _ c.enter_question.ensures c.in_default.is

pub unread-requires : goal.unread-requires
unread-requires c = asked_back expanding c.requires c.args.out.now c.enter_question.result _ c.enter_question.ensures c.in-Some.is refl

pub expand_read-requires : goal.expand_read-requires
expand_read-requires c = asked_readable expanding c.requires c.args.out.now c.enter_question.result _ c.enter_question.ensures c.in-Some.is (short_whole c.requires.bytes c.read_short.ensures c.in-Ok.is)

pub returns-in-Err : goal.returns-in-Err
returns-in-Err c = asked_unread expanding c.requires c.args.out.now c.enter_question.result _ c.enter_question.ensures c.in-Some.is (short_refused _ _ c.read_short.ensures c.in-Err.is) refl c.unread.ensures

pub returns-in-Ok : goal.returns-in-Ok
returns-in-Ok c = asked_taken expanding c.requires c.args.out.now c.enter_question.result _ c.enter_question.ensures c.in-Some.is (short_whole c.requires.bytes c.read_short.ensures c.in-Ok.is) c.expand_read.ensures
