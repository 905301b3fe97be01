use mathlib.Core.Path.{refl}
use Rattle.tree.specs.ReadingLaws.{tree_refused}
use Rattle.short_trees.specs.Promise.{shortening}
use Rattle.short_trees.specs.AskedLaws.{asked_over, asked_back, asked_unread, asked_readable, asked_taken, tree_whole}
use Rattle.short_trees.proofs.shorten_in.Goals as goal

pub returns-in_default : goal.returns-in_default
returns-in_default c = asked_over shortening c.requires c.args.out.now c.enter_question.result _ c.enter_question.ensures c.in_default.is

pub unread-requires : goal.unread-requires
unread-requires c = asked_back shortening c.requires c.args.out.now c.enter_question.result _ c.enter_question.ensures c.in-Some.is refl

pub shorten_read-requires : goal.shorten_read-requires
shorten_read-requires c = asked_readable shortening c.requires c.args.out.now c.enter_question.result _ c.enter_question.ensures c.in-Some.is (tree_whole c.requires.bytes c.read_tree.ensures c.in-Ok.is)

pub returns-in-Err : goal.returns-in-Err
returns-in-Err c = asked_unread shortening c.requires c.args.out.now c.enter_question.result _ c.enter_question.ensures c.in-Some.is (tree_refused _ _ c.read_tree.ensures c.in-Err.is) refl c.unread.ensures

pub returns-in-Ok : goal.returns-in-Ok
returns-in-Ok c = asked_taken shortening c.requires c.args.out.now c.enter_question.result _ c.enter_question.ensures c.in-Some.is (tree_whole c.requires.bytes c.read_tree.ensures c.in-Ok.is) c.shorten_read.ensures
