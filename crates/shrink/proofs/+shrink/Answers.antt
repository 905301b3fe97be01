use mathlib.Core.Path.{refl}
use Rattle.std.proofs.Common.{rules}
use Rattle.least.specs.FindingLaws.{word_rule, word_first}
use Rattle.shrink.specs.ShrinkingLaws.{before_end, node_inside, least_at, least_nowhere, number_word, node_room, word_room, falls_first, shrinks_end, shrinks_nowhere, shrinks_leaf, shrinks_first_full, first_shrinking, shrinks_one, shrinks_stopped, second_stepping, shrinks_second_full, falls_second, second_shrinking, shrinks_two}
use Rattle.shrink.proofs.+shrink.Goals as goal

pub returns-then-at-s : goal.returns-then-at-s
returns-then-at-s t c = shrinks_end c.requires c.if-at-s.true

pub node_at-node-requires : goal.node_at-node-requires
node_at-node-requires t c = c.requires.inside

pub least_step-requires : goal.least_step-requires
least_step-requires t c = (c.requires.sound, node_inside c.node_at-node.ensures)

pub shape_of-mem-in_default : goal.shape_of-mem-in_default
shape_of-mem-in_default t c = refl

pub returns-in_default : goal.returns-in_default
returns-in_default t c = shrinks_nowhere c.requires (before_end c.requires c.if-at-s.false) c.node_at-node.ensures (least_nowhere c.least_step.ensures c.in_default.is)

pub put_node-written-requires : goal.put_node-written-requires
put_node-written-requires t c = node_room c.requires (least_at c.least_step.ensures c.in-Some.is)

pub node_word-w-requires : goal.node_word-w-requires
node_word-w-requires t c = word_room c.from.ensures (least_at c.least_step.ensures c.in-Some.is)

pub premises-n-requires : goal.premises-n-requires
premises-n-requires t c = word_rule (least_at c.least_step.ensures c.in-Some.is).taken (number_word (least_at c.least_step.ensures c.in-Some.is) c.from.ensures c.node_word-w.ensures)

pub shape_of-mem-then-n-eq0 : goal.shape_of-mem-then-n-eq0
shape_of-mem-then-n-eq0 t c = refl

pub shape_of-out-then-n-eq0 : goal.shape_of-out-then-n-eq0
shape_of-out-then-n-eq0 t c = c.put_node-written.ensures.put.long

pub returns-then-n-eq0 : goal.returns-then-n-eq0
returns-then-n-eq0 t c = shrinks_leaf c.requires (before_end c.requires c.if-at-s.false) c.node_at-node.ensures (least_at c.least_step.ensures c.in-Some.is) c.put_node-written.ensures (number_word (least_at c.least_step.ensures c.in-Some.is) c.from.ensures c.node_word-w.ensures) c.premises-n.ensures c.if-n-eq0.true

pub first_premise-requires : goal.first_premise-requires
first_premise-requires t c = (word_first (least_at c.least_step.ensures c.in-Some.is).taken (number_word (least_at c.least_step.ensures c.in-Some.is) c.from.ensures c.node_word-w.ensures) c.premises-n.ensures c.if-n-eq0.false).0

pub spell_first-requires : goal.spell_first-requires
spell_first-requires t c = c.first_premise.ensures.sound

pub shape_of-mem-in_default-spell_first : goal.shape_of-mem-in_default-spell_first
shape_of-mem-in_default-spell_first t c = (shrinks_first_full c.requires (before_end c.requires c.if-at-s.false) c.node_at-node.ensures (least_at c.least_step.ensures c.in-Some.is) c.put_node-written.ensures (number_word (least_at c.least_step.ensures c.in-Some.is) c.from.ensures c.node_word-w.ensures) c.premises-n.ensures c.if-n-eq0.false c.first_premise.ensures c.spell_first.ensures c.in_default-spell_first.is).grew.agree.long

pub shape_of-out-in_default-spell_first : goal.shape_of-out-in_default-spell_first
shape_of-out-in_default-spell_first t c = c.put_node-written.ensures.put.long

pub returns-in_default-spell_first : goal.returns-in_default-spell_first
returns-in_default-spell_first t c = shrinks_first_full c.requires (before_end c.requires c.if-at-s.false) c.node_at-node.ensures (least_at c.least_step.ensures c.in-Some.is) c.put_node-written.ensures (number_word (least_at c.least_step.ensures c.in-Some.is) c.from.ensures c.node_word-w.ensures) c.premises-n.ensures c.if-n-eq0.false c.first_premise.ensures c.spell_first.ensures c.in_default-spell_first.is

pub shrink-first-requires : goal.shrink-first-requires
shrink-first-requires t c = (falls_first (before_end c.requires c.if-at-s.false) c.node_at-node.ensures c.decreases, first_shrinking c.requires (before_end c.requires c.if-at-s.false) c.node_at-node.ensures (least_at c.least_step.ensures c.in-Some.is) c.put_node-written.ensures (number_word (least_at c.least_step.ensures c.in-Some.is) c.from.ensures c.node_word-w.ensures) c.premises-n.ensures c.if-n-eq0.false c.first_premise.ensures c.spell_first.ensures c.in-Some-spell_first.is)

pub shape_of-mem-then-n-eq1 : goal.shape_of-mem-then-n-eq1
shape_of-mem-then-n-eq1 t c = (shrinks_one c.requires (before_end c.requires c.if-at-s.false) c.node_at-node.ensures (least_at c.least_step.ensures c.in-Some.is) c.put_node-written.ensures (number_word (least_at c.least_step.ensures c.in-Some.is) c.from.ensures c.node_word-w.ensures) c.premises-n.ensures c.if-n-eq0.false c.first_premise.ensures c.spell_first.ensures c.in-Some-spell_first.is c.shrink-first.ensures c.if-n-eq1.true).grew.agree.long

pub shape_of-out-then-n-eq1 : goal.shape_of-out-then-n-eq1
shape_of-out-then-n-eq1 t c = (shrinks_one c.requires (before_end c.requires c.if-at-s.false) c.node_at-node.ensures (least_at c.least_step.ensures c.in-Some.is) c.put_node-written.ensures (number_word (least_at c.least_step.ensures c.in-Some.is) c.from.ensures c.node_word-w.ensures) c.premises-n.ensures c.if-n-eq0.false c.first_premise.ensures c.spell_first.ensures c.in-Some-spell_first.is c.shrink-first.ensures c.if-n-eq1.true).long

pub returns-then-n-eq1 : goal.returns-then-n-eq1
returns-then-n-eq1 t c = shrinks_one c.requires (before_end c.requires c.if-at-s.false) c.node_at-node.ensures (least_at c.least_step.ensures c.in-Some.is) c.put_node-written.ensures (number_word (least_at c.least_step.ensures c.in-Some.is) c.from.ensures c.node_word-w.ensures) c.premises-n.ensures c.if-n-eq0.false c.first_premise.ensures c.spell_first.ensures c.in-Some-spell_first.is c.shrink-first.ensures c.if-n-eq1.true

pub shape_of-mem-in_err-left : goal.shape_of-mem-in_err-left
shape_of-mem-in_err-left t c = (shrinks_stopped c.requires (before_end c.requires c.if-at-s.false) c.node_at-node.ensures (least_at c.least_step.ensures c.in-Some.is) c.put_node-written.ensures (number_word (least_at c.least_step.ensures c.in-Some.is) c.from.ensures c.node_word-w.ensures) c.premises-n.ensures c.if-n-eq0.false c.first_premise.ensures c.spell_first.ensures c.in-Some-spell_first.is c.shrink-first.ensures c.in_err-left.was).grew.agree.long

pub shape_of-out-in_err-left : goal.shape_of-out-in_err-left
shape_of-out-in_err-left t c = (shrinks_stopped c.requires (before_end c.requires c.if-at-s.false) c.node_at-node.ensures (least_at c.least_step.ensures c.in-Some.is) c.put_node-written.ensures (number_word (least_at c.least_step.ensures c.in-Some.is) c.from.ensures c.node_word-w.ensures) c.premises-n.ensures c.if-n-eq0.false c.first_premise.ensures c.spell_first.ensures c.in-Some-spell_first.is c.shrink-first.ensures c.in_err-left.was).long

pub returns-in_err-left : goal.returns-in_err-left
returns-in_err-left t c = let h = shrinks_stopped c.requires (before_end c.requires c.if-at-s.false) c.node_at-node.ensures (least_at c.least_step.ensures c.in-Some.is) c.put_node-written.ensures (number_word (least_at c.least_step.ensures c.in-Some.is) c.from.ensures c.node_word-w.ensures) c.premises-n.ensures c.if-n-eq0.false c.first_premise.ensures c.spell_first.ensures c.in-Some-spell_first.is c.shrink-first.ensures c.in_err-left.was in search rules

pub second_premise-requires : goal.second_premise-requires
second_premise-requires t c = second_stepping c.requires (before_end c.requires c.if-at-s.false) c.node_at-node.ensures (least_at c.least_step.ensures c.in-Some.is) c.put_node-written.ensures (number_word (least_at c.least_step.ensures c.in-Some.is) c.from.ensures c.node_word-w.ensures) c.premises-n.ensures c.if-n-eq0.false c.first_premise.ensures c.spell_first.ensures c.in-Some-spell_first.is c.shrink-first.ensures c.if-n-eq1.false c.in_ok-left.was

pub spell_first-requires-2 : goal.spell_first-requires-2
spell_first-requires-2 t c = c.second_premise.ensures.sound

pub shape_of-mem-in_default-spell_first-2 : goal.shape_of-mem-in_default-spell_first-2
shape_of-mem-in_default-spell_first-2 t c = (shrinks_second_full c.requires (before_end c.requires c.if-at-s.false) c.node_at-node.ensures (least_at c.least_step.ensures c.in-Some.is) c.put_node-written.ensures (number_word (least_at c.least_step.ensures c.in-Some.is) c.from.ensures c.node_word-w.ensures) c.premises-n.ensures c.if-n-eq0.false c.first_premise.ensures c.spell_first.ensures c.in-Some-spell_first.is c.shrink-first.ensures c.if-n-eq1.false c.in_ok-left.was c.second_premise.ensures c.spell_first-2.ensures c.in_default-spell_first-2.is).grew.agree.long

pub shape_of-out-in_default-spell_first-2 : goal.shape_of-out-in_default-spell_first-2
shape_of-out-in_default-spell_first-2 t c = (shrinks_second_full c.requires (before_end c.requires c.if-at-s.false) c.node_at-node.ensures (least_at c.least_step.ensures c.in-Some.is) c.put_node-written.ensures (number_word (least_at c.least_step.ensures c.in-Some.is) c.from.ensures c.node_word-w.ensures) c.premises-n.ensures c.if-n-eq0.false c.first_premise.ensures c.spell_first.ensures c.in-Some-spell_first.is c.shrink-first.ensures c.if-n-eq1.false c.in_ok-left.was c.second_premise.ensures c.spell_first-2.ensures c.in_default-spell_first-2.is).long

pub returns-in_default-spell_first-2 : goal.returns-in_default-spell_first-2
returns-in_default-spell_first-2 t c = shrinks_second_full c.requires (before_end c.requires c.if-at-s.false) c.node_at-node.ensures (least_at c.least_step.ensures c.in-Some.is) c.put_node-written.ensures (number_word (least_at c.least_step.ensures c.in-Some.is) c.from.ensures c.node_word-w.ensures) c.premises-n.ensures c.if-n-eq0.false c.first_premise.ensures c.spell_first.ensures c.in-Some-spell_first.is c.shrink-first.ensures c.if-n-eq1.false c.in_ok-left.was c.second_premise.ensures c.spell_first-2.ensures c.in_default-spell_first-2.is

pub shrink-requires : goal.shrink-requires
shrink-requires t c = (falls_second c.requires (before_end c.requires c.if-at-s.false) c.node_at-node.ensures (least_at c.least_step.ensures c.in-Some.is) c.put_node-written.ensures (number_word (least_at c.least_step.ensures c.in-Some.is) c.from.ensures c.node_word-w.ensures) c.premises-n.ensures c.if-n-eq0.false c.first_premise.ensures c.spell_first.ensures c.in-Some-spell_first.is c.shrink-first.ensures c.if-n-eq1.false c.in_ok-left.was c.second_premise.ensures c.spell_first-2.ensures c.decreases, second_shrinking c.requires (before_end c.requires c.if-at-s.false) c.node_at-node.ensures (least_at c.least_step.ensures c.in-Some.is) c.put_node-written.ensures (number_word (least_at c.least_step.ensures c.in-Some.is) c.from.ensures c.node_word-w.ensures) c.premises-n.ensures c.if-n-eq0.false c.first_premise.ensures c.spell_first.ensures c.in-Some-spell_first.is c.shrink-first.ensures c.if-n-eq1.false c.in_ok-left.was c.second_premise.ensures c.spell_first-2.ensures c.in-Some-spell_first-2.is)

pub shape_of-mem : goal.shape_of-mem
shape_of-mem t c = (shrinks_two c.requires (before_end c.requires c.if-at-s.false) c.node_at-node.ensures (least_at c.least_step.ensures c.in-Some.is) c.put_node-written.ensures (number_word (least_at c.least_step.ensures c.in-Some.is) c.from.ensures c.node_word-w.ensures) c.premises-n.ensures c.if-n-eq0.false c.first_premise.ensures c.spell_first.ensures c.in-Some-spell_first.is c.shrink-first.ensures c.if-n-eq1.false c.in_ok-left.was c.second_premise.ensures c.spell_first-2.ensures c.in-Some-spell_first-2.is c.shrink.ensures).grew.agree.long

pub shape_of-out : goal.shape_of-out
shape_of-out t c = (shrinks_two c.requires (before_end c.requires c.if-at-s.false) c.node_at-node.ensures (least_at c.least_step.ensures c.in-Some.is) c.put_node-written.ensures (number_word (least_at c.least_step.ensures c.in-Some.is) c.from.ensures c.node_word-w.ensures) c.premises-n.ensures c.if-n-eq0.false c.first_premise.ensures c.spell_first.ensures c.in-Some-spell_first.is c.shrink-first.ensures c.if-n-eq1.false c.in_ok-left.was c.second_premise.ensures c.spell_first-2.ensures c.in-Some-spell_first-2.is c.shrink.ensures).long

pub returns : goal.returns
returns t c = shrinks_two c.requires (before_end c.requires c.if-at-s.false) c.node_at-node.ensures (least_at c.least_step.ensures c.in-Some.is) c.put_node-written.ensures (number_word (least_at c.least_step.ensures c.in-Some.is) c.from.ensures c.node_word-w.ensures) c.premises-n.ensures c.if-n-eq0.false c.first_premise.ensures c.spell_first.ensures c.in-Some-spell_first.is c.shrink-first.ensures c.if-n-eq1.false c.in_ok-left.was c.second_premise.ensures c.spell_first-2.ensures c.in-Some-spell_first-2.is c.shrink.ensures
