use borrow.Author.Rules.{rules}
use Rattle.std.proofs.lemmas.Bool.{not_from_true, not_from_false}
use mathlib.Core.Path.{◌∙◌}
use native.Mathlib.Omega.{arith}
use Rattle.grow.specs.GrowingLaws.{grows_full, meant, grows_mismatch, grows_crowded, putting, word_known, grows_leaf, first_step, first_falls, first_growing, grows_one, grows_stopped, second_step, second_falls, second_growing, grows_two}
use Rattle.grow.proofs.+grow.Goals as goal

pub spell_first-requires : goal.spell_first-requires
spell_first-requires t c = c.requires.sound

pub returns-in_default : goal.returns-in_default
returns-in_default t c = grows_full c.requires c.spell_first.ensures _ c.in_default.is

pub node_at-node-requires : goal.node_at-node-requires
node_at-node-requires t c = let g = c.requires in (g.inside, g.short)

pub may_take-takes-requires : goal.may_take-takes-requires
may_take-takes-requires t c = (meant c.requires c.spell_first.ensures c.in-Some.is c.node_at-node.ensures).sound

pub is_crowded-crowded-requires : goal.is_crowded-crowded-requires
is_crowded-crowded-requires t c = (meant c.requires c.spell_first.ensures c.in-Some.is c.node_at-node.ensures).sound.fits

pub returns-then-not-takes : goal.returns-then-not-takes
returns-then-not-takes t c = grows_mismatch c.requires c.spell_first.ensures
    c.in-Some.is c.node_at-node.ensures _ c.may_take-takes.ensures (not_from_false _ c.if-not-takes.true)

pub returns-then-crowded : goal.returns-then-crowded
returns-then-crowded t c = grows_crowded c.requires c.spell_first.ensures
    c.in-Some.is c.node_at-node.ensures c.may_take-takes.ensures
    (not_from_true _ (search rules)) _ c.is_crowded-crowded.ensures c.if-crowded.true

pub node_word-w-requires : goal.node_word-w-requires
node_word-w-requires t c = let n = c.node_at-node.ensures in (n.rule_low, (n.place_low, n.mask_is.small))

pub put_head-written-requires : goal.put_head-written-requires
put_head-written-requires t c = putting c.requires c.spell_first.ensures
    c.in-Some.is c.node_at-node.ensures c.may_take-takes.ensures
    (not_from_true _ c.if-not-takes.false) c.is_crowded-crowded.ensures c.if-crowded.false c.node_word-w.ensures

pub premises-n-requires : goal.premises-n-requires
premises-n-requires t c = word_known c.requires c.spell_first.ensures
    c.in-Some.is c.node_at-node.ensures c.may_take-takes.ensures
    (not_from_true _ c.if-not-takes.false) c.is_crowded-crowded.ensures c.if-crowded.false c.node_word-w.ensures

pub returns-then-n-eq0 : goal.returns-then-n-eq0
returns-then-n-eq0 t c = grows_leaf c.requires c.spell_first.ensures
    c.in-Some.is c.node_at-node.ensures c.may_take-takes.ensures
    (not_from_true _ c.if-not-takes.false) c.is_crowded-crowded.ensures c.if-crowded.false
    c.node_word-w.ensures c.put_head-written.ensures
    c.premises-n.ensures c.if-n-eq0.true

pub first_premise-p-requires : goal.first_premise-p-requires
first_premise-p-requires t c = first_step c.requires c.spell_first.ensures
    c.in-Some.is c.node_at-node.ensures c.may_take-takes.ensures
    (not_from_true _ c.if-not-takes.false) c.is_crowded-crowded.ensures c.if-crowded.false
    c.node_word-w.ensures c.put_head-written.ensures
    c.premises-n.ensures c.if-n-eq0.false

pub grow-first-requires : goal.grow-first-requires
grow-first-requires t c = let falls = first_falls c.requires
    c.spell_first.ensures c.in-Some.is c.node_at-node.ensures
    c.may_take-takes.ensures (not_from_true _ c.if-not-takes.false) c.is_crowded-crowded.ensures c.if-crowded.false
    c.node_word-w.ensures c.put_head-written.ensures
    c.premises-n.ensures c.if-n-eq0.false in
    let asked = first_growing c.requires
    c.spell_first.ensures c.in-Some.is c.node_at-node.ensures
    c.may_take-takes.ensures (not_from_true _ c.if-not-takes.false) c.is_crowded-crowded.ensures c.if-crowded.false
    c.node_word-w.ensures c.put_head-written.ensures
    c.premises-n.ensures c.if-n-eq0.false c.first_premise-p.ensures in
    (omega (arith, c.decreases), asked)

pub shape_of-mem-then-n-eq1 : goal.shape_of-mem-then-n-eq1
shape_of-mem-then-n-eq1 t c = c.grow-first.ensures.grew.agree.long ∙ c.spell_first.ensures.grew.agree.long

pub returns-then-n-eq1 : goal.returns-then-n-eq1
returns-then-n-eq1 t c = grows_one c.requires c.spell_first.ensures
    c.in-Some.is c.node_at-node.ensures c.may_take-takes.ensures
    (not_from_true _ c.if-not-takes.false) c.is_crowded-crowded.ensures c.if-crowded.false
    c.node_word-w.ensures c.put_head-written.ensures
    c.premises-n.ensures c.if-n-eq0.false c.first_premise-p.ensures
    c.grow-first.ensures c.if-n-eq1.true

pub shape_of-mem-in_err-left : goal.shape_of-mem-in_err-left
shape_of-mem-in_err-left t c = c.grow-first.ensures.grew.agree.long ∙ c.spell_first.ensures.grew.agree.long

pub returns-in_err-left : goal.returns-in_err-left
returns-in_err-left t c = let h = grows_stopped c.requires c.spell_first.ensures
    c.in-Some.is c.node_at-node.ensures c.may_take-takes.ensures
    (not_from_true _ c.if-not-takes.false) c.is_crowded-crowded.ensures c.if-crowded.false
    c.node_word-w.ensures c.put_head-written.ensures
    c.premises-n.ensures c.if-n-eq0.false c.first_premise-p.ensures
    c.grow-first.ensures c.if-n-eq1.false c.in_err-left.was in search rules

pub second_premise-q-requires : goal.second_premise-q-requires
second_premise-q-requires t c = second_step c.requires c.spell_first.ensures
    c.in-Some.is c.node_at-node.ensures c.may_take-takes.ensures
    (not_from_true _ c.if-not-takes.false) c.is_crowded-crowded.ensures c.if-crowded.false
    c.node_word-w.ensures c.put_head-written.ensures
    c.premises-n.ensures c.if-n-eq0.false c.first_premise-p.ensures
    c.grow-first.ensures c.if-n-eq1.false c.in_ok-left.was

pub grow-requires : goal.grow-requires
grow-requires t c = let falls = second_falls c.requires
    c.spell_first.ensures c.in-Some.is c.node_at-node.ensures
    c.may_take-takes.ensures (not_from_true _ c.if-not-takes.false) c.is_crowded-crowded.ensures c.if-crowded.false
    c.node_word-w.ensures c.put_head-written.ensures
    c.premises-n.ensures c.if-n-eq0.false c.first_premise-p.ensures
    c.grow-first.ensures c.if-n-eq1.false c.in_ok-left.was
    c.second_premise-q.ensures in
    let asked = second_growing c.requires
    c.spell_first.ensures c.in-Some.is c.node_at-node.ensures
    c.may_take-takes.ensures (not_from_true _ c.if-not-takes.false) c.is_crowded-crowded.ensures c.if-crowded.false
    c.node_word-w.ensures c.put_head-written.ensures
    c.premises-n.ensures c.if-n-eq0.false c.first_premise-p.ensures
    c.grow-first.ensures c.if-n-eq1.false c.in_ok-left.was
    c.second_premise-q.ensures in
    (omega (arith, c.decreases), asked)

pub shape_of-mem : goal.shape_of-mem
shape_of-mem t c = c.grow.ensures.grew.agree.long
    ∙ c.grow-first.ensures.grew.agree.long
    ∙ c.spell_first.ensures.grew.agree.long

pub shape_of-out : goal.shape_of-out
shape_of-out t c = c.grow.ensures.long
    ∙ c.grow-first.ensures.long
    ∙ c.put_head-written.ensures.put.long

pub returns : goal.returns
returns t c = grows_two c.requires c.spell_first.ensures
    c.in-Some.is c.node_at-node.ensures c.may_take-takes.ensures
    (not_from_true _ c.if-not-takes.false) c.is_crowded-crowded.ensures c.if-crowded.false
    c.node_word-w.ensures c.put_head-written.ensures
    c.premises-n.ensures c.if-n-eq0.false c.first_premise-p.ensures
    c.grow-first.ensures c.if-n-eq1.false
    c.in_ok-left.was
    c.second_premise-q.ensures c.grow.ensures
