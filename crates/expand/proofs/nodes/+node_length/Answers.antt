use mathlib.Core.Path.{refl}
use native.Mathlib.Omega.{arith}
use Rattle.expand.proofs.TreeSteps.{level_left, word_in, word_rule, carries_spells, first_step, second_step, first_carries, second_carries, counted_on, counted_leaf, counted_over, counted_one, counted_first_over, counted_two}
use Rattle.expand.proofs.nodes.+node_length.Goals as goal
use Rattle.expand.proofs.nodes.+node_length.Goals.{then-n-eq0-via-then-n-eq0, then-n-eq0-via-else-n-eq0+then-next-gt-BODY, then-n-eq1-via-then-n-eq1, then-n-eq1-via-else-n-eq1+then-first-gt-BODY}

pub offset_bounds-words-at : goal.offset_bounds-words-at
offset_bounds-words-at t c = omega (arith, word_in c.requires.carries)

pub bounds-words-at : goal.bounds-words-at
bounds-words-at t c = word_in c.requires.carries

pub overflow_add-after : goal.overflow_add-after
overflow_add-after t c = omega (arith, word_in c.requires.carries)

pub spelled-s-requires : goal.spelled-s-requires
spelled-s-requires t c = carries_spells c.requires.carries c.requires.table_is

pub premises-n-requires : goal.premises-n-requires
premises-n-requires t c = word_rule c.requires.carries

pub returns-then-n-eq0 : goal.returns-then-n-eq0
returns-then-n-eq0 t c =
    elim c.then-n-eq0.branch [
      | then-n-eq0-via-then-n-eq0 w ↦ counted_leaf _ c.spelled-s.ensures c.premises-n.ensures c.head_length.ensures w.if-n-eq0.true refl refl
      | then-n-eq0-via-else-n-eq0+then-next-gt-BODY w ↦ counted_over _ c.spelled-s.ensures c.premises-n.ensures c.head_length.ensures w.if-next-gt-BODY.true refl
    ]

pub first_premise-p-requires : goal.first_premise-p-requires
first_premise-p-requires t c = first_step c.requires.carries c.spelled-s.ensures c.premises-n.ensures c.if-n-eq0.false

pub overflow_sub-left : goal.overflow_sub-left
overflow_sub-left t c = level_left c.requires.carries

pub node_length-first-requires : goal.node_length-first-requires
node_length-first-requires t c = (omega (arith, c.decreases, level_left c.requires.carries), record { table_is = c.requires.table_is; carries = first_carries c.requires.carries c.spelled-s.ensures c.premises-n.ensures c.first_premise-p.ensures c.if-n-eq0.false; low = c.if-next-gt-BODY.false })

pub returns-then-n-eq1 : goal.returns-then-n-eq1
returns-then-n-eq1 t c =
    elim c.then-n-eq1.branch [
      | then-n-eq1-via-then-n-eq1 w ↦ counted_one _ c.spelled-s.ensures c.premises-n.ensures c.head_length.ensures c.if-n-eq0.false c.first_premise-p.ensures c.node_length-first.ensures w.if-n-eq1.true
      | then-n-eq1-via-else-n-eq1+then-first-gt-BODY w ↦ counted_first_over _ c.spelled-s.ensures c.premises-n.ensures c.head_length.ensures c.if-n-eq0.false c.first_premise-p.ensures c.node_length-first.ensures w.if-first-gt-BODY.true
    ]

pub second_premise-q-requires : goal.second_premise-q-requires
second_premise-q-requires t c = second_step c.requires.carries c.spelled-s.ensures c.premises-n.ensures c.if-n-eq0.false c.if-n-eq1.false

pub overflow_sub-left-2 : goal.overflow_sub-left-2
overflow_sub-left-2 t c = level_left c.requires.carries

pub node_length-requires : goal.node_length-requires
node_length-requires t c = (omega (arith, c.decreases, level_left c.requires.carries), record { table_is = c.requires.table_is; carries = second_carries c.requires.carries c.spelled-s.ensures c.premises-n.ensures c.first_premise-p.ensures c.if-n-eq0.false c.if-n-eq1.false (counted_on c.node_length-first.ensures c.if-first-gt-BODY.false) c.second_premise-q.ensures; low = c.if-first-gt-BODY.false })

pub returns : goal.returns
returns t c = counted_two _ c.spelled-s.ensures c.premises-n.ensures c.head_length.ensures c.if-n-eq0.false c.first_premise-p.ensures c.node_length-first.ensures c.if-n-eq1.false c.if-first-gt-BODY.false c.second_premise-q.ensures c.node_length.ensures
