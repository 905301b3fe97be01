use mathlib.Core.Path.{refl}
use native.Mathlib.Omega.{arith}
use Rattle.expand.proofs.TreeSteps.{level_left, word_in, word_rule, carries_spells, first_step, second_step, writing_head, first_writing, second_writing, written_leaf, written_one, written_two}
use Rattle.expand.proofs.nodes.+node_bytes.Goals as goal

pub offset_bounds-words-at : goal.offset_bounds-words-at
offset_bounds-words-at t c = omega (arith, word_in c.requires.carries)

pub bounds-words-at : goal.bounds-words-at
bounds-words-at t c = word_in c.requires.carries

pub overflow_add-after : goal.overflow_add-after
overflow_add-after t c = omega (arith, word_in c.requires.carries)

pub spelled-s-requires : goal.spelled-s-requires
spelled-s-requires t c = carries_spells c.requires.carries c.requires.table_is

pub head_bytes-next-requires : goal.head_bytes-next-requires
head_bytes-next-requires t c = writing_head c.requires c.spelled-s.ensures

pub premises-n-requires : goal.premises-n-requires
premises-n-requires t c = word_rule c.requires.carries

pub returns-then-n-eq0 : goal.returns-then-n-eq0
returns-then-n-eq0 t c = written_leaf c.requires c.spelled-s.ensures c.premises-n.ensures c.head_bytes-next.ensures c.if-n-eq0.true refl refl

pub first_premise-p-requires : goal.first_premise-p-requires
first_premise-p-requires t c = first_step c.requires.carries c.spelled-s.ensures c.premises-n.ensures c.if-n-eq0.false

pub overflow_sub-left : goal.overflow_sub-left
overflow_sub-left t c = level_left c.requires.carries

pub node_bytes-first-requires : goal.node_bytes-first-requires
node_bytes-first-requires t c = (omega (arith, c.decreases, level_left c.requires.carries), first_writing c.requires c.spelled-s.ensures c.premises-n.ensures c.head_bytes-next.ensures c.if-n-eq0.false c.first_premise-p.ensures)

pub returns-then-n-eq1 : goal.returns-then-n-eq1
returns-then-n-eq1 t c = written_one c.requires c.spelled-s.ensures c.premises-n.ensures c.head_bytes-next.ensures c.if-n-eq0.false c.first_premise-p.ensures c.node_bytes-first.ensures c.if-n-eq1.true

pub second_premise-q-requires : goal.second_premise-q-requires
second_premise-q-requires t c = second_step c.requires.carries c.spelled-s.ensures c.premises-n.ensures c.if-n-eq0.false c.if-n-eq1.false

pub overflow_sub-left-2 : goal.overflow_sub-left-2
overflow_sub-left-2 t c = level_left c.requires.carries

pub node_bytes-requires : goal.node_bytes-requires
node_bytes-requires t c = (omega (arith, c.decreases, level_left c.requires.carries), second_writing c.requires c.spelled-s.ensures c.premises-n.ensures c.head_bytes-next.ensures c.if-n-eq0.false c.first_premise-p.ensures c.node_bytes-first.ensures c.if-n-eq1.false c.second_premise-q.ensures)

pub returns : goal.returns
returns t c = written_two c.requires c.spelled-s.ensures c.premises-n.ensures c.head_bytes-next.ensures c.if-n-eq0.false c.first_premise-p.ensures c.node_bytes-first.ensures c.if-n-eq1.false c.second_premise-q.ensures c.node_bytes.ensures
