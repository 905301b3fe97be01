use Rattle.least.specs.FindingLaws.{taken_word, word_rule, word_first, word_second, follows_none, follows_apart, follows_one, follows_two}
use Rattle.least.proofs.follows.Goals as goal

pub node_word-w-requires : goal.node_word-w-requires
node_word-w-requires c = taken_word c.requires.0

pub premises-n-requires : goal.premises-n-requires
premises-n-requires c = word_rule c.requires.0 c.node_word-w.ensures

pub returns-then-n-eq0 : goal.returns-then-n-eq0
returns-then-n-eq0 c = follows_none c.requires.0 c.node_word-w.ensures c.premises-n.ensures c.if-n-eq0.true

pub first_premise-p-requires : goal.first_premise-p-requires
first_premise-p-requires c = (word_first c.requires.0 c.node_word-w.ensures c.premises-n.ensures c.if-n-eq0.false).0

pub returns-then-not-is_shown : goal.returns-then-not-is_shown
returns-then-not-is_shown c = follows_apart c.requires.0 c.node_word-w.ensures c.premises-n.ensures c.if-n-eq0.false c.first_premise-p.ensures c.is_shown.ensures c.if-not-is_shown.true

pub returns-then-n-eq1 : goal.returns-then-n-eq1
returns-then-n-eq1 c = follows_one c.requires.0 c.node_word-w.ensures c.premises-n.ensures c.if-n-eq0.false c.first_premise-p.ensures c.is_shown.ensures c.if-not-is_shown.false c.if-n-eq1.true

pub second_premise-q-requires : goal.second_premise-q-requires
second_premise-q-requires c = (word_second c.requires.0 c.node_word-w.ensures c.premises-n.ensures c.if-n-eq0.false c.if-n-eq1.false).0

pub returns : goal.returns
returns c = follows_two c.requires.0 c.node_word-w.ensures c.premises-n.ensures c.if-n-eq0.false c.first_premise-p.ensures c.is_shown.ensures c.if-not-is_shown.false c.if-n-eq1.false c.after_tree.ensures c.second_premise-q.ensures c.is_shown-2.ensures
