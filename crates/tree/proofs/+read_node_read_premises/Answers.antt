use native.Mathlib.Omega.{arith}
use borrow.Author.Rules.{rules}
use Rattle.tree.specs.ReadingLaws.{node_none, node_too_high, node_head_refused, head_landed, node_premise_refused, premises_landed, node_read, reading_end, reading_refused, reading_next}
use Rattle.tree.proofs.+read_node_read_premises.Goals as goal

pub read_node-returns-then-at-s : goal.read_node-returns-then-at-s
read_node-returns-then-at-s t c = node_none c.args.s.now c.args.at c.args.levels c.if-at-s.true

pub read_node-returns-then-levels-eq0 : goal.read_node-returns-then-levels-eq0
read_node-returns-then-levels-eq0 t c = node_too_high c.args.s.now c.args.at c.args.levels (omega (arith, c.if-at-s.false, c.requires.0)) c.if-levels-eq0.true

pub read_node-read_premises-requires : goal.read_node-read_premises-requires
read_node-read_premises-requires t c = let there = head_landed c.args.s.now c.args.at c.args.levels (omega (arith, c.if-at-s.false, c.requires.0)) (omega (arith, c.if-levels-eq0.false)) c.read_head.ensures c.in_ok-own.was in (omega (arith, c.decreases, c.if-levels-eq0.false), (there.inside, omega (arith, c.requires.1)))

pub read_node-overflow_add-result : goal.read_node-overflow_add-result
read_node-overflow_add-result t c = let there = premises_landed c.args.s.now c.args.at c.args.levels (omega (arith, c.if-at-s.false, c.requires.0)) (omega (arith, c.if-levels-eq0.false)) c.read_head.ensures c.in_ok-own.was c.read_premises.ensures c.in_ok-below.was in omega (arith, there.also.1, c.requires.1)

pub read_node-returns-in_err-own : goal.read_node-returns-in_err-own
read_node-returns-in_err-own t c = let h = node_head_refused c.args.s.now c.args.at c.args.levels (omega (arith, c.if-at-s.false, c.requires.0)) (omega (arith, c.if-levels-eq0.false)) c.read_head.ensures c.in_err-own.was in search rules

pub read_node-returns-in_err-below : goal.read_node-returns-in_err-below
read_node-returns-in_err-below t c = let h = node_premise_refused c.args.s.now c.args.at c.args.levels (omega (arith, c.if-at-s.false, c.requires.0)) (omega (arith, c.if-levels-eq0.false)) c.read_head.ensures c.in_ok-own.was c.read_premises.ensures c.in_err-below.was in search rules

pub read_node-returns : goal.read_node-returns
read_node-returns t c = node_read c.args.s.now c.args.at c.args.levels (omega (arith, c.if-at-s.false, c.requires.0)) (omega (arith, c.if-levels-eq0.false)) c.read_head.ensures c.in_ok-own.was c.read_premises.ensures c.in_ok-below.was

pub read_premises-returns-in_err-tree : goal.read_premises-returns-in_err-tree
read_premises-returns-in_err-tree t c = let h = reading_refused _ _ _ _ c.loop.invariant (omega (arith, c.loop-test.true)) c.read_node.ensures c.in_err-tree.was in search rules

pub read_premises-loop-preserved : goal.read_premises-loop-preserved
read_premises-loop-preserved t c = reading_next _ _ _ _ c.loop.invariant (omega (arith, c.loop-test.true)) c.read_node.ensures c.in_ok-tree.was (omega (arith, c.loop-test.true)) (grind arith)

pub read_premises-returns : goal.read_premises-returns
read_premises-returns t c = reading_end _ _ _ _ c.loop.invariant (omega (arith, c.loop-test.false))
