use Rattle.std.proofs.Common.{rules, ◌≡◌, ◌+◌, ◌-◌, arith}
use Rattle.verify.specs.WalksLaws.{walk_no_level, walk_no_byte, walk_failed, walk_premises, walking_start, walking_end, walking_failed, walking_next}
use Rattle.verify.proofs.+verify_node_verify_premises.Goals as goal
use Rattle.verify.proofs.+verify_node_verify_premises.Goals.{verify_node-then-levels-eq0-via-then-levels-eq0, verify_node-then-levels-eq0-via-else-levels-eq0+then-from-s}

pub verify_node-returns-then-levels-eq0 : goal.verify_node-returns-then-levels-eq0
verify_node-returns-then-levels-eq0 t c = elim c.then-levels-eq0.branch [
  | verify_node-then-levels-eq0-via-then-levels-eq0 w ↦ walk_no_level _ _ _ _ _ _ c.requires.0 c.requires.1 w.if-levels-eq0.true
  | verify_node-then-levels-eq0-via-else-levels-eq0+then-from-s w ↦ walk_no_byte _ _ _ _ _ _ c.requires.0 c.requires.1 w.if-from-s.true
]

pub verify_node-returns-in-Some : goal.verify_node-returns-in-Some
verify_node-returns-in-Some t c = rw c.told.ensures (walk_failed _ _ _ _ _ _ c.requires.0 c.requires.1 _ c.node_at-n.ensures c.fault_at.ensures c.in-Some.is)

pub verify_node-returns : goal.verify_node-returns
verify_node-returns t c = walk_premises _ _ _ _ _ _ c.requires.0 c.requires.1 _ c.node_at-n.ensures c.fault_at.ensures (search rules) (omega arith) c.verify_premises.ensures

pub verify_premises-loop-init : goal.verify_premises-loop-init
verify_premises-loop-init t c = let n : c.args.count - 0 ≡ c.args.count = omega arith in rw n (walking_start _ _ _ _ _ _ _ c.requires.0 c.requires.1)

pub verify_premises-verify_node-requires : goal.verify_premises-verify_node-requires
verify_premises-verify_node-requires t c = (omega (arith, c.decreases), (c.loop.invariant.inside, c.loop.invariant.few, c.requires.2, c.requires.3))

pub verify_premises-returns-in_err-passed : goal.verify_premises-returns-in_err-passed
verify_premises-returns-in_err-passed t c = let h = walking_failed _ _ _ _ _ _ _ c.loop.invariant (omega arith) c.verify_node.ensures c.in_err-passed.was in search rules

pub verify_premises-loop-preserved : goal.verify_premises-loop-preserved
verify_premises-loop-preserved t c = let n : c.args.count - (c.loop.counter + 1) ≡ c.args.count - c.loop.counter - 1 = omega arith in
    rw n (walking_next _ _ _ _ _ _ _ c.loop.invariant (omega arith) c.verify_node.ensures c.in_ok-passed.was)

pub verify_premises-returns : goal.verify_premises-returns
verify_premises-returns t c = walking_end _ _ _ _ _ _ _ c.loop.invariant (omega arith)
