use Rattle.verify.specs.Walks.{mode_test}
use Rattle.verify.specs.WalksLaws.{Walking}
use Prim.Native.Nat.{◌+◌, ◌-◌, ◌*◌}
use Rattle.verify.proofs.+verify_node_verify_premises.Given as goal

abbrev pub decreases-verify_node : goal.decreases-verify_node
decreases-verify_node l = 2 * l.levels

abbrev pub decreases-verify_premises : goal.decreases-verify_premises
decreases-verify_premises l = 2 * l.levels + 1

abbrev pub invariant-verify_premises-loop : goal.invariant-verify_premises-loop
invariant-verify_premises-loop l = Walking (mode_test l.is_strict) l.s l.fn.from.next l.count l.levels l.fn.from.number l.wrappers (l.count - l.counter) l.passed.next l.passed.number
