use Rattle.tree.specs.ReadingLaws.{Reading}
use Prim.Native.Nat.{◌+◌, ◌-◌, ◌*◌}
use Rattle.tree.proofs.+read_node_read_premises.Given as goal

abbrev pub decreases-read_node : goal.decreases-read_node
decreases-read_node l = 2 * l.levels

abbrev pub decreases-read_premises : goal.decreases-read_premises
decreases-read_premises l = 2 * l.levels + 1

abbrev pub invariant-read_premises-loop : goal.invariant-read_premises-loop
invariant-read_premises-loop l = Reading l.s l.at l.count l.levels (l.count - l.counter) l.next l.depth
