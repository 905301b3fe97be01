use Rattle.shown.specs.ShownLaws.{linear_listed, other_linear, sequent_shown}
use Rattle.shown.proofs.is_shown.Goals as goal

pub zone_shown-requires : goal.zone_shown-requires
zone_shown-requires c = (linear_listed c.requires.0, c.node_at-node.ensures.within.linear_within)

pub returns-else-zone_shown : goal.returns-else-zone_shown
returns-else-zone_shown c = rw c.if-zone_shown.false (other_linear c.requires.0 c.node_at-node.ensures c.first_decomposable-first.ensures c.zone_shown.ensures c.if-zone_shown.false)

pub returns-then-zone_shown : goal.returns-then-zone_shown
returns-then-zone_shown c = sequent_shown c.requires.0 c.node_at-node.ensures c.first_decomposable-first.ensures c.zone_shown.ensures c.if-zone_shown.true c.unrestricted_shown.ensures
