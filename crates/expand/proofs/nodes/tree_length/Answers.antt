use Rattle.expand.proofs.TreeSteps.{counted_long}
use Rattle.expand.proofs.nodes.tree_length.Goals as goal

pub returns : goal.returns
returns c = counted_long c.node_length.ensures
