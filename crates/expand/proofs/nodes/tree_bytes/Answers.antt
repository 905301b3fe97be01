use Rattle.expand.proofs.TreeSteps.{message_writing, message_wrote}
use Rattle.expand.proofs.nodes.tree_bytes.Goals as goal

pub node_bytes-requires : goal.node_bytes-requires
node_bytes-requires c = message_writing c.requires c.two_bytes-body.ensures

pub returns : goal.returns
returns c = message_wrote c.requires c.two_bytes-body.ensures c.node_bytes.ensures
