use Rattle.expand.proofs.nodes.+node_bytes.Given as goal

abbrev pub decreases-node_bytes : goal.decreases-node_bytes
decreases-node_bytes l = l.left
