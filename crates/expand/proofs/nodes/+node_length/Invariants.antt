use Rattle.expand.proofs.nodes.+node_length.Given as goal

abbrev pub decreases-node_length : goal.decreases-node_length
decreases-node_length l = l.left
