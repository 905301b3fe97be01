use Rattle.expand.proofs.TreeSteps.{body_over, room_short, message_room, message_fits}
use Rattle.expand.proofs.nodes.write_tree.Goals as goal
use Rattle.expand.proofs.nodes.write_tree.Goals.{then-n-gt-BODY-via-then-n-gt-BODY, then-n-gt-BODY-via-else-n-gt-BODY+then-out-n}

pub returns-then-n-gt-BODY : goal.returns-then-n-gt-BODY
returns-then-n-gt-BODY c =
    elim c.then-n-gt-BODY.branch [
      | then-n-gt-BODY-via-then-n-gt-BODY w ↦ body_over c.tree_length-n.ensures w.if-n-gt-BODY.true
      | then-n-gt-BODY-via-else-n-gt-BODY+then-out-n w ↦ room_short c.tree_length-n.ensures w.if-n-gt-BODY.false w.if-out-n.true
    ]

pub tree_bytes-requires : goal.tree_bytes-requires
tree_bytes-requires c = message_room c.tree_length-n.ensures c.requires c.negations.ensures c.if-n-gt-BODY.false c.if-out-n.false

pub returns : goal.returns
returns c = message_fits c.tree_length-n.ensures c.requires c.negations.ensures c.if-n-gt-BODY.false c.if-out-n.false c.tree_bytes.ensures
