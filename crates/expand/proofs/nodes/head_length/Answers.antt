use Rattle.expand.proofs.ByteSteps.{part_weighs}
use Rattle.expand.proofs.TreeSteps.{linear_items, unrestricted_items, head_weighs}
use Rattle.expand.proofs.nodes.head_length.Goals as goal

pub returns : goal.returns
returns c = head_weighs c.requires (part_weighs (linear_items c.requires) c.items_length.ensures) (part_weighs (unrestricted_items c.requires) c.items_length-2.ensures)
