use Rattle.expand.proofs.ByteSteps.{part_room, part_wrote}
use Rattle.expand.proofs.TreeSteps.{linear_items, unrestricted_items, linear_room, unrestricted_room, head_wrote}
use Rattle.expand.proofs.nodes.head_bytes.Goals as goal

pub zone_bytes-second-requires : goal.zone_bytes-second-requires
zone_bytes-second-requires c = part_room (linear_room c.requires)

pub zone_bytes-last-requires : goal.zone_bytes-last-requires
zone_bytes-last-requires c = part_room (unrestricted_room c.requires (part_wrote (linear_items c.requires.sound) c.zone_bytes-second.ensures))

pub returns : goal.returns
returns c = head_wrote c.requires (part_wrote (linear_items c.requires.sound) c.zone_bytes-second.ensures) (part_wrote (unrestricted_items c.requires.sound) c.zone_bytes-last.ensures) c.premises.ensures
