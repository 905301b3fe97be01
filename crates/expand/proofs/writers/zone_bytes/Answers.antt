use Rattle.expand.proofs.ByteSteps.{length_room, zone_items, zone_wrote}
use Rattle.expand.proofs.writers.zone_bytes.Goals as goal

pub two_bytes-next-requires : goal.two_bytes-next-requires
two_bytes-next-requires c = length_room c.requires c.items_length.ensures

pub items_bytes-requires : goal.items_bytes-requires
items_bytes-requires c = zone_items c.requires c.items_length.ensures c.two_bytes-next.ensures

pub returns : goal.returns
returns c = zone_wrote c.requires c.items_length.ensures c.two_bytes-next.ensures c.items_bytes.ensures
