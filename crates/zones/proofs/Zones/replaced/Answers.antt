use Rattle.zones.proofs.Steps.{made_replaced}
use Rattle.zones.proofs.Zones.replaced.Goals as goal

pub returns : goal.returns
returns c = made_replaced c.requires.0 _ _ c.requires.1
