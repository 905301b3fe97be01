use Rattle.zones.proofs.Steps.{made_only}
use Rattle.zones.proofs.Zones.only.Goals as goal

pub returns : goal.returns
returns c = made_only c.requires.0 _ c.requires.1
