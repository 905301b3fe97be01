use Rattle.shown.specs.ShownLaws.{unrestricted_listed, unrestricted_is}
use Rattle.shown.proofs.unrestricted_shown.Goals as goal

pub zone_shown-requires : goal.zone_shown-requires
zone_shown-requires c = (unrestricted_listed c.requires.0, c.requires.1)

pub returns : goal.returns
returns c = unrestricted_is c.requires.0 c.zone_shown.ensures
