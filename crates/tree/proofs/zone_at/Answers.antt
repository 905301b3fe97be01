use Rattle.tree.specs.PlacesLaws.{zone_found}
use Rattle.tree.proofs.zone_at.Goals as goal

pub returns : goal.returns
returns c = zone_found c.args.s.now c.args.at _ c.two_at.result c.after-start.ensures c.two_at.ensures c.after.ensures c.requires
