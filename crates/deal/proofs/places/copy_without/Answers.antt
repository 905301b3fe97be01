use Rattle.deal.proofs.PlaceSteps.{copied}
use Rattle.deal.proofs.places.copy_without.Goals as goal

pub returns : goal.returns
returns c = copied c.requires.0 c.args.others.now c.requires.1 c.copy_from_slice.ensures.after c.copy_from_slice-2.ensures.after
