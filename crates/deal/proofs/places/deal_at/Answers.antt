use Rattle.deal.proofs.PlaceSteps.{at_answer}
use Rattle.deal.proofs.places.deal_at.Goals as goal

pub returns : goal.returns
returns c = at_answer c.args.zone.now c.args.l.now c.args.r.now c.args.i _ c.copy_without.ensures c.deal.result c.deal.ensures
