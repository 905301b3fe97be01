use Rattle.held.proofs.TurnSteps.{finish_at}
use Rattle.held.proofs.turn.finish.Goals as goal

pub returns : goal.returns
returns c = finish_at _ _ _ _ _ _ c.add.result _ _ c.requires c.add.ensures c.in_ok-i.was
