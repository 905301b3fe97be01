use Rattle.bags.specs.ComparedLaws.{sign_is}
use Rattle.bags.proofs.sign_at.Goals as goal

pub returns : goal.returns
returns c = sign_is _ _ c.byte_at.ensures c.sign.ensures
