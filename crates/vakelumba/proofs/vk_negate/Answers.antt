use Rattle.vakelumba.specs.SaysLaws.{text_said}
use Rattle.vakelumba.proofs.vk_negate.Goals as goal

pub returns : goal.returns
returns c = text_said c.negate.ensures c.from.ensures c.tell.ensures
