use Rattle.vakelumba.specs.SaysLaws.{text_said}
use Rattle.vakelumba.proofs.vk_pretty_ascii.Goals as goal

pub returns : goal.returns
returns c = text_said c.pretty_ascii.ensures c.from.ensures c.tell.ensures
