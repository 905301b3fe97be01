use Rattle.vakelumba.specs.SaysLaws.{text_said}
use Rattle.vakelumba.proofs.vk_desugar.Goals as goal

pub returns : goal.returns
returns c = text_said c.desugar.ensures c.from.ensures c.tell.ensures
