use Rattle.vakelumba.specs.SaysLaws.{turned_said}
use Rattle.vakelumba.proofs.vk_to_one_sided.Goals as goal

pub returns : goal.returns
returns c = turned_said c.to_one_sided.ensures c.from.ensures c.tell.ensures
