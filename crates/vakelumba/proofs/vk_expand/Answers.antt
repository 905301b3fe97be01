use Rattle.short_trees.specs.Promise.{expanding}
use Rattle.vakelumba.specs.ShortsLaws.{short_said}
use Rattle.vakelumba.proofs.vk_expand.Goals as goal

pub returns : goal.returns
returns c = short_said expanding c.expand.ensures c.from.ensures c.tell.ensures
