use Rattle.short_trees.specs.Promise.{shortening}
use Rattle.vakelumba.specs.ShortsLaws.{short_said}
use Rattle.vakelumba.proofs.vk_shorten.Goals as goal

pub returns : goal.returns
returns c = short_said shortening c.shorten.ensures c.from.ensures c.tell.ensures
