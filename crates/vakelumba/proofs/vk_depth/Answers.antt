use mathlib.Core.Path.{ap, ◌∙◌}
use Rattle.vakelumba.specs.Says.{of_measured}
use Rattle.vakelumba.specs.SaysLaws.{answer_said}
use Rattle.vakelumba.proofs.vk_depth.Goals as goal

pub returns : goal.returns
returns c = answer_said (c.from.ensures ∙ ap of_measured c.depth.ensures) c.tell.ensures
