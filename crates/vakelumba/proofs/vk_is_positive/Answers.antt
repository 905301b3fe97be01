use mathlib.Core.Path.{ap}
use Rattle.vakelumba.specs.Says.{of_positive}
use Rattle.vakelumba.specs.SaysLaws.{answer_said}
use Rattle.vakelumba.proofs.vk_is_positive.Goals as goal

pub returns : goal.returns
returns c = answer_said (ap of_positive c.is_positive.ensures) c.tell_positive.ensures
