use Rattle.vakelumba.specs.SaysLaws.{bit_said}
use Rattle.vakelumba.proofs.said.tell_positive.Goals as goal

pub returns-in-Ok : goal.returns-in-Ok
returns-in-Ok c = rw c.from.ensures (bit_said c.in-Ok.is)
