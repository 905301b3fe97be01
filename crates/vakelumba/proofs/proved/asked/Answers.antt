use Rattle.vakelumba.specs.ProvedLaws.{found_said, nothing_said, refused_said}
use Rattle.vakelumba.proofs.proved.asked.Goals as goal

pub returns-in-Found : goal.returns-in-Found
returns-in-Found c = found_said _ c.prove.ensures _ _ c.in-Found.is c.reported.ensures

pub returns-in-Nothing : goal.returns-in-Nothing
returns-in-Nothing c = nothing_said _ c.prove.ensures _ c.in-Nothing.is c.reported-in-Nothing.ensures

pub returns-in-Refused : goal.returns-in-Refused
returns-in-Refused c = refused_said _ c.prove.ensures _ _ c.in-Refused.is c.from.ensures c.reported-in-Refused.ensures
