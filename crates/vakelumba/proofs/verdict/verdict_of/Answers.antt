use Rattle.std.proofs.Common.{Err, ap, ◌∙◌}
use Rattle.vakelumba.specs.JudgedLaws.{accepted_is, refused_is, invalid_is, count_is, mismatch_is}
use Rattle.vakelumba.proofs.verdict.verdict_of.Goals as goal

pub returns-in_default : goal.returns-in_default
returns-in_default c = accepted_is _ c.in_default.is c.bare.ensures

pub returns-in-Refused : goal.returns-in-Refused
returns-in-Refused c = refused_is _ (c.in-Err.is ∙ ap Err c.in-Refused.is) c.from.ensures c.bare-in-Refused.ensures

pub returns-in-Invalid : goal.returns-in-Invalid
returns-in-Invalid c = invalid_is _ (c.in-Err.is ∙ ap Err c.in-Invalid.is) c.at_node.ensures

pub returns-in-WrongCount : goal.returns-in-WrongCount
returns-in-WrongCount c = count_is _ (c.in-Err.is ∙ ap Err c.in-WrongCount.is) c.at_node-in-WrongCount.ensures

pub returns-in-Mismatch : goal.returns-in-Mismatch
returns-in-Mismatch c = mismatch_is _ (c.in-Err.is ∙ ap Err c.in-Mismatch.is) c.at_node-in-Mismatch.ensures
