use Rattle.vakelumba.specs.SaysLaws.{formed_well, formed_ill}
use Rattle.vakelumba.proofs.vk_well_formed.Goals as goal

pub returns-then-well_formed : goal.returns-then-well_formed
returns-then-well_formed c = formed_well _ c.well_formed-2.ensures c.if-well_formed.true

pub returns-else-well_formed : goal.returns-else-well_formed
returns-else-well_formed c = formed_ill _ c.well_formed-2.ensures c.if-well_formed.false
