use native.Mathlib.Omega.{arith}
use Rattle.expand.proofs.SpellSteps.{linear_fits}
use Rattle.expand.proofs.PremiseSteps.{second_in, moved_room, tensor_second_means, with_second_means}
use Rattle.expand.proofs.steps.second_premise.Goals as goal

pub bounds-z-i : goal.bounds-z-i
bounds-z-i c = omega (arith, c.requires.sound.fits.few, (second_in c.requires c.place-i.ensures))

pub field-b-requires : goal.field-b-requires
field-b-requires c = ((linear_fits c.requires.sound c.place-i.result (second_in c.requires c.place-i.ensures), omega arith), c.requires.sound.wf.sized)

pub right_part-requires : goal.right_part-requires
right_part-requires c = (c.requires.sound.fits, (second_in c.requires c.place-i.ensures))

pub returns-then-w-eq4 : goal.returns-then-w-eq4
returns-then-w-eq4 c = tensor_second_means c.requires c.place-i.ensures c.field-b.ensures c.if-w-eq4.true c.right_part.ensures

pub without-requires : goal.without-requires
without-requires c = (c.requires.sound.fits, (second_in c.requires c.place-i.ensures))

pub pushed-requires : goal.pushed-requires
pushed-requires c = moved_room c.requires.sound.fits (second_in c.requires c.place-i.ensures) c.without.ensures

pub returns : goal.returns
returns c = with_second_means c.requires c.place-i.ensures c.field-b.ensures c.if-w-eq4.false c.without.ensures c.pushed.ensures
