use native.Mathlib.Omega.{arith}
use borrow.Author.Rules.{rules}
use Rattle.expand.proofs.SpellSteps.{linear_fits}
use Rattle.expand.proofs.PremiseSteps.{linear_in, moved_room, par_room, bottom_means, tensor_means, par_means, with_means, plus_left_means, plus_right_means, of_course_means, why_not_means}
use Rattle.expand.proofs.steps.first_premise.Goals as goal

pub bounds-z-i : goal.bounds-z-i
bounds-z-i c = omega (arith, c.requires.sound.fits.few, (linear_in c.requires c.place-i.ensures c.if-rule-gt11.false))

pub field-a-requires : goal.field-a-requires
field-a-requires c = ((linear_fits c.requires.sound c.place-i.result (linear_in c.requires c.place-i.ensures c.if-rule-gt11.false), omega arith), c.requires.sound.wf.sized)

pub field-b-requires : goal.field-b-requires
field-b-requires c = ((linear_fits c.requires.sound c.place-i.result (linear_in c.requires c.place-i.ensures c.if-rule-gt11.false), omega arith), c.requires.sound.wf.sized)

pub without-requires : goal.without-requires
without-requires c = (c.requires.sound.fits, (linear_in c.requires c.place-i.ensures c.if-rule-gt11.false))

pub left_part-requires : goal.left_part-requires
left_part-requires c = (c.requires.sound.fits, (linear_in c.requires c.place-i.ensures c.if-rule-gt11.false))

pub without-requires-in-5 : goal.without-requires-in-5
without-requires-in-5 c = (c.requires.sound.fits, (linear_in c.requires c.place-i.ensures c.if-rule-gt11.false))

pub pushed-requires : goal.pushed-requires
pushed-requires c = moved_room c.requires.sound.fits (linear_in c.requires c.place-i.ensures c.if-rule-gt11.false) c.without-in-5.ensures

pub pushed-requires-in-5 : goal.pushed-requires-in-5
pushed-requires-in-5 c = par_room c.requires c.place-i.ensures c.if-rule-gt11.false c.field-a.ensures c.field-b.ensures c.in-5.is c.without-in-5.ensures c.pushed.ensures

pub without-requires-in-7 : goal.without-requires-in-7
without-requires-in-7 c = (c.requires.sound.fits, (linear_in c.requires c.place-i.ensures c.if-rule-gt11.false))

pub pushed-requires-in-7 : goal.pushed-requires-in-7
pushed-requires-in-7 c = moved_room c.requires.sound.fits (linear_in c.requires c.place-i.ensures c.if-rule-gt11.false) c.without-in-7.ensures

pub replaced-requires : goal.replaced-requires
replaced-requires c = (c.requires.sound.fits, (linear_in c.requires c.place-i.ensures c.if-rule-gt11.false))

pub replaced-requires-in-9 : goal.replaced-requires-in-9
replaced-requires-in-9 c = (c.requires.sound.fits, (linear_in c.requires c.place-i.ensures c.if-rule-gt11.false))

pub only-requires : goal.only-requires
only-requires c = (c.requires.sound.fits, omega (arith, c.requires.sound.fits.few, (linear_in c.requires c.place-i.ensures c.if-rule-gt11.false)))

pub without-requires-in_default : goal.without-requires-in_default
without-requires-in_default c = (c.requires.sound.fits, (linear_in c.requires c.place-i.ensures c.if-rule-gt11.false))

pub pushed_unrestricted-requires : goal.pushed_unrestricted-requires
pushed_unrestricted-requires c = moved_room c.requires.sound.fits (linear_in c.requires c.place-i.ensures c.if-rule-gt11.false) c.without-in_default.ensures

pub returns-in-3 : goal.returns-in-3
returns-in-3 c = bottom_means c.requires c.place-i.ensures c.if-rule-gt11.false c.field-a.ensures c.field-b.ensures c.in-3.is c.without.ensures

pub returns-in-4 : goal.returns-in-4
returns-in-4 c = tensor_means c.requires c.place-i.ensures c.if-rule-gt11.false c.field-a.ensures c.field-b.ensures c.in-4.is c.left_part.ensures

pub returns-in-5 : goal.returns-in-5
returns-in-5 c = par_means c.requires c.place-i.ensures c.if-rule-gt11.false c.field-a.ensures c.field-b.ensures c.in-5.is c.without-in-5.ensures c.pushed.ensures c.pushed-in-5.ensures

pub returns-in-7 : goal.returns-in-7
returns-in-7 c = with_means c.requires c.place-i.ensures c.if-rule-gt11.false c.field-a.ensures c.field-b.ensures c.in-7.is c.without-in-7.ensures c.pushed-in-7.ensures

pub returns-in-8 : goal.returns-in-8
returns-in-8 c = plus_left_means c.requires c.place-i.ensures c.if-rule-gt11.false c.field-a.ensures c.field-b.ensures c.in-8.is c.replaced.ensures

pub returns-in-9 : goal.returns-in-9
returns-in-9 c = plus_right_means c.requires c.place-i.ensures c.if-rule-gt11.false c.field-a.ensures c.field-b.ensures c.in-9.is c.replaced-in-9.ensures

pub returns-in-10 : goal.returns-in-10
returns-in-10 c = of_course_means c.requires c.place-i.ensures c.if-rule-gt11.false c.field-a.ensures c.field-b.ensures c.in-10.is c.only.ensures

pub returns-in_default : goal.returns-in_default
returns-in_default c = why_not_means c.requires c.place-i.ensures c.if-rule-gt11.false c.field-a.ensures c.field-b.ensures (search rules) c.without-in_default.ensures c.pushed_unrestricted.ensures
