use native.Mathlib.Omega.{arith}
use borrow.Author.Rules.{rules}
use Rattle.expand.proofs.PremiseSteps.{copied_in, copied_room, contraction_room, weakening_means, contraction_means, dereliction_means}
use Rattle.expand.proofs.steps.exponential_premise.Goals as goal

pub bounds-z-i : goal.bounds-z-i
bounds-z-i c = omega (arith, c.requires.0.sound.fits.few, copied_in c.requires.0 c.place-i.ensures c.requires.1)

pub without_unrestricted-y-requires : goal.without_unrestricted-y-requires
without_unrestricted-y-requires c = (c.requires.0.sound.fits, copied_in c.requires.0 c.place-i.ensures c.requires.1)

pub pushed-requires : goal.pushed-requires
pushed-requires c = copied_room c.requires.0 c.place-i.ensures c.requires.1 c.without_unrestricted-y.ensures

pub pushed-requires-in-13 : goal.pushed-requires-in-13
pushed-requires-in-13 c = contraction_room c.requires.0 c.place-i.ensures c.requires.1 c.without_unrestricted-y.ensures c.in-13.is c.pushed.ensures

pub pushed-requires-in_default : goal.pushed-requires-in_default
pushed-requires-in_default c = copied_room c.requires.0 c.place-i.ensures c.requires.1 c.without_unrestricted-y.ensures

pub returns-in-12 : goal.returns-in-12
returns-in-12 c = weakening_means c.requires.0 c.place-i.ensures c.requires.1 c.without_unrestricted-y.ensures c.in-12.is

pub returns-in-13 : goal.returns-in-13
returns-in-13 c = contraction_means c.requires.0 c.place-i.ensures c.requires.1 c.without_unrestricted-y.ensures c.in-13.is c.pushed.ensures c.pushed-in-13.ensures

pub returns-in_default : goal.returns-in_default
returns-in_default c = dereliction_means c.requires.0 c.place-i.ensures c.requires.1 c.without_unrestricted-y.ensures (search rules) c.pushed-in_default.ensures
