use Rattle.least.specs.FindingLaws.{fits_untaken, fits_crowded, fits_taken, fits_follows}
use Rattle.least.proofs.fits_at.Goals as goal

pub returns-then-not-may_take : goal.returns-then-not-may_take
returns-then-not-may_take c = fits_untaken c.may_take.ensures c.if-not-may_take.true

pub returns-then-is_crowded : goal.returns-then-is_crowded
returns-then-is_crowded c = fits_crowded c.may_take.ensures c.is_crowded.ensures c.if-not-may_take.false c.if-is_crowded.true

pub follows-requires : goal.follows-requires
follows-requires c = (fits_taken c.may_take.ensures c.is_crowded.ensures c.if-not-may_take.false c.requires.0 c.if-is_crowded.false, c.requires.1)

pub returns : goal.returns
returns c = fits_follows c.may_take.ensures c.is_crowded.ensures c.if-not-may_take.false c.requires.0 c.if-is_crowded.false c.follows.ensures
