use Rattle.least.specs.FindingLaws.{tried_start, tried_more, place_found, place_nowhere}
use Rattle.least.proofs.least_place.Goals as goal

pub loop-i-init : goal.loop-i-init
loop-i-init c = tried_start

pub returns-then-fits_at : goal.returns-then-fits_at
returns-then-fits_at c = place_found c.requires c.loop-i.invariant c.fits_at.ensures c.if-fits_at.true

pub loop-i-preserved : goal.loop-i-preserved
loop-i-preserved c = tried_more c.loop-i.invariant c.fits_at.ensures c.if-fits_at.false

pub returns : goal.returns
returns c = place_nowhere c.requires c.loop-i.invariant c.count-i-end.ensures c.loop-i-test.false
