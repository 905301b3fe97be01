use native.Mathlib.Omega.{arith}
use Rattle.memory.specs.MeaningLaws.{wf_length}
use Rattle.memory.proofs.FailedSteps.{sequent_named, lent_kept, known_failed}
use Rattle.memory.proofs.failed.known.Goals as goal

pub items_of-s-requires : goal.items_of-s-requires
items_of-s-requires c = sequent_named c.requires.0 c.requires.1

pub slice_bounds-known-count : goal.slice_bounds-known-count
slice_bounds-known-count c = omega (arith, wf_length _ c.requires.0)

pub slice_bounds-known-start : goal.slice_bounds-known-start
slice_bounds-known-start c = omega (arith, wf_length _ c.requires.0)

pub known-requires : goal.known-requires
known-requires c = (lent_kept _ c.requires.0, c.items_of-s.ensures.fits)

pub returns : goal.returns
returns c = known_failed _ c.requires.0 c.requires.1 c.items_of-s.ensures c.known.result c.known.ensures
