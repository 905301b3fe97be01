use native.Mathlib.Omega.{arith}
use Rattle.memory.specs.MeaningLaws.{wf_length}
use Rattle.memory.proofs.FailedSteps.{sequent_named, lent_kept, recorded, no_place}
use Rattle.memory.proofs.failed.record_failure.Goals as goal
use Rattle.memory.proofs.failed.record_failure.Goals.{in-Full, in_default}

pub slice_bounds-items_of-end : goal.slice_bounds-items_of-end
slice_bounds-items_of-end c = omega (arith, wf_length _ c.requires.0)

pub items_of-s-requires : goal.items_of-s-requires
items_of-s-requires c = sequent_named c.requires.0 c.requires.1

pub slice_bounds-record_failure-count : goal.slice_bounds-record_failure-count
slice_bounds-record_failure-count c = omega (arith, wf_length _ c.requires.0)

pub slice_bounds-record_failure-start : goal.slice_bounds-record_failure-start
slice_bounds-record_failure-start c = omega (arith, wf_length _ c.requires.0)

pub record_failure-r-requires : goal.record_failure-r-requires
record_failure-r-requires c = (lent_kept _ c.requires.0, c.items_of-s.ensures.fits)

pub returns : goal.returns
returns c =
    elim c.match-matches.branch [
      | in-Full w ↦ rw w.matches-is (no_place _ c.requires.0 c.requires.1 c.items_of-s.ensures c.record_failure-r.result _ w.in-Full.is c.record_failure-r.ensures)
      | in_default w ↦ rw w.matches-is (recorded _ c.requires.0 c.requires.1 c.items_of-s.ensures c.record_failure-r.result _ w.in_default.not-Full c.record_failure-r.ensures)
    ]
