use native.Mathlib.Omega.{arith}
use Rattle.question.proofs.NegatingLaws.{negating_starts, negating_kept, negating_never, negating_further, negating_within, negating_on, negating_ends}
use Rattle.question.proofs.negate_formulas.Goals as goal

pub loop-p-init : goal.loop-p-init
loop-p-init c = negating_starts _ _ _ _ c.requires.inside c.requires.room c.requires.ordered c.requires.zone

pub read_formula-requires : goal.read_formula-requires
read_formula-requires c = (c.loop-p.invariant.within, c.requires.inside)

pub shape_of-out-in_default : goal.shape_of-out-in_default
shape_of-out-in_default c = negating_kept _ _ _ _ c.requires.inside c.requires.room c.loop-p.invariant

pub returns-in_default : goal.returns-in_default
returns-in_default c = absurd (negating_never _ _ _ _ c.requires.inside c.requires.room c.loop-p.invariant c.loop-p-test.true c.read_formula.ensures c.in_default.is)

pub slice_bounds-negate-count : goal.slice_bounds-negate-count
slice_bounds-negate-count c = omega (arith, negating_further _ _ _ _ c.requires.inside c.requires.room c.loop-p.invariant c.loop-p-test.true c.read_formula.ensures c.in-Ok.is)

pub slice_bounds-negate-start : goal.slice_bounds-negate-start
slice_bounds-negate-start c = omega (arith, negating_further _ _ _ _ c.requires.inside c.requires.room c.loop-p.invariant c.loop-p-test.true c.read_formula.ensures c.in-Ok.is, negating_within _ _ _ _ c.requires.inside c.requires.room c.loop-p.invariant c.loop-p-test.true c.read_formula.ensures c.in-Ok.is, c.requires.inside, c.requires.room, negating_kept _ _ _ _ c.requires.inside c.requires.room c.loop-p.invariant)

pub slice_bounds-negate-end : goal.slice_bounds-negate-end
slice_bounds-negate-end c = omega (arith, negating_further _ _ _ _ c.requires.inside c.requires.room c.loop-p.invariant c.loop-p-test.true c.read_formula.ensures c.in-Ok.is, negating_within _ _ _ _ c.requires.inside c.requires.room c.loop-p.invariant c.loop-p-test.true c.read_formula.ensures c.in-Ok.is, c.requires.inside, c.requires.room, negating_kept _ _ _ _ c.requires.inside c.requires.room c.loop-p.invariant)

pub slice_bounds-negate-count-in-loop-p : goal.slice_bounds-negate-count-in-loop-p
slice_bounds-negate-count-in-loop-p c = omega (arith, negating_further _ _ _ _ c.requires.inside c.requires.room c.loop-p.invariant c.loop-p-test.true c.read_formula.ensures c.in-Ok.is)

pub slice_bounds-negate-start-in-loop-p : goal.slice_bounds-negate-start-in-loop-p
slice_bounds-negate-start-in-loop-p c = omega (arith, negating_further _ _ _ _ c.requires.inside c.requires.room c.loop-p.invariant c.loop-p-test.true c.read_formula.ensures c.in-Ok.is, negating_within _ _ _ _ c.requires.inside c.requires.room c.loop-p.invariant c.loop-p-test.true c.read_formula.ensures c.in-Ok.is, c.requires.inside, c.requires.room, negating_kept _ _ _ _ c.requires.inside c.requires.room c.loop-p.invariant)

pub slice_bounds-negate-end-in-loop-p : goal.slice_bounds-negate-end-in-loop-p
slice_bounds-negate-end-in-loop-p c = omega (arith, negating_further _ _ _ _ c.requires.inside c.requires.room c.loop-p.invariant c.loop-p-test.true c.read_formula.ensures c.in-Ok.is, negating_within _ _ _ _ c.requires.inside c.requires.room c.loop-p.invariant c.loop-p-test.true c.read_formula.ensures c.in-Ok.is, c.requires.inside, c.requires.room, negating_kept _ _ _ _ c.requires.inside c.requires.room c.loop-p.invariant)

pub negate-requires : goal.negate-requires
negate-requires c = tt

pub loop-p-smaller : goal.loop-p-smaller
loop-p-smaller c = omega (arith, c.loop-p-test.true, negating_further _ _ _ _ c.requires.inside c.requires.room c.loop-p.invariant c.loop-p-test.true c.read_formula.ensures c.in-Ok.is)

pub loop-p-preserved : goal.loop-p-preserved
loop-p-preserved c = negating_on _ _ _ _ c.requires.inside c.requires.room c.loop-p.invariant c.loop-p-test.true c.read_formula.ensures c.in-Ok.is c.negate.ensures

pub shape_of-out : goal.shape_of-out
shape_of-out c = negating_kept _ _ _ _ c.requires.inside c.requires.room c.loop-p.invariant

pub returns : goal.returns
returns c = negating_ends _ _ _ _ c.requires.inside c.requires.room c.loop-p.invariant c.loop-p-test.false
