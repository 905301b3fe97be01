use Rattle.std.proofs.Common.{rules}
use Rattle.enter.proofs.ListSteps.{listing_starts, listing_ready, listing_over, listing_fits, listing_falls, listing_room, listing_more, listing_ends, listed_all, over_all}
use Rattle.enter.proofs.Steps.{entered_at, entered_full}
use native.Mathlib.Omega.{arith}
use Rattle.enter.proofs.lists.enter_formulas.Goals as goal

pub loop-p-init : goal.loop-p-init
loop-p-init c = record { given = c.requires; far = listing_starts _ _ _ _ _ _ c.requires }

pub enter_formula-requires : goal.enter_formula-requires
enter_formula-requires c = listing_ready _ _ _ _ _ _ c.loop-p.invariant.given _ _ _ _ c.loop-p.invariant.far c.loop-p-test.true

pub returns-in_err-i : goal.returns-in_err-i
returns-in_err-i c = let h = over_all _ _ _ _ _ _ c.loop-p.invariant.given _ (listing_over _ _ _ _ _ _ c.loop-p.invariant.given _ _ _ _ c.loop-p.invariant.far c.loop-p-test.true _ (entered_full _ _ _ c.enter_formula.result _ c.enter_formula.ensures c.in_err-i.was)) in search rules

pub overflow_cast-numbers : goal.overflow_cast-numbers
overflow_cast-numbers c = omega (arith, listing_fits _ _ _ _ _ _ c.loop-p.invariant.given _ _ _ _ c.loop-p.invariant.far c.loop-p-test.true _ _ _ (entered_at _ _ _ c.enter_formula.result _ c.enter_formula.ensures _ _ c.in_ok-i.was))

pub bounds-numbers-from : goal.bounds-numbers-from
bounds-numbers-from c = listing_room _ _ _ _ _ _ c.loop-p.invariant.given _ _ _ _ c.loop-p.invariant.far c.loop-p-test.true _ _ _ (entered_at _ _ _ c.enter_formula.result _ c.enter_formula.ensures _ _ c.in_ok-i.was)

pub loop-p-smaller : goal.loop-p-smaller
loop-p-smaller c = omega (arith, listing_falls _ _ _ _ _ _ c.loop-p.invariant.given _ _ _ _ c.loop-p.invariant.far c.loop-p-test.true _ _ _ (entered_at _ _ _ c.enter_formula.result _ c.enter_formula.ensures _ _ c.in_ok-i.was), c.loop-p-test.true)

pub loop-p-preserved : goal.loop-p-preserved
loop-p-preserved c = record { given = c.loop-p.invariant.given; far = listing_more _ _ _ _ _ _ c.loop-p.invariant.given _ _ _ _ c.loop-p.invariant.far c.loop-p-test.true _ _ _ (entered_at _ _ _ c.enter_formula.result _ c.enter_formula.ensures _ _ c.in_ok-i.was) }

pub returns : goal.returns
returns c = listed_all _ _ _ _ _ _ c.loop-p.invariant.given _ _ _ (listing_ends _ _ _ _ _ _ c.loop-p.invariant.given _ _ _ _ c.loop-p.invariant.far c.loop-p-test.false)
