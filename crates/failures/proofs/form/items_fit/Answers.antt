use native.Mathlib.Omega.{arith}
use Rattle.failures.specs.RecordsLaws.{listing_item}
use Rattle.held.proofs.RowSteps.{told, untold}
use Rattle.failures.proofs.Steps.{fitting_falls, fitting_step}
use Rattle.failures.proofs.form.items_fit.Goals as goal

pub returns-then-x-last : goal.returns-then-x-last
returns-then-x-last c = fitting_falls c.loop-k.invariant (omega arith) (omega arith) c.if-x-last.true

pub returns-then-not-item_fits : goal.returns-then-not-item_fits
returns-then-not-item_fits c = λ z. untold c.item_fits.result _ c.item_fits.ensures c.if-not-item_fits.true (listing_item _ c.args.fail.now c.args.i c.args.n (omega arith) z c.loop-k.k (omega arith))

pub loop-k-preserved : goal.loop-k-preserved
loop-k-preserved c = fitting_step c.loop-k.invariant (omega arith) c.if-x-last.false
    (told c.item_fits.result _ c.item_fits.ensures c.if-not-item_fits.false)
