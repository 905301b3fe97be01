use Rattle.std.proofs.lemmas.Iterator.{cases_from_all, YieldsList-from_range}
use Rattle.failures.specs.Records.{Stands}
use borrow.Author.Tests.{tests}
use borrow.Author.Rules.{rules}
use native.Mathlib.Omega.{arith}
use mathlib.Core.Path.{refl}
use Rattle.held.proofs.RowSteps.{each_told}
use Rattle.failures.proofs.Steps.{standing_told}
use Rattle.failures.proofs.form.records_fit.Goals as goal

pub returns : goal.returns
returns c =
    standing_told _ _ _ c.all.result
    (each_told _ _ _ (cases_from_all _ _ _ (λ i. Stands c.args.held.now c.args.fail.now i) (λ i. Stands c.args.held.now c.args.fail.now i → ⊥) c.all.ensures.ran (YieldsList-from_range 0 c.args.n c.args.n refl (omega arith)) (λ x q k. search (rules, tests)) (λ x q k. search (rules, tests))))
