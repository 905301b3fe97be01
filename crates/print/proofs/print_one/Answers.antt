use mathlib.Core.Path.{sym, ◌∙◌}
use Rattle.std.proofs.lemmas.Result.{err_from_is_err_and}
use Rattle.formula.proofs.CallsLaws.{whole, writes_refused}
use Rattle.print.specs.PrintingLaws.{one_ready, count_short, print_done}
use Rattle.print.proofs.print_one.Goals as goal

pub returns-in_err-read_one : goal.returns-in_err-read_one
returns-in_err-read_one c = let p = err_from_is_err_and c.from_residual.result c.from_residual.ensures.1 in rw (p.1, p.2) (writes_refused _ _ _ (sym c.read_one.ensures ∙ c.in_err-read_one.was))

pub print-counted-requires : goal.print-counted-requires
print-counted-requires c = one_ready (whole _ (record { byte = λ k. (c.type_inv.s k).fits }) (sym c.read_one.ensures ∙ c.in_ok-read_one.was))

pub returns-in_default : goal.returns-in_default
returns-in_default c = count_short (whole _ (record { byte = λ k. (c.type_inv.s k).fits }) (sym c.read_one.ensures ∙ c.in_ok-read_one.was)) _ c.args.style c.print-counted.ensures c.in_default.is

pub print-requires : goal.print-requires
print-requires c = one_ready (whole _ (record { byte = λ k. (c.type_inv.s k).fits }) (sym c.read_one.ensures ∙ c.in_ok-read_one.was))

pub returns : goal.returns
returns c = print_done (whole _ (record { byte = λ k. (c.type_inv.s k).fits }) (sym c.read_one.ensures ∙ c.in_ok-read_one.was)) _ c.args.style c.print-counted.ensures c.in-Some.is c.print.ensures
