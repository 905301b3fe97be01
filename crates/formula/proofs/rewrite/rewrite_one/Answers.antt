use mathlib.Core.Path.{sym, ◌∙◌}
use Rattle.std.proofs.lemmas.Result.{err_from_is_err_and}
use Rattle.formula.proofs.CallsLaws.{whole, writes_refused}
use Rattle.formula.proofs.RewritingLaws.{rewrite_ready, rewrite_short, rewrite_done}
use Rattle.formula.proofs.rewrite.rewrite_one.Goals as goal

pub returns-in_err-n : goal.returns-in_err-n
returns-in_err-n c = let p = err_from_is_err_and c.from_residual.result c.from_residual.ensures.1 in rw (p.1, p.2) (writes_refused _ _ _ (sym c.read_one.ensures ∙ c.in_err-n.was))

pub returns-then-out-n : goal.returns-then-out-n
returns-then-out-n c = rewrite_short _ _ (whole _ (record { byte = λ k. (c.type_inv.s k).fits }) (sym c.read_one.ensures ∙ c.in_ok-n.was)) c.args.how c.if-out-n.true

pub rewrite-requires : goal.rewrite-requires
rewrite-requires c = rewrite_ready _ _ (whole _ (record { byte = λ k. (c.type_inv.s k).fits }) (sym c.read_one.ensures ∙ c.in_ok-n.was)) c.if-out-n.false

pub returns : goal.returns
returns c = rewrite_done _ _ (whole _ (record { byte = λ k. (c.type_inv.s k).fits }) (sym c.read_one.ensures ∙ c.in_ok-n.was)) _ c.if-out-n.false c.rewrite.ensures
