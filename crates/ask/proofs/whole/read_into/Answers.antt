use mathlib.Core.Path.{sym, ◌∙◌}
use native.Mathlib.Omega.{arith}
use Rattle.std.proofs.lemmas.Result.{err_from_is_err_and}
use Rattle.memory.specs.MeaningLaws.{wf_length}
use Rattle.ask.specs.ReadingLaws.{askable, read_refused, read_entered}
use Rattle.ask.proofs.whole.read_into.Goals as goal

pub slice_bounds-enter_question-end : goal.slice_bounds-enter_question-end
slice_bounds-enter_question-end c = omega (arith, wf_length _ c.requires)

pub enter_question-requires : goal.enter_question-requires
enter_question-requires c = askable c.requires (record { byte = λ k. (c.type_inv.s k).fits }) (sym c.in_ok-places.was ∙ c.read_question.ensures)

pub returns-in_err-places : goal.returns-in_err-places
returns-in_err-places c = let p = err_from_is_err_and c.from_residual.result c.from_residual.ensures.1 in rw (p.1, p.2) (read_refused _ _ _ (sym c.in_err-places.was ∙ c.read_question.ensures))

pub returns : goal.returns
returns c = rw c.ok_or.ensures.value (read_entered c.requires (askable c.requires (record { byte = λ k. (c.type_inv.s k).fits }) (sym c.in_ok-places.was ∙ c.read_question.ensures)) _ c.enter_question.result c.enter_question.ensures)
