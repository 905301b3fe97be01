use Rattle.std.proofs.lemmas.Result.{err_from_is_err_and}
use mathlib.Core.Path.{sym, ◌∙◌}
use native.Mathlib.Omega.{arith}
use Rattle.held.proofs.RowSteps.{told, untold}
use Rattle.memory.specs.MeaningLaws.{wf_length}
use Rattle.short_trees.specs.Promise.{call_of, expanding}
use Rattle.short_trees.specs.CallsLaws.{memory_out, question_out, call_enterable, entered_out}
use Rattle.short_trees.proofs.expand.Goals as goal

pub returns-then-not-well_formed : goal.returns-then-not-well_formed
returns-then-not-well_formed c = memory_out expanding (call_of c.args.question.now c.args.short.now c.args.mem.now c.args.out.now) (untold c.well_formed-2.result _ c.well_formed-2.ensures c.if-not-well_formed.true)

pub slice_bounds-expand_in-end : goal.slice_bounds-expand_in-end
slice_bounds-expand_in-end c = omega (arith, wf_length _ (told c.well_formed-2.result _ c.well_formed-2.ensures c.if-not-well_formed.false))

pub slice_bounds-expand_in-end-2 : goal.slice_bounds-expand_in-end-2
slice_bounds-expand_in-end-2 c = sym (told c.well_formed-2.result _ c.well_formed-2.ensures c.if-not-well_formed.false).formulas.sized

pub expand_in-requires : goal.expand_in-requires
expand_in-requires c = call_enterable expanding (call_of c.args.question.now c.args.short.now c.args.mem.now c.args.out.now) (told c.well_formed-2.result _ c.well_formed-2.ensures c.if-not-well_formed.false) (record { byte = λ k. (c.type_inv.question k).fits }) (sym c.in_ok-places.was ∙ c.read_question.ensures) (record { byte = λ k. (c.type_inv.short k).fits })

pub returns-in_err-places : goal.returns-in_err-places
returns-in_err-places c =
    let p = err_from_is_err_and c.from_residual.result c.from_residual.ensures.1 in
    rw (p.1, p.2) (question_out expanding (call_of c.args.question.now c.args.short.now c.args.mem.now c.args.out.now) (told c.well_formed-2.result _ c.well_formed-2.ensures c.if-not-well_formed.false) (sym c.in_err-places.was ∙ c.read_question.ensures))

pub returns : goal.returns
returns c = entered_out expanding (call_of c.args.question.now c.args.short.now c.args.mem.now c.args.out.now) (told c.well_formed-2.result _ c.well_formed-2.ensures c.if-not-well_formed.false) (record { byte = λ k. (c.type_inv.question k).fits }) (sym c.in_ok-places.was ∙ c.read_question.ensures) c.expand_in.ensures
