use Rattle.held.proofs.RowSteps.{told, untold}
use Rattle.prover.specs.Promise.{call_of}
use Rattle.prover.specs.EntryLaws.{settings_out, memory_out, question_out, read_taken, search_out}
use Rattle.prover.proofs.prove.Goals as goal

pub returns-then-not-settings_fit : goal.returns-then-not-settings_fit
returns-then-not-settings_fit c = settings_out (call_of c.args.question.now c.args.limit c.args.budget c.args.cache c.args.mem.now c.args.work.now c.args.out.now) (untold c.settings_fit.result _ c.settings_fit.ensures c.if-not-settings_fit.true) c.refused.ensures

pub returns-then-not-well_formed : goal.returns-then-not-well_formed
returns-then-not-well_formed c = memory_out (call_of c.args.question.now c.args.limit c.args.budget c.args.cache c.args.mem.now c.args.work.now c.args.out.now) (told c.settings_fit.result _ c.settings_fit.ensures c.if-not-settings_fit.false) (untold c.well_formed-2.result _ c.well_formed-2.ensures c.if-not-well_formed.true) c.refused-then-not-well_formed.ensures

pub returns-in-Err : goal.returns-in-Err
returns-in-Err c = question_out (call_of c.args.question.now c.args.limit c.args.budget c.args.cache c.args.mem.now c.args.work.now c.args.out.now) (told c.settings_fit.result _ c.settings_fit.ensures c.if-not-settings_fit.false) (told c.well_formed-2.result _ c.well_formed-2.ensures c.if-not-well_formed.false) (record { byte = λ k. (c.type_inv.question k).fits }) c.refused-in-Err.ensures c.read_into.ensures c.in-Err.is

pub returns : goal.returns
returns c = search_out (call_of c.args.question.now c.args.limit c.args.budget c.args.cache c.args.mem.now c.args.work.now c.args.out.now) (told c.settings_fit.result _ c.settings_fit.ensures c.if-not-settings_fit.false) (told c.well_formed-2.result _ c.well_formed-2.ensures c.if-not-well_formed.false) (record { byte = λ k. (c.type_inv.question k).fits }) (read_taken c.read_into.ensures c.in-Ok.is) c.search.ensures
