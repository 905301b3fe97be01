use mathlib.Core.Path.{sym, ◌∙◌}
use Rattle.std.proofs.Common.{eqb-true}
use native.Mathlib.Omega.{arith}
use Rattle.held.proofs.RowSteps.{told, untold}
use Rattle.memory.specs.MeaningLaws.{wf_length}
use Rattle.memory.proofs.WholeSteps.{front_length, wf_tells}
use Rattle.memory.proofs.well_formed.Goals as goal
use Rattle.memory.proofs.well_formed.Goals.{then-mem-eq-WORDS, else-mem-eq-WORDS}

pub slice_bounds-well_formed-end : goal.slice_bounds-well_formed-end
slice_bounds-well_formed-end c = front_length c.args.mem.now (omega (arith, c.if-mem-eq-WORDS.true))

pub returns-then-well_formed : goal.returns-then-well_formed
returns-then-well_formed c =
    elim c.if-mem-eq-WORDS.branch [
      | then-mem-eq-WORDS w ↦ let v = w.well_formed-then-mem-eq-WORDS in wf_tells _ c.well_formed-then-well_formed.result (told v.result _ v.ensures (sym w.value-is ∙ c.if-well_formed.true)) c.well_formed-then-well_formed.ensures
      | else-mem-eq-WORDS w ↦ absurd (w.if-mem-eq-WORDS.false (eqb-true _ _ (sym w.value-is ∙ c.if-well_formed.true)))
    ]

pub returns-else-well_formed : goal.returns-else-well_formed
returns-else-well_formed c =
    rw c.if-well_formed.false
    (elim c.if-mem-eq-WORDS.branch [
      | then-mem-eq-WORDS w ↦ let v = w.well_formed-then-mem-eq-WORDS in λ z. untold v.result _ v.ensures (sym w.value-is ∙ c.if-well_formed.false) z.formulas
      | else-mem-eq-WORDS w ↦ λ z. w.if-mem-eq-WORDS.false (wf_length _ z)
    ])
