use mathlib.Core.Path.{sym, ◌∙◌}
use native.Mathlib.Omega.{arith}
use borrow.Author.Tests.{eqb-true}
use Rattle.split.specs.SplittingLaws.{place_low, no_tensor, left_compares, left_tested, right_compares, both_tested}
use Rattle.split.proofs.is_tensor_of.Goals as goal
use Rattle.split.proofs.is_tensor_of.Goals.{then-field-eq-TENSOR, else-field-eq-TENSOR}

pub matches-requires : goal.matches-requires
matches-requires c = left_compares c.requires c.field.ensures c.if-field-eq-TENSOR.true c.field-then-field-eq-TENSOR.ensures

pub field-requires-then-is_some : goal.field-requires-then-is_some
field-requires-then-is_some c = ((omega (arith, place_low c.requires, c.requires.sound.wf.few), omega arith), c.requires.sound.wf.sized)

pub matches-requires-then-is_some : goal.matches-requires-then-is_some
matches-requires-then-is_some c =
    elim c.if-field-eq-TENSOR.branch [
      | then-field-eq-TENSOR w ↦ right_compares c.requires c.field.ensures w.if-field-eq-TENSOR.true c.field-then-is_some.ensures
      | else-field-eq-TENSOR w ↦ absurd (w.if-field-eq-TENSOR.false (eqb-true c.field.result 6 (sym w.value-is ∙ c.if-is_some.true)))
    ]

pub returns-then-is_some : goal.returns-then-is_some
returns-then-is_some c =
    elim c.if-field-eq-TENSOR.branch [
      | then-field-eq-TENSOR w ↦
          rw c.is_some-then-is_some.ensures
          (both_tested c.requires c.field.ensures w.if-field-eq-TENSOR.true w.field-then-field-eq-TENSOR.ensures c.field-then-is_some.ensures w.matches.ensures
          (sym w.is_some.ensures ∙ sym w.value-is ∙ c.if-is_some.true) c.matches-then-is_some.result c.matches-then-is_some.ensures)
      | else-field-eq-TENSOR w ↦ absurd (w.if-field-eq-TENSOR.false (eqb-true c.field.result 6 (sym w.value-is ∙ c.if-is_some.true)))
    ]

pub returns-else-is_some : goal.returns-else-is_some
returns-else-is_some c =
    rw c.if-is_some.false (elim c.if-field-eq-TENSOR.branch [
      | then-field-eq-TENSOR w ↦
          left_tested c.requires c.field.ensures w.if-field-eq-TENSOR.true w.field-then-field-eq-TENSOR.ensures w.matches.ensures
          (sym w.is_some.ensures ∙ sym w.value-is ∙ c.if-is_some.false)
      | else-field-eq-TENSOR w ↦ no_tensor c.requires c.field.ensures w.if-field-eq-TENSOR.false
    ])
