use Rattle.std.proofs.Common.{sym, ◌∙◌, arith}
use Rattle.std.proofs.lemmas.Bool.{false≢true}
use borrow.Author.Tests.{eq-eqb}
use Rattle.strict.specs.RulesLaws.{one_taken, one_moved, one_changed, one_kept}
use Rattle.strict.proofs.one_premise.Goals as goal
use Rattle.strict.proofs.one_premise.Goals.{then-q-why_not-2, else-q-why_not-2}

pub returns-then-q-why_not : goal.returns-then-q-why_not
returns-then-q-why_not c = one_taken c.args.q c.node_at-p.ensures (omega arith) c.some_step.ensures

pub returns-then-keeps_zone : goal.returns-then-keeps_zone
returns-then-keeps_zone c = elim c.if-q-why_not-2.branch [
  | then-q-why_not-2 w ↦ one_moved c.args.q c.node_at-p.ensures (omega arith) (omega arith) (rw w.premises-is at c.some_step-then-keeps_zone.ensures)
  | else-q-why_not-2 w ↦ one_kept c.args.q c.node_at-p.ensures (omega arith) (λ e. omega arith) w.keeps_zone.ensures (sym w.value-is ∙ c.if-keeps_zone.true) (rw w.premises-is at c.some_step-then-keeps_zone.ensures)
]

pub returns-else-keeps_zone : goal.returns-else-keeps_zone
returns-else-keeps_zone c = rw c.if-keeps_zone.false (elim c.if-q-why_not-2.branch [
  | then-q-why_not-2 w ↦ absurd (false≢true (sym c.if-keeps_zone.false ∙ w.value-is ∙ eq-eqb _ _ w.if-q-why_not-2.true))
  | else-q-why_not-2 w ↦ one_changed c.args.q c.node_at-p.ensures (omega arith) (λ e. omega arith) w.keeps_zone.ensures (sym w.value-is ∙ c.if-keeps_zone.false)
])
