use Rattle.std.proofs.Common.{sym, ◌∙◌, ⊎_elim, arith}
use Rattle.std.proofs.lemmas.Bool.{false≢true}
use borrow.Author.Tests.{eqb-true}
use Rattle.verify.specs.ShapesLaws.{not_axiom, axiom_found, axiom_found_turned}
use Rattle.verify.proofs.is_axiom.Goals as goal
use Rattle.verify.proofs.is_axiom.Goals.{then-zone-at-eq6+in-4-eq5, then-zone-at-eq6+in-4-eq5-2, then-zone-at-eq6+in_default, then-zone-at-eq6+in_default-2, then-zone-at-eq6+in_default-3, else-zone-at-eq6}

pub returns-then-matches : goal.returns-then-matches
returns-then-matches c = elim c.if-zone-at-eq6.branch [
  | then-zone-at-eq6+in-4-eq5 w ↦ axiom_found _ _ w.if-zone-at-eq6.true c.two_at.ensures c.two_at-then-matches.ensures w.in-4-eq5.is-0 w.in-4-eq5.is-1
  | then-zone-at-eq6+in-4-eq5-2 w ↦ axiom_found_turned _ _ w.if-zone-at-eq6.true c.two_at.ensures c.two_at-then-matches.ensures w.in-4-eq5.is-0 w.in-4-eq5.is-1
  | then-zone-at-eq6+in_default w ↦ absurd (false≢true (sym w.value-is ∙ c.if-matches.true))
  | then-zone-at-eq6+in_default-2 w ↦ absurd (false≢true (sym w.value-is ∙ c.if-matches.true))
  | then-zone-at-eq6+in_default-3 w ↦ absurd (false≢true (sym w.value-is ∙ c.if-matches.true))
  | else-zone-at-eq6 w ↦ absurd (w.if-zone-at-eq6.false (eqb-true _ _ (sym w.value-is ∙ c.if-matches.true)))
]

pub returns-else-matches : goal.returns-else-matches
returns-else-matches c = rw c.if-matches.false (not_axiom λ h. elim c.if-zone-at-eq6.branch [
  | then-zone-at-eq6+in-4-eq5 w ↦ false≢true (sym c.if-matches.false ∙ w.value-is)
  | then-zone-at-eq6+in-4-eq5-2 w ↦ false≢true (sym c.if-matches.false ∙ w.value-is)
  | then-zone-at-eq6+in_default w ↦ ⊎_elim (λ k. omega arith) (λ k. omega arith) h.signs
  | then-zone-at-eq6+in_default-2 w ↦ ⊎_elim (λ k. omega arith) (λ k. omega arith) h.signs
  | then-zone-at-eq6+in_default-3 w ↦ ⊎_elim (λ k. omega arith) (λ k. omega arith) h.signs
  | else-zone-at-eq6 w ↦ w.if-zone-at-eq6.false h.six
])
