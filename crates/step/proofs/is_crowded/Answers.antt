use mathlib.Core.Logic.{⊎_elim}
use mathlib.Core.Path.{refl, ◌∙◌}
use native.Mathlib.Omega.{arith}
use Rattle.rule.specs.NumbersLaws.{one_rule, one_of_two}
use Rattle.rule.specs.declared.Rule.TheVariants.{ParIntro, Contraction}
use Rattle.step.proofs.TakingSteps.{crowded_room, crowded_many, crowded_other}
use Rattle.step.proofs.is_crowded.Goals as goal

pub returns-in_default : goal.returns-in_default
returns-in_default c = crowded_other c.requires refl (⊎_elim (λ e. omega (arith, e, c.in_default.ensures.is)) (λ e. omega (arith, e, c.in_default.ensures.is)))

pub returns-else-count-ge-MOST : goal.returns-else-count-ge-MOST
returns-else-count-ge-MOST c = crowded_room c.requires c.count.ensures c.if-count-ge-MOST.false

pub returns-in-ParIntro : goal.returns-in-ParIntro
returns-in-ParIntro c = crowded_many c.requires c.count.ensures c.if-count-ge-MOST.true (rw c.in-Some.ensures.is at (one_of_two c.in-ParIntro.is))

pub returns-in_default-matches : goal.returns-in_default-matches
returns-in_default-matches c =
    let k = c.in-Some.ensures.is in
    let d = c.in_default-matches in
    crowded_other c.requires c.count.ensures (⊎_elim (λ e. d.not-ParIntro (one_rule _ ParIntro (k ∙ e))) (λ e. d.not-Contraction (one_rule _ Contraction (k ∙ e))))
