use Rattle.rule.specs.Numbers.{number_of}
use Rattle.rule.specs.NumbersLaws.{one_rule}
use Rattle.rule.specs.declared.Rule.TheVariants.{BottomIntro, ParIntro, TopIntro, WithIntro, WhyNotIntro}
use Rattle.step.proofs.TakingSteps.{decomposed_none}
use Rattle.step.proofs.decomposed.Goals as goal

pub returns-in_default : goal.returns-in_default
returns-in_default c =
    let d = c.in_default in
    decomposed_none (number_of c.args.rule) (λ e. d.not-BottomIntro (one_rule _ BottomIntro e)) (λ e. d.not-ParIntro (one_rule _ ParIntro e))
    (λ e. d.not-TopIntro (one_rule _ TopIntro e)) (λ e. d.not-WithIntro (one_rule _ WithIntro e)) (λ e. d.not-WhyNotIntro (one_rule _ WhyNotIntro e))
