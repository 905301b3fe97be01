use native.Mathlib.Omega.{arith}
use mathlib.Core.Path.{◌≡◌}
use Rattle.std.proofs.Common.{rules}
use Rattle.step.proofs.TakingSteps.{alone_more, alone_later, alone_tag}
use Rattle.step.proofs.is_alone.Goals as goal
use Rattle.step.proofs.is_alone.Goals.{then-z-eq1, else-z-eq1}

pub returns-then-place-eq0 : goal.returns-then-place-eq0
returns-then-place-eq0 c = alone_tag c.requires c.if-place-eq0.true.0 c.if-place-eq0.true.1 c.tag_at.ensures

pub returns-else-place-eq0 : goal.returns-else-place-eq0
returns-else-place-eq0 c =
    elim c.if-z-eq1.branch [
      | then-z-eq1 w ↦ let n : c.args.place ≡ 0 → ⊥ = (λ e. omega arith) in let h = alone_later c.requires {tag = c.args.tag} n in search rules
      | else-z-eq1 w ↦ let h = alone_more c.requires {place = c.args.place} {tag = c.args.tag} w.if-z-eq1.false in search rules
    ]
