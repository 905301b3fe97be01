use native.Mathlib.Omega.{arith}
use Rattle.question.specs.StagesLaws.{end_none, end_short, end_at}
use Rattle.question.proofs.zone_end.Goals as goal

pub returns-then-s-at-lt2 : goal.returns-then-s-at-lt2
returns-then-s-at-lt2 c = end_none _ _ c.requires c.if-s-at-lt2.true

pub returns-then-s-from : goal.returns-then-s-from
returns-then-s-from c = end_short _ _ c.requires c.if-s-at-lt2.false (omega (arith, c.two_at-size.ensures, c.if-s-from.true))

pub returns : goal.returns
returns c = rw c.two_at-size.ensures (end_at _ _ c.requires c.if-s-at-lt2.false (omega (arith, c.two_at-size.ensures, c.if-s-from.false)))
