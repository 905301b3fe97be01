use Rattle.held.proofs.TurnSteps.{blank_turn, cut_refused, is_none}
use mathlib.Core.Path.{refl}
use Rattle.held.proofs.turn.negate_held.Goals as goal

pub negated-r-requires : goal.negated-r-requires
negated-r-requires c = blank_turn 2048 refl _ _ c.requires.0 c.requires.1

pub returns-then-is_none : goal.returns-then-is_none
returns-then-is_none c = let e = is_none _ c.if-is_none.ensures in rw e (cut_refused _ _ c.negated-r.result _ _ _ c.requires.0 c.negated-r.ensures e c.cut.ensures)
