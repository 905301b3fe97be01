use native.Mathlib.Omega.{arith}
use Rattle.std.proofs.Common.{rules}
use Rattle.held.proofs.TurnSteps.{entered_at, entered_full}
use Rattle.memory.specs.MeaningLaws.{wf_length}
use Rattle.memory.proofs.ShapeSteps.{implication_held, spelled, not_spelled}
use Rattle.memory.proofs.shape.spell.Goals as goal

pub slice_bounds-spell_held-end : goal.slice_bounds-spell_held-end
slice_bounds-spell_held-end c = omega (arith, wf_length _ c.requires.wf)

pub spell_held-requires : goal.spell_held-requires
spell_held-requires c = implication_held _ _ c.requires

pub returns-in_err-i : goal.returns-in_err-i
returns-in_err-i c = let h = not_spelled _ _ _ (entered_full _ _ c.spell_held.result _ c.spell_held.ensures c.in_err-i.was) in search rules

pub returns : goal.returns
returns c = spelled _ _ _ _ c.requires.wf (entered_at _ _ c.spell_held.result _ _ c.spell_held.ensures c.in_ok-i.was)
