use borrow.Author.Rules.{rules}
use Rattle.held.proofs.TurnSteps.{entered_at, entered_full, spell_over, spell_next, spell_done, is_none, spell_refused}
use Rattle.held.proofs.turn.spell_held.Goals as goal

pub returns-in_err-na : goal.returns-in_err-na
returns-in_err-na c = let h = spell_over _ _ c.field-a.result c.field-b.result c.requires c.field-a.ensures.value c.field-b.ensures.value _ (entered_full _ _ c.negate_held.result _ c.negate_held.ensures c.in_err-na.was) in search rules

pub add-r-requires : goal.add-r-requires
add-r-requires c = spell_next _ _ c.field-a.result c.field-b.result c.requires c.field-a.ensures.value c.field-b.ensures.value _ _ (entered_at _ _ c.negate_held.result _ _ c.negate_held.ensures c.in_ok-na.was)

pub returns-then-is_none : goal.returns-then-is_none
returns-then-is_none c = let e = is_none _ c.if-is_none.ensures in rw e (spell_refused _ _ c.field-a.result c.field-b.result c.requires c.field-a.ensures.value c.field-b.ensures.value _ _ (entered_at _ _ c.negate_held.result _ _ c.negate_held.ensures c.in_ok-na.was) c.add-r.result _ _ c.add-r.ensures e c.cut.ensures)

pub returns-else-is_none : goal.returns-else-is_none
returns-else-is_none c = spell_done _ _ c.field-a.result c.field-b.result c.requires c.field-a.ensures.value c.field-b.ensures.value _ _ (entered_at _ _ c.negate_held.result _ _ c.negate_held.ensures c.in_ok-na.was) c.add-r.result _ c.add-r.ensures c.if-is_none.ensures
