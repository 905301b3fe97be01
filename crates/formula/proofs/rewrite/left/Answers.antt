use mathlib.Core.Path.{sym, ap, ◌∙◌}
use Rattle.formula.specs.Rewriting.{other_way}
use Rattle.formula.proofs.RewritingLaws.{left_of_lolli, left_of_other}
use Rattle.formula.proofs.rewrite.left.Goals as goal

pub returns-then-tag-ne-LOLLI : goal.returns-then-tag-ne-LOLLI
returns-then-tag-ne-LOLLI c = sym (left_of_other _ _ c.if-tag-ne-LOLLI.true)

pub returns-in-Copy : goal.returns-in-Copy
unfolding other_way
returns-in-Copy c = sym (left_of_lolli _ _ c.if-tag-ne-LOLLI.false ∙ ap other_way c.in-Copy.is)

pub returns-in-Negate : goal.returns-in-Negate
unfolding other_way
returns-in-Negate c = sym (left_of_lolli _ _ c.if-tag-ne-LOLLI.false ∙ ap other_way c.in-Negate.is)

pub returns-in-Spell : goal.returns-in-Spell
unfolding other_way
returns-in-Spell c = sym (left_of_lolli _ _ c.if-tag-ne-LOLLI.false ∙ ap other_way c.in-Spell.is)

pub returns-in-SpellNegated : goal.returns-in-SpellNegated
unfolding other_way
returns-in-SpellNegated c = sym (left_of_lolli _ _ c.if-tag-ne-LOLLI.false ∙ ap other_way c.in-SpellNegated.is)
