use mathlib.Core.Path.{sym, ap, ◌∙◌}
use mathlib.Core.Logic.{inl, inr}
use borrow.Author.Rules.{rules}
use Rattle.logic.specs.Parts.{negated_tag}
use Rattle.formula.specs.Rewriting.{turned_of}
use Rattle.formula.proofs.rewrite.turned.Goals as goal

pub returns-in-Copy : goal.returns-in-Copy
unfolding turned_of
returns-in-Copy c = search rules

pub returns-in-Negate : goal.returns-in-Negate
unfolding turned_of negated_tag
returns-in-Negate c = elim c.in-Negate.is [ inl e ↦ c.dual.ensures ∙ sym (ap (turned_of c.args.tag) e) | inr e ↦ c.dual.ensures ∙ sym (ap (turned_of c.args.tag) e) ]

pub returns-in-Spell : goal.returns-in-Spell
unfolding turned_of
returns-in-Spell c = sym (ap (turned_of c.args.tag) c.in-Spell.is)
