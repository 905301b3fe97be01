use Rattle.bags.specs.ComparedLaws.{tops_other, tops_unit, tops_name, tops_two, tops_one}
use Rattle.bags.specs.ReadingLaws.{tag_of_form}
use Rattle.std.proofs.Common.{sym, ◌∙◌, ⊎_elim}
use Rattle.bags.proofs.compare_tops.Goals as goal

pub returns-then-tag-sign_at : goal.returns-then-tag-sign_at
returns-then-tag-sign_at c = tops_other _ _ _ c.sign_at-tag.ensures c.sign_at.ensures c.if-tag-sign_at.true

pub returns-in-Unit : goal.returns-in-Unit
returns-in-Unit c = tops_unit _ _ _ c.sign_at-tag.ensures c.sign_at.ensures c.if-tag-sign_at.false (tag_of_form _ (sym c.in-Unit.is ∙ c.form_of.ensures)) c.after.ensures c.after-in-Unit.ensures

pub returns-in-Named : goal.returns-in-Named
returns-in-Named c = let t = tag_of_form _ (sym c.in-Named.is ∙ c.form_of.ensures) in tops_name _ _ _ c.sign_at-tag.ensures c.sign_at.ensures c.if-tag-sign_at.false t.0 t.1 c.names.ensures

pub returns-in-Binary : goal.returns-in-Binary
returns-in-Binary c = let t = tag_of_form _ (sym c.in-Binary.is ∙ c.form_of.ensures) in tops_two _ _ _ c.sign_at-tag.ensures c.sign_at.ensures c.if-tag-sign_at.false t.0 t.1

pub returns-in-Unary : goal.returns-in-Unary
returns-in-Unary c = tops_one _ _ _ c.sign_at-tag.ensures c.sign_at.ensures c.if-tag-sign_at.false (⊎_elim (λ e. tag_of_form _ (sym e ∙ c.form_of.ensures)) (λ e. tag_of_form _ (sym e ∙ c.form_of.ensures)) c.in-Unary.is)
