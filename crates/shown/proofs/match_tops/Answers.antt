use Rattle.std.proofs.Common.{sym, ◌∙◌, ⊎_elim}
use Rattle.bags.specs.ReadingLaws.{tag_of_form}
use Rattle.shown.specs.MatchingLaws.{tops_other, tops_unit, tops_names_other, tops_names, tops_one, tops_two}
use Rattle.shown.proofs.match_tops.Goals as goal

pub returns-then-byte_at-t : goal.returns-then-byte_at-t
returns-then-byte_at-t c = tops_other _ c.requires c.field-tag.ensures c.sign-t.ensures c.byte_at.ensures c.if-byte_at-t.true

pub returns-in-Unit : goal.returns-in-Unit
returns-in-Unit c = tops_unit _ c.requires c.field-tag.ensures c.sign-t.ensures c.byte_at.ensures c.if-byte_at-t.false (tag_of_form _ (sym c.in-Unit.is ∙ c.form_of.ensures)) c.after.ensures

pub returns-then-two_at-field : goal.returns-then-two_at-field
returns-then-two_at-field c =
    let t = tag_of_form _ (sym c.in-Named.is ∙ c.form_of.ensures) in
    tops_names_other _ c.requires c.field-tag.ensures c.sign-t.ensures c.byte_at.ensures c.if-byte_at-t.false t.0 t.1 c.after-in-Named.ensures c.two_at.ensures c.field.ensures c.if-two_at-field.true

pub returns-else-two_at-field : goal.returns-else-two_at-field
returns-else-two_at-field c =
    let t = tag_of_form _ (sym c.in-Named.is ∙ c.form_of.ensures) in
    tops_names _ c.requires c.field-tag.ensures c.sign-t.ensures c.byte_at.ensures c.if-byte_at-t.false t.0 t.1 c.after-in-Named.ensures c.two_at.ensures c.field.ensures c.if-two_at-field.false c.after-in-Named-2.ensures

pub returns-in-Binary : goal.returns-in-Binary
returns-in-Binary c =
    let t = tag_of_form _ (sym c.in-Binary.is ∙ c.form_of.ensures) in
    tops_two _ c.requires c.field-tag.ensures c.sign-t.ensures c.byte_at.ensures c.if-byte_at-t.false t.0 t.1

pub returns-in-Unary : goal.returns-in-Unary
returns-in-Unary c =
    tops_one _ c.requires c.field-tag.ensures c.sign-t.ensures c.byte_at.ensures c.if-byte_at-t.false
    (⊎_elim (λ e. tag_of_form _ (sym e ∙ c.form_of.ensures)) (λ e. tag_of_form _ (sym e ∙ c.form_of.ensures)) c.in-Unary.is)
