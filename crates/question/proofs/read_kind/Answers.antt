use mathlib.Core.Path.{sym, ◌∙◌}
use Rattle.question.specs.StagesLaws.{kind_short, kind_version, kind_length, kind_none, kind_one, kind_two, kind_unknown}
use Rattle.question.proofs.read_kind.Goals.{then-s-two_at-via-then-s-two_at, then-s-two_at-via-else-s-two_at+then-s-eq3, else-kind-ne-ONE_SIDED-via-then-kind-ne-ONE_SIDED+else-kind-ne-TWO_SIDED, else-kind-ne-ONE_SIDED-via-else-kind-ne-ONE_SIDED}
use Rattle.question.proofs.read_kind.Goals as goal

pub returns-then-s-lt3 : goal.returns-then-s-lt3
returns-then-s-lt3 c = kind_short _ c.if-s-lt3.true

pub returns-then-s-ne-VERSION : goal.returns-then-s-ne-VERSION
returns-then-s-ne-VERSION c = kind_version _ c.if-s-lt3.false c.if-s-ne-VERSION.true

pub returns-then-s-two_at : goal.returns-then-s-two_at
returns-then-s-two_at c =
    elim c.then-s-two_at.branch [
      | then-s-two_at-via-then-s-two_at w ↦ kind_length _ c.if-s-lt3.false c.if-s-ne-VERSION.false λ e. w.if-s-two_at.true (e ∙ sym c.two_at.ensures)
      | then-s-two_at-via-else-s-two_at+then-s-eq3 w ↦ kind_none _ c.if-s-lt3.false c.if-s-ne-VERSION.false (w.if-s-two_at.false ∙ c.two_at.ensures) w.if-s-eq3.true
    ]

pub returns-then-kind-ne-TWO_SIDED : goal.returns-then-kind-ne-TWO_SIDED
returns-then-kind-ne-TWO_SIDED c = kind_unknown _ c.if-s-lt3.false c.if-s-ne-VERSION.false (c.if-s-two_at.false ∙ c.two_at.ensures) c.if-s-eq3.false c.if-kind-ne-ONE_SIDED.true c.if-kind-ne-TWO_SIDED.true

pub returns : goal.returns
returns c =
    elim c.else-kind-ne-ONE_SIDED.branch [
      | else-kind-ne-ONE_SIDED-via-then-kind-ne-ONE_SIDED+else-kind-ne-TWO_SIDED w ↦ kind_two _ c.if-s-lt3.false c.if-s-ne-VERSION.false (c.if-s-two_at.false ∙ c.two_at.ensures) c.if-s-eq3.false w.if-kind-ne-TWO_SIDED.false
      | else-kind-ne-ONE_SIDED-via-else-kind-ne-ONE_SIDED w ↦ kind_one _ c.if-s-lt3.false c.if-s-ne-VERSION.false (c.if-s-two_at.false ∙ c.two_at.ensures) c.if-s-eq3.false w.if-kind-ne-ONE_SIDED.false
    ]
