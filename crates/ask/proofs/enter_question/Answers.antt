use mathlib.Core.Path.{refl}
use Rattle.ask.specs.AskingLaws.{asked_one_sided, asked_two_sided, entering_settles, settled_none, settled_some, settled_asked}
use Rattle.ask.proofs.enter_question.Goals as goal
use Rattle.ask.proofs.enter_question.Goals.{then-p-eq-ONE_SIDED, else-p-eq-ONE_SIDED}

pub enter_one_sided-r-requires : goal.enter_one_sided-r-requires
enter_one_sided-r-requires c = asked_one_sided c.requires c.if-p-eq-ONE_SIDED.true

pub enter_two_sided-r-requires : goal.enter_two_sided-r-requires
enter_two_sided-r-requires c = asked_two_sided c.requires c.if-p-eq-ONE_SIDED.false

pub cut-requires : goal.cut-requires
cut-requires c =
    let s = entering_settles c.requires c.if-p-eq-ONE_SIDED.r c.if-p-eq-ONE_SIDED.mem
    (elim c.if-p-eq-ONE_SIDED.branch [
      | then-p-eq-ONE_SIDED w ↦ rw (w.r-is, w.mem-is) w.enter_one_sided-r.ensures
      | else-p-eq-ONE_SIDED w ↦ rw (w.r-is, w.mem-is) w.enter_two_sided-r.ensures
    ])
    refl in
    (s.wf, s.low)

pub returns-then-is_none : goal.returns-then-is_none
returns-then-is_none c =
    settled_asked c.requires c.if-p-eq-ONE_SIDED.r c.if-p-eq-ONE_SIDED.mem
    (elim c.if-p-eq-ONE_SIDED.branch [
      | then-p-eq-ONE_SIDED w ↦ rw (w.r-is, w.mem-is) w.enter_one_sided-r.ensures
      | else-p-eq-ONE_SIDED w ↦ rw (w.r-is, w.mem-is) w.enter_two_sided-r.ensures
    ])
    refl
    _
    (settled_none c.if-p-eq-ONE_SIDED.r c.if-is_none.ensures c.cut.ensures)

pub returns-else-is_none : goal.returns-else-is_none
returns-else-is_none c =
    settled_asked c.requires c.if-p-eq-ONE_SIDED.r c.if-p-eq-ONE_SIDED.mem
    (elim c.if-p-eq-ONE_SIDED.branch [
      | then-p-eq-ONE_SIDED w ↦ rw (w.r-is, w.mem-is) w.enter_one_sided-r.ensures
      | else-p-eq-ONE_SIDED w ↦ rw (w.r-is, w.mem-is) w.enter_two_sided-r.ensures
    ])
    refl
    _
    (settled_some _ _ c.if-p-eq-ONE_SIDED.r c.if-is_none.ensures)
