use mathlib.Core.Path.{sym, ◌∙◌}
use Rattle.std.proofs.Common.{rules}
use Rattle.formula.proofs.CallsLaws.{whole, whole_stands, judged, judged_refused}
use Rattle.formula.specs.SignsLaws.{starts_inside, tag_below}
use Rattle.formula.proofs.is_positive.Goals as goal

pub returns-in_err-read_one : goal.returns-in_err-read_one
returns-in_err-read_one c = let h = judged_refused _ (sym c.read_one.ensures ∙ c.in_err-read_one.was) in search rules

pub bounds-s-0 : goal.bounds-s-0
bounds-s-0 c = starts_inside c.args.s.now 0 _ (whole_stands (whole _ (record { byte = λ k. (c.type_inv.s k).fits }) (sym c.read_one.ensures ∙ c.in_ok-read_one.was)))

pub positive_tag-requires : goal.positive_tag-requires
positive_tag-requires c = tag_below c.args.s.now 0 _ (whole_stands (whole _ (record { byte = λ k. (c.type_inv.s k).fits }) (sym c.read_one.ensures ∙ c.in_ok-read_one.was)))

pub returns : goal.returns
returns c = judged (whole _ (record { byte = λ k. (c.type_inv.s k).fits }) (sym c.read_one.ensures ∙ c.in_ok-read_one.was)) c.positive_tag.ensures
