use Rattle.shown.specs.MatchingLaws.{one_falls, two_fall, part_compares, next_inside, match_told, match_one, match_left, match_two}
use native.Mathlib.Omega.{arith}
use Rattle.shown.proofs.+matches.Goals as goal

pub matches-requires : goal.matches-requires
matches-requires t c = (omega (arith, c.decreases, c.field-a.ensures.value, one_falls c.match_tops.ensures c.in-One.is), part_compares c.requires c.field-a.ensures (one_falls c.match_tops.ensures c.in-One.is) (omega (arith, c.after.ensures)))

pub matches-requires-in-Two : goal.matches-requires-in-Two
matches-requires-in-Two t c = (omega (arith, c.decreases, c.field-a-in-Two.ensures.value, (two_fall c.match_tops.ensures c.in-Two.is).0), part_compares c.requires c.field-a-in-Two.ensures (two_fall c.match_tops.ensures c.in-Two.is).0 (omega (arith, c.after-in-Two.ensures)))

pub returns-in_err-next-in-Two : goal.returns-in_err-next-in-Two
returns-in_err-next-in-Two t c = rw c.from_residual.ensures (rw c.in_err-next-in-Two.was at (match_left c.match_tops.ensures c.field-tag-in-Two.ensures c.field-a-in-Two.ensures c.left_how-in-Two.ensures c.after-in-Two.ensures c.matches-in-Two.ensures c.in-Two.is c.in_err-next-in-Two.was))

pub matches-requires-in-Two-2 : goal.matches-requires-in-Two-2
matches-requires-in-Two-2 t c = (omega (arith, c.decreases, c.field-b.ensures.value, (two_fall c.match_tops.ensures c.in-Two.is).1), part_compares c.requires c.field-b.ensures (two_fall c.match_tops.ensures c.in-Two.is).1 (next_inside c.matches-in-Two.ensures c.in_ok-next-in-Two.was))

pub returns-in-Told : goal.returns-in-Told
returns-in-Told t c = match_told c.match_tops.ensures c.in-Told.is

pub returns-in-One : goal.returns-in-One
returns-in-One t c = match_one c.match_tops.ensures c.field-tag.ensures c.field-a.ensures c.left_how.ensures c.after.ensures c.matches.ensures c.in-One.is

pub returns-in_ok-next-in-Two : goal.returns-in_ok-next-in-Two
returns-in_ok-next-in-Two t c = match_two c.match_tops.ensures c.field-tag-in-Two.ensures c.field-a-in-Two.ensures c.left_how-in-Two.ensures c.after-in-Two.ensures c.matches-in-Two.ensures c.in-Two.is c.in_ok-next-in-Two.was c.field-b.ensures c.right_how.ensures c.matches-in-Two-2.ensures
