use native.Mathlib.Omega.{arith}
use borrow.Author.Rules.{rules}
use Rattle.tree.specs.ReadingLaws.{zone_short, zone_cut, zone_formula_refused, zone_counted}
use Rattle.tree.proofs.read_zone.Goals as goal

pub returns-then-s-at-lt2 : goal.returns-then-s-at-lt2
returns-then-s-at-lt2 c = zone_short c.args.s.now c.args.at c.if-s-at-lt2.true

pub returns-then-s-from : goal.returns-then-s-from
returns-then-s-from c = zone_cut c.args.s.now c.args.at (omega (arith, c.if-s-at-lt2.false, c.requires)) c.two_at-length.ensures c.if-s-from.true

pub returns-in_err-count : goal.returns-in_err-count
returns-in_err-count c = let h = zone_formula_refused c.args.s.now c.args.at (omega (arith, c.if-s-at-lt2.false, c.requires)) c.two_at-length.ensures c.if-s-from.false c.read_formulas.ensures c.in_err-count.was in search rules

pub returns : goal.returns
returns c = zone_counted c.args.s.now c.args.at (omega (arith, c.if-s-at-lt2.false, c.requires)) c.two_at-length.ensures c.if-s-from.false c.read_formulas.ensures c.in_ok-count.was
