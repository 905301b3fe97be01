use native.Mathlib.Omega.{arith}
use borrow.Author.Rules.{rules}
use Rattle.tree.specs.ReadingLaws.{first_zone_refused, first_zone, second_zone_refused, counts_small, sequent_too_many, sequent_read}
use Rattle.tree.proofs.read_sequent.Goals as goal

pub returns-in_err-linear : goal.returns-in_err-linear
returns-in_err-linear c = let h = first_zone_refused c.args.s.now c.args.at c.requires c.read_zone.ensures c.in_err-linear.was in search rules

pub read_zone-requires-2 : goal.read_zone-requires-2
read_zone-requires-2 c = (first_zone c.args.s.now c.args.at c.requires c.read_zone.ensures c.in_ok-linear.was).inside

pub returns-in_err-unrestricted : goal.returns-in_err-unrestricted
returns-in_err-unrestricted c = let h = second_zone_refused c.args.s.now c.args.at c.requires c.read_zone.ensures c.in_ok-linear.was c.read_zone-2.ensures c.in_err-unrestricted.was in search rules

pub overflow_add-linear : goal.overflow_add-linear
overflow_add-linear c = let small = counts_small c.args.s.now c.args.at c.requires c.read_zone.ensures c.in_ok-linear.was c.read_zone-2.ensures c.in_ok-unrestricted.was in omega (arith, c.well_formed.0)

pub returns-then-linear-unrestricted-gt-MOST_FORMULAS : goal.returns-then-linear-unrestricted-gt-MOST_FORMULAS
returns-then-linear-unrestricted-gt-MOST_FORMULAS c = sequent_too_many c.args.s.now c.args.at c.requires c.read_zone.ensures c.in_ok-linear.was c.read_zone-2.ensures c.in_ok-unrestricted.was c.if-linear-unrestricted-gt-MOST_FORMULAS.true

pub returns : goal.returns
returns c = sequent_read c.args.s.now c.args.at c.requires c.read_zone.ensures c.in_ok-linear.was c.read_zone-2.ensures c.in_ok-unrestricted.was c.if-linear-unrestricted-gt-MOST_FORMULAS.false
