use native.Mathlib.Omega.{arith}
use Rattle.std.proofs.Common.{rules}
use Rattle.question.specs.ZonesLaws.{counts_small, zones_first, zones_second, zones_overfull, zones_whole}
use Rattle.question.proofs.read_zones.Goals as goal

pub returns-in_err-first_count : goal.returns-in_err-first_count
returns-in_err-first_count c = let h = zones_first c.args.s.now (record { byte = λ k. (c.type_inv.s k).fits }) c.args.kind c.args.middle c.requires.0 c.requires.1 c.read_formulas.ensures c.in_err-first_count.was in search rules

pub returns-in_err-second_count : goal.returns-in_err-second_count
returns-in_err-second_count c = let h = zones_second c.args.s.now (record { byte = λ k. (c.type_inv.s k).fits }) c.args.kind c.args.middle c.requires.0 c.requires.1 c.read_formulas.ensures c.in_ok-first_count.was c.read_formulas-2.ensures c.in_err-second_count.was in search rules

pub overflow_add-first_count : goal.overflow_add-first_count
overflow_add-first_count c = omega (arith, counts_small c.args.s.now (record { byte = λ k. (c.type_inv.s k).fits }) _ _ c.requires.0 c.requires.1 c.read_formulas.ensures c.in_ok-first_count.was c.read_formulas-2.ensures c.in_ok-second_count.was, c.well_formed)

pub returns-then-first_count-second_count-gt-MOST_FORMULAS : goal.returns-then-first_count-second_count-gt-MOST_FORMULAS
returns-then-first_count-second_count-gt-MOST_FORMULAS c = zones_overfull c.args.s.now (record { byte = λ k. (c.type_inv.s k).fits }) _ _ c.requires.0 c.requires.1 c.read_formulas.ensures c.in_ok-first_count.was c.read_formulas-2.ensures c.in_ok-second_count.was c.if-first_count-second_count-gt-MOST_FORMULAS.true

pub returns : goal.returns
returns c = zones_whole c.args.s.now (record { byte = λ k. (c.type_inv.s k).fits }) _ _ c.requires.0 c.requires.1 c.read_formulas.ensures c.in_ok-first_count.was c.read_formulas-2.ensures c.in_ok-second_count.was c.if-first_count-second_count-gt-MOST_FORMULAS.false
