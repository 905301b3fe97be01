use native.Mathlib.Omega.{arith}
use borrow.Author.Rules.{rules}
use Rattle.tree.specs.ReadingLaws.{head_rule_refused, rule_landed, head_sequent_refused, sequent_landed, head_short, head_read}
use Rattle.tree.proofs.read_head.Goals as goal

pub returns-in_err-zones : goal.returns-in_err-zones
returns-in_err-zones c = let h = head_rule_refused c.args.s.now c.args.at (omega (arith, c.requires)) c.read_rule.ensures c.in_err-zones.was in search rules

pub read_sequent-requires : goal.read_sequent-requires
read_sequent-requires c = (rule_landed c.args.s.now c.args.at (omega (arith, c.requires)) c.read_rule.ensures c.in_ok-zones.was).inside

pub returns-in_err-last : goal.returns-in_err-last
returns-in_err-last c = let h = head_sequent_refused c.args.s.now c.args.at (omega (arith, c.requires)) c.read_rule.ensures c.in_ok-zones.was c.read_sequent.ensures c.in_err-last.was in search rules

pub returns-then-last-s : goal.returns-then-last-s
returns-then-last-s c = head_short c.args.s.now c.args.at (omega (arith, c.requires)) c.read_rule.ensures c.in_ok-zones.was c.read_sequent.ensures c.in_ok-last.was c.if-last-s.true

pub bounds-s-last : goal.bounds-s-last
bounds-s-last c = let there = sequent_landed c.args.s.now c.args.at (omega (arith, c.requires)) c.read_rule.ensures c.in_ok-zones.was c.read_sequent.ensures c.in_ok-last.was in omega (arith, there.inside, c.if-last-s.false)

pub overflow_add-result : goal.overflow_add-result
overflow_add-result c = let there = sequent_landed c.args.s.now c.args.at (omega (arith, c.requires)) c.read_rule.ensures c.in_ok-zones.was c.read_sequent.ensures c.in_ok-last.was in omega (arith, there.inside, c.if-last-s.false, c.well_formed.0)

pub returns : goal.returns
returns c = let there = sequent_landed c.args.s.now c.args.at (omega (arith, c.requires)) c.read_rule.ensures c.in_ok-zones.was c.read_sequent.ensures c.in_ok-last.was in head_read c.args.s.now c.args.at (omega (arith, c.requires)) c.read_rule.ensures c.in_ok-zones.was c.read_sequent.ensures c.in_ok-last.was (omega (arith, there.inside, c.if-last-s.false)) c.from.ensures
