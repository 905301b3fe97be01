use Rattle.std.proofs.Common.{rules}
use Rattle.formula.specs.ReadingLaws.{whole_refused, whole_read, whole_left}
use Rattle.formula.proofs.read_one.Goals as goal

pub returns-in_err-next : goal.returns-in_err-next
returns-in_err-next c = let h = whole_refused c.args.s.now c.read_formula.ensures c.in_err-next.was in search rules

pub returns-then-next-s : goal.returns-then-next-s
returns-then-next-s c = whole_read c.args.s.now c.read_formula.ensures (record { byte = λ k. (c.type_inv.s k).fits }) c.in_ok-next.was c.if-next-s.true

pub returns-else-next-s : goal.returns-else-next-s
returns-else-next-s c = whole_left c.args.s.now c.read_formula.ensures (record { byte = λ k. (c.type_inv.s k).fits }) c.in_ok-next.was c.if-next-s.false
