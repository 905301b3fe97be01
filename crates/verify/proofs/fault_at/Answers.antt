use Rattle.std.proofs.Common.{rules, arith}
use Rattle.verify.specs.WalksLaws.{fault_first, fault_shape, fault_mismatch, fault_legal}
use Rattle.verify.proofs.fault_at.Goals as goal
use Rattle.verify.proofs.fault_at.Goals.{else-is_strict-via-then-is_strict+else-not-legal, else-is_strict-via-else-is_strict}

pub returns-then-is_some : goal.returns-then-is_some
returns-then-is_some c = fault_first c.shape_fault-fault.ensures _ λ e. grind arith

pub returns-then-not-legal : goal.returns-then-not-legal
returns-then-not-legal c = fault_mismatch c.shape_fault-fault.ensures (search rules) c.if-is_strict.true c.legal.ensures c.if-not-legal.true

pub returns : goal.returns
returns c = elim c.else-is_strict.branch [
  | else-is_strict-via-then-is_strict+else-not-legal w ↦ fault_legal c.shape_fault-fault.ensures (search rules) w.if-is_strict.true w.legal.ensures w.if-not-legal.false
  | else-is_strict-via-else-is_strict w ↦ fault_shape c.shape_fault-fault.ensures (search rules) w.if-is_strict.false
]
