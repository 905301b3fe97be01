use native.Mathlib.Omega.{arith}
use Rattle.print.specs.PrintingLaws.{part_copied, emit_no_more, emit_short, emit_written, emit_counted}
use Rattle.print.proofs.emit.Goals.{then-out-to-via-then-out-to, then-out-to-via-else-out-to+then-out-to-2}
use Rattle.print.proofs.emit.Goals as goal

pub returns-in_default : goal.returns-in_default
returns-in_default c = emit_no_more c.args.p c.args.text.now c.in_default.is

pub returns-then-out-to : goal.returns-then-out-to
returns-then-out-to c =
    emit_short {to = c.in-Some.to} _ _ c.in-Some.is (elim c.then-out-to.branch [ then-out-to-via-then-out-to w ↦ omega arith | then-out-to-via-else-out-to+then-out-to-2 w ↦ omega arith ])

pub returns-in-Write : goal.returns-in-Write
returns-in-Write c = emit_written _ _ c.in-Some.is (omega arith) c.in-Write.is (part_copied _ _ _ (omega arith) c.copy_from_slice.ensures.after)

pub returns-in_default-pass : goal.returns-in_default-pass
returns-in_default-pass c = emit_counted _ _ c.in-Some.is (omega arith) c.in_default-pass.is
