use native.Mathlib.Omega.{arith}
use Rattle.grow.specs.GrowingLaws.{head_too_long, head_no_room, head_room, head_put}
use Rattle.grow.proofs.put_head.Goals as goal

pub returns-then-next-gt-LONGEST : goal.returns-then-next-gt-LONGEST
returns-then-next-gt-LONGEST c = head_too_long c.requires c.head_length.ensures _ c.if-next-gt-LONGEST.true

pub returns-then-out-next : goal.returns-then-out-next
returns-then-out-next c = head_no_room c.requires c.head_length.ensures _ (omega (arith, c.if-next-gt-LONGEST)) c.if-out-next.true

pub head_bytes-requires : goal.head_bytes-requires
head_bytes-requires c = head_room c.requires c.head_length.ensures (omega (arith, c.if-next-gt-LONGEST)) (omega (arith, c.if-out-next))

pub returns : goal.returns
returns c = head_put c.requires c.head_length.ensures (omega (arith, c.if-next-gt-LONGEST)) c.head_bytes.ensures
