use native.Mathlib.Omega.{arith}
use Rattle.grow.specs.GrowingLaws.{node_read}
use Rattle.grow.proofs.node_at.Goals as goal

pub returns : goal.returns
returns c = node_read
    c.byte_at-number.ensures
    (c.from.ensures, omega arith)
    c.byte_at.ensures
    (c.from-2.ensures, omega arith)
    c.mask_at.ensures
    c.node_length.ensures
    c.after.ensures
