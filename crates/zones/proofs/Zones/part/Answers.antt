use mathlib.Core.Path.{◌∙◌}
use native.Mathlib.Omega.{arith}
use Rattle.zones.proofs.Steps.{as_byte, keeping_step, made_split}
use Rattle.zones.proofs.Zones.part.Goals as goal

pub loop-k-preserved : goal.loop-k-preserved
loop-k-preserved c = let p = c.loop-k.invariant in
    let f = c.requires in
    (rw (c.from-to.ensures ∙ as_byte _, c.from.ensures ∙ as_byte _) (keeping_step p.0 (omega arith) f.1 (omega arith)), p.1)

pub returns : goal.returns
returns c = let p = c.loop-k.invariant in
    let f = c.requires in
    made_split f.0 c.loop-k.self f.1 p.0 (omega arith) p.1.0 p.1.1
