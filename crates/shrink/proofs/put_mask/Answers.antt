use Rattle.shrink.specs.ShrinkingLaws.{wrote_both}
use Rattle.shrink.proofs.put_mask.Goals as goal

pub returns : goal.returns
returns c = wrote_both c.two_bytes-low.ensures c.two_bytes.ensures
