use mathlib.Core.Path.{◌∙◌, ap}
use mir.Val.{bool_byte}
use Rattle.bags.specs.ComparedLaws.{once_told}
use Rattle.bags.proofs.once.Goals as goal

pub returns : goal.returns
returns c = once_told _ _ _ c.compare.ensures (c.from.ensures ∙ ap bool_byte c.is_some.ensures)
