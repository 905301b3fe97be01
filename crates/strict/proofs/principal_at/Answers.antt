use Rattle.strict.specs.ZonesLaws.{principal_at}
use mathlib.Core.Path.{refl}
use Rattle.strict.proofs.principal_at.Goals as goal

pub returns : goal.returns
returns c = principal_at _ _ _ c.requires.0 c.requires.1 _ c.byte_at-tag.ensures c.after-next.ensures c.part_end-middle.ensures c.sign.ensures refl refl refl refl refl c.part_how.ensures refl refl refl
