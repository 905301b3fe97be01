use Rattle.strict.specs.ZonesLaws.{stands_in}
use mathlib.Core.Path.{refl}
use Rattle.strict.proofs.stands_in.Goals as goal

pub returns : goal.returns
returns c = stands_in _ _ _ c.times.ensures refl refl
