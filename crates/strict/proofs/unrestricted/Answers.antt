use Rattle.strict.specs.ZonesLaws.{unrestricted_run}
use mathlib.Core.Path.{refl}
use Rattle.strict.proofs.unrestricted.Goals as goal

pub returns : goal.returns
returns c = unrestricted_run _ refl refl refl
