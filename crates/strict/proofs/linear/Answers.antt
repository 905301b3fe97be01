use Rattle.strict.specs.ZonesLaws.{linear_run}
use mathlib.Core.Path.{refl}
use Rattle.strict.proofs.linear.Goals as goal

pub returns : goal.returns
returns c = linear_run _ refl refl refl
