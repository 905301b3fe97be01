use native.Mathlib.Omega.{arith}
use Rattle.std.proofs.lemmas.Grind.{common_steps}
use Rattle.std.proofs.lemmas.Option.{gets}
use lib.ListN.{get_or-eq_default}
use Rattle.tree.proofs.byte_at.Goals as goal

pub returns : goal.returns
returns c = grind (arith, common_steps, gets, get_or-eq_default)
