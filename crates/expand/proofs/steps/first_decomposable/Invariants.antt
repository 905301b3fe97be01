use mathlib.Core.Path.{◌≡◌}
use mathlib.Core.Bool.{false}
use Prim.Native.Nat.{ℕ, ◌<◌}
use lib.ListN.{get_or}
use Rattle.logic.specs.Built.{decomposable}
use Rattle.held.specs.Words.{told}
use Rattle.expand.proofs.steps.first_decomposable.Given as goal

abbrev pub invariant-loop-i : goal.invariant-loop-i
invariant-loop-i l = (k : ℕ) → k < l.i → decomposable (told l.mem (get_or l.z.linear k 0)) ≡ false
