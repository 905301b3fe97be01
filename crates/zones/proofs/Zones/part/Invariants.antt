use mathlib.Core.Path.{◌≡◌}
use Rattle.zones.proofs.Steps.{Keeping}
use Rattle.zones.proofs.Zones.part.Given as goal

abbrev pub invariant-loop-k : goal.invariant-loop-k
invariant-loop-k l = Keeping l.side l.i l.initial.mask l.initial.self.linear l.initial.self.linear_len l.self.linear l.mask l.to l.k × ((l.self.unrestricted ≡ l.initial.self.unrestricted) × (l.self.unrestricted_len ≡ l.initial.self.unrestricted_len))
