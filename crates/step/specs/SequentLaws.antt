-- Laws of the sequent that zones mean over a memory: how long its zones are. Assumes nothing.
use Rattle.std.specs.Prelude.{◌≡◌, List, ℕ, length}
use Rattle.std.proofs.Common.{◌∙◌}
use Rattle.std.proofs.lemmas.List.{length-map}
use Rattle.held.specs.Words.{told}
use Rattle.zones.specs.declared.Zones.{Zones}
use Rattle.zones.specs.Zones.{linears, unrestricteds}
use Rattle.zones.specs.ZonesLaws.{linears_length, unrestricteds_length}
use Rattle.expand.specs.Writing.{Sound}
use Rattle.step.specs.Taking.{sequent}

module _ {m : List ℕ} {z : Zones} (s : Sound m z) where
  pub linear_length : length (sequent m z).linear ≡ z.linear_len
  linear_length = length-map (linears z) (told m) ∙ linears_length s.fits

  pub unrestricted_length : length (sequent m z).unrestricted ≡ z.unrestricted_len
  unrestricted_length = length-map (unrestricteds z) (told m) ∙ unrestricteds_length s.fits
