-- The formulas of a zone, cut out of the bytes that it stands in. Assumes nothing.
use Rattle.std.specs.Prelude.{◌≡◌, List, [], ℕ, ◌-◌, length}
use Rattle.std.proofs.Math.Seq.{slice}
use Rattle.logic.specs.Formula.{Formula}
use Rattle.wire.specs.Read.{got, read_all}
use Rattle.wire.specs.Fits.{FormulasBack}
use Rattle.question.specs.Answers.{zone_size}

-- the bytes from `at` to `end` are whole formulas
pub record Zone (s : List ℕ) (at end : ℕ) : Type 0 where
  pub formulas : List Formula
  pub read : read_all (slice at end s) ≡ got formulas []
  pub back : FormulasBack (slice at end s) formulas []
  pub sized : zone_size formulas ≡ end - at

-- n of them
pub record ZoneOf (s : List ℕ) (at end n : ℕ) : Type 0 where
  pub zone : Zone s at end
  pub many : length zone.formulas ≡ n
