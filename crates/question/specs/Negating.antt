-- Antecedents negated in their places: what is written for them, and what the loop over them has done in the middle. Assumes nothing.
use Rattle.std.specs.Prelude.{◌≡◌, List, [], ◌++◌, map, ℕ, ◌+◌, ◌≤◌, length}
use Rattle.std.proofs.Math.Seq.{slice}
use Rattle.std.proofs.lemmas.List.Edits.{sets}
use Rattle.logic.specs.Formula.{Formula, negate}
use Rattle.wire.specs.Write.{write_formulas}
use Rattle.wire.specs.Read.{Read, got, refused, read_all}
use Rattle.wire.specs.Fits.{FormulasFit}
use Rattle.question.specs.Answers.{zone_size}
use Rattle.question.specs.Zone.{Zone}

-- the formulas that were read, each negated
unfoldable pub negated : Read (List Formula) → List ℕ
negated (got fs rest) = write_formulas (map negate fs)
negated (refused k) = []

-- formulas stand there, and there is as much room for them
pub record Negatable (s : List ℕ) (at end : ℕ) (out : List ℕ) : Type 0 where
  pub ordered : at ≤ end
  pub inside : end ≤ length s
  pub zone : Zone s at end
  pub room : length s ≤ length out

-- the formulas from `at` to p are written negated into `out`, and those from p to `end` are left
pub record Negating (s : List ℕ) (at end : ℕ) (out : List ℕ) (p : ℕ) (last : List ℕ) : Type 0 where
  pub done : List Formula
  pub left : List Formula
  pub read : read_all (slice at end s) ≡ got (done ++ left) []
  pub here : p ≡ at + zone_size done
  pub within : p ≤ end
  pub ahead : slice p end s ≡ write_formulas left
  pub fit : FormulasFit left
  pub bytes : last ≡ sets out at (write_formulas (map negate done))
