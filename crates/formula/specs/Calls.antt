-- What the calls on one formula promise, on any bytes: the answer, and every byte of the output buffer. Both are functions of what went in, so no second answer or buffer meets a promise. Assumes nothing.
use Rattle.std.specs.Prelude.{◌≡◌, true, false, List, ◌++◌, ℕ, leb, length, drop}
use Rattle.logic.specs.Formula.{Formula, is_positive}
use Rattle.wire.specs.Read as wire
use Rattle.formula.specs.Answers.{coded}
use Rattle.formula.specs.declared.Refusal.TheVariants.{OutputShort}
use Rattle.formula.specs.declared.Refusal.{Refusal}
use Rattle.std.specs.Prelude.{Bool, Result, Ok, Err}

-- the text of the formula that was read, from the front of the output buffer; 10 where it is longer
unfoldable pub written : (text : Formula → List ℕ) → wire.Read Formula → (out : List ℕ) → Result ℕ Refusal
written text (wire.got f rest) out = elim (leb (length (text f)) (length out)) [ true ↦ Ok (length (text f)) | false ↦ Err OutputShort ]
written text (wire.refused k) out = Err (coded k)

unfoldable pub left_in : (text : Formula → List ℕ) → wire.Read Formula → (out : List ℕ) → List ℕ
left_in text (wire.got f rest) out = elim (leb (length (text f)) (length out)) [ true ↦ text f ++ drop (length (text f)) out | false ↦ out ]
left_in text (wire.refused k) out = out

pub record Writes (text : Formula → List ℕ) (s out : List ℕ) (r : Result ℕ Refusal) (last : List ℕ) : Type 0 where
  pub answer : r ≡ written text (wire.read_one s) out
  pub buffer : last ≡ left_in text (wire.read_one s) out

-- whether the formula that was read is positive
unfoldable pub positive : wire.Read Formula → Result Bool Refusal
positive (wire.got f rest) = Ok (is_positive f)
positive (wire.refused k) = Err (coded k)
