-- A text that was written lies within its buffer. Assumes nothing.
use Rattle.std.specs.Prelude.{Ok}
use Rattle.std.proofs.Common.{◌≡◌, refl, Bool, true, false, List, ◌++◌, ℕ, ◌≤◌, arith, length, length-append, drop}
use lib.Dec.{leb}
use Rattle.logic.specs.Formula.{Formula}
use Rattle.wire.specs.Read.{Read, got, refused, read_one}
use Rattle.formula.specs.Calls.{written, left_in, Writes}

module _ (text : Formula → List ℕ) (out last : List ℕ) (n : ℕ) where
  fitted : (f : Formula) (rest : List ℕ) (b : Bool) → leb (length (text f)) (length out) ≡ b → Ok n ≡ written text (got f rest) out → last ≡ left_in text (got f rest) out → n ≤ length last
  unfolding written left_in
  fitted f rest true fits answer buffer =
      let whole : last ≡ text f ++ drop (length (text f)) out = cc in
      let all : n ≡ length (text f) = cc in
      rw (whole, all, length-append (text f) (drop (length (text f)) out)) (omega arith)
  fitted f rest false fits answer buffer = let z : ◌≡◌ {A = ℕ} 0 1 = cc in absurd (omega arith)

  within_buffer : (m : Read Formula) → Ok n ≡ written text m out → last ≡ left_in text m out → n ≤ length last
  unfolding written left_in
  within_buffer (got f rest) answer buffer = fitted f rest (leb (length (text f)) (length out)) refl answer buffer
  within_buffer (refused k) answer buffer = let z : ◌≡◌ {A = ℕ} 0 1 = cc in absurd (omega arith)

pub written_within : {text : Formula → List ℕ} {s out last : List ℕ} {n : ℕ} → Writes text s out (Ok n) last → n ≤ length last
written_within {text} {s} {out} {last} {n} w = within_buffer text out last n (read_one s) w.answer w.buffer
