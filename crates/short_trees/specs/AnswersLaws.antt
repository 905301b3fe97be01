-- Laws of what both calls answer to a result, over their form: a refusal and a mismatch leave the output as it is; a result is written where there is
-- room, version and length before its body. Assumes nothing.
use Rattle.std.specs.Prelude.{Ok, Err, ◌≡◌, refl, Bool, ℕ, ◌+◌, ◌≤◌, ◌<◌, leb, length, set}
use Rattle.std.proofs.Common.{sym, ◌∙◌, arith, leb-true, le-leb, length-set}
use Rattle.std.proofs.Math.Path.{ap}
use Rattle.std.proofs.Math.Bool.{true, false, and-eq-true_iff}
use mathlib.Core.List.{List, [], ◌∷◌, ◌++◌}
use Rattle.std.proofs.Math.ListN.{drop}
use Rattle.std.proofs.lemmas.List.Edits.{sets}
use Rattle.std.proofs.Math.Seq.{length-sets}
use Rattle.logic.specs.Formula.{Formula}
use Rattle.logic.specs.Answer as answer
use Rattle.wire.specs.Write.{two_bytes}
use Rattle.formula.specs.Answers.{coded}
use Rattle.formula.specs.declared.Refusal.TheVariants.{OutputShort}
use Rattle.question.proofs.TurningLaws.{front_stored}
use Rattle.expand.specs.Writing.{Wrote}
use Rattle.short.specs.Making.{Result, made, mismatch, refused}
use Rattle.short_trees.specs.Promise.{Form, writable, answered, output_after}
use Rattle.short_trees.specs.Steps.{DoneAs}
use Rattle.short_trees.specs.Promise.{Answer}
use Rattle.short_trees.specs.declared.Failure.TheVariants.{Mismatch, Refused}

module _ {A B : Type 0} (form : Form A B) {x : Result B × List Formula} (out : List ℕ) {fs : List Formula} (held : fs ≡ x.1) where
  pub done_refused : (k : answer.Refusal) → x.0 ≡ refused k → DoneAs form x out (Err (Refused (coded k))) fs out
  unfolding answered output_after
  done_refused k e = record { answer_is = rw e refl; output_is = rw e refl; held_is = held }

  pub done_mismatch : x.0 ≡ mismatch → DoneAs form x out (Err Mismatch) fs out
  unfolding answered output_after
  done_mismatch e = record { answer_is = rw e refl; output_is = rw e refl; held_is = held }

  module _ {b : B} (e : x.0 ≡ made b) where
    answered_as : {w : Bool} → writable form b out ≡ w
        → answered form x.0 out ≡ elim w as (λ _. Answer) [ true ↦ Ok (length (form.write b)) | false ↦ Err (Refused OutputShort) ]
    unfolding answered
    answered_as {w} h =
        ap (λ (y : Result B). answered form y out) e
        ∙ ap (λ (w : Bool). elim w as (λ _. Answer) [ true ↦ Ok (length (form.write b)) | false ↦ Err (Refused OutputShort) ]) h

    output_as : {w : Bool} → writable form b out ≡ w
        → output_after form x.0 out ≡ elim w as (λ _. List ℕ) [ true ↦ form.write b ++ drop (length (form.write b)) out | false ↦ out ]
    unfolding output_after
    output_as {w} h =
        ap (λ (y : Result B). output_after form y out) e
        ∙ ap (λ (w : Bool). elim w as (λ _. List ℕ) [ true ↦ form.write b ++ drop (length (form.write b)) out | false ↦ out ]) h

    -- its body is too long, or there is no room
    pub done_short : (length (form.body b) ≤ 65535 → length (form.write b) ≤ length out → ⊥) → DoneAs form x out (Err (Refused OutputShort)) fs out
    done_short h = go (writable form b out) refl
      where
        go : (w : Bool) → writable form b out ≡ w → DoneAs form x out (Err (Refused OutputShort)) fs out
        go true e =
            let both = (and-eq-true_iff (leb (length (form.body b)) 65535) (leb (length (form.write b)) (length out))).0 e in
            absurd (h (leb-true _ _ both.0) (leb-true _ _ both.1))
        go false e = record { answer_is = sym (answered_as e); output_is = sym (output_as e); held_is = held }

    -- it is written
    pub done_written : {out' : List ℕ} → length (form.body b) ≤ 65535 → length (form.write b) ≤ length out
        → out' ≡ form.write b ++ drop (length (form.write b)) out
        → DoneAs form x out (Ok (length (form.write b))) fs out'
    done_written short room h =
        let fits : writable form b out ≡ true = (and-eq-true_iff _ _).1 (le-leb (length (form.body b)) 65535 short, le-leb (length (form.write b)) (length out) room) in
        record { answer_is = sym (answered_as fits); output_is = h ∙ sym (output_as fits); held_is = held }

-- ---- a message: its version, its length, its body

-- a body of n bytes behind a version
abbrev pub message_of : (version : ℕ) (body : List ℕ) → List ℕ
message_of version body = version ∷ (two_bytes (length body) ++ body)

-- a walk over an empty part of the output writes nothing
pub unwritten : (part out : List ℕ) → length part ≡ 0 → part ++ out ≡ out
unwritten [] out e = refl
unwritten (b ∷ bs) out e = absurd (omega arith)

-- there is room for the version and the length
pub front_room : (version : ℕ) (out : List ℕ) {n : ℕ} → n ≤ 65535 → 3 ≤ length out → (n < 65536) × (1 + 2 ≤ length (set out 0 version))
front_room version out short room = (omega arith, omega (arith, length-set out 0 version))

-- the output is as long as it was
pub front_kept : (version : ℕ) (out : List ℕ) (n : ℕ) {out₁ : List ℕ} {next : ℕ} → Wrote (set out 0 version) 1 (two_bytes n) out₁ next → length out₁ ≡ length out
front_kept version out n front = ap length front.written ∙ length-sets (set out 0 version) 1 (two_bytes n) ∙ length-set out 0 version

pub message_stored : (version : ℕ) (out body : List ℕ) {n : ℕ} → n ≡ length body → 3 + length body ≤ length out → {out₁ : List ℕ} {next : ℕ}
    → Wrote (set out 0 version) 1 (two_bytes n) out₁ next → {out₂ : List ℕ} → out₂ ≡ sets out₁ 3 body
    → out₂ ≡ message_of version body ++ drop (length (message_of version body)) out
message_stored version out body sized room front {out₂} h =
    let stored : out₂ ≡ sets out 0 (message_of version body) = h ∙ rw (front.written, sized) refl in
    stored ∙ front_stored out (message_of version body) (omega arith)
