-- Laws of reading a question in the code's steps: what each test of the code says of what is read. Assumes nothing.
use Rattle.std.specs.Prelude.{◌≡◌, List, [], ◌∷◌, eqb, take, drop, get_or, Err, Ok, Result}
use Rattle.std.proofs.Math.Path.{refl}
use Rattle.std.proofs.Common.{sym, ◌∙◌, drop_at, take-add, length-take-le}
use Rattle.std.proofs.Math.Logic.{inl, inr}
use Prim.Native.Nat.{ℕ, zero, suc, ◌+◌, ◌-◌, ◌*◌, ◌≤◌, ◌<◌}
use native.Mathlib.Omega.{arith}
use borrow.Author.Tests.{le-leb, lt-leb, eq-eqb, ne_eqb}
use Rattle.std.proofs.Math.ListN.{length, length-drop, drop_of_length-le}
use Rattle.std.proofs.Math.Seq.{slice, drop-cons, drop-drop, drop-length}
use Rattle.logic.specs.Formula.{Formula}
use Rattle.logic.specs.Sequent.{Question}
use Rattle.logic.specs.Answer.{Refusal, wrong_number, wrong_length}
use Rattle.wire.specs.Read.{Read, got, refused, ◌then◌, unless, entry, read_byte, read_two, read_bytes, zone_bytes, at_end, read_message, kinds, read_question}
use Rattle.tree.specs.ReadingLaws.{two_read}
use Rattle.formula.specs.declared.Refusal as refusal
use Rattle.formula.specs.declared.Refusal.TheVariants.{WrongNumber, WrongLength}
use Rattle.question.specs.Stages.{make_of, formulas_of, zones_of, kind_on, KindInside, KindRead, framed, FrameInside, ZoneEnd, ends_on, EndsInside, EndsRead}

-- the number of two bytes at a place
abbrev pub two_at : List ℕ → ℕ → ℕ
two_at s at = get_or s at 0 * 256 + get_or s (at + 1) 0

read_two_none : (bs : List ℕ) → length bs < 2 → read_two bs ≡ refused wrong_length
unfolding read_two read_byte ◌then◌
read_two_none [] h = refl
read_two_none (b ∷ []) h = refl
read_two_none (b ∷ b₂ ∷ bs) h = absurd (omega arith)

-- ---- a message: fewer than three bytes, version, length

module _ (s : List ℕ) where
  pub message_short : length s < 3 → read_message s ≡ refused wrong_length
  unfolding read_message
  message_short h = rw (lt-leb 3 (length s) h)

  module _ (long : 3 ≤ length s) where
    version_first : read_message s ≡ unless (eqb (get_or s 0 0) 1) wrong_number (read_two (drop 1 s) then λ n body. unless (eqb (length body) n) wrong_length (got body []))
    unfolding read_message read_byte ◌then◌
    version_first = rw (le-leb 3 (length s) long, drop-cons s 0 0 (omega arith))

    pub message_version : (get_or s 0 0 ≡ 1 → ⊥) → read_message s ≡ refused wrong_number
    message_version h = version_first ∙ rw (ne_eqb (get_or s 0 0) 1 h)

    module _ (version : get_or s 0 0 ≡ 1) where
      then_length : read_message s ≡ unless (eqb (length (drop 3 s)) (two_at s 1)) wrong_length (got (drop 3 s) [])
      unfolding ◌then◌
      then_length = version_first ∙ rw (eq-eqb (get_or s 0 0) 1 version, two_read s 1 long)

      pub message_length : (length s - 3 ≡ two_at s 1 → ⊥) → read_message s ≡ refused wrong_length
      message_length h = then_length ∙ rw (length-drop 3 s, ne_eqb (length s - 3) (two_at s 1) h)

      pub message_body : length s - 3 ≡ two_at s 1 → read_message s ≡ got (drop 3 s) []
      message_body h = then_length ∙ rw (length-drop 3 s, eq-eqb (length s - 3) (two_at s 1) h)

-- ---- the kind

module _ (s : List ℕ) where
  -- document 01's order up to the body, by the tests of the code
  pub kind_short : length s < 3 → KindRead s (Err WrongLength)
  unfolding read_question ◌then◌ kind_on KindInside
  kind_short h = record { right = rw (message_short s h); inside = tt }

  pub kind_version : 3 ≤ length s → (get_or s 0 0 ≡ 1 → ⊥) → KindRead s (Err WrongNumber)
  unfolding read_question ◌then◌ kind_on KindInside
  kind_version long h = record { right = rw (message_version s long h); inside = tt }

  module _ (long : 3 ≤ length s) (version : get_or s 0 0 ≡ 1) where
    pub kind_length : (length s - 3 ≡ two_at s 1 → ⊥) → KindRead s (Err WrongLength)
    unfolding read_question ◌then◌ kind_on KindInside
    kind_length h = record { right = rw (message_length s long version h); inside = tt }

    module _ (agrees : length s - 3 ≡ two_at s 1) where
      pub kind_none : length s ≡ 3 → KindRead s (Err WrongLength)
      unfolding read_question ◌then◌ kind_on KindInside read_byte
      kind_none h = record { right = rw (message_body s long version agrees, drop_of_length-le s {i = 3} (omega arith)); inside = tt }

      module _ (more : length s ≡ 3 → ⊥) where
        by_kind : read_question s ≡ entry kinds (get_or s 3 0) wrong_number λ kind. kind then λ make _. zones_of make (drop 4 s)
        unfolding read_question ◌then◌ read_byte zones_of formulas_of
        by_kind = rw (message_body s long version agrees, drop-cons s 3 0 (omega arith))

        pub kind_one : get_or s 3 0 ≡ 1 → KindRead s (Ok (get_or s 3 0))
        unfolding entry ◌then◌ kind_on make_of KindInside
        kind_one h = record { right = by_kind ∙ rw h; inside = (omega arith, inl h) }

        pub kind_two : get_or s 3 0 ≡ 2 → KindRead s (Ok (get_or s 3 0))
        unfolding entry ◌then◌ kind_on make_of KindInside
        kind_two h = record { right = by_kind ∙ rw h; inside = (omega arith, inr h) }

        unknown : (k : ℕ) (f : Read (List Formula → List Formula → Question) → Read Question) → ((k : Refusal) → f (refused k) ≡ refused k) → (k ≡ 1 → ⊥) → (k ≡ 2 → ⊥) → entry kinds k wrong_number f ≡ refused wrong_number
        unfolding entry
        unknown zero f e h₁ h₂ = e wrong_number
        unknown (suc zero) f e h₁ h₂ = absurd (h₁ refl)
        unknown (suc (suc zero)) f e h₁ h₂ = absurd (h₂ refl)
        unknown (suc (suc (suc k))) f e h₁ h₂ = refl

        pub kind_unknown : (get_or s 3 0 ≡ 1 → ⊥) → (get_or s 3 0 ≡ 2 → ⊥) → KindRead s (Err WrongNumber)
        unfolding ◌then◌ kind_on KindInside
        kind_unknown h₁ h₂ = record { right = by_kind ∙ unknown (get_or s 3 0) _ (λ k. refl) h₁ h₂; inside = tt }

-- ---- a zone's end

slice_add : (at n : ℕ) (l : List ℕ) → at ≤ length l → take n (drop at l) ≡ slice at (at + n) l
slice_add at n l h = sym (rw (take-add at n l, drop_at (take at l) (take n (drop at l)) at (length-take-le at l h)))

module _ (s : List ℕ) (at : ℕ) (inside : at ≤ length s) where
  pub end_none : length s - at < 2 → ZoneEnd s at (Err WrongLength)
  unfolding zone_bytes ◌then◌ framed FrameInside
  end_none h = record { right = rw (read_two_none (drop at s) (omega (arith, length-drop at s))); inside = tt }

  module _ (long : 2 ≤ length s - at) where
    by_length : zone_bytes (drop at s) ≡ read_bytes (two_at s at) (drop (at + 2) s)
    unfolding zone_bytes ◌then◌
    by_length = rw (two_read s at (omega arith))

    pub end_short : length s - (at + 2) < two_at s at → ZoneEnd s at (Err WrongLength)
    unfolding read_bytes framed FrameInside
    end_short h = record { right = by_length ∙ rw (length-drop (at + 2) s, lt-leb (two_at s at) (length s - (at + 2)) h); inside = tt }

    pub end_at : two_at s at ≤ length s - (at + 2) → ZoneEnd s at (Ok (at + 2 + two_at s at))
    unfolding read_bytes framed FrameInside
    end_at h =
        record {
          right = by_length ∙ rw (length-drop (at + 2) s, le-leb (two_at s at) (length s - (at + 2)) h, drop-drop (two_at s at) (at + 2) s, slice_add (at + 2) (two_at s at) s (omega arith));
          inside = (omega arith, omega arith);
        }

-- ---- both zones' ends

module _ (s : List ℕ) where
  pub ends_first : {r : Result ℕ refusal.Refusal} {k : refusal.Refusal} → ZoneEnd s 4 r → r ≡ Err k → EndsRead s r
  unfolding zones_of ◌then◌ framed ends_on EndsInside
  ends_first z e = record { right = λ make. rw (e, z.right, e); inside = rw e tt }

  module _ {r : Result ℕ refusal.Refusal} {middle : ℕ} (first : ZoneEnd s 4 r) (here : r ≡ Ok middle) where
    pub middle_inside : (6 ≤ middle) × (middle ≤ length s)
    unfolding FrameInside
    middle_inside = rw here at first.inside

    behind_first : (make : List Formula → List Formula → Question) → zones_of make (drop 4 s) ≡ zone_bytes (drop middle s) then λ second bs. at_end second bs then λ second _. formulas_of make (slice 6 middle s) second
    unfolding zones_of ◌then◌ framed
    behind_first make = rw (first.right, here)

    pub ends_second : {x : Result ℕ refusal.Refusal} {k : refusal.Refusal} → ZoneEnd s middle x → x ≡ Err k → EndsRead s x
    unfolding ◌then◌ framed ends_on EndsInside
    ends_second z e = record { right = λ make. behind_first make ∙ rw (e, z.right, e); inside = rw e tt }

    module _ {x : Result ℕ refusal.Refusal} {end : ℕ} (second : ZoneEnd s middle x) (there : x ≡ Ok end) where
      end_inside : (middle + 2 ≤ end) × (end ≤ length s)
      unfolding FrameInside
      end_inside = rw there at second.inside

      behind_second : (make : List Formula → List Formula → Question) → zones_of make (drop 4 s) ≡ at_end (slice (middle + 2) end s) (drop end s) then λ second _. formulas_of make (slice 6 middle s) second
      unfolding ◌then◌ framed
      behind_second make = behind_first make ∙ rw (second.right, there)

      pub ends_left_over : end < length s → EndsRead s (Err WrongLength)
      unfolding ◌then◌ at_end ends_on EndsInside
      ends_left_over h = record { right = λ make. behind_second make ∙ rw (drop-cons s end 0 h); inside = tt }

      pub ends_all : length s ≤ end → EndsRead s (Ok middle)
      unfolding ◌then◌ at_end ends_on EndsInside
      ends_all h =
          let whole : end ≡ length s = omega (arith, end_inside) in
          record {
            right = λ make. behind_second make ∙ rw (whole, drop-length s);
            inside = (omega (arith, middle_inside), omega (arith, end_inside));
          }
