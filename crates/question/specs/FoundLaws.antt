-- Where the parts of a question stand in its bytes: what `read_question` answers says of them. Assumes nothing.
use Rattle.std.proofs.Math.Path.{◌≡◌, sym, subst}
use Rattle.std.specs.Prelude.{refl, ℕ, ◌+◌, Ok}
use Rattle.std.proofs.Common.{ap, ◌∙◌, arith, length-append, take_at, drop_at}
use mathlib.Core.List.{List, [], ◌∷◌, ◌++◌, append-nil, append_assoc}
use Rattle.std.proofs.Math.ListN.{length}
use Rattle.std.proofs.Math.Seq.{slice, take-append-add}
use Rattle.logic.specs.Sequent.{Question, one_sided, two_sided}
use Rattle.wire.specs.Write.{two_bytes, write_formulas, write_zone, message, write_body, write_question}
use Rattle.wire.specs.Read.{Read, got, refused, read_question}
use Rattle.wire.specs.Fits.{Bytes, first_zone, second_zone}
use Rattle.wire.proofs.ZoneBytes.{read_write_all}
use Rattle.wire.proofs.QuestionBytes.{write_read_question}
use Rattle.question.specs.declared.Places.{Places}
use Rattle.question.specs.Answers.{kind_of, zone_size, places_of, answered}
use Rattle.question.specs.Found.{Found}

-- ---- a question's bytes: six before the first formula, two between the zones

abbrev pub front : Question → List ℕ
front q = (1 ∷ two_bytes (length (write_body q))) ++ (kind_of q ∷ two_bytes (zone_size (first_zone q)))

pub laid_out : (q : Question) → write_question q ≡ front q ++ (write_formulas (first_zone q) ++ (two_bytes (zone_size (second_zone q)) ++ write_formulas (second_zone q)))
unfolding write_question message write_body write_zone kind_of
laid_out (one_sided Γ Θ) = refl
laid_out (two_sided Γ Δ) = refl

pub question_length : (q : Question) → length (write_question q) ≡ 8 + zone_size (first_zone q) + zone_size (second_zone q)
question_length q =
    ap length (laid_out q) ∙ omega (arith, length-append (write_formulas (first_zone q)) (two_bytes (zone_size (second_zone q)) ++ write_formulas (second_zone q)))

pub body_length : (q : Question) → length (write_question q) ≡ 3 + length (write_body q)
unfolding write_question message
body_length q = omega arith

-- a part that stands behind so many bytes, with more behind it
part_cut : (a b c : List ℕ) (from to : ℕ) → from ≡ length a → to ≡ from + length b → slice from to (a ++ (b ++ c)) ≡ b
part_cut a b c from to e h =
    let place : to ≡ length a + length b = omega arith in
    rw (place, take-append-add a (b ++ c) (length b), take_at b c (length b) refl, drop_at a b from (sym e))

first_part : (q : Question) → slice 6 (6 + zone_size (first_zone q)) (write_question q) ≡ write_formulas (first_zone q)
first_part q =
    rw (laid_out q)
    (part_cut (front q) (write_formulas (first_zone q)) (two_bytes (zone_size (second_zone q)) ++ write_formulas (second_zone q)) 6 (6 + zone_size (first_zone q)) refl refl)

second_part : (q : Question) → slice (8 + zone_size (first_zone q)) (8 + zone_size (first_zone q) + zone_size (second_zone q)) (write_question q) ≡ write_formulas (second_zone q)
second_part q =
    let a = write_formulas (first_zone q) in
    let b = two_bytes (zone_size (second_zone q)) in
    let c = write_formulas (second_zone q) in
    let joined : write_question q ≡ (front q ++ (a ++ b)) ++ (c ++ []) = laid_out q ∙ rw (append_assoc (front q) (a ++ b) (c ++ []), append_assoc a b (c ++ []), append-nil c) in
    rw joined (part_cut (front q ++ (a ++ b)) c [] (8 + length a) (8 + length a + length c) (omega (arith, length-append a b)) refl)

-- ---- what was found

module _ (s : List ℕ) (bytes : Bytes s) where
  -- the places of the question that was read
  pub found_at : (q : Question) → read_question s ≡ got q [] → Found s (places_of q) q
  unfolding places_of
  found_at q e =
      let back = write_read_question s q [] bytes e in
      let same = back.bytes_are in
      let long : length s ≡ 8 + zone_size (first_zone q) + zone_size (second_zone q) = sym (ap length same) ∙ question_length q in
      let first : slice 6 (6 + zone_size (first_zone q)) s ≡ write_formulas (first_zone q) = subst (λ (l : List ℕ). slice 6 (6 + zone_size (first_zone q)) l ≡ write_formulas (first_zone q)) same (first_part q) in
      let second : slice (8 + zone_size (first_zone q)) (8 + zone_size (first_zone q) + zone_size (second_zone q)) s ≡ write_formulas (second_zone q) =
      subst (λ (l : List ℕ). slice (8 + zone_size (first_zone q)) (8 + zone_size (first_zone q) + zone_size (second_zone q)) l ≡ write_formulas (second_zone q)) same (second_part q)
      in
      record {
        read = e;
        bytes_are = same;
        fits = back.fits;
        kind_is = refl;
        first_cut = record { inside = omega arith; sized = refl; bytes_are = first; read = rw first (read_write_all (first_zone q) back.fits.zones_fit.first_fits.formulas_fit) };
        second_cut = record { inside = omega arith; sized = refl; bytes_are = second; read = rw second (read_write_all (second_zone q) back.fits.zones_fit.second_fits.formulas_fit) };
        starts = refl;
        behind = omega arith;
        ended = sym long;
        first_many = refl;
        second_many = refl;
        few = back.fits.zones_fit.few_formulas;
      }

  found_got : {p : Places} (m : Read Question) → read_question s ≡ m → Ok p ≡ answered m → (q : Question) × Found s p q
  unfolding answered
  found_got {p} (got q rest) e h =
      let none : rest ≡ [] = (write_read_question s q rest bytes e).none_left in
      let same : places_of q ≡ p = cc in
      (q, subst (λ (x : Places). Found s x q) same (found_at q (e ∙ rw none)))
  found_got (refused k) e h = let z : ◌≡◌ {A = ℕ} 0 1 = cc in absurd (omega arith)

  -- from the answer of `read_question`
  pub found : {p : Places} → Ok p ≡ answered (read_question s) → (q : Question) × Found s p q
  found h = found_got (read_question s) refl h
