-- Laws of writing a question one-sided: the code's stores, one behind the other, are its bytes. Assumes nothing.
use Rattle.std.specs.Prelude.{◌≡◌, List, [], ◌++◌, map, ℕ, ◌+◌, ◌-◌, ◌/◌, ◌%◌, ◌≤◌, ◌<◌, take, set}
use Rattle.std.proofs.Math.Path.{refl, sym, ap}
use Rattle.std.proofs.Common.{◌∙◌, append-nil, append_assoc, arith, add-one, le-leb, length-append, length-drop, drop_of_length-le, take_all, drop-drop}
use Rattle.std.proofs.Math.ListN.{length, drop}
use Rattle.std.proofs.Math.Seq.{slice, sets, take-length}
use Rattle.std.proofs.lemmas.List.Edits.{sets-eq}
use Rattle.logic.specs.Formula.{Formula, negate}
use Rattle.logic.specs.Sequent.{Question, one_sided, two_sided, to_one_sided}
use Rattle.wire.specs.Write.{two_bytes, write_formulas, write_body, write_question}
use Rattle.wire.specs.Read.{got, read_all, read_question}
use Rattle.wire.specs.Fits.{Bytes}
use Rattle.formula.proofs.RewritingLaws.{sets_append}
use Rattle.question.specs.Answers.{kind_of, zone_size, places_of, turned, turned_bytes, left_in}
use Rattle.question.specs.Found.{Cut, Found}
use Rattle.question.specs.FoundLaws.{laid_out, question_length, body_length, found_at}
use Rattle.question.specs.Negating.{negated, Negatable}
use Rattle.wire.proofs.ZoneBytes.{write_formulas_append}
use Rattle.question.proofs.NegatingLaws.{negate_zone_size}
use Rattle.question.specs.Turning.{head_of, TwoSided}

pub two_stored : (out : List ℕ) (at n : ℕ) {h l : ℕ} → h ≡ n / 256 → l ≡ n % 256 → set (set out at h) (at + 1) l ≡ sets out at (two_bytes n)
two_stored out at n p q = rw (p, q, add-one at)

pub head_stored : (out : List ℕ) (n : ℕ) {mid last : List ℕ} → mid ≡ sets (set out 0 1) 1 (two_bytes (n - 3)) → last ≡ sets (set mid 3 1) 4 (two_bytes (n - 8))
    → last ≡ sets out 0 (head_of n)
unfolding head_of
head_stored out n p q = q ∙ rw p

-- a part of a buffer, with the tail of s copied into its front, in its place
pub tail_stored : (s out : List ℕ) (from at : ℕ) {part : List ℕ} → from ≤ length s → at + (length s - from) ≤ length out
    → (let src = take (length s - from) (drop from s) in part ≡ take (length src) src ++ drop (length src) (take (length out - at) (drop at out)))
    → take at out ++ (part ++ drop (length out - at) (drop at out)) ≡ sets out at (drop from s)
tail_stored s out from at {part} inside room e =
    let src : take (length s - from) (drop from s) ≡ drop from s = take_all (length s - from) (drop from s) (omega (arith, length-drop from s)) in
    let dst : take (length out - at) (drop at out) ≡ drop at out = take_all (length out - at) (drop at out) (omega (arith, length-drop at out)) in
    let none : drop (length out - at) (drop at out) ≡ [] = drop_of_length-le (drop at out) {i = length out - at} (omega (arith, length-drop at out)) in
    let stored : part ≡ drop from s ++ drop (at + length (drop from s)) out = e ∙ rw (src, dst, take-length (drop from s), drop-drop (length (drop from s)) at out) in
    rw (none, append-nil part, stored, sets-eq (drop from s) out at (omega (arith, length-drop from s)), append_assoc)

-- stores from the front on are the buffer's front
pub front_stored : (out bs : List ℕ) → length bs ≤ length out → sets out 0 bs ≡ bs ++ drop (length bs) out
front_stored out bs h = let e : 0 + length bs ≡ length bs = omega arith in sets-eq bs out 0 (omega arith) ∙ rw e

-- four stores, one behind the other
in_turn : (out A B C D : List ℕ) {i j k : ℕ} {a b c d : List ℕ} → i ≡ 0 + length A → j ≡ i + length B → k ≡ j + length C
    → a ≡ sets out 0 A → b ≡ sets a i B → c ≡ sets b j C → d ≡ sets c k D → d ≡ sets out 0 (A ++ (B ++ (C ++ D)))
in_turn out A B C D ei ej ek ea eb ec ed =
    ed
    ∙ rw (ec, eb, ea, ek, ej, ei)
    (sym
    (sets_append A (B ++ (C ++ D)) out 0
    ∙ sets_append B (C ++ D) (sets out 0 A) (0 + length A)
    ∙ sets_append C D (sets (sets out 0 A) (0 + length A) B) (0 + length A + length B)))

-- the buffer after a question that fits into it
pub left_in_got : (out : List ℕ) (q : Question) → length (turned_bytes q) ≤ length out → left_in out (got q []) ≡ turned_bytes q ++ drop (length (turned_bytes q)) out
unfolding left_in
left_in_got out q h = rw (left_in, le-leb (length (turned_bytes q)) (length out) h)

-- ---- the bytes of a two-sided question, written one-sided

pub turned_zone_size : (Γ Δ : List Formula) → zone_size (map negate Γ ++ Δ) ≡ zone_size Γ + zone_size Δ
turned_zone_size Γ Δ =
    ap length (write_formulas_append (map negate Γ) Δ) ∙ length-append (write_formulas (map negate Γ)) (write_formulas Δ) ∙ ap (λ (n : ℕ). n + zone_size Δ) (negate_zone_size Γ)

pub turned_length : (q : Question) → length (turned_bytes q) ≡ length (write_question q)
unfolding turned to_one_sided write_formulas
turned_length (one_sided Γ Θ) = refl
turned_length (two_sided Γ Δ) =
    question_length (turned (two_sided Γ Δ)) ∙ omega (arith, turned_zone_size Γ Δ, question_length (two_sided Γ Δ))

turned_laid_out : (Γ Δ : List Formula) (n : ℕ) → n ≡ 8 + zone_size Γ + zone_size Δ
    → turned_bytes (two_sided Γ Δ) ≡ head_of n ++ (write_formulas (map negate Γ) ++ (write_formulas Δ ++ two_bytes 0))
unfolding turned to_one_sided write_formulas head_of kind_of
turned_laid_out Γ Δ n e =
    let q = turned (two_sided Γ Δ) in
    let body : length (write_body q) ≡ n - 3 = omega (arith, body_length q, question_length q, turned_zone_size Γ Δ) in
    let zone : zone_size (map negate Γ ++ Δ) ≡ n - 8 = omega (arith, turned_zone_size Γ Δ) in
    laid_out q ∙ rw (body, zone, write_formulas_append (map negate Γ) Δ, append_assoc (write_formulas (map negate Γ)) (write_formulas Δ) (two_bytes 0))

-- ---- the code's steps

module _ (s : List ℕ) (bytes : Bytes s) (middle : ℕ) (out : List ℕ) (t : TwoSided s middle out) where
  there : Found s (places_of (two_sided t.antecedent t.succedent)) (two_sided t.antecedent t.succedent)
  there = found_at s bytes (two_sided t.antecedent t.succedent) t.read

  pub turn_length : length s ≡ 8 + zone_size t.antecedent + zone_size t.succedent
  turn_length = sym (ap length there.bytes_are) ∙ question_length (two_sided t.antecedent t.succedent)

  pub turn_short : length s < 65539
  turn_short =
      omega (arith, sym (ap length there.bytes_are), body_length (two_sided t.antecedent t.succedent), there.fits.body_short)

  first_there : Cut s 6 middle t.antecedent
  unfolding places_of
  first_there = rw t.middle_is there.first_cut

  second_there : drop (middle + 2) s ≡ write_formulas t.succedent
  unfolding places_of
  second_there =
      let place : middle + 2 ≡ 8 + zone_size t.antecedent = omega (arith, t.middle_is) in
      let cut = there.second_cut.bytes_are in
      ap (λ (k : ℕ). drop k s) place ∙ rw (sym turn_length, take-length s) at cut

  -- what the steps ask of the buffer, which stays as long as it was
  pub turn_head : ((8 ≤ length s) × (length s < 65539)) × (length s ≤ length out)
  turn_head = ((omega (arith, turn_length), turn_short), t.room)

  pub turn_tail : {n : ℕ} → n ≡ length out → (middle + 2 ≤ length s) × (middle + (length s - (middle + 2)) ≤ n)
  turn_tail kept = (omega (arith, turn_length, t.middle_is), omega (arith, turn_length, t.middle_is, t.room))

  pub turn_end : {n : ℕ} → n ≡ length out → length s - 2 + 1 < n
  turn_end kept = omega (arith, turn_length, t.room)

  -- the antecedents are to be negated, the buffer being as long as before
  pub turn_negatable : {mid : List ℕ} → length mid ≡ length out → Negatable s 6 middle mid
  turn_negatable kept =
      record {
        ordered = omega (arith, t.middle_is);
        inside = first_there.inside;
        zone = record { formulas = t.antecedent; read = first_there.read; back = record { bytes_are = first_there.bytes_are; none_left = refl; fits = there.fits.zones_fit.first_fits.formulas_fit }; sized = omega (arith, t.middle_is) };
        room = omega (arith, t.room);
      }

  -- four stores, one behind the other, are the question written one-sided
  pub turn_stored : {a b c last : List ℕ} → a ≡ sets out 0 (head_of (length s)) → b ≡ sets a 6 (negated (read_all (slice 6 middle s))) → c ≡ sets b middle (drop (middle + 2) s)
      → last ≡ sets c (length s - 2) (two_bytes 0) → last ≡ left_in out (read_question s)
  unfolding negated head_of
  turn_stored {a = a} {b = b} ea eb ec el =
      let q = two_sided t.antecedent t.succedent in
      let n_places : middle ≡ 6 + length (write_formulas (map negate t.antecedent)) = t.middle_is ∙ rw (negate_zone_size t.antecedent) in
      let end_place : length s - 2 ≡ middle + zone_size t.succedent = omega (arith, turn_length, t.middle_is) in
      let antecedents : b ≡ sets a 6 (write_formulas (map negate t.antecedent)) = eb ∙ rw first_there.read in
      let stored = in_turn out (head_of (length s)) (write_formulas (map negate t.antecedent)) (write_formulas t.succedent) (two_bytes 0) refl n_places end_place ea antecedents (ec ∙ rw second_there) el in
      let same = turned_laid_out t.antecedent t.succedent (length s) turn_length in
      let fits : length (turned_bytes q) ≤ length out = omega (arith, turned_length q, ap length there.bytes_are, t.room) in
      stored ∙ ap (sets out 0) (sym same) ∙ front_stored out (turned_bytes q) fits ∙ sym (left_in_got out q fits) ∙ ap (left_in out) (sym t.read)
