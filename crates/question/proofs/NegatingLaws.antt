-- Laws of negating antecedents in their places: how the loop starts, goes on and ends. Assumes nothing.
use Rattle.std.proofs.Math.Path.{◌≡◌, refl, ap}
use Rattle.std.proofs.Common.{sym, ◌∙◌, le-leb, length-append, length-drop, drop_of_length-le, take_at, length-take-le, drop-drop, drop_at}
use mathlib.Core.List.{List, [], ◌∷◌, ◌++◌, map, map-append, append-nil, append_assoc}
use Rattle.std.specs.Prelude.{ℕ, ◌+◌, ◌-◌, ◌≤◌, ◌<◌, length, take, drop, Err, Ok, Result}
use native.Mathlib.Omega.{arith}
use Rattle.std.proofs.Math.Seq.{slice, sets, length-sets, length-slice}
use Rattle.std.proofs.lemmas.List.Edits.{sets-eq}
use Rattle.logic.specs.Formula.{Formula, negate, size}
use Rattle.logic.proofs.FormulaLaws.{size_positive, negate_size}
use Rattle.wire.specs.Write.{write_formula, write_formulas}
use Rattle.wire.specs.Read.{got, read_formula, highest_formula, read_all}
use Rattle.wire.specs.Fits.{FormulaFits, FormulasFit}
use Rattle.wire.proofs.FormulaBytes.{length_write, read_write}
use Rattle.wire.proofs.MessageBytes.{read_write_one}
use Rattle.wire.proofs.ZoneBytes.{length_write_formulas, write_formulas_append, write_formulas_one, drop_split}
use Rattle.formula.specs.Answers.{reads}
use Rattle.formula.specs.Calls.{left_in, Writes}
use Rattle.formula.proofs.RewritingLaws.{sets_append}
use Rattle.formula.specs.declared.Refusal.{Refusal}
use Rattle.question.specs.Answers.{zone_size}
use Rattle.question.specs.Zone.{Zone}
use Rattle.question.specs.Negating.{negated, Negating}

-- ---- formulas one after another

-- negation keeps every byte's place
pub negate_zone_size : (fs : List Formula) → zone_size (map negate fs) ≡ zone_size fs
unfolding write_formulas
negate_zone_size [] = refl
negate_zone_size (f ∷ fs) =
    length_write_formulas (negate f) (map negate fs) ∙ rw (negate_size f, negate_zone_size fs) (sym (length_write_formulas f fs))

-- one formula more
negated_more : (fs : List Formula) (f : Formula) → write_formulas (map negate (fs ++ (f ∷ []))) ≡ write_formulas (map negate fs) ++ write_formula (negate f)
negated_more fs f = rw (map-append negate fs (f ∷ []), write_formulas_append (map negate fs) (negate f ∷ []), write_formulas_one (negate f))

zone_size_more : (fs : List Formula) (f : Formula) → zone_size (fs ++ (f ∷ [])) ≡ zone_size fs + size f
zone_size_more fs f = rw (write_formulas_append fs (f ∷ []), write_formulas_one f, length-append (write_formulas fs) (write_formula f), length_write f)

stored_more : (out : List ℕ) {last last' : List ℕ} (at : ℕ) {p : ℕ} (fs : List Formula) (f : Formula) → p ≡ at + zone_size fs → last ≡ sets out at (write_formulas (map negate fs)) → last' ≡ sets last p (write_formula (negate f))
    → last' ≡ sets out at (write_formulas (map negate (fs ++ (f ∷ []))))
stored_more out at {p} fs f here e e' =
    let place : p ≡ at + zone_size (map negate fs) = here ∙ rw (negate_zone_size fs) in
    e' ∙ rw (e, place, negated_more fs f) (sym (sets_append (write_formulas (map negate fs)) (write_formula (negate f)) out at))

-- a part of a buffer, with a negated formula in its place
negate_stored : (out : List ℕ) (p q : ℕ) (f : Formula) {part : List ℕ} → q ≡ p + size f → q ≤ length out → part ≡ left_in (λ g. write_formula (negate g)) (got f []) (take (q - p) (drop p out))
    → take p out ++ (part ++ drop (q - p) (drop p out)) ≡ sets out p (write_formula (negate f))
unfolding left_in
negate_stored out p q f {part} after inside e =
    let text = write_formula (negate f) in
    let long : length text ≡ q - p = length_write (negate f) ∙ negate_size f ∙ omega arith in
    let dst : length (take (q - p) (drop p out)) ≡ q - p = length-take-le (q - p) (drop p out) (omega (arith, length-drop p out)) in
    let fits = le-leb (length text) (length (take (q - p) (drop p out))) (omega arith) in
    let none : drop (length text) (take (q - p) (drop p out)) ≡ [] = drop_of_length-le (take (q - p) (drop p out)) {i = length text} (omega arith) in
    let whole : part ≡ text = e ∙ rw (left_in, fits, none, append-nil text) in
    rw (whole, drop-drop (q - p) p out, sets-eq text out p (omega arith), append_assoc, long)

-- ---- the loop

module _ (s : List ℕ) (at end : ℕ) (out : List ℕ) (inside : end ≤ length s) (room : length s ≤ length out) where
  pub negating_starts : at ≤ end → Zone s at end → Negating s at end out at out
  unfolding write_formulas
  negating_starts h z =
      record { done = []; left = z.formulas; read = z.read; here = omega arith; within = h; ahead = z.back.bytes_are; fit = z.back.fits; bytes = refl }

  module _ {p : ℕ} {last : List ℕ} (n : Negating s at end out p last) where
    ahead_size : zone_size n.left ≡ end - p
    ahead_size = sym (ap length n.ahead) ∙ length-slice p end s inside

    pub negating_kept : length last ≡ length out
    negating_kept = ap length n.bytes ∙ length-sets out at (write_formulas (map negate n.done))

    pub negating_ends : end ≤ p → last ≡ sets out at (negated (read_all (slice at end s)))
    unfolding negated
    negating_ends h = go n.left refl
      where
        go : (fs : List Formula) → n.left ≡ fs → last ≡ sets out at (negated (read_all (slice at end s)))
        go [] e = n.bytes ∙ rw (n.read, e, append-nil n.done)
        go (f ∷ fs) e = absurd (omega (arith, ahead_size, ap zone_size e, length_write_formulas f fs, size_positive f))

    module _ (more : p < end) where
      -- the formula at p, and those behind it
      record Next : Type 0 where
        formula : Formula
        others : List Formula
        split : n.left ≡ formula ∷ others
        fits : FormulaFits highest_formula formula
        others_fit : FormulasFit others
        bytes_are : slice p end s ≡ write_formula formula ++ write_formulas others

      next_of : (fs : List Formula) → n.left ≡ fs → FormulasFit fs → Next
      unfolding write_formulas
      next_of [] e h = absurd (omega (arith, ahead_size, ap zone_size e))
      next_of (f ∷ fs) e h = record { formula = f; others = fs; split = e; fits = h.0; others_fit = h.1; bytes_are = n.ahead ∙ rw e }

      next : Next
      next = next_of n.left refl n.fit

      read_next : read_formula highest_formula (slice p end s) ≡ got next.formula (write_formulas next.others)
      read_next =
          rw next.bytes_are (read_write highest_formula next.formula (write_formulas next.others) next.fits.height_fits next.fits.names_fit)

      module _ {x : Result ℕ Refusal} (read : x ≡ reads end (read_formula highest_formula (slice p end s))) where
        -- there is a formula at p
        pub negating_never : {k : Refusal} → x ≡ Err k → ⊥
        unfolding reads
        negating_never e =
            let told : x ≡ Ok (end - zone_size next.others) = read ∙ rw read_next in
            let z : ◌≡◌ {A = ℕ} 0 1 = cc in omega arith

        module _ {q : ℕ} (there : x ≡ Ok q) where
          after : q ≡ p + size next.formula
          unfolding reads
          after =
              let told : x ≡ Ok (end - zone_size next.others) = read ∙ rw read_next in
              let place : q ≡ end - zone_size next.others = cc in
              omega (arith, ahead_size, ap zone_size next.split, length_write_formulas next.formula next.others, n.within)

          pub negating_further : p < q
          negating_further = omega (arith, after, size_positive next.formula)

          others_ahead : slice q end s ≡ write_formulas next.others
          others_ahead =
              ap (λ (k : ℕ). slice k end s) after
              ∙ sym (drop-drop (size next.formula) p (take end s))
              ∙ ap (drop (size next.formula)) next.bytes_are
              ∙ drop_at (write_formula next.formula) (write_formulas next.others) (size next.formula) (length_write next.formula)

          pub negating_within : q ≤ end
          negating_within = omega (arith, after, ahead_size, ap zone_size next.split, length_write_formulas next.formula next.others)

          -- the part that is lent to `negate` is the formula's bytes
          part_is : take (q - p) (drop p s) ≡ write_formula next.formula
          part_is =
              rw (drop_split s p end n.within inside, next.bytes_are, append_assoc)
              (take_at (write_formula next.formula) (write_formulas next.others ++ drop end s) (q - p) (omega (arith, after, length_write next.formula)))

          pub negating_on : {r : Result ℕ Refusal} {part : List ℕ} → Writes (λ f. write_formula (negate f)) (take (q - p) (drop p s)) (take (q - p) (drop p last)) r part
              → Negating s at end out q (take p last ++ (part ++ drop (q - p) (drop p last)))
          negating_on w =
              let f = next.formula in
              let fs = n.done in
              let kept = negating_kept in
              record {
                done = fs ++ (f ∷ []);
                left = next.others;
                read = n.read ∙ ap (λ (l : List Formula). got l []) (ap (λ (l : List Formula). fs ++ l) next.split ∙ sym (append_assoc fs (f ∷ []) next.others));
                here = omega (arith, after, n.here, zone_size_more fs f);
                within = negating_within;
                ahead = others_ahead;
                fit = next.others_fit;
                bytes =
                    stored_more out at fs f n.here n.bytes
                    (negate_stored last p q f after (omega (arith, negating_within, kept)) (w.buffer ∙ rw (part_is, read_write_one f next.fits)));
              }
