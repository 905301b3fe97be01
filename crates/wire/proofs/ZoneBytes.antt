-- Zones written and read: a list of formulas to the end of its bytes, and a zone with its length in front. Assumes nothing.
use Rattle.std.specs.Prelude.{◌≡◌, refl, List, [], ◌∷◌, ◌++◌, ℕ, zero, suc, ◌+◌, ◌≤◌, leb, length, take, drop}
use Rattle.std.proofs.Common.{sym, ap, ◌∙◌, append_assoc, append-nil, arith, length-append, take-append-drop, length-take-le, leb-true, le-leb}
use Rattle.std.proofs.Math.Seq.{slice, take-append_seam, drop-append_seam}
use Rattle.std.proofs.lemmas.List.{drop-append-le}
use Rattle.logic.specs.Formula.{Formula, size}
use Rattle.logic.specs.Answer.{wrong_length}
use Rattle.logic.proofs.FormulaLaws.{size_positive}
use Rattle.wire.specs.Write.{two_bytes, write_formula, write_formulas, write_zone}
use Rattle.wire.specs.Read.{got, ◌then◌, read_formula, highest_formula, read_formulas, read_all, read_bytes, zone_bytes, read_zone}
use Rattle.wire.specs.Fits.{Bytes, FormulasFit, ZoneFits, FormulasBack, ZoneBack, Framed, FormulaRefusal, cut_short}
use Rattle.wire.specs.FitsLaws.{bytes_nil, bytes_append, bytes_left, bytes_left_over, bytes_two}
use Rattle.wire.proofs.FormulaBytes.{length_write, read_write, write_bytes, read_write_two, two_gives, formula_gives}
use Rattle.wire.specs.Gives.{Gives}
use Rattle.wire.proofs.GivesLaws.{gives_got, gives_refused, gives_then, gives_map, gives_unless}

-- formulas one after another
pub write_formulas_bytes : (fs : List Formula) → FormulasFit fs → Bytes (write_formulas fs)
unfolding write_formulas
write_formulas_bytes [] h = bytes_nil
write_formulas_bytes (f ∷ fs) h = bytes_append (write_bytes f h.0.names_fit) (write_formulas_bytes fs h.1)

pub length_write_formulas : (f : Formula) (fs : List Formula) → length (write_formulas (f ∷ fs)) ≡ size f + length (write_formulas fs)
unfolding write_formulas
length_write_formulas f fs = length-append (write_formula f) (write_formulas fs) ∙ ap (λ (n : ℕ). n + length (write_formulas fs)) (length_write f)

pub write_formulas_append : (fs gs : List Formula) → write_formulas (fs ++ gs) ≡ write_formulas fs ++ write_formulas gs
unfolding write_formulas
write_formulas_append [] gs = refl
write_formulas_append (f ∷ fs) gs = rw (write_formulas_append fs gs, append_assoc)

pub write_formulas_one : (f : Formula) → write_formulas (f ∷ []) ≡ write_formula f
unfolding write_formulas
write_formulas_one f = append-nil (write_formula f)

pub length_write_zone : (fs : List Formula) → length (write_zone fs) ≡ suc (suc (length (write_formulas fs)))
unfolding write_zone
length_write_zone fs = refl

-- what stands from a place on: up to `end`, and behind it
pub drop_split : (s : List ℕ) (p end : ℕ) → p ≤ end → end ≤ length s → drop p s ≡ slice p end s ++ drop end s
drop_split s p end h inside =
    ap (drop p) (sym (take-append-drop end s)) ∙ drop-append-le p (take end s) (drop end s) (omega (arith, length-take-le end s inside))

-- bytes that are not at their end begin a formula
one_more : (most : ℕ) (bs : List ℕ) → 1 ≤ length bs
    → read_formulas (suc most) bs ≡ (read_formula highest_formula bs then λ f rest. read_formulas most rest then λ fs end. got (f ∷ fs) end)
unfolding read_formulas
one_more most [] h = absurd (omega arith)
one_more most (b ∷ bs) h = refl

read_write_formulas : (most : ℕ) (fs : List Formula) → FormulasFit fs → length (write_formulas fs) ≤ most → read_formulas most (write_formulas fs) ≡ got fs []
unfolding read_formulas write_formulas ◌then◌
read_write_formulas zero [] h short = refl
read_write_formulas (suc most) [] h short = refl
read_write_formulas zero (f ∷ fs) h short = absurd (omega (arith, length_write_formulas f fs, size_positive f))
read_write_formulas (suc most) (f ∷ fs) h short =
    let more : 1 ≤ length (write_formula f ++ write_formulas fs) = omega (arith, length_write_formulas f fs, size_positive f) in
    let left : length (write_formulas fs) ≤ most = omega (arith, length_write_formulas f fs, size_positive f) in
    rw (one_more most _ more, read_write highest_formula f (write_formulas fs) h.0.height_fits h.0.names_fit, read_write_formulas most fs h.1 left)

pub read_write_all : (fs : List Formula) → FormulasFit fs → read_all (write_formulas fs) ≡ got fs []
read_write_all fs h = read_write_formulas _ fs h (omega arith)

formulas_give : (most : ℕ) (bs : List ℕ) → Gives (λ fs rest. Bytes bs → FormulasBack bs fs rest) FormulaRefusal (read_formulas most bs)
unfolding read_formulas write_formulas
formulas_give zero [] = gives_got λ h. record { bytes_are = refl; none_left = refl; fits = tt }
formulas_give zero (b ∷ bs) = gives_refused cut_short
formulas_give (suc most) [] = gives_got λ h. record { bytes_are = refl; none_left = refl; fits = tt }
formulas_give (suc most) (b ∷ bs) =
    gives_then (formula_gives highest_formula (b ∷ bs)) λ f mid p.
    gives_then (formulas_give most mid) λ fs end q.
    gives_got λ h.
    let first = p h in
    let others = q (bytes_left_over (write_formula f) mid first.bytes_are h) in
    record {
      bytes_are = first.bytes_are ∙ ap (λ (x : List ℕ). write_formula f ++ x) others.bytes_are;
      none_left = others.none_left;
      fits = (record { height_fits = first.height_fits; names_fit = first.names_fit }, others.fits);
    }

pub all_gives : (bs : List ℕ) → Gives (λ fs rest. Bytes bs → FormulasBack bs fs rest) FormulaRefusal (read_all bs)
all_gives bs = formulas_give (length bs) bs

-- a zone's bytes with their length in front
read_write_bytes : (s rest : List ℕ) → read_bytes (length s) (s ++ rest) ≡ got s rest
unfolding read_bytes
read_write_bytes s rest = rw (le-leb (length s) (length (s ++ rest)) (omega (arith, length-append s rest)), take-append_seam, drop-append_seam)

pub read_write_zone_bytes : (s rest : List ℕ) → zone_bytes ((two_bytes (length s) ++ s) ++ rest) ≡ got s rest
unfolding zone_bytes ◌then◌
read_write_zone_bytes s rest = rw (read_write_two (length s) (s ++ rest), read_write_bytes)

bytes_give : (n : ℕ) (bs : List ℕ) → Gives (λ s rest. (bs ≡ s ++ rest) × (length s ≡ n)) FormulaRefusal (read_bytes n bs)
unfolding read_bytes
bytes_give n bs = gives_unless (leb n (length bs)) wrong_length cut_short λ e. gives_got (sym (take-append-drop n bs), length-take-le n bs (leb-true n (length bs) e))

pub zone_bytes_give : (bs : List ℕ) → Gives (λ zone rest. Bytes bs → Framed bs zone rest) FormulaRefusal (zone_bytes bs)
unfolding zone_bytes
zone_bytes_give bs =
    gives_then (two_gives bs) λ n mid p.
    gives_map (bytes_give n mid) λ zone rest q h.
    let front = p h in record { bytes_are = rw (q.1, front.0, q.0); short = omega (arith, q.1) }

pub framed_zone : {bs zone rest : List ℕ} → Framed bs zone rest → Bytes bs → Bytes zone
framed_zone {zone} {rest} e h = bytes_left zone rest (bytes_left_over (two_bytes (length zone)) (zone ++ rest) e.bytes_are h)

pub framed_rest : {bs zone rest : List ℕ} → Framed bs zone rest → Bytes bs → Bytes rest
framed_rest {zone} {rest} e h = bytes_left_over (two_bytes (length zone) ++ zone) rest e.bytes_are h

pub framed_back : {bs zone rest : List ℕ} {fs : List Formula} {end : List ℕ} → Framed bs zone rest → FormulasBack zone fs end → ZoneBack bs fs rest
unfolding write_zone
framed_back e back =
    record { bytes_are = rw (← back.bytes_are) e.bytes_are; fits = record { formulas_fit = back.fits; zone_short = rw (← back.bytes_are) e.short } }

-- a zone
pub read_write_zone : (fs : List Formula) (rest : List ℕ) → ZoneFits fs → read_zone (write_zone fs ++ rest) ≡ got fs rest
unfolding read_zone write_zone ◌then◌
read_write_zone fs rest h = rw (read_write_zone_bytes (write_formulas fs) rest, read_write_all fs h.formulas_fit)

pub write_zone_bytes : (fs : List Formula) → ZoneFits fs → Bytes (write_zone fs)
unfolding write_zone
write_zone_bytes fs h = bytes_append (bytes_two _ (omega arith)) (write_formulas_bytes fs h.formulas_fit)

pub zone_gives : (bs : List ℕ) → Gives (λ fs rest. Bytes bs → ZoneBack bs fs rest) FormulaRefusal (read_zone bs)
unfolding read_zone
zone_gives bs =
    gives_then (zone_bytes_give bs) λ zone rest p.
    gives_then (all_gives zone) λ fs end q.
    gives_got λ h.
    framed_back (p h) (q (framed_zone (p h) h))
