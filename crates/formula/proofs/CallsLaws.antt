-- Laws of the calls on one formula: what is known where the whole slice was read, and the three ways in which a writer keeps its promise. Assumes nothing.
use Rattle.std.proofs.Math.Path.{◌≡◌, refl, ap}
use Rattle.std.proofs.Common.{sym, ◌∙◌}
use Rattle.std.specs.Prelude.{Bool, ℕ, ◌+◌, ◌-◌, ◌≤◌, ◌<◌, get_or}
use mathlib.Core.List.{List, [], ◌∷◌, append-nil}
use native.Mathlib.Omega.{arith}
use borrow.Author.Tests.{le-leb, lt-leb}
use Rattle.std.proofs.Math.ListN.{length}
use Rattle.std.proofs.lemmas.List.Edits.{sets, sets-eq}
use Rattle.logic.specs.Formula.{Formula, size, height, is_positive}
use Rattle.wire.specs.Write.{write_formula}
use Rattle.wire.specs.Read.{Read, got, refused, Sign, unit, named, binary, unary, signs, read_formula, highest_formula, at_end, read_one, ◌then◌}
use Rattle.wire.specs.Gives.{AllAt}
use Rattle.wire.specs.Fits.{Bytes, NamesFit}
use Rattle.wire.proofs.FormulaBytes.{length_write, write_read}
use Rattle.formula.specs.Answers.{coded, reads}
use Rattle.formula.specs.Calls.{written, left_in, Writes, positive}
use Rattle.formula.specs.Reading.{form_of, positive_tag}
use Rattle.formula.specs.Signs.{Stands, Shape}
use Rattle.formula.specs.SignsLaws.{all_at, shaped}
use Rattle.formula.specs.declared.Form.{Form}
use Rattle.formula.specs.declared.Form.TheVariants.{Unit, Named, Binary, Unary, Unknown}
use Rattle.formula.specs.declared.Refusal as refusal
use Rattle.formula.specs.declared.Refusal.TheVariants.{OutputShort}
use Rattle.std.specs.Prelude.{Ok, Err}

-- the whole slice is one formula
pub record Whole (s : List ℕ) (n : ℕ) : Type 0 where
  pub formula : Formula
  pub read : read_one s ≡ got formula []
  pub bytes_are : s ≡ write_formula formula
  pub height_fits : height formula ≤ highest_formula
  pub names_fit : NamesFit formula
  pub wide : n ≡ size formula

module _ (s : List ℕ) (bytes : Bytes s) where
  whole_of : (n : ℕ) (m : Read Formula) → read_formula highest_formula s ≡ m → reads (length s) (m then λ f rest. at_end f rest) ≡ Ok n → Whole s n
  unfolding reads read_one at_end ◌then◌
  whole_of n (got f []) e h =
      let back = write_read highest_formula s f [] bytes e in
      let same : s ≡ write_formula f = back.bytes_are ∙ append-nil (write_formula f) in
      let all : length s - 0 ≡ n = cc in
      record { formula = f; read = rw e; bytes_are = same; height_fits = back.height_fits; names_fit = back.names_fit; wide = omega (arith, ap length same, length_write f) }
  whole_of n (got f (b ∷ bs)) e h = let z : ◌≡◌ {A = ℕ} 0 1 = cc in absurd (omega arith)
  whole_of n (refused k) e h = let z : ◌≡◌ {A = ℕ} 0 1 = cc in absurd (omega arith)

  pub whole : {n : ℕ} → reads (length s) (read_one s) ≡ Ok n → Whole s n
  unfolding read_one
  whole {n} h = whole_of n (read_formula highest_formula s) refl h

pub whole_stands : {s : List ℕ} {n : ℕ} (w : Whole s n) → Stands s 0 w.formula
whole_stands w = record { rest = []; here = w.bytes_are ∙ sym (append-nil (write_formula w.formula)) }

-- ---- a writer's promise is kept

module _ (text : Formula → List ℕ) (s out : List ℕ) where
  -- a refusal of reading is the call's, and the buffer stays
  refused_so : (n : ℕ) (k : refusal.Refusal) (m : Read Formula) → read_one s ≡ m → reads n m ≡ Err k → Writes text s out (Err k) out
  unfolding reads written left_in
  refused_so n k (got f rest) e h = let z : ◌≡◌ {A = ℕ} 0 1 = cc in absurd (omega arith)
  refused_so n k (refused j) e h = let same : coded j ≡ k = cc in record { answer = rw e (ap Err (sym same)); buffer = rw e }

  pub writes_refused : {k : refusal.Refusal} → reads (length s) (read_one s) ≡ Err k → Writes text s out (Err k) out
  writes_refused {k} h = refused_so (length s) k (read_one s) refl h

  module _ {n : ℕ} (w : Whole s n) where
    pub writes_short : length out < length (text w.formula) → Writes text s out (Err OutputShort) out
    unfolding written left_in
    writes_short h = let longer = lt-leb (length (text w.formula)) (length out) h in record { answer = rw (w.read, longer, written); buffer = rw (w.read, longer, left_in) }

    pub writes_text : length (text w.formula) ≤ length out → Writes text s out (Ok (length (text w.formula))) (sets out 0 (text w.formula))
    unfolding written left_in
    writes_text h =
        let fits = le-leb (length (text w.formula)) (length out) h in
        let zero_first : 0 + length (text w.formula) ≡ length (text w.formula) = omega arith in
        record {
          answer = rw (w.read, fits, written);
          buffer = rw (w.read, fits, left_in) (sets-eq (text w.formula) out 0 (omega arith) ∙ rw zero_first);
        }

    -- the text was laid out by stores, and the answer is how many
    pub writes_bytes : {n : ℕ} {last : List ℕ} → length (text w.formula) ≤ length out → n ≡ length (text w.formula) → last ≡ sets out 0 (text w.formula)
        → Writes text s out (Ok n) last
    writes_bytes h e l = rw (e, l) (writes_text h)

-- ---- `is_positive`

-- a sign is positive by its tag
abbrev PositiveAt : ℕ → Sign → Type 0
PositiveAt t (unit f) = positive_tag t ≡ is_positive f
PositiveAt t (named make) = (n : ℕ) → positive_tag t ≡ is_positive (make n)
PositiveAt t (binary make) = (a b : Formula) → positive_tag t ≡ is_positive (make a b)
PositiveAt t (unary make) = (a : Formula) → positive_tag t ≡ is_positive (make a)

signs_positive : AllAt PositiveAt signs
unfolding positive_tag is_positive
signs_positive = (refl, (refl, (refl, (refl, (λ n. refl, (λ n. refl, (λ a b. refl, (λ a b. refl, (λ a b. refl, (λ a b. refl, (λ a b. refl, (λ a. refl, (λ a. refl, tt)))))))))))))

-- what stands at a place is positive by the tag there
positive_here : (s : List ℕ) (at : ℕ) (f : Formula) (form : Form) → Shape s at f form → positive_tag (get_or s at 0) ≡ is_positive f
positive_here s at f Unit u = all_at PositiveAt signs signs_positive (get_or s at 0) (unit f) u.sign
positive_here s at f Named u = all_at PositiveAt signs signs_positive (get_or s at 0) (named u.make) u.sign u.name ∙ ap is_positive (sym u.same)
positive_here s at f Binary u = all_at PositiveAt signs signs_positive (get_or s at 0) (binary u.make) u.sign u.first u.second ∙ ap is_positive (sym u.same)
positive_here s at f Unary u = all_at PositiveAt signs signs_positive (get_or s at 0) (unary u.make) u.sign u.part ∙ ap is_positive (sym u.same)
positive_here s at f Unknown u = absurd u

pub judged : {s : List ℕ} {n : ℕ} {b : Bool} (w : Whole s n) → b ≡ positive_tag (get_or s 0 0) → Ok b ≡ positive (read_one s)
unfolding positive
judged {s} w e = rw w.read (ap Ok (e ∙ positive_here s 0 w.formula (form_of (get_or s 0 0)) (shaped s 0 w.formula (whole_stands w) refl)))

refused_positive_so : (n : ℕ) (k : refusal.Refusal) (m : Read Formula) → reads n m ≡ Err k → Err k ≡ positive m
unfolding reads positive
refused_positive_so n k (got f rest) h = let z : ◌≡◌ {A = ℕ} 0 1 = cc in absurd (omega arith)
refused_positive_so n k (refused j) h = let same : coded j ≡ k = cc in ap Err (sym same)

pub judged_refused : {k : refusal.Refusal} (s : List ℕ) → reads (length s) (read_one s) ≡ Err k → Err k ≡ positive (read_one s)
judged_refused {k} s h = refused_positive_so (length s) k (read_one s) h
