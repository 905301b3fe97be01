-- Laws of reading a formula from a slice: what is known at its tag, and where the next place is. Assumes nothing.
use Rattle.std.proofs.Math.Path.{◌≡◌, sym, ap}
use Rattle.std.specs.Prelude.{refl, ℕ, zero, suc, ◌+◌, ◌-◌, ◌≤◌, ◌<◌, take, drop, get_or}
use Rattle.std.proofs.Common.{◌∙◌, le_refl, add-one, lt-ltb, le-ltb, drop-drop}
use mathlib.Core.List.{List, [], ◌∷◌}
use native.Mathlib.Omega.{arith}
use Rattle.std.proofs.Math.ListN.{length, length-append}
use Rattle.std.proofs.Math.Seq.{take-length, slice, slice_empty, slice-cons, length-slice, drop_at}
use Rattle.logic.specs.Formula.{Formula, size}
use Rattle.logic.specs.Answer.{Refusal, wrong_tag, too_high}
use Rattle.wire.specs.Write.{write_formula}
use Rattle.wire.specs.Read.{Read, got, refused, Sign, unit, named, binary, unary, signs, entry, read_byte, read_two, read_parts, read_formula, highest_formula, at_end, read_one, ◌then◌}
use Rattle.wire.specs.Fits.{Bytes, ReadBack}
use Rattle.wire.specs.FitsLaws.{bytes_take, bytes_drop}
use Rattle.wire.proofs.FormulaBytes.{length_write, write_read}
use Rattle.formula.specs.Answers.{coded, reads}
use Rattle.formula.specs.Reading.{form_of_sign, form_in, form_of, above_of, look_of, read_on, Goes_on, Looked}
use Rattle.std.specs.Prelude.{Result, Ok, Err}
use Rattle.formula.specs.declared.Refusal as refusal
use Rattle.formula.specs.declared.Refusal.TheVariants.{WrongLength, TooHigh}
use Rattle.formula.specs.declared.Form.{Form}
use Rattle.formula.specs.declared.Look as look
use Rattle.formula.specs.declared.Look.TheVariants.{Done, One, Two}
use Rattle.formula.specs.declared.Form.TheVariants.{Unit, Named, Binary, Unary, Unknown}

-- a tag that a table has no sign for, or the sign that it has
pub data SignAt (ss : List Sign) (t : ℕ) : Type 0 where
  none : form_in ss t ≡ Unknown → ((r : Refusal) (k : Sign → Read Formula) → entry ss t r k ≡ refused r) → SignAt ss t
  some : (s : Sign) → form_in ss t ≡ form_of_sign s → ((r : Refusal) (k : Sign → Read Formula) → entry ss t r k ≡ k s) → SignAt ss t

pub sign_at : (ss : List Sign) (t : ℕ) → SignAt ss t
unfolding form_in entry
sign_at [] t = none refl (λ r k. refl)
sign_at (s ∷ ss) zero = some s refl (λ r k. refl)
sign_at (s ∷ ss) (suc t) = go (sign_at ss t)
  where
    go : SignAt ss t → SignAt (s ∷ ss) (suc t)
    go (none e f) = none e f
    go (some x e f) = some x e f

-- no byte
pub read_none : (levels end : ℕ) → reads end (read_formula levels []) ≡ Err WrongLength
unfolding reads read_formula read_byte ◌then◌ coded
read_none zero end = refl
read_none (suc levels) end = refl

-- no level
pub read_above : (end t : ℕ) (bs : List ℕ) → reads end (read_formula 0 (t ∷ bs)) ≡ Err (above_of (form_of t))
unfolding reads read_formula read_byte ◌then◌ coded above_of form_of_sign
read_above end t bs = go (sign_at signs t)
  where
    by_sign : (s : Sign) → TooHigh ≡ above_of (form_of_sign s)
    by_sign (unit f) = refl
    by_sign (named f) = refl
    by_sign (binary f) = refl
    by_sign (unary f) = refl

    go : SignAt signs t → reads end (read_formula 0 (t ∷ bs)) ≡ Err (above_of (form_of t))
    go (none e n) = rw (n wrong_tag (λ s. refused too_high), e)
    go (some s e n) = rw (n wrong_tag (λ s. refused too_high), e) (ap Err (by_sign s))

-- a level, and a tag
read_tag : (levels t : ℕ) (bs : List ℕ) → 0 < levels → read_formula levels (t ∷ bs) ≡ entry signs t wrong_tag λ s. read_parts (read_formula (levels - 1)) s bs
unfolding read_formula read_byte ◌then◌
read_tag zero t bs h = absurd (omega arith)
read_tag (suc levels) t bs h = let e : suc levels - 1 ≡ levels = omega arith in rw e

-- which formula was read makes no difference to the next place
reads_one : (end : ℕ) (x : Formula → Formula) (m : Read Formula) → reads end (m then λ a rest. got (x a) rest) ≡ reads end m
unfolding reads ◌then◌
reads_one end x (got a rest) = refl
reads_one end x (refused k) = refl

reads_two : (end : ℕ) (x : Formula → Formula → Formula) (part : List ℕ → Read Formula) (m : Read Formula)
    → reads end (m then λ a rest. part rest then λ b rest. got (x a b) rest) ≡ reads end (m then λ a rest. part rest)
unfolding reads ◌then◌
reads_two end x part (got a rest) = reads_one end (x a) (part rest)
reads_two end x part (refused k) = refl

-- a name takes two bytes behind the tag
read_name : (at end : ℕ) (part : List ℕ → Read Formula) (x : ℕ → Formula) (bs : List ℕ) → at < end → length bs ≡ end - (at + 1)
    → Done (reads end (read_parts part (named x) bs)) ≡ look_of at end Named
unfolding reads read_parts read_two read_byte ◌then◌ coded look_of
read_name at end part x [] h e = rw (lt-ltb (end - at) 3 (omega arith))
read_name at end part x (b ∷ []) h e = rw (lt-ltb (end - at) 3 (omega arith))
read_name at end part x (b ∷ b₂ ∷ bs) h e =
    rw (le-ltb (end - at) 3 (omega arith)) (ap (λ (n : ℕ). Done (Ok n)) (omega arith))

-- the tag, and what is behind it
pub tag_and_parts : (s : List ℕ) (at end : ℕ) → at < end → end ≤ length s → slice at end s ≡ get_or s at 0 ∷ slice (at + 1) end s
tag_and_parts s at end here inside = rw add-one (slice-cons at end s 0 here inside)

module _ (s : List ℕ) (at end levels : ℕ) (here : at < end) (inside : end ≤ length s) (level : 0 < levels) where
  length_behind : length (slice (at + 1) end s) ≡ end - (at + 1)
  length_behind = length-slice (at + 1) end s inside

  read_by_sign : (x : Sign) → reads end (read_parts (read_formula (levels - 1)) x (slice (at + 1) end s)) ≡ read_on s at end levels (look_of at end (form_of_sign x))
  unfolding reads read_parts read_on form_of_sign look_of
  read_by_sign (unit f) = ap Ok (omega (arith, length_behind))
  read_by_sign (named f) = ap (read_on s at end levels) (read_name at end (read_formula (levels - 1)) f (slice (at + 1) end s) here length_behind)
  read_by_sign (binary f) = reads_two end f (read_formula (levels - 1)) (read_formula (levels - 1) (slice (at + 1) end s))
  read_by_sign (unary f) = reads_one end f (read_formula (levels - 1) (slice (at + 1) end s))

  -- what is read at a level is known by the tag's form
  pub read_by_form : reads end (read_formula levels (slice at end s)) ≡ read_on s at end levels (look_of at end (form_of (get_or s at 0)))
  unfolding reads coded look_of read_on
  read_by_form = go (sign_at signs (get_or s at 0))
    where
      go : SignAt signs (get_or s at 0) → reads end (read_formula levels (slice at end s)) ≡ read_on s at end levels (look_of at end (form_of (get_or s at 0)))
      go (none e n) = rw (tag_and_parts s at end here inside, read_tag levels (get_or s at 0) (slice (at + 1) end s) level, n wrong_tag (λ x. read_parts (read_formula (levels - 1)) x (slice (at + 1) end s)), e)
      go (some x e n) = rw (tag_and_parts s at end here inside, read_tag levels (get_or s at 0) (slice (at + 1) end s) level, n wrong_tag (λ x. read_parts (read_formula (levels - 1)) x (slice (at + 1) end s)), e) (read_by_sign x)

-- ---- what is known at a formula's tag, by the tests of the code

pub looked_none : (s : List ℕ) (at end levels : ℕ) → at ≡ end → Looked s at end levels (Done (Err WrongLength))
unfolding read_on Goes_on
looked_none s at end levels e = record { right = rw (e, slice_empty end s) (read_none levels end); goes_on = omega arith }

module _ (s : List ℕ) (at end levels : ℕ) (inside : (at ≤ end) × (end ≤ length s)) (more : at ≡ end → ⊥) where
  pub looked_above : {form : Form} {r : refusal.Refusal} → levels ≡ 0 → form ≡ form_of (get_or s at 0) → r ≡ above_of form → Looked s at end levels (Done (Err r))
  unfolding read_on Goes_on
  looked_above z f e = record { right = rw (z, tag_and_parts s at end (omega arith) inside.1, read_above end (get_or s at 0) (slice (at + 1) end s)) (cc); goes_on = inside.0 }

  module _ (level : levels ≡ 0 → ⊥) {form : Form} (here : form ≡ form_of (get_or s at 0)) where
    goes : (f : Form) → Goes_on s at end levels (look_of at end f)
    unfolding Goes_on look_of
    goes Unit = inside.0
    goes Named = inside.0
    goes Binary = (omega arith, omega arith)
    goes Unary = (omega arith, omega arith)
    goes Unknown = inside.0

    pub looked_at : {f : Form} → form ≡ f → Looked s at end levels (look_of at end f)
    looked_at {f} e =
        record {
          right = read_by_form s at end levels (omega arith) inside.1 (omega arith) ∙ ap (λ (x : Form). read_on s at end levels (look_of at end x)) (sym here ∙ e);
          goes_on = goes f;
        }

    pub looked_short : form ≡ Named → end - at < 3 → Looked s at end levels (Done (Err WrongLength))
    unfolding look_of
    looked_short e h = rw (lt-ltb (end - at) 3 h) at (looked_at e)

    pub looked_name : form ≡ Named → 3 ≤ end - at → Looked s at end levels (Done (Ok (at + 3)))
    unfolding look_of
    looked_name e h = rw (le-ltb (end - at) 3 h) at (looked_at e)

-- ---- where a formula was read

module _ (s : List ℕ) (bytes : Bytes s) (end : ℕ) (inside : end ≤ length s) where
  -- the formula there, and the next place, where its bytes end
  pub record Reached (levels at next : ℕ) : Type 0 where
    pub formula : Formula
    pub read : read_formula levels (slice at end s) ≡ got formula (slice next end s)
    pub back : ReadBack levels (slice at end s) formula (slice next end s)
    pub after : next ≡ at + size formula
    pub within : next ≤ end

  reached_got : (levels at next : ℕ) → at ≤ end → (m : Read Formula) → read_formula levels (slice at end s) ≡ m → reads end m ≡ Ok next → Reached levels at next
  unfolding reads
  reached_got levels at next h (got f rest) e₁ e₂ =
      let there = write_read levels (slice at end s) f rest (bytes_drop at (bytes_take end bytes)) e₁ in
      let total : size f + length rest ≡ end - at =
      rw (← length_write) (simp length-append at (sym (ap length there.bytes_are)) ∙ length-slice at end s inside)
      in
      let place : end - length rest ≡ next = cc in
      let after : next ≡ at + size f = omega arith in
      let left : slice next end s ≡ rest =
      ap (λ (k : ℕ). slice k end s) after ∙ sym (drop-drop (size f) at (take end s)) ∙ ap (drop (size f)) there.bytes_are ∙ drop_at (write_formula f) rest (size f) (length_write f)
      in
      record { formula = f; read = rw left e₁; back = rw left there; after = after; within = omega arith }
  reached_got levels at next h (refused k) e₁ e₂ = let z : ◌≡◌ {A = ℕ} 0 1 = cc in absurd (omega arith)

  pub reached : (levels at next : ℕ) → at ≤ end → reads end (read_formula levels (slice at end s)) ≡ Ok next → Reached levels at next
  reached levels at next h e = reached_got levels at next h (read_formula levels (slice at end s)) refl e

-- ---- document 01's table of tags, by the tests of the code

pub unit_tag : (t : ℕ) → t < 4 → form_of t ≡ Unit
unfolding form_in form_of_sign
unit_tag zero h = refl
unit_tag (suc zero) h = refl
unit_tag (suc (suc zero)) h = refl
unit_tag (suc (suc (suc zero))) h = refl
unit_tag (suc (suc (suc (suc t)))) h = absurd (omega arith)

pub named_tag : (t : ℕ) → 4 ≤ t → t < 6 → form_of t ≡ Named
unfolding form_in form_of_sign
named_tag zero g h = absurd (omega arith)
named_tag (suc zero) g h = absurd (omega arith)
named_tag (suc (suc zero)) g h = absurd (omega arith)
named_tag (suc (suc (suc zero))) g h = absurd (omega arith)
named_tag (suc (suc (suc (suc zero)))) g h = refl
named_tag (suc (suc (suc (suc (suc zero))))) g h = refl
named_tag (suc (suc (suc (suc (suc (suc t)))))) g h = absurd (omega arith)

pub binary_tag : (t : ℕ) → 6 ≤ t → t < 11 → form_of t ≡ Binary
unfolding form_in form_of_sign
binary_tag zero g h = absurd (omega arith)
binary_tag (suc zero) g h = absurd (omega arith)
binary_tag (suc (suc zero)) g h = absurd (omega arith)
binary_tag (suc (suc (suc zero))) g h = absurd (omega arith)
binary_tag (suc (suc (suc (suc zero)))) g h = absurd (omega arith)
binary_tag (suc (suc (suc (suc (suc zero))))) g h = absurd (omega arith)
binary_tag (suc (suc (suc (suc (suc (suc zero)))))) g h = refl
binary_tag (suc (suc (suc (suc (suc (suc (suc zero))))))) g h = refl
binary_tag (suc (suc (suc (suc (suc (suc (suc (suc zero)))))))) g h = refl
binary_tag (suc (suc (suc (suc (suc (suc (suc (suc (suc zero))))))))) g h = refl
binary_tag (suc (suc (suc (suc (suc (suc (suc (suc (suc (suc zero)))))))))) g h = refl
binary_tag (suc (suc (suc (suc (suc (suc (suc (suc (suc (suc (suc t))))))))))) g h = absurd (omega arith)

pub unary_tag : (t : ℕ) → 11 ≤ t → t < 13 → form_of t ≡ Unary
unfolding form_in form_of_sign
unary_tag zero g h = absurd (omega arith)
unary_tag (suc zero) g h = absurd (omega arith)
unary_tag (suc (suc zero)) g h = absurd (omega arith)
unary_tag (suc (suc (suc zero))) g h = absurd (omega arith)
unary_tag (suc (suc (suc (suc zero)))) g h = absurd (omega arith)
unary_tag (suc (suc (suc (suc (suc zero))))) g h = absurd (omega arith)
unary_tag (suc (suc (suc (suc (suc (suc zero)))))) g h = absurd (omega arith)
unary_tag (suc (suc (suc (suc (suc (suc (suc zero))))))) g h = absurd (omega arith)
unary_tag (suc (suc (suc (suc (suc (suc (suc (suc zero)))))))) g h = absurd (omega arith)
unary_tag (suc (suc (suc (suc (suc (suc (suc (suc (suc zero))))))))) g h = absurd (omega arith)
unary_tag (suc (suc (suc (suc (suc (suc (suc (suc (suc (suc zero)))))))))) g h = absurd (omega arith)
unary_tag (suc (suc (suc (suc (suc (suc (suc (suc (suc (suc (suc zero))))))))))) g h = refl
unary_tag (suc (suc (suc (suc (suc (suc (suc (suc (suc (suc (suc (suc zero)))))))))))) g h = refl
unary_tag (suc (suc (suc (suc (suc (suc (suc (suc (suc (suc (suc (suc (suc t))))))))))))) g h = absurd (omega arith)

pub unknown_tag : (t : ℕ) → 13 ≤ t → form_of t ≡ Unknown
unfolding form_in form_of_sign
unknown_tag zero g = absurd (omega arith)
unknown_tag (suc zero) g = absurd (omega arith)
unknown_tag (suc (suc zero)) g = absurd (omega arith)
unknown_tag (suc (suc (suc zero))) g = absurd (omega arith)
unknown_tag (suc (suc (suc (suc zero)))) g = absurd (omega arith)
unknown_tag (suc (suc (suc (suc (suc zero))))) g = absurd (omega arith)
unknown_tag (suc (suc (suc (suc (suc (suc zero)))))) g = absurd (omega arith)
unknown_tag (suc (suc (suc (suc (suc (suc (suc zero))))))) g = absurd (omega arith)
unknown_tag (suc (suc (suc (suc (suc (suc (suc (suc zero)))))))) g = absurd (omega arith)
unknown_tag (suc (suc (suc (suc (suc (suc (suc (suc (suc zero))))))))) g = absurd (omega arith)
unknown_tag (suc (suc (suc (suc (suc (suc (suc (suc (suc (suc zero)))))))))) g = absurd (omega arith)
unknown_tag (suc (suc (suc (suc (suc (suc (suc (suc (suc (suc (suc zero))))))))))) g = absurd (omega arith)
unknown_tag (suc (suc (suc (suc (suc (suc (suc (suc (suc (suc (suc (suc zero)))))))))))) g = absurd (omega arith)
unknown_tag (suc (suc (suc (suc (suc (suc (suc (suc (suc (suc (suc (suc (suc t))))))))))))) g = refl

-- ---- the parts, by the calls of the code

passed : (end : ℕ) {x : Result ℕ refusal.Refusal} (more : Formula → List ℕ → Read Formula) (m : Read Formula) {k : refusal.Refusal} → x ≡ reads end m → x ≡ Err k → x ≡ reads end (m then more)
unfolding reads ◌then◌
passed end more (got f rest) p q = let z : ◌≡◌ {A = ℕ} 0 1 = cc in absurd (omega arith)
passed end more (refused j) p q = p

module _ (s : List ℕ) (at end levels : ℕ) {r : look.Look} (l : Looked s at end levels r) where
  pub done : {x : Result ℕ refusal.Refusal} → r ≡ Done x → x ≡ reads end (read_formula levels (slice at end s))
  unfolding read_on
  done e = sym (l.right ∙ ap (read_on s at end levels) e)

  pub one_goes_on : r ≡ One → (at < end) × (0 < levels)
  unfolding Goes_on
  one_goes_on e = rw e at l.goes_on

  pub two_goes_on : r ≡ Two → (at < end) × (0 < levels)
  unfolding Goes_on
  two_goes_on e = rw e at l.goes_on

  pub one_read : {x : Result ℕ refusal.Refusal} → r ≡ One → x ≡ reads end (read_formula (levels - 1) (slice (at + 1) end s)) → x ≡ reads end (read_formula levels (slice at end s))
  unfolding read_on
  one_read e p = p ∙ sym (l.right ∙ ap (read_on s at end levels) e)

  -- the first part's refusal is the whole's
  pub first_refused : {x : Result ℕ refusal.Refusal} {k : refusal.Refusal} → r ≡ Two → x ≡ reads end (read_formula (levels - 1) (slice (at + 1) end s)) → x ≡ Err k
      → x ≡ reads end (read_formula levels (slice at end s))
  unfolding read_on
  first_refused e p q = passed end (λ a rest. read_formula (levels - 1) rest) (read_formula (levels - 1) (slice (at + 1) end s)) p q ∙ sym (l.right ∙ ap (read_on s at end levels) e)

  pub second_within : {next : ℕ} → (bytes : Bytes s) (inside : end ≤ length s) → r ≡ Two → reads end (read_formula (levels - 1) (slice (at + 1) end s)) ≡ Ok next → next ≤ end
  second_within {next} bytes inside e p = (reached s bytes end inside (levels - 1) (at + 1) next (omega (arith, two_goes_on e)) p).within

  pub two_read : {x : Result ℕ refusal.Refusal} {next : ℕ} → (bytes : Bytes s) (inside : end ≤ length s) → r ≡ Two → reads end (read_formula (levels - 1) (slice (at + 1) end s)) ≡ Ok next
      → x ≡ reads end (read_formula (levels - 1) (slice next end s)) → x ≡ reads end (read_formula levels (slice at end s))
  unfolding read_on ◌then◌
  two_read {next = next} bytes inside e p q =
      let first = reached s bytes end inside (levels - 1) (at + 1) next (omega (arith, two_goes_on e)) p in
      q ∙ sym (l.right ∙ ap (read_on s at end levels) e ∙ rw first.read)

-- ---- one formula, the whole slice

pub slice_whole : (s : List ℕ) → slice 0 (length s) s ≡ s
slice_whole s = take-length s

module _ (s : List ℕ) {x : Result ℕ refusal.Refusal} (read : x ≡ reads (length s) (read_formula highest_formula (slice 0 (length s) s))) where
  pub whole_refused : {k : refusal.Refusal} → x ≡ Err k → x ≡ reads (length s) (read_one s)
  unfolding read_one
  whole_refused e = passed (length s) (λ f rest. at_end f rest) (read_formula highest_formula s) (rw slice_whole at read) e

  module _ (bytes : Bytes s) {next : ℕ} (e : x ≡ Ok next) where
    there : Reached s bytes (length s) (le_refl (length s)) highest_formula 0 next
    there = reached s bytes (length s) (le_refl (length s)) highest_formula 0 next (omega arith) (sym read ∙ e)

    left : (rest : List ℕ) → slice next (length s) s ≡ rest → read_one s ≡ at_end there.formula rest
    unfolding read_one ◌then◌
    left rest h = let r : read_formula highest_formula s ≡ got there.formula rest = ap (read_formula highest_formula) (sym (slice_whole s)) ∙ there.read ∙ ap (got there.formula) h in rw r

    pub whole_read : next ≡ length s → Ok next ≡ reads (length s) (read_one s)
    unfolding reads at_end
    whole_read h = rw (left [] (ap (λ (k : ℕ). slice k (length s) s) h ∙ slice_empty (length s) s)) (ap Ok (omega arith))

    pub whole_left : (next ≡ length s → ⊥) → Err WrongLength ≡ reads (length s) (read_one s)
    unfolding reads coded at_end
    whole_left h =
        let more : next < length s = omega (arith, there.within) in
        rw (left (get_or s next 0 ∷ slice (next + 1) (length s) s) (tag_and_parts s next (length s) more (le_refl (length s))))
