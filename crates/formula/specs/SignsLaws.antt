-- Laws of signs: each formula has a sign, a table's rule holds at each of its signs, and what stands at a place is known by the form of the tag there. Assumes nothing.
use Rattle.std.specs.Prelude.{◌≡◌, refl, ℕ, zero, suc, ◌+◌, ◌-◌, ◌/◌, ◌%◌, ◌≤◌, ◌<◌, length, get_or, drop}
use Rattle.std.proofs.Common.{sym, ap, ◌∙◌, arith, lt_of_not-le, add-one, length-append, length-drop, drop-cons, drop-drop, drop_at}
use Rattle.std.proofs.Math.Path.{subst}
use mathlib.Core.List.{List, [], ◌∷◌, ◌++◌, append_assoc}
use Rattle.logic.specs.Formula.{Formula, One, Bottom, Top, Zero, Atom, NegAtom, Tensor, Par, With, Plus, Lolli, OfCourse, WhyNot, size}
use Rattle.wire.specs.Write.{write_formula, two_bytes}
use Rattle.wire.specs.Read.{Sign, unit, named, binary, unary, signs}
use Rattle.wire.specs.Gives.{AllAt}
use Rattle.logic.proofs.FormulaLaws.{size_positive}
use Rattle.wire.proofs.FormulaBytes.{length_write}
use Rattle.formula.specs.Reading.{form_of, form_in, form_of_sign}
use Rattle.formula.specs.ReadingLaws.{unknown_tag}
use Rattle.formula.specs.Signs.{At, Signed, a_unit, a_name, a_pair, a_part, Stands, UnitAt, NamedAt, BinaryAt, UnaryAt, Shape}
use Rattle.formula.specs.declared.Form.{Form}

pub signed : (f : Formula) → Signed f
unfolding write_formula
signed One = a_unit 0 refl refl
signed Bottom = a_unit 1 refl refl
signed Top = a_unit 2 refl refl
signed Zero = a_unit 3 refl refl
signed (Atom n) = a_name 4 n Atom refl refl refl
signed (NegAtom n) = a_name 5 n NegAtom refl refl refl
signed (Tensor a b) = a_pair 6 a b Tensor refl refl refl
signed (Par a b) = a_pair 7 a b Par refl refl refl
signed (With a b) = a_pair 8 a b With refl refl refl
signed (Plus a b) = a_pair 9 a b Plus refl refl refl
signed (Lolli a b) = a_pair 10 a b Lolli refl refl refl
signed (OfCourse a) = a_part 11 a OfCourse refl refl refl
signed (WhyNot a) = a_part 12 a WhyNot refl refl refl

-- a rule that holds at each entry of a table holds where a sign stands
pub all_at : (W : ℕ → Sign → Type 0) (ss : List Sign) → AllAt W ss → (t : ℕ) (x : Sign) → At ss t x → W t x
all_at W [] all t x h = absurd h
all_at W (y ∷ ys) all zero x h = rw h at all.0
all_at W (y ∷ ys) all (suc t) x h = all_at (λ n. W (suc n)) ys all.1 t x h

pub form_at : (ss : List Sign) (t : ℕ) (x : Sign) → At ss t x → form_in ss t ≡ form_of_sign x
unfolding form_in
form_at [] t x h = absurd h
form_at (y ∷ ys) zero x h = ap form_of_sign h
form_at (y ∷ ys) (suc t) x h = form_at ys t x h

-- ---- at a place

-- a tag, and what stands behind it
module _ (s : List ℕ) (at t : ℕ) (more : List ℕ) (e : drop at s ≡ t ∷ more) where
  at_inside : at + 1 + length more ≡ length s
  at_inside = let n : suc (length more) ≡ length s - at = sym (ap length e) ∙ length-drop at s in omega arith

  at_tag : get_or s at 0 ≡ t
  at_tag = let p : get_or s at 0 ∷ drop (suc at) s ≡ t ∷ more = sym (drop-cons s at 0 (omega (arith, at_inside))) ∙ e in cc

  at_behind : drop (at + 1) s ≡ more
  at_behind = let p : get_or s at 0 ∷ drop (suc at) s ≡ t ∷ more = sym (drop-cons s at 0 (omega (arith, at_inside))) ∙ e in rw add-one (cc)

module _ (s : List ℕ) (at : ℕ) (f : Formula) (stands : Stands s at f) (t : ℕ) (more : List ℕ) (bytes : write_formula f ≡ t ∷ more) where
  whole : drop at s ≡ t ∷ (more ++ stands.rest)
  whole = stands.here ∙ ap (λ (l : List ℕ). l ++ stands.rest) bytes

  tag_here : get_or s at 0 ≡ t
  tag_here = at_tag s at t (more ++ stands.rest) whole

  behind : drop (at + 1) s ≡ more ++ stands.rest
  behind = at_behind s at t (more ++ stands.rest) whole

  inside_here : at + 1 + length more ≤ length s
  inside_here = omega (arith, at_inside s at t (more ++ stands.rest) whole, length-append more stands.rest)

  wide_here : size f ≡ 1 + length more
  wide_here = omega (arith, length_write f, ap length bytes)

  sign_here : (x : Sign) → At signs t x → At signs (get_or s at 0) x
  sign_here x h = subst (λ (k : ℕ). At signs k x) (sym tag_here) h

  form_here : (x : Sign) → At signs t x → form_of (get_or s at 0) ≡ form_of_sign x
  form_here x h = form_at signs (get_or s at 0) x (sign_here x h)

-- a name's bytes
module _ (s : List ℕ) (at n : ℕ) (rest : List ℕ) (e : drop (at + 1) s ≡ two_bytes n ++ rest) where
  high_byte : get_or s (at + 1) 0 ≡ n / 256
  high_byte = at_tag s (at + 1) (n / 256) ((n % 256) ∷ rest) e

  low_byte : get_or s (at + 2) 0 ≡ n % 256
  low_byte =
      let p : at + 1 + 1 ≡ at + 2 = omega arith in
      ap (λ (k : ℕ). get_or s k 0) (sym p) ∙ at_tag s (at + 1 + 1) (n % 256) rest (at_behind s (at + 1) (n / 256) ((n % 256) ∷ rest) e)

module _ (s : List ℕ) (at : ℕ) (f : Formula) (stands : Stands s at f) where
  unit_at : (t : ℕ) → At signs t (unit f) → write_formula f ≡ t ∷ [] → UnitAt s at f
  unit_at t h b =
      record {
        sign = sign_here s at f stands t [] b (unit f) h;
        bytes = rw (tag_here s at f stands t [] b) b;
        wide = wide_here s at f stands t [] b;
      }

  named_at : (t n : ℕ) (make : ℕ → Formula) → At signs t (named make) → f ≡ make n → write_formula f ≡ t ∷ two_bytes n → NamedAt s at f
  named_at t n make h e b =
      let behind_tag = behind s at f stands t (two_bytes n) b in
      record {
        name = n;
        make = make;
        sign = sign_here s at f stands t (two_bytes n) b (named make) h;
        same = e;
        wide = wide_here s at f stands t (two_bytes n) b;
        high = high_byte s at n stands.rest behind_tag;
        low = low_byte s at n stands.rest behind_tag;
        inside = omega (arith, inside_here s at f stands t (two_bytes n) b);
      }

  binary_at : (t : ℕ) (x y : Formula) (make : Formula → Formula → Formula) → At signs t (binary make) → f ≡ make x y → write_formula f ≡ t ∷ (write_formula x ++ write_formula y) → BinaryAt s at f
  binary_at t x y make h e b =
      let parts : List ℕ = write_formula x ++ write_formula y in
      let both : drop (at + 1) s ≡ write_formula x ++ (write_formula y ++ stands.rest) = behind s at f stands t parts b ∙ append_assoc (write_formula x) (write_formula y) stands.rest in
      record {
        first = x;
        second = y;
        make = make;
        sign = sign_here s at f stands t parts b (binary make) h;
        same = e;
        wide = omega (arith, wide_here s at f stands t parts b, length-append (write_formula x) (write_formula y), length_write x, length_write y);
        first_stands = record { rest = write_formula y ++ stands.rest; here = both };
        second_stands =
            record {
              rest = stands.rest;
              here =
                  sym (drop-drop (size x) (at + 1) s) ∙ ap (drop (size x)) both ∙ drop_at (write_formula x) (write_formula y ++ stands.rest) (size x) (length_write x);
            };
      }

  unary_at : (t : ℕ) (x : Formula) (make : Formula → Formula) → At signs t (unary make) → f ≡ make x → write_formula f ≡ t ∷ write_formula x → UnaryAt s at f
  unary_at t x make h e b =
      record {
        part = x;
        make = make;
        sign = sign_here s at f stands t (write_formula x) b (unary make) h;
        same = e;
        wide = omega (arith, wide_here s at f stands t (write_formula x) b, length_write x);
        part_stands = record { rest = stands.rest; here = behind s at f stands t (write_formula x) b };
      }

  -- what stands there has the shape of its tag
  shape_of : Signed f → Shape s at f (form_of (get_or s at 0))
  unfolding form_of_sign
  shape_of (a_unit t h b) = subst (Shape s at f) (sym (form_here s at f stands t [] b (unit f) h)) (unit_at t h b)
  shape_of (a_name t n m h e b) = subst (Shape s at f) (sym (form_here s at f stands t (two_bytes n) b (named m) h)) (named_at t n m h e b)
  shape_of (a_pair t x y m h e b) = subst (Shape s at f) (sym (form_here s at f stands t (write_formula x ++ write_formula y) b (binary m) h)) (binary_at t x y m h e b)
  shape_of (a_part t x m h e b) = subst (Shape s at f) (sym (form_here s at f stands t (write_formula x) b (unary m) h)) (unary_at t x m h e b)

  pub shaped : {form : Form} → form_of (get_or s at 0) ≡ form → Shape s at f form
  shaped e = subst (Shape s at f) e (shape_of (signed f))

  -- it starts inside the slice
  pub starts_inside : at < length s
  starts_inside = omega (arith, size_positive f, length_write f, length-append (write_formula f) stands.rest, ap length stands.here, length-drop at s)

  pub tag_below : get_or s at 0 < 13
  tag_below = lt_of_not-le λ h. shaped (unknown_tag (get_or s at 0) h)
