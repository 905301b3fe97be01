-- Printing is injective: two formulas with the same text are the same, with `pretty` and with `pretty_ascii`. A printed text can be read back, whatever follows it in a printed text;
-- one proof for both printings. Assumes nothing.
use Rattle.std.specs.Prelude.{◌≡◌, refl, Bool, true, false, eqb}
use Rattle.std.proofs.Common.{sym, ap, ◌∙◌, eqb-true, eq-eqb, lt-ltb, le-ltb, arith, div-add-mod', mod-lt}
use mathlib.Core.List.{List, [], ◌∷◌, ◌++◌, append-nil, append_assoc}
use Rattle.std.proofs.Math.Option.{Option, some, bind, or_else, some-injective}
use Prim.Native.Nat.{ℕ, zero, suc, ◌+◌, ◌*◌, ◌/◌, ◌%◌, ◌≤◌, ◌<◌}
use Rattle.std.proofs.lemmas.Bool.{eqb-false}
use Rattle.logic.specs.Formula.{Formula, One, Bottom, Top, Zero, Atom, NegAtom, Tensor, Par, With, Plus, Lolli, OfCourse, WhyNot, height}
use Rattle.logic.specs.Text.{Signs, unicode, ascii, digits_within, digits, infix_text, printed, pretty, pretty_ascii}
use Rattle.logic.proofs.FormulaLaws.{height_positive}
use Rattle.logic.specs.TextRead.{after, read_one_of, units, connectives, read_digits, name_or_negation, read_sign, read_infix, read_part, read_other, read_formula, Ends, Readable}

after_prefix : (prefix rest : List ℕ) → after prefix (prefix ++ rest) ≡ some rest
unfolding after
after_prefix [] rest = refl
after_prefix (p ∷ ps) rest = rw (eq-eqb p p refl, after) (after_prefix ps rest)

-- a digit's byte is read as one more digit
read_digit : (m d : ℕ) (t : List ℕ) → d < 10 → read_digits m ((48 + d) ∷ t) ≡ read_digits (m * 10 + d) t
unfolding read_digits
read_digit m d t h = rw (le-ltb (48 + d) 48 (omega arith), read_digits) (rw (lt-ltb (48 + d) 58 (omega arith), read_digits) (ap (λ x. read_digits (m * 10 + x) t) (omega arith)))

-- a number in decimal is read as that number
read_number : (fuel n : ℕ) (t : List ℕ) → n < fuel → read_digits 0 (digits_within fuel n ++ t) ≡ read_digits n t
unfolding digits_within
read_number zero n t h = absurd (omega arith)
read_number (suc fuel) n t h = go (eqb (n / 10) 0) refl (read_number fuel (n / 10) ((48 + n % 10) ∷ t))
  where
    whole : n / 10 * 10 + n % 10 ≡ n
    whole = div-add-mod' n 10

    last_digit : (m : ℕ) → m ≡ n / 10 → read_digits m ((48 + n % 10) ∷ t) ≡ read_digits n t
    last_digit m e = read_digit m (n % 10) t (mod-lt n (omega arith)) ∙ ap (λ x. read_digits x t) (ap (λ x. x * 10 + n % 10) e ∙ whole)

    go : (b : Bool) → eqb (n / 10) 0 ≡ b → (n / 10 < fuel → read_digits 0 (digits_within fuel (n / 10) ++ ((48 + n % 10) ∷ t)) ≡ read_digits (n / 10) ((48 + n % 10) ∷ t)) → read_digits 0 (elim b as (λ _. List ℕ) [ true ↦ (48 + n % 10) ∷ [] | false ↦ digits_within fuel (n / 10) ++ ((48 + n % 10) ∷ []) ] ++ t) ≡ read_digits n t
    go true e ih = last_digit 0 (sym (eqb-true (n / 10) 0 e))
    go false e ih = rw append_assoc (ih (omega (arith, whole, eqb-false (n / 10) 0 e)) ∙ last_digit (n / 10) refl)

module _ (σ : Signs) (readable : Readable σ) where
  read_atom : (n : ℕ) (rest : List ℕ) → Ends σ rest → read_sign σ (read_digits 0 (digits n ++ rest)) ≡ (Atom n, rest)
  unfolding read_sign name_or_negation
  read_atom n rest ends = rw (read_number (suc n) n rest (omega arith), ends.number_ends n, ends.no_negation)

  read_negation : (n : ℕ) (rest : List ℕ) → read_sign σ (read_digits 0 ((digits n ++ σ.negation) ++ rest)) ≡ (NegAtom n, rest)
  unfolding read_sign name_or_negation
  read_negation n rest = rw (append_assoc (digits n) σ.negation rest, read_number (suc n) n (σ.negation ++ rest) (omega arith), readable.ends_at_negation n rest, after_prefix σ.negation rest)

  -- `reader` reads f wherever f is printed
  abbrev Reads : (List ℕ → Option (Formula × List ℕ)) → Formula → Type 0
  Reads reader f = (rest : List ℕ) → Ends σ rest → reader (printed σ f ++ rest) ≡ some (f, rest)

  read_connective : (fuel : ℕ) (a b : Formula) (sign : List ℕ) (make : Formula → Formula → Formula) → Reads (read_formula σ fuel) a → Reads (read_formula σ fuel) b → ((t : List ℕ) → read_one_of (connectives σ) (sign ++ t) ≡ some (make, t)) → (rest : List ℕ) → read_formula σ (suc fuel) (infix_text sign (printed σ a) (printed σ b) ++ rest) ≡ some (make a b, rest)
  unfolding read_formula or_else read_other read_infix bind after
  read_connective fuel a b sign make ra rb rs rest =
      let behind_a : List ℕ = 32 ∷ (sign ++ (32 ∷ (printed σ b ++ (41 ∷ rest)))) in
      simp append_assoc
      (rw (readable.bracket_no_unit (printed σ a ++ behind_a), ra behind_a (readable.ends_at_space _)) (rw (rs (32 ∷ (printed σ b ++ (41 ∷ rest)))) (rw (rb (41 ∷ rest) (readable.ends_at_bracket rest)))))

  -- a printed formula is read back, whatever follows it in a printed text
  pub reads_back : (fuel : ℕ) (f : Formula) → height f ≤ fuel → (rest : List ℕ) → Ends σ rest → read_formula σ fuel (printed σ f ++ rest) ≡ some (f, rest)
  unfolding printed height read_formula or_else read_other read_part
  reads_back zero f h rest ends = absurd (omega (arith, height_positive f))
  reads_back (suc fuel) One h rest ends = rw (readable.reads_one rest)
  reads_back (suc fuel) Bottom h rest ends = rw (readable.reads_bottom rest)
  reads_back (suc fuel) Top h rest ends = rw (readable.reads_top rest)
  reads_back (suc fuel) Zero h rest ends = rw (readable.reads_zero rest)
  reads_back (suc fuel) (Atom n) h rest ends = rw (readable.name_no_unit (digits n ++ rest), read_atom n rest ends)
  reads_back (suc fuel) (NegAtom n) h rest ends = rw (readable.name_no_unit ((digits n ++ σ.negation) ++ rest), read_negation n rest)
  reads_back (suc fuel) (Tensor a b) h rest ends = read_connective fuel a b σ.tensor Tensor (reads_back fuel a (omega arith)) (reads_back fuel b (omega arith)) readable.reads_tensor rest
  reads_back (suc fuel) (Par a b) h rest ends = read_connective fuel a b σ.par Par (reads_back fuel a (omega arith)) (reads_back fuel b (omega arith)) readable.reads_par rest
  reads_back (suc fuel) (With a b) h rest ends = read_connective fuel a b σ.with With (reads_back fuel a (omega arith)) (reads_back fuel b (omega arith)) readable.reads_with rest
  reads_back (suc fuel) (Plus a b) h rest ends = read_connective fuel a b σ.plus Plus (reads_back fuel a (omega arith)) (reads_back fuel b (omega arith)) readable.reads_plus rest
  reads_back (suc fuel) (Lolli a b) h rest ends = read_connective fuel a b σ.lolli Lolli (reads_back fuel a (omega arith)) (reads_back fuel b (omega arith)) readable.reads_lolli rest
  reads_back (suc fuel) (OfCourse a) h rest ends = rw (readable.of_course_no_unit (printed σ a ++ rest), reads_back fuel a (omega arith) rest ends)
  reads_back (suc fuel) (WhyNot a) h rest ends = rw (readable.why_not_no_unit (printed σ a ++ rest), reads_back fuel a (omega arith) rest ends)

  pub printed_injective : (f g : Formula) → printed σ f ≡ printed σ g → f ≡ g
  printed_injective f g e = ap (λ p. p.0) (some-injective _ _ (sym (alone f (omega arith)) ∙ ap (read_formula σ fuel) e ∙ alone g (omega arith)))
    where
      fuel : ℕ
      fuel = height f + height g

      alone : (f : Formula) → height f ≤ fuel → read_formula σ fuel (printed σ f) ≡ some (f, [])
      alone f h = ap (read_formula σ fuel) (sym (append-nil (printed σ f))) ∙ reads_back fuel f h [] readable.ends_at_nothing

readable_unicode : Readable unicode
unfolding read_one_of units connectives after read_digits
readable_unicode =
    record {
      reads_one = λ t. refl;
      reads_zero = λ t. refl;
      reads_bottom = λ t. refl;
      reads_top = λ t. refl;
      name_no_unit = λ t. refl;
      bracket_no_unit = λ t. refl;
      of_course_no_unit = λ t. refl;
      why_not_no_unit = λ t. refl;
      reads_tensor = λ t. refl;
      reads_par = λ t. refl;
      reads_lolli = λ t. refl;
      reads_with = λ t. refl;
      reads_plus = λ t. refl;
      ends_at_negation = λ n t. refl;
      ends_at_nothing = record { number_ends = λ n. refl; no_negation = refl };
      ends_at_space = λ t. record { number_ends = λ n. refl; no_negation = refl };
      ends_at_bracket = λ t. record { number_ends = λ n. refl; no_negation = refl };
    }

readable_ascii : Readable ascii
unfolding read_one_of units connectives after read_digits
readable_ascii =
    record {
      reads_one = λ t. refl;
      reads_zero = λ t. refl;
      reads_bottom = λ t. refl;
      reads_top = λ t. refl;
      name_no_unit = λ t. refl;
      bracket_no_unit = λ t. refl;
      of_course_no_unit = λ t. refl;
      why_not_no_unit = λ t. refl;
      reads_tensor = λ t. refl;
      reads_par = λ t. refl;
      reads_lolli = λ t. refl;
      reads_with = λ t. refl;
      reads_plus = λ t. refl;
      ends_at_negation = λ n t. refl;
      ends_at_nothing = record { number_ends = λ n. refl; no_negation = refl };
      ends_at_space = λ t. record { number_ends = λ n. refl; no_negation = refl };
      ends_at_bracket = λ t. record { number_ends = λ n. refl; no_negation = refl };
    }

pub pretty_injective : (f g : Formula) → pretty f ≡ pretty g → f ≡ g
pretty_injective = printed_injective unicode readable_unicode

pub pretty_ascii_injective : (f g : Formula) → pretty_ascii f ≡ pretty_ascii g → f ≡ g
pretty_ascii_injective = printed_injective ascii readable_ascii
