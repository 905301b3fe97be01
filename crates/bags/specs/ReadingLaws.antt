-- Laws of reading a formula: its tag and what follows it determine it, and are those of the formula read another way, by the tables. Assumes nothing.
use Rattle.std.specs.Prelude.{◌≡◌, refl, Bool, true, false, ◌&&◌, ◌∷◌, ℕ, suc, ◌≤◌, ◌<◌, eqb}
use Rattle.std.proofs.Common.{sym, ap, ap₂, ◌∙◌, arith, ⊎_elim, eq-eqb, eqb-true, lit<}
use Rattle.std.proofs.Math.Bool.{So, and-eq-true_iff}
use Rattle.std.proofs.Math.ListN.{get_or-eq_default}
use Rattle.std.proofs.lemmas.Bool.{cases_lt}
use Rattle.formula.specs.Reading.{form_of}
use Rattle.formula.specs.ReadingLaws.{unit_tag, named_tag, binary_tag, unary_tag, unknown_tag}
use Rattle.formula.specs.declared.Form.{Form}
use Rattle.formula.specs.declared.Form.TheVariants.{Unit, Named, Binary, Unary, Unknown}
use Rattle.logic.specs.Formula.{Formula, One, Bottom, Top, Zero, Atom, NegAtom, Tensor, Par, With, Plus, Lolli, OfCourse, WhyNot, negate, spell, size, height, same}
use Rattle.logic.proofs.FormulaLaws.{same_iff, different_same}
use Rattle.logic.specs.Parts.{tag_of, signs, make, negated_tags, negated_tag}
use Rattle.wire.specs.Write.{write_formula}
use Rattle.bags.specs.Reading.{read_as, Rest, unit, named, binary, unary, rest_of, Follows, write_rest, rest_size, rest_height, sign_of, left_how, right_how, rest_as}
use Rattle.bags.specs.declared.How.{How}
use Rattle.bags.specs.declared.How.TheVariants.{Plain, Spelled, Negated}

-- the tag settles what follows it
pub follows : (f : Formula) → Follows (tag_of f) (rest_of f)
unfolding tag_of rest_of
follows One = lit< tt
follows Bottom = lit< tt
follows Top = lit< tt
follows Zero = lit< tt
follows (Atom a) = (omega arith, lit< tt)
follows (NegAtom a) = (omega arith, lit< tt)
follows (Tensor a b) = (omega arith, lit< tt)
follows (Par a b) = (omega arith, lit< tt)
follows (With a b) = (omega arith, lit< tt)
follows (Plus a b) = (omega arith, lit< tt)
follows (Lolli a b) = (omega arith, lit< tt)
follows (OfCourse a) = (omega arith, lit< tt)
follows (WhyNot a) = (omega arith, lit< tt)

-- bytes, size and height, by the tag and what follows it
parts_measure : (f : Formula) → (write_formula f ≡ tag_of f ∷ write_rest (rest_of f)) × (size f ≡ suc (rest_size (rest_of f))) × (height f ≡ suc (rest_height (rest_of f)))
unfolding write_formula size height tag_of rest_of write_rest rest_size rest_height
parts_measure One = (refl, refl, refl)
parts_measure Bottom = (refl, refl, refl)
parts_measure Top = (refl, refl, refl)
parts_measure Zero = (refl, refl, refl)
parts_measure (Atom a) = (refl, refl, refl)
parts_measure (NegAtom a) = (refl, refl, refl)
parts_measure (Tensor a b) = (refl, refl, refl)
parts_measure (Par a b) = (refl, refl, refl)
parts_measure (With a b) = (refl, refl, refl)
parts_measure (Plus a b) = (refl, refl, refl)
parts_measure (Lolli a b) = (refl, refl, refl)
parts_measure (OfCourse a) = (refl, refl, refl)
parts_measure (WhyNot a) = (refl, refl, refl)

pub write_parts : (f : Formula) → write_formula f ≡ tag_of f ∷ write_rest (rest_of f)
write_parts f = (parts_measure f).0

pub size_parts : (f : Formula) → size f ≡ suc (rest_size (rest_of f))
size_parts f = (parts_measure f).1

pub height_parts : (f : Formula) → height f ≡ suc (rest_height (rest_of f))
height_parts f = (parts_measure f).2

-- the formula of a tag and what follows it: so the two determine it
unfoldable formed : ℕ → Rest → Formula
formed t unit = make t 0 One One
formed t (named n) = make t n One One
formed t (binary a b) = make t 0 a b
formed t (unary a) = make t 0 a One

formed_parts : (f : Formula) → formed (tag_of f) (rest_of f) ≡ f
unfolding formed make signs tag_of rest_of
formed_parts One = refl
formed_parts Bottom = refl
formed_parts Top = refl
formed_parts Zero = refl
formed_parts (Atom a) = refl
formed_parts (NegAtom a) = refl
formed_parts (Tensor a b) = refl
formed_parts (Par a b) = refl
formed_parts (With a b) = refl
formed_parts (Plus a b) = refl
formed_parts (Lolli a b) = refl
formed_parts (OfCourse a) = refl
formed_parts (WhyNot a) = refl

pub two_formed : (f : Formula) {a b : Formula} → rest_of f ≡ binary a b → f ≡ make (tag_of f) 0 a b
unfolding formed
two_formed f e = sym (formed_parts f) ∙ ap (formed (tag_of f)) e

pub one_formed : (f : Formula) {a : Formula} → rest_of f ≡ unary a → f ≡ make (tag_of f) 0 a One
unfolding formed
one_formed f e = sym (formed_parts f) ∙ ap (formed (tag_of f)) e

parts_determine : (f g : Formula) → tag_of f ≡ tag_of g → rest_of f ≡ rest_of g → f ≡ g
parts_determine f g e r = sym (formed_parts f) ∙ ap₂ formed e r ∙ formed_parts g

-- a formula read another way
abbrev ReadParts : How → Formula → Type 0
ReadParts how f = (tag_of (read_as how f) ≡ sign_of (tag_of f) how) × (rest_of (read_as how f) ≡ rest_as how (tag_of f) (rest_of f))

spelled_parts : (f : Formula) → ReadParts Spelled f
unfolding tag_of rest_of spell sign_of rest_as read_as left_how right_how
spelled_parts One = (refl, refl)
spelled_parts Bottom = (refl, refl)
spelled_parts Top = (refl, refl)
spelled_parts Zero = (refl, refl)
spelled_parts (Atom a) = (refl, refl)
spelled_parts (NegAtom a) = (refl, refl)
spelled_parts (Tensor a b) = (refl, refl)
spelled_parts (Par a b) = (refl, refl)
spelled_parts (With a b) = (refl, refl)
spelled_parts (Plus a b) = (refl, refl)
spelled_parts (Lolli a b) = (refl, refl)
spelled_parts (OfCourse a) = (refl, refl)
spelled_parts (WhyNot a) = (refl, refl)

negated_parts : (f : Formula) → ReadParts Negated f
unfolding tag_of rest_of negate sign_of negated_tag rest_as read_as left_how right_how
negated_parts One = (refl, refl)
negated_parts Bottom = (refl, refl)
negated_parts Top = (refl, refl)
negated_parts Zero = (refl, refl)
negated_parts (Atom a) = (refl, refl)
negated_parts (NegAtom a) = (refl, refl)
negated_parts (Tensor a b) = (refl, refl)
negated_parts (Par a b) = (refl, refl)
negated_parts (With a b) = (refl, refl)
negated_parts (Plus a b) = (refl, refl)
negated_parts (Lolli a b) = (refl, refl)
negated_parts (OfCourse a) = (refl, refl)
negated_parts (WhyNot a) = (refl, refl)

plain_rest : (t : ℕ) (r : Rest) → r ≡ rest_as Plain t r
unfolding rest_as read_as left_how right_how
plain_rest t unit = refl
plain_rest t (named n) = refl
plain_rest t (binary a b) = refl
plain_rest t (unary a) = refl

plain_parts : (f : Formula) → ReadParts Plain f
unfolding read_as sign_of
plain_parts f = (refl, plain_rest (tag_of f) (rest_of f))

pub read_tag : (how : How) (f : Formula) → tag_of (read_as how f) ≡ sign_of (tag_of f) how
read_tag Plain f = (plain_parts f).0
read_tag Spelled f = (spelled_parts f).0
read_tag Negated f = (negated_parts f).0

pub read_rest : (how : How) (f : Formula) → rest_of (read_as how f) ≡ rest_as how (tag_of f) (rest_of f)
read_rest Plain f = (plain_parts f).1
read_rest Spelled f = (spelled_parts f).1
read_rest Negated f = (negated_parts f).1

pub negated_beyond : (t : ℕ) → 12 < t → 0 ≡ negated_tag t
unfolding negated_tag
negated_beyond t h = sym (get_or-eq_default negated_tags 0 {n = t} h)

-- the tag, as it is read, settles what follows
fits_rest : (how : How) (t u : ℕ) (r : Rest) → Follows u (rest_as how t r) → Follows u r
unfolding rest_as
fits_rest how t u unit h = h
fits_rest how t u (named n) h = h
fits_rest how t u (binary a b) h = h
fits_rest how t u (unary a) h = h

pub read_follows : (how : How) (f : Formula) → Follows (tag_of (read_as how f)) (rest_of f)
read_follows how f = fits_rest how (tag_of f) _ (rest_of f) (rw read_rest at (follows (read_as how f)))

module _ {t : ℕ} where
  pub unit_follows : (r : Rest) → Follows t r → t < 4 → r ≡ unit
  unit_follows unit h k = refl
  unit_follows (named n) h k = absurd (omega arith)
  unit_follows (binary a b) h k = absurd (omega arith)
  unit_follows (unary a) h k = absurd (omega arith)

  pub name_follows : (r : Rest) → Follows t r → 4 ≤ t → t < 6 → (n : ℕ) × (r ≡ named n)
  name_follows unit h k k' = absurd (omega arith)
  name_follows (named n) h k k' = (n, refl)
  name_follows (binary a b) h k k' = absurd (omega arith)
  name_follows (unary a) h k k' = absurd (omega arith)

  pub two_follow : (r : Rest) → Follows t r → 6 ≤ t → t < 11 → (a : Formula) × (b : Formula) × (r ≡ binary a b)
  two_follow unit h k k' = absurd (omega arith)
  two_follow (named n) h k k' = absurd (omega arith)
  two_follow (binary a b) h k k' = (a, b, refl)
  two_follow (unary a) h k k' = absurd (omega arith)

  pub one_follows : (r : Rest) → Follows t r → 11 ≤ t → (a : Formula) × (r ≡ unary a)
  one_follows unit h k = absurd (omega arith)
  one_follows (named n) h k = absurd (omega arith)
  one_follows (binary a b) h k = absurd (omega arith)
  one_follows (unary a) h k = (a, refl)

-- two tests that say yes alike are the same
pub same_test : (a b : Bool) → (So a → So b) → (So b → So a) → a ≡ b
same_test true true h k = refl
same_test true false h k = sym (h refl)
same_test false true h k = k refl
same_test false false h k = refl

-- whether two formulas are the same, by their tags and what follows
pub other_tags : (f g : Formula) → (tag_of f ≡ tag_of g → ⊥) → same f g ≡ false
other_tags f g h = different_same f g λ e. h (ap tag_of e)

module _ (f g : Formula) (tags : tag_of f ≡ tag_of g) where
  pub same_units : rest_of f ≡ unit → rest_of g ≡ unit → same f g ≡ true
  same_units p q = (same_iff f g).1 (parts_determine f g tags (p ∙ sym q))

  pub same_names : {m n : ℕ} → rest_of f ≡ named m → rest_of g ≡ named n → same f g ≡ eqb m n
  same_names {m} {n} p q =
      same_test _ _
      (λ e. let r : rest_of f ≡ rest_of g = ap rest_of ((same_iff f g).0 e) in let k : m ≡ n = cc in eq-eqb m n k)
      (λ e. (same_iff f g).1 (parts_determine f g tags (p ∙ ap named (eqb-true m n e) ∙ sym q)))

  pub same_ones : {a b : Formula} → rest_of f ≡ unary a → rest_of g ≡ unary b → same f g ≡ same a b
  same_ones {a} {b} p q =
      same_test _ _
      (λ e. let r : rest_of f ≡ rest_of g = ap rest_of ((same_iff f g).0 e) in let k : a ≡ b = cc in (same_iff a b).1 k)
      (λ e. (same_iff f g).1 (parts_determine f g tags (p ∙ ap unary ((same_iff a b).0 e) ∙ sym q)))

  pub same_twos : {a a' b b' : Formula} → rest_of f ≡ binary a a' → rest_of g ≡ binary b b' → same f g ≡ same a b && same a' b'
  same_twos {a} {a'} {b} {b'} p q =
      same_test _ _
      (λ e. let r : rest_of f ≡ rest_of g = ap rest_of ((same_iff f g).0 e) in
      let k : a ≡ b = cc in
      let k' : a' ≡ b' = cc in
      (and-eq-true_iff (same a b) (same a' b')).1 ((same_iff a b).1 k, (same_iff a' b').1 k'))
      (λ e.
      let k = (and-eq-true_iff (same a b) (same a' b')).0 e in
      (same_iff f g).1 (parts_determine f g tags (p ∙ ap₂ binary ((same_iff a b).0 k.0) ((same_iff a' b').0 k.1) ∙ sym q)))

-- ---- the tags of a form

abbrev pub TagOf : Form → ℕ → Type 0
TagOf Unit t = t < 4
TagOf Named t = (4 ≤ t) × (t < 6)
TagOf Binary t = (6 ≤ t) × (t < 11)
TagOf Unary t = 11 ≤ t
TagOf Unknown t = 11 ≤ t

pub tag_of_form : {f : Form} (t : ℕ) → f ≡ form_of t → TagOf f t
tag_of_form t e = rw e (⊎_elim unit_here (λ h. ⊎_elim (named_here h) (λ h. ⊎_elim (binary_here h) (λ h. ⊎_elim (unary_here h) unknown_here (cases_lt t 13)) (cases_lt t 11)) (cases_lt t 6)) (cases_lt t 4))
  where
    unit_here : t < 4 → TagOf (form_of t) t
    unit_here h = rw (unit_tag t h) h

    named_here : 4 ≤ t → t < 6 → TagOf (form_of t) t
    named_here h k = rw (named_tag t h k) (h, k)

    binary_here : 6 ≤ t → t < 11 → TagOf (form_of t) t
    binary_here h k = rw (binary_tag t h k) (h, k)

    unary_here : 11 ≤ t → t < 13 → TagOf (form_of t) t
    unary_here h k = rw (unary_tag t h k) h

    unknown_here : 13 ≤ t → TagOf (form_of t) t
    unknown_here h = rw (unknown_tag t h) (omega arith)
