-- Formulas, as in formula.rs: the 13 signs, `negate`, `desugar`, `is_positive`; and document 01's height and size. A name is a number: name 17 is the Rust atom `a17`.
-- Assumes nothing.
use Rattle.std.specs.Prelude.{◌≡◌, refl, Bool, true, false, List, [], ◌∷◌, ℕ, suc, ◌+◌, max, eqb}
use Rattle.std.proofs.Common.{eqb-true}
use Rattle.std.proofs.lemmas.Bool.{eqb-false}

pub data Formula : Type 0 where
  One Bottom Top Zero : Formula
  Atom NegAtom : ℕ → Formula
  Tensor Par With Plus Lolli : Formula → Formula → Formula
  OfCourse WhyNot : Formula → Formula
  deriving Discrete as FormulaDiscrete

-- `==` on names, and on formulas (the derived `PartialEq`)
abbrev pub name_dec : (a b : ℕ) → Dec (a ≡ b)
name_dec a b = go (eqb a b) refl
  where
    go : (t : Bool) → eqb a b ≡ t → Dec (a ≡ b)
    go true e = yes (eqb-true a b e)
    go false e = no (eqb-false a b e)

abbrev pub is_yes : {A : Type 0} → Dec A → Bool
is_yes (yes a) = true
is_yes (no h) = false

unfoldable pub same : Formula → Formula → Bool
same a b = is_yes (FormulaDiscrete name_dec a b)

-- `seq.linear.contains(..)`
unfoldable pub among : Formula → List Formula → Bool
among x [] = false
among x (y ∷ ys) = elim (same x y) [ true ↦ true | false ↦ among x ys ]

unfoldable pub negate : Formula → Formula
negate (Atom a) = NegAtom a
negate (NegAtom a) = Atom a
negate (Tensor a b) = Par (negate a) (negate b)
negate (Par a b) = Tensor (negate a) (negate b)
negate One = Bottom
negate Bottom = One
negate (With a b) = Plus (negate a) (negate b)
negate (Plus a b) = With (negate a) (negate b)
negate Top = Zero
negate Zero = Top
negate (OfCourse a) = WhyNot (negate a)
negate (WhyNot a) = OfCourse (negate a)
negate (Lolli a b) = Tensor a (negate b)

-- The Rust's `desugar` at an implication calls itself at `a.negate()`, which is no part of the formula. So a formula spelled out and its negation spelled out are computed together, by
-- parts; `FormulaLaws` has the Rust's own equations.
unfoldable mutual
  pub desugar : Formula → Formula
  desugar (Lolli a b) = Par (desugar_negation a) (desugar b)
  desugar (Tensor a b) = Tensor (desugar a) (desugar b)
  desugar (Par a b) = Par (desugar a) (desugar b)
  desugar (With a b) = With (desugar a) (desugar b)
  desugar (Plus a b) = Plus (desugar a) (desugar b)
  desugar (OfCourse a) = OfCourse (desugar a)
  desugar (WhyNot a) = WhyNot (desugar a)
  desugar (Atom a) = Atom a
  desugar (NegAtom a) = NegAtom a
  desugar One = One
  desugar Bottom = Bottom
  desugar Top = Top
  desugar Zero = Zero

  pub desugar_negation : Formula → Formula
  desugar_negation (Lolli a b) = Tensor (desugar a) (desugar_negation b)
  desugar_negation (Tensor a b) = Par (desugar_negation a) (desugar_negation b)
  desugar_negation (Par a b) = Tensor (desugar_negation a) (desugar_negation b)
  desugar_negation (With a b) = Plus (desugar_negation a) (desugar_negation b)
  desugar_negation (Plus a b) = With (desugar_negation a) (desugar_negation b)
  desugar_negation (OfCourse a) = WhyNot (desugar_negation a)
  desugar_negation (WhyNot a) = OfCourse (desugar_negation a)
  desugar_negation (Atom a) = NegAtom a
  desugar_negation (NegAtom a) = Atom a
  desugar_negation One = Bottom
  desugar_negation Bottom = One
  desugar_negation Top = Zero
  desugar_negation Zero = Top

unfoldable pub is_positive : Formula → Bool
is_positive (Atom a) = true
is_positive (Tensor a b) = true
is_positive One = true
is_positive (Plus a b) = true
is_positive Zero = true
is_positive (OfCourse a) = true
is_positive (NegAtom a) = false
is_positive (Par a b) = false
is_positive Bottom = false
is_positive (With a b) = false
is_positive Top = false
is_positive (WhyNot a) = false
is_positive (Lolli a b) = false

-- an implication at the top is spelled out, and nothing inside: what the search visits in its place, and how strict mode reads a linear formula
unfoldable pub spell : Formula → Formula
spell (Lolli a b) = Par (negate a) b
spell (Atom a) = Atom a
spell (NegAtom a) = NegAtom a
spell (Tensor a b) = Tensor a b
spell (Par a b) = Par a b
spell One = One
spell Bottom = Bottom
spell (With a b) = With a b
spell (Plus a b) = Plus a b
spell Top = Top
spell Zero = Zero
spell (OfCourse a) = OfCourse a
spell (WhyNot a) = WhyNot a

-- document 01's height: a formula without parts is 1 high
unfoldable pub height : Formula → ℕ
height One = 1
height Bottom = 1
height Top = 1
height Zero = 1
height (Atom a) = 1
height (NegAtom a) = 1
height (Tensor a b) = suc (max (height a) (height b))
height (Par a b) = suc (max (height a) (height b))
height (With a b) = suc (max (height a) (height b))
height (Plus a b) = suc (max (height a) (height b))
height (Lolli a b) = suc (max (height a) (height b))
height (OfCourse a) = suc (height a)
height (WhyNot a) = suc (height a)

-- the length of its byte form: a byte for a sign, two for a name
unfoldable pub size : Formula → ℕ
size One = 1
size Bottom = 1
size Top = 1
size Zero = 1
size (Atom a) = 3
size (NegAtom a) = 3
size (Tensor a b) = suc (size a + size b)
size (Par a b) = suc (size a + size b)
size (With a b) = suc (size a + size b)
size (Plus a b) = suc (size a + size b)
size (Lolli a b) = suc (size a + size b)
size (OfCourse a) = suc (size a)
size (WhyNot a) = suc (size a)
