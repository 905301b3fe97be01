-- Which sign a formula has at its top, and its parts: what `matches!(f, Formula::Tensor(a, b))` asks and binds. The sign's number is its tag, by document 01's table of tags. Assumes
-- nothing.
use Rattle.std.specs.Prelude.{Bool, true, false, List, [], ◌∷◌, ℕ, get_or}
use Rattle.logic.specs.Formula.{Formula, One, Bottom, Top, Zero, Atom, NegAtom, Tensor, Par, With, Plus, Lolli, OfCourse, WhyNot, same}

unfoldable pub tag_of : Formula → ℕ
tag_of One = 0
tag_of Bottom = 1
tag_of Top = 2
tag_of Zero = 3
tag_of (Atom a) = 4
tag_of (NegAtom a) = 5
tag_of (Tensor a b) = 6
tag_of (Par a b) = 7
tag_of (With a b) = 8
tag_of (Plus a b) = 9
tag_of (Lolli a b) = 10
tag_of (OfCourse a) = 11
tag_of (WhyNot a) = 12

-- the name of a name, negated or not; any other formula counts as named 0
unfoldable pub name_of : Formula → ℕ
name_of One = 0
name_of Bottom = 0
name_of Top = 0
name_of Zero = 0
name_of (Atom a) = a
name_of (NegAtom a) = a
name_of (Tensor a b) = 0
name_of (Par a b) = 0
name_of (With a b) = 0
name_of (Plus a b) = 0
name_of (Lolli a b) = 0
name_of (OfCourse a) = 0
name_of (WhyNot a) = 0

-- the left part and the right part of a formula; the one part counts as both, and a formula without parts as its own
unfoldable pub left_part : Formula → Formula
left_part (Tensor a b) = a
left_part (Par a b) = a
left_part (With a b) = a
left_part (Plus a b) = a
left_part (Lolli a b) = a
left_part (OfCourse a) = a
left_part (WhyNot a) = a
left_part (Atom a) = Atom a
left_part (NegAtom a) = NegAtom a
left_part One = One
left_part Bottom = Bottom
left_part Top = Top
left_part Zero = Zero

unfoldable pub right_part : Formula → Formula
right_part (Tensor a b) = b
right_part (Par a b) = b
right_part (With a b) = b
right_part (Plus a b) = b
right_part (Lolli a b) = b
right_part (OfCourse a) = a
right_part (WhyNot a) = a
right_part (Atom a) = Atom a
right_part (NegAtom a) = NegAtom a
right_part One = One
right_part Bottom = Bottom
right_part Top = Top
right_part Zero = Zero

-- the formula is `sign a b`, or `sign a`, for some a and b
abbrev pub is_binary : (Formula → Formula → Formula) → Formula → Bool
is_binary sign f = same f (sign (left_part f) (right_part f))

abbrev pub is_unary : (Formula → Formula) → Formula → Bool
is_unary sign f = same f (sign (left_part f))

-- the formula is a name or a negated name
unfoldable pub is_literal : Formula → Bool
is_literal (Atom a) = true
is_literal (NegAtom a) = true
is_literal One = false
is_literal Bottom = false
is_literal Top = false
is_literal Zero = false
is_literal (Tensor a b) = false
is_literal (Par a b) = false
is_literal (With a b) = false
is_literal (Plus a b) = false
is_literal (Lolli a b) = false
is_literal (OfCourse a) = false
is_literal (WhyNot a) = false

-- the signs by tag, over a name and two formulas
unfoldable pub signs : List (ℕ → Formula → Formula → Formula)
signs =
    (λ n a b. One)
    ∷ (λ n a b. Bottom)
    ∷ (λ n a b. Top)
    ∷ (λ n a b. Zero)
    ∷ (λ n a b. Atom n)
    ∷ (λ n a b. NegAtom n)
    ∷ (λ n a b. Tensor a b)
    ∷ (λ n a b. Par a b)
    ∷ (λ n a b. With a b)
    ∷ (λ n a b. Plus a b)
    ∷ (λ n a b. Lolli a b)
    ∷ (λ n a b. OfCourse a)
    ∷ (λ n a b. WhyNot a)
    ∷ []

-- what the tag t makes of a name and two formulas
unfoldable pub make : ℕ → ℕ → Formula → Formula → Formula
make t n x y = get_or signs t (λ n a b. One) n x y

-- the formula with the tag t and the name and parts of another
abbrev pub signed : ℕ → Formula → Formula
signed t f = make t (name_of f) (left_part f) (right_part f)

-- the tag of the negation, by the tag
abbrev pub negated_tags : List ℕ
negated_tags = 1 ∷ 0 ∷ 3 ∷ 2 ∷ 5 ∷ 4 ∷ 7 ∷ 6 ∷ 9 ∷ 8 ∷ 6 ∷ 12 ∷ 11 ∷ []

unfoldable pub negated_tag : ℕ → ℕ
negated_tag t = get_or negated_tags t 0
