-- How a formula of a message is read, and what its tag and its parts are then. Assumes nothing.
use Rattle.std.specs.Prelude.{true, false, List, [], ◌++◌, ℕ, ◌+◌, ◌≤◌, ◌<◌, max, eqb}
use Rattle.logic.specs.Formula.{Formula, One, Bottom, Top, Zero, Atom, NegAtom, Tensor, Par, With, Plus, Lolli, OfCourse, WhyNot, negate, spell, size, height}
use Rattle.logic.specs.Parts.{negated_tag}
use Rattle.wire.specs.Write.{two_bytes, write_formula}
use Rattle.bags.specs.declared.How.{How}
use Rattle.bags.specs.declared.How.TheVariants.{Plain, Spelled, Negated}

unfoldable pub read_as : How → Formula → Formula
read_as Plain f = f
read_as Spelled f = spell f
read_as Negated f = negate f

-- what follows the tag of a formula
pub data Rest : Type 0 where
  unit : Rest
  named : ℕ → Rest
  binary : Formula → Formula → Rest
  unary : Formula → Rest

unfoldable pub rest_of : Formula → Rest
rest_of One = unit
rest_of Bottom = unit
rest_of Top = unit
rest_of Zero = unit
rest_of (Atom a) = named a
rest_of (NegAtom a) = named a
rest_of (Tensor a b) = binary a b
rest_of (Par a b) = binary a b
rest_of (With a b) = binary a b
rest_of (Plus a b) = binary a b
rest_of (Lolli a b) = binary a b
rest_of (OfCourse a) = unary a
rest_of (WhyNot a) = unary a

-- which tags are followed by what
abbrev pub Follows : ℕ → Rest → Type 0
Follows t unit = t < 4
Follows t (named n) = (4 ≤ t) × (t < 6)
Follows t (binary a b) = (6 ≤ t) × (t < 11)
Follows t (unary a) = (11 ≤ t) × (t < 13)

unfoldable pub write_rest : Rest → List ℕ
write_rest unit = []
write_rest (named n) = two_bytes n
write_rest (binary a b) = write_formula a ++ write_formula b
write_rest (unary a) = write_formula a

unfoldable pub rest_size : Rest → ℕ
rest_size unit = 0
rest_size (named n) = 2
rest_size (binary a b) = size a + size b
rest_size (unary a) = size a

unfoldable pub rest_height : Rest → ℕ
rest_height unit = 0
rest_height (named n) = 0
rest_height (binary a b) = max (height a) (height b)
rest_height (unary a) = height a

-- the tag of a formula read so, by its tag
unfoldable pub sign_of : ℕ → How → ℕ
sign_of t Plain = t
sign_of t Spelled = elim (eqb t 10) [ true ↦ 7 | false ↦ t ]
sign_of t Negated = negated_tag t

-- how the left part and the right part are read, where the whole is read so: negation leaves the left of an implication as it stands
unfoldable pub left_how : ℕ → How → How
left_how t Plain = Plain
left_how t Spelled = elim (eqb t 10) [ true ↦ Negated | false ↦ Plain ]
left_how t Negated = elim (eqb t 10) [ true ↦ Plain | false ↦ Negated ]

unfoldable pub right_how : How → How
right_how Plain = Plain
right_how Spelled = Plain
right_how Negated = Negated

-- what follows the tag t, where the whole is read so
unfoldable pub rest_as : How → ℕ → Rest → Rest
rest_as how t unit = unit
rest_as how t (named n) = named n
rest_as how t (binary a b) = binary (read_as (left_how t how) a) (read_as (right_how how) b)
rest_as how t (unary a) = unary (read_as (left_how t how) a)
