-- What demand 3's balance counts, name by name: the plain and the negated places of a name in a formula, and the axiom leaves of a name in a tree; and the multiplicative fragment.
-- Assumes nothing.
use Rattle.std.specs.Prelude.{◌≡◌, Bool, true, false, ◌&&◌, List, [], ◌∷◌, ℕ, ◌+◌, eqb}
use Rattle.logic.specs.Formula.{Formula, One, Bottom, Top, Zero, Atom, NegAtom, Tensor, Par, With, Plus, Lolli, OfCourse, WhyNot, among}
use Rattle.logic.specs.Sequent.{Sequent}
use Rattle.logic.specs.Tree.{
  Rule,
  Axiom,
  Cut,
  OneIntro,
  BottomIntro,
  TensorIntro,
  ParIntro,
  TopIntro,
  WithIntro,
  PlusIntroLeft,
  PlusIntroRight,
  OfCourseIntro,
  WhyNotIntro,
  Weakening,
  Contraction,
  Dereliction,
  FocusPositive,
  FocusNegative,
  Blur,
  Tree,
  Trees,
  node,
  ∅,
  ◌▹◌,
}
use Rattle.logic.specs.Zone.{total}
use Rattle.logic.specs.Legal.{as_number}

-- a name's plain and its negated places in a formula. What stands left in an implication counts the other way round
unfoldable mutual
  pub plain_places : ℕ → Formula → ℕ
  plain_places n (Atom a) = as_number (eqb n a)
  plain_places n (NegAtom a) = 0
  plain_places n (Tensor a b) = plain_places n a + plain_places n b
  plain_places n (Par a b) = plain_places n a + plain_places n b
  plain_places n (Lolli a b) = negated_places n a + plain_places n b
  plain_places n One = 0
  plain_places n Bottom = 0
  plain_places n (With a b) = plain_places n a + plain_places n b
  plain_places n (Plus a b) = plain_places n a + plain_places n b
  plain_places n Top = 0
  plain_places n Zero = 0
  plain_places n (OfCourse a) = plain_places n a
  plain_places n (WhyNot a) = plain_places n a

  pub negated_places : ℕ → Formula → ℕ
  negated_places n (Atom a) = 0
  negated_places n (NegAtom a) = as_number (eqb n a)
  negated_places n (Tensor a b) = negated_places n a + negated_places n b
  negated_places n (Par a b) = negated_places n a + negated_places n b
  negated_places n (Lolli a b) = plain_places n a + negated_places n b
  negated_places n One = 0
  negated_places n Bottom = 0
  negated_places n (With a b) = negated_places n a + negated_places n b
  negated_places n (Plus a b) = negated_places n a + negated_places n b
  negated_places n Top = 0
  negated_places n Zero = 0
  negated_places n (OfCourse a) = negated_places n a
  negated_places n (WhyNot a) = negated_places n a

-- the axiom leaves of a name: Axiom nodes that conclude the name's atom
unfoldable pub is_axiom_rule : Rule → Bool
is_axiom_rule Axiom = true
is_axiom_rule (Cut a) = false
is_axiom_rule OneIntro = false
is_axiom_rule BottomIntro = false
is_axiom_rule TensorIntro = false
is_axiom_rule ParIntro = false
is_axiom_rule TopIntro = false
is_axiom_rule WithIntro = false
is_axiom_rule PlusIntroLeft = false
is_axiom_rule PlusIntroRight = false
is_axiom_rule OfCourseIntro = false
is_axiom_rule WhyNotIntro = false
is_axiom_rule Weakening = false
is_axiom_rule Contraction = false
is_axiom_rule Dereliction = false
is_axiom_rule (FocusPositive i) = false
is_axiom_rule (FocusNegative i) = false
is_axiom_rule Blur = false

unfoldable mutual
  pub leaves : ℕ → Tree → ℕ
  leaves n (node r q ps) = as_number (is_axiom_rule r && among (Atom n) q.linear) + leaves* n ps

  pub leaves* : ℕ → Trees → ℕ
  leaves* n ∅ = 0
  leaves* n (t ▹ ts) = leaves n t + leaves* n ts

-- the leaves of a name are its plain places in the linear zone, and its negated ones
abbrev pub Balanced : ℕ → Sequent → Tree → Type 0
Balanced n q t = (leaves n t ≡ total (plain_places n) q.linear) × (leaves n t ≡ total (negated_places n) q.linear)

-- names, negated names, tensor, par, their units and implication
pub data Multiplicative : Formula → Type 0 where
  m_atom : {a : ℕ} → Multiplicative (Atom a)
  m_neg_atom : {a : ℕ} → Multiplicative (NegAtom a)
  m_one : Multiplicative One
  m_bottom : Multiplicative Bottom
  m_tensor : {a b : Formula} → Multiplicative a → Multiplicative b → Multiplicative (Tensor a b)
  m_par : {a b : Formula} → Multiplicative a → Multiplicative b → Multiplicative (Par a b)
  m_lolli : {a b : Formula} → Multiplicative a → Multiplicative b → Multiplicative (Lolli a b)

pub data Multiplicatives : List Formula → Type 0 where
  m_none : Multiplicatives []
  m_more : {f : Formula} {fs : List Formula} → Multiplicative f → Multiplicatives fs → Multiplicatives (f ∷ fs)
