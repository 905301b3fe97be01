-- Document 01's byte forms, written: formulas, zones, questions and trees. A byte is a number below 256; numbers of two bytes are big-endian. Assumes nothing.
use Rattle.std.specs.Prelude.{List, [], ◌∷◌, ◌++◌, ℕ, ◌/◌, ◌%◌, length}
use Rattle.logic.specs.Formula.{Formula, One, Bottom, Top, Zero, Atom, NegAtom, Tensor, Par, With, Plus, Lolli, OfCourse, WhyNot}
use Rattle.logic.specs.Sequent.{Question, one_sided, two_sided}
use Rattle.logic.specs.Tree.{
  Rule,
  Axiom,
  Cut,
  OneIntro,
  BottomIntro,
  TensorIntro,
  ParIntro,
  TopIntro,
  WithIntro,
  PlusIntroLeft,
  PlusIntroRight,
  OfCourseIntro,
  WhyNotIntro,
  Weakening,
  Contraction,
  Dereliction,
  FocusPositive,
  FocusNegative,
  Blur,
  Tree,
  Trees,
  node,
  ∅,
  ◌▹◌,
  premise_count,
}

-- a number of two bytes
abbrev pub two_bytes : ℕ → List ℕ
two_bytes n = (n / 256) ∷ (n % 256) ∷ []

unfoldable pub write_formula : Formula → List ℕ
write_formula One = 0 ∷ []
write_formula Bottom = 1 ∷ []
write_formula Top = 2 ∷ []
write_formula Zero = 3 ∷ []
write_formula (Atom a) = 4 ∷ two_bytes a
write_formula (NegAtom a) = 5 ∷ two_bytes a
write_formula (Tensor a b) = 6 ∷ (write_formula a ++ write_formula b)
write_formula (Par a b) = 7 ∷ (write_formula a ++ write_formula b)
write_formula (With a b) = 8 ∷ (write_formula a ++ write_formula b)
write_formula (Plus a b) = 9 ∷ (write_formula a ++ write_formula b)
write_formula (Lolli a b) = 10 ∷ (write_formula a ++ write_formula b)
write_formula (OfCourse a) = 11 ∷ write_formula a
write_formula (WhyNot a) = 12 ∷ write_formula a

unfoldable pub write_formulas : List Formula → List ℕ
write_formulas [] = []
write_formulas (f ∷ fs) = write_formula f ++ write_formulas fs

-- a zone: its length in bytes, then its formulas
unfoldable pub write_zone : List Formula → List ℕ
write_zone fs = two_bytes (length (write_formulas fs)) ++ write_formulas fs

-- a message: the version byte 1, the length of all that follows, and that
unfoldable pub message : List ℕ → List ℕ
message body = 1 ∷ (two_bytes (length body) ++ body)

-- kind 1: linear, unrestricted; kind 2: antecedent, succedent
unfoldable pub write_body : Question → List ℕ
write_body (one_sided Γ Θ) = 1 ∷ (write_zone Γ ++ write_zone Θ)
write_body (two_sided Γ Δ) = 2 ∷ (write_zone Γ ++ write_zone Δ)

unfoldable pub write_question : Question → List ℕ
write_question q = message (write_body q)

-- a rule's number and its argument
unfoldable pub write_rule : Rule → List ℕ
write_rule Axiom = 0 ∷ []
write_rule (Cut c) = 1 ∷ write_formula c
write_rule OneIntro = 2 ∷ []
write_rule BottomIntro = 3 ∷ []
write_rule TensorIntro = 4 ∷ []
write_rule ParIntro = 5 ∷ []
write_rule TopIntro = 6 ∷ []
write_rule WithIntro = 7 ∷ []
write_rule PlusIntroLeft = 8 ∷ []
write_rule PlusIntroRight = 9 ∷ []
write_rule OfCourseIntro = 10 ∷ []
write_rule WhyNotIntro = 11 ∷ []
write_rule Weakening = 12 ∷ []
write_rule Contraction = 13 ∷ []
write_rule Dereliction = 14 ∷ []
write_rule (FocusPositive i) = 15 ∷ two_bytes i
write_rule (FocusNegative i) = 16 ∷ two_bytes i
write_rule Blur = 17 ∷ []

-- a node: rule, argument, linear zone, unrestricted zone, premise count, premises
unfoldable mutual
  pub write_node : Tree → List ℕ
  write_node (node r q ps) = write_rule r ++ (write_zone q.linear ++ (write_zone q.unrestricted ++ (premise_count ps ∷ write_nodes ps)))

  pub write_nodes : Trees → List ℕ
  write_nodes ∅ = []
  write_nodes (t ▹ ts) = write_node t ++ write_nodes ts

unfoldable pub write_tree : Tree → List ℕ
write_tree t = message (write_node t)
