-- What fits document 01's byte forms: numbers that are bytes, names and numbers of two bytes, formulas of 64 levels, zones and messages of at most 65,535 bytes, 31 formulas in a
-- sequent, trees of 65 levels. And what it means that bytes were read back. Assumes nothing.
use Rattle.std.specs.Prelude.{◌≡◌, List, [], ◌∷◌, ◌++◌, ℕ, suc, ◌+◌, ◌≤◌, ◌<◌, max, length, get_or}
use Rattle.logic.specs.Formula.{Formula, One, Bottom, Top, Zero, Atom, NegAtom, Tensor, Par, With, Plus, Lolli, OfCourse, WhyNot, height}
use Rattle.logic.specs.Sequent.{Sequent, Question, one_sided, two_sided, count}
use Rattle.logic.specs.Tree.{Rule, Axiom, Cut, OneIntro, BottomIntro, TensorIntro, ParIntro, TopIntro, WithIntro, PlusIntroLeft, PlusIntroRight, OfCourseIntro, WhyNotIntro, Weakening, Contraction, Dereliction, FocusPositive, FocusNegative, Blur, Tree, Trees, node, ∅, ◌▹◌, depth, depths, premise_count}
use Rattle.logic.specs.Answer.{Refusal, wrong_number, wrong_length, wrong_tag, too_high, too_many}
use Rattle.wire.specs.Write.{two_bytes, write_formula, write_formulas, write_zone, message, write_body, write_question, write_rule, write_node, write_nodes, write_tree}
use Rattle.wire.specs.Gives.{Gives}
use Rattle.wire.specs.Read.{Read, Sign, unit, named, binary, unary, RuleForm, bare, with_formula, with_number, highest_formula, most_formulas, highest_tree}

-- a list of bytes; past its end stands 0
pub record Bytes (bs : List ℕ) : Type 0 where
  pub byte : (k : ℕ) → get_or bs k 0 < 256

-- every name of a formula is a number of two bytes
abbrev pub NamesFit : Formula → Type 0
NamesFit One = Unit {0}
NamesFit Bottom = Unit {0}
NamesFit Top = Unit {0}
NamesFit Zero = Unit {0}
NamesFit (Atom a) = a < 65536
NamesFit (NegAtom a) = a < 65536
NamesFit (Tensor a b) = NamesFit a × NamesFit b
NamesFit (Par a b) = NamesFit a × NamesFit b
NamesFit (With a b) = NamesFit a × NamesFit b
NamesFit (Plus a b) = NamesFit a × NamesFit b
NamesFit (Lolli a b) = NamesFit a × NamesFit b
NamesFit (OfCourse a) = NamesFit a
NamesFit (WhyNot a) = NamesFit a

pub record FormulaFits (levels : ℕ) (f : Formula) : Type 0 where
  pub height_fits : height f ≤ levels
  pub names_fit : NamesFit f

-- the bytes were a formula's, and what is left over
pub record ReadBack (levels : ℕ) (bs : List ℕ) (f : Formula) (rest : List ℕ) : Type 0 where
  pub bytes_are : bs ≡ write_formula f ++ rest
  pub height_fits : height f ≤ levels
  pub names_fit : NamesFit f

-- each formula of a list fits
abbrev pub FormulasFit : List Formula → Type 0
FormulasFit [] = Unit {0}
FormulasFit (f ∷ fs) = FormulaFits highest_formula f × FormulasFit fs

pub record ZoneFits (fs : List Formula) : Type 0 where
  pub formulas_fit : FormulasFit fs
  pub zone_short : length (write_formulas fs) ≤ 65535

-- two zones that make a sequent
pub record ZonesFit (Γ Δ : List Formula) : Type 0 where
  pub first_fits : ZoneFits Γ
  pub second_fits : ZoneFits Δ
  pub few_formulas : length Γ + length Δ ≤ most_formulas

-- a question's zones in byte order
abbrev pub first_zone : Question → List Formula
first_zone (one_sided Γ Θ) = Γ
first_zone (two_sided Γ Δ) = Γ

abbrev pub second_zone : Question → List Formula
second_zone (one_sided Γ Θ) = Θ
second_zone (two_sided Γ Δ) = Δ

pub record QuestionFits (q : Question) : Type 0 where
  pub zones_fit : ZonesFit (first_zone q) (second_zone q)
  pub body_short : length (write_body q) ≤ 65535

-- a rule's argument
abbrev pub RuleFits : Rule → Type 0
RuleFits Axiom = Unit {0}
RuleFits (Cut c) = FormulaFits highest_formula c
RuleFits OneIntro = Unit {0}
RuleFits BottomIntro = Unit {0}
RuleFits TensorIntro = Unit {0}
RuleFits ParIntro = Unit {0}
RuleFits TopIntro = Unit {0}
RuleFits WithIntro = Unit {0}
RuleFits PlusIntroLeft = Unit {0}
RuleFits PlusIntroRight = Unit {0}
RuleFits OfCourseIntro = Unit {0}
RuleFits WhyNotIntro = Unit {0}
RuleFits Weakening = Unit {0}
RuleFits Contraction = Unit {0}
RuleFits Dereliction = Unit {0}
RuleFits (FocusPositive i) = i < 65536
RuleFits (FocusNegative i) = i < 65536
RuleFits Blur = Unit {0}

-- a node by itself; and every node of a tree
pub record NodeFits (r : Rule) (q : Sequent) (ps : Trees) : Type 0 where
  pub rule_fits : RuleFits r
  pub zones_fit : ZonesFit q.linear q.unrestricted
  pub few_premises : premise_count ps < 256

abbrev mutual
  pub NodesFit : Tree → Type 0
  NodesFit (node r q ps) = NodeFits r q ps × NodesFit* ps

  pub NodesFit* : Trees → Type 0
  NodesFit* ∅ = Unit {0}
  NodesFit* (t ▹ ts) = NodesFit t × NodesFit* ts

-- each sequent of a tree has at most 31 formulas
abbrev mutual
  pub NodesFew : Tree → Type 0
  NodesFew (node r q ps) = (count q ≤ most_formulas) × NodesFew* ps

  pub NodesFew* : Trees → Type 0
  NodesFew* ∅ = Unit {0}
  NodesFew* (t ▹ ts) = NodesFew t × NodesFew* ts

pub record TreeFits (t : Tree) : Type 0 where
  pub nodes_fit : NodesFit t
  pub depth_fits : depth t ≤ highest_tree
  pub body_short : length (write_node t) ≤ 65535

-- all of the bytes were formulas; a zone, and what is left over
pub record FormulasBack (bs : List ℕ) (fs : List Formula) (rest : List ℕ) : Type 0 where
  pub bytes_are : bs ≡ write_formulas fs
  pub none_left : rest ≡ []
  pub fits : FormulasFit fs

pub record ZoneBack (bs : List ℕ) (fs : List Formula) (rest : List ℕ) : Type 0 where
  pub bytes_are : bs ≡ write_zone fs ++ rest
  pub fits : ZoneFits fs

-- the bytes begin with so many others under their length
pub record Framed (bs : List ℕ) (zone rest : List ℕ) : Type 0 where
  pub bytes_are : bs ≡ (two_bytes (length zone) ++ zone) ++ rest
  pub short : length zone ≤ 65535

-- a node, a list of premises, and what is left over
pub record NodeBack (levels : ℕ) (bs : List ℕ) (t : Tree) (rest : List ℕ) : Type 0 where
  pub bytes_are : bs ≡ write_node t ++ rest
  pub depth_fits : depth t ≤ levels
  pub nodes_fit : NodesFit t

pub record PremisesBack (levels n : ℕ) (bs : List ℕ) (ts : Trees) (rest : List ℕ) : Type 0 where
  pub bytes_are : bs ≡ write_nodes ts ++ rest
  pub count_is : premise_count ts ≡ n
  pub depths_fit : depths ts ≤ levels
  pub nodes_fit : NodesFit* ts

-- a rule with its argument; both zones of a node
pub record RuleBack (bs : List ℕ) (r : Rule) (rest : List ℕ) : Type 0 where
  pub bytes_are : bs ≡ write_rule r ++ rest
  pub fits : RuleFits r

pub record SequentBack (bs : List ℕ) (q : Sequent) (rest : List ℕ) : Type 0 where
  pub bytes_are : bs ≡ write_zone q.linear ++ (write_zone q.unrestricted ++ rest)
  pub fits : ZonesFit q.linear q.unrestricted

-- the whole slice was a message with that body
pub record MessageBack (bs : List ℕ) (body rest : List ℕ) : Type 0 where
  pub bytes_are : message body ≡ bs
  pub none_left : rest ≡ []
  pub short : length body ≤ 65535

-- the whole slice was a formula's, a question's or a tree's bytes
pub record OneBack (bs : List ℕ) (f : Formula) (rest : List ℕ) : Type 0 where
  pub bytes_are : write_formula f ≡ bs
  pub none_left : rest ≡ []
  pub fits : FormulaFits highest_formula f

pub record QuestionBack (bs : List ℕ) (q : Question) (rest : List ℕ) : Type 0 where
  pub bytes_are : write_question q ≡ bs
  pub none_left : rest ≡ []
  pub fits : QuestionFits q

pub record TreeBack (bs : List ℕ) (t : Tree) (rest : List ℕ) : Type 0 where
  pub bytes_are : write_tree t ≡ bs
  pub none_left : rest ≡ []
  pub fits : TreeFits t

-- what reading a formula can refuse
pub data FormulaRefusal : Refusal → Type 0 where
  cut_short : FormulaRefusal wrong_length
  unknown_tag : FormulaRefusal wrong_tag
  too_tall : FormulaRefusal too_high

-- what reading a question or a tree can refuse: document 01's 2 to 6
pub data ReadRefusal : Refusal → Type 0 where
  unknown_number : ReadRefusal wrong_number
  in_formula : {r : Refusal} → FormulaRefusal r → ReadRefusal r
  overfull : ReadRefusal too_many

-- a tag's entry in the table of signs is what is written under that tag
abbrev pub Written : ℕ → Sign → Type 0
Written t (unit f) = (write_formula f ≡ t ∷ []) × (height f ≡ 1) × NamesFit f
Written t (named f) = (n : ℕ) → (write_formula (f n) ≡ t ∷ two_bytes n) × (height (f n) ≡ 1) × (n < 65536 → NamesFit (f n))
Written t (binary f) =
    (a b : Formula) →
    (write_formula (f a b) ≡ t ∷ (write_formula a ++ write_formula b)) × (height (f a b) ≡ suc (max (height a) (height b))) × (NamesFit a → NamesFit b → NamesFit (f a b))
Written t (unary f) = (a : Formula) → (write_formula (f a) ≡ t ∷ write_formula a) × (height (f a) ≡ suc (height a)) × (NamesFit a → NamesFit (f a))

-- a kind's and a rule's entry likewise; a kind that is none is refused
abbrev pub KindWritten : ℕ → Read (List Formula → List Formula → Question) → Type 0
KindWritten k kind =
    Gives
    (λ make rest.
    (Γ Δ : List Formula) → (write_body (make Γ Δ) ≡ k ∷ (write_zone Γ ++ write_zone Δ)) × (first_zone (make Γ Δ) ≡ Γ) × (second_zone (make Γ Δ) ≡ Δ))
    ReadRefusal
    kind

abbrev pub RuleWritten : ℕ → RuleForm → Type 0
RuleWritten n (bare r) = (write_rule r ≡ n ∷ []) × RuleFits r
RuleWritten n (with_formula r) = (c : Formula) → (write_rule (r c) ≡ n ∷ write_formula c) × (FormulaFits highest_formula c → RuleFits (r c))
RuleWritten n (with_number r) = (i : ℕ) → (write_rule (r i) ≡ n ∷ two_bytes i) × (i < 65536 → RuleFits (r i))
