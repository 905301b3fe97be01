-- Where what was written stands in a message: bytes, formulas, zones, nodes. After a message was read, these say what a place holds. Assumes nothing.
use Rattle.std.specs.Prelude.{◌≡◌, List, [], ℕ, ◌+◌, ◌≤◌, ◌<◌, length}
use Rattle.logic.specs.Formula.{Formula, size}
use Rattle.logic.specs.Sequent.{Sequent}
use Rattle.logic.specs.Tree.{
  Rule,
  Axiom,
  Cut,
  OneIntro,
  BottomIntro,
  TensorIntro,
  ParIntro,
  TopIntro,
  WithIntro,
  PlusIntroLeft,
  PlusIntroRight,
  OfCourseIntro,
  WhyNotIntro,
  Weakening,
  Contraction,
  Dereliction,
  FocusPositive,
  FocusNegative,
  Blur,
  Tree,
  Trees,
  node,
  ∅,
  ◌▹◌,
  premise_count,
}
use Rattle.wire.specs.Write.{two_bytes, write_formula, write_formulas, write_zone, write_node, write_nodes}
use Rattle.wire.specs.Read.{highest_formula}
use Rattle.wire.specs.Fits.{FormulaFits, FormulasFit, ZoneFits, RuleFits, NodeFits, NodesFit}
use Rattle.tree.specs.Stands.{Stands}
use Rattle.tree.specs.declared.Span.{Span}
use Rattle.tree.specs.declared.Node.{Node}

-- a formula, and one that a reader takes
pub record FormulaAt (s : List ℕ) (at : ℕ) (f : Formula) : Type 0 where
  pub stands : Stands s at (write_formula f)
  pub fits : FormulaFits highest_formula f

-- the formulas of a span
pub record Holds (s : List ℕ) (z : Span) (fs : List Formula) : Type 0 where
  pub stands : Stands s z.start (write_formulas fs)
  pub ends : z.end ≡ z.start + length (write_formulas fs)
  pub fit : FormulasFit fs

-- a span of a message of so many bytes
pub record Within (len : ℕ) (z : Span) : Type 0 where
  pub ordered : z.start ≤ z.end
  pub inside : z.end ≤ len

-- document 01's rule numbers
unfoldable pub rule_number : Rule → ℕ
rule_number Axiom = 0
rule_number (Cut c) = 1
rule_number OneIntro = 2
rule_number BottomIntro = 3
rule_number TensorIntro = 4
rule_number ParIntro = 5
rule_number TopIntro = 6
rule_number WithIntro = 7
rule_number PlusIntroLeft = 8
rule_number PlusIntroRight = 9
rule_number OfCourseIntro = 10
rule_number WhyNotIntro = 11
rule_number Weakening = 12
rule_number Contraction = 13
rule_number Dereliction = 14
rule_number (FocusPositive i) = 15
rule_number (FocusNegative i) = 16
rule_number Blur = 17

-- a rule's argument in bytes: `write_rule` behind the number
unfoldable pub argument_bytes : Rule → List ℕ
argument_bytes (Cut c) = write_formula c
argument_bytes (FocusPositive i) = two_bytes i
argument_bytes (FocusNegative i) = two_bytes i
argument_bytes Axiom = []
argument_bytes OneIntro = []
argument_bytes BottomIntro = []
argument_bytes TensorIntro = []
argument_bytes ParIntro = []
argument_bytes TopIntro = []
argument_bytes WithIntro = []
argument_bytes PlusIntroLeft = []
argument_bytes PlusIntroRight = []
argument_bytes OfCourseIntro = []
argument_bytes WhyNotIntro = []
argument_bytes Weakening = []
argument_bytes Contraction = []
argument_bytes Dereliction = []
argument_bytes Blur = []

-- what stands at a formula's place, before `end`: the next place lies past it
pub record Passed (s : List ℕ) (at end next : ℕ) : Type 0 where
  pub further : at < next
  pub within : next ≤ end
  pub past : (f : Formula) → FormulaAt s at f → at + size f ≤ end → next ≡ at + size f

-- the zone at a place: its formulas
pub record ZoneFound (s : List ℕ) (at : ℕ) (z : Span) : Type 0 where
  pub within : Within (length s) z
  pub further : at ≤ z.start
  pub holds : (fs : List Formula) → Stands s at (write_zone fs) → ZoneFits fs → Holds s z fs
  pub past : (fs : List Formula) → Stands s at (write_zone fs) → z.end ≡ at + length (write_zone fs)

-- the place after a rule's argument
pub record ArgumentPassed (s : List ℕ) (at rule next : ℕ) : Type 0 where
  pub further : at ≤ next
  pub within : next ≤ length s
  pub past : (r : Rule) → rule ≡ rule_number r → Stands s at (argument_bytes r) → RuleFits r → next ≡ at + length (argument_bytes r)

-- what a node's places are, whatever the bytes
pub record NodeWithin (len at : ℕ) (n : Node) : Type 0 where
  pub argument_inside : n.argument ≤ len
  pub linear_within : Within len n.linear
  pub unrestricted_within : Within len n.unrestricted
  pub few_premises : n.premises < 256
  pub next_inside : n.next ≤ len
  pub further : at < len → at < n.next

-- and where a node stands
pub record NodeIs (s : List ℕ) (n : Node) (r : Rule) (q : Sequent) (ps : Trees) : Type 0 where
  pub rule_is : n.rule ≡ rule_number r
  pub argument_is : (c : Formula) → r ≡ Cut c → FormulaAt s n.argument c
  pub linear_is : Holds s n.linear q.linear
  pub unrestricted_is : Holds s n.unrestricted q.unrestricted
  pub count_is : n.premises ≡ premise_count ps
  pub premises_are : Stands s n.next (write_nodes ps)

pub record NodeFound (s : List ℕ) (at : ℕ) (n : Node) : Type 0 where
  pub within : NodeWithin (length s) at n
  pub is : (r : Rule) (q : Sequent) (ps : Trees) → Stands s at (write_node (node r q ps)) → NodeFits r q ps → NodeIs s n r q ps
  pub ends : (r : Rule) (q : Sequent) (ps : Trees) → Stands s at (write_node (node r q ps)) → NodeFits r q ps → n.next + length (write_nodes ps) ≡ at + length (write_node (node r q ps))

-- trees one after another
unfoldable pub follow : Trees → Trees → Trees
follow ∅ us = us
follow (t ▹ ts) us = t ▹ follow ts us

-- the place after a tree
pub record TreePassed (s : List ℕ) (at next : ℕ) : Type 0 where
  pub inside : next ≤ length s
  pub past : (t : Tree) → Stands s at (write_node t) → NodesFit t → next ≡ at + length (write_node t)
