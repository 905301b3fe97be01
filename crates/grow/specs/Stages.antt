-- What the laws of the walk speak of: the stages of `expand`, the short tree that stands at a place, and what was made of it. Assumes nothing: these are
-- definitions.
use Rattle.std.specs.Prelude.{◌≡◌, true, List, ℕ, ◌+◌, length}
use Rattle.logic.specs.Formula.{Formula}
use Rattle.logic.specs.Sequent.{Sequent}
use Rattle.logic.specs.Limits.{at_most}
use Rattle.logic.specs.Conclusion.{concluded}
use Rattle.logic.specs.Tree.{Rule, Tree, Trees, ∅, ◌▹◌}
use Rattle.tree.specs.Stands.{Stands}
use Rattle.tree.specs.Places.{rule_number}
use Rattle.held.specs.Words.{view}
use Rattle.zones.specs.declared.Zones.{Zones}
use Rattle.short.specs.Steps.{may_take, premises_of}
use Rattle.short.specs.Short.{Short, short, Shorts}
use Rattle.short.specs.Making.{Result, made, mismatch, refused, spelt, few_each}
use Rattle.short.specs.Shortening.{expand}
use Rattle.short_bytes.specs.Write.{write_short_node, write_short_nodes}
use Rattle.short_bytes.specs.Fits.{ShortNodeFits, ShortNodesFit*}
use Rattle.short_read.specs.Reading.{node_bytes}
use Rattle.step.specs.Taking.{sequent}
use Rattle.grow.specs.declared.Node.{Node}
use Rattle.grow.specs.Growing.{limits, Grow, WholeAs, GrownAs}

-- what became of a node's premises, as an answer for the node
abbrev pub as_node : (Trees → Tree) → Result Trees → Result Tree
as_node f (made ts) = made (f ts)
as_node f mismatch = mismatch
as_node f (refused k) = refused k

-- a premise, as an answer for all of them: the only one, and the second of two
abbrev pub as_one : Result Tree → Result Trees
as_one (made t) = made (t ▹ ∅)
as_one mismatch = mismatch
as_one (refused k) = refused k

abbrev pub as_two : Tree → Result Tree → Result Trees
as_two t (made u) = made (t ▹ u ▹ ∅)
as_two t mismatch = mismatch
as_two t (refused k) = refused k

-- a node whose step can be taken: the formula spelled out is held, and the premises are few enough
pub record Entered (r : Rule) (i mask : ℕ) (q : Sequent) (fs fs₁ : List Formula) : Type 0 where
  pub spells : spelt (at_most 2048) q fs ≡ (made tt, fs₁)
  pub takes : may_take r i mask (concluded q) ≡ true
  pub few : few_each (at_most 31) (premises_of r i mask (concluded q)) fs₁ ≡ (made tt, fs₁)

-- an answer told of the short tree at the place
abbrev pub GrownHere : (m : List ℕ) (at : ℕ) (z : Zones) → Short → (out : List ℕ) (to : ℕ) → Grow → (m' out' : List ℕ) → Type 0
GrownHere m at z t out to r m' out' = GrownAs (expand limits t (sequent m z) (view m)) (at + length (write_short_node t)) out to r (view m') out'

-- the short tree there: its rule, place and mask are those that the bytes say, and its premises stand behind them
pub record StandsAs (s : List ℕ) (at : ℕ) (n : Node) (t : Short) : Type 0 where
  pub named : Rule
  pub shorts : Shorts
  pub is : t ≡ short named n.place n.mask shorts
  pub number : n.rule ≡ rule_number named
  pub fits : ShortNodeFits named n.place n.mask shorts
  pub fit : ShortNodesFit* shorts
  pub behind : Stands s (at + node_bytes n.rule) (write_short_nodes shorts)
  pub long : length (write_short_node t) ≡ node_bytes n.rule + length (write_short_nodes shorts)

-- an expansion that made a tree
pub record Made (y : Result Tree × List Formula) (next : ℕ) (out : List ℕ) (to : ℕ) (a : Grow) (fs : List Formula) (out' : List ℕ) : Type 0 where
  pub tree : Tree
  pub is : y ≡ (made tree, fs)
  pub whole : WholeAs tree next out to a out'
