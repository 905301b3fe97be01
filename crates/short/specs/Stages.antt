-- A node that was expanded, and one that was shortened, read stage by stage: the formula spelled out, the step, and what was made of the premises. Assumes nothing: these are definitions.
use Rattle.std.specs.Prelude.{◌≡◌, true, List, ℕ}
use Rattle.logic.specs.Formula.{Formula}
use Rattle.logic.specs.Sequent.{Sequent}
use Rattle.logic.specs.Tree.{Rule, Tree, Trees, node}
use Rattle.logic.specs.Limits.{Limits}
use Rattle.logic.specs.Conclusion.{concluded}
use Rattle.short.specs.Steps.{may_take, premises_of}
use Rattle.short.specs.Short.{Short, short, Shorts}
use Rattle.short.specs.Making.{made, Making, spelt}
use Rattle.short.specs.Shortening.{least}
use Rattle.short.specs.Few.{FewEach}

pub record Grown (limits : Limits) (deeper : List Sequent → Making Trees) (r : Rule) (i mask : ℕ) (q : Sequent)
    (fs : List Formula) (t : Tree) (gs : List Formula) : Type 0 where
  pub between : List Formula
  pub below : Trees
  pub spells : spelt limits.held q fs ≡ (made tt, between)
  pub takes : may_take r i mask (concluded q) ≡ true
  pub few : FewEach limits.formulas (premises_of r i mask (concluded q))
  pub premises : deeper (premises_of r i mask (concluded q)) between ≡ (made below, gs)
  pub tree_is : t ≡ node r (concluded q) below

pub record Shrunk (limits : Limits) (deeper : List Sequent → Making Shorts) (r : Rule) (c : Sequent) (ds : List Sequent) (q : Sequent)
    (fs : List Formula) (s : Short) (gs : List Formula) : Type 0 where
  pub between : List Formula
  pub place : ℕ
  pub mask : ℕ
  pub below : Shorts
  pub spells : spelt limits.held q fs ≡ (made tt, between)
  pub concludes : c ≡ concluded q
  pub steps : least r c ds between ≡ (made (place, mask), between)
  pub premises : deeper (premises_of r place mask c) between ≡ (made below, gs)
  pub short_is : s ≡ short r place mask below
