-- What finding the least place and mask of a node's step asks and answers. Any bytes may stand in the message; a contract speaks of the trees that stand at the places. Assumes nothing: these
-- are definitions.
use Rattle.std.specs.Prelude.{◌≡◌, Bool, true, false, List, map, ℕ, ◌≤◌, ◌<◌, length, Option, Some, None}
use Rattle.logic.specs.Formula.{Formula}
use Rattle.logic.specs.Sequent.{Sequent}
use Rattle.logic.specs.Conclusion.{concluded}
use Rattle.logic.specs.Tree.{Rule, Tree, Trees, conclusion, conclusions, premise_count}
use Rattle.wire.specs.Write.{write_node, write_nodes}
use Rattle.wire.specs.Fits.{NodesFit, NodesFit*}
use Rattle.tree.specs.Stands.{Stands}
use Rattle.tree.specs.Places.{rule_number, NodeIs}
use Rattle.tree.specs.declared.Node.{Node}
use Rattle.zones.specs.declared.Zones.{Zones}
use Rattle.expand.specs.Writing.{Sound}
use Rattle.short.specs.Short.{follow}
use Rattle.short.specs.Steps.{premises_of}
use Rattle.short.specs.Shortening.{same_sequent, same_sequents, fits, least}
use Rattle.step.specs.Taking.{sequent, Taken}
use Rattle.split.specs.Splitting.{least_of, TakenAt, LeastStep}

-- b tells of any tree at the place whether it concludes q, an implication spelled out
pub record Shows (s : List ℕ) (at : ℕ) (b : Bool) (q : Sequent) : Type 0 where
  pub tells : (t : Tree) → Stands s at (write_node t) → NodesFit t → b ≡ same_sequent (concluded q) (conclusion t)

-- the premises conclude what the step makes
pub record Follows (m : List ℕ) (z : Zones) (rule i : ℕ) (s : List ℕ) (at : ℕ) (b : Bool) : Type 0 where
  pub is : (r : Rule) (ps : Trees) → rule ≡ rule_number r → Stands s at (write_nodes ps) → NodesFit* ps → premise_count ps ≡ follow r
      → b ≡ same_sequents (map concluded (premises_of r i 0 (sequent m z))) (conclusions ps)

-- the step at the place fits
pub record FitsAt (m : List ℕ) (z : Zones) (rule i : ℕ) (s : List ℕ) (at : ℕ) (b : Bool) : Type 0 where
  pub is : (r : Rule) (ps : Trees) → rule ≡ rule_number r → Stands s at (write_nodes ps) → NodesFit* ps → premise_count ps ≡ follow r
      → b ≡ fits r (sequent m z) (conclusions ps) i 0
  pub taken : b ≡ true → Taken m z rule i 0

-- a rule whose steps have no mask
pub record Placing (m : List ℕ) (z : Zones) (rule : ℕ) (s : List ℕ) (at : ℕ) : Type 0 where
  pub sound : Sound m z
  pub inside : at ≤ length s
  pub no_tensor : rule ≡ 4 → ⊥

-- no place before i fits: the loop's invariant
pub record Tried (m : List ℕ) (z : Zones) (rule : ℕ) (s : List ℕ) (at i : ℕ) : Type 0 where
  pub each : (j : ℕ) → j < i → FitsAt m z rule j s at false

-- the mask has four bytes
abbrev pub MaskLow : Option (ℕ × ℕ) → Type 0
MaskLow (Some x) = x.1 < 4294967296
MaskLow None = Unit {0}

pub record PlaceFound (m : List ℕ) (z : Zones) (rule : ℕ) (s : List ℕ) (at : ℕ) (x : Option (ℕ × ℕ)) : Type 0 where
  pub step : LeastStep m z rule s at x
  pub low : MaskLow x

-- the node's premises stand in the message
pub record NodeInside (len : ℕ) (n : Node) : Type 0 where
  pub next_inside : n.next ≤ len

pub record LeastFor (m : List ℕ) (z : Zones) (s : List ℕ) (n : Node) (x : Option (ℕ × ℕ)) : Type 0 where
  pub taken : TakenAt m z n.rule x
  pub low : MaskLow x
  pub is : (r : Rule) (q : Sequent) (ps : Trees) (fs : List Formula) → NodeIs s n r q ps → NodesFit* ps
      → least r (sequent m z) (conclusions ps) fs ≡ (least_of x, fs)
