-- What walking a part of a tree answers: its verdict, the next place and the next node's number. `test` is the mode's test at a node. Assumes nothing.
use Rattle.std.specs.Prelude as code
use Rattle.std.specs.Prelude.{◌≡◌, Bool, true, false, Result, Ok, Err, List, ℕ, ◌+◌, ◌≤◌, length}
use Rattle.std.proofs.Math.Option.{Option}
use Rattle.logic.specs.Sequent.{Sequent}
use Rattle.logic.specs.Tree.{Rule, Tree, Trees, depth, depths, nodes, nodes*, premise_count}
use Rattle.logic.specs.Verify as logic
use Rattle.logic.specs.Verify.{shape_at}
use Rattle.logic.specs.Strict.{strict_fault}
use Rattle.wire.specs.Write.{write_node, write_nodes}
use Rattle.wire.specs.Fits.{NodesFit, NodesFit*}
use Rattle.tree.specs.Stands.{Stands}
use Rattle.tree.specs.Places.{NodeIs}
use Rattle.tree.specs.declared.Node.{Node}
use Rattle.verify.specs.Verdicts.{fault_of, walk_of}
use Rattle.verify.specs.declared.Fault.{Fault}
use Rattle.verify.specs.declared.Passed.{Passed}
use Rattle.verify.specs.declared.Rejected.{Rejected}

-- the next place lies in the message, and no fewer bytes than nodes before it
abbrev pub WalkWithin : ℕ → Result Passed Rejected → Type 0
WalkWithin len (Ok p) = (p.next ≤ len) × (p.number ≤ p.next)
WalkWithin len (Err v) = Unit {0}

-- the test at a node in strict mode, and in shape mode
unfoldable pub mode_test : (is_strict : Bool) → Rule → Sequent → Trees → Option logic.Fault
mode_test true = strict_fault
mode_test false = shape_at

-- the fault that the mode's test finds at a node
pub record Faulted (test : Rule → Sequent → Trees → Option logic.Fault) (s : List ℕ) (n : Node) (x : code.Option Fault) : Type 0 where
  pub is : (r : Rule) (q : Sequent) (ps : Trees) → NodeIs s n r q ps → NodesFit* ps → x ≡ fault_of (test r q ps)

module _ (test : Rule → Sequent → Trees → Option logic.Fault) (s : List ℕ) (at : ℕ) where
  pub record Walk (levels number wrappers : ℕ) (x : Result Passed Rejected) : Type 0 where
    pub within : WalkWithin (length s) x
    pub is : (t : Tree) → Stands s at (write_node t) → NodesFit t → depth t ≤ levels → x ≡ walk_of (logic.verify_from test t number wrappers) (at + length (write_node t)) (number + nodes t)

  pub record PremisesWalk (count levels number wrappers : ℕ) (x : Result Passed Rejected) : Type 0 where
    pub within : WalkWithin (length s) x
    pub is : (ts : Trees) → Stands s at (write_nodes ts) → NodesFit* ts → depths ts ≤ levels → premise_count ts ≡ count → x ≡ walk_of (logic.verify_premises test ts number wrappers) (at + length (write_nodes ts)) (number + nodes* ts)
