-- A node that stands in the message, with its least step; and its premises shortened, as the code answers them. Assumes nothing: these are definitions.
use Rattle.std.specs.Prelude.{◌≡◌, Err, List, map, ℕ, ◌+◌, length}
use Rattle.logic.specs.Formula.{Formula}
use Rattle.logic.specs.Sequent.{Sequent}
use Rattle.logic.specs.Conclusion.{concluded}
use Rattle.logic.specs.Tree.{Rule, Trees, node, conclusions}
use Rattle.wire.specs.Write.{write_node, write_nodes}
use Rattle.wire.specs.Fits.{NodesFit*}
use Rattle.tree.specs.Stands.{Stands}
use Rattle.short.specs.Short.{Shorts}
use Rattle.short.specs.Steps.{premises_of}
use Rattle.short.specs.Making.{Result, made, mismatch, refused}
use Rattle.short.specs.Shortening.{least}
use Rattle.short_bytes.specs.Write.{write_short_nodes}
use Rattle.shrink.specs.declared.Stop.TheVariants.{Mismatch}
use Rattle.shrink.specs.Shrinking.{Shrink, Whole, Put, Refuses}

-- the node with this rule, conclusion and premises stands at `at`, its premises at `below`, and its step is the least one
pub record Standing (s : List ℕ) (at below : ℕ) (r : Rule) (q : Sequent) (ts : Trees) (place mask : ℕ) : Type 0 where
  pub premises_stand : Stands s below (write_nodes ts)
  pub premises_fit : NodesFit* ts
  pub fitted : map concluded (premises_of r place mask q) ≡ conclusions ts
  pub steps : (fs : List Formula) → least r q (conclusions ts) fs ≡ (made (place, mask), fs)
  pub ends : below + length (write_nodes ts) ≡ at + length (write_node (node r q ts))

-- premises shortened: the code's answer, and the output after it
pub record AllWhole (ss : Shorts) (next : ℕ) (out : List ℕ) (to : ℕ) (r : Shrink) (out' : List ℕ) : Type 0 where
  pub answer : r ≡ Whole next (to + length (write_short_nodes ss))
  pub put : Put (write_short_nodes ss) out to out'

abbrev pub AllTold : Result Shorts → (next : ℕ) → List ℕ → ℕ → Shrink → List ℕ → Type 0
AllTold (made ss) next out to r out' = AllWhole ss next out to r out'
AllTold mismatch next out to r out' = r ≡ Err Mismatch
AllTold (refused k) next out to r out' = Refuses k r

pub record AllAs (x : Result Shorts × List Formula) (next : ℕ) (out : List ℕ) (to : ℕ) (r : Shrink) (fs : List Formula) (out' : List ℕ) : Type 0 where
  pub told : AllTold x.0 next out to r out'
  pub held : fs ≡ x.1
