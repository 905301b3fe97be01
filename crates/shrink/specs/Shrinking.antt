-- What shortening a tree in bytes asks and answers. Any bytes may stand in the message; a contract speaks of the tree that stands at the place. Assumes nothing: these are definitions.
use Rattle.std.specs.Prelude as std
use Rattle.std.specs.Prelude.{◌≡◌, Ok, Err, Bool, true, false, List, [], ◌∷◌, ℕ, ◌+◌, ◌*◌, ◌-◌, ◌≤◌, eqb, length}
use Rattle.std.proofs.lemmas.List.Edits.{sets}
use Rattle.logic.specs.Formula.{Formula}
use Rattle.logic.specs.Answer.{Refusal, wrong_number, wrong_length, wrong_tag, too_high, too_many, held_full, budget_spent, failures_full, output_short, wrong_setting, wrong_memory}
use Rattle.logic.specs.Limits.{Limits, stated}
use Rattle.logic.specs.Tree.{Tree, node, conclusion, conclusions}
use Rattle.wire.specs.Write.{write_node}
use Rattle.wire.specs.Fits.{NodesFit}
use Rattle.tree.specs.Stands.{Stands}
use Rattle.held.specs.Words.{view, Wf, Extends}
use Rattle.zones.specs.declared.Zones.{Zones}
use Rattle.expand.specs.Writing.{Sound}
use Rattle.short.specs.Short.{Short, short}
use Rattle.short.specs.Steps.{premises_of}
use Rattle.short.specs.Making.{Result, made, mismatch, refused, Making, answer, ◌and_then◌}
use Rattle.short.specs.Shortening.{least, shorten_all}
use Rattle.short_bytes.specs.Write.{four_bytes, write_short_node}
use Rattle.step.specs.Taking.{sequent}
use Rattle.shrink.specs.declared.Shrunk.{Shrunk}
use Rattle.shrink.specs.declared.Stop.{Stop}
use Rattle.shrink.specs.declared.Stop.TheVariants.{Full, Mismatch}

-- the limits in force: document 01's. No visit is counted here
abbrev pub limits : Limits
limits = stated 0

-- a node's own bytes, by its rule's number
abbrev pub mask_bytes : Bool → ℕ → List ℕ
mask_bytes true mask = four_bytes mask
mask_bytes false mask = []

abbrev pub own_bytes : (rule place mask : ℕ) → List ℕ
own_bytes rule place mask = rule ∷ place ∷ mask_bytes (eqb rule 4) mask

-- the bytes are written where there is room for them
pub record Put (bs out : List ℕ) (to : ℕ) (out' : List ℕ) : Type 0 where
  pub long : length out' ≡ length out
  pub written : to + length bs ≤ length out → out' ≡ sets out to bs

pub record PutNode (out : List ℕ) (to rule place mask : ℕ) (out' : List ℕ) (r : ℕ) : Type 0 where
  pub next : r ≡ to + length (own_bytes rule place mask)
  pub put : Put (own_bytes rule place mask) out to out'

-- the memory and the sequent are sound; the place lies in a message that is not too long. What is written stays behind what is read: a byte of the message pays for ten
pub record Shrinking (m s : List ℕ) (at : ℕ) (z : Zones) (to : ℕ) : Type 0 where
  pub sound : Sound m z
  pub inside : at ≤ length s
  pub short : length s ≤ 65538
  pub room : to + 10 * (length s - at) ≤ 700000

-- what the code answers
abbrev pub Shrink : Type 0
Shrink = std.Result Shrunk Stop

-- a part of the tree, with the places after it
abbrev pub Whole : (next to : ℕ) → Shrink
Whole next to = Ok record { next = next; to = to }

-- the places after what was shortened
abbrev pub Within : (len at to : ℕ) → Shrink → Type 0
Within len at to (Ok g) = ((at ≤ g.next) × (g.next ≤ len)) × ((to ≤ g.to) × (g.to + 10 * (len - g.next) ≤ to + 10 * (len - at) + 2))
Within len at to (Err k) = Unit {0}

-- the refusals of `shorten`, as the code answers them
abbrev pub Refuses : Refusal → Shrink → Type 0
Refuses held_full r = r ≡ Err Full
Refuses too_many r = ⊥
Refuses wrong_number r = ⊥
Refuses wrong_length r = ⊥
Refuses wrong_tag r = ⊥
Refuses too_high r = ⊥
Refuses budget_spent r = ⊥
Refuses failures_full r = ⊥
Refuses output_short r = ⊥
Refuses wrong_setting r = ⊥
Refuses wrong_memory r = ⊥

-- the code's answer to a result of `shorten`, and the output after it; `next` is the place after the tree
pub record WholeAs (t : Short) (next : ℕ) (out : List ℕ) (to : ℕ) (r : Shrink) (out' : List ℕ) : Type 0 where
  pub answer : r ≡ Whole next (to + length (write_short_node t))
  pub put : Put (write_short_node t) out to out'

abbrev pub Told : Result Short → (next : ℕ) → List ℕ → ℕ → Shrink → List ℕ → Type 0
Told (made t) next out to r out' = WholeAs t next out to r out'
Told mismatch next out to r out' = r ≡ Err Mismatch
Told (refused k) next out to r out' = Refuses k r

pub record ShrunkAs (x : Result Short × List Formula) (next : ℕ) (out : List ℕ) (to : ℕ) (r : Shrink) (fs : List Formula) (out' : List ℕ) : Type 0 where
  pub told : Told x.0 next out to r out'
  pub held : fs ≡ x.1

-- `shorten` of a node whose conclusion is what it is to be, an implication spelled out
unfoldable pub shorten_spelt : Tree → Making Short
shorten_spelt (node r c ts) =
    least r c (conclusions ts) and_then λ im.
    shorten_all limits ts (premises_of r im.0 im.1 c) and_then λ ss.
    answer (made (short r im.0 im.1 ss))

pub record Shrinks (m s : List ℕ) (at : ℕ) (z : Zones) (out : List ℕ) (to : ℕ) (r : Shrink) (m' out' : List ℕ) : Type 0 where
  pub within : Within (length s) at to r
  pub wf : Wf m'
  pub grew : Extends m m'
  pub long : length out' ≡ length out
  pub is : (t : Tree) → Stands s at (write_node t) → NodesFit t → conclusion t ≡ sequent m z
      → ShrunkAs (shorten_spelt t (view m)) (at + length (write_node t)) out to r (view m') out'
