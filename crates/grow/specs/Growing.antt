-- What expanding a short tree in bytes asks and answers. Any bytes may stand in the message; a contract speaks of the short tree that stands at the place. Assumes nothing: these are
-- definitions.
use Rattle.std.specs.Prelude as std
use Rattle.std.specs.Prelude.{◌≡◌, Ok, Err, true, false, List, ℕ, ◌+◌, ◌≤◌, ◌<◌, min, eqb, get_or, length}
use Rattle.std.proofs.lemmas.List.Edits.{sets}
use Rattle.logic.specs.Formula.{Formula}
use Rattle.logic.specs.Answer.{Refusal, wrong_number, wrong_length, wrong_tag, too_high, too_many, held_full, budget_spent, failures_full, output_short, wrong_setting, wrong_memory}
use Rattle.logic.specs.Limits.{Limits, stated}
use Rattle.logic.specs.Tree.{Tree}
use Rattle.wire.specs.Write.{write_node}
use Rattle.tree.specs.Stands.{Stands}
use Rattle.held.specs.Words.{view, Wf, Extends}
use Rattle.zones.specs.declared.Zones.{Zones}
use Rattle.expand.specs.Short.{rule_of}
use Rattle.expand.specs.Writing.{Sound}
use Rattle.expand.specs.Trees.{head}
use Rattle.short.specs.Short.{Short}
use Rattle.short.specs.Making.{Result, made, mismatch, refused}
use Rattle.short.specs.Shortening.{expand}
use Rattle.short_bytes.specs.Write.{write_short_node}
use Rattle.short_bytes.specs.Fits.{ShortNodesFit}
use Rattle.short_read.specs.Reading.{node_bytes, four}
use Rattle.step.specs.Taking.{sequent}
use Rattle.grow.specs.declared.Node.{Node}
use Rattle.grow.specs.declared.Grown.{Grown}
use Rattle.grow.specs.declared.Stop.{Stop}
use Rattle.grow.specs.declared.Stop.TheVariants.{Full, Mismatch, TooMany}

-- the limits in force: document 01's. No visit is counted here
abbrev pub limits : Limits
limits = stated 0

-- past the longest message
abbrev pub too_long : ℕ
too_long = 65539

pub record MaskAt (s : List ℕ) (at rule r : ℕ) : Type 0 where
  pub small : r < 4294967296
  pub is : r ≡ elim (eqb rule 4) as (λ _. ℕ) [ true ↦ four s (at + 2) | false ↦ 0 ]

-- what a node's bytes say, and the place behind them
pub record NodeAt (s : List ℕ) (at : ℕ) (n : Node) : Type 0 where
  pub rule_is : n.rule ≡ get_or s at 0
  pub rule_low : n.rule < 256
  pub place_is : n.place ≡ get_or s (at + 1) 0
  pub place_low : n.place < 256
  pub mask_is : MaskAt s at n.rule n.mask
  pub next_is : n.next ≡ min (at + node_bytes n.rule) (length s)

-- a node of a rule with a number below 15, from place `to` on
pub record Putting (m : List ℕ) (z : Zones) (w to : ℕ) : Type 0 where
  pub sound : Sound m z
  pub known : rule_of w < 15
  pub from : 3 ≤ to
  pub low : to ≤ too_long

-- so many bytes on, but no further than past the longest message
abbrev pub on : (to n : ℕ) → ℕ
on to n = min (to + n) too_long

-- the bytes are written where there is room for them in a message that is not too long
pub record Put (bs out : List ℕ) (to : ℕ) (out' : List ℕ) : Type 0 where
  pub long : length out' ≡ length out
  pub written : to + length bs < too_long → to + length bs ≤ length out → out' ≡ sets out to bs

pub record PutHead (m : List ℕ) (z : Zones) (w : ℕ) (out : List ℕ) (to : ℕ) (out' : List ℕ) (r : ℕ) : Type 0 where
  pub next : r ≡ on to (length (head w (sequent m z)))
  pub put : Put (head w (sequent m z)) out to out'

-- the memory and the sequent are sound; the place lies in a message that is not too long, and so does the place that is written to
pub record Growing (m s : List ℕ) (at : ℕ) (z : Zones) (to : ℕ) : Type 0 where
  pub sound : Sound m z
  pub inside : at ≤ length s
  pub short : length s ≤ 65538
  pub from : 3 ≤ to
  pub low : to ≤ too_long

-- what the code answers
abbrev pub Grow : Type 0
Grow = std.Result Grown Stop

-- a part of the tree, with the places after it
abbrev pub Whole : (next to : ℕ) → Grow
Whole next to = Ok record { next = next; to = to }

-- the places after what was expanded
abbrev pub Within : (len at : ℕ) → Grow → Type 0
Within len at (Ok g) = ((at ≤ g.next) × (g.next ≤ len)) × ((3 ≤ g.to) × (g.to ≤ too_long))
Within len at (Err k) = Unit {0}

-- the refusals of `expand`, as the code answers them
abbrev pub Refuses : Refusal → Grow → Type 0
Refuses held_full r = r ≡ Err Full
Refuses too_many r = r ≡ Err TooMany
Refuses wrong_number r = ⊥
Refuses wrong_length r = ⊥
Refuses wrong_tag r = ⊥
Refuses too_high r = ⊥
Refuses budget_spent r = ⊥
Refuses failures_full r = ⊥
Refuses output_short r = ⊥
Refuses wrong_setting r = ⊥
Refuses wrong_memory r = ⊥

-- the code's answer to a result of `expand`, and the output after it; `next` is the place after the short tree
pub record WholeAs (t : Tree) (next : ℕ) (out : List ℕ) (to : ℕ) (r : Grow) (out' : List ℕ) : Type 0 where
  pub answer : r ≡ Whole next (on to (length (write_node t)))
  pub put : Put (write_node t) out to out'

abbrev pub Told : Result Tree → (next : ℕ) → List ℕ → ℕ → Grow → List ℕ → Type 0
Told (made t) next out to r out' = WholeAs t next out to r out'
Told mismatch next out to r out' = r ≡ Err Mismatch
Told (refused k) next out to r out' = Refuses k r

pub record GrownAs (x : Result Tree × List Formula) (next : ℕ) (out : List ℕ) (to : ℕ) (r : Grow) (fs : List Formula) (out' : List ℕ) : Type 0 where
  pub told : Told x.0 next out to r out'
  pub held : fs ≡ x.1

pub record Grows (m s : List ℕ) (at : ℕ) (z : Zones) (out : List ℕ) (to : ℕ) (r : Grow) (m' out' : List ℕ) : Type 0 where
  pub within : Within (length s) at r
  pub wf : Wf m'
  pub grew : Extends m m'
  pub long : length out' ≡ length out
  pub is : (t : Short) → Stands s at (write_short_node t) → ShortNodesFit t
      → GrownAs (expand limits t (sequent m z) (view m)) (at + length (write_short_node t)) out to r (view m') out'
