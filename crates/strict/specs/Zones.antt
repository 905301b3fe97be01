-- A node's zones in a message, as strict mode reads them, and a formula of a zone with its parts. A contract speaks of any formulas that stand there. Assumes nothing.
use Rattle.std.specs.Prelude.{◌≡◌, Bool, true, false, List, [], ◌∷◌, ℕ, ◌+◌, ◌≤◌, ◌<◌, eqb, length}
use Rattle.logic.specs.Formula.{Formula, spell, size, among}
use Rattle.logic.specs.Parts.{tag_of, left_part, right_part}
use Rattle.logic.specs.Sequent.{Sequent}
use Rattle.logic.specs.Strict.{spelled}
use Rattle.tree.specs.Places.{FormulaAt, Holds, Within}
use Rattle.tree.specs.declared.Node.{Node}
use Rattle.bags.specs.Runs.{RunWithin, Reads}
use Rattle.bags.specs.declared.Run.{Run}
use Rattle.bags.specs.declared.How.{How}
use Rattle.bags.specs.declared.How.TheVariants.{Plain, Spelled, Negated}
use Rattle.strict.specs.declared.Principal.{Principal}

-- the places of a node in a message of so many bytes
pub record NodeInside (len : ℕ) (n : Node) : Type 0 where
  pub argument_inside : n.argument ≤ len
  pub linear_within : Within len n.linear
  pub unrestricted_within : Within len n.unrestricted
  pub next_inside : n.next ≤ len

-- the sequent at a node
pub record SequentAt (s : List ℕ) (n : Node) (q : Sequent) : Type 0 where
  pub linear_is : Holds s n.linear q.linear
  pub unrestricted_is : Holds s n.unrestricted q.unrestricted

pub record LinearRun (n : Node) (r : Run) : Type 0 where
  pub within : {len : ℕ} → NodeInside len n → RunWithin len r
  pub reads : {s : List ℕ} {q : Sequent} → SequentAt s n q → Reads s r (spelled q.linear)

pub record UnrestrictedRun (n : Node) (r : Run) : Type 0 where
  pub within : {len : ℕ} → NodeInside len n → RunWithin len r
  pub reads : {s : List ℕ} {q : Sequent} → SequentAt s n q → Reads s r q.unrestricted

-- the formulas of a run, as they stand
abbrev pub plain_run : Run → Run
plain_run run = record { at = run.at; end = run.end; how = Plain }

pub record PlainRun (run r : Run) : Type 0 where
  pub within : {len : ℕ} → RunWithin len run → RunWithin len r
  pub reads : {s : List ℕ} {fs : List Formula} → Reads s (plain_run run) fs → Reads s r fs

-- how strict mode reads the left part of a formula with this tag: that of an implication is negated
unfoldable pub part_how : ℕ → How
part_how t = elim (eqb t 10) [ true ↦ Negated | false ↦ Spelled ]

-- the place after a formula
pub record PartEnds (s : List ℕ) (at end next : ℕ) : Type 0 where
  pub within : next ≤ end
  pub past : (f : Formula) → FormulaAt s at f → at + size f ≤ end → next ≡ at + size f

-- a formula with its parts
pub record PrincipalWithin (len : ℕ) (f : Principal) : Type 0 where
  pub whole_within : RunWithin len f.whole
  pub left_within : RunWithin len f.left
  pub right_within : RunWithin len f.right

-- x with its parts: each part is read with an implication at its top spelled out, and the one part of a formula also as it stands
pub record PrincipalIs (s : List ℕ) (f : Principal) (x : Formula) : Type 0 where
  pub tag_is : f.tag ≡ tag_of (spell x)
  pub whole_reads : Reads s f.whole (spell x ∷ [])
  pub plain_reads : Reads s (plain_run f.whole) (x ∷ [])
  pub left_reads : 6 ≤ f.tag → Reads s f.left (spell (left_part (spell x)) ∷ [])
  pub right_reads : 6 ≤ f.tag → f.tag < 11 → Reads s f.right (spell (right_part (spell x)) ∷ [])
  pub part_reads : 11 ≤ f.tag → Reads s (plain_run f.left) (left_part (spell x) ∷ [])

pub record PrincipalAt (s : List ℕ) (at end : ℕ) (r : Principal) : Type 0 where
  pub within : PrincipalWithin (length s) r
  pub is : (x : Formula) → FormulaAt s at x → end ≡ at + size x → PrincipalIs s r x

-- the one formula of a run stands in another
pub record StandsIn (s : List ℕ) (f zone : Run) (r : Bool) : Type 0 where
  pub right : {x : Formula} {fs : List Formula} → Reads s f (x ∷ []) → Reads s zone fs → r ≡ among x fs
