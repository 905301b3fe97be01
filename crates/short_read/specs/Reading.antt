-- What reading a short tree answers: a place in the place of a value, and the code's refusals. Assumes nothing: these are definitions.
use Rattle.formula.specs.declared.Refusal.{Refusal}
use Rattle.std.specs.Prelude.{◌≡◌, true, false, List, [], ◌∷◌, ℕ, ◌+◌, ◌*◌, ◌-◌, ◌≤◌, ◌<◌, eqb, length, get_or, drop, Err, Ok, Result}
use Rattle.logic.specs.Tree.{Rule}
use Rattle.wire.specs.Read.{Read, got, refused, ◌then◌}
use Rattle.formula.specs.Answers.{coded}
use Rattle.tree.specs.ReadingLaws.{RefusedBy}
use Rattle.short.specs.Short.{Short, short}
use Rattle.short_bytes.specs.Read.{read_short_premises, read_short_node}

-- how many premises follow a rule, by its number; 3 where it has no short form
abbrev pub premise_counts : List ℕ
premise_counts = 0 ∷ 3 ∷ 0 ∷ 1 ∷ 2 ∷ 1 ∷ 0 ∷ 2 ∷ 1 ∷ 1 ∷ 1 ∷ 1 ∷ 1 ∷ 1 ∷ 1 ∷ []

abbrev pub premises_by : ℕ → ℕ
premises_by rule = get_or premise_counts rule 3

-- how many bytes a node has before its premises, by its rule's number
abbrev pub node_bytes : ℕ → ℕ
node_bytes rule = elim (eqb rule 4) [ true ↦ 6 | false ↦ 2 ]

-- four bytes as a number; past the end they are 0
abbrev pub four : List ℕ → ℕ → ℕ
four s at = (get_or s at 0 * 256 + get_or s (at + 1) 0) * 65536 + (get_or s (at + 2) 0 * 256 + get_or s (at + 2 + 1) 0)

-- the place after what was read, in bytes that end at `end`
unfoldable pub short_read : (end : ℕ) → Read Short → Result ℕ Refusal
short_read end (got t rest) = Ok (end - length rest)
short_read end (refused k) = Err (coded k)

-- a node whose own bytes were read: its premises are read from `next` on
pub record HeadThere (s : List ℕ) (at levels next : ℕ) : Type 0 where
  pub rule : Rule
  pub place : ℕ
  pub mask : ℕ
  pub level : 0 < levels
  pub further : at < next
  pub inside : next ≤ length s
  pub few : premises_by (get_or s at 0) ≤ 2
  pub by_premises : read_short_node levels (drop at s)
      ≡ (read_short_premises (read_short_node (levels - 1)) (premises_by (get_or s at 0)) (drop next s) then λ ss bs. got (short rule place mask ss) bs)

-- what reading a node's own bytes answers
abbrev pub HeadRead : (s : List ℕ) (at levels : ℕ) → Result ℕ Refusal → Type 0
HeadRead s at levels (Ok next) = HeadThere s at levels next
HeadRead s at levels (Err why) = RefusedBy (read_short_node levels (drop at s)) why
