-- What `prove` promises, on any bytes, settings and lent words (document 01, "What a call can say"): 11, 12, reading, then the search of the logic crate under the limits as stated.
-- Answer, counters, every word of memory and every byte of the output are settled; of the work slice, the words that no visit could use. Assumes nothing: these are definitions.
use Rattle.std.specs.Prelude.{◌≡◌, Bool, true, false, ◌&&◌, List, [], ◌++◌, ℕ, ◌≤◌, leb, length, get_or, drop}
use Rattle.logic.specs.Sequent.{Question}
use Rattle.logic.specs.Tree.{Tree}
use Rattle.logic.specs.Answer as answer
use Rattle.logic.specs.Outcome.{Outcome, found, nothing, refused, State, Memory}
use Rattle.logic.specs.Search.{as_stated, ask}
use Rattle.wire.specs.Write.{write_node, write_tree}
use Rattle.wire.specs.Read as wire
use Rattle.wire.specs.Fits.{NodesFew}
use Rattle.formula.specs.Answers.{coded, number_of}
use Rattle.formula.specs.declared.Refusal.TheVariants.{OutputShort}
use Rattle.failures.specs.Alike.{Alike}
use Rattle.memory.specs.Meaning.{Wf, holds, failed}
use Rattle.search.specs.declared.counters.Counters.{Counters}
use Rattle.prover.specs.declared.Answer.{Answer}
use Rattle.prover.specs.declared.Answer.TheVariants.{Found, Nothing, Refused}

-- what is lent and asked: the question's bytes, the settings, and the words of memory, work and output before the call
pub record Call : Type 0 where
  pub question : List ℕ
  pub limit : ℕ
  pub budget : ℕ
  pub cache : Bool
  pub memory : List ℕ
  pub work : List ℕ
  pub output : List ℕ

-- what stands there after it
pub record Left : Type 0 where
  pub answer : Answer
  pub memory : List ℕ
  pub work : List ℕ
  pub output : List ℕ

abbrev pub call_of : (question : List ℕ) (limit budget : ℕ) (cache : Bool) (memory work output : List ℕ) → Call
call_of s limit budget cache m w out = record { question = s; limit = limit; budget = budget; cache = cache; memory = m; work = w; output = out }

abbrev pub left_of : Answer → (memory work output : List ℕ) → Left
left_of r m w out = record { answer = r; memory = m; work = w; output = out }

-- the settings fit (11)
pub record Fit (limit budget room : ℕ) : Type 0 where
  pub depth_fits : limit ≤ 64
  pub budget_some : 1 ≤ budget
  pub budget_fits : budget ≤ 16384
  pub work_fits : budget ≤ room

abbrev pub SettingsFit : Call → Type 0
SettingsFit call = Fit call.limit call.budget (length call.work)

-- the counters of a state, and none
abbrev pub counters_of : State → Counters
counters_of s = record { explored = s.explored; hits = s.hits; reached = s.reached }

abbrev pub zeroes : Counters
zeroes = record { explored = 0; hits = 0; reached = 0 }

-- a refusal at entry or in reading: zero counters, and nothing has changed
abbrev pub unchanged : answer.Refusal → Call → Left
unchanged k call = left_of (Refused (coded k) zeroes) call.memory call.work call.output

-- what the memory holds
abbrev pub meaning : List ℕ → Memory
meaning m = record { held = holds m; failures = failed m }

-- document 01's search of a question, over what the memory holds
abbrev pub searched : Call → Question → Outcome × State
searched call q = ask (as_stated call.cache call.budget) call.limit q (meaning call.memory)

-- the tree can be written: its body has at most 65,535 bytes, and the output has room (10)
abbrev pub writable : Tree → List ℕ → Bool
writable t out = leb (length (write_node t)) 65535 && leb (length (write_tree t)) (length out)

-- the answer to an outcome, and the output after it
unfoldable pub answered : Outcome → Counters → List ℕ → Answer
answered (found t) c out = elim (writable t out) [ true ↦ Found (length (write_tree t)) c | false ↦ Refused OutputShort c ]
answered nothing c out = Nothing c
answered (refused k) c out = Refused (coded k) c

unfoldable pub output_after : Outcome → List ℕ → List ℕ
output_after (found t) out = elim (writable t out) [ true ↦ write_tree t ++ drop (length (write_tree t)) out | false ↦ out ]
output_after nothing out = out
output_after (refused k) out = out

-- each sequent of a found tree has at most 31 formulas
abbrev pub Few : Outcome → Type 0
Few (found t) = NodesFew t
Few nothing = Unit {0}
Few (refused k) = Unit {0}

-- after a search: outcome and state are the definition's. The memory lists a failure's items by their numbers, so its failures are alike to the definition's, key by key
pub record Settled (work output : List ℕ) (o : Outcome) (s : State) (left : Left) : Type 0 where
  pub answer_is : left.answer ≡ answered o (counters_of s) output
  pub output_is : left.output ≡ output_after o output
  pub memory_formed : Wf left.memory
  pub formulas_are : holds left.memory ≡ s.memory.held
  pub failures_are : Alike (failed left.memory) s.memory.failures
  pub work_length : length left.work ≡ length work
  pub work_beyond : (i : ℕ) → s.explored ≤ i → get_or left.work i 0 ≡ get_or work i 0
  pub few : Few o

abbrev pub Searched : Call → Outcome × State → Left → Type 0
Searched call r left = Settled call.work call.output r.0 r.1 left

-- the promise, in document 01's order at entry: 11, 12, reading, searching. Each call is in one of the four cases
pub data Promise (call : Call) (left : Left) : Type 0 where
  settings_refused : (SettingsFit call → ⊥) → left ≡ unchanged answer.wrong_setting call → Promise call left
  memory_refused : SettingsFit call → (Wf call.memory → ⊥) → left ≡ unchanged answer.wrong_memory call → Promise call left
  question_refused : SettingsFit call → Wf call.memory → (k : answer.Refusal) → wire.read_question call.question ≡ wire.refused k → left ≡ unchanged k call → Promise call left
  question_searched : SettingsFit call → Wf call.memory → (q : Question) → wire.read_question call.question ≡ wire.got q [] → Searched call (searched call q) left → Promise call left

-- document 01's number for an answer
abbrev pub answer_number : Answer → ℕ
answer_number (Found n c) = 0
answer_number (Nothing c) = 1
answer_number (Refused k c) = number_of k
