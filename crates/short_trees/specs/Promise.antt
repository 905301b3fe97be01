-- What `shorten` and `expand` promise, on any bytes and lent words (document 02, 11/12): 12; the question's 2 to 6 and its 7; the message's reading, all with nothing changed; then the
-- definition's result over the formulas that the question has entered. Answer, every word of memory and every byte of the output are settled. Both calls have one form, over what the message
-- is read as and what is made of it. Assumes nothing: these are definitions.
use Rattle.std.specs.Prelude as std
use Rattle.std.specs.Prelude.{Ok, Err, ◌≡◌, Bool, true, false, ◌&&◌, List, [], ◌++◌, ℕ, ◌≤◌, ◌<◌, leb, length, drop}
use Rattle.logic.specs.Formula.{Formula}
use Rattle.logic.specs.Sequent.{Sequent, Question, to_one_sided}
use Rattle.logic.specs.Tree.{Tree}
use Rattle.logic.specs.Answer as answer
use Rattle.logic.specs.Held.{enter_question}
use Rattle.logic.specs.Limits.{Limits, stated}
use Rattle.wire.specs.Write.{write_node, write_tree}
use Rattle.wire.specs.Read as wire
use Rattle.wire.specs.Read.{read_tree}
use Rattle.formula.specs.Answers.{coded, number_of}
use Rattle.formula.specs.declared.Refusal.TheVariants.{OutputShort}
use Rattle.memory.specs.Meaning.{Wf, holds, failed}
use Rattle.short.specs.Short.{Short}
use Rattle.short.specs.Making.{Result, made, mismatch, refused, Making}
use Rattle.short.specs.Shortening.{expand, shorten}
use Rattle.short_bytes.specs.Write.{write_short_node, write_short}
use Rattle.short_bytes.specs.Read.{read_short}
use Rattle.short_trees.specs.declared.Failure.{Failure}
use Rattle.short_trees.specs.declared.Failure.TheVariants.{Mismatch, Refused}

-- what is lent and asked: the bytes of the question and of the message, and the words of memory and output before the call
pub record Call : Type 0 where
  pub question : List ℕ
  pub message : List ℕ
  pub memory : List ℕ
  pub output : List ℕ

-- how many bytes were written, or why none were
abbrev pub Answer : Type 0
Answer = std.Result ℕ Failure

-- what stands there after it
pub record Left : Type 0 where
  pub answer : Answer
  pub memory : List ℕ
  pub output : List ℕ

abbrev pub call_of : (question message memory output : List ℕ) → Call
call_of q s m out = record { question = q; message = s; memory = m; output = out }

abbrev pub left_of : Answer → (memory output : List ℕ) → Left
left_of r m out = record { answer = r; memory = m; output = out }

-- document 01's number for an answer; 15 is that the tree is none that the search's rules build for the question
abbrev pub answer_number : Answer → ℕ
answer_number (Ok n) = 0
answer_number (Err Mismatch) = 15
answer_number (Err (Refused k)) = number_of k

-- a refusal before the first node: nothing has changed
abbrev pub unchanged : answer.Refusal → Call → Left
unchanged k call = left_of (Err (Refused (coded k))) call.memory call.output

-- the limits in force: document 01's. No visit is counted here
abbrev pub limits : Limits
limits = stated 0

-- what a message is read as, what is made of it for a sequent, and how that is written: its body, and the whole message
pub record Form (A B : Type 0) : Type 1 where
  pub read : List ℕ → wire.Read A
  pub make : A → Sequent → Making B
  pub body : B → List ℕ
  pub write : B → List ℕ

module _ {A B : Type 0} (form : Form A B) where
  -- the result can be written: its body has at most 65,535 bytes, and the output has room (10)
  abbrev pub writable : B → List ℕ → Bool
  writable b out = leb (length (form.body b)) 65535 && leb (length (form.write b)) (length out)

  -- the answer to a result, and the output after it
  unfoldable pub answered : Result B → List ℕ → Answer
  answered (made b) out = elim (writable b out) [ true ↦ Ok (length (form.write b)) | false ↦ Err (Refused OutputShort) ]
  answered mismatch out = Err Mismatch
  answered (refused k) out = Err (Refused (coded k))

  unfoldable pub output_after : Result B → List ℕ → List ℕ
  output_after (made b) out = elim (writable b out) [ true ↦ form.write b ++ drop (length (form.write b)) out | false ↦ out ]
  output_after mismatch out = out
  output_after (refused k) out = out

  -- after the walk over the nodes: the result is the definition's, the formulas held are those that it leaves, and the failures are as they were
  pub record Settled (call : Call) (x : Result B × List Formula) (left : Left) : Type 0 where
    pub answer_is : left.answer ≡ answered x.0 call.output
    pub output_is : left.output ≡ output_after x.0 call.output
    pub memory_formed : Wf left.memory
    pub formulas_are : holds left.memory ≡ x.1
    pub failures_are : failed left.memory ≡ failed call.memory

  -- the definition's result for a question and a message, over what the memory holds
  abbrev pub result : Call → Question → A → Result B × List Formula
  result call q a = form.make a (to_one_sided q) (enter_question q (holds call.memory))

  -- the promise, in its order. Each call is in one of the five cases
  pub data Promise (call : Call) (left : Left) : Type 0 where
    memory_refused : (Wf call.memory → ⊥) → left ≡ unchanged answer.wrong_memory call → Promise call left
    question_refused : Wf call.memory → (k : answer.Refusal) → wire.read_question call.question ≡ wire.refused k → left ≡ unchanged k call → Promise call left
    question_over : Wf call.memory → (q : Question) → wire.read_question call.question ≡ wire.got q [] → 2048 < length (enter_question q (holds call.memory))
        → left ≡ unchanged answer.held_full call → Promise call left
    message_refused : Wf call.memory → (q : Question) → wire.read_question call.question ≡ wire.got q [] → length (enter_question q (holds call.memory)) ≤ 2048
        → (k : answer.Refusal) → form.read call.message ≡ wire.refused k → left ≡ unchanged k call → Promise call left
    message_taken : Wf call.memory → (q : Question) → wire.read_question call.question ≡ wire.got q [] → length (enter_question q (holds call.memory)) ≤ 2048
        → (a : A) → form.read call.message ≡ wire.got a [] → Settled call (result call q a) left → Promise call left

-- the two calls
abbrev pub expanding : Form Short Tree
expanding = record { read = read_short; make = expand limits; body = write_node; write = write_tree }

abbrev pub shortening : Form Tree Short
shortening = record { read = read_tree; make = shorten limits; body = write_short_node; write = write_short }

abbrev pub Expands : Call → Left → Type 0
Expands = Promise expanding

abbrev pub Shortens : Call → Left → Type 0
Shortens = Promise shortening
