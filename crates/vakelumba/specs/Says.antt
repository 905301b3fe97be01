-- What a call of the boundary says: document 01's number, a value in a lent place, 0 where there is none, and the bytes of a lent buffer. Each is a function of what went in. Assumes nothing: these are definitions.
use Rattle.std.specs.Prelude.{◌≡◌, Bool, cond, Result, Ok, Err, List, ℕ}
use Rattle.logic.specs.Answer.{number, wrong_memory}
use Rattle.logic.specs.Formula.{Formula}
use Rattle.wire.specs.Read.{read_one, read_question}
use Rattle.formula.specs.Answers.{number_of}
use Rattle.formula.specs.Calls.{written, left_in}
use Rattle.formula.specs.declared.Refusal.{Refusal}
use Rattle.question.specs.Answers as question
use Rattle.memory.specs.Meaning.{Wf}
use Rattle.vakelumba.specs.declared.said.Said.{Said}

-- ---- each answer as its number and its value

abbrev pub refusal : Refusal → Said
refusal k = record { number = number_of k; value = 0 }

abbrev pub value_of : ℕ → Said
value_of n = record { number = 0; value = n }

abbrev pub of_written : Result ℕ Refusal → Said
of_written (Ok n) = value_of n
of_written (Err k) = refusal k

-- a depth is told as a length is
abbrev pub of_measured : Result ℕ Refusal → Said
of_measured = of_written

abbrev pub of_positive : Result Bool Refusal → Said
of_positive (Ok b) = value_of (cond b 1 0)
of_positive (Err k) = refusal k

-- ---- what is promised of a call that answers r and leaves a value

pub record Says (a : Said) (r value : ℕ) : Type 0 where
  pub number_is : r ≡ a.number
  pub value_is : value ≡ a.value

-- a writer: its buffer after the call too
pub record WrittenSaid (w : Result ℕ Refusal) (buffer : List ℕ) (r value : ℕ) (last : List ℕ) : Type 0 where
  pub says : Says (of_written w) r value
  pub buffer_is : last ≡ buffer

-- the text of the one formula in s
abbrev pub TextSaid : (text : Formula → List ℕ) (s out : List ℕ) (r value : ℕ) (last : List ℕ) → Type 0
TextSaid text s out r value last = WrittenSaid (written text (read_one s) out) (left_in text (read_one s) out) r value last

-- the question in s, one-sided
abbrev pub TurnedSaid : (s out : List ℕ) (r value : ℕ) (last : List ℕ) → Type 0
TurnedSaid s out r value last = WrittenSaid (question.wrote out (read_question s)) (question.left_in out (read_question s)) r value last

-- the test of a lent memory: 0 or 12
pub data FormedSaid (m : List ℕ) (r : ℕ) : Type 0 where
  well : Wf m → r ≡ 0 → FormedSaid m r
  ill : (Wf m → ⊥) → r ≡ number wrong_memory → FormedSaid m r
