-- What the calls of short trees say at the boundary: document 01's number, the length of what was written, 0 where nothing was, and the lent words and bytes as `shorten` and `expand` promise.
-- Assumes nothing: these are definitions.
use Rattle.std.specs.Prelude.{Result, Ok, Err, List, ℕ}
use Rattle.short_trees.specs.Promise.{Form, Call, left_of, Promise, answer_number}
use Rattle.short_trees.specs.declared.Failure.{Failure}
use Rattle.vakelumba.specs.declared.said.Said.{Said}
use Rattle.vakelumba.specs.Says.{Says}

-- how many bytes were written
abbrev pub length_of : Result ℕ Failure → ℕ
length_of (Ok n) = n
length_of (Err k) = 0

abbrev pub of_short : Result ℕ Failure → Said
of_short a = record { number = answer_number a; value = length_of a }

-- there is an answer of which the promise holds, and number and length are that answer's
pub record ShortSaid {A B : Type 0} (form : Form A B) (call : Call) (r written : ℕ) (memory output : List ℕ) : Type 0 where
  pub answer : Result ℕ Failure
  pub promised : Promise form call (left_of answer memory output)
  pub says : Says (of_short answer) r written
