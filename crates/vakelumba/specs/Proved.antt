-- What the search's call at the boundary says: document 01's number, the tree's length, 0 where none was found, the counters, and the lent words and bytes as `prove` promises. Assumes nothing: these are definitions.
use Rattle.std.specs.Prelude.{◌≡◌, List, ℕ}
use Rattle.search.specs.declared.counters.Counters as search
use Rattle.prover.specs.Promise.{Call, left_of, Promise, answer_number}
use Rattle.prover.specs.declared.Answer.{Answer}
use Rattle.prover.specs.declared.Answer.TheVariants.{Found, Nothing, Refused}
use Rattle.vakelumba.specs.declared.proved.Counters.{Counters}
use Rattle.vakelumba.specs.declared.proved.Report.{Report}

abbrev pub counters_said : search.Counters → Counters
counters_said c = record { explored = c.explored; hits = c.hits; reached = c.reached }

-- the counters of an answer, and the length of the tree that it has
abbrev pub counters_of : Answer → Counters
counters_of (Found n c) = counters_said c
counters_of (Nothing c) = counters_said c
counters_of (Refused k c) = counters_said c

abbrev pub length_of : Answer → ℕ
length_of (Found n c) = n
length_of (Nothing c) = 0
length_of (Refused k c) = 0

abbrev pub report_of : Answer → Report
report_of x = record { number = answer_number x; counters = counters_of x }

-- the promise: `prove`'s, at an answer that the report and the length tell
pub record ReportSaid (call : Call) (r : Report) (written : ℕ) (memory work output : List ℕ) : Type 0 where
  pub answer : Answer
  pub promised : Promise call (left_of answer memory work output)
  pub report_is : r ≡ report_of answer
  pub length_is : written ≡ length_of answer

-- the same with the report in two: the number that is returned, and the counters in the lent place
abbrev pub ProvedSaid : (call : Call) (r : ℕ) (c : Counters) (written : ℕ) (memory work output : List ℕ) → Type 0
ProvedSaid call r c written m w o = ReportSaid call (record { number = r; counters = c }) written m w o
