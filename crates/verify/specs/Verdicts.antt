-- The answers of the verifier: the code's faults and verdicts beside those of the logic, and document 01's number for each. Assumes nothing.
use Rattle.std.proofs.Math.Option.{Option, none, some}
use Rattle.std.specs.Prelude as code
use Rattle.std.specs.Prelude.{ℕ, Some, None, Result, Ok, Err}
use Rattle.logic.specs.Sequent.{Sequent}
use Rattle.logic.specs.Tree.{Rule, Tree, Trees}
use Rattle.logic.specs.Verify as logic
use Rattle.wire.specs.Read.{Read, got, refused}
use Rattle.formula.specs.Answers as answers
use Rattle.tree.specs.Places.{rule_number}
use Rattle.verify.specs.declared.Fault.{Fault}
use Rattle.verify.specs.declared.Fault.TheVariants as fault
use Rattle.verify.specs.declared.Rejected.{Rejected}
use Rattle.verify.specs.declared.Rejected.TheVariants as rejected
use Rattle.verify.specs.declared.Passed.{Passed}

abbrev pub no_fault : Option logic.Fault
no_fault = none

-- the code's fault for the logic's
unfoldable pub fault_of : Option logic.Fault → code.Option Fault
fault_of none = None
fault_of (some logic.invalid_rule) = Some fault.Invalid
fault_of (some (logic.wrong_premise_count expected given)) = Some (fault.Count expected given)
fault_of (some logic.context_mismatch) = Some fault.Mismatch

-- why the logic rejects, in the code
unfoldable pub rejected_of : Rule → (number wrappers : ℕ) → logic.Fault → Rejected
rejected_of r n w logic.invalid_rule = rejected.Invalid (rule_number r) n w
rejected_of r n w (logic.wrong_premise_count expected given) = rejected.WrongCount (rule_number r) n w expected given
rejected_of r n w logic.context_mismatch = rejected.Mismatch (rule_number r) n w

-- the code's verdict for the logic's
unfoldable pub verdict_of : logic.Verdict → Result (Unit {0}) Rejected
verdict_of logic.accepted = Ok tt
verdict_of (logic.rejected r n w f) = Err (rejected_of r n w f)

-- a fault, told of its node
unfoldable pub told : Fault → (rule number wrappers : ℕ) → Rejected
told fault.Invalid r n w = rejected.Invalid r n w
told (fault.Count expected given) r n w = rejected.WrongCount r n w expected given
told fault.Mismatch r n w = rejected.Mismatch r n w

-- a part of a tree passed, up to the next place and number, or why it did not
unfoldable pub walk_of : logic.Verdict → (next number : ℕ) → Result Passed Rejected
walk_of logic.accepted next number = Ok (record { next = next; number = number })
walk_of (logic.rejected r n w f) next number = Err (rejected_of r n w f)

-- the answer of the verifier that has this test at a node: all reading ends before any checking
unfoldable pub checked : (Rule → Sequent → Trees → Option logic.Fault) → Read Tree → Result (Unit {0}) Rejected
checked test (got t rest) = verdict_of (logic.verify_from test t 0 0)
checked test (refused k) = Err (rejected.Refused (answers.coded k))

-- document 01's number
unfoldable pub answer_number : Result (Unit {0}) Rejected → ℕ
answer_number (Ok x) = 0
answer_number (Err (rejected.Refused k)) = answers.number_of k
answer_number (Err (rejected.Invalid r n w)) = 13
answer_number (Err (rejected.WrongCount r n w expected given)) = 14
answer_number (Err (rejected.Mismatch r n w)) = 15
