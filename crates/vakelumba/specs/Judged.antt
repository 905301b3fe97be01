-- What the verifier's call at the boundary says: document 01's number and the record of the fault, all 0 where the answer names no node. Assumes nothing: these are definitions.
use Rattle.std.specs.Prelude.{◌≡◌, Result, Ok, Err, ℕ}
use Rattle.verify.specs.Verdicts.{answer_number}
use Rattle.verify.specs.declared.Rejected.{Rejected}
use Rattle.verify.specs.declared.Rejected.TheVariants.{Refused, Invalid, WrongCount, Mismatch}
use Rattle.vakelumba.specs.declared.verdict.Fault.{Fault}
use Rattle.vakelumba.specs.declared.verdict.Verdict.{Verdict}

abbrev pub fault_at : (rule node wrappers expected got : ℕ) → Fault
fault_at r n w expected given = record { rule = r; node = n; wrappers = w; expected = expected; got = given }

unfoldable pub fault_of : Result (Unit {0}) Rejected → Fault
fault_of (Ok x) = fault_at 0 0 0 0 0
fault_of (Err (Refused k)) = fault_at 0 0 0 0 0
fault_of (Err (Invalid r n w)) = fault_at r n w 0 0
fault_of (Err (WrongCount r n w expected given)) = fault_at r n w expected given
fault_of (Err (Mismatch r n w)) = fault_at r n w 0 0

abbrev pub verdict : Result (Unit {0}) Rejected → Verdict
verdict v = record { number = answer_number v; fault = fault_of v }

-- the promise: answer r, and fault f in the lent place
pub record JudgedSaid (v : Result (Unit {0}) Rejected) (r : ℕ) (f : Fault) : Type 0 where
  pub number_is : r ≡ answer_number v
  pub fault_is : f ≡ fault_of v
