use Rattle.verify.specs.Verdicts.{told}
use Rattle.verify.proofs.told.Goals as goal

pub returns-in-Invalid : goal.returns-in-Invalid
unfolding told
returns-in-Invalid c = rw c.in-Invalid.is

pub returns-in-Count : goal.returns-in-Count
unfolding told
returns-in-Count c = rw c.in-Count.is

pub returns-in-Mismatch : goal.returns-in-Mismatch
unfolding told
returns-in-Mismatch c = rw c.in-Mismatch.is
