use Rattle.verify.specs.Walks.{mode_test}
use Rattle.verify.proofs.verify_strict.Goals as goal

pub returns : goal.returns
unfolding mode_test
returns c = c.verify_in.ensures
