use Rattle.search.proofs.Entry.{start_proves}
use Rattle.search.proofs.Prover.prove.Goals as goal

pub returns : goal.returns
returns c = start_proves c.requires c.zero.ensures c.visit.ensures
