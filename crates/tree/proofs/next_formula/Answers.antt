use Rattle.tree.specs.PlacesLaws.{passed_or}
use Rattle.tree.proofs.next_formula.Goals as goal

pub returns : goal.returns
returns c = passed_or c.args.s.now c.args.at c.args.end c.requires.0 c.requires.1 c.read_formula.ensures (record { byte = λ k. (c.type_inv.s k).fits }) c.unwrap_or.ensures
