use Rattle.formula.specs.Reading.{positive_tag}
use borrow.Author.Rules.{rules}
use Rattle.formula.proofs.positive_tag.Goals as goal

pub returns : goal.returns
unfolding positive_tag
returns c = search rules
