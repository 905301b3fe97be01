use Rattle.bags.specs.ComparedLaws.{names_other, names_alike}
use Rattle.bags.proofs.names.Goals as goal

pub returns-then-two_at : goal.returns-then-two_at
returns-then-two_at c = names_other _ _ _ c.requires.0 c.requires.1 c.after.ensures c.after-2.ensures c.two_at.ensures c.two_at-2.ensures c.if-two_at.true

pub returns : goal.returns
returns c = names_alike _ _ _ c.requires.0 c.requires.1 c.after.ensures c.after-2.ensures c.two_at.ensures c.two_at-2.ensures c.if-two_at.false c.after-3.ensures c.after-4.ensures
