use Rattle.split.specs.SplittingLaws.{tried_start, tried_other, tried_nowhere, tried_found, tried_end, place_asked, place_removable}
use Rattle.split.proofs.least_split.Goals as goal
use Rattle.split.proofs.least_split.Goals.{then-is_tensor_of+in_default, else-is_tensor_of}

pub loop-i-init : goal.loop-i-init
loop-i-init c = tried_start c.requires

pub is_tensor_of-requires : goal.is_tensor_of-requires
is_tensor_of-requires c = place_asked c.requires c.loop-i-test.true

pub deal_at-requires : goal.deal_at-requires
deal_at-requires c = place_removable c.requires c.loop-i-test.true

pub returns-in-Some : goal.returns-in-Some
returns-in-Some c = tried_found c.requires c.loop-i.invariant c.loop-i-test.true c.is_tensor_of.ensures c.if-is_tensor_of.true c.deal_at.result c.deal_at.ensures c.in-Some.is

pub loop-i-preserved : goal.loop-i-preserved
loop-i-preserved c =
    elim c.if-is_tensor_of.branch [
      | then-is_tensor_of+in_default w ↦ tried_nowhere c.requires c.loop-i.invariant c.loop-i-test.true w.deal_at.result w.deal_at.ensures w.in_default.is
      | else-is_tensor_of w ↦ tried_other c.requires c.loop-i.invariant c.loop-i-test.true c.is_tensor_of.ensures w.if-is_tensor_of.false
    ]

pub returns : goal.returns
returns c = tried_end c.requires c.loop-i.invariant c.loop-i-test.false
