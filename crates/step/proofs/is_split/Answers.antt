use native.Mathlib.Omega.{arith}
use Rattle.step.proofs.TakingSteps.{split_other, split_some, split_below}
use Rattle.step.proofs.is_split.Goals as goal

pub tag_at-requires : goal.tag_at-requires
tag_at-requires c = c.requires

pub returns-then-tag_at-ne-TENSOR : goal.returns-then-tag_at-ne-TENSOR
returns-then-tag_at-ne-TENSOR c = split_other c.requires c.tag_at.ensures c.if-tag_at-ne-TENSOR.true

pub overflow_sub-result : goal.overflow_sub-result
overflow_sub-result c = split_some c.requires c.tag_at.ensures c.if-tag_at-ne-TENSOR.false

pub overflow_shl-result : goal.overflow_shl-result
overflow_shl-result c = omega (arith, c.requires.fits.few)

pub returns : goal.returns
returns c = split_below c.requires c.tag_at.ensures c.if-tag_at-ne-TENSOR.false c.args.mask
