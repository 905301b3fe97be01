use mathlib.Core.Path.{refl}
use native.Mathlib.Omega.{arith}
use Rattle.print.specs.PrintingLaws.{as_text, row_at}
use Rattle.print.proofs.sign.Goals as goal

pub slice_bounds-emit-count : goal.slice_bounds-emit-count
slice_bounds-emit-count c = (row_at c.args.style _ c.row-k.ensures.0 c.requires).in_order

pub slice_bounds-emit-start : goal.slice_bounds-emit-start
slice_bounds-emit-start c = omega (arith, (row_at c.args.style _ c.row-k.ensures.0 c.requires).in_order, (row_at c.args.style _ c.row-k.ensures.0 c.requires).inside_all)

pub slice_bounds-emit-end : goal.slice_bounds-emit-end
slice_bounds-emit-end c = (row_at c.args.style _ c.row-k.ensures.0 c.requires).inside_all

pub returns : goal.returns
returns c = as_text c.emit.ensures (row_at c.args.style _ c.row-k.ensures.0 c.requires).cut refl
