-- `lolli::put_formula` is safe: what was written lies within the buffer.
use Rattle.std.proofs.Common.{sym, length-take-le}
use Rattle.lolli.proofs.Texts.{written_within}
use Rattle.lolli.proofs.put_formula.Goals as goal

pub slice_bounds-write_all-end : goal.slice_bounds-write_all-end
slice_bounds-write_all-end g c = written_within c.in-Ok.ensures

pub slice_bounds-write_all-end-2 : goal.slice_bounds-write_all-end-2
slice_bounds-write_all-end-2 g c = sym (length-take-le _ _ (written_within c.in-Ok.ensures))
