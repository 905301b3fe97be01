use native.Mathlib.Omega.{arith}
use Rattle.memory.specs.MeaningLaws.{wf_length}
use Rattle.memory.proofs.ShapeSteps.{row_reads, read_row, shape_one, shape_bottom, shape_top, shape_zero, shape_atom, shape_neg_atom, shape_tensor, shape_par, shape_with, shape_plus, shape_lolli, shape_of_course, shape_why_not}
use Rattle.memory.proofs.shape.shape_at.Goals as goal

pub bounds-mem-at : goal.bounds-mem-at
bounds-mem-at c = omega (arith, row_reads _ _ 0 c.requires.0 c.requires.1 (omega arith), wf_length _ c.requires.0)

pub bounds-mem-at-2 : goal.bounds-mem-at-2
bounds-mem-at-2 c = omega (arith, row_reads _ _ 1 c.requires.0 c.requires.1 (omega arith), wf_length _ c.requires.0)

pub bounds-mem-at-3 : goal.bounds-mem-at-3
bounds-mem-at-3 c = omega (arith, row_reads _ _ 2 c.requires.0 c.requires.1 (omega arith), wf_length _ c.requires.0)

pub returns-in-0 : goal.returns-in-0
returns-in-0 c = shape_one c.args.mem.now (read_row _ _ c.requires.0 c.requires.1) c.in-0.is

pub returns-in-1 : goal.returns-in-1
returns-in-1 c = shape_bottom c.args.mem.now (read_row _ _ c.requires.0 c.requires.1) c.in-1.is

pub returns-in-2 : goal.returns-in-2
returns-in-2 c = shape_top c.args.mem.now (read_row _ _ c.requires.0 c.requires.1) c.in-2.is

pub returns-in-3 : goal.returns-in-3
returns-in-3 c = shape_zero c.args.mem.now (read_row _ _ c.requires.0 c.requires.1) c.in-3.is

pub returns-in-4 : goal.returns-in-4
returns-in-4 c = shape_atom c.args.mem.now (read_row _ _ c.requires.0 c.requires.1) c.in-4.is

pub returns-in-5 : goal.returns-in-5
returns-in-5 c = shape_neg_atom c.args.mem.now (read_row _ _ c.requires.0 c.requires.1) c.in-5.is

pub returns-in-6 : goal.returns-in-6
returns-in-6 c = shape_tensor c.args.mem.now (read_row _ _ c.requires.0 c.requires.1) c.in-6.is

pub returns-in-7 : goal.returns-in-7
returns-in-7 c = shape_par c.args.mem.now (read_row _ _ c.requires.0 c.requires.1) c.in-7.is

pub returns-in-8 : goal.returns-in-8
returns-in-8 c = shape_with c.args.mem.now (read_row _ _ c.requires.0 c.requires.1) c.in-8.is

pub returns-in-9 : goal.returns-in-9
returns-in-9 c = shape_plus c.args.mem.now (read_row _ _ c.requires.0 c.requires.1) c.in-9.is

pub returns-in-10 : goal.returns-in-10
returns-in-10 c = shape_lolli c.args.mem.now (read_row _ _ c.requires.0 c.requires.1) c.in-10.is

pub returns-in-11 : goal.returns-in-11
returns-in-11 c = shape_of_course c.args.mem.now (read_row _ _ c.requires.0 c.requires.1) c.in-11.is

pub returns-in_default : goal.returns-in_default
returns-in_default c = shape_why_not c.args.mem.now (read_row _ _ c.requires.0 c.requires.1) (omega arith)
