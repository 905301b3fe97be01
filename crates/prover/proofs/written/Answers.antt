use Rattle.prover.specs.StepsLaws.{writes_bytes, writes_none}
use Rattle.prover.proofs.written.Goals as goal

pub returns-in-Some : goal.returns-in-Some
returns-in-Some c = writes_bytes c.args.mem.now c.args.c c.args.out.now c.write_tree.ensures c.in-Some.is

pub returns-in-None : goal.returns-in-None
returns-in-None c = writes_none c.args.mem.now c.args.c c.args.out.now c.write_tree.ensures c.in-None.is
