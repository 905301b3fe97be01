use Rattle.prover.specs.StepsLaws.{searches_writable, searches_found, searches_nothing, searches_refused}
use Rattle.prover.proofs.search.Goals as goal

pub written-requires : goal.written-requires
written-requires c = searches_writable c.args.p c.args.z c.args.mem.now c.args.work.now c.args.out.now c.prove.ensures c.requires c.in-Found.is

pub returns-in-Found : goal.returns-in-Found
returns-in-Found c = searches_found c.args.p c.args.z c.args.mem.now c.args.work.now c.args.out.now c.prove.ensures c.requires c.in-Found.is c.written.ensures

pub returns-in-Nothing : goal.returns-in-Nothing
returns-in-Nothing c = searches_nothing c.args.p c.args.z c.args.mem.now c.args.work.now c.args.out.now c.prove.ensures c.in-Nothing.is

pub returns-in-Refused : goal.returns-in-Refused
returns-in-Refused c = searches_refused c.args.p c.args.z c.args.mem.now c.args.work.now c.args.out.now c.prove.ensures c.in-Refused.is
