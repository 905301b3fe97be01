use Rattle.std.proofs.Common.{rules}
use Rattle.question.specs.AnswersLaws.{question_unkind, kind_inside, question_unended, ends_inside, question_read}
use Rattle.question.proofs.read_question.Goals as goal

pub returns-in_err-kind : goal.returns-in_err-kind
returns-in_err-kind c = let h = question_unkind c.args.s.now c.read_kind.ensures c.in_err-kind.was in search rules

pub read_ends-requires : goal.read_ends-requires
read_ends-requires c = (kind_inside _ c.read_kind.ensures c.in_ok-kind.was).0

pub returns-in_err-middle : goal.returns-in_err-middle
returns-in_err-middle c = let h = question_unended c.args.s.now c.read_kind.ensures c.in_ok-kind.was c.read_ends.ensures c.in_err-middle.was in search rules

pub read_zones-requires : goal.read_zones-requires
read_zones-requires c = ((kind_inside _ c.read_kind.ensures c.in_ok-kind.was).1, ends_inside _ c.read_kind.ensures c.in_ok-kind.was c.read_ends.ensures c.in_ok-middle.was)

pub returns : goal.returns
returns c = question_read _ c.read_kind.ensures c.in_ok-kind.was c.read_ends.ensures c.in_ok-middle.was c.read_zones.ensures
