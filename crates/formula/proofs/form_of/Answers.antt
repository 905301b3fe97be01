use mathlib.Core.Path.{sym}
use native.Mathlib.Omega.{arith}
use Rattle.formula.specs.ReadingLaws.{unit_tag, named_tag, binary_tag, unary_tag, unknown_tag}
use Rattle.formula.proofs.form_of.Goals as goal

pub returns-in-0-to-3 : goal.returns-in-0-to-3
returns-in-0-to-3 c = sym (unit_tag c.args.tag (omega arith))

pub returns-in-4 : goal.returns-in-4
returns-in-4 c = sym (named_tag c.args.tag (omega arith) (omega arith))

pub returns-in-6-to-10 : goal.returns-in-6-to-10
returns-in-6-to-10 c = sym (binary_tag c.args.tag (omega arith) (omega arith))

pub returns-in-11 : goal.returns-in-11
returns-in-11 c = sym (unary_tag c.args.tag (omega arith) (omega arith))

pub returns-in_default : goal.returns-in_default
returns-in_default c = sym (unknown_tag c.args.tag (omega arith))
