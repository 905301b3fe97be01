use mathlib.Core.Path.{refl, sym}
use Rattle.print.specs.PrintingLaws.{as_text, read_on, then_emitted, name_one, name_more}
use Rattle.print.proofs.+name.Goals as goal

pub returns-then-n-lt10 : goal.returns-then-n-lt10
returns-then-n-lt10 t c = as_text c.emit.ensures (sym (name_one _ c.if-n-lt10.true)) refl

pub returns : goal.returns
returns t c = as_text (then_emitted c.name-before.ensures c.emit-2.ensures) (sym (name_more _ c.if-n-lt10.false)) (read_on c.name-before.ensures)
