use mathlib.Core.Path.{refl, sym, ◌∙◌}
use native.Mathlib.Omega.{arith}
use Rattle.zones.specs.ZonesLaws.{linears_length}
use Rattle.split.specs.LabelLaws.{some_of, none_of, linear_item, unlike_start, label_found, unlike_next, label_none}
use Rattle.split.proofs.label_at.Goals as goal

pub loop-x-init : goal.loop-x-init
loop-x-init c = unlike_start c.requires.0

pub returns-then-is_some : goal.returns-then-is_some
returns-then-is_some c =
    let item = linear_item c.requires.0 c.loop-x.x-index c.loop-x-test.true in
    rw item.1 (label_found c.requires.0 item.0 refl (rw (c.from.ensures, item.1) at c.matches.ensures) (some_of c.matches.result (sym c.is_some.ensures ∙ c.if-is_some.true)).1)

pub loop-x-preserved : goal.loop-x-preserved
loop-x-preserved c =
    let item = linear_item c.requires.0 c.loop-x.x-index c.loop-x-test.true in
    unlike_next c.requires.0 item.0 refl (rw (c.from.ensures, item.1) at c.matches.ensures) (none_of c.matches.result (sym c.is_some.ensures ∙ c.if-is_some.false)) c.loop-x.invariant

pub returns : goal.returns
returns c = label_none c.requires.0 (omega (arith, linears_length c.requires.0.fits, c.loop-x-test.false)) c.loop-x.invariant
