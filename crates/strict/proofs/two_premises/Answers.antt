use Rattle.std.proofs.Common.{arith}
use Rattle.strict.specs.RulesLaws.{two_changed, two_changed_second, two_cut, two_kept}
use Rattle.strict.proofs.two_premises.Goals as goal
use Rattle.strict.proofs.two_premises.Goals.{then-not-keeps_zone-via-then-not-keeps_zone, then-not-keeps_zone-via-else-not-keeps_zone+then-not-keeps_zone-2}

pub returns-then-not-keeps_zone : goal.returns-then-not-keeps_zone
returns-then-not-keeps_zone c = elim c.then-not-keeps_zone.branch [
  | then-not-keeps_zone-via-then-not-keeps_zone w ↦ two_changed c.args.q c.node_at-p.ensures c.after_tree.ensures c.node_at-p2.ensures c.keeps_zone.ensures w.if-not-keeps_zone.true
  | then-not-keeps_zone-via-else-not-keeps_zone+then-not-keeps_zone-2 w ↦ two_changed_second c.args.q c.node_at-p.ensures c.after_tree.ensures c.node_at-p2.ensures c.keeps_zone.ensures w.if-not-keeps_zone.false w.keeps_zone-else-not-keeps_zone.ensures w.if-not-keeps_zone-2.true
]

pub returns-then-q-from : goal.returns-then-q-from
returns-then-q-from c = two_cut c.args.q c.node_at-p.ensures c.after_tree.ensures c.node_at-p2.ensures c.keeps_zone.ensures c.if-not-keeps_zone.false c.keeps_zone-else-not-keeps_zone.ensures c.if-not-keeps_zone-2.false (omega arith) c.cut_step.ensures

pub returns-else-q-from : goal.returns-else-q-from
returns-else-q-from c = two_kept c.args.q c.node_at-p.ensures c.after_tree.ensures c.node_at-p2.ensures c.keeps_zone.ensures c.if-not-keeps_zone.false c.keeps_zone-else-not-keeps_zone.ensures c.if-not-keeps_zone-2.false (λ e. omega arith) c.some_step.ensures
