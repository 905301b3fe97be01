use mathlib.Core.Path.{◌∙◌}
use Rattle.tree.specs.PlacesLaws.{node_found}
use Rattle.tree.proofs.node_at.Goals as goal

pub returns : goal.returns
returns c = node_found c.args.s.now c.args.at _ _ c.requires c.byte_at-rule.ensures c.after-argument.ensures c.after_argument.ensures c.zone_at-linear.ensures c.zone_at-unrestricted.ensures (c.from.ensures ∙ c.byte_at.ensures) c.after.ensures (record { byte = λ k. (c.type_inv.s k).fits })
