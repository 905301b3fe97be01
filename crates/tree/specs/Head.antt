-- A node's own bytes, before its premises: rule and argument, zones, premise count. `HeadLaws` shows that a node is these and then its premises. Assumes nothing.
use Rattle.std.specs.Prelude.{List, ℕ}
use Rattle.logic.specs.Sequent.{Sequent}
use Rattle.logic.specs.Tree.{Rule, Tree, Trees, node}
use Rattle.logic.specs.Answer.{wrong_number}
use Rattle.wire.specs.Read.{Read, got, ◌then◌, entry, read_byte, rule_forms, read_argument, read_sequent}

pub record Head : Type 0 where
  pub rule : Rule
  pub sequent : Sequent
  pub premises : ℕ

unfoldable pub read_rule : List ℕ → Read Rule
read_rule bs = read_byte bs then λ r bs. entry rule_forms r wrong_number λ form. read_argument form bs

unfoldable pub read_head : List ℕ → Read Head
read_head bs =
    read_rule bs then λ r bs. read_sequent bs then λ q bs. read_byte bs then λ n bs. got (record { rule = r; sequent = q; premises = n }) bs

-- a node of that head and those premises
abbrev pub node_of : Head → Trees → Tree
node_of h ps = node h.rule h.sequent ps
