use Rattle.std.proofs.Common.{rules, arith}
use Rattle.wire.specs.Fits.{Bytes}
use Rattle.verify.specs.Walks.{mode_test}
use Rattle.verify.specs.WalksLaws.{three_bytes, read_short, checked_refused, checked_accepted, checked_failed}
use Rattle.verify.proofs.verify_in.Goals as goal

pub returns-in_err-read_tree : goal.returns-in_err-read_tree
returns-in_err-read_tree c = let h = checked_refused (mode_test c.args.is_strict) c.args.s.now c.read_tree.ensures c.in_err-read_tree.was in search rules

pub verify_node-requires : goal.verify_node-requires
verify_node-requires c = let bytes : Bytes _ = record { byte = λ k. (c.type_inv.s k).fits } in
    (three_bytes c.args.s.now bytes c.read_tree.ensures c.in_ok-read_tree.was, omega arith, omega arith, read_short c.args.s.now bytes c.read_tree.ensures c.in_ok-read_tree.was)

pub returns-in_err-verify_node : goal.returns-in_err-verify_node
returns-in_err-verify_node c = let h = checked_failed (mode_test c.args.is_strict) c.args.s.now (record { byte = λ k. (c.type_inv.s k).fits }) c.read_tree.ensures c.in_ok-read_tree.was c.verify_node.ensures c.in_err-verify_node.was in search rules

pub returns : goal.returns
returns c = checked_accepted _ c.args.s.now (record { byte = λ k. (c.type_inv.s k).fits }) c.read_tree.ensures c.in_ok-read_tree.was c.verify_node.ensures c.in_ok-verify_node.was
