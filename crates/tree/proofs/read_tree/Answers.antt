use borrow.Author.Rules.{rules}
use Rattle.tree.specs.ReadingLaws.{tree_short, tree_version, tree_length, tree_node_refused, tree_left_over, tree_read_whole}
use Rattle.tree.proofs.read_tree.Goals as goal

pub returns-then-s-lt3 : goal.returns-then-s-lt3
returns-then-s-lt3 c = tree_short c.args.s.now c.if-s-lt3.true

pub returns-then-s-ne1 : goal.returns-then-s-ne1
returns-then-s-ne1 c = tree_version c.args.s.now c.if-s-lt3.false c.if-s-ne1.true

pub returns-then-s-two_at : goal.returns-then-s-two_at
returns-then-s-two_at c = tree_length c.args.s.now c.if-s-lt3.false c.if-s-ne1.false c.two_at.ensures c.if-s-two_at.true

pub returns-in_err-tree : goal.returns-in_err-tree
returns-in_err-tree c = let h = tree_node_refused c.args.s.now c.if-s-lt3.false c.if-s-ne1.false c.two_at.ensures c.if-s-two_at.false c.read_node.ensures c.in_err-tree.was in search rules

pub returns-then-tree-s : goal.returns-then-tree-s
returns-then-tree-s c = tree_left_over c.args.s.now c.if-s-lt3.false c.if-s-ne1.false c.two_at.ensures c.if-s-two_at.false c.read_node.ensures c.in_ok-tree.was c.if-tree-s.true

pub returns : goal.returns
returns c = tree_read_whole c.args.s.now c.if-s-lt3.false c.if-s-ne1.false c.two_at.ensures c.if-s-two_at.false c.read_node.ensures c.in_ok-tree.was c.if-tree-s.false
