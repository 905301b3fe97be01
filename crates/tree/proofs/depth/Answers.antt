use borrow.Author.Rules.{rules}
use Rattle.tree.specs.ReadingLaws.{depth_refused, depth_measured}
use Rattle.tree.proofs.depth.Goals as goal

pub returns-in_err-read_tree : goal.returns-in_err-read_tree
returns-in_err-read_tree c = let h = depth_refused _ _ c.read_tree.ensures c.in_err-read_tree.was in search rules

pub returns : goal.returns
returns c = depth_measured _ _ c.read_tree.ensures c.in_ok-read_tree.was
