-- What the readers of a tree's parts answer: places and counts in the place of values, and the code's refusals. Assumes nothing.
use Rattle.std.specs.Prelude.{List, ℕ, ◌+◌, ◌-◌, max, length, Result, Ok, Err}
use Rattle.logic.specs.Formula.{Formula}
use Rattle.logic.specs.Tree.{Tree, Trees, depth, depths}
use Rattle.wire.specs.Read.{Read, got, refused}
use Rattle.formula.specs.Answers.{coded}
use Rattle.formula.specs.declared.Refusal.{Refusal}
use Rattle.tree.specs.Head.{Head}
use Rattle.tree.specs.declared.Zone.{Zone}
use Rattle.tree.specs.declared.Own.{Own}
use Rattle.tree.specs.declared.Subtree.{Subtree}

-- how many formulas were read, n of them before
unfoldable pub counted : ℕ → Read (List Formula) → Result ℕ Refusal
counted n (got fs rest) = Ok (n + length fs)
counted n (refused k) = Err (coded k)

-- Readers whose bytes end at `end`: what was read, and the place after it
module _ (end : ℕ) where
  unfoldable pub zone_read : Read (List Formula) → Result Zone Refusal
  zone_read (got fs rest) = Ok (record { count = length fs; next = end - length rest })
  zone_read (refused k) = Err (coded k)

  unfoldable pub own_read : Read Head → Result Own Refusal
  own_read (got h rest) = Ok (record { premises = h.premises; next = end - length rest })
  own_read (refused k) = Err (coded k)

  unfoldable pub tree_read : Read Tree → Result Subtree Refusal
  tree_read (got t rest) = Ok (record { next = end - length rest; depth = depth t })
  tree_read (refused k) = Err (coded k)

  -- the deepest of the premises, and of those before, which are so deep
  unfoldable pub trees_read : ℕ → Read Trees → Result Subtree Refusal
  trees_read deepest (got ts rest) = Ok (record { next = end - length rest; depth = max deepest (depths ts) })
  trees_read deepest (refused k) = Err (coded k)

-- the answer of `depth`
unfoldable pub depth_of : Read Tree → Result ℕ Refusal
depth_of (got t rest) = Ok (depth t)
depth_of (refused k) = Err (coded k)
