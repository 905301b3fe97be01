-- What the functions on whole trees ask and answer: words that stand for a tree, its length, its bytes. Assumes nothing: these are definitions.
use Rattle.std.specs.Prelude.{◌≡◌, List, [], ◌∷◌, ◌++◌, ℕ, ◌+◌, ◌≤◌, ◌<◌, get_or, length, drop, None, Option, Some}
use Rattle.std.proofs.Math.Option.{some}
use Rattle.logic.specs.Sequent.{Sequent}
use Rattle.logic.specs.Tree.{Tree}
use Rattle.wire.specs.Write.{write_zone, write_node, write_tree}
use Rattle.held.specs.Words.{view, told}
use Rattle.zones.specs.declared.Zones.{Zones}
use Rattle.zones.specs.Zones.{meant}
use Rattle.expand.specs.Short.{rule_of, expand}
use Rattle.expand.specs.InMemory.{InMemory}
use Rattle.expand.specs.Negations.{Negated}
use Rattle.expand.specs.Writing.{Wrote, Sound, premise_counts}
use Rattle.expand.specs.declared.nodes.Place.{Place}

-- the most bytes that a tree's body may have, and the most levels that a tree has
abbrev pub most_bytes : ℕ
most_bytes = 65535

abbrev pub most_levels : ℕ
most_levels = 65

-- a node's bytes before its premises, by its word: rule, zones, how many premises
abbrev pub head : ℕ → Sequent → List ℕ
head w q = rule_of w ∷ (write_zone q.linear ++ (write_zone q.unrestricted ++ (get_or premise_counts (rule_of w) 0 ∷ [])))

pub record HeadLength (m : List ℕ) (z : Zones) (r : ℕ) : Type 0 where
  pub bytes : (w : ℕ) → r ≡ length (head w (meant (told m) z))
  pub small : r ≤ 2031591

pub record HeadRoom (m : List ℕ) (z : Zones) (w : ℕ) (out : List ℕ) (to : ℕ) : Type 0 where
  pub sound : Sound m z
  pub known : rule_of w < 15
  pub room : to + length (head w (meant (told m) z)) ≤ length out
  pub short : length (head w (meant (told m) z)) ≤ most_bytes

-- the words from place `at` on stand for a tree over the zones' sequent, with at most so many levels, and its sequents are of held formulas: what the search leaves where it finds a tree
pub record Carries (m ws : List ℕ) (z : Zones) (levels at : ℕ) : Type 0 where
  pub sound : Sound m z
  pub tree : Tree
  pub rest : List ℕ
  pub expands : expand levels (meant (told m) z) (drop at ws) ≡ some (tree, rest)
  pub held : InMemory (view m) tree

-- what is shown of the tree that the words stand for, and of the words after it
pub record OfTree (m ws : List ℕ) (z : Zones) (levels at : ℕ) (P : Tree → List ℕ → Type 0) : Type 0 where
  pub of_tree : (t : Tree) (rest : List ℕ) → expand levels (meant (told m) z) (drop at ws) ≡ some (t, rest) → P t rest

-- a node counted on from `sum`: exactly, or both are over what a body may have
pub record Counting (m table ws : List ℕ) (z : Zones) (levels at sum : ℕ) : Type 0 where
  pub table_is : Negated m table
  pub carries : Carries m ws z levels at
  pub low : sum ≤ most_bytes

pub record Counted (ws : List ℕ) (sum : ℕ) (r : Place) (t : Tree) (rest : List ℕ) : Type 0 where
  pub exact : r.to ≤ most_bytes → (r.to ≡ sum + length (write_node t)) × (rest ≡ drop r.at ws)
  pub over : most_bytes < r.to → most_bytes < sum + length (write_node t)

-- a node written from place `to` on
pub record Writing (m table ws : List ℕ) (z : Zones) (levels at : ℕ) (out : List ℕ) (to : ℕ) : Type 0 where
  pub table_is : Negated m table
  pub carries : Carries m ws z levels at
  pub room : to + length (write_node carries.tree) ≤ length out
  pub short : length (write_node carries.tree) ≤ most_bytes

pub record Written (ws out : List ℕ) (to : ℕ) (out' : List ℕ) (r : Place) (t : Tree) (rest : List ℕ) : Type 0 where
  pub wrote : Wrote out to (write_node t) out' r.to
  pub rest_is : rest ≡ drop r.at ws

-- a tree's length: exactly, or both are over what a body may have
pub record Long (r : ℕ) (t : Tree) (rest : List ℕ) : Type 0 where
  pub exact : r ≤ most_bytes → r ≡ length (write_node t)
  pub over : most_bytes < r → most_bytes < length (write_node t)

-- a message of n bytes after its first three
pub record MessageRoom (m table ws : List ℕ) (z : Zones) (out : List ℕ) (n : ℕ) : Type 0 where
  pub table_is : Negated m table
  pub carries : Carries m ws z most_levels 0
  pub sized : n ≡ length (write_node carries.tree)
  pub short : n ≤ most_bytes
  pub room : n + 3 ≤ length out

abbrev pub Message : (out out' : List ℕ) (r : ℕ) (t : Tree) (rest : List ℕ) → Type 0
Message out out' r t rest = Wrote out 0 (write_tree t) out' r

-- the whole message stands in the front of the output; or it is too long, and nothing has changed
pub record Fitting (out out' : List ℕ) (n : ℕ) (t : Tree) : Type 0 where
  pub wrote : Wrote out 0 (write_tree t) out' n
  pub short : length (write_node t) ≤ most_bytes
  pub room : n ≤ length out

pub record Unfit (out out' : List ℕ) (t : Tree) : Type 0 where
  pub same : out' ≡ out
  pub long : length (write_node t) ≤ most_bytes → length (write_tree t) ≤ length out → ⊥

abbrev pub Answered : (out out' : List ℕ) (r : Option ℕ) (t : Tree) (rest : List ℕ) → Type 0
Answered out out' (Some n) t rest = Fitting out out' n t
Answered out out' None t rest = Unfit out out' t
