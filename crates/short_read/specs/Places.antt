-- Where the nodes of a short tree stand in a message that was read, and what their bytes say. Assumes nothing: these are definitions.
use Rattle.std.specs.Prelude.{◌≡◌, List, [], ℕ, ◌+◌, ◌≤◌, ◌<◌, length, get_or}
use Rattle.logic.specs.Tree.{Rule}
use Rattle.wire.specs.Read.{Read, got}
use Rattle.tree.specs.Stands.{Stands}
use Rattle.tree.specs.Places.{rule_number}
use Rattle.short.specs.Short.{Short, Shorts, short, □, ◌▸◌, height, heights, many, follow}
use Rattle.short_bytes.specs.Write.{write_short_node, write_short_nodes}
use Rattle.short_bytes.specs.Fits.{ShortNodesFit, ShortNodesFit*, ShortFits}
use Rattle.short_read.specs.Reading.{premises_by, node_bytes, four}

-- a short tree was read
pub record Got (m : Read Short) : Type 0 where
  pub tree : Short
  pub rest : List ℕ
  pub is : m ≡ got tree rest

-- the root of a message, behind version and length
pub record RootThere (s : List ℕ) (t : Short) (rest : List ℕ) : Type 0 where
  pub stands : Stands s 3 (write_short_node t)
  pub ends : 3 + length (write_short_node t) ≡ length s
  pub fits : ShortFits t
  pub none_left : rest ≡ []

-- a node: what its bytes say, and where its premises stand
pub record NodeThere (s : List ℕ) (at : ℕ) (r : Rule) (place mask : ℕ) (ss : Shorts) : Type 0 where
  pub inside : at < length s
  pub rule_is : get_or s at 0 ≡ rule_number r
  pub place_is : get_or s (at + 1) 0 ≡ place
  pub place_small : place < 256
  pub mask_is : rule_number r ≡ 4 → four s (at + 2) ≡ mask
  pub mask_none : (rule_number r ≡ 4 → ⊥) → mask ≡ 0
  pub mask_small : mask < 4294967296
  pub premises_stand : Stands s (at + node_bytes (rule_number r)) (write_short_nodes ss)
  pub ends : at + node_bytes (rule_number r) + length (write_short_nodes ss) ≡ at + length (write_short_node (short r place mask ss))
  pub follows : premises_by (rule_number r) ≡ follow r
  pub count_is : premises_by (rule_number r) ≡ many ss

-- one premise; and two, one behind the other
pub record OneThere (s : List ℕ) (at : ℕ) (ss : Shorts) : Type 0 where
  pub first : Short
  pub is : ss ≡ first ▸ □
  pub stands : Stands s at (write_short_node first)
  pub ends : length (write_short_nodes ss) ≡ length (write_short_node first)
  pub fits : ShortNodesFit* ss → ShortNodesFit first
  pub low : height first ≤ heights ss

pub record TwoThere (s : List ℕ) (at : ℕ) (ss : Shorts) : Type 0 where
  pub first : Short
  pub second : Short
  pub is : ss ≡ first ▸ second ▸ □
  pub first_stands : Stands s at (write_short_node first)
  pub second_stands : Stands s (at + length (write_short_node first)) (write_short_node second)
  pub ends : length (write_short_nodes ss) ≡ length (write_short_node first) + length (write_short_node second)
  pub fits : ShortNodesFit* ss → ShortNodesFit first × ShortNodesFit second
  pub first_low : height first ≤ heights ss
  pub second_low : height second ≤ heights ss
