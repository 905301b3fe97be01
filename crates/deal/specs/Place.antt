-- A place of a zone, and the zone without the item there. Assumes nothing: these are definitions.
use Rattle.std.specs.Prelude.{◌≡◌, List, ℕ, ◌-◌, ◌≤◌, ◌<◌, length, take}
use Rattle.zones.specs.Zones.{remove}

-- a place of a zone of at most 31 items
pub record Removable (zone : List ℕ) (i : ℕ) : Type 0 where
  pub inside : i < length zone
  pub few : length zone ≤ 31

-- the first items are those of the zone without the one at place i
pub record Without (zone : List ℕ) (i : ℕ) (items : List ℕ) : Type 0 where
  pub long : length items ≡ 31
  pub first : take (length zone - 1) items ≡ remove i zone
