-- The least split in the search's words: lists of formulas, dealt out as `all_splits` does. Assumes nothing: these are definitions.
use Rattle.std.specs.Prelude.{◌≡◌, List, ℕ, ◌^◌, ◌≤◌, ◌<◌, length, None, Option, Some}
use Rattle.logic.specs.Formula.{Formula}
use Rattle.logic.specs.Split.{left_of, right_of}

pub record Splits (others l r : List Formula) (mask : ℕ) : Type 0 where
  pub left : left_of mask others ≡ l
  pub right : right_of mask others ≡ r

pub record LeastSplit (others l r : List Formula) (mask : ℕ) : Type 0 where
  pub spare : mask < 2 ^ length others
  pub splits : Splits others l r mask
  pub least : (m : ℕ) → Splits others l r m → mask ≤ m

-- what the answer means
abbrev pub Says : (others l r : List Formula) → Option ℕ → Type 0
Says others l r (Some m) = LeastSplit others l r m
Says others l r None = (m : ℕ) → Splits others l r m → ⊥
