-- Bytes that stand in a message at a place. Assumes nothing.
use Rattle.std.specs.Prelude.{◌≡◌, List, ◌++◌, ℕ, ◌+◌, ◌≤◌, length, drop}

-- the bytes w stand in s, from the place `at` on
pub record Stands (s : List ℕ) (at : ℕ) (w : List ℕ) : Type 0 where
  pub there : drop at s ≡ w ++ drop (at + length w) s
  pub inside : at + length w ≤ length s
