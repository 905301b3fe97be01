-- Totals over a zone. A multiset is compared by how often each formula stands in it, which is such a total; so is a count of a name's places. Assumes nothing.
use Rattle.std.specs.Prelude.{List, [], ◌∷◌, ℕ, ◌+◌}
use Rattle.logic.specs.Formula.{Formula}

unfoldable pub total : (Formula → ℕ) → List Formula → ℕ
total w [] = 0
total w (x ∷ xs) = w x + total w xs
