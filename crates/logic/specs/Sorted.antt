-- Texts in order: what `keys.sort()` makes. And a total over texts, by which the same texts in another order are told. Assumes nothing.
use Rattle.std.specs.Prelude.{Bool, true, List, [], ◌∷◌, ℕ, ◌+◌}
use Rattle.std.proofs.Math.Bool.{So}
use Rattle.logic.specs.Key.{text_le}

-- k stands before the list's first text, if it has one
unfoldable pub leads : List ℕ → List (List ℕ) → Bool
leads k [] = true
leads k (l ∷ ls) = text_le k l

unfoldable pub Sorted : List (List ℕ) → Type 0
Sorted [] = Unit {0}
Sorted (k ∷ ks) = So (leads k ks) × Sorted ks

unfoldable pub text_total : (List ℕ → ℕ) → List (List ℕ) → ℕ
text_total w [] = 0
text_total w (k ∷ ks) = w k + text_total w ks
