-- `all_splits` of search.rs, one mask at a time: item i goes left where bit i of the mask is 0, and else right. Assumes nothing.
use Rattle.std.specs.Prelude.{Bool, true, false, not, List, [], ◌∷◌, ℕ, ◌/◌, ◌%◌, eqb}
use Rattle.logic.specs.Formula.{Formula}

abbrev pub keep : Bool → Formula → List Formula → List Formula
keep true x xs = x ∷ xs
keep false x xs = xs

unfoldable pub left_of : ℕ → List Formula → List Formula
left_of mask [] = []
left_of mask (x ∷ xs) = keep (eqb (mask % 2) 0) x (left_of (mask / 2) xs)

unfoldable pub right_of : ℕ → List Formula → List Formula
right_of mask [] = []
right_of mask (x ∷ xs) = keep (not (eqb (mask % 2) 0)) x (right_of (mask / 2) xs)
