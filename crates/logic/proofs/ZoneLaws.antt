-- Laws of a zone walked from the left, and of totals over it: of an append, at a formula taken out, and of what a mask shares out. Assumes nothing.
use Rattle.std.specs.Prelude.{◌≡◌, refl, Bool, true, false, not, List, [], ◌∷◌, ◌++◌, ℕ, ◌+◌, ◌/◌, ◌%◌, eqb}
use Rattle.std.proofs.Common.{sym, ◌∙◌, append_assoc, arith}
use Rattle.logic.specs.Formula.{Formula}
use Rattle.logic.specs.Split.{left_of, right_of, keep}
use Rattle.logic.specs.Zone.{total}

-- one formula further
pub snoc : {l : List Formula} (before : List Formula) (f : Formula) (after : List Formula) → l ≡ before ++ (f ∷ after) → l ≡ before ++ (f ∷ []) ++ after
snoc before f after e = e ∙ sym (append_assoc before (f ∷ []) after)

pub total_append : (w : Formula → ℕ) (xs ys : List Formula) → total w (xs ++ ys) ≡ total w xs + total w ys
unfolding total
total_append w [] ys = omega arith
total_append w (x ∷ xs) ys = omega (arith, total_append w xs ys)

-- at a formula between `before` and `after`, and what is left when it is taken out
pub total_at : (w : Formula → ℕ) {l : List Formula} (before : List Formula) (x : Formula) (after : List Formula) → l ≡ before ++ (x ∷ after) → total w l ≡ w x + total w (before ++ after)
unfolding total
total_at w before x after e = rw e (simp total_append (omega arith))

-- what a mask shares out
pub total_shared : (w : Formula → ℕ) (mask : ℕ) (xs : List Formula) → total w xs ≡ total w (left_of mask xs) + total w (right_of mask xs)
unfolding total left_of right_of
total_shared w mask [] = refl
total_shared w mask (x ∷ xs) = go (eqb (mask % 2) 0) (total_shared w (mask / 2) xs)
  where
    go : (b : Bool) → total w xs ≡ total w (left_of (mask / 2) xs) + total w (right_of (mask / 2) xs) → w x + total w xs ≡ total w (keep b x (left_of (mask / 2) xs)) + total w (keep (not b) x (right_of (mask / 2) xs))
    go true rest = omega arith
    go false rest = omega arith
