-- Laws of equal multisets (`Same`): an equivalence, that keeps to appends changed over and to a formula brought to the front. Assumes nothing.
use Rattle.std.specs.Prelude.{◌≡◌, List, ◌∷◌, ◌++◌, ◌+◌}
use Rattle.std.proofs.Common.{sym, ◌∙◌, arith}
use Rattle.std.proofs.Math.Path.{ap}
use Rattle.logic.specs.Formula.{Formula, same}
use Rattle.logic.specs.Zone.{total}
use Rattle.logic.proofs.ZoneLaws.{total_append}
use Rattle.logic.specs.Legal.{as_number, times, Same}

module _ {g : Formula → Formula} where
  pub same_trans : {xs ys zs : List Formula} → Same g xs ys → Same g ys zs → Same g xs zs
  same_trans h k = record { each = λ f. h.each f ∙ k.each f }

  pub same_of : {xs ys : List Formula} → xs ≡ ys → Same g xs ys
  same_of e = record { each = λ f. ap (times g f) e }

  pub same_sym : {xs ys : List Formula} → Same g xs ys → Same g ys xs
  same_sym h = record { each = λ f. sym (h.each f) }

  pub swap_ends : (xs ys : List Formula) → Same g (xs ++ ys) (ys ++ xs)
  swap_ends xs ys = record { each = λ f. simp total_append (omega arith) }

  pub to_front : (before : List Formula) (x : Formula) (after : List Formula) → Same g (before ++ (x ∷ after)) (x ∷ (before ++ after))
  unfolding total
  to_front before x after = record { each = λ f. simp total_append (omega arith) }

  pub under : (x : Formula) {xs ys : List Formula} → Same g xs ys → Same g (x ∷ xs) (x ∷ ys)
  unfolding total
  under x h = record { each = λ f. ap (λ n. as_number (same f (g x)) + n) (h.each f) }
