-- A tree that the search's rules build within n levels is at most n high, and concludes its question. Assumes nothing.
use Rattle.std.specs.Prelude.{◌≡◌, refl, true, List, ◌∷◌, ◌++◌, ℕ, suc, ◌≤◌}
use Rattle.std.proofs.Common.{sym, ◌∙◌, arith}
use Rattle.logic.specs.Formula.{Formula, Par, Lolli, negate, spell}
use Rattle.logic.specs.Sequent.{Sequent, ◌﹔◌}
use Rattle.logic.specs.Tree.{Rule, Tree, node, ∅, ◌▹◌, depth, conclusion}
use Rattle.logic.specs.Conclusion.{spell_first, concluded}
use Rattle.logic.specs.Built.{
  decomposable,
  Passed,
  none_yet,
  and_passed,
  Built,
  by_par,
  by_bottom,
  by_top,
  by_with,
  by_why_not,
  by_lolli,
  by_axiom,
  by_axiom⊥,
  by_one,
  by_tensor,
  by_plus_left,
  by_plus_right,
  by_of_course,
  by_dereliction,
  by_contraction,
  by_weakening,
}

-- Depth: at most the levels that were left, the limit and one
one_higher : (n : ℕ) (r : Rule) (q : Sequent) (t : Tree) → depth t ≤ n → depth (node r q (t ▹ ∅)) ≤ suc n
unfolding depth
one_higher n r q t h = omega arith

two_higher : (n : ℕ) (r : Rule) (q : Sequent) (t u : Tree) → depth t ≤ n → depth u ≤ n → depth (node r q (t ▹ u ▹ ∅)) ≤ suc n
unfolding depth
two_higher n r q t u h k = omega arith

leaf_high : (n : ℕ) (r : Rule) (q : Sequent) → depth (node r q ∅) ≤ suc n
unfolding depth
leaf_high n r q = omega arith

pub depth_bound : {n : ℕ} {q : Sequent} {t : Tree} → Built n q t → depth t ≤ n
depth_bound (by_par _ _ _ _ _ _ d) = one_higher _ _ _ _ (depth_bound d)
depth_bound (by_bottom _ _ _ _ d) = one_higher _ _ _ _ (depth_bound d)
depth_bound (by_top _ _ _ _) = leaf_high _ _ _
depth_bound (by_with _ _ _ _ _ _ d d') = two_higher _ _ _ _ _ (depth_bound d) (depth_bound d')
depth_bound (by_why_not _ _ _ _ _ d) = one_higher _ _ _ _ (depth_bound d)
depth_bound (by_lolli _ _ _ _ _ _ d) = depth_bound d
depth_bound (by_axiom _ _ _ _ _ _) = leaf_high _ _ _
depth_bound (by_axiom⊥ _ _ _ _ _ _) = leaf_high _ _ _
depth_bound (by_one _ _ _ _ _) = leaf_high _ _ _
depth_bound (by_tensor _ _ _ _ _ _ _ _ d d') = two_higher _ _ _ _ _ (depth_bound d) (depth_bound d')
depth_bound (by_plus_left _ _ _ _ _ _ d) = one_higher _ _ _ _ (depth_bound d)
depth_bound (by_plus_right _ _ _ _ _ _ d) = one_higher _ _ _ _ (depth_bound d)
depth_bound (by_of_course _ _ _ _ _ _ d) = one_higher _ _ _ _ (depth_bound d)
depth_bound (by_dereliction _ _ _ _ _ _ d) = one_higher _ _ _ _ (depth_bound d)
depth_bound (by_contraction _ _ _ _ _ _ d) = one_higher _ _ _ _ (depth_bound d)
depth_bound (by_weakening _ _ _ _ _ _ d) = one_higher _ _ _ _ (depth_bound d)

-- Conclusion
pub spell_passed : {fs : List Formula} → Passed fs → spell_first fs ≡ fs
unfolding spell_first
spell_passed none_yet = refl
spell_passed (and_passed {f = f} h ps) = rw (h, spell_passed ps)

pub spell_at : {before : List Formula} (f : Formula) (after : List Formula) → Passed before → decomposable f ≡ true → spell_first (before ++ (f ∷ after)) ≡ before ++ (spell f ∷ after)
unfolding spell_first
spell_at f after none_yet h = rw h
spell_at f after (and_passed p ps) h = rw (p, spell_at f after ps h)

-- a node's own conclusion is its question
own : {before : List Formula} (q : Sequent) (f : Formula) (after : List Formula) → Passed before → q.linear ≡ before ++ (f ∷ after) → decomposable f ≡ true → spell f ≡ f → q ≡ concluded q
own {before} q f after ps e h k = λ i. record { linear = (go i); unrestricted = q.unrestricted }
  where
    go : q.linear ≡ spell_first q.linear
    go = rw (e, spell_at f after ps h, k)

own_passed : (q : Sequent) → Passed q.linear → q ≡ concluded q
own_passed q ps = λ i. record { linear = (sym (spell_passed ps) i); unrestricted = q.unrestricted }

spelled_concluded : {before : List Formula} (q : Sequent) (a b : Formula) (after : List Formula) → Passed before → q.linear ≡ before ++ (Lolli a b ∷ after) → concluded (before ++ (Par (negate a) b ∷ after) ﹔ q.unrestricted) ≡ concluded q
unfolding decomposable spell
spelled_concluded {before} q a b after ps e = λ i. record { linear = (go i); unrestricted = q.unrestricted }
  where
    go : spell_first (before ++ (Par (negate a) b ∷ after)) ≡ spell_first q.linear
    go = rw e (spell_at _ after ps refl ∙ sym (spell_at (Lolli a b) after ps refl))

pub concludes : {n : ℕ} {q : Sequent} {t : Tree} → Built n q t → conclusion t ≡ concluded q
unfolding decomposable spell
concludes {q} (by_par _ _ _ _ ps e _) = own q _ _ ps e refl refl
concludes {q} (by_bottom _ _ ps e _) = own q _ _ ps e refl refl
concludes {q} (by_top _ _ ps e) = own q _ _ ps e refl refl
concludes {q} (by_with _ _ _ _ ps e _ _) = own q _ _ ps e refl refl
concludes {q} (by_why_not _ _ _ ps e _) = own q _ _ ps e refl refl
concludes {q} (by_lolli before a b after ps e d) = concludes d ∙ spelled_concluded q a b after ps e
concludes {q} (by_axiom _ _ _ ps _ _) = own_passed q ps
concludes {q} (by_axiom⊥ _ _ _ ps _ _) = own_passed q ps
concludes {q} (by_one _ _ ps _ _) = own_passed q ps
concludes {q} (by_tensor _ _ _ _ _ _ ps _ _ _) = own_passed q ps
concludes {q} (by_plus_left _ _ _ _ ps _ _) = own_passed q ps
concludes {q} (by_plus_right _ _ _ _ ps _ _) = own_passed q ps
concludes {q} (by_of_course _ _ _ ps _ _ _) = own_passed q ps
concludes {q} (by_dereliction _ _ _ _ ps _ _) = own_passed q ps
concludes {q} (by_contraction _ _ _ _ ps _ _) = own_passed q ps
concludes {q} (by_weakening _ _ _ _ ps _ _) = own_passed q ps
