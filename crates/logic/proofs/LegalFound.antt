-- Each step of a tree that the search's rules build is legal. Assumes nothing.
use Rattle.std.specs.Prelude.{◌≡◌, refl, Bool, true, false, cond, List, [], ◌∷◌, ◌++◌, ℕ}
use Rattle.std.proofs.Common.{ap}
use Rattle.logic.specs.Formula.{Formula, One, Bottom, Atom, NegAtom, Tensor, OfCourse, WhyNot, spell}
use Rattle.logic.proofs.FormulaLaws.{spell_twice}
use Rattle.logic.specs.Sequent.{Sequent}
use Rattle.logic.specs.Tree.{Tree, conclusion, conclusions}
use Rattle.logic.specs.Zone.{total}
use Rattle.logic.proofs.ZoneLaws.{total_append, total_shared}
use Rattle.logic.specs.Split.{left_of, right_of}
use Rattle.logic.specs.Conclusion.{spell_first}
use Rattle.logic.specs.Concludes.{concludes}
use Rattle.logic.proofs.SameLaws.{same_trans, same_of, same_sym, swap_ends, to_front, under}
use Rattle.logic.specs.Legal.{Same, ◌≈◌, ◌≋◌, step_axiom, step_one, step_top, step_bottom, step_par, step_with, step_plus_left, step_plus_right, step_tensor, step_of_course, step_why_not, step_weakening, step_contraction, step_dereliction, Legal}
use Rattle.logic.specs.Built.{decomposable, Built, by_par, by_bottom, by_top, by_with, by_why_not, by_lolli, by_axiom, by_axiom⊥, by_one, by_tensor, by_plus_left, by_plus_right, by_of_course, by_dereliction, by_contraction, by_weakening}

module _ {g : Formula → Formula} where
  -- what stands beside the principal formula is shared out
  share : (mask : ℕ) (xs : List Formula) → Same g xs (left_of mask xs ++ right_of mask xs)
  share mask xs = record { each = λ f. simp total_append (total_shared _ mask xs) }

spelled_same : (fs : List Formula) → spell_first fs ≈ fs
unfolding spell_first total
spelled_same [] = record { each = λ f. refl }
spelled_same (x ∷ xs) = go (decomposable x) (spelled_same xs)
  where
    go : (b : Bool) → spell_first xs ≈ xs → cond b (spell x ∷ xs) (x ∷ spell_first xs) ≈ x ∷ xs
    go true rest = record { each = λ f. rw spell_twice }
    go false rest = under x rest

module _ {n : ℕ} {p : Sequent} {t : Tree} (d : Built n p t) where
  premise : (conclusion t).linear ≈ p.linear
  premise = same_trans (same_of (ap (λ q. q.linear) (concludes d))) (spelled_same p.linear)

  premise_unrestricted : (conclusion t).unrestricted ≋ p.unrestricted
  premise_unrestricted = same_of (ap (λ q. q.unrestricted) (concludes d))

-- the principal formula first
fronted : {l : List Formula} (before : List Formula) (x : Formula) (after : List Formula) → l ≡ before ++ (x ∷ after) → l ≈ x ∷ (before ++ after)
fronted before x after e = same_trans (same_of e) (to_front before x after)

fronted_unrestricted : {l : List Formula} (before : List Formula) (x : Formula) (after : List Formula) → l ≡ before ++ (x ∷ after) → l ≋ x ∷ (before ++ after)
fronted_unrestricted before x after e = same_trans (same_of e) (to_front before x after)

pub legal : {n : ℕ} {q : Sequent} {t : Tree} → Built n q t → Legal t
unfolding conclusions
legal (by_par before a b after ps e d) =
    (step_par a b (before ++ after) (fronted before _ after e) (same_trans (premise d) (swap_ends (before ++ after) (a ∷ b ∷ []))) (premise_unrestricted d), (legal d, tt))
legal (by_bottom before after ps e d) =
    (step_bottom (same_trans (fronted before _ after e) (under Bottom (same_sym (premise d)))) (premise_unrestricted d), (legal d, tt))
legal (by_top before after ps e) = (step_top (before ++ after) (fronted before _ after e), tt)
legal (by_with before a b after ps e d d') =
    (step_with a b (before ++ after) (fronted before _ after e) (same_trans (premise d) (swap_ends (before ++ after) (a ∷ []))) (same_trans (premise d') (swap_ends (before ++ after) (b ∷ []))) (premise_unrestricted d) (premise_unrestricted d'), (legal d, (legal d', tt)))
legal (by_why_not {q = q} before a after ps e d) =
    (step_why_not a (same_trans (fronted before _ after e) (under (WhyNot a) (same_sym (premise d)))) (same_trans (premise_unrestricted d) (swap_ends q.unrestricted (a ∷ []))), (legal d, tt))
legal (by_lolli before a b after ps e d) = legal d
legal (by_axiom before a after ps e k) = (step_axiom a (same_trans (fronted before _ after e) (under (Atom a) (same_of k))), tt)
legal (by_axiom⊥ before a after ps e k) =
    (step_axiom a (same_trans (fronted before _ after e) (same_trans (under (NegAtom a) (same_of k)) (swap_ends (NegAtom a ∷ []) (Atom a ∷ [])))), tt)
legal (by_one before after ps e k) = (step_one (same_trans (fronted before _ after e) (under One (same_of k))), tt)
legal (by_tensor before a b after mask _ ps e d d') =
    (step_tensor a b (left_of mask (before ++ after)) (right_of mask (before ++ after)) (same_trans (fronted before _ after e) (under (Tensor a b) (share mask (before ++ after)))) (same_trans (premise d) (swap_ends _ (a ∷ []))) (same_trans (premise d') (swap_ends _ (b ∷ []))) (premise_unrestricted d) (premise_unrestricted d'), (legal d, (legal d', tt)))
legal (by_plus_left before a b after ps e d) =
    (step_plus_left a b (before ++ after) (fronted before _ after e) (same_trans (premise d) (to_front before a after)) (premise_unrestricted d), (legal d, tt))
legal (by_plus_right before a b after ps e d) =
    (step_plus_right a b (before ++ after) (fronted before _ after e) (same_trans (premise d) (to_front before b after)) (premise_unrestricted d), (legal d, tt))
legal (by_of_course before a after ps e k d) =
    (step_of_course a (same_trans (fronted before _ after e) (under (OfCourse a) (same_of k))) (premise d) (premise_unrestricted d), (legal d, tt))
legal (by_dereliction {q = q} before a after _ ps e d) =
    (step_dereliction a (same_trans (premise d) (swap_ends q.linear (a ∷ []))) (same_trans (fronted_unrestricted before a after e) (under a (same_sym (premise_unrestricted d)))), (legal d, tt))
legal (by_contraction {q = q} before a after _ ps e d) =
    (step_contraction a (same_trans (premise d) (swap_ends q.linear (a ∷ a ∷ []))) (same_trans (fronted_unrestricted before a after e) (under a (same_sym (premise_unrestricted d)))), (legal d, tt))
legal (by_weakening before a after _ ps e d) =
    (step_weakening a (premise d) (same_trans (fronted_unrestricted before a after e) (under a (same_sym (premise_unrestricted d)))), (legal d, tt))
