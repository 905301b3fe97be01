-- Each tree that the search finds passes both modes of the verifier, whatever the memory of failures and the limits. Assumes nothing.
use Rattle.std.specs.Prelude.{◌≡◌, refl, List, ◌∷◌, ◌++◌, ℕ, suc}
use Rattle.std.proofs.Common.{subst}
use Rattle.std.proofs.Math.Bool.{So}
use Rattle.logic.specs.Formula.{Formula, Par}
use Rattle.logic.proofs.FormulaLaws.{same_self}
use Rattle.logic.specs.Parts.{left_part, right_part, is_binary}
use Rattle.logic.specs.Sequent.{Sequent, Question, to_one_sided}
use Rattle.logic.specs.Tree.{Tree}
use Rattle.logic.specs.Zone.{total}
use Rattle.logic.proofs.ZoneLaws.{total_at}
use Rattle.logic.specs.Legal.{plain}
use Rattle.logic.proofs.LegalFound.{legal}
use Rattle.logic.specs.Outcome.{found, Memory}
use Rattle.logic.specs.Search.{Settings, prove, ask}
use Rattle.logic.proofs.Found.{Of, prove_builds, ask_builds}
use Rattle.logic.specs.Verify.{any, accepted, verify}
use Rattle.logic.specs.Strict.{verify_strict}
use Rattle.logic.specs.Shaped.{par_shown, ParsShown}
use Rattle.logic.proofs.PrincipalLaws.{any_iff}
use Rattle.logic.proofs.StrictLaws.{strict_accepts_iff, strict_accepts_legal_iff}
use Rattle.logic.specs.Built.{
  Built,
  by_par,
  by_bottom,
  by_top,
  by_with,
  by_why_not,
  by_lolli,
  by_axiom,
  by_axiom⊥,
  by_one,
  by_tensor,
  by_plus_left,
  by_plus_right,
  by_of_course,
  by_dereliction,
  by_contraction,
  by_weakening,
}

par_at : {l : List Formula} (before : List Formula) (a b : Formula) (after : List Formula) → l ≡ before ++ (Par a b ∷ after) → So (any (is_binary Par) l)
unfolding left_part right_part total
par_at {l} before a b after e = (any_iff plain (λ f. refl) (is_binary Par) l).1 record {
  here = Par a b;
  fixed = refl;
  stands = record { rest = before ++ after; same = record { each = λ f. total_at _ before (Par a b) after e } };
  passes = same_self (Par a b);
}

-- trees write the par that an implication becomes
pub found_pars_shown : {n : ℕ} {q : Sequent} {t : Tree} → Built n q t → ParsShown t
unfolding par_shown
found_pars_shown (by_par before a b after _ e d) = (par_at before a b after e, (found_pars_shown d, tt))
found_pars_shown (by_bottom _ _ _ _ d) = (refl, (found_pars_shown d, tt))
found_pars_shown (by_top _ _ _ _) = (refl, tt)
found_pars_shown (by_with _ _ _ _ _ _ d d') = (refl, (found_pars_shown d, (found_pars_shown d', tt)))
found_pars_shown (by_why_not _ _ _ _ _ d) = (refl, (found_pars_shown d, tt))
found_pars_shown (by_lolli _ _ _ _ _ _ d) = found_pars_shown d
found_pars_shown (by_axiom _ _ _ _ _ _) = (refl, tt)
found_pars_shown (by_axiom⊥ _ _ _ _ _ _) = (refl, tt)
found_pars_shown (by_one _ _ _ _ _) = (refl, tt)
found_pars_shown (by_tensor _ _ _ _ _ _ _ _ d d') = (refl, (found_pars_shown d, (found_pars_shown d', tt)))
found_pars_shown (by_plus_left _ _ _ _ _ _ d) = (refl, (found_pars_shown d, tt))
found_pars_shown (by_plus_right _ _ _ _ _ _ d) = (refl, (found_pars_shown d, tt))
found_pars_shown (by_of_course _ _ _ _ _ _ d) = (refl, (found_pars_shown d, tt))
found_pars_shown (by_dereliction _ _ _ _ _ _ d) = (refl, (found_pars_shown d, tt))
found_pars_shown (by_contraction _ _ _ _ _ _ d) = (refl, (found_pars_shown d, tt))
found_pars_shown (by_weakening _ _ _ _ _ _ d) = (refl, (found_pars_shown d, tt))

pub found_verifies_strictly : {n : ℕ} {q : Sequent} {t : Tree} → Built n q t → verify_strict t ≡ accepted
found_verifies_strictly {t} d = (strict_accepts_legal_iff t).1 (legal d, found_pars_shown d)

pub found_verifies : {n : ℕ} {q : Sequent} {t : Tree} → Built n q t → verify t ≡ accepted
found_verifies {t} d = ((strict_accepts_iff t).0 (found_verifies_strictly d)).0

-- the search's own answers
pub prove_verifies : (settings : Settings) (limit : ℕ) (q : Sequent) (memory : Memory) (t : Tree) → (prove settings limit q memory).0 ≡ found t → (verify t ≡ accepted) × (verify_strict t ≡ accepted)
prove_verifies settings limit q memory t e =
    let d : Built (suc limit) q t = subst (Of (Built (suc limit) q)) e (prove_builds settings limit q memory) in
    (found_verifies d, found_verifies_strictly d)

pub ask_verifies : (settings : Settings) (limit : ℕ) (question : Question) (memory : Memory) (t : Tree) → (ask settings limit question memory).0 ≡ found t → (verify t ≡ accepted) × (verify_strict t ≡ accepted)
ask_verifies settings limit question memory t e =
    let d : Built (suc limit) (to_one_sided question) t = subst (Of (Built (suc limit) (to_one_sided question))) e (ask_builds settings limit question memory) in
    (found_verifies d, found_verifies_strictly d)
