-- Laws of `Everywhere`; the verifier's walk accepts where each node passes its test, and `Legal` is `Everywhere` of the legal steps. Assumes nothing.
use Rattle.std.specs.Prelude.{◌≡◌, refl, ◌↔◌, ℕ, suc, ◌+◌}
use mathlib.Core.Logic.Iff
use Rattle.std.proofs.Math.Option.{Option, none, some, some-ne-none}
use Rattle.std.proofs.Common.{arith}
use Rattle.logic.specs.Sequent.{Sequent}
use Rattle.logic.specs.Tree.{Rule, Tree, Trees, node, ∅, ◌▹◌, nodes, conclusions}
use Rattle.logic.specs.Verify.{Fault, Verdict, accepted, rejected, own_verdict, first_verdict, verify_from, verify_premises}
use Rattle.logic.specs.Legal.{Step, Legal, Legals}
use Rattle.logic.specs.Everywhere.{Everywhere, All_everywhere}

module _ {P Q : Rule → Sequent → Trees → Type 0} (h : (r : Rule) (q : Sequent) (ps : Trees) → P r q ps ↔ Q r q ps) where
  mutual
    pub everywhere_iff : (t : Tree) → Everywhere P t ↔ Everywhere Q t
    everywhere_iff (node r q ps) = Iff.and (h r q ps) (all_everywhere_iff ps)

    all_everywhere_iff : (ts : Trees) → All_everywhere P ts ↔ All_everywhere Q ts
    all_everywhere_iff ∅ = Iff.rfl
    all_everywhere_iff (t ▹ ts) = Iff.and (everywhere_iff t) (all_everywhere_iff ts)

crossed : {A B C D : Type 0} → ((A × B) × (C × D)) ↔ ((A × C) × (B × D))
crossed = (λ h. ((h.0.0, h.1.0), (h.0.1, h.1.1)), λ h. ((h.0.0, h.1.0), (h.0.1, h.1.1)))

module _ (P Q : Rule → Sequent → Trees → Type 0) where
  mutual
    pub everywhere_both : (t : Tree) → Everywhere (λ r q ps. P r q ps × Q r q ps) t ↔ (Everywhere P t × Everywhere Q t)
    everywhere_both (node r q ps) = Iff.trans (Iff.and Iff.rfl (all_everywhere_both ps)) crossed

    all_everywhere_both : (ts : Trees) → All_everywhere (λ r q ps. P r q ps × Q r q ps) ts ↔ (All_everywhere P ts × All_everywhere Q ts)
    all_everywhere_both ∅ = (λ e. (tt, tt), λ e. tt)
    all_everywhere_both (t ▹ ts) = Iff.trans (Iff.and (everywhere_both t) (all_everywhere_both ts)) crossed

mutual
  pub legal_everywhere : (t : Tree) → Everywhere (λ r q ps. Step r q (conclusions ps)) t ↔ Legal t
  legal_everywhere (node r q ps) = Iff.and Iff.rfl (legals_everywhere ps)

  legals_everywhere : (ts : Trees) → All_everywhere (λ r q ps. Step r q (conclusions ps)) ts ↔ Legals ts
  legals_everywhere ∅ = Iff.rfl
  legals_everywhere (t ▹ ts) = Iff.and (legal_everywhere t) (legals_everywhere ts)

-- The verifier's walk
rejected_not_accepted : (r : Rule) (n w : ℕ) (f : Fault) → rejected r n w f ≡ accepted → ⊥
rejected_not_accepted r n w f e = let z : ◌≡◌ {A = ℕ} 0 1 = cc in omega arith

own_accepted : (r : Rule) (n w : ℕ) (o : Option Fault) (rest : Verdict) → (own_verdict r n w o rest ≡ accepted) ↔ ((o ≡ none) × (rest ≡ accepted))
own_accepted r n w none rest = (λ e. (refl, e), λ h. h.1)
own_accepted r n w (some f) rest = (λ e. absurd (rejected_not_accepted r n w f e), λ h. absurd (some-ne-none _ h.0))

first_accepted : (v rest : Verdict) → (first_verdict v rest ≡ accepted) ↔ ((v ≡ accepted) × (rest ≡ accepted))
first_accepted accepted rest = (λ e. (refl, e), λ h. h.1)
first_accepted (rejected r n w f) rest = (λ e. absurd (rejected_not_accepted r n w f e), λ h. absurd (rejected_not_accepted r n w f h.0))

module _ (fault : Rule → Sequent → Trees → Option Fault) where
  mutual
    unfolding verify_from

    pub verify_from_iff : (t : Tree) (n w : ℕ) → (verify_from fault t n w ≡ accepted) ↔ Everywhere (λ r q ps. fault r q ps ≡ none) t
    verify_from_iff (node r q ps) n w = Iff.trans (own_accepted r n w (fault r q ps) _) (Iff.and Iff.rfl (verify_premises_iff ps (suc n) (suc w)))

    verify_premises_iff : (ts : Trees) (n w : ℕ) → (verify_premises fault ts n w ≡ accepted) ↔ All_everywhere (λ r q ps. fault r q ps ≡ none) ts
    verify_premises_iff ∅ n w = (λ e. tt, λ h. refl)
    verify_premises_iff (t ▹ ts) n w = Iff.trans (first_accepted _ _) (Iff.and (verify_from_iff t n w) (verify_premises_iff ts (n + nodes t) w))
