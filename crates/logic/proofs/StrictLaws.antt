-- Strict mode agrees with document 01's legal steps, at a node and over a tree: it accepts exactly the trees that shape mode accepts and whose steps are all legal. At a node shape
-- mode's fault comes first, and 15 is given exactly where shape mode has none and the step is not legal; a tree rejected with 13 or 14 is rejected alike by shape mode. Assumes nothing.
use Rattle.std.specs.Prelude.{◌≡◌, refl, ◌↔◌, ◌⊎◌, Bool, true, false, ℕ, suc, ◌+◌, length}
use Rattle.std.proofs.Common.{sym, ap, ◌∙◌, inl, inr, ⊎_elim}
use mathlib.Core.Logic.Iff
use Rattle.std.proofs.Math.Bool.{So}
use Rattle.std.proofs.lemmas.Bool.{false≢true}
use Rattle.std.proofs.Math.Option.{Option, none, some, none-ne-some, some-ne-none, some-injective}
use Rattle.logic.specs.Sequent.{Sequent}
use Rattle.logic.specs.Tree.{Rule, Tree, Trees, node, ∅, ◌▹◌, nodes, conclusions, premise_count}
use Rattle.logic.specs.Verify.{Fault, context_mismatch, Verdict, accepted, rejected, need, shape_fault, own_verdict, first_verdict, verify_from, verify_premises, shape_at, verify}
use Rattle.logic.specs.Legal.{Step, Legal}
use Rattle.logic.specs.Strict.{legal_step, or_fault, strict_fault, verify_strict}
use Rattle.logic.specs.Shaped.{Shaped, par_shown, ParsShown}
use Rattle.logic.specs.EverywhereLaws.{everywhere_iff, everywhere_both, legal_everywhere, verify_from_iff}
use Rattle.logic.proofs.StepLaws.{legal_step_iff}
use Rattle.logic.proofs.ShapeLaws.{step_shape_iff, shape_fault_not_15}

-- At a node. The second test is `need b context_mismatch none`
second_none : (o : Option Fault) (b : Bool) → (or_fault o (need b context_mismatch none) ≡ none) ↔ ((o ≡ none) × So b)
second_none none true = (λ e. (refl, refl), λ h. refl)
second_none none false = (λ e. absurd (some-ne-none _ e), λ h. absurd (false≢true h.1))
second_none (some f) b = (λ e. absurd (some-ne-none _ e), λ h. absurd (some-ne-none _ h.0))

pub strict_fault_none_iff : (r : Rule) (q : Sequent) (ps : Trees) → (strict_fault r q ps ≡ none) ↔ ((shape_fault r q (premise_count ps) ≡ none) × Step r q (conclusions ps))
unfolding strict_fault
strict_fault_none_iff r q ps =
    Iff.trans (second_none (shape_fault r q (premise_count ps)) (legal_step r q (conclusions ps))) (Iff.and Iff.rfl (legal_step_iff r q (conclusions ps)))

-- and, without shape mode: the step is legal, and at ParIntro a par is written out
count_conclusions : (ps : Trees) → premise_count ps ≡ length (conclusions ps)
unfolding premise_count conclusions
count_conclusions ∅ = refl
count_conclusions (t ▹ ts) = ap suc (count_conclusions ts)

pub strict_fault_step_iff : (r : Rule) (q : Sequent) (ps : Trees) → (strict_fault r q ps ≡ none) ↔ (Step r q (conclusions ps) × So (par_shown r q))
strict_fault_step_iff r q ps = Iff.trans (strict_fault_none_iff r q ps) (rw count_conclusions (
  λ h. (h.1, (step_shape_iff h.1).0 h.0),
  λ h. ((step_shape_iff h.0).1 h.1, h.0),
))

-- a fault is shape mode's, or 15 where shape mode has none and the test says no
second_some : (o : Option Fault) (b : Bool) (f : Fault) → (or_fault o (need b context_mismatch none) ≡ some f) ↔ ((o ≡ some f) ⊎ ((f ≡ context_mismatch) × (o ≡ none) × (So b → ⊥)))
second_some none true f = (λ e. absurd (none-ne-some _ e), ⊎_elim (λ e. e) (λ h. absurd (h.2 refl)))
second_some none false f = (λ e. inr (sym (some-injective _ _ e), refl, false≢true), ⊎_elim (λ e. absurd (none-ne-some _ e)) (λ h. ap some (sym h.0)))
second_some (some g) b f = (λ e. inl e, ⊎_elim (λ e. e) (λ h. absurd (some-ne-none _ h.1)))

pub strict_order : (r : Rule) (q : Sequent) (ps : Trees) (f : Fault) → (strict_fault r q ps ≡ some f) ↔ ((shape_fault r q (premise_count ps) ≡ some f) ⊎ ((f ≡ context_mismatch) × (shape_fault r q (premise_count ps) ≡ none) × (Step r q (conclusions ps) → ⊥)))
unfolding strict_fault
strict_order r q ps f = Iff.trans (second_some (shape_fault r q (premise_count ps)) (legal_step r q (conclusions ps)) f) (
  ⊎_elim inl (λ h. inr (h.0, h.1, λ s. h.2 ((legal_step_iff r q (conclusions ps)).1 s))),
  ⊎_elim inl (λ h. inr (h.0, h.1, λ e. h.2 ((legal_step_iff r q (conclusions ps)).0 e))),
)

-- 15 exactly where the shape passes and the step is not legal
pub strict_15_iff : (r : Rule) (q : Sequent) (ps : Trees) → (strict_fault r q ps ≡ some context_mismatch) ↔ ((shape_fault r q (premise_count ps) ≡ none) × (Step r q (conclusions ps) → ⊥))
strict_15_iff r q ps = Iff.trans (strict_order r q ps context_mismatch) (
  ⊎_elim (λ e. absurd (shape_fault_not_15 q (premise_count ps) r e)) (λ h. (h.1, h.2)),
  λ h. inr (refl, h.0, h.1),
)

-- Over a tree: shape mode accepts where each node passes its test
pub verify_iff : (t : Tree) → (verify t ≡ accepted) ↔ Shaped t
unfolding verify
verify_iff t = verify_from_iff shape_at t 0 0

-- strict mode accepts exactly the trees that shape mode accepts and whose steps are all legal
pub strict_accepts_iff : (t : Tree) → (verify_strict t ≡ accepted) ↔ ((verify t ≡ accepted) × Legal t)
unfolding verify_strict
strict_accepts_iff t =
    let nodes_pass = verify_from_iff strict_fault t 0 0 in
    let Each-both = Iff.trans (everywhere_iff strict_fault_none_iff t) (everywhere_both _ _ t) in
    Iff.trans nodes_pass (Iff.trans Each-both (Iff.and (Iff.symm (verify_iff t)) (legal_everywhere t)))

-- and, without shape mode: those whose steps are all legal and whose nodes by ParIntro all show a par
pub strict_accepts_legal_iff : (t : Tree) → (verify_strict t ≡ accepted) ↔ (Legal t × ParsShown t)
unfolding verify_strict
strict_accepts_legal_iff t =
    let nodes_pass = verify_from_iff strict_fault t 0 0 in
    let Each-both = Iff.trans (everywhere_iff strict_fault_step_iff t) (everywhere_both _ _ t) in
    Iff.trans nodes_pass (Iff.trans Each-both (Iff.and (legal_everywhere t) Iff.rfl))

-- A rejection that is not 15 is shape mode's own, at the same node: what stands before it in preorder passes both tests
module _ (shape_rest strict_rest : Verdict) (r' : Rule) (m v : ℕ) (f : Fault) (other : f ≡ context_mismatch → ⊥) (rest : strict_rest ≡ rejected r' m v f → shape_rest ≡ rejected r' m v f) where
  own_rejection : (r : Rule) (q : Sequent) (ps : Trees) (n w : ℕ) → own_verdict r n w (strict_fault r q ps) strict_rest ≡ rejected r' m v f → own_verdict r n w (shape_at r q ps) shape_rest ≡ rejected r' m v f
  own_rejection r q ps n w e = go (strict_fault r q ps) refl e
    where
      go : (o : Option Fault) → strict_fault r q ps ≡ o → own_verdict r n w o strict_rest ≡ rejected r' m v f → own_verdict r n w (shape_at r q ps) shape_rest ≡ rejected r' m v f
      go none k e = rw ((strict_fault_none_iff r q ps).0 k).0 (rest e)
      go (some g) k e =
          let same : g ≡ f = cc in
          ⊎_elim (λ s. rw s e) (λ s. absurd (other (sym same ∙ s.0))) ((strict_order r q ps g).0 k)

  first_rejection : (shape strict : Verdict) → (strict ≡ accepted → shape ≡ accepted) → (strict ≡ rejected r' m v f → shape ≡ rejected r' m v f) → first_verdict strict strict_rest ≡ rejected r' m v f → first_verdict shape shape_rest ≡ rejected r' m v f
  first_rejection shape accepted both_accept both_reject e = rw (both_accept refl) (rest e)
  first_rejection shape (rejected r n w g) both_accept both_reject e = rw (both_reject e) refl

strict_then_shape : (t : Tree) (n w : ℕ) → verify_from strict_fault t n w ≡ accepted → verify_from shape_at t n w ≡ accepted
strict_then_shape t n w e =
    (verify_from_iff shape_at t n w).1 ((everywhere_both _ _ t).0 ((everywhere_iff strict_fault_none_iff t).0 ((verify_from_iff strict_fault t n w).0 e))).0

module _ (r' : Rule) (m v : ℕ) (f : Fault) (other : f ≡ context_mismatch → ⊥) where
  mutual
    unfolding verify_from

    same_rejection : (t : Tree) (n w : ℕ) → verify_from strict_fault t n w ≡ rejected r' m v f → verify_from shape_at t n w ≡ rejected r' m v f
    same_rejection (node r q ps) n w = own_rejection _ _ r' m v f other (same_rejections ps (suc n) (suc w)) r q ps n w

    same_rejections : (ts : Trees) (n w : ℕ) → verify_premises strict_fault ts n w ≡ rejected r' m v f → verify_premises shape_at ts n w ≡ rejected r' m v f
    same_rejections ∅ n w = λ e. e
    same_rejections (t ▹ ts) n w = first_rejection _ _ r' m v f other (same_rejections ts (n + nodes t) w) _ _ (strict_then_shape t n w) (same_rejection t n w)

pub strict_rejects : (t : Tree) (r : Rule) (n w : ℕ) (f : Fault) → (f ≡ context_mismatch → ⊥) → verify_strict t ≡ rejected r n w f → verify t ≡ rejected r n w f
unfolding verify verify_strict
strict_rejects t r n w f other = same_rejection r n w f other t 0 0
