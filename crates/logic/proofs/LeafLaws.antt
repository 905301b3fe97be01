-- The rules without premises: shape mode's tests at Axiom, OneIntro and TopIntro agree with multisets. An implication, spelled out, is a par, so spelling out changes none of these
-- tests. Assumes nothing.
use Rattle.std.specs.Prelude.{◌≡◌, refl, ◌↔◌, Bool, true, false, ◌&&◌, List, [], ◌∷◌, ℕ, ◌+◌}
use Rattle.std.proofs.Common.{sym, ap, subst, ◌∙◌, arith, suc-ne-zero}
use Rattle.std.proofs.lemmas.Bool.{false≢true}
use Rattle.std.proofs.Math.Bool.{So, and-eq-true_iff}
use Rattle.std.proofs.Math.Nat.{suc_inj}
use Rattle.logic.specs.Formula.{Formula, One, Bottom, Top, Zero, Atom, NegAtom, Tensor, Par, With, Plus, Lolli, OfCourse, WhyNot, negate, same, among, spell}
use Rattle.logic.proofs.FormulaLaws.{same_iff, same_self}
use Rattle.logic.specs.Parts.{is_literal}
use Rattle.logic.specs.Zone.{total}
use Rattle.logic.proofs.SameLaws.{same_of}
use Rattle.logic.specs.Legal.{as_number, ◌≈◌}
use Rattle.logic.proofs.Bags.{counts_itself, same_length}
use Rattle.logic.specs.Verify.{axiom_shaped, one_shaped}
use Rattle.logic.specs.Principal.{Stands, Unspelled}
use Rattle.logic.proofs.PrincipalLaws.{test_spell, unspelled_among_iff}

-- neither a par nor an implication
one_unspelled : Unspelled (same One)
unfolding same
one_unspelled a b = refl

top_unspelled : Unspelled (same Top)
unfolding same
top_unspelled a b = refl

atom_unspelled : (n : ℕ) → Unspelled (same (Atom n))
unfolding same
atom_unspelled n a b = refl

neg_atom_unspelled : (n : ℕ) → Unspelled (same (NegAtom n))
unfolding same
neg_atom_unspelled n a b = refl

-- a formula that counts as x is x
counted_is : (x : Formula) → Unspelled (same x) → (f : Formula) → as_number (same x (spell f)) ≡ 1 → f ≡ x
counted_is x h f e = go (same x (spell f)) refl e
  where
    go : (b : Bool) → same x (spell f) ≡ b → as_number b ≡ 1 → f ≡ x
    go true k e = sym ((same_iff x f).0 (sym (test_spell (same x) h f) ∙ k))
    go false k e = absurd (omega arith)

pub one_shaped_iff : (xs : List Formula) → So (one_shaped xs) ↔ (xs ≈ One ∷ [])
unfolding one_shaped total same spell
one_shaped_iff [] = (λ e. absurd (false≢true e), λ h. absurd (suc-ne-zero _ (sym (same_length h))))
one_shaped_iff (f ∷ []) = (
  λ e. same_of (ap (λ x. x ∷ []) (sym ((same_iff One f).0 e))),
  λ h. rw (counted_is One one_unspelled f (omega (arith, h.each One))) refl,
)
one_shaped_iff (f ∷ g ∷ gs) = (λ e. absurd (false≢true e), λ h. absurd (suc-ne-zero _ (suc_inj (same_length h))))

pub among_top_iff : (xs : List Formula) → So (among Top xs) ↔ Stands spell Top xs
unfolding spell
among_top_iff = unspelled_among_iff Top top_unspelled refl

-- two formulas, a name and its negation, either first
swapped : (a : ℕ) → NegAtom a ∷ Atom a ∷ [] ≈ Atom a ∷ NegAtom a ∷ []
unfolding total
swapped a = record { each = λ f. omega arith }

axiom_sound : (f g : Formula) → So (is_literal f && same (negate f) g) → (a : ℕ) × (f ∷ g ∷ [] ≈ Atom a ∷ NegAtom a ∷ [])
unfolding is_literal negate
axiom_sound (Atom a) g e = (a, same_of (ap (λ x. Atom a ∷ x ∷ []) (sym ((same_iff (NegAtom a) g).0 e))))
axiom_sound (NegAtom a) g e = (a, subst (λ x. NegAtom a ∷ x ∷ [] ≈ Atom a ∷ NegAtom a ∷ []) ((same_iff (Atom a) g).0 e) (swapped a))
axiom_sound One g e = absurd (false≢true e)
axiom_sound Bottom g e = absurd (false≢true e)
axiom_sound Top g e = absurd (false≢true e)
axiom_sound Zero g e = absurd (false≢true e)
axiom_sound (Tensor a b) g e = absurd (false≢true e)
axiom_sound (Par a b) g e = absurd (false≢true e)
axiom_sound (With a b) g e = absurd (false≢true e)
axiom_sound (Plus a b) g e = absurd (false≢true e)
axiom_sound (Lolli a b) g e = absurd (false≢true e)
axiom_sound (OfCourse a) g e = absurd (false≢true e)
axiom_sound (WhyNot a) g e = absurd (false≢true e)

literal_pair : (x : Formula) {f g : Formula} → So (is_literal x) → f ≡ x → g ≡ negate x → So (is_literal f && same (negate f) g)
literal_pair x l p q = rw (p, q) ((and-eq-true_iff _ _).1 (l, same_self (negate x)))

-- the name and its negation, wherever each stands, count once
axiom_complete : (f g : Formula) (a : ℕ) → f ∷ g ∷ [] ≈ Atom a ∷ NegAtom a ∷ [] → So (is_literal f && same (negate f) g)
unfolding total same spell is_literal negate
axiom_complete f g a h = go (same (Atom a) (spell f)) refl
  where
    names : as_number (same (Atom a) (spell f)) + as_number (same (Atom a) (spell g)) ≡ 1
    names = omega (arith, h.each (Atom a), counts_itself (Atom a))

    negations : as_number (same (NegAtom a) (spell f)) + as_number (same (NegAtom a) (spell g)) ≡ 1
    negations = omega (arith, h.each (NegAtom a), counts_itself (NegAtom a))

    go : (b : Bool) → same (Atom a) (spell f) ≡ b → So (is_literal f && same (negate f) g)
    go true e =
        let p : f ≡ Atom a = counted_is (Atom a) (atom_unspelled a) f (ap as_number e) in
        let n : as_number (same (NegAtom a) (spell f)) ≡ 0 = rw p refl in
        let q : g ≡ NegAtom a = counted_is (NegAtom a) (neg_atom_unspelled a) g (omega (arith, negations)) in
        literal_pair (Atom a) refl p q
    go false e =
        let z : as_number (same (Atom a) (spell f)) ≡ 0 = ap as_number e in
        let q : g ≡ Atom a = counted_is (Atom a) (atom_unspelled a) g (omega (arith, names)) in
        let n : as_number (same (NegAtom a) (spell g)) ≡ 0 = rw q refl in
        let p : f ≡ NegAtom a = counted_is (NegAtom a) (neg_atom_unspelled a) f (omega (arith, negations)) in
        literal_pair (NegAtom a) refl p q

pub axiom_shaped_iff : (xs : List Formula) → So (axiom_shaped xs) ↔ ((a : ℕ) × (xs ≈ Atom a ∷ NegAtom a ∷ []))
unfolding axiom_shaped
axiom_shaped_iff [] = (λ e. absurd (false≢true e), λ h. absurd (suc-ne-zero _ (sym (same_length h.1))))
axiom_shaped_iff (f ∷ []) = (λ e. absurd (false≢true e), λ h. absurd (suc-ne-zero _ (sym (suc_inj (same_length h.1)))))
axiom_shaped_iff (f ∷ g ∷ []) = (axiom_sound f g, λ h. axiom_complete f g h.0 h.1)
axiom_shaped_iff (f ∷ g ∷ k ∷ ks) = (λ e. absurd (false≢true e), λ h. absurd (suc-ne-zero _ (suc_inj (suc_inj (same_length h.1)))))
