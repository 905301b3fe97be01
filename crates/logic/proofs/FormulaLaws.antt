-- Laws of formulas: the test of equality; negating and spelling out keep size and height; negation and implications; the Rust's own equations of `desugar`, and the laws that tie
-- `desugar` to `negate`. Assumes nothing.
use Rattle.std.specs.Prelude.{◌≡◌, refl, ◌↔◌, Bool, true, false, ◌&&◌, ℕ, suc, ◌+◌, ◌≤◌, max}
use Rattle.std.proofs.Common.{sym, ap, ap₂, ◌∙◌, arith}
use Rattle.std.proofs.Math.Bool.{So, and-eq-true_iff}
use Rattle.std.proofs.lemmas.Bool.{false≢true}
use Rattle.logic.specs.Formula.{Formula, One, Bottom, Top, Zero, Atom, NegAtom, Tensor, Par, With, Plus, Lolli, OfCourse, WhyNot, FormulaDiscrete, name_dec, is_yes, same, negate, desugar, desugar_negation, spell, height, size}
use Rattle.logic.specs.LolliFree.{plain_of_lolli}

-- the test of equality
is_yes_iff : {A : Type 0} (d : Dec A) → So (is_yes d) ↔ A
is_yes_iff (yes a) = (λ _. a, λ _. refl)
is_yes_iff (no h) = (λ e. absurd (false≢true e), λ a. absurd (h a))

pub same_iff : (a b : Formula) → So (same a b) ↔ (a ≡ b)
unfolding same
same_iff a b = is_yes_iff (FormulaDiscrete name_dec a b)

pub same_self : (a : Formula) → same a a ≡ true
same_self a = (same_iff a a).1 refl

pub same_false : (a b : Formula) → same a b ≡ false → a ≡ b → ⊥
same_false a b e p = false≢true (sym e ∙ (same_iff a b).1 p)

pub different_same : (a b : Formula) → (a ≡ b → ⊥) → same a b ≡ false
different_same a b d = go (same a b) refl
  where
    go : (t : Bool) → same a b ≡ t → t ≡ false
    go true e = absurd (d ((same_iff a b).0 e))
    go false e = refl

pub same_symmetric : (a b : Formula) → same a b ≡ same b a
same_symmetric a b = go (same a b) refl
  where
    go : (t : Bool) → same a b ≡ t → t ≡ same b a
    go true e = sym ((same_iff b a).1 (sym ((same_iff a b).0 e)))
    go false e = sym (different_same b a (λ p. same_false a b e (sym p)))

positive : (f : Formula) → (1 ≤ size f) × (1 ≤ height f)
unfolding size height
positive One = (omega arith, omega arith)
positive Bottom = (omega arith, omega arith)
positive Top = (omega arith, omega arith)
positive Zero = (omega arith, omega arith)
positive (Atom a) = (omega arith, omega arith)
positive (NegAtom a) = (omega arith, omega arith)
positive (Tensor a b) = (omega arith, omega arith)
positive (Par a b) = (omega arith, omega arith)
positive (With a b) = (omega arith, omega arith)
positive (Plus a b) = (omega arith, omega arith)
positive (Lolli a b) = (omega arith, omega arith)
positive (OfCourse a) = (omega arith, omega arith)
positive (WhyNot a) = (omega arith, omega arith)

pub size_positive : (f : Formula) → 1 ≤ size f
size_positive f = (positive f).0

pub height_positive : (f : Formula) → 1 ≤ height f
height_positive f = (positive f).1

-- ---- size and height, together

abbrev Weigh : Formula → Formula → Type 0
Weigh f g = (size f ≡ size g) × (height f ≡ height g)

-- of formulas with two parts, and with one
two_weigh : {a b c d a' b' c' d' : ℕ} → (a ≡ c) × (a' ≡ c') → (b ≡ d) × (b' ≡ d') → (suc (a + b) ≡ suc (c + d)) × (suc (max a' b') ≡ suc (max c' d'))
two_weigh p q = (ap₂ (λ x y. suc (x + y)) p.0 q.0, ap₂ (λ x y. suc (max x y)) p.1 q.1)

one_weighs : {a c a' c' : ℕ} → (a ≡ c) × (a' ≡ c') → (suc a ≡ suc c) × (suc a' ≡ suc c')
one_weighs p = (ap suc p.0, ap suc p.1)

negate_weighs : (f : Formula) → Weigh (negate f) f
unfolding negate size height
negate_weighs One = (refl, refl)
negate_weighs Bottom = (refl, refl)
negate_weighs Top = (refl, refl)
negate_weighs Zero = (refl, refl)
negate_weighs (Atom a) = (refl, refl)
negate_weighs (NegAtom a) = (refl, refl)
negate_weighs (Tensor a b) = two_weigh (negate_weighs a) (negate_weighs b)
negate_weighs (Par a b) = two_weigh (negate_weighs a) (negate_weighs b)
negate_weighs (With a b) = two_weigh (negate_weighs a) (negate_weighs b)
negate_weighs (Plus a b) = two_weigh (negate_weighs a) (negate_weighs b)
negate_weighs (Lolli a b) = two_weigh (refl, refl) (negate_weighs b)
negate_weighs (OfCourse a) = one_weighs (negate_weighs a)
negate_weighs (WhyNot a) = one_weighs (negate_weighs a)

pub negate_size : (f : Formula) → size (negate f) ≡ size f
negate_size f = (negate_weighs f).0

pub negate_height : (f : Formula) → height (negate f) ≡ height f
negate_height f = (negate_weighs f).1

mutual
  unfolding desugar desugar_negation size height

  desugar_weighs : (f : Formula) → Weigh (desugar f) f
  desugar_weighs One = (refl, refl)
  desugar_weighs Bottom = (refl, refl)
  desugar_weighs Top = (refl, refl)
  desugar_weighs Zero = (refl, refl)
  desugar_weighs (Atom a) = (refl, refl)
  desugar_weighs (NegAtom a) = (refl, refl)
  desugar_weighs (Tensor a b) = two_weigh (desugar_weighs a) (desugar_weighs b)
  desugar_weighs (Par a b) = two_weigh (desugar_weighs a) (desugar_weighs b)
  desugar_weighs (With a b) = two_weigh (desugar_weighs a) (desugar_weighs b)
  desugar_weighs (Plus a b) = two_weigh (desugar_weighs a) (desugar_weighs b)
  desugar_weighs (Lolli a b) = two_weigh (desugar_negation_weighs a) (desugar_weighs b)
  desugar_weighs (OfCourse a) = one_weighs (desugar_weighs a)
  desugar_weighs (WhyNot a) = one_weighs (desugar_weighs a)

  desugar_negation_weighs : (f : Formula) → Weigh (desugar_negation f) f
  desugar_negation_weighs One = (refl, refl)
  desugar_negation_weighs Bottom = (refl, refl)
  desugar_negation_weighs Top = (refl, refl)
  desugar_negation_weighs Zero = (refl, refl)
  desugar_negation_weighs (Atom a) = (refl, refl)
  desugar_negation_weighs (NegAtom a) = (refl, refl)
  desugar_negation_weighs (Tensor a b) = two_weigh (desugar_negation_weighs a) (desugar_negation_weighs b)
  desugar_negation_weighs (Par a b) = two_weigh (desugar_negation_weighs a) (desugar_negation_weighs b)
  desugar_negation_weighs (With a b) = two_weigh (desugar_negation_weighs a) (desugar_negation_weighs b)
  desugar_negation_weighs (Plus a b) = two_weigh (desugar_negation_weighs a) (desugar_negation_weighs b)
  desugar_negation_weighs (Lolli a b) = two_weigh (desugar_weighs a) (desugar_negation_weighs b)
  desugar_negation_weighs (OfCourse a) = one_weighs (desugar_negation_weighs a)
  desugar_negation_weighs (WhyNot a) = one_weighs (desugar_negation_weighs a)

pub desugar_size : (f : Formula) → size (desugar f) ≡ size f
desugar_size f = (desugar_weighs f).0

pub desugar_height : (f : Formula) → height (desugar f) ≡ height f
desugar_height f = (desugar_weighs f).1

pub desugar_negation_size : (f : Formula) → size (desugar_negation f) ≡ size f
desugar_negation_size f = (desugar_negation_weighs f).0

pub desugar_negation_height : (f : Formula) → height (desugar_negation f) ≡ height f
desugar_negation_height f = (desugar_negation_weighs f).1

spell_weighs : (f : Formula) → Weigh (spell f) f
unfolding spell size height
spell_weighs One = (refl, refl)
spell_weighs Bottom = (refl, refl)
spell_weighs Top = (refl, refl)
spell_weighs Zero = (refl, refl)
spell_weighs (Atom a) = (refl, refl)
spell_weighs (NegAtom a) = (refl, refl)
spell_weighs (Tensor a b) = (refl, refl)
spell_weighs (Par a b) = (refl, refl)
spell_weighs (With a b) = (refl, refl)
spell_weighs (Plus a b) = (refl, refl)
spell_weighs (Lolli a b) = two_weigh (negate_weighs a) (refl, refl)
spell_weighs (OfCourse a) = (refl, refl)
spell_weighs (WhyNot a) = (refl, refl)

pub spell_size : (f : Formula) → size (spell f) ≡ size f
spell_size f = (spell_weighs f).0

pub spell_height : (f : Formula) → height (spell f) ≡ height f
spell_height f = (spell_weighs f).1

-- spelling out the top leaves no implication there
pub spell_twice : (f : Formula) → spell (spell f) ≡ spell f
unfolding spell
spell_twice One = refl
spell_twice Bottom = refl
spell_twice Top = refl
spell_twice Zero = refl
spell_twice (Atom a) = refl
spell_twice (NegAtom a) = refl
spell_twice (Tensor a b) = refl
spell_twice (Par a b) = refl
spell_twice (With a b) = refl
spell_twice (Plus a b) = refl
spell_twice (Lolli a b) = refl
spell_twice (OfCourse a) = refl
spell_twice (WhyNot a) = refl

-- Negation undoes itself, but not at an implication: document 01, (A ⊸ B)⊥ = A ⊗ B⊥, and twice gives A⊥ ⅋ B⊥⊥
pub negate_lolli : (a b : Formula) → negate (Lolli a b) ≡ Tensor a (negate b)
unfolding negate
negate_lolli a b = refl

pub negate_twice_lolli : (a b : Formula) → negate (negate (Lolli a b)) ≡ Par (negate a) (negate (negate b))
unfolding negate
negate_twice_lolli a b = refl

plain_parts : (a b : Formula) → So (plain_of_lolli a && plain_of_lolli b) → So (plain_of_lolli a) × So (plain_of_lolli b)
plain_parts a b = (and-eq-true_iff (plain_of_lolli a) (plain_of_lolli b)).0

pub negate_twice : (f : Formula) → So (plain_of_lolli f) → negate (negate f) ≡ f
unfolding negate plain_of_lolli
negate_twice One h = refl
negate_twice Bottom h = refl
negate_twice Top h = refl
negate_twice Zero h = refl
negate_twice (Atom a) h = refl
negate_twice (NegAtom a) h = refl
negate_twice (Tensor a b) h = ap₂ Tensor (negate_twice a (plain_parts a b h).0) (negate_twice b (plain_parts a b h).1)
negate_twice (Par a b) h = ap₂ Par (negate_twice a (plain_parts a b h).0) (negate_twice b (plain_parts a b h).1)
negate_twice (With a b) h = ap₂ With (negate_twice a (plain_parts a b h).0) (negate_twice b (plain_parts a b h).1)
negate_twice (Plus a b) h = ap₂ Plus (negate_twice a (plain_parts a b h).0) (negate_twice b (plain_parts a b h).1)
negate_twice (Lolli a b) h = absurd (false≢true h)
negate_twice (OfCourse a) h = ap OfCourse (negate_twice a h)
negate_twice (WhyNot a) h = ap WhyNot (negate_twice a h)

-- a formula with no implication is spelled out already
pub desugar_plain : (f : Formula) → So (plain_of_lolli f) → desugar f ≡ f
unfolding desugar plain_of_lolli
desugar_plain One h = refl
desugar_plain Bottom h = refl
desugar_plain Top h = refl
desugar_plain Zero h = refl
desugar_plain (Atom a) h = refl
desugar_plain (NegAtom a) h = refl
desugar_plain (Tensor a b) h = ap₂ Tensor (desugar_plain a (plain_parts a b h).0) (desugar_plain b (plain_parts a b h).1)
desugar_plain (Par a b) h = ap₂ Par (desugar_plain a (plain_parts a b h).0) (desugar_plain b (plain_parts a b h).1)
desugar_plain (With a b) h = ap₂ With (desugar_plain a (plain_parts a b h).0) (desugar_plain b (plain_parts a b h).1)
desugar_plain (Plus a b) h = ap₂ Plus (desugar_plain a (plain_parts a b h).0) (desugar_plain b (plain_parts a b h).1)
desugar_plain (Lolli a b) h = absurd (false≢true h)
desugar_plain (OfCourse a) h = ap OfCourse (desugar_plain a h)
desugar_plain (WhyNot a) h = ap WhyNot (desugar_plain a h)

-- `desugar_negation` is what its name says: the negation, spelled out. The second half is for negating twice.
negated : (f : Formula) → (desugar (negate f) ≡ desugar_negation f) × (desugar_negation (negate f) ≡ desugar f)
unfolding desugar desugar_negation negate
negated One = (refl, refl)
negated Bottom = (refl, refl)
negated Top = (refl, refl)
negated Zero = (refl, refl)
negated (Atom a) = (refl, refl)
negated (NegAtom a) = (refl, refl)
negated (Tensor a b) = (ap₂ Par (negated a).0 (negated b).0, ap₂ Tensor (negated a).1 (negated b).1)
negated (Par a b) = (ap₂ Tensor (negated a).0 (negated b).0, ap₂ Par (negated a).1 (negated b).1)
negated (With a b) = (ap₂ Plus (negated a).0 (negated b).0, ap₂ With (negated a).1 (negated b).1)
negated (Plus a b) = (ap₂ With (negated a).0 (negated b).0, ap₂ Plus (negated a).1 (negated b).1)
negated (Lolli a b) = (ap₂ Tensor refl (negated b).0, ap₂ Par refl (negated b).1)
negated (OfCourse a) = (ap WhyNot (negated a).0, ap OfCourse (negated a).1)
negated (WhyNot a) = (ap OfCourse (negated a).0, ap WhyNot (negated a).1)

pub desugar_negation_is : (f : Formula) → desugar_negation f ≡ desugar (negate f)
desugar_negation_is f = sym (negated f).0

-- the Rust's own equation at an implication; at each other sign it is the definition's
pub desugar_lolli : (a b : Formula) → desugar (Lolli a b) ≡ Par (desugar (negate a)) (desugar b)
unfolding desugar
desugar_lolli a b = ap₂ Par (desugar_negation_is a) refl

-- negating what is spelled out
mutual
  unfolding negate desugar desugar_negation

  pub negate_desugar : (f : Formula) → negate (desugar f) ≡ desugar_negation f
  negate_desugar One = refl
  negate_desugar Bottom = refl
  negate_desugar Top = refl
  negate_desugar Zero = refl
  negate_desugar (Atom a) = refl
  negate_desugar (NegAtom a) = refl
  negate_desugar (Tensor a b) = ap₂ Par (negate_desugar a) (negate_desugar b)
  negate_desugar (Par a b) = ap₂ Tensor (negate_desugar a) (negate_desugar b)
  negate_desugar (With a b) = ap₂ Plus (negate_desugar a) (negate_desugar b)
  negate_desugar (Plus a b) = ap₂ With (negate_desugar a) (negate_desugar b)
  negate_desugar (Lolli a b) = ap₂ Tensor (negate_desugar_negation a) (negate_desugar b)
  negate_desugar (OfCourse a) = ap WhyNot (negate_desugar a)
  negate_desugar (WhyNot a) = ap OfCourse (negate_desugar a)

  pub negate_desugar_negation : (f : Formula) → negate (desugar_negation f) ≡ desugar f
  negate_desugar_negation One = refl
  negate_desugar_negation Bottom = refl
  negate_desugar_negation Top = refl
  negate_desugar_negation Zero = refl
  negate_desugar_negation (Atom a) = refl
  negate_desugar_negation (NegAtom a) = refl
  negate_desugar_negation (Tensor a b) = ap₂ Tensor (negate_desugar_negation a) (negate_desugar_negation b)
  negate_desugar_negation (Par a b) = ap₂ Par (negate_desugar_negation a) (negate_desugar_negation b)
  negate_desugar_negation (With a b) = ap₂ With (negate_desugar_negation a) (negate_desugar_negation b)
  negate_desugar_negation (Plus a b) = ap₂ Plus (negate_desugar_negation a) (negate_desugar_negation b)
  negate_desugar_negation (Lolli a b) = ap₂ Par (negate_desugar a) (negate_desugar_negation b)
  negate_desugar_negation (OfCourse a) = ap OfCourse (negate_desugar_negation a)
  negate_desugar_negation (WhyNot a) = ap WhyNot (negate_desugar_negation a)

pub negate_then_desugar : (f : Formula) → desugar (negate f) ≡ negate (desugar f)
negate_then_desugar f = (negated f).0 ∙ sym (negate_desugar f)

pub negate_twice_then_desugar : (f : Formula) → desugar (negate (negate f)) ≡ desugar f
negate_twice_then_desugar f = (negated (negate f)).0 ∙ (negated f).1

-- no implication is left
mutual
  unfolding plain_of_lolli desugar desugar_negation

  pub desugar_is_plain : (f : Formula) → So (plain_of_lolli (desugar f))
  desugar_is_plain One = refl
  desugar_is_plain Bottom = refl
  desugar_is_plain Top = refl
  desugar_is_plain Zero = refl
  desugar_is_plain (Atom a) = refl
  desugar_is_plain (NegAtom a) = refl
  desugar_is_plain (Tensor a b) = (and-eq-true_iff _ _).1 (desugar_is_plain a, desugar_is_plain b)
  desugar_is_plain (Par a b) = (and-eq-true_iff _ _).1 (desugar_is_plain a, desugar_is_plain b)
  desugar_is_plain (With a b) = (and-eq-true_iff _ _).1 (desugar_is_plain a, desugar_is_plain b)
  desugar_is_plain (Plus a b) = (and-eq-true_iff _ _).1 (desugar_is_plain a, desugar_is_plain b)
  desugar_is_plain (Lolli a b) = (and-eq-true_iff _ _).1 (desugar_negation_is_plain a, desugar_is_plain b)
  desugar_is_plain (OfCourse a) = desugar_is_plain a
  desugar_is_plain (WhyNot a) = desugar_is_plain a

  pub desugar_negation_is_plain : (f : Formula) → So (plain_of_lolli (desugar_negation f))
  desugar_negation_is_plain One = refl
  desugar_negation_is_plain Bottom = refl
  desugar_negation_is_plain Top = refl
  desugar_negation_is_plain Zero = refl
  desugar_negation_is_plain (Atom a) = refl
  desugar_negation_is_plain (NegAtom a) = refl
  desugar_negation_is_plain (Tensor a b) = (and-eq-true_iff _ _).1 (desugar_negation_is_plain a, desugar_negation_is_plain b)
  desugar_negation_is_plain (Par a b) = (and-eq-true_iff _ _).1 (desugar_negation_is_plain a, desugar_negation_is_plain b)
  desugar_negation_is_plain (With a b) = (and-eq-true_iff _ _).1 (desugar_negation_is_plain a, desugar_negation_is_plain b)
  desugar_negation_is_plain (Plus a b) = (and-eq-true_iff _ _).1 (desugar_negation_is_plain a, desugar_negation_is_plain b)
  desugar_negation_is_plain (Lolli a b) = (and-eq-true_iff _ _).1 (desugar_is_plain a, desugar_negation_is_plain b)
  desugar_negation_is_plain (OfCourse a) = desugar_negation_is_plain a
  desugar_negation_is_plain (WhyNot a) = desugar_negation_is_plain a

pub desugar_twice : (f : Formula) → desugar (desugar f) ≡ desugar f
desugar_twice f = desugar_plain (desugar f) (desugar_is_plain f)
