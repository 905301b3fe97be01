-- Document 01's legal steps, as an inductive relation, apart from any test. Zones are compared as multisets: the linear zone after each implication at the top of a formula is spelled
-- out, the unrestricted zone as it stands. Assumes nothing.
use Rattle.std.specs.Prelude.{◌≡◌, Bool, true, false, List, [], ◌∷◌, ◌++◌, ℕ}
use Rattle.logic.specs.Formula.{Formula, One, Bottom, Top, Atom, NegAtom, Tensor, Par, With, Plus, OfCourse, WhyNot, negate, same, spell}
use Rattle.logic.specs.Sequent.{Sequent}
use Rattle.logic.specs.Tree.{
  Rule,
  Axiom,
  Cut,
  OneIntro,
  BottomIntro,
  TensorIntro,
  ParIntro,
  TopIntro,
  WithIntro,
  PlusIntroLeft,
  PlusIntroRight,
  OfCourseIntro,
  WhyNotIntro,
  Weakening,
  Contraction,
  Dereliction,
  Tree,
  Trees,
  node,
  ∅,
  ◌▹◌,
  conclusions,
}
use Rattle.logic.specs.Zone.{total}

abbrev pub as_number : Bool → ℕ
as_number true = 1
as_number false = 0

-- how often f stands in a zone that is read through g
abbrev pub times : (Formula → Formula) → Formula → List Formula → ℕ
times g f = total (λ x. as_number (same f (g x)))

-- the same multiset, read through g
pub record Same (g : Formula → Formula) (xs ys : List Formula) : Type 0 where
  pub each : (f : Formula) → times g f xs ≡ times g f ys

abbrev pub plain : Formula → Formula
plain f = f

infix 10 ◌≈◌ ◌≋◌
-- linear zones
abbrev pub ◌≈◌ : List Formula → List Formula → Type 0
◌≈◌ = Same spell

-- unrestricted zones
abbrev pub ◌≋◌ : List Formula → List Formula → Type 0
◌≋◌ = Same plain

-- `Step r q ps`: by the rule r the premises ps give the conclusion q. Focus rules and Blur have none
pub data Step : Rule → Sequent → List Sequent → Type 0 where
  step_axiom : {q : Sequent} (a : ℕ) → q.linear ≈ Atom a ∷ NegAtom a ∷ [] → Step Axiom q []
  step_one : {q : Sequent} → q.linear ≈ One ∷ [] → Step OneIntro q []
  step_top : {q : Sequent} (Γ : List Formula) → q.linear ≈ Top ∷ Γ → Step TopIntro q []
  step_bottom : {q p : Sequent} → q.linear ≈ Bottom ∷ p.linear → p.unrestricted ≋ q.unrestricted → Step BottomIntro q (p ∷ [])
  step_par : {q p : Sequent} (a b : Formula) (Γ : List Formula) → q.linear ≈ Par a b ∷ Γ → p.linear ≈ a ∷ b ∷ Γ → p.unrestricted ≋ q.unrestricted → Step ParIntro q (p ∷ [])
  step_with : {q p p' : Sequent} (a b : Formula) (Γ : List Formula) → q.linear ≈ With a b ∷ Γ → p.linear ≈ a ∷ Γ → p'.linear ≈ b ∷ Γ → p.unrestricted ≋ q.unrestricted → p'.unrestricted ≋ q.unrestricted → Step WithIntro q (p ∷ p' ∷ [])
  step_plus_left : {q p : Sequent} (a b : Formula) (Γ : List Formula) → q.linear ≈ Plus a b ∷ Γ → p.linear ≈ a ∷ Γ → p.unrestricted ≋ q.unrestricted → Step PlusIntroLeft q (p ∷ [])
  step_plus_right : {q p : Sequent} (a b : Formula) (Γ : List Formula) → q.linear ≈ Plus a b ∷ Γ → p.linear ≈ b ∷ Γ → p.unrestricted ≋ q.unrestricted → Step PlusIntroRight q (p ∷ [])
  step_tensor : {q p p' : Sequent} (a b : Formula) (Γ Δ : List Formula) → q.linear ≈ Tensor a b ∷ (Γ ++ Δ) → p.linear ≈ a ∷ Γ → p'.linear ≈ b ∷ Δ → p.unrestricted ≋ q.unrestricted → p'.unrestricted ≋ q.unrestricted → Step TensorIntro q (p ∷ p' ∷ [])
  step_of_course : {q p : Sequent} (a : Formula) → q.linear ≈ OfCourse a ∷ [] → p.linear ≈ a ∷ [] → p.unrestricted ≋ q.unrestricted → Step OfCourseIntro q (p ∷ [])
  step_why_not : {q p : Sequent} (a : Formula) → q.linear ≈ WhyNot a ∷ p.linear → p.unrestricted ≋ a ∷ q.unrestricted → Step WhyNotIntro q (p ∷ [])
  step_weakening : {q p : Sequent} (a : Formula) → p.linear ≈ q.linear → q.unrestricted ≋ a ∷ p.unrestricted → Step Weakening q (p ∷ [])
  step_contraction : {q p : Sequent} (a : Formula) → p.linear ≈ a ∷ a ∷ q.linear → q.unrestricted ≋ a ∷ p.unrestricted → Step Contraction q (p ∷ [])
  step_dereliction : {q p : Sequent} (a : Formula) → p.linear ≈ a ∷ q.linear → q.unrestricted ≋ a ∷ p.unrestricted → Step Dereliction q (p ∷ [])
  step_cut : {q p p' : Sequent} (c : Formula) (Γ Δ : List Formula) → q.linear ≈ Γ ++ Δ → p.linear ≈ c ∷ Γ → p'.linear ≈ negate c ∷ Δ → p.unrestricted ≋ q.unrestricted → p'.unrestricted ≋ q.unrestricted → Step (Cut c) q (p ∷ p' ∷ [])

-- each step of the tree is legal
abbrev mutual
  pub Legal : Tree → Type 0
  Legal (node r q ps) = Step r q (conclusions ps) × Legals ps

  pub Legals : Trees → Type 0
  Legals ∅ = Unit {0}
  Legals (t ▹ ts) = Legal t × Legals ts
