-- Rules by their numbers: which formula a cut names, what the arms of a `match` on a number leave out, and what the search for a principal formula over a zone keeps. Assumes nothing.
use Rattle.std.specs.Prelude.{◌≡◌, List, [], ◌∷◌, ℕ}
use Rattle.logic.specs.Formula.{Formula, Bottom}
use Rattle.logic.specs.Sequent.{Sequent}
use Rattle.logic.specs.Tree.{
  Rule,
  Axiom,
  Cut,
  OneIntro,
  BottomIntro,
  TensorIntro,
  ParIntro,
  TopIntro,
  WithIntro,
  PlusIntroLeft,
  PlusIntroRight,
  OfCourseIntro,
  WhyNotIntro,
  Weakening,
  Contraction,
  Dereliction,
  FocusPositive,
  FocusNegative,
  Blur,
}
use Rattle.logic.specs.Verify.{any}
use Rattle.tree.specs.Places.{rule_number}
use Rattle.tree.specs.declared.Node.{Node}
use Rattle.bags.specs.Walks.{Walk}
use Rattle.strict.specs.Zones.{SequentAt}
use Rattle.strict.specs.Steps.{step_by}

-- a number is none of these; the pairs stand as the arms of a `match` on a number give them
abbrev pub NoneOf : Type 0 → List ℕ → ℕ → Type 0
NoneOf A [] n = A
NoneOf A (k ∷ ks) n = NoneOf (A × (n ≡ k → ⊥)) ks n

-- the rules whose step has a principal formula
abbrev pub with_principal : List ℕ
with_principal = 3 ∷ 4 ∷ 5 ∷ 7 ∷ 8 ∷ 9 ∷ 10 ∷ 11 ∷ 12 ∷ 13 ∷ 14 ∷ []

-- the formula that a cut names; another rule names none
unfoldable pub cut_formula : Rule → Formula
cut_formula (Cut c) = c
cut_formula Axiom = Bottom
cut_formula OneIntro = Bottom
cut_formula BottomIntro = Bottom
cut_formula TensorIntro = Bottom
cut_formula ParIntro = Bottom
cut_formula TopIntro = Bottom
cut_formula WithIntro = Bottom
cut_formula PlusIntroLeft = Bottom
cut_formula PlusIntroRight = Bottom
cut_formula OfCourseIntro = Bottom
cut_formula WhyNotIntro = Bottom
cut_formula Weakening = Bottom
cut_formula Contraction = Bottom
cut_formula Dereliction = Bottom
cut_formula (FocusPositive i) = Bottom
cut_formula (FocusNegative i) = Bottom
cut_formula Blur = Bottom

-- from x₀ to x no formula makes the step legal: those left decide
pub record Trying (s : List ℕ) (end : ℕ) (q p p' : Node) (x₀ x : ℕ) : Type 0 where
  pub walk : Walk s end x₀ x (λ fs rest. (rule : Rule) (Q P P' : Sequent) → q.rule ≡ rule_number rule → SequentAt s q Q → SequentAt s p P → SequentAt s p' P'
      → any (λ y. step_by q.rule y Q P P') fs ≡ any (λ y. step_by q.rule y Q P P') rest)
