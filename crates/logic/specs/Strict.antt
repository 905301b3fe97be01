-- Strict mode as a test: at each node the shape mode's tests, then 15 unless the step is legal. The principal formula is looked for at every place of its zone; at TensorIntro and Cut no
-- split is looked for, since what the two premises hold besides A and B must be the rest. `StrictLaws` shows that the test agrees with document 01's legal steps. Assumes nothing.
use Rattle.std.specs.Prelude.{Bool, false, ◌&&◌, List, [], ◌∷◌, ◌++◌, map}
use Rattle.std.proofs.Math.Option.{Option, none, some}
use Rattle.logic.specs.Formula.{Formula, Bottom, Top, Tensor, Par, With, Plus, OfCourse, WhyNot, negate, among, spell}
use Rattle.logic.specs.Parts.{left_part, right_part, is_binary, is_unary}
use Rattle.logic.specs.Sequent.{Sequent}
use Rattle.logic.specs.Tree.{
  Rule,
  Axiom,
  Cut,
  OneIntro,
  BottomIntro,
  TensorIntro,
  ParIntro,
  TopIntro,
  WithIntro,
  PlusIntroLeft,
  PlusIntroRight,
  OfCourseIntro,
  WhyNotIntro,
  Weakening,
  Contraction,
  Dereliction,
  FocusPositive,
  FocusNegative,
  Blur,
  Tree,
  Trees,
  conclusions,
  premise_count,
}
use Rattle.logic.specs.Key.{same_bag}
use Rattle.logic.specs.Verify.{Fault, context_mismatch, Verdict, any, axiom_shaped, one_shaped, need, shape_fault, verify_from}

-- a linear zone as strict mode reads it; two linear zones, and two unrestricted ones, compared
abbrev pub spelled : List Formula → List Formula
spelled = map spell

unfoldable pub linear_same : List Formula → List Formula → Bool
linear_same xs ys = same_bag (spelled xs) (spelled ys)

abbrev pub keeps_zone : Sequent → Sequent → Bool
keeps_zone q p = same_bag p.unrestricted q.unrestricted

-- the formula stands in a linear zone
abbrev pub in_linear : Formula → List Formula → Bool
in_linear f xs = among (spell f) (spelled xs)

-- some formula of a linear zone is, spelled out, `sign a b` or `sign a`, and the test holds of its parts
unfoldable pub any_binary : (Formula → Formula → Formula) → (Formula → Formula → Bool) → List Formula → Bool
any_binary sign test xs = any (λ x. is_binary sign x && test (left_part x) (right_part x)) (spelled xs)

unfoldable pub any_unary : (Formula → Formula) → (Formula → Bool) → List Formula → Bool
any_unary sign test xs = any (λ x. is_unary sign x && test (left_part x)) (spelled xs)

-- premises: none, one, two
abbrev pub of_none : Bool → List Sequent → Bool
of_none b [] = b
of_none b (p ∷ ps) = false

abbrev pub of_one : (Sequent → Bool) → List Sequent → Bool
of_one test [] = false
of_one test (p ∷ []) = test p
of_one test (p ∷ p' ∷ ps) = false

abbrev pub of_two : (Sequent → Sequent → Bool) → List Sequent → Bool
of_two test [] = false
of_two test (p ∷ []) = false
of_two test (p ∷ p' ∷ []) = test p p'
of_two test (p ∷ p' ∷ p'' ∷ ps) = false

-- the step by the rule from the premises to q is legal
unfoldable pub legal_step : Rule → Sequent → List Sequent → Bool
legal_step Axiom q = of_none (axiom_shaped q.linear)
legal_step OneIntro q = of_none (one_shaped q.linear)
legal_step TopIntro q = of_none (among Top q.linear)
legal_step BottomIntro q = of_one λ p. linear_same q.linear (Bottom ∷ p.linear) && keeps_zone q p
legal_step ParIntro q = of_one λ p.
    any_binary Par (λ a b. linear_same (Par a b ∷ p.linear) (a ∷ b ∷ q.linear)) q.linear && keeps_zone q p
legal_step WithIntro q = of_two λ p p'.
    any_binary With (λ a b. linear_same (With a b ∷ p.linear) (a ∷ q.linear) && linear_same (With a b ∷ p'.linear) (b ∷ q.linear)) q.linear
    && (keeps_zone q p && keeps_zone q p')
legal_step PlusIntroLeft q = of_one λ p.
    any_binary Plus (λ a b. linear_same (Plus a b ∷ p.linear) (a ∷ q.linear)) q.linear && keeps_zone q p
legal_step PlusIntroRight q = of_one λ p.
    any_binary Plus (λ a b. linear_same (Plus a b ∷ p.linear) (b ∷ q.linear)) q.linear && keeps_zone q p
legal_step TensorIntro q = of_two λ p p'.
    any_binary
    Tensor
    (λ a b. (in_linear a p.linear && in_linear b p'.linear) && linear_same (Tensor a b ∷ (p.linear ++ p'.linear)) (a ∷ b ∷ q.linear))
    q.linear
    && (keeps_zone q p && keeps_zone q p')
legal_step OfCourseIntro q = of_one λ p.
    any_unary OfCourse (λ a. linear_same q.linear (OfCourse a ∷ []) && linear_same p.linear (a ∷ [])) q.linear && keeps_zone q p
legal_step WhyNotIntro q = of_one λ p.
    any_unary WhyNot (λ a. linear_same q.linear (WhyNot a ∷ p.linear) && same_bag p.unrestricted (a ∷ q.unrestricted)) q.linear
legal_step Weakening q = of_one λ p.
    any (λ a. linear_same p.linear q.linear && same_bag q.unrestricted (a ∷ p.unrestricted)) q.unrestricted
legal_step Contraction q = of_one λ p.
    any (λ a. linear_same p.linear (a ∷ a ∷ q.linear) && same_bag q.unrestricted (a ∷ p.unrestricted)) q.unrestricted
legal_step Dereliction q = of_one λ p.
    any (λ a. linear_same p.linear (a ∷ q.linear) && same_bag q.unrestricted (a ∷ p.unrestricted)) q.unrestricted
legal_step (Cut c) q = of_two λ p p'.
    ((in_linear c p.linear && in_linear (negate c) p'.linear) && linear_same (p.linear ++ p'.linear) (c ∷ negate c ∷ q.linear))
    && (keeps_zone q p && keeps_zone q p')
legal_step (FocusPositive i) q = λ ps. false
legal_step (FocusNegative i) q = λ ps. false
legal_step Blur q = λ ps. false

-- shape mode's fault, or else 15 unless the step is legal
abbrev pub or_fault : Option Fault → Option Fault → Option Fault
or_fault none g = g
or_fault (some f) g = some f

unfoldable pub strict_fault : Rule → Sequent → Trees → Option Fault
strict_fault r q ps = or_fault (shape_fault r q (premise_count ps)) (need (legal_step r q (conclusions ps)) context_mismatch none)

-- strict mode
unfoldable pub verify_strict : Tree → Verdict
verify_strict t = verify_from strict_fault t 0 0
