-- The trees that shape mode accepts, and what its test still asks where a step is legal. Assumes nothing.
use Rattle.std.specs.Prelude.{◌≡◌, Bool, true}
use Rattle.std.proofs.Math.Bool.{So}
use Rattle.std.proofs.Math.Option.{none}
use Rattle.logic.specs.Formula.{Par}
use Rattle.logic.specs.Parts.{is_binary}
use Rattle.logic.specs.Sequent.{Sequent}
use Rattle.logic.specs.Tree.{
  Rule,
  Axiom,
  Cut,
  OneIntro,
  BottomIntro,
  TensorIntro,
  ParIntro,
  TopIntro,
  WithIntro,
  PlusIntroLeft,
  PlusIntroRight,
  OfCourseIntro,
  WhyNotIntro,
  Weakening,
  Contraction,
  Dereliction,
  FocusPositive,
  FocusNegative,
  Blur,
  Tree,
}
use Rattle.logic.specs.Verify.{any, shape_at}
use Rattle.logic.specs.Everywhere.{Everywhere}

-- each node passes shape mode's test
abbrev pub Shaped : Tree → Type 0
Shaped = Everywhere λ r q ps. shape_at r q ps ≡ none

-- A node by ParIntro has a par in its linear zone, written out: shape mode does not take an implication for one, and strict mode does
unfoldable pub par_shown : Rule → Sequent → Bool
par_shown ParIntro q = any (is_binary Par) q.linear
par_shown Axiom q = true
par_shown (Cut c) q = true
par_shown OneIntro q = true
par_shown BottomIntro q = true
par_shown TensorIntro q = true
par_shown TopIntro q = true
par_shown WithIntro q = true
par_shown PlusIntroLeft q = true
par_shown PlusIntroRight q = true
par_shown OfCourseIntro q = true
par_shown WhyNotIntro q = true
par_shown Weakening q = true
par_shown Contraction q = true
par_shown Dereliction q = true
par_shown (FocusPositive i) q = true
par_shown (FocusNegative i) q = true
par_shown Blur q = true

abbrev pub ParsShown : Tree → Type 0
ParsShown = Everywhere λ r q ps. So (par_shown r q)
