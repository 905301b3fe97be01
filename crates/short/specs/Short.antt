-- Short trees (document 02, 11/12): a node is its rule, the place of its principal formula in its zone (0 at Axiom and OneIntro) and, at TensorIntro, the mask of the split; no node says
-- what it concludes. `Shorts` is a list of them: antt takes no data type that stands inside a list. Assumes nothing.
use Rattle.std.specs.Prelude.{ℕ, zero, suc, max}
use Rattle.logic.specs.Tree.{
  Rule,
  Axiom,
  Cut,
  OneIntro,
  BottomIntro,
  TensorIntro,
  ParIntro,
  TopIntro,
  WithIntro,
  PlusIntroLeft,
  PlusIntroRight,
  OfCourseIntro,
  WhyNotIntro,
  Weakening,
  Contraction,
  Dereliction,
  FocusPositive,
  FocusNegative,
  Blur,
}

mutual
  pub data Short : Type 0 where
    short : Rule → (place mask : ℕ) → Shorts → Short

  pub data Shorts : Type 0 where
    □ : Shorts
    ◌▸◌ : Short → Shorts → Shorts

infixr 20 ◌▸◌
-- the height: a leaf is 1
unfoldable mutual
  pub height : Short → ℕ
  height (short r i mask ss) = suc (heights ss)

  pub heights : Shorts → ℕ
  heights □ = zero
  heights (s ▸ ss) = max (height s) (heights ss)

-- how many there are
unfoldable pub many : Shorts → ℕ
many □ = zero
many (s ▸ ss) = suc (many ss)

-- how many premises follow a rule; Cut, the focus rules and Blur have no short form
unfoldable pub follow : Rule → ℕ
follow Axiom = 0
follow OneIntro = 0
follow BottomIntro = 1
follow TensorIntro = 2
follow ParIntro = 1
follow TopIntro = 0
follow WithIntro = 2
follow PlusIntroLeft = 1
follow PlusIntroRight = 1
follow OfCourseIntro = 1
follow WhyNotIntro = 1
follow Weakening = 1
follow Contraction = 1
follow Dereliction = 1
follow (Cut c) = 0
follow (FocusPositive n) = 0
follow (FocusNegative n) = 0
follow Blur = 0
