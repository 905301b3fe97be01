-- Short trees as they are written: at each node a rule with a short form, as many premises as follow it, a place below 31, and a mask of 31 bits that is 0 unless the rule is TensorIntro.
-- Assumes nothing: these are definitions.
use Rattle.std.specs.Prelude.{◌≡◌, Bool, true, false, ◌⊎◌, ℕ, ◌<◌}
use Rattle.logic.specs.Tree.{
  Rule,
  Axiom,
  Cut,
  OneIntro,
  BottomIntro,
  TensorIntro,
  ParIntro,
  TopIntro,
  WithIntro,
  PlusIntroLeft,
  PlusIntroRight,
  OfCourseIntro,
  WhyNotIntro,
  Weakening,
  Contraction,
  Dereliction,
  FocusPositive,
  FocusNegative,
  Blur,
}
use Rattle.short.specs.Short.{Short, short, Shorts, □, ◌▸◌, many, follow}

-- Cut, the focus rules and Blur have no short form
unfoldable pub has_short : Rule → Bool
has_short Axiom = true
has_short OneIntro = true
has_short BottomIntro = true
has_short TensorIntro = true
has_short ParIntro = true
has_short TopIntro = true
has_short WithIntro = true
has_short PlusIntroLeft = true
has_short PlusIntroRight = true
has_short OfCourseIntro = true
has_short WhyNotIntro = true
has_short Weakening = true
has_short Contraction = true
has_short Dereliction = true
has_short (Cut c) = false
has_short (FocusPositive n) = false
has_short (FocusNegative n) = false
has_short Blur = false

pub record RegularNode (r : Rule) (i mask : ℕ) (ss : Shorts) : Type 0 where
  pub form : has_short r ≡ true
  pub premises : many ss ≡ follow r
  pub place_low : i < 31
  pub mask_low : mask < 2147483648
  pub mask_used : (r ≡ TensorIntro) ⊎ (mask ≡ 0)

abbrev mutual
  pub Regular : Short → Type 0
  Regular (short r i mask ss) = RegularNode r i mask ss × Regular* ss

  pub Regular* : Shorts → Type 0
  Regular* □ = Unit {0}
  Regular* (s ▸ ss) = Regular s × Regular* ss
