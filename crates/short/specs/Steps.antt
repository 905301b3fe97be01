-- The steps of the search's rules, each by its rule, the place of its principal formula in its zone and, for a tensor, the mask of the split (document 02, 11/12, and `Built`). A step is
-- taken at a sequent whose first decomposable formula is no implication: that one is spelled out before, unwritten. Assumes nothing: these are definitions.
use Rattle.std.specs.Prelude.{Bool, true, false, not, ◌&&◌, List, [], ◌∷◌, ◌++◌, ℕ, ◌^◌, eqb, ltb, get_or, length, take}
use Rattle.logic.specs.Formula.{Formula, One, same, negate}
use Rattle.logic.specs.Parts.{tag_of, left_part, right_part, is_literal}
use Rattle.logic.specs.Sequent.{Sequent, ◌﹔◌}
use Rattle.logic.specs.Split.{left_of, right_of}
use Rattle.logic.specs.Built.{decomposable}
use Rattle.logic.specs.Tree.{
  Rule,
  Axiom,
  Cut,
  OneIntro,
  BottomIntro,
  TensorIntro,
  ParIntro,
  TopIntro,
  WithIntro,
  PlusIntroLeft,
  PlusIntroRight,
  OfCourseIntro,
  WhyNotIntro,
  Weakening,
  Contraction,
  Dereliction,
  FocusPositive,
  FocusNegative,
  Blur,
}
use Rattle.zones.specs.Zones.{remove, replace}

-- none of the formulas is decomposable
unfoldable pub all_passed : List Formula → Bool
all_passed [] = true
all_passed (f ∷ fs) = not (decomposable f) && all_passed fs

-- the formula at a place of the linear zone; past the end stands `One`
abbrev pub formula_at : Sequent → ℕ → Formula
formula_at q i = get_or q.linear i One

-- the formula at place i has this tag, and none before it is decomposable: what `prove_async` takes alone
unfoldable pub is_first : Sequent → (i tag : ℕ) → Bool
is_first q i tag = eqb (tag_of (formula_at q i)) tag && all_passed (take i q.linear)

-- there is a formula, and none is decomposable: what is left to `prove_sync`
unfoldable pub is_sync : Sequent → Bool
is_sync q = not (eqb (length q.linear) 0) && all_passed q.linear

-- and the formula at place i has this tag
unfoldable pub is_focus : Sequent → (i tag : ℕ) → Bool
is_focus q i tag = is_sync q && eqb (tag_of (formula_at q i)) tag

-- the linear zone is a name and its negation, in either order
unfoldable pub is_pair : List Formula → Bool
is_pair [] = false
is_pair (f ∷ []) = false
is_pair (f ∷ g ∷ []) = is_literal f && same g (negate f)
is_pair (f ∷ g ∷ h ∷ fs) = false

-- whether the search's rules can take the step as written: the spare bits of a mask are 0, and the place at Axiom and OneIntro is 0. Cut, the focus rules and Blur are none of theirs
unfoldable pub may_take : Rule → (i mask : ℕ) → Sequent → Bool
may_take Axiom i mask q = is_sync q && eqb i 0 && is_pair q.linear
may_take OneIntro i mask q = is_focus q i 0 && eqb i 0 && eqb (length q.linear) 1
may_take BottomIntro i mask q = is_first q i 1
may_take TensorIntro i mask q = is_focus q i 6 && ltb mask (2 ^ length (remove i q.linear))
may_take ParIntro i mask q = is_first q i 7
may_take TopIntro i mask q = is_first q i 2
may_take WithIntro i mask q = is_first q i 8
may_take PlusIntroLeft i mask q = is_focus q i 9
may_take PlusIntroRight i mask q = is_focus q i 9
may_take OfCourseIntro i mask q = is_focus q i 11 && eqb (length q.linear) 1
may_take WhyNotIntro i mask q = is_first q i 12
may_take Weakening i mask q = is_sync q && ltb i (length q.unrestricted)
may_take Contraction i mask q = is_sync q && ltb i (length q.unrestricted)
may_take Dereliction i mask q = is_sync q && ltb i (length q.unrestricted)
may_take (Cut c) i mask q = false
may_take (FocusPositive n) i mask q = false
may_take (FocusNegative n) i mask q = false
may_take Blur i mask q = false

-- the premises of the step, as search.rs makes them
unfoldable pub premises_of : Rule → (i mask : ℕ) → Sequent → List Sequent
premises_of Axiom i mask q = []
premises_of OneIntro i mask q = []
premises_of BottomIntro i mask q = (remove i q.linear ﹔ q.unrestricted) ∷ []
premises_of TensorIntro i mask q =
    (left_of mask (remove i q.linear) ++ (left_part (formula_at q i) ∷ []) ﹔ q.unrestricted)
    ∷ (right_of mask (remove i q.linear) ++ (right_part (formula_at q i) ∷ []) ﹔ q.unrestricted)
    ∷ []
premises_of ParIntro i mask q = (remove i q.linear ++ (left_part (formula_at q i) ∷ right_part (formula_at q i) ∷ []) ﹔ q.unrestricted) ∷ []
premises_of TopIntro i mask q = []
premises_of WithIntro i mask q =
    (remove i q.linear ++ (left_part (formula_at q i) ∷ []) ﹔ q.unrestricted) ∷ (remove i q.linear ++ (right_part (formula_at q i) ∷ []) ﹔ q.unrestricted) ∷ []
premises_of PlusIntroLeft i mask q = (replace i (left_part (formula_at q i)) q.linear ﹔ q.unrestricted) ∷ []
premises_of PlusIntroRight i mask q = (replace i (right_part (formula_at q i)) q.linear ﹔ q.unrestricted) ∷ []
premises_of OfCourseIntro i mask q = (left_part (formula_at q i) ∷ [] ﹔ q.unrestricted) ∷ []
premises_of WhyNotIntro i mask q = (remove i q.linear ﹔ q.unrestricted ++ (left_part (formula_at q i) ∷ [])) ∷ []
premises_of Weakening i mask q = (q.linear ﹔ remove i q.unrestricted) ∷ []
premises_of Contraction i mask q =
    (q.linear ++ (get_or q.unrestricted i One ∷ get_or q.unrestricted i One ∷ []) ﹔ remove i q.unrestricted) ∷ []
premises_of Dereliction i mask q = (q.linear ++ (get_or q.unrestricted i One ∷ []) ﹔ remove i q.unrestricted) ∷ []
premises_of (Cut c) i mask q = []
premises_of (FocusPositive n) i mask q = []
premises_of (FocusNegative n) i mask q = []
premises_of Blur i mask q = []
