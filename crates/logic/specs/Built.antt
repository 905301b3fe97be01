-- How a tree can come about: `Built n q t` says that the search's rules build the tree t for the question q within n levels. It has one constructor for each place of search.rs that
-- makes a node, and one for an implication. Assumes nothing.
use Rattle.std.specs.Prelude.{◌≡◌, Bool, true, false, List, [], ◌∷◌, ◌++◌, ℕ, suc, ◌<◌, ◌^◌, length}
use Rattle.logic.specs.Formula.{Formula, One, Bottom, Top, Zero, Atom, NegAtom, Tensor, Par, With, Plus, Lolli, OfCourse, WhyNot, negate}
use Rattle.logic.specs.Sequent.{Sequent, ◌﹔◌}
use Rattle.logic.specs.Tree.{
  Axiom,
  OneIntro,
  BottomIntro,
  TensorIntro,
  ParIntro,
  TopIntro,
  WithIntro,
  PlusIntroLeft,
  PlusIntroRight,
  OfCourseIntro,
  WhyNotIntro,
  Weakening,
  Contraction,
  Dereliction,
  Tree,
  node,
  ∅,
  ◌▹◌,
}
use Rattle.logic.specs.Split.{left_of, right_of}

-- what `prove_async` decomposes
unfoldable pub decomposable : Formula → Bool
decomposable (Par a b) = true
decomposable Bottom = true
decomposable Top = true
decomposable (With a b) = true
decomposable (WhyNot a) = true
decomposable (Lolli a b) = true
decomposable (Atom a) = false
decomposable (NegAtom a) = false
decomposable (Tensor a b) = false
decomposable One = false
decomposable (Plus a b) = false
decomposable Zero = false
decomposable (OfCourse a) = false

-- none of the formulas is decomposable
pub data Passed : List Formula → Type 0 where
  none_yet : Passed []
  and_passed : {f : Formula} {fs : List Formula} → decomposable f ≡ false → Passed fs → Passed (f ∷ fs)

-- In each, `before` and `after` are what stands left and right of the principal formula in its zone
pub data Built : ℕ → Sequent → Tree → Type 0 where
  -- prove_async
  by_par : {n : ℕ} {q : Sequent} {t : Tree} (before : List Formula) (a b : Formula) (after : List Formula) → Passed before → q.linear ≡ before ++ (Par a b ∷ after) → Built n (before ++ after ++ (a ∷ b ∷ []) ﹔ q.unrestricted) t → Built (suc n) q (node ParIntro q (t ▹ ∅))
  by_bottom : {n : ℕ} {q : Sequent} {t : Tree} (before after : List Formula) → Passed before → q.linear ≡ before ++ (Bottom ∷ after) → Built n (before ++ after ﹔ q.unrestricted) t → Built (suc n) q (node BottomIntro q (t ▹ ∅))
  by_top : {n : ℕ} {q : Sequent} (before after : List Formula) → Passed before → q.linear ≡ before ++ (Top ∷ after) → Built (suc n) q (node TopIntro q ∅)
  by_with : {n : ℕ} {q : Sequent} {t u : Tree} (before : List Formula) (a b : Formula) (after : List Formula) → Passed before → q.linear ≡ before ++ (With a b ∷ after) → Built n (before ++ after ++ (a ∷ []) ﹔ q.unrestricted) t → Built n (before ++ after ++ (b ∷ []) ﹔ q.unrestricted) u → Built (suc n) q (node WithIntro q (t ▹ u ▹ ∅))
  by_why_not : {n : ℕ} {q : Sequent} {t : Tree} (before : List Formula) (a : Formula) (after : List Formula) → Passed before → q.linear ≡ before ++ (WhyNot a ∷ after) → Built n (before ++ after ﹔ q.unrestricted ++ (a ∷ [])) t → Built (suc n) q (node WhyNotIntro q (t ▹ ∅))
  by_lolli : {n : ℕ} {q : Sequent} {t : Tree} (before : List Formula) (a b : Formula) (after : List Formula) → Passed before → q.linear ≡ before ++ (Lolli a b ∷ after) → Built (suc n) (before ++ (Par (negate a) b ∷ after) ﹔ q.unrestricted) t → Built (suc n) q t
  -- prove_focused and try_axiom
  by_axiom : {n : ℕ} {q : Sequent} (before : List Formula) (a : ℕ) (after : List Formula) → Passed q.linear → q.linear ≡ before ++ (Atom a ∷ after) → before ++ after ≡ NegAtom a ∷ [] → Built (suc n) q (node Axiom q ∅)
  by_axiom⊥ : {n : ℕ} {q : Sequent} (before : List Formula) (a : ℕ) (after : List Formula) → Passed q.linear → q.linear ≡ before ++ (NegAtom a ∷ after) → before ++ after ≡ Atom a ∷ [] → Built (suc n) q (node Axiom q ∅)
  by_one : {n : ℕ} {q : Sequent} (before after : List Formula) → Passed q.linear → q.linear ≡ before ++ (One ∷ after) → before ++ after ≡ [] → Built (suc n) q (node OneIntro q ∅)
  by_tensor : {n : ℕ} {q : Sequent} {t u : Tree} (before : List Formula) (a b : Formula) (after : List Formula) (mask : ℕ) → mask < 2 ^ length (before ++ after) → Passed q.linear → q.linear ≡ before ++ (Tensor a b ∷ after) → Built n (left_of mask (before ++ after) ++ (a ∷ []) ﹔ q.unrestricted) t → Built n (right_of mask (before ++ after) ++ (b ∷ []) ﹔ q.unrestricted) u → Built (suc n) q (node TensorIntro q (t ▹ u ▹ ∅))
  by_plus_left : {n : ℕ} {q : Sequent} {t : Tree} (before : List Formula) (a b : Formula) (after : List Formula) → Passed q.linear → q.linear ≡ before ++ (Plus a b ∷ after) → Built n (before ++ (a ∷ after) ﹔ q.unrestricted) t → Built (suc n) q (node PlusIntroLeft q (t ▹ ∅))
  by_plus_right : {n : ℕ} {q : Sequent} {t : Tree} (before : List Formula) (a b : Formula) (after : List Formula) → Passed q.linear → q.linear ≡ before ++ (Plus a b ∷ after) → Built n (before ++ (b ∷ after) ﹔ q.unrestricted) t → Built (suc n) q (node PlusIntroRight q (t ▹ ∅))
  by_of_course : {n : ℕ} {q : Sequent} {t : Tree} (before : List Formula) (a : Formula) (after : List Formula) → Passed q.linear → q.linear ≡ before ++ (OfCourse a ∷ after) → before ++ after ≡ [] → Built n (a ∷ [] ﹔ q.unrestricted) t → Built (suc n) q (node OfCourseIntro q (t ▹ ∅))
  -- the unrestricted zone
  by_dereliction : {n : ℕ} {q : Sequent} {t : Tree} (before : List Formula) (a : Formula) (after : List Formula) → (q.linear ≡ [] → ⊥) → Passed q.linear → q.unrestricted ≡ before ++ (a ∷ after) → Built n (q.linear ++ (a ∷ []) ﹔ before ++ after) t → Built (suc n) q (node Dereliction q (t ▹ ∅))
  by_contraction : {n : ℕ} {q : Sequent} {t : Tree} (before : List Formula) (a : Formula) (after : List Formula) → (q.linear ≡ [] → ⊥) → Passed q.linear → q.unrestricted ≡ before ++ (a ∷ after) → Built n (q.linear ++ (a ∷ a ∷ []) ﹔ before ++ after) t → Built (suc n) q (node Contraction q (t ▹ ∅))
  by_weakening : {n : ℕ} {q : Sequent} {t : Tree} (before : List Formula) (a : Formula) (after : List Formula) → (q.linear ≡ [] → ⊥) → Passed q.linear → q.unrestricted ≡ before ++ (a ∷ after) → Built n (q.linear ﹔ before ++ after) t → Built (suc n) q (node Weakening q (t ▹ ∅))
