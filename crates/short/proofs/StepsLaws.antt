-- The steps of `Steps` are those of `Built`: a step that may be taken, over premises that are built, builds its node; and every node that is built is such a step. So what is built for a
-- question hangs on its conclusion alone. Assumes nothing.
use Rattle.std.specs.Prelude.{◌≡◌, Bool, true, false, not, ◌&&◌, List, [], ◌∷◌, ◌++◌, map, ℕ, zero, suc, ◌≤◌, ◌<◌, ◌^◌, eqb, ltb, get_or, take, drop}
use Rattle.std.proofs.Math.Path.{refl, ap}
use Rattle.std.proofs.Common.{◌∙◌, arith, length-append}
use Rattle.std.proofs.Math.Bool.{and-eq-true_iff}
use Rattle.std.proofs.Math.ListN.{length, get_or-eq_default}
use Rattle.std.proofs.Math.Seq.{split_at, take-append_seam, get_or-append_seam}
use borrow.Author.Tests.{eqb-true, eqb-false, ltb-true, ltb-false, not-true, lt-ltb, eq-eqb, ne_eqb}
use Rattle.logic.specs.Formula.{Formula, One, Bottom, Top, Zero, Atom, NegAtom, Tensor, Par, With, Plus, Lolli, OfCourse, WhyNot, same, negate, spell}
use Rattle.logic.proofs.FormulaLaws.{same_iff}
use Rattle.logic.specs.Parts.{tag_of, left_part, right_part, is_literal, make, signs, signed}
use Rattle.logic.proofs.PartsLaws.{by_tag}
use Rattle.logic.specs.Sequent.{Sequent, ◌﹔◌}
use Rattle.logic.specs.Split.{left_of, right_of}
use Rattle.logic.specs.Conclusion.{spell_first, concluded}
use Rattle.logic.specs.Concludes.{concludes, depth_bound}
use Rattle.logic.specs.Built.{
  decomposable,
  Passed,
  none_yet,
  and_passed,
  Built,
  by_par,
  by_bottom,
  by_top,
  by_with,
  by_why_not,
  by_lolli,
  by_axiom,
  by_axiom⊥,
  by_one,
  by_tensor,
  by_plus_left,
  by_plus_right,
  by_of_course,
  by_dereliction,
  by_contraction,
  by_weakening,
}
use Rattle.logic.specs.Tree.{
  Rule,
  Axiom,
  Cut,
  OneIntro,
  BottomIntro,
  TensorIntro,
  ParIntro,
  TopIntro,
  WithIntro,
  PlusIntroLeft,
  PlusIntroRight,
  OfCourseIntro,
  WhyNotIntro,
  Weakening,
  Contraction,
  Dereliction,
  FocusPositive,
  FocusNegative,
  Blur,
  Tree,
  Trees,
  node,
  ∅,
  ◌▹◌,
  depth,
  conclusion,
  conclusions,
}
use Rattle.zones.specs.Zones.{remove, replace}
use Rattle.short.specs.Steps.{all_passed, formula_at, is_first, is_sync, is_focus, is_pair, may_take, premises_of}
use Rattle.short.specs.Taken.{BuiltAll, none_left, one_more, Step, Taken}

-- ---- tests and what they tell

pub all_passed_passed : (fs : List Formula) → all_passed fs ≡ true → Passed fs
unfolding all_passed
all_passed_passed [] e = none_yet
all_passed_passed (f ∷ fs) e =
    let b = (and-eq-true_iff (not (decomposable f)) (all_passed fs)).0 e in
    and_passed (not-true (decomposable f) b.0) (all_passed_passed fs b.1)

pub passed_all_passed : {fs : List Formula} → Passed fs → all_passed fs ≡ true
unfolding all_passed
passed_all_passed none_yet = refl
passed_all_passed (and_passed h ps) = rw (h, passed_all_passed ps)

-- a place that has a sign other than One is in the zone, and splits it
pub record Placed (q : Sequent) (i tag : ℕ) : Type 0 where
  pub within : i < length q.linear
  pub sign : tag_of (formula_at q i) ≡ tag
  pub zone_is : q.linear ≡ take i q.linear ++ (formula_at q i ∷ drop (suc i) q.linear)

pub placed : (q : Sequent) (i tag : ℕ) → i < length q.linear → tag_of (formula_at q i) ≡ tag → Placed q i tag
placed q i tag l e = record { within = l; sign = e; zone_is = split_at q.linear i One l }

signed_within : (q : Sequent) (i tag : ℕ) → 0 < tag → tag_of (formula_at q i) ≡ tag → i < length q.linear
unfolding tag_of
signed_within q i tag h e = go (ltb i (length q.linear)) refl
  where
    go : (b : Bool) → ltb i (length q.linear) ≡ b → i < length q.linear
    go true k = ltb-true i (length q.linear) k
    go false k =
        let past : tag_of (formula_at q i) ≡ 0 = ap tag_of (get_or-eq_default q.linear One {n = i} (ltb-false i (length q.linear) k)) in
        absurd (omega arith)

pub is_first_placed : (q : Sequent) (i tag : ℕ) → 0 < tag → is_first q i tag ≡ true → Placed q i tag × Passed (take i q.linear)
unfolding is_first
is_first_placed q i tag h e =
    let b = (and-eq-true_iff (eqb (tag_of (formula_at q i)) tag) (all_passed (take i q.linear))).0 e in
    let s : tag_of (formula_at q i) ≡ tag = eqb-true _ _ b.0 in
    (placed q i tag (signed_within q i tag h s) s, all_passed_passed _ b.1)

pub is_sync_passed : (q : Sequent) → is_sync q ≡ true → (q.linear ≡ [] → ⊥) × Passed q.linear
unfolding is_sync
is_sync_passed q e =
    let b = (and-eq-true_iff (not (eqb (length q.linear) 0)) (all_passed q.linear)).0 e in
    (λ k. eqb-false (length q.linear) 0 (not-true _ b.0) (ap length k), all_passed_passed _ b.1)

pub passed_is_sync : (q : Sequent) → (q.linear ≡ [] → ⊥) → Passed q.linear → is_sync q ≡ true
unfolding is_sync
passed_is_sync q some ps = rw (passed_all_passed ps) (rw (ne_eqb (length q.linear) 0 (λ e. some (empty q.linear e))))
  where
    empty : (fs : List Formula) → length fs ≡ 0 → fs ≡ []
    empty [] e = refl
    empty (f ∷ fs) e = absurd (omega arith)

pub is_focus_tells : (q : Sequent) (i tag : ℕ) → is_focus q i tag ≡ true → (tag_of (formula_at q i) ≡ tag) × (q.linear ≡ [] → ⊥) × Passed q.linear
unfolding is_focus
is_focus_tells q i tag e =
    let b = (and-eq-true_iff (is_sync q) (eqb (tag_of (formula_at q i)) tag)).0 e in
    let s = is_sync_passed q b.0 in
    (eqb-true _ _ b.1, s.0, s.1)

pub is_focus_placed : (q : Sequent) (i tag : ℕ) → 0 < tag → is_focus q i tag ≡ true → Placed q i tag × Passed q.linear
is_focus_placed q i tag h e =
    let s = is_focus_tells q i tag e in
    (placed q i tag (signed_within q i tag h s.0) s.0, s.2)

-- ---- a step that may be taken builds its node

-- the principal formula by its sign
shaped : {q : Sequent} {i tag : ℕ} → Placed q i tag → formula_at q i ≡ signed tag (formula_at q i)
shaped {q} {i} {tag} p = by_tag tag (formula_at q i) p.sign

module _ (q : Sequent) (i : ℕ) where
  abbrev left : Formula
  left = left_part (formula_at q i)

  abbrev right : Formula
  right = right_part (formula_at q i)

  zone : {tag : ℕ} (g : Formula) → Placed q i tag → formula_at q i ≡ g → q.linear ≡ take i q.linear ++ (g ∷ drop (suc i) q.linear)
  zone g p e = p.zone_is ∙ ap (λ (f : Formula). take i q.linear ++ (f ∷ drop (suc i) q.linear)) e

  par_built : {n : ℕ} {ts : Trees} → is_first q i 7 ≡ true
      → BuiltAll n ((remove i q.linear ++ (left ∷ right ∷ []) ﹔ q.unrestricted) ∷ []) ts → Built (suc n) q (node ParIntro q ts)
  unfolding make signs
  par_built e (one_more d none_left) =
      let p = is_first_placed q i 7 (omega arith) e in by_par (take i q.linear) left right (drop (suc i) q.linear) p.1 (zone _ p.0 (shaped p.0)) d

  bottom_built : {n : ℕ} {ts : Trees} → is_first q i 1 ≡ true → BuiltAll n ((remove i q.linear ﹔ q.unrestricted) ∷ []) ts
      → Built (suc n) q (node BottomIntro q ts)
  unfolding make signs
  bottom_built e (one_more d none_left) =
      let p = is_first_placed q i 1 (omega arith) e in by_bottom (take i q.linear) (drop (suc i) q.linear) p.1 (zone _ p.0 (shaped p.0)) d

  top_built : {n : ℕ} {ts : Trees} → is_first q i 2 ≡ true → BuiltAll n [] ts → Built (suc n) q (node TopIntro q ts)
  unfolding make signs
  top_built e none_left =
      let p = is_first_placed q i 2 (omega arith) e in by_top (take i q.linear) (drop (suc i) q.linear) p.1 (zone _ p.0 (shaped p.0))

  with_built : {n : ℕ} {ts : Trees} → is_first q i 8 ≡ true
      → BuiltAll n ((remove i q.linear ++ (left ∷ []) ﹔ q.unrestricted) ∷ (remove i q.linear ++ (right ∷ []) ﹔ q.unrestricted) ∷ []) ts
      → Built (suc n) q (node WithIntro q ts)
  unfolding make signs
  with_built e (one_more d (one_more d' none_left)) =
      let p = is_first_placed q i 8 (omega arith) e in
      by_with (take i q.linear) left right (drop (suc i) q.linear) p.1 (zone _ p.0 (shaped p.0)) d d'

  why_not_built : {n : ℕ} {ts : Trees} → is_first q i 12 ≡ true → BuiltAll n ((remove i q.linear ﹔ q.unrestricted ++ (left ∷ [])) ∷ []) ts
      → Built (suc n) q (node WhyNotIntro q ts)
  unfolding make signs
  why_not_built e (one_more d none_left) =
      let p = is_first_placed q i 12 (omega arith) e in by_why_not (take i q.linear) left (drop (suc i) q.linear) p.1 (zone _ p.0 (shaped p.0)) d

  tensor_built : {n : ℕ} {ts : Trees} (mask : ℕ) → is_focus q i 6 ≡ true → mask < 2 ^ length (remove i q.linear)
      → BuiltAll n
      ((left_of mask (remove i q.linear) ++ (left ∷ []) ﹔ q.unrestricted) ∷ (right_of mask (remove i q.linear) ++ (right ∷ []) ﹔ q.unrestricted) ∷ []) ts
      → Built (suc n) q (node TensorIntro q ts)
  unfolding make signs
  tensor_built mask e l (one_more d (one_more d' none_left)) =
      let p = is_focus_placed q i 6 (omega arith) e in
      by_tensor (take i q.linear) left right (drop (suc i) q.linear) mask l p.1 (zone _ p.0 (shaped p.0)) d d'

  plus_left_built : {n : ℕ} {ts : Trees} → is_focus q i 9 ≡ true → BuiltAll n ((replace i left q.linear ﹔ q.unrestricted) ∷ []) ts
      → Built (suc n) q (node PlusIntroLeft q ts)
  unfolding make signs
  plus_left_built e (one_more d none_left) =
      let p = is_focus_placed q i 9 (omega arith) e in
      by_plus_left (take i q.linear) left right (drop (suc i) q.linear) p.1 (zone _ p.0 (shaped p.0)) d

  plus_right_built : {n : ℕ} {ts : Trees} → is_focus q i 9 ≡ true → BuiltAll n ((replace i right q.linear ﹔ q.unrestricted) ∷ []) ts
      → Built (suc n) q (node PlusIntroRight q ts)
  unfolding make signs
  plus_right_built e (one_more d none_left) =
      let p = is_focus_placed q i 9 (omega arith) e in
      by_plus_right (take i q.linear) left right (drop (suc i) q.linear) p.1 (zone _ p.0 (shaped p.0)) d

  -- a zone of one formula: nothing is left without it
  alone : length q.linear ≡ 1 → i < length q.linear → take i q.linear ++ drop (suc i) q.linear ≡ []
  alone e l = go q.linear i e l
    where
      go : (fs : List Formula) (i : ℕ) → length fs ≡ 1 → i < length fs → take i fs ++ drop (suc i) fs ≡ []
      go [] i e l = absurd (omega arith)
      go (f ∷ []) zero e l = refl
      go (f ∷ []) (suc i) e l = absurd (omega arith)
      go (f ∷ g ∷ fs) i e l = absurd (omega arith)

  of_course_built : {n : ℕ} {ts : Trees} → is_focus q i 11 ≡ true → length q.linear ≡ 1 → BuiltAll n ((left ∷ [] ﹔ q.unrestricted) ∷ []) ts
      → Built (suc n) q (node OfCourseIntro q ts)
  unfolding make signs
  of_course_built e l (one_more d none_left) =
      let p = is_focus_placed q i 11 (omega arith) e in
      by_of_course (take i q.linear) left (drop (suc i) q.linear) p.1 (zone _ p.0 (shaped p.0)) (alone l p.0.within) d

  one_built : {n : ℕ} {ts : Trees} → is_focus q i 0 ≡ true → i ≡ 0 → length q.linear ≡ 1 → BuiltAll n [] ts → Built (suc n) q (node OneIntro q ts)
  unfolding make signs
  one_built e z l none_left =
      let s = is_focus_tells q i 0 e in
      let p = placed q i 0 (omega arith) s.0 in
      by_one (take i q.linear) (drop (suc i) q.linear) s.2 (zone _ p (shaped p)) (alone l p.within)

  -- the unrestricted zone
  abbrev copied : Formula
  copied = get_or q.unrestricted i One

  dereliction_built : {n : ℕ} {ts : Trees} → is_sync q ≡ true → i < length q.unrestricted
      → BuiltAll n ((q.linear ++ (copied ∷ []) ﹔ remove i q.unrestricted) ∷ []) ts → Built (suc n) q (node Dereliction q ts)
  dereliction_built e l (one_more d none_left) =
      let s = is_sync_passed q e in
      by_dereliction (take i q.unrestricted) copied (drop (suc i) q.unrestricted) s.0 s.1 (split_at q.unrestricted i One l) d

  contraction_built : {n : ℕ} {ts : Trees} → is_sync q ≡ true → i < length q.unrestricted
      → BuiltAll n ((q.linear ++ (copied ∷ copied ∷ []) ﹔ remove i q.unrestricted) ∷ []) ts → Built (suc n) q (node Contraction q ts)
  contraction_built e l (one_more d none_left) =
      let s = is_sync_passed q e in
      by_contraction (take i q.unrestricted) copied (drop (suc i) q.unrestricted) s.0 s.1 (split_at q.unrestricted i One l) d

  weakening_built : {n : ℕ} {ts : Trees} → is_sync q ≡ true → i < length q.unrestricted
      → BuiltAll n ((q.linear ﹔ remove i q.unrestricted) ∷ []) ts → Built (suc n) q (node Weakening q ts)
  weakening_built e l (one_more d none_left) =
      let s = is_sync_passed q e in
      by_weakening (take i q.unrestricted) copied (drop (suc i) q.unrestricted) s.0 s.1 (split_at q.unrestricted i One l) d

-- an axiom: a name and its negation, in either order
pair_built : {n : ℕ} (q : Sequent) (fs : List Formula) → q.linear ≡ fs → is_pair fs ≡ true → Passed q.linear → Built (suc n) q (node Axiom q ∅)
unfolding is_pair is_literal negate
pair_built q [] e h ps = let z : ◌≡◌ {A = ℕ} 0 1 = cc in absurd (omega arith)
pair_built q (f ∷ []) e h ps = let z : ◌≡◌ {A = ℕ} 0 1 = cc in absurd (omega arith)
pair_built q (f ∷ g ∷ h ∷ fs) e k ps = let z : ◌≡◌ {A = ℕ} 0 1 = cc in absurd (omega arith)
pair_built {n} q (f ∷ g ∷ []) e h ps =
    let b = (and-eq-true_iff (is_literal f) (same g (negate f))).0 h in
    go f e b.0 ((same_iff g (negate f)).0 b.1)
  where
    no : false ≡ true → Built (suc n) q (node Axiom q ∅)
    no k = let z : ◌≡◌ {A = ℕ} 0 1 = cc in absurd (omega arith)

    go : (f : Formula) → q.linear ≡ f ∷ g ∷ [] → is_literal f ≡ true → g ≡ negate f → Built (suc n) q (node Axiom q ∅)
    go (Atom a) e k l = by_axiom [] a (g ∷ []) ps e (ap (λ (x : Formula). x ∷ []) l)
    go (NegAtom a) e k l = by_axiom⊥ [] a (g ∷ []) ps e (ap (λ (x : Formula). x ∷ []) l)
    go One e k l = no k
    go Bottom e k l = no k
    go Top e k l = no k
    go Zero e k l = no k
    go (Tensor a b) e k l = no k
    go (Par a b) e k l = no k
    go (With a b) e k l = no k
    go (Plus a b) e k l = no k
    go (Lolli a b) e k l = no k
    go (OfCourse a) e k l = no k
    go (WhyNot a) e k l = no k

-- soundness: for a conclusion
pub step_built : {n : ℕ} (r : Rule) (i mask : ℕ) (q : Sequent) {ts : Trees} → may_take r i mask q ≡ true → BuiltAll n (premises_of r i mask q) ts
    → Built (suc n) q (node r q ts)
unfolding may_take premises_of
step_built Axiom i mask q e none_left =
    let b = (and-eq-true_iff (is_sync q && eqb i 0) (is_pair q.linear)).0 e in
    pair_built q q.linear refl b.1 (is_sync_passed q ((and-eq-true_iff (is_sync q) (eqb i 0)).0 b.0).0).1
step_built OneIntro i mask q e d =
    let b = (and-eq-true_iff (is_focus q i 0 && eqb i 0) (eqb (length q.linear) 1)).0 e in
    let c = (and-eq-true_iff (is_focus q i 0) (eqb i 0)).0 b.0 in
    one_built q i c.0 (eqb-true _ _ c.1) (eqb-true _ _ b.1) d
step_built BottomIntro i mask q e d = bottom_built q i e d
step_built TensorIntro i mask q e d =
    let b = (and-eq-true_iff (is_focus q i 6) (ltb mask (2 ^ length (remove i q.linear)))).0 e in tensor_built q i mask b.0 (ltb-true _ _ b.1) d
step_built ParIntro i mask q e d = par_built q i e d
step_built TopIntro i mask q e d = top_built q i e d
step_built WithIntro i mask q e d = with_built q i e d
step_built PlusIntroLeft i mask q e d = plus_left_built q i e d
step_built PlusIntroRight i mask q e d = plus_right_built q i e d
step_built OfCourseIntro i mask q e d =
    let b = (and-eq-true_iff (is_focus q i 11) (eqb (length q.linear) 1)).0 e in of_course_built q i b.0 (eqb-true _ _ b.1) d
step_built WhyNotIntro i mask q e d = why_not_built q i e d
step_built Weakening i mask q e d =
    let b = (and-eq-true_iff (is_sync q) (ltb i (length q.unrestricted))).0 e in weakening_built q i b.0 (ltb-true _ _ b.1) d
step_built Contraction i mask q e d =
    let b = (and-eq-true_iff (is_sync q) (ltb i (length q.unrestricted))).0 e in contraction_built q i b.0 (ltb-true _ _ b.1) d
step_built Dereliction i mask q e d =
    let b = (and-eq-true_iff (is_sync q) (ltb i (length q.unrestricted))).0 e in dereliction_built q i b.0 (ltb-true _ _ b.1) d
step_built (Cut c) i mask q e d = let z : ◌≡◌ {A = ℕ} 0 1 = cc in absurd (omega arith)
step_built (FocusPositive k) i mask q e d = let z : ◌≡◌ {A = ℕ} 0 1 = cc in absurd (omega arith)
step_built (FocusNegative k) i mask q e d = let z : ◌≡◌ {A = ℕ} 0 1 = cc in absurd (omega arith)
step_built Blur i mask q e d = let z : ◌≡◌ {A = ℕ} 0 1 = cc in absurd (omega arith)

-- a question's first decomposable formula is an implication, or the question is its own conclusion
pub data Spelled : List Formula → Type 0 where
  as_it_is : {fs : List Formula} → spell_first fs ≡ fs → Spelled fs
  at_lolli : {fs : List Formula} (before : List Formula) (a b : Formula) (after : List Formula) → Passed before → fs ≡ before ++ (Lolli a b ∷ after)
      → spell_first fs ≡ before ++ (Par (negate a) b ∷ after) → Spelled fs

spelled_cons : (f : Formula) (fs : List Formula) → decomposable f ≡ false → Spelled fs → Spelled (f ∷ fs)
unfolding spell_first
spelled_cons f fs h (as_it_is e) = as_it_is {fs = f ∷ fs} (rw (h, e))
spelled_cons f fs h (at_lolli before a b after ps e e') =
    at_lolli {fs = f ∷ fs} (f ∷ before) a b after (and_passed h ps) (ap (λ (l : List Formula). f ∷ l) e) (rw (h, e'))

pub spelled : (fs : List Formula) → Spelled fs
unfolding spell_first decomposable spell
spelled [] = as_it_is refl
spelled (Par a b ∷ fs) = as_it_is refl
spelled (Bottom ∷ fs) = as_it_is refl
spelled (Top ∷ fs) = as_it_is refl
spelled (With a b ∷ fs) = as_it_is refl
spelled (WhyNot a ∷ fs) = as_it_is refl
spelled (Lolli a b ∷ fs) = at_lolli [] a b fs none_yet refl refl
spelled (Atom a ∷ fs) = spelled_cons (Atom a) fs refl (spelled fs)
spelled (NegAtom a ∷ fs) = spelled_cons (NegAtom a) fs refl (spelled fs)
spelled (Tensor a b ∷ fs) = spelled_cons (Tensor a b) fs refl (spelled fs)
spelled (One ∷ fs) = spelled_cons One fs refl (spelled fs)
spelled (Plus a b ∷ fs) = spelled_cons (Plus a b) fs refl (spelled fs)
spelled (Zero ∷ fs) = spelled_cons Zero fs refl (spelled fs)
spelled (OfCourse a ∷ fs) = spelled_cons (OfCourse a) fs refl (spelled fs)

-- what is built for a conclusion is built for its question
pub concluded_built : {n : ℕ} (q : Sequent) {t : Tree} → Built (suc n) (concluded q) t → Built (suc n) q t
concluded_built {n} q {t} d = go (spelled q.linear)
  where
    go : Spelled q.linear → Built (suc n) q t
    go (as_it_is e) = rw e at d
    go (at_lolli before a b after ps e e') = by_lolli before a b after ps e (rw e' at d)

-- soundness: for a question
pub step_builds : {n : ℕ} (r : Rule) (i mask : ℕ) (q : Sequent) {ts : Trees} → may_take r i mask (concluded q) ≡ true
    → BuiltAll n (premises_of r i mask (concluded q)) ts
    → Built (suc n) q (node r (concluded q) ts)
step_builds r i mask q e d = concluded_built q (step_built r i mask (concluded q) e d)

-- ---- and every node that is built is a step that may be taken

-- the principal formula's place is the length of what stands before it
record Seam (xs before : List Formula) (f : Formula) (after : List Formula) : Type 0 where
  zone_is : xs ≡ before ++ (f ∷ after)
  taken : take (length before) xs ≡ before
  dropped : drop (suc (length before)) xs ≡ after
  at : get_or xs (length before) One ≡ f
  within : length before < length xs
  sized : length xs ≡ suc (length (before ++ after))

drop_past : (before : List Formula) (f : Formula) (after : List Formula) → drop (suc (length before)) (before ++ (f ∷ after)) ≡ after
drop_past [] f after = refl
drop_past (g ∷ before) f after = drop_past before f after

seam : (xs before : List Formula) (f : Formula) (after : List Formula) → xs ≡ before ++ (f ∷ after) → Seam xs before f after
seam xs before f after e = record {
  zone_is = e;
  taken = rw e (take-append_seam before (f ∷ after));
  dropped = rw e (drop_past before f after);
  at = rw e (get_or-append_seam before f after One);
  within = omega (arith, length-append before (f ∷ after), l);
  sized = omega (arith, length-append before after, length-append before (f ∷ after), l);
}
  where
    l : length xs ≡ length (before ++ (f ∷ after))
    l = ap length e

module _ {xs before : List Formula} {f : Formula} {after : List Formula} (s : Seam xs before f after) where
  not_empty : xs ≡ [] → ⊥
  not_empty k = let h : length xs ≡ 0 = ap length k in omega (arith, s.within)

  -- nothing beside it
  alone_first : before ++ after ≡ [] → length before ≡ 0
  alone_first k = let h : length (before ++ after) ≡ 0 = ap length k in omega (arith, length-append before after)

  alone_sized : before ++ after ≡ [] → length xs ≡ 1
  alone_sized k = let h : length (before ++ after) ≡ 0 = ap length k in omega (arith, s.sized)

module _ (q : Sequent) {before : List Formula} {f : Formula} {after : List Formula} (s : Seam q.linear before f after) where
  first_at : (tag : ℕ) → Passed before → tag_of f ≡ tag → is_first q (length before) tag ≡ true
  unfolding is_first
  first_at tag ps h = (and-eq-true_iff _ _).1 (eq-eqb _ _ (ap tag_of s.at ∙ h), ap all_passed s.taken ∙ passed_all_passed ps)

  focus_at : (tag : ℕ) → Passed q.linear → tag_of f ≡ tag → is_focus q (length before) tag ≡ true
  unfolding is_focus
  focus_at tag ps h = (and-eq-true_iff _ _).1 (passed_is_sync q (not_empty s) ps, eq-eqb _ _ (ap tag_of s.at ∙ h))

-- an axiom's zone
pair_at : (fs before after : List Formula) (f g : Formula) → fs ≡ before ++ (f ∷ after) → before ++ after ≡ g ∷ [] → is_literal f ≡ true → is_literal g ≡ true
    → g ≡ negate f
    → f ≡ negate g → is_pair fs ≡ true
unfolding is_pair
pair_at fs [] after f g e k l l' n n' = rw (e, k) ((and-eq-true_iff _ _).1 (l, (same_iff g (negate f)).1 n))
pair_at fs (h ∷ []) after f g e k l l' n n' =
    let p : after ≡ [] = cc in
    let p' : h ≡ g = cc in
    rw (e, p, p') ((and-eq-true_iff _ _).1 (l', (same_iff f (negate g)).1 n'))
pair_at fs (h ∷ h' ∷ before) after f g e k l l' n n' = let z : length (h ∷ h' ∷ before ++ after) ≡ 1 = ap length k in absurd (omega arith)

-- by each rule, for a conclusion
module _ {n : ℕ} {q : Sequent} (c : q ≡ concluded q) where
  -- what `prove_async` takes
  par_step : {t : Tree} (before : List Formula) (a b : Formula) (after : List Formula) → Seam q.linear before (Par a b) after → Passed before
      → Built n (before ++ after ++ (a ∷ b ∷ []) ﹔ q.unrestricted) t → Step n ParIntro q q (t ▹ ∅)
  unfolding may_take premises_of tag_of left_part right_part
  par_step before a b after s ps d = record {
    place = length before;
    mask = 0;
    concludes = c;
    takes = first_at q s 7 ps refl;
    premises = rw (s.taken, s.dropped, s.at) (one_more d none_left);
  }

  bottom_step : {t : Tree} (before after : List Formula) → Seam q.linear before Bottom after → Passed before
      → Built n (before ++ after ﹔ q.unrestricted) t → Step n BottomIntro q q (t ▹ ∅)
  unfolding may_take premises_of tag_of
  bottom_step before after s ps d = record {
    place = length before;
    mask = 0;
    concludes = c;
    takes = first_at q s 1 ps refl;
    premises = rw (s.taken, s.dropped) (one_more d none_left);
  }

  top_step : (before after : List Formula) → Seam q.linear before Top after → Passed before → Step n TopIntro q q ∅
  unfolding may_take premises_of tag_of
  top_step before after s ps = record { place = length before; mask = 0; concludes = c; takes = first_at q s 2 ps refl; premises = none_left }

  with_step : {t u : Tree} (before : List Formula) (a b : Formula) (after : List Formula) → Seam q.linear before (With a b) after → Passed before
      → Built n (before ++ after ++ (a ∷ []) ﹔ q.unrestricted) t → Built n (before ++ after ++ (b ∷ []) ﹔ q.unrestricted) u → Step n WithIntro q q (t ▹ u ▹ ∅)
  unfolding may_take premises_of tag_of left_part right_part
  with_step before a b after s ps d d' = record {
    place = length before;
    mask = 0;
    concludes = c;
    takes = first_at q s 8 ps refl;
    premises = rw (s.taken, s.dropped, s.at) (one_more d (one_more d' none_left));
  }

  why_not_step : {t : Tree} (before : List Formula) (a : Formula) (after : List Formula) → Seam q.linear before (WhyNot a) after → Passed before
      → Built n (before ++ after ﹔ q.unrestricted ++ (a ∷ [])) t → Step n WhyNotIntro q q (t ▹ ∅)
  unfolding may_take premises_of tag_of left_part
  why_not_step before a after s ps d = record {
    place = length before;
    mask = 0;
    concludes = c;
    takes = first_at q s 12 ps refl;
    premises = rw (s.taken, s.dropped, s.at) (one_more d none_left);
  }

  -- what is left to `prove_sync`
  axiom_step : (before after : List Formula) (f g : Formula) → Seam q.linear before f after → Passed q.linear → before ++ after ≡ g ∷ []
      → is_literal f ≡ true
      → is_literal g ≡ true → g ≡ negate f → f ≡ negate g → Step n Axiom q q ∅
  unfolding may_take premises_of
  axiom_step before after f g s ps k l l' m m' = record {
    place = 0;
    mask = 0;
    concludes = c;
    takes = (and-eq-true_iff _ _).1 ((and-eq-true_iff _ _).1 (passed_is_sync q (not_empty s) ps, refl), pair_at q.linear before after f g s.zone_is k l l' m m');
    premises = none_left;
  }

  one_step : (before after : List Formula) → Seam q.linear before One after → Passed q.linear → before ++ after ≡ [] → Step n OneIntro q q ∅
  unfolding may_take premises_of tag_of
  one_step before after s ps k = record {
    place = length before;
    mask = 0;
    concludes = c;
    takes = (and-eq-true_iff _ _).1 ((and-eq-true_iff _ _).1 (focus_at q s 0 ps refl, eq-eqb _ _ (alone_first s k)), eq-eqb _ _ (alone_sized s k));
    premises = none_left;
  }

  tensor_step : {t u : Tree} (before : List Formula) (a b : Formula) (after : List Formula) (mask : ℕ) → Seam q.linear before (Tensor a b) after
      → mask < 2 ^ length (before ++ after) → Passed q.linear → Built n (left_of mask (before ++ after) ++ (a ∷ []) ﹔ q.unrestricted) t
      → Built n (right_of mask (before ++ after) ++ (b ∷ []) ﹔ q.unrestricted) u → Step n TensorIntro q q (t ▹ u ▹ ∅)
  unfolding may_take premises_of tag_of left_part right_part
  tensor_step before a b after mask s l ps d d' = record {
    place = length before;
    mask = mask;
    concludes = c;
    takes = (and-eq-true_iff _ _).1 (focus_at q s 6 ps refl, rw (s.taken, s.dropped) (lt-ltb _ _ l));
    premises = rw (s.taken, s.dropped, s.at) (one_more d (one_more d' none_left));
  }

  plus_left_step : {t : Tree} (before : List Formula) (a b : Formula) (after : List Formula) → Seam q.linear before (Plus a b) after → Passed q.linear
      → Built n (before ++ (a ∷ after) ﹔ q.unrestricted) t → Step n PlusIntroLeft q q (t ▹ ∅)
  unfolding may_take premises_of tag_of left_part
  plus_left_step before a b after s ps d = record {
    place = length before;
    mask = 0;
    concludes = c;
    takes = focus_at q s 9 ps refl;
    premises = rw (s.taken, s.dropped, s.at) (one_more d none_left);
  }

  plus_right_step : {t : Tree} (before : List Formula) (a b : Formula) (after : List Formula) → Seam q.linear before (Plus a b) after → Passed q.linear
      → Built n (before ++ (b ∷ after) ﹔ q.unrestricted) t → Step n PlusIntroRight q q (t ▹ ∅)
  unfolding may_take premises_of tag_of right_part
  plus_right_step before a b after s ps d = record {
    place = length before;
    mask = 0;
    concludes = c;
    takes = focus_at q s 9 ps refl;
    premises = rw (s.taken, s.dropped, s.at) (one_more d none_left);
  }

  of_course_step : {t : Tree} (before : List Formula) (a : Formula) (after : List Formula) → Seam q.linear before (OfCourse a) after → Passed q.linear
      → before ++ after ≡ [] → Built n (a ∷ [] ﹔ q.unrestricted) t → Step n OfCourseIntro q q (t ▹ ∅)
  unfolding may_take premises_of tag_of left_part
  of_course_step before a after s ps k d = record {
    place = length before;
    mask = 0;
    concludes = c;
    takes = (and-eq-true_iff _ _).1 (focus_at q s 11 ps refl, eq-eqb _ _ (alone_sized s k));
    premises = rw s.at (one_more d none_left);
  }

  -- and the unrestricted zone
  dereliction_step : {t : Tree} (before : List Formula) (a : Formula) (after : List Formula) → Seam q.unrestricted before a after → (q.linear ≡ [] → ⊥)
      → Passed q.linear → Built n (q.linear ++ (a ∷ []) ﹔ before ++ after) t → Step n Dereliction q q (t ▹ ∅)
  unfolding may_take premises_of
  dereliction_step before a after s some ps d = record {
    place = length before;
    mask = 0;
    concludes = c;
    takes = (and-eq-true_iff _ _).1 (passed_is_sync q some ps, lt-ltb _ _ s.within);
    premises = rw (s.taken, s.dropped, s.at) (one_more d none_left);
  }

  contraction_step : {t : Tree} (before : List Formula) (a : Formula) (after : List Formula) → Seam q.unrestricted before a after → (q.linear ≡ [] → ⊥)
      → Passed q.linear → Built n (q.linear ++ (a ∷ a ∷ []) ﹔ before ++ after) t → Step n Contraction q q (t ▹ ∅)
  unfolding may_take premises_of
  contraction_step before a after s some ps d = record {
    place = length before;
    mask = 0;
    concludes = c;
    takes = (and-eq-true_iff _ _).1 (passed_is_sync q some ps, lt-ltb _ _ s.within);
    premises = rw (s.taken, s.dropped, s.at) (one_more d none_left);
  }

  weakening_step : {t : Tree} (before : List Formula) (a : Formula) (after : List Formula) → Seam q.unrestricted before a after → (q.linear ≡ [] → ⊥)
      → Passed q.linear → Built n (q.linear ﹔ before ++ after) t → Step n Weakening q q (t ▹ ∅)
  unfolding may_take premises_of
  weakening_step before a after s some ps d = record {
    place = length before;
    mask = 0;
    concludes = c;
    takes = (and-eq-true_iff _ _).1 (passed_is_sync q some ps, lt-ltb _ _ s.within);
    premises = rw (s.taken, s.dropped) (one_more d none_left);
  }

-- a step hangs on the conclusion alone
pub taken_for : (n : ℕ) (q q' : Sequent) (t : Tree) → conclusion t ≡ concluded q' → Taken n q t → Taken n q' t
taken_for n q q' (node r c ts) e s = record { place = s.place; mask = s.mask; concludes = e; takes = s.takes; premises = s.premises }

-- completeness
pub built_taken : {n : ℕ} {q : Sequent} {t : Tree} → Built (suc n) q t → Taken n q t
unfolding is_literal negate
built_taken (by_par before a b after ps e d) = par_step (concludes (by_par before a b after ps e d)) before a b after (seam _ _ _ _ e) ps d
built_taken (by_bottom before after ps e d) = bottom_step (concludes (by_bottom before after ps e d)) before after (seam _ _ _ _ e) ps d
built_taken {n} (by_top before after ps e) = top_step (concludes (by_top {n = n} before after ps e)) before after (seam _ _ _ _ e) ps
built_taken (by_with before a b after ps e d d') = with_step (concludes (by_with before a b after ps e d d')) before a b after (seam _ _ _ _ e) ps d d'
built_taken (by_why_not before a after ps e d) = why_not_step (concludes (by_why_not before a after ps e d)) before a after (seam _ _ _ _ e) ps d
built_taken {n} {q} {t} (by_lolli before a b after ps e d) = taken_for n _ q t (concludes (by_lolli before a b after ps e d)) (built_taken d)
built_taken {n} (by_axiom before a after ps e k) =
    axiom_step (concludes (by_axiom {n = n} before a after ps e k)) before after (Atom a) (NegAtom a) (seam _ _ _ _ e) ps k refl refl refl refl
built_taken {n} (by_axiom⊥ before a after ps e k) =
    axiom_step (concludes (by_axiom⊥ {n = n} before a after ps e k)) before after (NegAtom a) (Atom a) (seam _ _ _ _ e) ps k refl refl refl refl
built_taken {n} (by_one before after ps e k) = one_step (concludes (by_one {n = n} before after ps e k)) before after (seam _ _ _ _ e) ps k
built_taken (by_tensor before a b after mask l ps e d d') =
    tensor_step (concludes (by_tensor before a b after mask l ps e d d')) before a b after mask (seam _ _ _ _ e) l ps d d'
built_taken (by_plus_left before a b after ps e d) = plus_left_step (concludes (by_plus_left before a b after ps e d)) before a b after (seam _ _ _ _ e) ps d
built_taken (by_plus_right before a b after ps e d) = plus_right_step (concludes (by_plus_right before a b after ps e d)) before a b after (seam _ _ _ _ e) ps d
built_taken (by_of_course before a after ps e k d) = of_course_step (concludes (by_of_course before a after ps e k d)) before a after (seam _ _ _ _ e) ps k d
built_taken (by_dereliction before a after some ps e d) =
    dereliction_step (concludes (by_dereliction before a after some ps e d)) before a after (seam _ _ _ _ e) some ps d
built_taken (by_contraction before a after some ps e d) =
    contraction_step (concludes (by_contraction before a after some ps e d)) before a after (seam _ _ _ _ e) some ps d
built_taken (by_weakening before a after some ps e d) =
    weakening_step (concludes (by_weakening before a after some ps e d)) before a after (seam _ _ _ _ e) some ps d

-- soundness again
pub taken_built : {n : ℕ} (q : Sequent) (t : Tree) → Taken n q t → Built (suc n) q t
taken_built {n} q (node r c ts) s =
    rw s.concludes (step_builds r s.place s.mask q (rw s.concludes at s.takes) (rw s.concludes at s.premises))

-- nothing is built within no levels
pub depth_positive : (t : Tree) → 1 ≤ depth t
unfolding depth
depth_positive (node r c ts) = omega arith

-- what is built for a question is built for every question with that conclusion
pub built_for : (n : ℕ) (q q' : Sequent) {t : Tree} → concluded q ≡ concluded q' → Built n q t → Built n q' t
built_for zero q q' {t} e d = absurd (omega (arith, depth_bound d, depth_positive t))
built_for (suc n) q q' {t} e d = taken_built q' t (taken_for n q q' t (concludes d ∙ e) (built_taken d))

pub built_all_for : {n : ℕ} (qs qs' : List Sequent) {ts : Trees} → map concluded qs ≡ map concluded qs' → BuiltAll n qs ts → BuiltAll n qs' ts
built_all_for [] [] e none_left = none_left
built_all_for [] (q' ∷ qs') e d = let z : ◌≡◌ {A = ℕ} 0 1 = cc in absurd (omega arith)
built_all_for (q ∷ qs) [] e d = let z : ◌≡◌ {A = ℕ} 0 1 = cc in absurd (omega arith)
built_all_for (q ∷ qs) (q' ∷ qs') e (one_more d ds) =
    let h : concluded q ≡ concluded q' = cc in
    let k : map concluded qs ≡ map concluded qs' = cc in
    one_more (built_for _ q q' h d) (built_all_for qs qs' k ds)

-- the trees conclude what the sequents do
pub built_concluded : {n : ℕ} {qs : List Sequent} {ts : Trees} → BuiltAll n qs ts → conclusions ts ≡ map concluded qs
unfolding conclusions
built_concluded none_left = refl
built_concluded (one_more d ds) = rw (concludes d, built_concluded ds)

-- ---- more levels

pub built_more : (m : ℕ) {n : ℕ} {q : Sequent} {t : Tree} → n ≤ m → Built n q t → Built m q t
built_more zero {t} h d = absurd (omega (arith, depth_bound d, depth_positive t))
built_more (suc m) h (by_par before a b after ps e d) = by_par before a b after ps e (built_more m (omega arith) d)
built_more (suc m) h (by_bottom before after ps e d) = by_bottom before after ps e (built_more m (omega arith) d)
built_more (suc m) h (by_top before after ps e) = by_top before after ps e
built_more (suc m) h (by_with before a b after ps e d d') = by_with before a b after ps e (built_more m (omega arith) d) (built_more m (omega arith) d')
built_more (suc m) h (by_why_not before a after ps e d) = by_why_not before a after ps e (built_more m (omega arith) d)
built_more (suc m) h (by_lolli before a b after ps e d) = by_lolli before a b after ps e (built_more (suc m) (omega arith) d)
built_more (suc m) h (by_axiom before a after ps e k) = by_axiom before a after ps e k
built_more (suc m) h (by_axiom⊥ before a after ps e k) = by_axiom⊥ before a after ps e k
built_more (suc m) h (by_one before after ps e k) = by_one before after ps e k
built_more (suc m) h (by_tensor before a b after mask l ps e d d') =
    by_tensor before a b after mask l ps e (built_more m (omega arith) d) (built_more m (omega arith) d')
built_more (suc m) h (by_plus_left before a b after ps e d) = by_plus_left before a b after ps e (built_more m (omega arith) d)
built_more (suc m) h (by_plus_right before a b after ps e d) = by_plus_right before a b after ps e (built_more m (omega arith) d)
built_more (suc m) h (by_of_course before a after ps e k d) = by_of_course before a after ps e k (built_more m (omega arith) d)
built_more (suc m) h (by_dereliction before a after some ps e d) = by_dereliction before a after some ps e (built_more m (omega arith) d)
built_more (suc m) h (by_contraction before a after some ps e d) = by_contraction before a after some ps e (built_more m (omega arith) d)
built_more (suc m) h (by_weakening before a after some ps e d) = by_weakening before a after some ps e (built_more m (omega arith) d)

pub built_all_more : (m : ℕ) {n : ℕ} {qs : List Sequent} {ts : Trees} → n ≤ m → BuiltAll n qs ts → BuiltAll m qs ts
built_all_more m h none_left = none_left
built_all_more m h (one_more d ds) = one_more (built_more m h d) (built_all_more m h ds)
