-- Laws of short trees: a word taken apart, the implication that is spelled out, the step at a place by each rule, and how `expand` goes on from node to node. Assumes nothing.
use Rattle.std.specs.Prelude.{◌≡◌, refl, Bool, true, false, cond, ℕ, zero, suc, ◌+◌, ◌-◌, ◌≤◌, ◌<◌, get_or, length}
use Rattle.std.proofs.Common.{sym, ap, ◌∙◌, add-zero, suc-add, arith, lt-ltb}
use mathlib.Core.List.{List, [], ◌∷◌, ◌++◌, append-nil}
use Rattle.std.proofs.Math.Option.{Option, none, some}
use Rattle.logic.specs.Formula.{Formula, One, Bottom, Tensor, Par, With, Plus, Lolli, OfCourse, WhyNot, negate, spell}
use Rattle.logic.specs.Parts.{tag_of, left_part, right_part}
use Rattle.logic.specs.Sequent.{Sequent, ◌﹔◌}
use Rattle.logic.specs.Split.{left_of, right_of}
use Rattle.logic.specs.Built.{decomposable, Passed}
use Rattle.logic.specs.Conclusion.{spell_first}
use Rattle.logic.specs.Concludes.{spell_passed, spell_at}
use Rattle.logic.specs.Tree.{
  Rule,
  Axiom,
  OneIntro,
  BottomIntro,
  TensorIntro,
  ParIntro,
  TopIntro,
  WithIntro,
  PlusIntroLeft,
  PlusIntroRight,
  OfCourseIntro,
  WhyNotIntro,
  Weakening,
  Contraction,
  Dereliction,
  Tree,
  Trees,
  node,
  ∅,
  ◌▹◌,
}
use Rattle.zones.specs.Zones.{remove, replace}
use Rattle.expand.specs.Short.{word, rule_of, place_of, mask_of, spelled, Step, ◌by◌, steps, step, ◌and_then◌, expand_all, grown, expand, Expands, Takes}

-- a word taken apart
module _ (rule place mask : ℕ) (r : rule < 32) (p : place < 32) where
  pub rule_of_word : rule_of (word rule place mask) ≡ rule
  rule_of_word = omega arith

  pub place_of_word : place_of (word rule place mask) ≡ place
  place_of_word = omega arith

  pub mask_of_word : mask_of (word rule place mask) ≡ mask
  mask_of_word = omega arith

-- the implication that is spelled out
pub spell_lolli : {before : List Formula} (a b : Formula) (after : List Formula) → Passed before
    → spell_first (before ++ (Lolli a b ∷ after)) ≡ spell_first (before ++ (Par (negate a) b ∷ after))
unfolding spell decomposable
spell_lolli a b after p = spell_at (Lolli a b) after p refl ∙ sym (spell_at (Par (negate a) b) after p refl)

pub spell_length : (fs : List Formula) → length (spell_first fs) ≡ length fs
unfolding spell_first
spell_length [] = refl
spell_length (f ∷ fs) = go (decomposable f) (spell_first fs) (spell_length fs)
  where
    go : (d : Bool) (gs : List Formula) → length gs ≡ length fs → length (cond d (spell f ∷ fs) (f ∷ gs)) ≡ suc (length fs)
    go true gs e = refl
    go false gs e = ap suc e

-- words stand for the same tree over a question before and after its first decomposable formula, an implication, is spelled out
pub expands_spelled : {levels : ℕ} {q : Sequent} {ws rest : List ℕ} {t : Tree} (q' : Sequent) → spelled q' ≡ spelled q → Expands levels q ws t rest
    → Expands levels q' ws t rest
unfolding expand
expands_spelled {levels} {q} {ws} q' e x = record { expands = go levels ws ∙ x.expands }
  where
    go : (n : ℕ) (ws : List ℕ) → expand n q' ws ≡ expand n q ws
    go zero ws = refl
    go (suc n) [] = refl
    go (suc n) (w ∷ ws) = ap (λ (p : Sequent). grown (expand n) p (step p w) ws) e

pub expands_lolli : {levels : ℕ} {ws rest : List ℕ} {t : Tree} {before : List Formula} (a b : Formula) (after : List Formula) {Θ : List Formula} → Passed before
    → Expands levels (before ++ (Par (negate a) b ∷ after) ﹔ Θ) ws t rest → Expands levels (before ++ (Lolli a b ∷ after) ﹔ Θ) ws t rest
expands_lolli {before} a b after {Θ} p = expands_spelled (before ++ (Lolli a b ∷ after) ﹔ Θ) (ap (λ (Γ : List Formula). Γ ﹔ Θ) (spell_lolli a b after p))

-- the steps at place i: of a linear formula by its sign
module _ (q : Sequent) {i : ℕ} (mask : ℕ) (low : i < 32) where
  -- what the word says
  step_word : (rule : ℕ) → rule < 32 → step q (word rule i mask) ≡ get_or (steps q i mask) rule none
  unfolding step
  step_word rule l = rw (rule_of_word rule i mask l low, place_of_word rule i mask l low, mask_of_word rule i mask l low)

  pub step_axiom : step q (word 0 i mask) ≡ some ([] by Axiom)
  unfolding steps
  step_axiom = step_word 0 (omega arith)

  pub step_one : step q (word 2 i mask) ≡ some ([] by OneIntro)
  unfolding steps
  step_one = step_word 2 (omega arith)

  pub step_top : step q (word 6 i mask) ≡ some ([] by TopIntro)
  unfolding steps
  step_top = step_word 6 (omega arith)

  pub step_bottom : get_or q.linear i One ≡ Bottom → step q (word 3 i mask) ≡ some ((remove i q.linear ﹔ q.unrestricted) ∷ [] by BottomIntro)
  unfolding steps tag_of
  step_bottom e = step_word 3 (omega arith) ∙ rw e

  module _ {a b : Formula} where
    pub step_tensor : get_or q.linear i One ≡ Tensor a b
        → step q (word 4 i mask)
        ≡ some ((left_of mask (remove i q.linear) ++ (a ∷ []) ﹔ q.unrestricted) ∷ (right_of mask (remove i q.linear) ++ (b ∷ []) ﹔ q.unrestricted) ∷ [] by TensorIntro)
    unfolding steps tag_of left_part right_part
    step_tensor e = step_word 4 (omega arith) ∙ rw e

    pub step_par : get_or q.linear i One ≡ Par a b
        → step q (word 5 i mask) ≡ some ((remove i q.linear ++ (a ∷ b ∷ []) ﹔ q.unrestricted) ∷ [] by ParIntro)
    unfolding steps tag_of left_part right_part
    step_par e = step_word 5 (omega arith) ∙ rw e

    pub step_with : get_or q.linear i One ≡ With a b
        → step q (word 7 i mask)
        ≡ some ((remove i q.linear ++ (a ∷ []) ﹔ q.unrestricted) ∷ (remove i q.linear ++ (b ∷ []) ﹔ q.unrestricted) ∷ [] by WithIntro)
    unfolding steps tag_of left_part right_part
    step_with e = step_word 7 (omega arith) ∙ rw e

    pub step_plus_left : get_or q.linear i One ≡ Plus a b → step q (word 8 i mask) ≡ some ((replace i a q.linear ﹔ q.unrestricted) ∷ [] by PlusIntroLeft)
    unfolding steps tag_of left_part right_part
    step_plus_left e = step_word 8 (omega arith) ∙ rw e

    pub step_plus_right : get_or q.linear i One ≡ Plus a b → step q (word 9 i mask) ≡ some ((replace i b q.linear ﹔ q.unrestricted) ∷ [] by PlusIntroRight)
    unfolding steps tag_of left_part right_part
    step_plus_right e = step_word 9 (omega arith) ∙ rw e

  module _ {a : Formula} where
    pub step_of_course : get_or q.linear i One ≡ OfCourse a → step q (word 10 i mask) ≡ some ((a ∷ [] ﹔ q.unrestricted) ∷ [] by OfCourseIntro)
    unfolding steps tag_of left_part right_part
    step_of_course e = step_word 10 (omega arith) ∙ rw e

    pub step_why_not : get_or q.linear i One ≡ WhyNot a
        → step q (word 11 i mask) ≡ some ((remove i q.linear ﹔ q.unrestricted ++ (a ∷ [])) ∷ [] by WhyNotIntro)
    unfolding steps tag_of left_part right_part
    step_why_not e = step_word 11 (omega arith) ∙ rw e

  -- and of an unrestricted one
  module _ (within : i < length q.unrestricted) where
    pub step_weakening : step q (word 12 i mask) ≡ some ((q.linear ﹔ remove i q.unrestricted) ∷ [] by Weakening)
    unfolding steps
    step_weakening = step_word 12 (omega arith) ∙ rw (lt-ltb i (length q.unrestricted) within)

    module _ {f : Formula} (here : get_or q.unrestricted i One ≡ f) where
      pub step_contraction : step q (word 13 i mask) ≡ some ((q.linear ++ (f ∷ f ∷ []) ﹔ remove i q.unrestricted) ∷ [] by Contraction)
      unfolding steps
      step_contraction = step_word 13 (omega arith) ∙ rw (lt-ltb i (length q.unrestricted) within, here)

      pub step_dereliction : step q (word 14 i mask) ≡ some ((q.linear ++ (f ∷ []) ﹔ remove i q.unrestricted) ∷ [] by Dereliction)
      unfolding steps
      step_dereliction = step_word 14 (omega arith) ∙ rw (lt-ltb i (length q.unrestricted) within, here)

-- where nothing is to be spelled out
pub plain_passed : (q : Sequent) → Passed q.linear → spelled q ≡ q
plain_passed q p = ap (λ (Γ : List Formula). Γ ﹔ q.unrestricted) (spell_passed p)

pub plain_at : (q : Sequent) {before : List Formula} (f : Formula) (after : List Formula) → Passed before → decomposable f ≡ true → spell f ≡ f
    → q.linear ≡ before ++ (f ∷ after) → spelled q ≡ q
plain_at q {before} f after p d s e =
    ap (λ (Γ : List Formula). Γ ﹔ q.unrestricted)
    (ap spell_first e ∙ spell_at f after p d ∙ ap (λ (g : Formula). before ++ (g ∷ after)) s ∙ sym e)

-- a node with no premise, one and two
module _ {q : Sequent} {w : ℕ} {r : Rule} where
  node_of : {ps : List Sequent} (n : ℕ) (ws : List ℕ) → Takes q w r ps
      → expand (suc n) q (w ∷ ws) ≡ (expand_all (expand n) ps ws and_then λ ts ws. some (node r q ts, ws))
  unfolding expand
  node_of n ws k = rw (k.plain, k.takes)

  pub expands_leaf : (levels : ℕ) (ws : List ℕ) → Takes q w r [] → Expands (suc levels) q (w ∷ ws) (node r q ∅) ws
  unfolding expand_all ◌and_then◌
  expands_leaf levels ws k = record { expands = node_of levels ws k }

  pub expands_one : {levels : ℕ} {p : Sequent} {ws rest : List ℕ} {t : Tree} → Takes q w r (p ∷ []) → Expands levels p ws t rest
      → Expands (suc levels) q (w ∷ ws) (node r q (t ▹ ∅)) rest
  unfolding expand_all ◌and_then◌
  expands_one {levels} k x = record { expands = node_of levels _ k ∙ rw x.expands }

  pub expands_two : {levels : ℕ} {p p' : Sequent} {ws ws' rest : List ℕ} {t t' : Tree} → Takes q w r (p ∷ p' ∷ []) → Expands levels p ws t ws' → Expands levels p' ws' t' rest
      → Expands (suc levels) q (w ∷ ws) (node r q (t ▹ t' ▹ ∅)) rest
  unfolding expand_all ◌and_then◌
  expands_two {levels} k x x' = record { expands = node_of levels _ k ∙ rw (x.expands, x'.expands) }

pub some_both : {A : Type 0} {a a' : A} {ws ws' : List ℕ} → ◌≡◌ {A = Option (A × List ℕ)} (some (a, ws)) (some (a', ws')) → (a ≡ a') × (ws ≡ ws')
some_both {A} {a} {a'} {ws} {ws'} e = let p : ◌≡◌ {A = A × List ℕ} (a, ws) (a', ws') = cc in (ap (λ (x : A × List ℕ). x.0) p, ap (λ (x : A × List ℕ). x.1) p)

-- `and_then` taken apart
pub record Then {A B : Type 0} (m : Option (A × List ℕ)) (k : A → List ℕ → Option (B × List ℕ)) (r : B × List ℕ) : Type 0 where
  pub value : A
  pub left : List ℕ
  pub first : m ≡ some (value, left)
  pub next : k value left ≡ some r

pub then_apart : {A B : Type 0} (m : Option (A × List ℕ)) (k : A → List ℕ → Option (B × List ℕ)) (r : B × List ℕ) → (m and_then k) ≡ some r → Then m k r
unfolding ◌and_then◌
then_apart none k r e = absurd (let z : ◌≡◌ {A = ℕ} 0 1 = cc in omega arith)
then_apart (some a) k r e = record { value = a.0; left = a.1; first = refl; next = e }

-- a tree that words stand for, taken apart: its word, its step, and its premises' trees
pub record Grown (levels : ℕ) (q : Sequent) (ws : List ℕ) (t : Tree) (rest : List ℕ) : Type 0 where
  pub below : ℕ
  pub levels_are : levels ≡ suc below
  pub first : ℕ
  pub others : List ℕ
  pub words_are : ws ≡ first ∷ others
  pub rule : Rule
  pub premises : List Sequent
  pub takes : step (spelled q) first ≡ some (premises by rule)
  pub trees : Trees
  pub deeper : expand_all (expand below) premises others ≡ some (trees, rest)
  pub tree_is : t ≡ node rule (spelled q) trees

pub grown_apart : (levels : ℕ) (q : Sequent) (ws : List ℕ) (t : Tree) (rest : List ℕ) → expand levels q ws ≡ some (t, rest) → Grown levels q ws t rest
unfolding expand
grown_apart zero q ws t rest e = absurd (let z : ◌≡◌ {A = ℕ} 0 1 = cc in omega arith)
grown_apart (suc n) q [] t rest e = absurd (let z : ◌≡◌ {A = ℕ} 0 1 = cc in omega arith)
grown_apart (suc n) q (w ∷ ws) t rest e = go (step (spelled q) w) refl e
  where
    go : (s : Option Step) → step (spelled q) w ≡ s → grown (expand n) (spelled q) s ws ≡ some (t, rest) → Grown (suc n) q (w ∷ ws) t rest
    go none s e = absurd (let z : ◌≡◌ {A = ℕ} 0 1 = cc in omega arith)
    go (some x) s e =
        let a = then_apart (expand_all (expand n) x.premises ws) (λ ts ws. some (node x.rule (spelled q) ts, ws)) (t, rest) e in
        record {
          below = n;
          levels_are = refl;
          first = w;
          others = ws;
          words_are = refl;
          rule = x.rule;
          premises = x.premises;
          takes = s;
          trees = a.value;
          deeper = a.first ∙ ap (λ (l : List ℕ). some (a.value, l)) (some_both a.next).1;
          tree_is = sym (some_both a.next).0;
        }

-- more levels, and more words after: the same tree
pub record Keeps (d d' : Sequent → List ℕ → Option (Tree × List ℕ)) (more : List ℕ) : Type 0 where
  pub keeps : (p : Sequent) (ws rest : List ℕ) (t : Tree) → d p ws ≡ some (t, rest) → d' p (ws ++ more) ≡ some (t, rest ++ more)

module _ {d d' : Sequent → List ℕ → Option (Tree × List ℕ)} {more : List ℕ} (k : Keeps d d' more) where
  all_keeps : (ps : List Sequent) (ws rest : List ℕ) (ts : Trees) → expand_all d ps ws ≡ some (ts, rest) → expand_all d' ps (ws ++ more) ≡ some (ts, rest ++ more)
  unfolding expand_all ◌and_then◌
  all_keeps [] ws rest ts e = let b = some_both e in rw (b.0, b.1)
  all_keeps (p ∷ ps) ws rest ts e =
      let a = then_apart (d p ws) (λ t ws. expand_all d ps ws and_then λ ts ws. some (t ▹ ts, ws)) (ts, rest) e in
      let b = then_apart (expand_all d ps a.left) (λ ts ws. some (a.value ▹ ts, ws)) (ts, rest) a.next in
      let c = some_both b.next in
      rw (k.keeps p ws a.left a.value a.first, all_keeps ps a.left b.left b.value b.first, c.0, c.1)

grown_keeps : (n m : ℕ) (more : List ℕ) → Keeps (expand n) (expand m) more → (p : Sequent) (ws rest : List ℕ) (t : Tree)
    → expand (suc n) p ws ≡ some (t, rest) → expand (suc m) p (ws ++ more) ≡ some (t, rest ++ more)
unfolding expand ◌and_then◌
grown_keeps n m more k p ws rest t e =
    let g = grown_apart (suc n) p ws t rest e in
    let b : g.below ≡ n = omega (arith, g.levels_are) in
    rw (
      g.words_are,
      g.takes,
      all_keeps k g.premises g.others rest g.trees (rw b at g.deeper),
      ← g.tree_is,
    )

expand_keeps : (n extra : ℕ) (more : List ℕ) → Keeps (expand n) (expand (n + extra)) more
expand_keeps zero extra more = record { keeps = λ p ws rest t e. absurd (let g = grown_apart zero p ws t rest e in omega (arith, g.levels_are)) }
expand_keeps (suc n) extra more = record { keeps = rw (suc-add n extra) (grown_keeps n (n + extra) more (expand_keeps n extra more)) }

-- words after those of the tree do not matter
pub expands_more : {levels : ℕ} {q : Sequent} {ws rest : List ℕ} {t : Tree} (more : List ℕ) → Expands levels q ws t rest → Expands levels q (ws ++ more) t (rest ++ more)
expands_more {levels} {q} {ws} {rest} {t} more x = record { expands = rw (add-zero levels) at ((expand_keeps levels 0 more).keeps q ws rest t x.expands) }

-- more levels do not matter
pub expands_higher : {levels : ℕ} {q : Sequent} {ws rest : List ℕ} {t : Tree} (levels' : ℕ) → levels ≤ levels' → Expands levels q ws t rest → Expands levels' q ws t rest
expands_higher {levels} {q} {ws} {rest} {t} levels' h x =
    let e : levels + (levels' - levels) ≡ levels' = omega arith in
    record { expands = rw (e, append-nil ws, append-nil rest) at ((expand_keeps levels (levels' - levels) []).keeps q ws rest t x.expands) }
