-- The premises of a step: what each rule's word says of the formula at its place, and what the operations on zones make of it. Assumes nothing.
use mathlib.Core.Path.{◌≡◌, refl, sym, ap, ◌∙◌}
use mathlib.Core.Logic.{◌⊎◌, inl, inr, ⊎_elim}
use mathlib.Core.Bool.{Bool, true, false}
use mathlib.Core.List.{List, [], ◌∷◌, ◌++◌, map}
use mathlib.Core.Option.{Option, none, some}
use Prim.Native.Nat.{ℕ, ◌+◌, ◌≤◌, ◌<◌}
use native.Mathlib.Omega.{arith}
use borrow.Author.Count.{below_none, below_more}
use borrow.Author.Tests.{eqb-true, ltb-true}
use lib.Dec.{eqb, ltb}
use lib.ListN.{get_or, length, drop, length-append, length-map, get_or-eq_default}
use lib.Seq.{get_or-drop}
use native.Mathlib.Nat.{add-zero}
use Rattle.logic.specs.Formula.{Formula, One}
use Rattle.logic.specs.Parts.{tag_of, left_part, right_part}
use Rattle.logic.specs.Sequent as sequent
use Rattle.logic.specs.Sequent.{Sequent, ◌﹔◌}
use Rattle.logic.specs.Split.{left_of, right_of}
use Rattle.logic.specs.Tree.{Rule, Axiom, OneIntro, TopIntro, BottomIntro, TensorIntro, ParIntro, WithIntro, PlusIntroLeft, PlusIntroRight, OfCourseIntro, WhyNotIntro, Weakening, Contraction, Dereliction}
use Rattle.wire.specs.Write.{write_rule}
use Rattle.held.specs.Words.{at, count, told}
use Rattle.held.specs.OrderLaws.{le_or_lt}
use Rattle.held.specs.Answers.{Field}
use Rattle.zones.specs.declared.Zones.{Zones}
use Rattle.zones.specs.Zones.{Fits, linears, unrestricteds, remove, replace, Made, meant, without, replaced, pushed, only, split, without_unrestricted, pushed_unrestricted}
use Rattle.zones.specs.ZonesLaws.{remove_length, map_remove, linears_length, unrestricteds_length, linear_at, unrestricted_at, within_unrestricted, without_count, pushed_count, without_unrestricted_count, meant_made, meant_left_part, meant_right_part, meant_moved, meant_moved_two, meant_moved_over, meant_copied, meant_copied_two}
use Rattle.expand.specs.Short.{rule_of, place_of, mask_of, Step, ◌by◌, if_so, steps, step}
use Rattle.expand.specs.Writing.{Sound, Means, first_of, second_of, Stepping, Stepping₂, premise_counts}
use Rattle.expand.proofs.ByteSteps.{told_tag, told_left, told_right, part_left, part_right}
use Rattle.expand.proofs.SpellSteps.{linear_low, made_sound, made_means}

-- a step under a test
if_taken : (b : Bool) (s s' : Step) → if_so b s ≡ some s' → (b ≡ true) × (s ≡ s')
if_taken true s s' e = (refl, cc)
if_taken false s s' e = absurd (let o : ◌≡◌ {A = ℕ} 0 1 = cc in omega arith)

-- what holds of each rule's number
pub fifteen : (P : ℕ → Type 0) → P 0 → P 1 → P 2 → P 3 → P 4 → P 5 → P 6 → P 7 → P 8 → P 9 → P 10 → P 11 → P 12 → P 13 → P 14 → (k : ℕ) → k < 15 → P k
fifteen P p₀ p₁ p₂ p₃ p₄ p₅ p₆ p₇ p₈ p₉ p₁₀ p₁₁ p₁₂ p₁₃ p₁₄ =
    below_more P 14 (below_more P 13 (below_more P 12 (below_more P 11 (below_more P 10 (below_more P 9 (below_more P 8 (below_more P 7 (below_more P 6 (below_more P 5 (below_more P 4
    (below_more P 3 (below_more P 2 (below_more P 1 (below_more P 0 (below_none P) p₀) p₁) p₂) p₃) p₄) p₅) p₆) p₇) p₈) p₉) p₁₀) p₁₁) p₁₂) p₁₃) p₁₄

-- how many premises a step has, and its rule's byte
pub record Sized (k : ℕ) (s : Step) : Type 0 where
  pub premises_are : length s.premises ≡ get_or premise_counts k 0
  pub rule_is : write_rule s.rule ≡ k ∷ []

sized_always : (k : ℕ) (s s' : Step) → Sized k s → some s ≡ some s' → Sized k s'
sized_always k s s' z e = let h : s ≡ s' = cc in rw h at z

module _ (q : Sequent) (i mask : ℕ) where
  sized_linear : (k t : ℕ) (ps : List Sequent) (r : Rule) → get_or (steps q i mask) k none ≡ if_so (eqb (tag_of (get_or q.linear i One)) t) (ps by r) → Sized k (ps by r)
      → (s : Step) → get_or (steps q i mask) k none ≡ some s → Sized k s
  sized_linear k t ps r known z s e = rw (if_taken (eqb (tag_of (get_or q.linear i One)) t) (ps by r) s (sym known ∙ e)).1 at z

  sized_copied : (k : ℕ) (ps : List Sequent) (r : Rule) → get_or (steps q i mask) k none ≡ if_so (ltb i (length q.unrestricted)) (ps by r) → Sized k (ps by r)
      → (s : Step) → get_or (steps q i mask) k none ≡ some s → Sized k s
  sized_copied k ps r known z s e = rw (if_taken (ltb i (length q.unrestricted)) (ps by r) s (sym known ∙ e)).1 at z

  steps_sized : (k : ℕ) → k < 15 → (s : Step) → get_or (steps q i mask) k none ≡ some s → Sized k s
  unfolding steps write_rule
  steps_sized =
      fifteen
      (λ k. (s : Step) → get_or (steps q i mask) k none ≡ some s → Sized k s)
      (λ s. sized_always 0 ([] by Axiom) s record { premises_are = refl; rule_is = refl })
      (λ s e. absurd (let o : ◌≡◌ {A = ℕ} 0 1 = cc in omega arith))
      (λ s. sized_always 2 ([] by OneIntro) s record { premises_are = refl; rule_is = refl })
      (sized_linear 3 1 _ BottomIntro refl record { premises_are = refl; rule_is = refl })
      (sized_linear 4 6 _ TensorIntro refl record { premises_are = refl; rule_is = refl })
      (sized_linear 5 7 _ ParIntro refl record { premises_are = refl; rule_is = refl })
      (λ s. sized_always 6 ([] by TopIntro) s record { premises_are = refl; rule_is = refl })
      (sized_linear 7 8 _ WithIntro refl record { premises_are = refl; rule_is = refl })
      (sized_linear 8 9 _ PlusIntroLeft refl record { premises_are = refl; rule_is = refl })
      (sized_linear 9 9 _ PlusIntroRight refl record { premises_are = refl; rule_is = refl })
      (sized_linear 10 11 _ OfCourseIntro refl record { premises_are = refl; rule_is = refl })
      (sized_linear 11 12 _ WhyNotIntro refl record { premises_are = refl; rule_is = refl })
      (sized_copied 12 _ Weakening refl record { premises_are = refl; rule_is = refl })
      (sized_copied 13 _ Contraction refl record { premises_are = refl; rule_is = refl })
      (sized_copied 14 _ Dereliction refl record { premises_are = refl; rule_is = refl })

  steps_known : (k : ℕ) (s : Step) → get_or (steps q i mask) k none ≡ some s → k < 15
  unfolding steps
  steps_known k s e =
      ⊎_elim
      (λ g. absurd (let n : none ≡ some s = sym (get_or-eq_default (steps q i mask) none {n = k} g) ∙ e in let o : ◌≡◌ {A = ℕ} 0 1 = cc in omega arith))
      (λ l. l)
      (le_or_lt 15 k)

-- the step that the word names, by its rule's number
module _ (q : Sequent) (w : ℕ) {s : Step} (takes : step q w ≡ some s) where
  pub step_known : rule_of w < 15
  unfolding step
  step_known = steps_known q (place_of w) (mask_of w) (rule_of w) s takes

  pub step_sized : Sized (rule_of w) s
  unfolding step
  step_sized = steps_sized q (place_of w) (mask_of w) (rule_of w) step_known s takes

module _ (q : Sequent) (w : ℕ) {i : ℕ} {s : Step} (takes : step q w ≡ some s) (here : i ≡ place_of w) where
  step_at : (k : ℕ) → rule_of w ≡ k → get_or (steps q i (mask_of w)) k none ≡ some s
  unfolding step
  step_at k e = rw (here, ← e) takes

  linear_taken : (k t : ℕ) (ps : List Sequent) (r : Rule) → get_or (steps q i (mask_of w)) k none ≡ if_so (eqb (tag_of (get_or q.linear i One)) t) (ps by r)
      → rule_of w ≡ k → (tag_of (get_or q.linear i One) ≡ t) × (ps ≡ s.premises)
  linear_taken k t ps r known e =
      let b = if_taken (eqb (tag_of (get_or q.linear i One)) t) (ps by r) s (sym known ∙ step_at k e) in
      (eqb-true _ t b.0, ap (λ (x : Step). x.premises) b.1)

  copied_taken : (k : ℕ) (ps : List Sequent) (r : Rule) → get_or (steps q i (mask_of w)) k none ≡ if_so (ltb i (length q.unrestricted)) (ps by r)
      → rule_of w ≡ k → (i < length q.unrestricted) × (ps ≡ s.premises)
  copied_taken k ps r known e =
      let b = if_taken (ltb i (length q.unrestricted)) (ps by r) s (sym known ∙ step_at k e) in
      (ltb-true _ _ b.0, ap (λ (x : Step). x.premises) b.1)

-- the formulas at a place of the zones
module _ {m : List ℕ} {z : Zones} (s : Sound m z) where
  linear_length : length (meant (told m) z).linear ≡ z.linear_len
  linear_length = length-map (linears z) (told m) ∙ linears_length s.fits

  unrestricted_length : length (meant (told m) z).unrestricted ≡ z.unrestricted_len
  unrestricted_length = length-map (unrestricteds z) (told m) ∙ unrestricteds_length s.fits

  first_of_drop : (fs : List Formula) (i : ℕ) (f : Formula) (gs : List Formula) → drop i fs ≡ f ∷ gs → get_or fs i One ≡ f
  first_of_drop fs i f gs e = rw (add-zero i) at (sym (get_or-drop i fs 0 One) ∙ ap (λ (l : List Formula). get_or l 0 One) e)

  linear_told : (i : ℕ) → i < z.linear_len → get_or (meant (told m) z).linear i One ≡ told m (get_or z.linear i 0)
  linear_told i h = first_of_drop (meant (told m) z).linear i _ _ (linear_at (told m) s.fits i h)

  unrestricted_told : (i : ℕ) → i < z.unrestricted_len → get_or (meant (told m) z).unrestricted i One ≡ told m (get_or z.unrestricted i 0)
  unrestricted_told i h = first_of_drop (meant (told m) z).unrestricted i _ _ (unrestricted_at (told m) s.fits i h)

  -- past the end stands One, whose tag is 0
  tagged_in : (i : ℕ) → 1 ≤ tag_of (get_or (meant (told m) z).linear i One) → i < z.linear_len
  unfolding tag_of
  tagged_in i g =
      ⊎_elim
      (λ l.
      absurd
      (let o : tag_of (get_or (meant (told m) z).linear i One) ≡ 0 = ap tag_of (get_or-eq_default (meant (told m) z).linear One {n = i} (omega (arith, linear_length))) in
      omega arith))
      (λ l. l)
      (le_or_lt z.linear_len i)

-- the rule is none of those that `first_premise` names
abbrev pub Others : ℕ → Type 0
Others k = ((((((Unit {0} × (k ≡ 3 → ⊥)) × (k ≡ 4 → ⊥)) × (k ≡ 5 → ⊥)) × (k ≡ 7 → ⊥)) × (k ≡ 8 → ⊥)) × (k ≡ 9 → ⊥)) × (k ≡ 10 → ⊥)

-- the rule's number, by what is left
module _ (q : Sequent) (w : ℕ) {i : ℕ} {first : Sequent} {others : List Sequent} {rule : Rule} (takes : step q w ≡ some (first ∷ others by rule)) (here : i ≡ place_of w) where
  no_leaf : (r : Rule) → ◌≡◌ {A = Option Step} (some ([] by r)) (some (first ∷ others by rule)) → ⊥
  no_leaf r e = let h : ◌≡◌ {A = Step} ([] by r) (first ∷ others by rule) = cc in let o = ap (λ (s : Step). length s.premises) h in omega arith

  no_step : ◌≡◌ {A = Option Step} none (some (first ∷ others by rule)) → ⊥
  no_step e = let o : ◌≡◌ {A = ℕ} 0 1 = cc in omega arith

  -- a rule on the linear zone wants a sign
  tagged : (k : ℕ) → k < 15 → rule_of w ≡ k → k < 12 → 1 ≤ tag_of (get_or q.linear i One)
  unfolding steps
  tagged =
      fifteen
      (λ k. rule_of w ≡ k → k < 12 → 1 ≤ tag_of (get_or q.linear i One))
      (λ e l. absurd (no_leaf Axiom (step_at q w takes here 0 e)))
      (λ e l. absurd (no_step (step_at q w takes here 1 e)))
      (λ e l. absurd (no_leaf OneIntro (step_at q w takes here 2 e)))
      (λ e l. omega (arith, (linear_taken q w takes here 3 1 _ _ refl e).0))
      (λ e l. omega (arith, (linear_taken q w takes here 4 6 _ _ refl e).0))
      (λ e l. omega (arith, (linear_taken q w takes here 5 7 _ _ refl e).0))
      (λ e l. absurd (no_leaf TopIntro (step_at q w takes here 6 e)))
      (λ e l. omega (arith, (linear_taken q w takes here 7 8 _ _ refl e).0))
      (λ e l. omega (arith, (linear_taken q w takes here 8 9 _ _ refl e).0))
      (λ e l. omega (arith, (linear_taken q w takes here 9 9 _ _ refl e).0))
      (λ e l. omega (arith, (linear_taken q w takes here 10 11 _ _ refl e).0))
      (λ e l. omega (arith, (linear_taken q w takes here 11 12 _ _ refl e).0))
      (λ e l. absurd (omega arith))
      (λ e l. absurd (omega arith))
      (λ e l. absurd (omega arith))

  -- of the rules that the code does not name, WhyNotIntro alone has a premise
  why_not_left : (k : ℕ) → k < 15 → rule_of w ≡ k → k < 12 → Others k → k ≡ 11
  unfolding steps
  why_not_left =
      fifteen
      (λ k. rule_of w ≡ k → k < 12 → Others k → k ≡ 11)
      (λ e l o. absurd (no_leaf Axiom (step_at q w takes here 0 e)))
      (λ e l o. absurd (no_step (step_at q w takes here 1 e)))
      (λ e l o. absurd (no_leaf OneIntro (step_at q w takes here 2 e)))
      (λ e l o. absurd (o.0.0.0.0.0.0.1 refl))
      (λ e l o. absurd (o.0.0.0.0.0.1 refl))
      (λ e l o. absurd (o.0.0.0.0.1 refl))
      (λ e l o. absurd (no_leaf TopIntro (step_at q w takes here 6 e)))
      (λ e l o. absurd (o.0.0.0.1 refl))
      (λ e l o. absurd (o.0.0.1 refl))
      (λ e l o. absurd (o.0.1 refl))
      (λ e l o. absurd (o.1 refl))
      (λ e l o. refl)
      (λ e l o. absurd (omega arith))
      (λ e l o. absurd (omega arith))
      (λ e l o. absurd (omega arith))

  -- the first premise, by the sign and by the place
  first_is : first_of (step q w) ≡ first
  first_is = ap first_of takes

  linear_premise : (k t : ℕ) (p : Sequent) (ps : List Sequent) (r : Rule) → get_or (steps q i (mask_of w)) k none ≡ if_so (eqb (tag_of (get_or q.linear i One)) t) (p ∷ ps by r)
      → rule_of w ≡ k → (tag_of (get_or q.linear i One) ≡ t) × (p ≡ first_of (step q w))
  linear_premise k t p ps r known e =
      let b = linear_taken q w takes here k t (p ∷ ps) r known e in
      (b.0, ap (λ (l : List Sequent). get_or l 0 ([] ﹔ [])) b.1 ∙ sym first_is)

  copied_premise : (k : ℕ) (p : Sequent) (ps : List Sequent) (r : Rule) → get_or (steps q i (mask_of w)) k none ≡ if_so (ltb i (length q.unrestricted)) (p ∷ ps by r)
      → rule_of w ≡ k → (i < length q.unrestricted) × (p ≡ first_of (step q w))
  copied_premise k p ps r known e =
      let b = copied_taken q w takes here k (p ∷ ps) r known e in
      (b.0, ap (λ (l : List Sequent). get_or l 0 ([] ﹔ [])) b.1 ∙ sym first_is)

  bottom_premise : rule_of w ≡ 3 → (tag_of (get_or q.linear i One) ≡ 1) × ((remove i q.linear ﹔ q.unrestricted) ≡ first_of (step q w))
  unfolding steps
  bottom_premise = linear_premise 3 1 _ [] BottomIntro refl

  tensor_premise : rule_of w ≡ 4
      → (tag_of (get_or q.linear i One) ≡ 6)
      × ((left_of (mask_of w) (remove i q.linear) ++ (left_part (get_or q.linear i One) ∷ []) ﹔ q.unrestricted) ≡ first_of (step q w))
  unfolding steps
  tensor_premise = linear_premise 4 6 _ _ TensorIntro refl

  par_premise : rule_of w ≡ 5
      → (tag_of (get_or q.linear i One) ≡ 7)
      × ((remove i q.linear ++ (left_part (get_or q.linear i One) ∷ right_part (get_or q.linear i One) ∷ []) ﹔ q.unrestricted) ≡ first_of (step q w))
  unfolding steps
  par_premise = linear_premise 5 7 _ [] ParIntro refl

  with_premise : rule_of w ≡ 7
      → (tag_of (get_or q.linear i One) ≡ 8) × ((remove i q.linear ++ (left_part (get_or q.linear i One) ∷ []) ﹔ q.unrestricted) ≡ first_of (step q w))
  unfolding steps
  with_premise = linear_premise 7 8 _ _ WithIntro refl

  plus_left_premise : rule_of w ≡ 8
      → (tag_of (get_or q.linear i One) ≡ 9) × ((replace i (left_part (get_or q.linear i One)) q.linear ﹔ q.unrestricted) ≡ first_of (step q w))
  unfolding steps
  plus_left_premise = linear_premise 8 9 _ [] PlusIntroLeft refl

  plus_right_premise : rule_of w ≡ 9
      → (tag_of (get_or q.linear i One) ≡ 9) × ((replace i (right_part (get_or q.linear i One)) q.linear ﹔ q.unrestricted) ≡ first_of (step q w))
  unfolding steps
  plus_right_premise = linear_premise 9 9 _ [] PlusIntroRight refl

  of_course_premise : rule_of w ≡ 10 → (tag_of (get_or q.linear i One) ≡ 11) × ((left_part (get_or q.linear i One) ∷ [] ﹔ q.unrestricted) ≡ first_of (step q w))
  unfolding steps
  of_course_premise = linear_premise 10 11 _ [] OfCourseIntro refl

  why_not_premise : rule_of w ≡ 11
      → (tag_of (get_or q.linear i One) ≡ 12)
      × ((remove i q.linear ﹔ q.unrestricted ++ (left_part (get_or q.linear i One) ∷ [])) ≡ first_of (step q w))
  unfolding steps
  why_not_premise = linear_premise 11 12 _ [] WhyNotIntro refl

  weakening_premise : rule_of w ≡ 12 → (i < length q.unrestricted) × ((q.linear ﹔ remove i q.unrestricted) ≡ first_of (step q w))
  unfolding steps
  weakening_premise = copied_premise 12 _ [] Weakening refl

  contraction_premise : rule_of w ≡ 13
      → (i < length q.unrestricted)
      × ((q.linear ++ (get_or q.unrestricted i One ∷ get_or q.unrestricted i One ∷ []) ﹔ remove i q.unrestricted) ≡ first_of (step q w))
  unfolding steps
  contraction_premise = copied_premise 13 _ [] Contraction refl

  dereliction_premise : rule_of w ≡ 14
      → (i < length q.unrestricted) × ((q.linear ++ (get_or q.unrestricted i One ∷ []) ﹔ remove i q.unrestricted) ≡ first_of (step q w))
  unfolding steps
  dereliction_premise = copied_premise 14 _ [] Dereliction refl

-- the second premise, of a tensor or a With
module _ (q : Sequent) (w : ℕ) {i : ℕ} {first second : Sequent} {rule : Rule} (takes : step q w ≡ some (first ∷ second ∷ [] by rule)) (here : i ≡ place_of w) where
  second_is : second_of (step q w) ≡ second
  second_is = ap second_of takes

  two_rules : (rule_of w ≡ 4) ⊎ (rule_of w ≡ 7)
  two_rules =
      fifteen
      (λ k. get_or premise_counts k 0 ≡ 2 → (k ≡ 4) ⊎ (k ≡ 7))
      (λ e. absurd (omega arith))
      (λ e. absurd (omega arith))
      (λ e. absurd (omega arith))
      (λ e. absurd (omega arith))
      (λ e. inl refl)
      (λ e. absurd (omega arith))
      (λ e. absurd (omega arith))
      (λ e. inr refl)
      (λ e. absurd (omega arith))
      (λ e. absurd (omega arith))
      (λ e. absurd (omega arith))
      (λ e. absurd (omega arith))
      (λ e. absurd (omega arith))
      (λ e. absurd (omega arith))
      (λ e. absurd (omega arith))
      (rule_of w)
      (step_known q w takes)
      (sym (step_sized q w takes).premises_are)

  second_premise : (k t : ℕ) (p p' : Sequent) (r : Rule) → get_or (steps q i (mask_of w)) k none ≡ if_so (eqb (tag_of (get_or q.linear i One)) t) (p ∷ p' ∷ [] by r)
      → rule_of w ≡ k → (tag_of (get_or q.linear i One) ≡ t) × (p' ≡ second_of (step q w))
  second_premise k t p p' r known e =
      let b = linear_taken q w takes here k t (p ∷ p' ∷ []) r known e in
      (b.0, ap (λ (l : List Sequent). get_or l 1 ([] ﹔ [])) b.1 ∙ sym second_is)

  tensor_second : rule_of w ≡ 4
      → (tag_of (get_or q.linear i One) ≡ 6)
      × ((right_of (mask_of w) (remove i q.linear) ++ (right_part (get_or q.linear i One) ∷ []) ﹔ q.unrestricted) ≡ second_of (step q w))
  unfolding steps
  tensor_second = second_premise 4 6 _ _ TensorIntro refl

  with_second : rule_of w ≡ 7
      → (tag_of (get_or q.linear i One) ≡ 8) × ((remove i q.linear ++ (right_part (get_or q.linear i One) ∷ []) ﹔ q.unrestricted) ≡ second_of (step q w))
  unfolding steps
  with_second = second_premise 7 8 _ _ WithIntro refl

-- a linear formula with the tag t, and its parts, by the fields read
module _ {m : List ℕ} {z : Zones} (s : Sound m z) {i t : ℕ} (low : i < z.linear_len) (tag : tag_of (get_or (meant (told m) z).linear i One) ≡ t) where
  tag_is : at m (get_or z.linear i 0) 0 ≡ t
  tag_is = sym (told_tag m _ s.wf (linear_low s i low)) ∙ ap tag_of (sym (linear_told s i low)) ∙ tag

  module _ {a : ℕ} (f : Field m (get_or z.linear i 0) 1 a) (g : 6 ≤ t) where
    left_is : left_part (get_or (meant (told m) z).linear i One) ≡ told m a
    left_is = ap left_part (linear_told s i low) ∙ rw f.value (told_left m _ s.wf (linear_low s i low) (omega (arith, tag_is)))

    left_held : a < count m
    left_held = omega (arith, f.value, part_left m _ s.wf (linear_low s i low) (omega (arith, tag_is)), linear_low s i low)

  module _ {b : ℕ} (f : Field m (get_or z.linear i 0) 2 b) (g : 6 ≤ t) (h : t < 11) where
    right_is : right_part (get_or (meant (told m) z).linear i One) ≡ told m b
    right_is = ap right_part (linear_told s i low) ∙ rw f.value (told_right m _ s.wf (linear_low s i low) (omega (arith, tag_is)) (omega (arith, tag_is)))

    right_held : b < count m
    right_held = omega (arith, f.value, part_right m _ s.wf (linear_low s i low) (omega (arith, tag_is)) (omega (arith, tag_is)), linear_low s i low)

-- how long a zone is with a formula taken out
removed_length : (m : List ℕ) (xs : List ℕ) (i : ℕ) → i < length xs → length (remove i (map (told m) xs)) + 1 ≡ length xs
removed_length m xs i h = omega (arith, ap length (map_remove (told m) i xs), length-map (remove i xs) (told m), remove_length xs i h)

-- a formula taken out leaves room for one
pub moved_room : {z z₁ : Zones} {i : ℕ} → Fits z → i < z.linear_len → Made z (without i) z₁ → Fits z₁ × (z₁.linear_len + z₁.unrestricted_len < 31)
moved_room f h k = let c = without_count f k h in (k.fits, omega (arith, f.few))

-- `first_premise` on the linear zone, with the place and the two fields read
module _ {m : List ℕ} {z : Zones} {w i : ℕ} (p : Stepping m z w) (here : i ≡ place_of w) where
  pub linear_in : rule_of w ≤ 11 → i < z.linear_len
  linear_in l = tagged_in p.sound i (tagged (meant (told m) z) w p.takes here (rule_of w) (omega arith) refl (omega arith))

  few_first : sequent.count (first_of (step (meant (told m) z) w)) ≤ 31
  few_first = omega (arith, ap sequent.count (first_is (meant (told m) z) w p.takes here), p.few)

  module _ (l : rule_of w ≤ 11) {a b : ℕ} (fa : Field m (get_or z.linear i 0) 1 a) (fb : Field m (get_or z.linear i 0) 2 b) where
    in_zone : i < z.linear_len
    in_zone = linear_in l

    pub bottom_means : {r : Zones} → rule_of w ≡ 3 → Made z (without i) r → Means m (first_of (step (meant (told m) z) w)) r
    bottom_means e k = made_means p.sound k tt (meant_made (told m) k ∙ (bottom_premise (meant (told m) z) w p.takes here e).1)

    pub tensor_means : {r : Zones} → rule_of w ≡ 4 → Made z (split 0 i (mask_of w) a) r → Means m (first_of (step (meant (told m) z) w)) r
    tensor_means e k =
        let t = tensor_premise (meant (told m) z) w p.takes here e in
        made_means p.sound k (left_held p.sound in_zone t.0 fa (omega arith))
        (meant_left_part (told m) k ∙ rw (left_is p.sound in_zone t.0 fa (omega arith)) at t.1)

    pub with_means : {z₁ r : Zones} → rule_of w ≡ 7 → Made z (without i) z₁ → Made z₁ (pushed a) r → Means m (first_of (step (meant (told m) z) w)) r
    with_means e k₁ k =
        let t = with_premise (meant (told m) z) w p.takes here e in
        made_means (made_sound p.sound k₁ tt) k (left_held p.sound in_zone t.0 fa (omega arith))
        (meant_moved (told m) k₁ k ∙ rw (left_is p.sound in_zone t.0 fa (omega arith)) at t.1)

    pub par_means : {z₁ z₂ r : Zones} → rule_of w ≡ 5 → Made z (without i) z₁ → Made z₁ (pushed a) z₂ → Made z₂ (pushed b) r → Means m (first_of (step (meant (told m) z) w)) r
    par_means e k₁ k₂ k =
        let t = par_premise (meant (told m) z) w p.takes here e in
        made_means
        (made_sound (made_sound p.sound k₁ tt) k₂ (left_held p.sound in_zone t.0 fa (omega arith)))
        k
        (right_held p.sound in_zone t.0 fb (omega arith) (omega arith))
        (meant_moved_two (told m) k₁ k₂ k
        ∙ rw (left_is p.sound in_zone t.0 fa (omega arith), right_is p.sound in_zone t.0 fb (omega arith) (omega arith)) at t.1)

    par_few : rule_of w ≡ 5 → z.linear_len + z.unrestricted_len < 31
    par_few e =
        let t = par_premise (meant (told m) z) w p.takes here e in
        omega (
          arith,
          ap sequent.count t.1,
          few_first,
          length-append (remove i (meant (told m) z).linear) (left_part (get_or (meant (told m) z).linear i One) ∷ right_part (get_or (meant (told m) z).linear i One) ∷ []),
          removed_length m (linears z) i (omega (arith, in_zone, linears_length p.sound.fits)),
          linears_length p.sound.fits,
          unrestricted_length p.sound,
        )

    pub par_room : {z₁ z₂ : Zones} → rule_of w ≡ 5 → Made z (without i) z₁ → Made z₁ (pushed a) z₂ → Fits z₂ × (z₂.linear_len + z₂.unrestricted_len < 31)
    par_room e k₁ k₂ =
        let c₁ = without_count p.sound.fits k₁ in_zone in
        let c₂ = pushed_count k₁.fits k₂ in
        (k₂.fits, omega (arith, par_few e))

    pub plus_left_means : {r : Zones} → rule_of w ≡ 8 → Made z (replaced i a) r → Means m (first_of (step (meant (told m) z) w)) r
    plus_left_means e k =
        let t = plus_left_premise (meant (told m) z) w p.takes here e in
        made_means p.sound k (left_held p.sound in_zone t.0 fa (omega arith))
        (meant_made (told m) k ∙ rw (left_is p.sound in_zone t.0 fa (omega arith)) at t.1)

    pub plus_right_means : {r : Zones} → rule_of w ≡ 9 → Made z (replaced i b) r → Means m (first_of (step (meant (told m) z) w)) r
    plus_right_means e k =
        let t = plus_right_premise (meant (told m) z) w p.takes here e in
        made_means p.sound k (right_held p.sound in_zone t.0 fb (omega arith) (omega arith))
        (meant_made (told m) k ∙ rw (right_is p.sound in_zone t.0 fb (omega arith) (omega arith)) at t.1)

    pub of_course_means : {r : Zones} → rule_of w ≡ 10 → Made z (only a) r → Means m (first_of (step (meant (told m) z) w)) r
    of_course_means e k =
        let t = of_course_premise (meant (told m) z) w p.takes here e in
        made_means p.sound k (left_held p.sound in_zone t.0 fa (omega arith))
        (meant_made (told m) k ∙ rw (left_is p.sound in_zone t.0 fa (omega arith)) at t.1)

    pub why_not_means : {z₁ r : Zones} → Others (rule_of w) → Made z (without i) z₁ → Made z₁ (pushed_unrestricted a) r → Means m (first_of (step (meant (told m) z) w)) r
    why_not_means o k₁ k =
        let e = why_not_left (meant (told m) z) w p.takes here (rule_of w) (omega arith) refl (omega arith) o in
        let t = why_not_premise (meant (told m) z) w p.takes here e in
        made_means (made_sound p.sound k₁ tt) k (left_held p.sound in_zone t.0 fa (omega arith))
        (meant_moved_over (told m) k₁ k ∙ rw (left_is p.sound in_zone t.0 fa (omega arith)) at t.1)

  -- and on the unrestricted zone
  pub copied_in : 11 < rule_of w → i < z.unrestricted_len
  copied_in g =
      omega (
        arith,
        unrestricted_length p.sound,
        fifteen
            (λ k. rule_of w ≡ k → 11 < k → i < length (meant (told m) z).unrestricted)
            (λ e l. absurd (omega arith))
            (λ e l. absurd (omega arith))
            (λ e l. absurd (omega arith))
            (λ e l. absurd (omega arith))
            (λ e l. absurd (omega arith))
            (λ e l. absurd (omega arith))
            (λ e l. absurd (omega arith))
            (λ e l. absurd (omega arith))
            (λ e l. absurd (omega arith))
            (λ e l. absurd (omega arith))
            (λ e l. absurd (omega arith))
            (λ e l. absurd (omega arith))
            (λ e l. (weakening_premise (meant (told m) z) w p.takes here e).0)
            (λ e l. (contraction_premise (meant (told m) z) w p.takes here e).0)
            (λ e l. (dereliction_premise (meant (told m) z) w p.takes here e).0)
            (rule_of w)
            (step_known (meant (told m) z) w p.takes)
            refl
            g,
      )

  contraction_few : rule_of w ≡ 13 → z.linear_len + z.unrestricted_len < 31
  contraction_few e =
      let t = contraction_premise (meant (told m) z) w p.takes here e in
      omega (
        arith,
        ap sequent.count t.1,
        few_first,
        length-append (meant (told m) z).linear (get_or (meant (told m) z).unrestricted i One ∷ get_or (meant (told m) z).unrestricted i One ∷ []),
        removed_length m (unrestricteds z) i (omega (arith, t.0, unrestricted_length p.sound, unrestricteds_length p.sound.fits)),
        unrestricteds_length p.sound.fits,
        linear_length p.sound,
      )

  module _ {z₁ : Zones} (g : 11 < rule_of w) (k₁ : Made z (without_unrestricted i) z₁) where
    in_copies : i < z.unrestricted_len
    in_copies = copied_in g

    pub copied_room : Fits z₁ × (z₁.linear_len + z₁.unrestricted_len < 31)
    copied_room = let c₁ = without_unrestricted_count p.sound.fits k₁ in_copies in (k₁.fits, omega (arith, p.sound.fits.few))

    pub contraction_room : {z₂ : Zones} {a : ℕ} → rule_of w ≡ 13 → Made z₁ (pushed a) z₂ → Fits z₂ × (z₂.linear_len + z₂.unrestricted_len < 31)
    contraction_room e k₂ =
        let c₁ = without_unrestricted_count p.sound.fits k₁ in_copies in
        let c₂ = pushed_count k₁.fits k₂ in
        (k₂.fits, omega (arith, contraction_few e))

    copy_held : get_or z.unrestricted i 0 < count m
    copy_held = within_unrestricted (count m) p.sound.fits p.sound.within i in_copies

    pub weakening_means : rule_of w ≡ 12 → Means m (first_of (step (meant (told m) z) w)) z₁
    weakening_means e = made_means p.sound k₁ tt (meant_made (told m) k₁ ∙ (weakening_premise (meant (told m) z) w p.takes here e).1)

    pub dereliction_means : {r : Zones} → (Unit {0} × (rule_of w ≡ 12 → ⊥)) × (rule_of w ≡ 13 → ⊥) → Made z₁ (pushed (get_or z.unrestricted i 0)) r → Means m (first_of (step (meant (told m) z) w)) r
    dereliction_means o k =
        let n₁ = o.0.1 in
        let n₂ = o.1 in
        let e : rule_of w ≡ 14 = omega (arith, step_known (meant (told m) z) w p.takes) in
        made_means (made_sound p.sound k₁ tt) k copy_held
        (meant_copied (told m) k₁ k ∙ rw (unrestricted_told p.sound i in_copies) at (dereliction_premise (meant (told m) z) w p.takes here e).1)

    pub contraction_means : {z₂ r : Zones} → rule_of w ≡ 13 → Made z₁ (pushed (get_or z.unrestricted i 0)) z₂ → Made z₂ (pushed (get_or z.unrestricted i 0)) r
        → Means m (first_of (step (meant (told m) z) w)) r
    contraction_means e k₂ k =
        made_means (made_sound (made_sound p.sound k₁ tt) k₂ copy_held) k copy_held
        (meant_copied_two (told m) k₁ k₂ k ∙ rw (unrestricted_told p.sound i in_copies) at (contraction_premise (meant (told m) z) w p.takes here e).1)

-- `second_premise`, with the place and the right part read
module _ {m : List ℕ} {z : Zones} {w i : ℕ} (p : Stepping₂ m z w) (here : i ≡ place_of w) where
  second_tag : 1 ≤ tag_of (get_or (meant (told m) z).linear i One)
  second_tag =
      ⊎_elim
      (λ e. omega (arith, (tensor_second (meant (told m) z) w p.takes here e).0))
      (λ e. omega (arith, (with_second (meant (told m) z) w p.takes here e).0))
      (two_rules (meant (told m) z) w p.takes here)

  pub second_in : i < z.linear_len
  second_in = tagged_in p.sound i second_tag

  module _ {b : ℕ} (fb : Field m (get_or z.linear i 0) 2 b) where
    pub tensor_second_means : {r : Zones} → rule_of w ≡ 4 → Made z (split 1 i (mask_of w) b) r → Means m (second_of (step (meant (told m) z) w)) r
    tensor_second_means e k =
        let t = tensor_second (meant (told m) z) w p.takes here e in
        made_means p.sound k (right_held p.sound second_in t.0 fb (omega arith) (omega arith))
        (meant_right_part (told m) k ∙ rw (right_is p.sound second_in t.0 fb (omega arith) (omega arith)) at t.1)

    pub with_second_means : {z₁ r : Zones} → (rule_of w ≡ 4 → ⊥) → Made z (without i) z₁ → Made z₁ (pushed b) r → Means m (second_of (step (meant (told m) z) w)) r
    with_second_means n k₁ k =
        let e : rule_of w ≡ 7 = ⊎_elim (λ e. absurd (n e)) (λ e. e) (two_rules (meant (told m) z) w p.takes here) in
        let t = with_second (meant (told m) z) w p.takes here e in
        made_means (made_sound p.sound k₁ tt) k (right_held p.sound second_in t.0 fb (omega arith) (omega arith))
        (meant_moved (told m) k₁ k ∙ rw (right_is p.sound second_in t.0 fb (omega arith) (omega arith)) at t.1)
