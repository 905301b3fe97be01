-- Laws of shortening. What shortens is built by the search's rules for its question, and what is built shortens, or 7; what was shortened expands to the same tree; a short tree made so is
-- regular and as high as its tree; what is held stays, each with its parts; a second time nothing is entered. Assumes nothing.
use Rattle.std.specs.Prelude.{◌≡◌, refl, true, false, ◌⊎◌, length}
use Rattle.std.proofs.Common.{sym, ap₂, subst, ◌∙◌, inl, arith, le-ltb}
use Rattle.std.proofs.Math.Path.{ap}
use mathlib.Core.List.{List, [], ◌∷◌, map}
use Rattle.std.proofs.Math.Option.{Option, none, some}
use Prim.Native.Nat.{ℕ, zero, suc, ◌≤◌, ◌^◌, max}
use Rattle.std.proofs.Math.Nat.{pow-le-pow_right}
use Rattle.logic.specs.Formula.{Formula}
use Rattle.logic.specs.Sequent.{Sequent, count}
use Rattle.logic.specs.Tree.{
  Rule,
  Axiom,
  Cut,
  OneIntro,
  BottomIntro,
  TensorIntro,
  ParIntro,
  TopIntro,
  WithIntro,
  PlusIntroLeft,
  PlusIntroRight,
  OfCourseIntro,
  WhyNotIntro,
  Weakening,
  Contraction,
  Dereliction,
  FocusPositive,
  FocusNegative,
  Blur,
  Tree,
  Trees,
  node,
  ∅,
  ◌▹◌,
  depth,
  depths,
  conclusions,
}
use Rattle.logic.specs.Answer.{held_full}
use Rattle.logic.specs.Held.{enter}
use Rattle.logic.specs.Limits.{Limits, at_most, exceeds, stated}
use Rattle.logic.specs.Built.{Built}
use Rattle.logic.specs.Concludes.{depth_bound}
use Rattle.logic.specs.Conclusion.{concluded}
use Rattle.short.specs.Steps.{may_take, premises_of}
use Rattle.short.specs.Short.{Short, short, Shorts, □, ◌▸◌, height, heights, many, follow}
use Rattle.short.specs.Making.{made, mismatch, refused, Making, answer, ◌and_then◌, unless, made_of, spelt}
use Rattle.short.specs.Shortening.{expand, expand_all, same_sequent, least_mask, least_place, with_mask, at_place, least, shrunk, shorten, shorten_all}
use Rattle.short.specs.Taken.{BuiltAll, none_left, one_more, Taken}
use Rattle.short.proofs.StepsLaws.{step_builds, built_taken, built_concluded, built_all_for, depth_positive}
use Rattle.short.specs.Few.{Few, Few*, FewEach, few_none, few_more}
use Rattle.short.specs.Closed.{Stay, Closed}
use Rattle.short.specs.EnteredLaws.{enter_stays, enter_closed, stay_trans}
use Rattle.short.specs.Outcome.{Keeps, MakesOrFull, Through, Shortens}
use Rattle.short.specs.MakingLaws.{
  result_of,
  held_after,
  with_held,
  made_mismatch,
  made_same,
  and_then_from,
  and_then_through,
  and_then_keeps,
  and_then_makes,
  paired_through,
  paired_made,
  answer_keeps,
  answer_makes,
  unless_keeps,
  unless_makes,
  unless_passed,
  unless_true,
  spelt_keeps,
  spelt_makes,
  spelt_again,
}
use Rattle.short.specs.Least.{Least}
use Rattle.short.proofs.LeastLaws.{
  same_sequent_iff,
  fits_takes,
  fits_premises,
  fits_place,
  takes_fits,
  least_zero,
  least_low,
  least_is,
  least_apart,
  least_found,
}
use Rattle.short.specs.Stages.{Grown, Shrunk}
use Rattle.short.proofs.ExpandLaws.{concluded_count, grown_made, expand_makes, paired_built}
use Rattle.short.specs.Regular.{has_short, RegularNode, Regular, Regular*}

-- ---- the least place and mask, whatever is held

module _ (r : Rule) (c : Sequent) (ds : List Sequent) where
  -- nothing is entered
  least_through : (fs : List Formula) {im : ℕ × ℕ} {gs : List Formula} → least r c ds fs ≡ (made im, gs) → least r c ds fs ≡ (made im, fs)
  least_through fs {im} e = least_is r c ds im.0 im.1 fs (least_apart r c ds fs (ap result_of e))

  least_makes : (i mask : ℕ) → Least r c ds i mask → MakesOrFull (least r c ds) (i, mask)
  least_makes i mask l = record { outcome = λ fs. inl (ap result_of (least_is r c ds i mask fs l)) }

  least_keeps : {I : List Formula → Type 0} → Keeps I (least r c ds)
  unfolding least
  least_keeps {I} = go (least_place r c ds)
    where
      at : (i : ℕ) (o : Option ℕ) → Keeps I (with_mask i o)
      at i none = answer_keeps mismatch
      at i (some mask) = answer_keeps (made (i, mask))

      go : (o : Option ℕ) → Keeps I (at_place r c ds o)
      go none = answer_keeps mismatch
      go (some i) = at i (least_mask r c ds i)

-- ---- a node's stages

module _ (limits : Limits) (deeper : List Sequent → Making Shorts) (r : Rule) (c : Sequent) (ds : List Sequent) (q : Sequent) where
  pub shrunk_stages : (fs : List Formula) {s : Short} {gs : List Formula} → shrunk limits deeper r c ds q fs ≡ (made s, gs)
      → Shrunk limits deeper r c ds q fs s gs
  unfolding shrunk
  shrunk_stages fs {s} {gs} e = first (and_then_through (spelt limits.held q) _ fs s gs e)
    where
      last : (between : List Formula) → spelt limits.held q fs ≡ (made tt, between) → c ≡ concluded q → (im : ℕ × ℕ)
          → least r c ds between ≡ (made im, between)
          → Through (deeper (premises_of r im.0 im.1 c)) (λ ss. answer (made (short r im.0 im.1 ss))) between s gs
          → Shrunk limits deeper r c ds q fs s gs
      last between spells concludes im steps x = record {
        between = between;
        place = im.0;
        mask = im.1;
        below = x.middle;
        spells = spells;
        concludes = concludes;
        steps = steps;
        premises = x.first ∙ ap (λ (y : List Formula). (made x.middle, y)) (ap held_after x.second);
        short_is = made_same x.second;
      }

      third : (between : List Formula) → spelt limits.held q fs ≡ (made tt, between) → c ≡ concluded q
          → Through (least r c ds) (λ im. deeper (premises_of r im.0 im.1 c) and_then λ ss. answer (made (short r im.0 im.1 ss))) between s gs
          → Shrunk limits deeper r c ds q fs s gs
      third between spells concludes v =
          let k = least_through r c ds between v.first in
          let same : v.between ≡ between = ap held_after (sym v.first ∙ k) in
          last between spells concludes v.middle k
          (and_then_through (deeper (premises_of r v.middle.0 v.middle.1 c)) _ between s gs (rw same at v.second))

      second : (between : List Formula) → spelt limits.held q fs ≡ (made tt, between)
          → Through (unless (same_sequent c (concluded q)))
          (λ _. least r c ds and_then λ im. deeper (premises_of r im.0 im.1 c) and_then λ ss. answer (made (short r im.0 im.1 ss))) between s gs
          → Shrunk limits deeper r c ds q fs s gs
      second between spells u =
          let p = unless_passed (same_sequent c (concluded q)) between u.first in
          third between spells ((same_sequent_iff c (concluded q)).0 p.0) (and_then_through (least r c ds) _ between s gs (rw p.1 at u.second))

      first : Through (spelt limits.held q)
          (λ _. unless (same_sequent c (concluded q)) and_then λ _. least r c ds and_then λ im.
          deeper (premises_of r im.0 im.1 c) and_then λ ss. answer (made (short r im.0 im.1 ss)))
          fs s gs → Shrunk limits deeper r c ds q fs s gs
      first t = second t.between t.first (and_then_through (unless (same_sequent c (concluded q))) _ t.between s gs t.second)

  pub shrunk_made : (fs : List Formula) {s : Short} {gs : List Formula} → Shrunk limits deeper r c ds q fs s gs
      → shrunk limits deeper r c ds q fs ≡ (made s, gs)
  unfolding shrunk
  shrunk_made fs {s} {gs} g =
      and_then_from (spelt limits.held q) _ fs (made tt) g.between g.spells
      ∙ and_then_from (unless (same_sequent c (concluded q))) _ g.between (made tt) g.between
      (unless_true _ _ ((same_sequent_iff c (concluded q)).1 g.concludes))
      ∙ and_then_from (least r c ds) _ g.between (made (g.place, g.mask)) g.between g.steps
      ∙ and_then_from (deeper (premises_of r g.place g.mask c)) _ g.between (made g.below) gs g.premises
      ∙ ap (λ (x : Short). (made x, gs)) (sym g.short_is)

  shrunk_keeps : {I : List Formula → Type 0} → ((f : Formula) (fs : List Formula) → I fs → I (enter f fs)) → ((qs : List Sequent) → Keeps I (deeper qs))
      → Keeps I (shrunk limits deeper r c ds q)
  unfolding shrunk
  shrunk_keeps h d =
      and_then_keeps _ (spelt_keeps h limits.held (made_of q.linear))
      (λ _. and_then_keeps _ (unless_keeps (same_sequent c (concluded q)))
      (λ _. and_then_keeps _ (least_keeps r c ds)
      (λ im. and_then_keeps _ (d (premises_of r im.0 im.1 c)) (λ ss. answer_keeps (made (short r im.0 im.1 ss))))))

  shrunk_makes : (i mask : ℕ) {ss : Shorts} → c ≡ concluded q → Least r c ds i mask → MakesOrFull (deeper (premises_of r i mask c)) ss
      → MakesOrFull (shrunk limits deeper r c ds q) (short r i mask ss)
  unfolding shrunk
  shrunk_makes i mask {ss} e l d =
      and_then_makes _ (spelt_makes limits.held (made_of q.linear))
      (and_then_makes _ (unless_makes (same_sequent c (concluded q)) ((same_sequent_iff c (concluded q)).1 e))
      (and_then_makes _ (least_makes r c ds i mask l) (and_then_makes _ d (answer_makes (short r i mask ss)))))

-- the place and mask of a node are the least
shrunk_least : {limits : Limits} {deeper : List Sequent → Making Shorts} {r : Rule} {c q : Sequent} {ds : List Sequent} {fs gs : List Formula} {s : Short}
    (g : Shrunk limits deeper r c ds q fs s gs) → Least r c ds g.place g.mask
shrunk_least {r} {c} {ds} g = least_apart r c ds g.between (ap result_of g.steps)

-- ---- what shortens is built

shrunk_built : {limits : Limits} {deeper : List Sequent → Making Shorts} {r : Rule} {c : Sequent} {q : Sequent} {fs gs : List Formula} {s : Short} (ts : Trees)
    (g : Shrunk limits deeper r c (conclusions ts) q fs s gs) → BuiltAll (depths ts) (premises_of r g.place g.mask c) ts
    → Built (depth (node r c ts)) q (node r c ts)
unfolding depth
shrunk_built {r} {c} {q} ts g d =
    let takes = fits_takes r c (conclusions ts) g.place g.mask (shrunk_least g).here in
    rw g.concludes (step_builds r g.place g.mask q (rw g.concludes at takes) (rw g.concludes at d))

mutual
  unfolding shorten shorten_all

  shorten_built : (limits : Limits) (t : Tree) (q : Sequent) (fs : List Formula) {s : Short} {gs : List Formula} → shorten limits t q fs ≡ (made s, gs)
      → Built (depth t) q t
  shorten_built limits (node r c ts) q fs e =
      let g = shrunk_stages limits (shorten_all limits ts) r c (conclusions ts) q fs e in
      shrunk_built ts g (shorten_all_built limits ts (premises_of r g.place g.mask c) g.between g.premises)

  shorten_all_built : (limits : Limits) (ts : Trees) (qs : List Sequent) (fs : List Formula) {ss : Shorts} {gs : List Formula}
      → shorten_all limits ts qs fs ≡ (made ss, gs)
      → BuiltAll (depths ts) qs ts
  shorten_all_built limits ∅ [] fs e = none_left
  shorten_all_built limits ∅ (q ∷ qs) fs e = absurd (made_mismatch e)
  shorten_all_built limits (t ▹ ts) [] fs e = absurd (made_mismatch e)
  shorten_all_built limits (t ▹ ts) (q ∷ qs) fs e =
      let p = paired_through (shorten limits t q) (shorten_all limits ts qs) ◌▸◌ fs e in
      paired_built t ts (shorten_built limits t q fs p.first) (shorten_all_built limits ts qs p.between p.second)

pub shortened_built : (limits : Limits) (t : Tree) (q : Sequent) (fs : List Formula) {s : Short} → (shorten limits t q fs).0 ≡ made s → Built (depth t) q t
shortened_built limits t q fs e = shorten_built limits t q fs (with_held _ e)

-- ---- what is built shortens

record ShortenAll (limits : Limits) (ts : Trees) (qs : List Sequent) : Type 0 where
  short_trees : Shorts
  makes : MakesOrFull (shorten_all limits ts qs) short_trees

built_node : (limits : Limits) (r : Rule) (c : Sequent) (ts : Trees) (n : ℕ) (q : Sequent) → Built (suc n) q (node r c ts)
    → ((qs : List Sequent) → BuiltAll n qs ts → ShortenAll limits ts qs) → Shortens limits (node r c ts) q
unfolding shorten
built_node limits r c ts n q d deeper =
    least_node (least_found r c (conclusions ts) s.place s.mask (takes_fits r c (conclusions ts) s.place s.mask s.takes those))
  where
    s : Taken n q (node r c ts)
    s = built_taken d

    those : map concluded (premises_of r s.place s.mask c) ≡ conclusions ts
    those = sym (built_concluded s.premises)

    made_below : (i mask : ℕ) → Least r c (conclusions ts) i mask → ShortenAll limits ts (premises_of r i mask c) → Shortens limits (node r c ts) q
    made_below i mask l below = record {
      short_tree = short r i mask below.short_trees;
      makes = shrunk_makes limits (shorten_all limits ts) r c (conclusions ts) q i mask s.concludes l below.makes;
    }

    -- the premises at the least place and mask conclude the same, so that the trees are built for them too
    least_node : (i : ℕ) × (mask : ℕ) × Least r c (conclusions ts) i mask → Shortens limits (node r c ts) q
    least_node (i, mask, l) =
        made_below i mask l (deeper (premises_of r i mask c) (built_all_for _ _ (those ∙ sym (fits_premises r c (conclusions ts) i mask l.here)) s.premises))

mutual
  unfolding shorten_all

  built_shorten : (limits : Limits) (t : Tree) (n : ℕ) (q : Sequent) → Built n q t → Shortens limits t q
  built_shorten limits (node r c ts) zero q d = absurd (omega (arith, depth_bound d, depth_positive (node r c ts)))
  built_shorten limits (node r c ts) (suc n) q d = built_node limits r c ts n q d (λ qs ds. built_shorten_all limits ts n qs ds)

  built_shorten_all : (limits : Limits) (ts : Trees) (n : ℕ) (qs : List Sequent) → BuiltAll n qs ts → ShortenAll limits ts qs
  built_shorten_all limits ∅ n [] none_left = record { short_trees = □; makes = answer_makes □ }
  built_shorten_all limits ∅ n (q ∷ qs) x3 = elim x3 [ ]
  built_shorten_all limits (t ▹ ts) n [] x4 = elim x4 [ ]
  built_shorten_all limits (t ▹ ts) n (q ∷ qs) (one_more d ds) =
      let s = built_shorten limits t n q d in
      let u = built_shorten_all limits ts n qs ds in
      record {
        short_trees = s.short_tree ▸ u.short_trees;
        makes = and_then_makes _ s.makes (and_then_makes _ u.makes (answer_makes (s.short_tree ▸ u.short_trees)));
      }

-- one short tree, whatever is held
pub built_shortens : (limits : Limits) {n : ℕ} {q : Sequent} {t : Tree} → Built n q t → Shortens limits t q
built_shortens limits {n} {q} {t} d = built_shorten limits t n q d

-- ---- what was shortened expands to the same tree

-- the premises have as many formulas as what the trees conclude
few_premises : (qs : List Sequent) (ts : Trees) → map concluded qs ≡ conclusions ts → Few* ts → FewEach (at_most 31) qs
unfolding conclusions exceeds
few_premises [] ts e f = few_none
few_premises (q ∷ qs) ∅ e f = let z : ◌≡◌ {A = ℕ} 0 1 = cc in absurd (omega arith)
few_premises (q ∷ qs) (node r c us ▹ ts) e f =
    let h : concluded q ≡ c = cc in
    let k : map concluded qs ≡ conclusions ts = cc in
    let counts : count c ≡ count q = ap (λ (x : Sequent). count x) (sym h) ∙ concluded_count q in
    few_more (le-ltb 31 (count q) (omega (arith, f.0.0))) (few_premises qs ts k f.1)

shrunk_grown : {limits : Limits} {deeper : List Sequent → Making Shorts} {r : Rule} {c : Sequent} {q : Sequent} {fs gs : List Formula} {s : Short}
    (growing : List Sequent → Making Trees) (ts : Trees) (g : Shrunk limits deeper r c (conclusions ts) q fs s gs)
    → FewEach limits.formulas (premises_of r g.place g.mask c)
    → growing (premises_of r g.place g.mask c) g.between ≡ (made ts, gs) → Grown limits growing r g.place g.mask q fs (node r c ts) gs
shrunk_grown {r} {c} {q} growing ts g few d = record {
  between = g.between;
  below = ts;
  spells = g.spells;
  takes = rw g.concludes at (fits_takes r c (conclusions ts) g.place g.mask (shrunk_least g).here);
  few = rw g.concludes at few;
  premises = rw g.concludes at d;
  tree_is = ap (λ (x : Sequent). node r x ts) g.concludes;
}

module _ (budget : ℕ) where
  mutual
    unfolding shorten shorten_all expand expand_all

    shorten_expand : (t : Tree) (q : Sequent) (fs : List Formula) {s : Short} {gs : List Formula} → shorten (stated budget) t q fs ≡ (made s, gs) → Few t
        → expand (stated budget) s q fs ≡ (made t, gs)
    shorten_expand (node r c ts) q fs {s} {gs} e f =
        let g = shrunk_stages (stated budget) (shorten_all (stated budget) ts) r c (conclusions ts) q fs e in
        let few = few_premises (premises_of r g.place g.mask c) ts (fits_premises r c (conclusions ts) g.place g.mask (shrunk_least g).here) f.1 in
        let deeper = shorten_expand_all ts (premises_of r g.place g.mask c) g.between g.premises f.1 in
        rw g.short_is
        (grown_made (stated budget) (expand_all (stated budget) g.below) r g.place g.mask q fs
        (shrunk_grown (expand_all (stated budget) g.below) ts g few deeper))

    shorten_expand_all : (ts : Trees) (qs : List Sequent) (fs : List Formula) {ss : Shorts} {gs : List Formula}
        → shorten_all (stated budget) ts qs fs ≡ (made ss, gs) → Few* ts
        → expand_all (stated budget) ss qs fs ≡ (made ts, gs)
    shorten_expand_all ∅ [] fs {ss} {gs} e f = rw (made_same e) (ap (λ (x : List Formula). (made ∅, x)) (ap held_after e))
    shorten_expand_all ∅ (q ∷ qs) fs e f = absurd (made_mismatch e)
    shorten_expand_all (t ▹ ts) [] fs e f = absurd (made_mismatch e)
    shorten_expand_all (t ▹ ts) (q ∷ qs) fs e f =
        let p = paired_through (shorten (stated budget) t q) (shorten_all (stated budget) ts qs) ◌▸◌ fs e in
        rw p.joined
        (paired_made (expand (stated budget) p.left q) (expand_all (stated budget) p.right qs) ◌▹◌ fs record {
          left = t;
          right = ts;
          between = p.between;
          first = shorten_expand t q fs p.first f.0;
          second = shorten_expand_all ts qs p.between p.second f.1;
          joined = refl;
        })

-- over the same formulas held
pub shorten_expands_same : (budget : ℕ) (t : Tree) (q : Sequent) (fs : List Formula) {s : Short} {gs : List Formula} → Few t
    → shorten (stated budget) t q fs ≡ (made s, gs)
    → expand (stated budget) s q fs ≡ (made t, gs)
shorten_expands_same budget t q fs f e = shorten_expand budget t q fs e f

-- and over any
pub shorten_expands : (budget : ℕ) (t : Tree) (q : Sequent) (fs : List Formula) {s : Short} → Few t → (shorten (stated budget) t q fs).0 ≡ made s
    → (gs : List Formula)
    → ((expand (stated budget) s q gs).0 ≡ made t) ⊎ ((expand (stated budget) s q gs).0 ≡ refused held_full)
shorten_expands budget t q fs {s} f e gs =
    (expand_makes (stated budget) s q fs (ap result_of (shorten_expands_same budget t q fs f (with_held _ e)))).outcome gs

-- ---- a short tree made so is regular, and as high as its tree

premises_follow : (r : Rule) (i mask : ℕ) (q : Sequent) → length (premises_of r i mask q) ≡ follow r
unfolding premises_of follow
premises_follow Axiom i mask q = refl
premises_follow OneIntro i mask q = refl
premises_follow BottomIntro i mask q = refl
premises_follow TensorIntro i mask q = refl
premises_follow ParIntro i mask q = refl
premises_follow TopIntro i mask q = refl
premises_follow WithIntro i mask q = refl
premises_follow PlusIntroLeft i mask q = refl
premises_follow PlusIntroRight i mask q = refl
premises_follow OfCourseIntro i mask q = refl
premises_follow WhyNotIntro i mask q = refl
premises_follow Weakening i mask q = refl
premises_follow Contraction i mask q = refl
premises_follow Dereliction i mask q = refl
premises_follow (Cut c) i mask q = refl
premises_follow (FocusPositive n) i mask q = refl
premises_follow (FocusNegative n) i mask q = refl
premises_follow Blur i mask q = refl

takes_form : (r : Rule) (i mask : ℕ) (q : Sequent) → may_take r i mask q ≡ true → has_short r ≡ true
unfolding may_take has_short
takes_form Axiom i mask q e = refl
takes_form OneIntro i mask q e = refl
takes_form BottomIntro i mask q e = refl
takes_form TensorIntro i mask q e = refl
takes_form ParIntro i mask q e = refl
takes_form TopIntro i mask q e = refl
takes_form WithIntro i mask q e = refl
takes_form PlusIntroLeft i mask q e = refl
takes_form PlusIntroRight i mask q e = refl
takes_form OfCourseIntro i mask q e = refl
takes_form WhyNotIntro i mask q e = refl
takes_form Weakening i mask q e = refl
takes_form Contraction i mask q e = refl
takes_form Dereliction i mask q e = refl
takes_form (Cut c) i mask q e = e
takes_form (FocusPositive n) i mask q e = e
takes_form (FocusNegative n) i mask q e = e
takes_form Blur i mask q e = e

shrunk_regular : {limits : Limits} {deeper : List Sequent → Making Shorts} {r : Rule} {c q : Sequent} {ds : List Sequent} {fs gs : List Formula} {s : Short}
    (g : Shrunk limits deeper r c ds q fs s gs) → count c ≤ 31 → many g.below ≡ length (premises_of r g.place g.mask c)
    → RegularNode r g.place g.mask g.below
shrunk_regular {r} {c} {ds} g few sized =
    let l = shrunk_least g in
    record {
      form = takes_form r g.place g.mask c (fits_takes r c ds g.place g.mask l.here);
      premises = sized ∙ premises_follow r g.place g.mask c;
      place_low = omega (arith, fits_place r c ds g.place g.mask l.here);
      mask_low = omega (arith, least_low r c ds g.place g.mask l, powers);
      mask_used = least_zero r c ds g.place g.mask l;
    }
  where
    powers : 2 ^ length c.linear ≤ 2 ^ 31
    powers = pow-le-pow_right {n = 2} (omega arith) {j = 31} (omega arith)

shorten_many : (limits : Limits) (ts : Trees) (qs : List Sequent) (fs : List Formula) {ss : Shorts} {gs : List Formula}
    → shorten_all limits ts qs fs ≡ (made ss, gs)
    → many ss ≡ length qs
unfolding shorten_all many
shorten_many limits ∅ [] fs e = rw (made_same e)
shorten_many limits ∅ (q ∷ qs) fs e = absurd (made_mismatch e)
shorten_many limits (t ▹ ts) [] fs e = absurd (made_mismatch e)
shorten_many limits (t ▹ ts) (q ∷ qs) fs e =
    let p = paired_through (shorten limits t q) (shorten_all limits ts qs) ◌▸◌ fs e in
    rw p.joined (ap suc (shorten_many limits ts qs p.between p.second))

mutual
  unfolding shorten shorten_all

  shorten_regular : (limits : Limits) (t : Tree) (q : Sequent) (fs : List Formula) {s : Short} {gs : List Formula} → shorten limits t q fs ≡ (made s, gs)
      → Few t → Regular s
  shorten_regular limits (node r c ts) q fs e f =
      let g = shrunk_stages limits (shorten_all limits ts) r c (conclusions ts) q fs e in
      rw g.short_is (
        shrunk_regular g f.0 (shorten_many limits ts (premises_of r g.place g.mask c) g.between g.premises),
        shorten_all_regular limits ts (premises_of r g.place g.mask c) g.between g.premises f.1,
      )

  shorten_all_regular : (limits : Limits) (ts : Trees) (qs : List Sequent) (fs : List Formula) {ss : Shorts} {gs : List Formula}
      → shorten_all limits ts qs fs ≡ (made ss, gs)
      → Few* ts → Regular* ss
  shorten_all_regular limits ∅ [] fs e f = rw (made_same e) tt
  shorten_all_regular limits ∅ (q ∷ qs) fs e f = absurd (made_mismatch e)
  shorten_all_regular limits (t ▹ ts) [] fs e f = absurd (made_mismatch e)
  shorten_all_regular limits (t ▹ ts) (q ∷ qs) fs e f =
      let p = paired_through (shorten limits t q) (shorten_all limits ts qs) ◌▸◌ fs e in
      rw p.joined (shorten_regular limits t q fs p.first f.0, shorten_all_regular limits ts qs p.between p.second f.1)

pub shortened_regular : (limits : Limits) (t : Tree) (q : Sequent) (fs : List Formula) {s : Short} → Few t → (shorten limits t q fs).0 ≡ made s → Regular s
shortened_regular limits t q fs f e = shorten_regular limits t q fs (with_held _ e) f

mutual
  unfolding shorten shorten_all height heights depth depths

  shorten_height : (limits : Limits) (t : Tree) (q : Sequent) (fs : List Formula) {s : Short} {gs : List Formula} → shorten limits t q fs ≡ (made s, gs)
      → height s ≡ depth t
  shorten_height limits (node r c ts) q fs e =
      let g = shrunk_stages limits (shorten_all limits ts) r c (conclusions ts) q fs e in
      rw g.short_is (ap suc (shorten_heights limits ts (premises_of r g.place g.mask c) g.between g.premises))

  shorten_heights : (limits : Limits) (ts : Trees) (qs : List Sequent) (fs : List Formula) {ss : Shorts} {gs : List Formula}
      → shorten_all limits ts qs fs ≡ (made ss, gs)
      → heights ss ≡ depths ts
  shorten_heights limits ∅ [] fs e = rw (made_same e)
  shorten_heights limits ∅ (q ∷ qs) fs e = absurd (made_mismatch e)
  shorten_heights limits (t ▹ ts) [] fs e = absurd (made_mismatch e)
  shorten_heights limits (t ▹ ts) (q ∷ qs) fs e =
      let p = paired_through (shorten limits t q) (shorten_all limits ts qs) ◌▸◌ fs e in
      rw p.joined (ap₂ max (shorten_height limits t q fs p.first) (shorten_heights limits ts qs p.between p.second))

pub shortened_height : (limits : Limits) (t : Tree) (q : Sequent) (fs : List Formula) {s : Short} → (shorten limits t q fs).0 ≡ made s → height s ≡ depth t
shortened_height limits t q fs e = shorten_height limits t q fs (with_held _ e)

-- ---- what is held stays, each with its parts

module _ {I : List Formula → Type 0} (h : (f : Formula) (fs : List Formula) → I fs → I (enter f fs)) (limits : Limits) where
  mutual
    unfolding shorten shorten_all

    pub shorten_keeps : (t : Tree) (q : Sequent) → Keeps I (shorten limits t q)
    shorten_keeps (node r c ts) q = shrunk_keeps limits (shorten_all limits ts) r c (conclusions ts) q h (λ qs. shorten_all_keeps ts qs)

    pub shorten_all_keeps : (ts : Trees) (qs : List Sequent) → Keeps I (shorten_all limits ts qs)
    shorten_all_keeps ∅ [] = answer_keeps (made □)
    shorten_all_keeps ∅ (q ∷ qs) = answer_keeps mismatch
    shorten_all_keeps (t ▹ ts) [] = answer_keeps mismatch
    shorten_all_keeps (t ▹ ts) (q ∷ qs) = and_then_keeps _ (shorten_keeps t q) (λ s. and_then_keeps _ (shorten_all_keeps ts qs) (λ ss. answer_keeps (made (s ▸ ss))))

pub shorten_stays : (limits : Limits) (t : Tree) (q : Sequent) (fs : List Formula) → Stay fs (shorten limits t q fs).1
shorten_stays limits t q fs = record { stays = λ f e. (shorten_keeps (λ g hs. enter_stays g hs f) limits t q).keeps fs e }

shorten_all_stays : (limits : Limits) (ts : Trees) (qs : List Sequent) (fs : List Formula) → Stay fs (shorten_all limits ts qs fs).1
shorten_all_stays limits ts qs fs = record { stays = λ f e. (shorten_all_keeps (λ g hs. enter_stays g hs f) limits ts qs).keeps fs e }

pub shorten_closed : (limits : Limits) (t : Tree) (q : Sequent) (fs : List Formula) → Closed fs → Closed (shorten limits t q fs).1
shorten_closed limits t q fs c = (shorten_keeps enter_closed limits t q).keeps fs c

-- ---- a second time

module _ (limits : Limits) {hs : List Formula} (c : Closed hs) (l : exceeds limits.held (length hs) ≡ false) where
  mutual
    unfolding shorten shorten_all

    shortened_again : (t : Tree) (q : Sequent) (fs : List Formula) {s : Short} {gs : List Formula} → shorten limits t q fs ≡ (made s, gs) → Stay gs hs
        → shorten limits t q hs ≡ (made s, hs)
    shortened_again (node r d ts) q fs {s} {gs} e k =
        let g = shrunk_stages limits (shorten_all limits ts) r d (conclusions ts) q fs e in
        let kept : Stay g.between gs =
        subst (Stay g.between) (ap held_after g.premises) (shorten_all_stays limits ts (premises_of r g.place g.mask d) g.between) in
        shrunk_made limits (shorten_all limits ts) r d (conclusions ts) q hs record {
          between = hs;
          place = g.place;
          mask = g.mask;
          below = g.below;
          spells = spelt_again limits.held (made_of q.linear) fs g.spells (stay_trans kept k) c l;
          concludes = g.concludes;
          steps = least_is r d (conclusions ts) g.place g.mask hs (shrunk_least g);
          premises = shortened_all_again ts (premises_of r g.place g.mask d) g.between g.premises k;
          short_is = g.short_is;
        }

    shortened_all_again : (ts : Trees) (qs : List Sequent) (fs : List Formula) {ss : Shorts} {gs : List Formula} → shorten_all limits ts qs fs ≡ (made ss, gs)
        → Stay gs hs
        → shorten_all limits ts qs hs ≡ (made ss, hs)
    shortened_all_again ∅ [] fs e k = ap (λ (x : Shorts). (made x, hs)) (sym (made_same e))
    shortened_all_again ∅ (q ∷ qs) fs e k = absurd (made_mismatch e)
    shortened_all_again (t ▹ ts) [] fs e k = absurd (made_mismatch e)
    shortened_all_again (t ▹ ts) (q ∷ qs) fs {ss} {gs} e k =
        let p = paired_through (shorten limits t q) (shorten_all limits ts qs) ◌▸◌ fs e in
        let kept : Stay p.between gs = subst (Stay p.between) (ap held_after p.second) (shorten_all_stays limits ts qs p.between) in
        paired_made (shorten limits t q) (shorten_all limits ts qs) ◌▸◌ hs record {
          left = p.left;
          right = p.right;
          between = hs;
          first = shortened_again t q fs p.first (stay_trans kept k);
          second = shortened_all_again ts qs p.between p.second k;
          joined = p.joined;
        }

-- over the formulas held, and more
pub shorten_again : (limits : Limits) (t : Tree) (q : Sequent) (fs : List Formula) {s : Short} {gs hs : List Formula} → shorten limits t q fs ≡ (made s, gs)
    → Stay gs hs → Closed hs
    → exceeds limits.held (length hs) ≡ false → shorten limits t q hs ≡ (made s, hs)
shorten_again limits t q fs e k c l = shortened_again limits c l t q fs e k
