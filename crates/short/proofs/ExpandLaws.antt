-- Laws of expanding. What expands is built by the search's rules; its sequents are few; what is held stays, each with its parts; whatever is held, the same short tree expands to the same
-- tree or to 7; and a second time nothing is entered. Assumes nothing.
use Rattle.std.specs.Prelude.{◌≡◌, refl, Bool, true, false, cond, ℕ, suc, ◌+◌, ◌≤◌, max, length}
use Rattle.std.proofs.Common.{sym, subst, ◌∙◌, arith, ltb-false}
use Rattle.std.proofs.Math.Path.{ap}
use mathlib.Core.List.{List, [], ◌∷◌}
use Rattle.logic.specs.Formula.{Formula, spell}
use Rattle.logic.specs.Sequent.{Sequent, count}
use Rattle.logic.specs.Tree.{Rule, Tree, Trees, node, ∅, ◌▹◌, depth, depths}
use Rattle.logic.specs.Held.{enter}
use Rattle.logic.specs.Limits.{Limits, at_most, exceeds, stated}
use Rattle.logic.specs.Built.{decomposable, Built}
use Rattle.logic.specs.Conclusion.{spell_first, concluded}
use Rattle.short.specs.Steps.{may_take, premises_of}
use Rattle.short.specs.Short.{Short, short, Shorts, □, ◌▸◌}
use Rattle.short.specs.Making.{made, mismatch, Making, answer, ◌and_then◌, unless, made_of, spelt, few_each}
use Rattle.short.specs.Shortening.{grown, expand, expand_all}
use Rattle.short.specs.Taken.{BuiltAll, none_left, one_more}
use Rattle.short.proofs.StepsLaws.{step_builds, built_more, built_all_more}
use Rattle.short.specs.Few.{Few, Few*, FewEach, few_more}
use Rattle.short.specs.Closed.{Stay, Closed}
use Rattle.short.specs.EnteredLaws.{enter_stays, enter_closed, stay_trans}
use Rattle.short.specs.Outcome.{Keeps, MakesOrFull, Through}
use Rattle.short.specs.MakingLaws.{
  held_after,
  with_held,
  made_mismatch,
  made_same,
  and_then_from,
  and_then_through,
  and_then_keeps,
  and_then_makes,
  paired_through,
  paired_made,
  answer_keeps,
  answer_makes,
  unless_keeps,
  unless_makes,
  unless_passed,
  unless_true,
  spelt_keeps,
  spelt_makes,
  spelt_again,
  few_each_keeps,
  few_each_passed,
  few_each_made,
  few_each_makes,
}
use Rattle.short.specs.Stages.{Grown}

-- ---- a node's stages

module _ (limits : Limits) (deeper : List Sequent → Making Trees) (r : Rule) (i mask : ℕ) (q : Sequent) where
  pub grown_stages : (fs : List Formula) {t : Tree} {gs : List Formula} → grown limits deeper r i mask q fs ≡ (made t, gs)
      → Grown limits deeper r i mask q fs t gs
  unfolding grown
  grown_stages fs {t} {gs} e = first (and_then_through (spelt limits.held q) _ fs t gs e)
    where
      premises_are : List Sequent
      premises_are = premises_of r i mask (concluded q)

      last : (between : List Formula) → spelt limits.held q fs ≡ (made tt, between) → may_take r i mask (concluded q) ≡ true
          → FewEach limits.formulas premises_are
          → Through (deeper premises_are) (λ ts. answer (made (node r (concluded q) ts))) between t gs → Grown limits deeper r i mask q fs t gs
      last between spells takes few x = record {
        between = between;
        below = x.middle;
        spells = spells;
        takes = takes;
        few = few;
        premises = x.first ∙ ap (λ (y : List Formula). (made x.middle, y)) (ap held_after x.second);
        tree_is = made_same x.second;
      }

      third : (between : List Formula) → spelt limits.held q fs ≡ (made tt, between) → may_take r i mask (concluded q) ≡ true
          → Through (few_each limits.formulas premises_are) (λ _. deeper premises_are and_then λ ts. answer (made (node r (concluded q) ts))) between t gs
          → Grown limits deeper r i mask q fs t gs
      third between spells takes v =
          let w = few_each_passed limits.formulas premises_are between v.first in
          last between spells takes w.0 (and_then_through (deeper premises_are) _ between t gs (rw w.1 at v.second))

      second : (between : List Formula) → spelt limits.held q fs ≡ (made tt, between)
          → Through (unless (may_take r i mask (concluded q)))
          (λ _. few_each limits.formulas premises_are and_then λ _. deeper premises_are and_then λ ts. answer (made (node r (concluded q) ts))) between t gs
          → Grown limits deeper r i mask q fs t gs
      second between spells u =
          let p = unless_passed (may_take r i mask (concluded q)) between u.first in
          third between spells p.0 (and_then_through (few_each limits.formulas premises_are) _ between t gs (rw p.1 at u.second))

      first : Through (spelt limits.held q)
          (λ _. unless (may_take r i mask (concluded q)) and_then λ _. few_each limits.formulas premises_are and_then λ _.
          deeper premises_are and_then λ ts. answer (made (node r (concluded q) ts)))
          fs t gs → Grown limits deeper r i mask q fs t gs
      first x = second x.between x.first (and_then_through (unless (may_take r i mask (concluded q))) _ x.between t gs x.second)

  pub grown_made : (fs : List Formula) {t : Tree} {gs : List Formula} → Grown limits deeper r i mask q fs t gs
      → grown limits deeper r i mask q fs ≡ (made t, gs)
  unfolding grown
  grown_made fs {t} {gs} g =
      and_then_from (spelt limits.held q) _ fs (made tt) g.between g.spells
      ∙ and_then_from (unless (may_take r i mask (concluded q))) _ g.between (made tt) g.between (unless_true _ _ g.takes)
      ∙ and_then_from (few_each limits.formulas (premises_of r i mask (concluded q))) _ g.between (made tt) g.between (few_each_made g.between g.few)
      ∙ and_then_from (deeper (premises_of r i mask (concluded q))) _ g.between (made g.below) gs g.premises
      ∙ ap (λ (x : Tree). (made x, gs)) (sym g.tree_is)

  grown_keeps : {I : List Formula → Type 0} → ((f : Formula) (fs : List Formula) → I fs → I (enter f fs)) → ((qs : List Sequent) → Keeps I (deeper qs))
      → Keeps I (grown limits deeper r i mask q)
  unfolding grown
  grown_keeps h d =
      and_then_keeps _ (spelt_keeps h limits.held (made_of q.linear))
      (λ _. and_then_keeps _ (unless_keeps (may_take r i mask (concluded q)))
      (λ _. and_then_keeps _ (few_each_keeps limits.formulas (premises_of r i mask (concluded q)))
      (λ _. and_then_keeps _ (d (premises_of r i mask (concluded q))) (λ ts. answer_keeps (made (node r (concluded q) ts))))))

  grown_makes : {ts : Trees} → may_take r i mask (concluded q) ≡ true → FewEach limits.formulas (premises_of r i mask (concluded q))
      → MakesOrFull (deeper (premises_of r i mask (concluded q))) ts → MakesOrFull (grown limits deeper r i mask q) (node r (concluded q) ts)
  unfolding grown
  grown_makes {ts} h f d =
      and_then_makes _ (spelt_makes limits.held (made_of q.linear))
      (and_then_makes _ (unless_makes (may_take r i mask (concluded q)) h)
      (and_then_makes _ (few_each_makes f) (and_then_makes _ d (answer_makes (node r (concluded q) ts)))))

-- ---- what expands is built

grown_built : {limits : Limits} {deeper : List Sequent → Making Trees} {r : Rule} {i mask : ℕ} {q : Sequent} {fs gs : List Formula} {t : Tree}
    (g : Grown limits deeper r i mask q fs t gs) → BuiltAll (depths g.below) (premises_of r i mask (concluded q)) g.below → Built (depth t) q t
unfolding depth
grown_built {r} {i} {mask} {q} g d = rw g.tree_is (step_builds r i mask q g.takes d)

pub paired_built : {q : Sequent} {qs : List Sequent} (t : Tree) (ts : Trees) → Built (depth t) q t → BuiltAll (depths ts) qs ts
    → BuiltAll (depths (t ▹ ts)) (q ∷ qs) (t ▹ ts)
unfolding depths
paired_built t ts d ds = one_more (built_more (max (depth t) (depths ts)) (omega arith) d) (built_all_more (max (depth t) (depths ts)) (omega arith) ds)

mutual
  unfolding expand expand_all

  expand_built : (limits : Limits) (s : Short) (q : Sequent) (fs : List Formula) {t : Tree} {gs : List Formula} → expand limits s q fs ≡ (made t, gs)
      → Built (depth t) q t
  expand_built limits (short r i mask ss) q fs e =
      let g = grown_stages limits (expand_all limits ss) r i mask q fs e in
      grown_built g (expand_all_built limits ss (premises_of r i mask (concluded q)) g.between g.premises)

  expand_all_built : (limits : Limits) (ss : Shorts) (qs : List Sequent) (fs : List Formula) {ts : Trees} {gs : List Formula}
      → expand_all limits ss qs fs ≡ (made ts, gs) → BuiltAll (depths ts) qs ts
  expand_all_built limits □ [] fs e = rw (made_same e) none_left
  expand_all_built limits □ (q ∷ qs) fs e = absurd (made_mismatch e)
  expand_all_built limits (s ▸ ss) [] fs e = absurd (made_mismatch e)
  expand_all_built limits (s ▸ ss) (q ∷ qs) fs e =
      let p = paired_through (expand limits s q) (expand_all limits ss qs) ◌▹◌ fs e in
      rw p.joined
      (paired_built p.left p.right (expand_built limits s q fs p.first) (expand_all_built limits ss qs p.between p.second))

pub expand_builds : (limits : Limits) (s : Short) (q : Sequent) (fs : List Formula) {t : Tree} → (expand limits s q fs).0 ≡ made t → Built (depth t) q t
expand_builds limits s q fs e = expand_built limits s q fs (with_held _ e)

-- ---- its sequents are few

pub spell_first_length : (fs : List Formula) → length (spell_first fs) ≡ length fs
unfolding spell_first
spell_first_length [] = refl
spell_first_length (f ∷ fs) = go (decomposable f) (spell_first fs) (spell_first_length fs)
  where
    go : (d : Bool) (gs : List Formula) → length gs ≡ length fs → length (cond d (spell f ∷ fs) (f ∷ gs)) ≡ suc (length fs)
    go true gs e = refl
    go false gs e = ap suc e

pub concluded_count : (q : Sequent) → count (concluded q) ≡ count q
concluded_count q = ap (λ (n : ℕ). n + length q.unrestricted) (spell_first_length q.linear)

below_limit : (n : ℕ) → exceeds (at_most 31) n ≡ false → n ≤ 31
unfolding exceeds
below_limit n e = ltb-false 31 n e

few_node : (r : Rule) (q : Sequent) (ts : Trees) → count q ≤ 31 → Few* ts → Few (node r (concluded q) ts)
few_node r q ts h d = (omega (arith, concluded_count q), d)

mutual
  unfolding expand expand_all

  expanded_few : (budget : ℕ) (s : Short) (q : Sequent) (fs : List Formula) {t : Tree} {gs : List Formula} → expand (stated budget) s q fs ≡ (made t, gs)
      → count q ≤ 31 → Few t
  expanded_few budget (short r i mask ss) q fs e h =
      let g = grown_stages (stated budget) (expand_all (stated budget) ss) r i mask q fs e in
      rw g.tree_is (few_node r q g.below h (expanded_all_few budget ss (premises_of r i mask (concluded q)) g.between g.premises g.few))

  expanded_all_few : (budget : ℕ) (ss : Shorts) (qs : List Sequent) (fs : List Formula) {ts : Trees} {gs : List Formula}
      → expand_all (stated budget) ss qs fs ≡ (made ts, gs) → FewEach (at_most 31) qs → Few* ts
  expanded_all_few budget □ [] fs e d = rw (made_same e) tt
  expanded_all_few budget □ (q ∷ qs) fs e d = absurd (made_mismatch e)
  expanded_all_few budget (s ▸ ss) [] fs e d = absurd (made_mismatch e)
  expanded_all_few budget (s ▸ ss) (q ∷ qs) fs e (few_more h d) =
      let p = paired_through (expand (stated budget) s q) (expand_all (stated budget) ss qs) ◌▹◌ fs e in
      rw p.joined (expanded_few budget s q fs p.first (below_limit (count q) h), expanded_all_few budget ss qs p.between p.second d)

pub expand_few : (budget : ℕ) (s : Short) (q : Sequent) (fs : List Formula) {t : Tree} → count q ≤ 31 → (expand (stated budget) s q fs).0 ≡ made t → Few t
expand_few budget s q fs h e = expanded_few budget s q fs (with_held _ e) h

-- ---- what is held stays, each with its parts

module _ {I : List Formula → Type 0} (h : (f : Formula) (fs : List Formula) → I fs → I (enter f fs)) (limits : Limits) where
  mutual
    unfolding expand expand_all

    pub expand_keeps : (s : Short) (q : Sequent) → Keeps I (expand limits s q)
    expand_keeps (short r i mask ss) q = grown_keeps limits (expand_all limits ss) r i mask q h (λ qs. expand_all_keeps ss qs)

    pub expand_all_keeps : (ss : Shorts) (qs : List Sequent) → Keeps I (expand_all limits ss qs)
    expand_all_keeps □ [] = answer_keeps (made ∅)
    expand_all_keeps □ (q ∷ qs) = answer_keeps mismatch
    expand_all_keeps (s ▸ ss) [] = answer_keeps mismatch
    expand_all_keeps (s ▸ ss) (q ∷ qs) = and_then_keeps _ (expand_keeps s q) (λ t. and_then_keeps _ (expand_all_keeps ss qs) (λ ts. answer_keeps (made (t ▹ ts))))

pub expand_stays : (limits : Limits) (s : Short) (q : Sequent) (fs : List Formula) → Stay fs (expand limits s q fs).1
expand_stays limits s q fs = record { stays = λ f e. (expand_keeps (λ g hs. enter_stays g hs f) limits s q).keeps fs e }

expand_all_stays : (limits : Limits) (ss : Shorts) (qs : List Sequent) (fs : List Formula) → Stay fs (expand_all limits ss qs fs).1
expand_all_stays limits ss qs fs = record { stays = λ f e. (expand_all_keeps (λ g hs. enter_stays g hs f) limits ss qs).keeps fs e }

pub expand_closed : (limits : Limits) (s : Short) (q : Sequent) (fs : List Formula) → Closed fs → Closed (expand limits s q fs).1
expand_closed limits s q fs c = (expand_keeps enter_closed limits s q).keeps fs c

-- ---- whatever is held

mutual
  unfolding expand expand_all

  expanded_makes : (limits : Limits) (s : Short) (q : Sequent) (fs : List Formula) {t : Tree} {gs : List Formula} → expand limits s q fs ≡ (made t, gs)
      → MakesOrFull (expand limits s q) t
  expanded_makes limits (short r i mask ss) q fs e =
      let g = grown_stages limits (expand_all limits ss) r i mask q fs e in
      rw g.tree_is
      (grown_makes limits (expand_all limits ss) r i mask q g.takes g.few
      (expanded_all_makes limits ss (premises_of r i mask (concluded q)) g.between g.premises))

  expanded_all_makes : (limits : Limits) (ss : Shorts) (qs : List Sequent) (fs : List Formula) {ts : Trees} {gs : List Formula}
      → expand_all limits ss qs fs ≡ (made ts, gs)
      → MakesOrFull (expand_all limits ss qs) ts
  expanded_all_makes limits □ [] fs e = rw (made_same e) (answer_makes ∅)
  expanded_all_makes limits □ (q ∷ qs) fs e = absurd (made_mismatch e)
  expanded_all_makes limits (s ▸ ss) [] fs e = absurd (made_mismatch e)
  expanded_all_makes limits (s ▸ ss) (q ∷ qs) fs e =
      let p = paired_through (expand limits s q) (expand_all limits ss qs) ◌▹◌ fs e in
      rw p.joined
      (and_then_makes _ (expanded_makes limits s q fs p.first)
      (and_then_makes _ (expanded_all_makes limits ss qs p.between p.second) (answer_makes (p.left ▹ p.right))))

pub expand_makes : (limits : Limits) (s : Short) (q : Sequent) (fs : List Formula) {t : Tree} → (expand limits s q fs).0 ≡ made t
    → MakesOrFull (expand limits s q) t
expand_makes limits s q fs e = expanded_makes limits s q fs (with_held _ e)

-- ---- a second time

module _ (limits : Limits) {hs : List Formula} (c : Closed hs) (l : exceeds limits.held (length hs) ≡ false) where
  mutual
    unfolding expand expand_all

    expanded_again : (s : Short) (q : Sequent) (fs : List Formula) {t : Tree} {gs : List Formula} → expand limits s q fs ≡ (made t, gs) → Stay gs hs
        → expand limits s q hs ≡ (made t, hs)
    expanded_again (short r i mask ss) q fs {t} {gs} e k =
        let g = grown_stages limits (expand_all limits ss) r i mask q fs e in
        let kept : Stay g.between gs =
        subst (Stay g.between) (ap held_after g.premises) (expand_all_stays limits ss (premises_of r i mask (concluded q)) g.between) in
        grown_made limits (expand_all limits ss) r i mask q hs record {
          between = hs;
          below = g.below;
          spells = spelt_again limits.held (made_of q.linear) fs g.spells (stay_trans kept k) c l;
          takes = g.takes;
          few = g.few;
          premises = expanded_all_again ss (premises_of r i mask (concluded q)) g.between g.premises k;
          tree_is = g.tree_is;
        }

    expanded_all_again : (ss : Shorts) (qs : List Sequent) (fs : List Formula) {ts : Trees} {gs : List Formula} → expand_all limits ss qs fs ≡ (made ts, gs)
        → Stay gs hs
        → expand_all limits ss qs hs ≡ (made ts, hs)
    expanded_all_again □ [] fs e k = ap (λ (x : Trees). (made x, hs)) (sym (made_same e))
    expanded_all_again □ (q ∷ qs) fs e k = absurd (made_mismatch e)
    expanded_all_again (s ▸ ss) [] fs e k = absurd (made_mismatch e)
    expanded_all_again (s ▸ ss) (q ∷ qs) fs {ts} {gs} e k =
        let p = paired_through (expand limits s q) (expand_all limits ss qs) ◌▹◌ fs e in
        let kept : Stay p.between gs = subst (Stay p.between) (ap held_after p.second) (expand_all_stays limits ss qs p.between) in
        paired_made (expand limits s q) (expand_all limits ss qs) ◌▹◌ hs record {
          left = p.left;
          right = p.right;
          between = hs;
          first = expanded_again s q fs p.first (stay_trans kept k);
          second = expanded_all_again ss qs p.between p.second k;
          joined = p.joined;
        }

-- over the formulas held, and more
pub expand_again : (limits : Limits) (s : Short) (q : Sequent) (fs : List Formula) {t : Tree} {gs hs : List Formula} → expand limits s q fs ≡ (made t, gs)
    → Stay gs hs → Closed hs
    → exceeds limits.held (length hs) ≡ false → expand limits s q hs ≡ (made t, hs)
expand_again limits s q fs e k c l = expanded_again limits c l s q fs e k
