-- Laws of expanding in bytes: runs of bytes one after another, a node's bytes before its premises', what stands at a place, and each way out of the walk.
-- Assumes nothing.
use Rattle.std.specs.Prelude.{◌≡◌, Option, None, Some, Ok, Err, refl, Bool, true, false, not, ℕ, ◌+◌, ◌-◌, ◌≤◌, ◌<◌, min, eqb, get_or}
use Rattle.std.proofs.Math.Path.{sym, ap}
use Rattle.std.proofs.Common.{ap₂, subst, ◌∙◌, ⊎_elim, arith, eqb-true, eq-eqb, ne_eqb, length-append}
use mathlib.Core.List.{List, [], ◌∷◌, ◌++◌, append_assoc, append-nil}
use Rattle.std.proofs.lemmas.Bool.{eqb-false}
use Rattle.std.proofs.Math.ListN.{length, get_or-eq_default}
use Rattle.std.proofs.lemmas.List.Edits.{sets}
use Rattle.std.proofs.Math.Seq.{length-sets}
use Rattle.logic.specs.Formula.{Formula}
use Rattle.logic.specs.Sequent.{Sequent}
use Rattle.logic.specs.Answer.{Refusal, wrong_number, wrong_length, wrong_tag, too_high, too_many, held_full, budget_spent, failures_full, output_short, wrong_setting, wrong_memory}
use Rattle.logic.specs.Limits.{at_most}
use Rattle.logic.specs.Conclusion.{concluded}
use Rattle.logic.specs.Tree.{
  Rule,
  Axiom,
  Cut,
  OneIntro,
  BottomIntro,
  TensorIntro,
  ParIntro,
  TopIntro,
  WithIntro,
  PlusIntroLeft,
  PlusIntroRight,
  OfCourseIntro,
  WhyNotIntro,
  Weakening,
  Contraction,
  Dereliction,
  FocusPositive,
  FocusNegative,
  Blur,
  Tree,
  Trees,
  node,
  ∅,
  ◌▹◌,
  premise_count,
}
use Rattle.wire.specs.Write.{write_zone, write_rule, write_node, write_nodes}
use Rattle.formula.proofs.RewritingLaws.{sets_append}
use Rattle.tree.specs.Stands.{Stands}
use Rattle.tree.specs.Places.{rule_number}
use Rattle.held.specs.Words.{view, told}
use Rattle.held.specs.OrderLaws.{le_or_lt}
use Rattle.held.specs.WordsLaws.{extends_trans}
use Rattle.zones.specs.declared.Zones.{Zones}
use Rattle.expand.specs.Short.{rule_of, word, step}
use Rattle.expand.specs.Writing.{Wrote, Means, premise_counts, first_of, second_of, Stepping, Stepping₂}
use Rattle.expand.specs.Trees.{head, HeadLength, HeadRoom}
use Rattle.short.specs.Steps.{may_take, premises_of}
use Rattle.short.specs.Short.{Short, short, Shorts, □, ◌▸◌, many, follow}
use Rattle.short.specs.Making.{Result, made, mismatch, refused, answer, spelt, few_each}
use Rattle.short.specs.Shortening.{expand, expand_all}
use Rattle.short_bytes.specs.Write.{write_short_node, write_short_nodes}
use Rattle.short_bytes.specs.Fits.{HasShort, ShortNodesFit}
use Rattle.short_read.specs.Reading.{node_bytes, four}
use Rattle.short_read.specs.Places.{NodeThere, TwoThere}
use Rattle.short_read.specs.ReadingLaws.{short_node_there, shorts_none, shorts_one, shorts_two}
use Rattle.step.specs.Taking.{sequent, SpeltTo, Asked, Crowded, Taken}
use Rattle.step.specs.TakingLaws.{
  taken_named,
  taken_rule_of,
  taken_rule_of_low,
  premised_follow,
  TwoPremises,
  Premised,
  no_premise,
  one_premise,
  two_premises,
  premised,
  premised_none,
  premised_one,
  premised_two,
  asked_taken,
  sequent_same,
  taken_grows,
}
use Rattle.grow.specs.declared.Node.{Node}
use Rattle.grow.specs.declared.Stop.{Stop}
use Rattle.grow.specs.declared.Stop.TheVariants.{Full, Mismatch, TooMany}
use Rattle.grow.specs.Growing.{limits, MaskAt, NodeAt, too_long, Putting, on, Put, PutHead, Growing, Grow, Whole, Within, Refuses, WholeAs, Told, GrownAs, Grows}
use Rattle.grow.specs.Stages.{as_node, as_one, as_two, Entered, GrownHere, StandsAs, Made}
use Rattle.grow.specs.StagesLaws.{expand_full, expand_mismatch, expand_crowded, expand_entered, expand_none, expand_one, expand_first, expand_two}

-- ---- bytes one after another

pub on_join : (to a b : ℕ) → on (on to a) b ≡ on to (a + b)
on_join to a b = omega arith

pub put_join : {h w out out₁ out₂ : List ℕ} {to : ℕ} → Put h out to out₁ → Put w out₁ (on to (length h)) out₂ → Put (h ++ w) out to out₂
put_join {h} {w} {out} {out₁} {out₂} {to} p q = record {
  long = q.long ∙ p.long;
  written = λ low room.
      let sum : length (h ++ w) ≡ length h + length w = length-append h w in
      let there : on to (length h) ≡ to + length h = omega arith in
      let first : out₁ ≡ sets out to h = p.written (omega arith) (omega arith) in
      let second : out₂ ≡ sets out₁ (on to (length h)) w = q.written (omega arith) (omega (arith, p.long)) in
      second ∙ rw (there, first) (sym (sets_append h w out to));
}

pub put_none : (out : List ℕ) (to : ℕ) → Put [] out to out
put_none out to = record { long = refl; written = λ low room. refl }

-- ---- the bytes before a node's premises: counted, and written where there is room

module _ {m : List ℕ} {z : Zones} {w to : ℕ} (p : Putting m z w to) {k : ℕ} (long : HeadLength m z k) where
  pub head_too_long : (out : List ℕ) → 65538 < to + k → PutHead m z w out to out too_long
  head_too_long out h =
      record { next = omega (arith, long.bytes w); put = record { long = refl; written = λ low room. absurd (omega (arith, long.bytes w)) } }

  pub head_no_room : (out : List ℕ) → to + k ≤ 65538 → length out < to + k → PutHead m z w out to out (to + k)
  head_no_room out h full =
      record { next = omega (arith, long.bytes w); put = record { long = refl; written = λ low room. absurd (omega (arith, long.bytes w)) } }

  pub head_room : {out : List ℕ} → to + k ≤ 65538 → to + k ≤ length out → HeadRoom m z w out to
  head_room h room =
      record { sound = p.sound; known = p.known; room = omega (arith, long.bytes w); short = omega (arith, long.bytes w, p.from) }

  pub head_put : {out out' : List ℕ} {r : ℕ} → to + k ≤ 65538 → Wrote out to (head w (sequent m z)) out' r → PutHead m z w out to out' r
  head_put {out} h x =
      record {
        next = omega (arith, long.bytes w, x.after);
        put = record { long = ap length x.written ∙ length-sets out to (head w (sequent m z)); written = λ low room. x.written };
      }

-- ---- a node's bytes before its premises'

-- a rule with a short form has no argument
short_byte : (r : Rule) → HasShort r → write_rule r ≡ rule_number r ∷ []
unfolding rule_number write_rule
short_byte Axiom h = refl
short_byte OneIntro h = refl
short_byte BottomIntro h = refl
short_byte TensorIntro h = refl
short_byte ParIntro h = refl
short_byte TopIntro h = refl
short_byte WithIntro h = refl
short_byte PlusIntroLeft h = refl
short_byte PlusIntroRight h = refl
short_byte OfCourseIntro h = refl
short_byte WhyNotIntro h = refl
short_byte Weakening h = refl
short_byte Contraction h = refl
short_byte Dereliction h = refl
short_byte (Cut c) h = absurd h
short_byte (FocusPositive n) h = absurd h
short_byte (FocusNegative n) h = absurd h
short_byte Blur h = absurd h

pub head_node : (r : Rule) (q : Sequent) (ts : Trees) (w : ℕ) → HasShort r → rule_of w ≡ rule_number r → get_or premise_counts (rule_of w) 0 ≡ premise_count ts
    → write_node (node r q ts) ≡ head w q ++ write_nodes ts
unfolding write_node
head_node r q ts w h e n =
    rw (
      short_byte r h,
      ← e,
      ← n,
      append_assoc (write_zone q.linear) (write_zone q.unrestricted ++ (get_or premise_counts (rule_of w) 0 ∷ [])) (write_nodes ts),
      append_assoc (write_zone q.unrestricted) (get_or premise_counts (rule_of w) 0 ∷ []) (write_nodes ts),
    )

-- ---- what stands at the place

module _ {s : List ℕ} {at rule r : ℕ} where
  pub mask_tensor : rule ≡ 4 → (r ≡ four s (at + 2)) × (r < 4294967296) → MaskAt s at rule r
  mask_tensor h e = record { small = e.1; is = e.0 ∙ rw (eq-eqb rule 4 h) }

  pub mask_none : (rule ≡ 4 → ⊥) → r ≡ 0 → MaskAt s at rule r
  mask_none h e = record { small = omega arith; is = e ∙ rw (ne_eqb rule 4 h) }

-- a node has at least its rule and its place
node_bytes_some : (rule : ℕ) → 2 ≤ node_bytes rule
node_bytes_some rule = go (eqb rule 4)
  where
    go : (b : Bool) → 2 ≤ elim b as (λ _. ℕ) [ true ↦ 6 | false ↦ 2 ]
    go true = omega arith
    go false = omega arith

-- read byte by byte
pub node_read : {s : List ℕ} {at : ℕ} {n : Node} {first second : ℕ} → first ≡ get_or s at 0 → (n.rule ≡ first) × (n.rule < 256) → second ≡ get_or s (at + 1) 0
    → (n.place ≡ second) × (n.place < 256) → MaskAt s at first n.mask → {k : ℕ} → k ≡ node_bytes first → n.next ≡ min (at + k) (length s) → NodeAt s at n
node_read {s} {at} {n} {first} a b c d e {k} f h = record {
  rule_is = b.0 ∙ a;
  rule_low = b.1;
  place_is = d.0 ∙ c;
  place_low = d.1;
  mask_is = rw (← b.0) at e;
  next_is = h ∙ ap (λ (j : ℕ). min (at + j) (length s)) (f ∙ ap node_bytes (sym b.0));
}

module _ {s : List ℕ} {at : ℕ} {n : Node} (node_is : NodeAt s at n) where
  same_mask : {r : Rule} {i k : ℕ} {ss : Shorts} → NodeThere s at r i k ss → n.mask ≡ k
  same_mask {r} {i} {k} x = go (eqb n.rule 4) refl
    where
      number : n.rule ≡ rule_number r
      number = node_is.rule_is ∙ x.rule_is

      go : (b : Bool) → eqb n.rule 4 ≡ b → n.mask ≡ k
      go true e = node_is.mask_is.is ∙ rw e (x.mask_is (omega (arith, number, eqb-true n.rule 4 e)))
      go false e = node_is.mask_is.is ∙ rw e (sym (x.mask_none (λ h. eqb-false n.rule 4 e (omega (arith, number)))))

  pub node_stands : (t : Short) → Stands s at (write_short_node t) → ShortNodesFit t → StandsAs s at n t
  node_stands (short r i k ss) stands fits =
      let x = short_node_there r i k ss stands fits.0 in
      let number : n.rule ≡ rule_number r = node_is.rule_is ∙ x.rule_is in
      let place_is : n.place ≡ i = node_is.place_is ∙ x.place_is in
      let mask_is : n.mask ≡ k = same_mask x in
      record {
        named = r;
        shorts = ss;
        is = rw (place_is, mask_is);
        number = number;
        fits = rw (place_is, mask_is) fits.0;
        fit = fits.1;
        behind = rw number x.premises_stand;
        long = omega (arith, x.ends, ap node_bytes number);
      }

-- the places after it, seen from an earlier one
within_from : (len at below : ℕ) (a : Grow) → at ≤ below → Within len below a → Within len at a
within_from len at below (Ok g) h x = ((omega (arith, x.0.0), x.0.1), x.1)
within_from len at below (Err k) h x = tt

-- the places of an answer
abbrev next_of : Grow → ℕ
next_of (Ok g) = g.next
next_of (Err k) = 0

abbrev to_of : Grow → ℕ
to_of (Ok g) = g.to
to_of (Err k) = 0

-- no refusal is a whole tree
refuses_whole : (k : Refusal) {a : Grow} {next to : ℕ} → a ≡ Whole next to → Refuses k a → ⊥
refuses_whole held_full e x = let z : ◌≡◌ {A = ℕ} 0 1 = cc in omega arith
refuses_whole too_many e x = let z : ◌≡◌ {A = ℕ} 0 1 = cc in omega arith
refuses_whole wrong_number e x = x
refuses_whole wrong_length e x = x
refuses_whole wrong_tag e x = x
refuses_whole too_high e x = x
refuses_whole budget_spent e x = x
refuses_whole failures_full e x = x
refuses_whole output_short e x = x
refuses_whole wrong_setting e x = x
refuses_whole wrong_memory e x = x

-- a node whose premise is told; and one whose first premise is none
told_one : (f : Trees → Tree) (x : Result Tree) {next next' : ℕ} {out : List ℕ} {to : ℕ} {out₁ : List ℕ} {to₁ : ℕ} {a : Grow} {out' : List ℕ}
    → Told x next out₁ to₁ a out' → ((t : Tree) → WholeAs t next out₁ to₁ a out' → WholeAs (f (t ▹ ∅)) next' out to a out')
    → Told (as_node f (as_one x)) next' out to a out'
told_one f (made t) h k = k t h
told_one f mismatch h k = h
told_one f (refused r) h k = h

told_two : (f : Trees → Tree) (u : Tree) (x : Result Tree) {next next' : ℕ} {out : List ℕ} {to : ℕ} {out₁ : List ℕ} {to₁ : ℕ} {a : Grow} {out' : List ℕ}
    → Told x next out₁ to₁ a out' → ((t : Tree) → WholeAs t next out₁ to₁ a out' → WholeAs (f (u ▹ t ▹ ∅)) next' out to a out')
    → Told (as_node f (as_two u x)) next' out to a out'
told_two f u (made t) h k = k t h
told_two f u mismatch h k = h
told_two f u (refused r) h k = h

-- what is no whole tree was not made; what is one was
module _ (y : Result Tree × List Formula) {next : ℕ} {out : List ℕ} {to : ℕ} {a : Grow} {fs : List Formula} {out' : List ℕ} where
  not_made : ((n k : ℕ) → a ≡ Whole n k → ⊥) → GrownAs y next out to a fs out' → (t : Tree) → y.0 ≡ made t → ⊥
  not_made h x = go y.0 x.told
    where
      go : (r : Result Tree) → Told r next out to a out' → (t : Tree) → r ≡ made t → ⊥
      go (made u) w t e = h _ _ w.answer
      go mismatch w t e = let z : ◌≡◌ {A = ℕ} 0 1 = cc in omega arith
      go (refused k) w t e = let z : ◌≡◌ {A = ℕ} 0 1 = cc in omega arith

  was_made : {n k : ℕ} → a ≡ Whole n k → GrownAs y next out to a fs out' → Made y next out to a fs out'
  was_made {n} {k} e x = go y.0 refl x.told
    where
      go : (r : Result Tree) → y.0 ≡ r → Told r next out to a out' → Made y next out to a fs out'
      go (made t) h w = record { tree = t; is = λ i. (h i, sym x.held i); whole = w }
      go mismatch h w = let z : ◌≡◌ {A = ℕ} 0 1 = cc in absurd (omega arith)
      go (refused k) h w = absurd (refuses_whole k e w)

-- the code's test
not_true : (b : Bool) → not b ≡ true → b ≡ false
not_true true e = sym e
not_true false e = refl

not_false : (b : Bool) → not b ≡ false → b ≡ true
not_false true e = refl
not_false false e = sym e

-- a result, told of an expansion that comes to it
grown_as : {y : Result Tree × List Formula} {x : Result Tree} {fs : List Formula} {next : ℕ} {out : List ℕ} {to : ℕ} {r : Grow} {out' : List ℕ} → y ≡ (x, fs)
    → Told x next out to r out' → GrownAs y next out to r fs out'
grown_as {y} {x} {fs} {next} {out} {to} {r} {out'} e t = record {
  told = subst (λ (u : Result Tree × List Formula). Told u.0 next out to r out') (sym e) t;
  held = sym (ap (λ (u : Result Tree × List Formula). u.1) e);
}

module _ {m s : List ℕ} {at : ℕ} {z : Zones} {to : ℕ} (g : Growing m s at z to) {e : Option Zones} {m₁ : List ℕ} (sp : SpeltTo m z e m₁) where
  pub grows_full : (out : List ℕ) → e ≡ None → Grows m s at z out to (Err Full) m₁ out
  grows_full out h = record {
    within = tt;
    wf = sp.wf;
    grew = sp.grew;
    long = refl;
    is = λ t stands fits. go t;
  }
    where
      full : spelt (at_most 2048) (sequent m z) (view m) ≡ (refused held_full, view m₁)
      full = sp.made_is ∙ rw h

      go : (t : Short) → GrownHere m at z t out to (Err Full) m₁ out
      go (short r i k ss) = grown_as (expand_full r i k ss (sequent m z) (view m) full) refl

  module _ {z₁ : Zones} (whole : e ≡ Some z₁) {n : Node} (node_is : NodeAt s at n) where
    spells : spelt (at_most 2048) (sequent m z) (view m) ≡ (made tt, view m₁)
    spells = sp.made_is ∙ rw whole

    pub meant : Means m₁ (concluded (sequent m z)) z₁
    meant = rw whole at sp.means

    means : sequent m₁ z₁ ≡ concluded (sequent m z)
    means = meant.means

    pub grows_mismatch : (out : List ℕ) {b : Bool} → Asked m₁ z₁ n.rule n.place n.mask b → not b ≡ true → Grows m s at z out to (Err Mismatch) m₁ out
    grows_mismatch out {b} asked h = record {
      within = tt;
      wf = sp.wf;
      grew = sp.grew;
      long = refl;
      is = λ t stands fits. go t (node_stands node_is t stands fits);
    }
      where
        go : (t : Short) → StandsAs s at n t → GrownHere m at z t out to (Err Mismatch) m₁ out
        go t x =
            let takes : may_take x.named n.place n.mask (concluded (sequent m z)) ≡ false =
            rw means at (sym (asked.is x.named x.number) ∙ not_true b h) in
            grown_as
            (ap (λ (u : Short). expand limits u (sequent m z) (view m)) x.is
            ∙ expand_mismatch x.named n.place n.mask x.shorts (sequent m z) (view m) spells takes)
            refl

    module _ {b : Bool} (asked : Asked m₁ z₁ n.rule n.place n.mask b) (taken_test : not b ≡ false) where
      may : b ≡ true
      may = not_false b taken_test

      takes_as : {t : Short} (x : StandsAs s at n t) → may_take x.named n.place n.mask (sequent m₁ z₁) ≡ true
      takes_as x = sym (asked.is x.named x.number) ∙ may

      pub grows_crowded : (out : List ℕ) {d : Bool} → Crowded z₁ n.rule d → d ≡ true → Grows m s at z out to (Err TooMany) m₁ out
      grows_crowded out {d} crowded h = record {
        within = tt;
        wf = sp.wf;
        grew = sp.grew;
        long = refl;
        is = λ t stands fits. go t (node_stands node_is t stands fits);
      }
        where
          go : (t : Short) → StandsAs s at n t → GrownHere m at z t out to (Err TooMany) m₁ out
          go t x =
              let many_are : few_each (at_most 31) (premises_of x.named n.place n.mask (sequent m₁ z₁)) (view m₁) ≡ (refused too_many, view m₁) =
              crowded.is (told m₁) x.named n.place n.mask (view m₁) x.number (takes_as x) ∙ rw h in
              grown_as
              (ap (λ (u : Short). expand limits u (sequent m z) (view m)) x.is
              ∙ expand_crowded x.named n.place n.mask x.shorts (sequent m z) (view m) spells (rw means at (takes_as x)) (rw means at many_are))
              refl

      module _ {d : Bool} (crowded : Crowded z₁ n.rule d) (few : d ≡ false) {w : ℕ} (word_is : w ≡ word n.rule n.place n.mask) where
        pub taken : Taken m₁ z₁ n.rule n.place n.mask
        taken = asked_taken meant.sound (rw may at asked) (rw few at crowded)

        rule_is : rule_of w ≡ n.rule
        rule_is = rw word_is (taken_rule_of taken)

        pub word_known : rule_of w < 15
        word_known = rw word_is (taken_rule_of_low taken)

        pub putting : Putting m₁ z₁ w to
        putting = record { sound = meant.sound; known = word_known; from = g.from; low = g.low }

        entered : {t : Short} (x : StandsAs s at n t) → Entered x.named n.place n.mask (sequent m z) (view m) (view m₁)
        entered x =
            let fits : few_each (at_most 31) (premises_of x.named n.place n.mask (sequent m₁ z₁)) (view m₁) ≡ (made tt, view m₁) =
            crowded.is (told m₁) x.named n.place n.mask (view m₁) x.number (takes_as x) ∙ rw few in
            record { spells = spells; takes = rw means at (takes_as x); few = rw means at fits }

        -- the node expanded, with what became of its premises
        expanded : {t : Short} (x : StandsAs s at n t) {ss : Shorts} {ps : List Sequent} {y : Result Trees} {fs : List Formula} → x.shorts ≡ ss
            → premises_of taken.named n.place n.mask (sequent m₁ z₁) ≡ ps → expand_all limits ss ps (view m₁) ≡ (y, fs)
            → expand limits t (sequent m z) (view m) ≡ (as_node (node x.named (concluded (sequent m z))) y, fs)
        expanded x ss_are ps_are h =
            let premises_are =
            ap (premises_of x.named n.place n.mask) (sym means)
            ∙ ap (λ (r : Rule). premises_of r n.place n.mask (sequent m₁ z₁)) (sym (taken_named taken x.named x.number))
            ∙ ps_are in
            ap (λ (u : Short). expand limits u (sequent m z) (view m)) x.is
            ∙ expand_entered x.named n.place n.mask x.shorts (sequent m z) (view m) (entered x)
            (ap₂ (λ (ss : Shorts) (ps : List Sequent). expand_all limits ss ps (view m₁)) ss_are premises_are ∙ h)

        module _ {out out₁ : List ℕ} {written : ℕ} (put : PutHead m₁ z₁ w out to out₁ written) {c : ℕ}
            (count_is : c ≡ get_or premise_counts (rule_of w) 0) where
          many_are : {t : Short} (x : StandsAs s at n t) → many x.shorts ≡ c
          many_are x =
              x.fits.premises_follow
              ∙ ap follow (sym (taken_named taken x.named x.number))
              ∙ sym (premised_follow taken)
              ∙ ap (λ (k : ℕ). get_or premise_counts (rule_of k) 0) (sym word_is)
              ∙ sym count_is

          counted : {k : ℕ} → c ≡ k → get_or premise_counts (rule_of (word n.rule n.place n.mask)) 0 ≡ k
          counted h = ap (λ (k : ℕ). get_or premise_counts (rule_of k) 0) (sym word_is) ∙ sym count_is ∙ h

          behind_is : {t : Short} (x : StandsAs s at n t) → n.next ≡ at + node_bytes n.rule
          behind_is x = omega (arith, node_is.next_is, x.behind.inside)

          below_inside : (at ≤ n.next) × (n.next ≤ length s)
          below_inside = (omega (arith, g.inside, node_is.next_is), omega (arith, node_is.next_is))

          written_inside : (3 ≤ written) × (written ≤ too_long)
          written_inside = (omega (arith, put.next, g.from), omega (arith, put.next))

          -- a node's bytes and its premises'
          node_bytes_are : {t : Short} (x : StandsAs s at n t) (ts : Trees) → c ≡ premise_count ts
              → write_node (node x.named (concluded (sequent m z)) ts) ≡ head w (sequent m₁ z₁) ++ write_nodes ts
          node_bytes_are x ts h =
              head_node x.named (concluded (sequent m z)) ts w x.fits.rule_short (rule_is ∙ x.number) (sym count_is ∙ h)
              ∙ ap (λ (q : Sequent). head w q ++ write_nodes ts) (sym means)

          whole_join : {a : Grow} {out' : List ℕ} {next : ℕ} {t : Tree} (bs : List ℕ) → write_node t ≡ head w (sequent m₁ z₁) ++ bs
              → a ≡ Whole next (on written (length bs)) → Put bs out₁ written out' → WholeAs t next out to a out'
          whole_join {next = next} {t = t} bs bytes answer more =
              let long : on written (length bs) ≡ on to (length (write_node t)) =
              omega (arith, put.next, ap length bytes, length-append (head w (sequent m₁ z₁)) bs) in
              record { answer = answer ∙ ap (Whole next) long; put = rw bytes (put_join put.put (rw put.next at more)) }

          pub grows_leaf : c ≡ 0 → Grows m s at z out to (Whole n.next written) m₁ out₁
          unfolding write_short_nodes write_nodes premise_count
          grows_leaf h = record {
            within = (below_inside, written_inside);
            wf = sp.wf;
            grew = sp.grew;
            long = put.put.long;
            is = λ t stands fits. go t (node_stands node_is t stands fits);
          }
            where
              go : (t : Short) → StandsAs s at n t
                  → GrownHere m at z t out to (Whole n.next written) m₁ out₁
              go t x =
                  let none_are : x.shorts ≡ □ = shorts_none x.shorts (many_are x ∙ h) in
                  let empty = ap (λ (ss : Shorts). length (write_short_nodes ss)) none_are in
                  let ends : n.next ≡ at + length (write_short_node t) = omega (arith, behind_is x, x.long, empty) in
                  let stays : written ≡ on written 0 = omega (arith, written_inside) in
                  grown_as
                  (expanded x none_are (premised_none taken (counted h)).premises_are (expand_none (view m₁)))
                  (whole_join [] (node_bytes_are x ∅ h) (ap₂ Whole ends stays) (put_none out₁ written))

          module _ (some_premise : c ≡ 0 → ⊥) where
            pub first_step : Stepping m₁ z₁ w
            first_step = rw word_is (go (premised taken))
              where
                go : Premised m₁ z₁ n.rule n.place n.mask taken.named → Stepping m₁ z₁ (word n.rule n.place n.mask)
                go (no_premise k) = absurd (some_premise (sym (counted refl) ∙ k.counted))
                go (one_premise k) = k.stepping
                go (two_premises k) = k.stepping

            -- what is left of the message falls
            pub first_falls : length s - n.next < length s - at
            first_falls = omega (arith, node_is.next_is, node_bytes_some n.rule, starts)
              where
                leaf : length s ≤ at → c ≡ 0
                leaf h =
                    count_is ∙ ap (λ (k : ℕ). get_or premise_counts k 0) (rule_is ∙ node_is.rule_is ∙ get_or-eq_default s 0 h)

                starts : at < length s
                starts = ⊎_elim (λ h. absurd (some_premise (leaf h))) (λ h. h) (le_or_lt (length s) at)

            module _ {p : Zones} (first_is : Means m₁ (first_of (step (sequent m₁ z₁) w)) p) where
              pub first_growing : Growing m₁ s n.next p written
              first_growing = record {
                sound = first_is.sound;
                inside = below_inside.1;
                short = g.short;
                from = written_inside.0;
                low = written_inside.1;
              }

              module _ {a : Grow} {m₂ out₂ : List ℕ} (first : Grows m₁ s n.next p out₁ written a m₂ out₂) where
                first_told : {t : Short} (x : StandsAs s at n t) (u : Short) (q : Sequent) → Stands s (at + node_bytes n.rule) (write_short_node u)
                    → ShortNodesFit u → first_of (step (sequent m₁ z₁) (word n.rule n.place n.mask)) ≡ q
                    → GrownAs (expand limits u q (view m₁)) (at + node_bytes n.rule + length (write_short_node u)) out₁ written a (view m₂) out₂
                first_told x u q stands fits h =
                    let is : sequent m₁ p ≡ q = first_is.means ∙ ap (λ (k : ℕ). first_of (step (sequent m₁ z₁) k)) word_is ∙ h in
                    let here = behind_is x in
                    rw (is, here) at (first.is u (rw here stands) fits)

                pub grows_one : c ≡ 1 → Grows m s at z out to a m₂ out₂
                unfolding write_nodes premise_count
                grows_one h = record {
                  within = within_from (length s) at n.next a below_inside.0 first.within;
                  wf = first.wf;
                  grew = extends_trans sp.grew first.grew;
                  long = first.long ∙ put.put.long;
                  is = λ t stands fits. go t (node_stands node_is t stands fits);
                }
                  where
                    go : (t : Short) → StandsAs s at n t → GrownHere m at z t out to a m₂ out₂
                    go t x =
                        let one = premised_one taken (counted h) in
                        let u = shorts_one x.shorts (many_are x ∙ h) x.behind in
                        let deeper = first_told x u.first one.first u.stands (u.fits x.fit) one.first_is in
                        let y = expand limits u.first one.first (view m₁) in
                        let ends : at + node_bytes n.rule + length (write_short_node u.first) ≡ at + length (write_short_node t) =
                        omega (arith, x.long, u.ends) in
                        let first_is : y ≡ (y.0, view m₂) = ap (λ (fs : List Formula). (y.0, fs)) (sym deeper.held) in
                        grown_as
                        (expanded x u.is one.premises_are (expand_one u.first one.first (view m₁) first_is))
                        (told_one (node x.named (concluded (sequent m z))) y.0 deeper.told
                        (λ t₁ k. whole_join (write_node t₁)
                        (node_bytes_are x (t₁ ▹ ∅) h ∙ ap (λ (bs : List ℕ). head w (sequent m₁ z₁) ++ bs) (append-nil (write_node t₁)))
                        (k.answer ∙ ap (λ (j : ℕ). Whole j (on written (length (write_node t₁)))) ends)
                        k.put))

                module _ (more : c ≡ 1 → ⊥) where
                  two_are : c ≡ 2
                  two_are = go (premised taken)
                    where
                      go : Premised m₁ z₁ n.rule n.place n.mask taken.named → c ≡ 2
                      go (no_premise k) = absurd (some_premise (sym (counted refl) ∙ k.counted))
                      go (one_premise k) = absurd (more (sym (counted refl) ∙ k.counted))
                      go (two_premises k) = sym (counted refl) ∙ k.counted

                  pub grows_first : ((j k : ℕ) → a ≡ Whole j k → ⊥) → Grows m s at z out to a m₂ out₂
                  grows_first stops = record {
                    within = within_from (length s) at n.next a below_inside.0 first.within;
                    wf = first.wf;
                    grew = extends_trans sp.grew first.grew;
                    long = first.long ∙ put.put.long;
                    is = λ t stands fits. go t (node_stands node_is t stands fits);
                  }
                    where
                      go : (t : Short) → StandsAs s at n t → GrownHere m at z t out to a m₂ out₂
                      go t x =
                          let two = premised_two taken (counted two_are) in
                          let u = shorts_two x.shorts (many_are x ∙ two_are) x.behind in
                          let deeper = first_told x u.first two.first u.first_stands (u.fits x.fit).0 two.first_is in
                          let y = expand limits u.first two.first (view m₁) in
                          let first_is : y ≡ (y.0, view m₂) = ap (λ (fs : List Formula). (y.0, fs)) (sym deeper.held) in
                          grown_as
                          (expanded x u.is two.premises_are
                          (expand_first u.first two.first (view m₁) (u.second ▸ □) (two.second ∷ []) (not_made y stops deeper) first_is))
                          (told_one (node x.named (concluded (sequent m z))) y.0 deeper.told (λ t₁ k. absurd (stops _ _ k.answer)))

                  pub grows_stopped : {k : Stop} → a ≡ Err k → Grows m s at z out to a m₂ out₂
                  grows_stopped stopped = grows_first (λ i j whole. let o : ◌≡◌ {A = ℕ} 0 1 = cc in omega arith)

                  module _ {next second : ℕ} (goes_on : a ≡ Whole next second) where
                    next_inside : ((n.next ≤ next) × (next ≤ length s)) × ((3 ≤ second) × (second ≤ too_long))
                    next_inside = rw goes_on at first.within

                    pub second_step : Stepping₂ m₂ z₁ w
                    second_step = rw word_is (premised_two (taken_grows first.grew first.wf taken) (counted two_are)).stepping₂

                    module _ {q : Zones} (second_is : Means m₂ (second_of (step (sequent m₂ z₁) w)) q) where
                      pub second_falls : length s - next < length s - at
                      second_falls = omega (arith, first_falls, next_inside.0)

                      pub second_growing : Growing m₂ s next q second
                      second_growing = record {
                        sound = second_is.sound;
                        inside = next_inside.0.1;
                        short = g.short;
                        from = next_inside.1.0;
                        low = next_inside.1.1;
                      }

                      pub grows_two : {a₃ : Grow} {m₃ out₃ : List ℕ} → Grows m₂ s next q out₂ second a₃ m₃ out₃ → Grows m s at z out to a₃ m₃ out₃
                      unfolding write_nodes premise_count
                      grows_two {a₃} {m₃} {out₃} last = record {
                        within = within_from (length s) at next a₃ (omega (arith, below_inside, next_inside.0)) last.within;
                        wf = last.wf;
                        grew = extends_trans sp.grew (extends_trans first.grew last.grew);
                        long = last.long ∙ first.long ∙ put.put.long;
                        is = λ t stands fits. go t (node_stands node_is t stands fits);
                      }
                        where
                          here : {t : Short} (x : StandsAs s at n t) (u : Short) (y : Result Tree × List Formula)
                              (k : Made y (at + node_bytes n.rule + length (write_short_node u)) out₁ written a (view m₂) out₂)
                              → (next ≡ at + node_bytes n.rule + length (write_short_node u)) × (second ≡ on written (length (write_node k.tree)))
                          here x u y k = let same = sym goes_on ∙ k.whole.answer in (ap next_of same, ap to_of same)

                          both : {t : Short} (x : StandsAs s at n t) (two : TwoPremises m₁ z₁ n.rule n.place n.mask taken.named)
                              (u : TwoThere s (at + node_bytes n.rule) x.shorts)
                              → Made (expand limits u.first two.first (view m₁)) (at + node_bytes n.rule + length (write_short_node u.first)) out₁ written a
                              (view m₂) out₂
                              → GrownHere m at z t out to a₃ m₃ out₃
                          both {t} x two u k =
                              let places = here x u.first _ k in
                              let premise : sequent m₂ q ≡ two.second =
                              second_is.means
                              ∙ ap (λ (j : ℕ). second_of (step (sequent m₂ z₁) j)) word_is
                              ∙ ap (λ (o : Sequent). second_of (step o (word n.rule n.place n.mask))) (sequent_same first.grew taken.sound)
                              ∙ two.second_is in
                              let y = expand limits u.second two.second (view m₂) in
                              let deeper : GrownAs y (next + length (write_short_node u.second)) out₂ second a₃ (view m₃) out₃ =
                              rw premise at (last.is u.second (rw places.0 u.second_stands) (u.fits x.fit).1) in
                              let ends : next + length (write_short_node u.second) ≡ at + length (write_short_node t) =
                              omega (arith, x.long, u.ends, places.0) in
                              let then_is : y ≡ (y.0, view m₃) = ap (λ (fs : List Formula). (y.0, fs)) (sym deeper.held) in
                              grown_as
                              (expanded x u.is two.premises_are (expand_two u.first two.first (view m₁) u.second two.second k.is then_is))
                              (told_two (node x.named (concluded (sequent m z))) k.tree y.0 deeper.told
                              (λ t₂ j. whole_join (write_node k.tree ++ write_node t₂)
                              (node_bytes_are x (k.tree ▹ t₂ ▹ ∅) two_are
                              ∙ ap (λ (bs : List ℕ). head w (sequent m₁ z₁) ++ (write_node k.tree ++ bs)) (append-nil (write_node t₂)))
                              (j.answer ∙ ap₂ Whole ends (omega (arith, places.1, length-append (write_node k.tree) (write_node t₂))))
                              (put_join k.whole.put (rw places.1 at j.put))))

                          go : (t : Short) → StandsAs s at n t
                              → GrownHere m at z t out to a₃ m₃ out₃
                          go t x =
                              let two = premised_two taken (counted two_are) in
                              let u = shorts_two x.shorts (many_are x ∙ two_are) x.behind in
                              both x two u (was_made _ goes_on (first_told x u.first two.first u.first_stands (u.fits x.fit).0 two.first_is))
