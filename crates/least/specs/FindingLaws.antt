-- Laws of finding the least place and mask, one for each way out of each function. Assumes nothing.
use Rattle.std.specs.Prelude.{◌≡◌, Bool, ◌&&◌, ℕ, suc, ◌+◌, ◌≤◌, ◌<◌, ltb, get_or, length, Option, Some, None}
use Rattle.std.proofs.Math.Path.{refl, sym, ap}
use Rattle.std.proofs.Common.{◌∙◌, arith, ltb-true, ltb-false, le-ltb}
use Rattle.std.proofs.Math.Bool.{true, false}
use Rattle.std.proofs.lemmas.Bool.{false≢true}
use mathlib.Core.List.{List, [], ◌∷◌, ◌++◌, map}
use Rattle.std.proofs.lemmas.List.{length-map}
use Rattle.logic.specs.Sequent.{Sequent, ◌﹔◌, count}
use Rattle.logic.specs.Conclusion.{concluded}
use Rattle.logic.specs.Answer.{too_many}
use Rattle.logic.specs.Limits.{at_most, exceeds}
use Rattle.logic.specs.Tree.{
  Rule,
  Axiom,
  Cut,
  OneIntro,
  BottomIntro,
  TensorIntro,
  ParIntro,
  TopIntro,
  WithIntro,
  PlusIntroLeft,
  PlusIntroRight,
  OfCourseIntro,
  WhyNotIntro,
  Weakening,
  Contraction,
  Dereliction,
  FocusPositive,
  FocusNegative,
  Blur,
  Tree,
  Trees,
  node,
  ∅,
  ◌▹◌,
  conclusion,
  conclusions,
  premise_count,
}
use Rattle.wire.specs.Write.{write_node, write_nodes}
use Rattle.wire.specs.Fits.{NodesFit, NodesFit*}
use Rattle.tree.specs.Stands.{Stands}
use Rattle.tree.specs.StandsLaws.{stands_left, stands_right}
use Rattle.tree.specs.Places.{rule_number, NodeIs, TreePassed}
use Rattle.tree.specs.declared.Node.{Node}
use Rattle.held.specs.Words.{told}
use Rattle.zones.specs.declared.Zones.{Zones}
use Rattle.zones.specs.Zones.{linears, unrestricteds}
use Rattle.expand.specs.Short.{word, rule_of, step}
use Rattle.expand.specs.ShortLaws.{rule_of_word}
use Rattle.expand.specs.Writing.{Sound, Means, Stepping, Stepping₂, first_of, second_of, premise_counts}
use Rattle.short.specs.Steps.{may_take, premises_of}
use Rattle.short.specs.Short.{follow}
use Rattle.short.specs.Making.{made, refused, few_each}
use Rattle.short.specs.MakingLaws.{made_refused, few_each_made}
use Rattle.short.specs.Few.{FewEach, few_none, few_more}
use Rattle.short.specs.Shortening.{same_sequent, same_sequents, fits}
use Rattle.short.specs.Least as short
use Rattle.short.proofs.LeastLaws.{fits_takes, fits_premises, fits_place, least_is, least_none}
use Rattle.short.proofs.ExpandLaws.{concluded_count}
use Rattle.step.specs.Taking.{sequent, Asked, Crowded, Taken}
use Rattle.step.specs.TakingLaws.{
  asked_taken,
  taken_named,
  taken_place,
  taken_rule,
  taken_rule_of_low,
  taken_mask,
  premise_counts_follow,
  premised_follow,
  premised_none,
  Premised,
  no_premise,
  one_premise,
  two_premises,
  premised,
}
use Rattle.shown.specs.Matching.{Shown}
use Rattle.split.specs.Splitting.{LeastStep}
use Rattle.least.specs.Finding.{Shows, Follows, FitsAt, Placing, Tried, MaskLow, PlaceFound, LeastFor}

-- ---- a step's word: what making its premises asks and answers

-- as many premises as follow the rule
pub premises_follow : {m : List ℕ} {z : Zones} {rule i mask : ℕ} (t : Taken m z rule i mask) → length (premises_of t.named i mask (sequent m z)) ≡ follow t.named
premises_follow {m} {z} {rule} {i} {mask} t = go (premised t)
  where
    go : Premised m z rule i mask t.named → length (premises_of t.named i mask (sequent m z)) ≡ follow t.named
    go (no_premise p) = ap length p.premises_are ∙ sym p.counted ∙ premised_follow t
    go (one_premise p) = ap length p.premises_are ∙ sym p.counted ∙ premised_follow t
    go (two_premises p) = ap length p.premises_are ∙ sym p.counted ∙ premised_follow t

-- what `node_word` asks, where no mask is asked for
pub taken_word : {m : List ℕ} {z : Zones} {rule i : ℕ} → Taken m z rule i 0 → (rule < 256) × ((i < 256) × (0 < 4294967296))
taken_word t = (omega (arith, taken_rule t), (omega (arith, taken_place t), omega arith))

module _ {m : List ℕ} {z : Zones} {rule i mask : ℕ} (t : Taken m z rule i mask) {w : ℕ} (word_is : w ≡ word rule i mask) where
  pub word_rule : rule_of w < 15
  word_rule = rw word_is (taken_rule_of_low t)

  module _ {n : ℕ} (count_is : n ≡ get_or premise_counts (rule_of w) 0) where
    counted_word : get_or premise_counts (rule_of (word rule i mask)) 0 ≡ n
    counted_word = sym (count_is ∙ ap (λ (k : ℕ). get_or premise_counts (rule_of k) 0) word_is)

    pub word_follow : n ≡ follow t.named
    word_follow = sym counted_word ∙ premised_follow t

    pub word_none : n ≡ 0 → premises_of t.named i mask (sequent m z) ≡ []
    word_none h = (premised_none t (counted_word ∙ h)).premises_are

    pub word_first : (n ≡ 0 → ⊥) → Stepping m z w × (first_of (step (sequent m z) w) ≡ get_or (premises_of t.named i mask (sequent m z)) 0 ([] ﹔ []))
    word_first h = rw word_is (go (premised t))
      where
        go : Premised m z rule i mask t.named
            → Stepping m z (word rule i mask)
            × (first_of (step (sequent m z) (word rule i mask)) ≡ get_or (premises_of t.named i mask (sequent m z)) 0 ([] ﹔ []))
        go (no_premise p) = absurd (h (sym counted_word ∙ p.counted))
        go (one_premise p) = (p.stepping, rw p.premises_are p.first_is)
        go (two_premises p) = (p.stepping, rw p.premises_are p.first_is)

    pub word_second : (n ≡ 0 → ⊥) → (n ≡ 1 → ⊥)
        → Stepping₂ m z w × (second_of (step (sequent m z) w) ≡ get_or (premises_of t.named i mask (sequent m z)) 1 ([] ﹔ []))
    word_second h h' = rw word_is (go (premised t))
      where
        go : Premised m z rule i mask t.named
            → Stepping₂ m z (word rule i mask)
            × (second_of (step (sequent m z) (word rule i mask)) ≡ get_or (premises_of t.named i mask (sequent m z)) 1 ([] ﹔ []))
        go (no_premise p) = absurd (h (sym counted_word ∙ p.counted))
        go (one_premise p) = absurd (h' (sym counted_word ∙ p.counted))
        go (two_premises p) = (p.stepping₂, rw p.premises_are p.second_is)

    pub word_two : (n ≡ 0 → ⊥) → (n ≡ 1 → ⊥) → n ≡ 2
    word_two h h' = go (premised t)
      where
        go : Premised m z rule i mask t.named → n ≡ 2
        go (no_premise p) = absurd (h (sym counted_word ∙ p.counted))
        go (one_premise p) = absurd (h' (sym counted_word ∙ p.counted))
        go (two_premises p) = sym counted_word ∙ p.counted

-- ---- the tree's premises conclude what the step makes

pub shown_shows : {m : List ℕ} {y : Zones} {q : Sequent} {s : List ℕ} {at : ℕ} {b : Bool} → Means m q y → Shown m y s at b → Shows s at b q
shown_shows {m} {y} {q} {s} {at} {b} k h = record { tells = go }
  where
    go : (t : Tree) → Stands s at (write_node t) → NodesFit t → b ≡ same_sequent (concluded q) (conclusion t)
    go (node r c ts) st fit = h.right r c ts st fit.0 ∙ ap (λ (x : Sequent). same_sequent (concluded x) c) k.means

sames_none : (qs : List Sequent) (ps : Trees) → qs ≡ [] → premise_count ps ≡ 0 → true ≡ same_sequents (map concluded qs) (conclusions ps)
unfolding same_sequents conclusions premise_count
sames_none [] ∅ e k = refl
sames_none [] (t ▹ ts) e k = absurd (omega arith)
sames_none (q ∷ qs) ps e k = let z : ◌≡◌ {A = ℕ} 0 1 = cc in absurd (omega arith)

module _ {s : List ℕ} {at : ℕ} where
  sames_apart : (qs : List Sequent) (ps : Trees) → length qs ≡ premise_count ps → (premise_count ps ≡ 0 → ⊥) → Stands s at (write_nodes ps) → NodesFit* ps
      → Shows s at false (get_or qs 0 ([] ﹔ []))
      → false ≡ same_sequents (map concluded qs) (conclusions ps)
  unfolding same_sequents conclusions premise_count write_nodes
  sames_apart qs ∅ e k st fit h = absurd (k refl)
  sames_apart [] (t ▹ ts) e k st fit h = absurd (omega arith)
  sames_apart (q ∷ qs) (t ▹ ts) e k st fit h =
      ap (λ (b : Bool). b && same_sequents (map concluded qs) (conclusions ts)) (h.tells t (stands_left (write_node t) (write_nodes ts) st) fit.0)

  sames_one : (qs : List Sequent) (ps : Trees) → length qs ≡ premise_count ps → premise_count ps ≡ 1 → Stands s at (write_nodes ps) → NodesFit* ps
      → Shows s at true (get_or qs 0 ([] ﹔ []))
      → true ≡ same_sequents (map concluded qs) (conclusions ps)
  unfolding same_sequents conclusions premise_count write_nodes
  sames_one qs ∅ e k st fit h = absurd (omega arith)
  sames_one [] (t ▹ ts) e k st fit h = absurd (omega arith)
  sames_one (q ∷ []) (t ▹ ∅) e k st fit h = ap (λ (b : Bool). b && true) (h.tells t (stands_left (write_node t) (write_nodes ∅) st) fit.0)
  sames_one (q ∷ q' ∷ qs) (t ▹ ∅) e k st fit h = absurd (omega arith)
  sames_one (q ∷ qs) (t ▹ t' ▹ ts) e k st fit h = absurd (omega arith)

  sames_two : (qs : List Sequent) (ps : Trees) {next : ℕ} {b : Bool} → length qs ≡ premise_count ps → premise_count ps ≡ 2 → Stands s at (write_nodes ps)
      → NodesFit* ps → Shows s at true (get_or qs 0 ([] ﹔ [])) → TreePassed s at next → Shows s next b (get_or qs 1 ([] ﹔ []))
      → b ≡ same_sequents (map concluded qs) (conclusions ps)
  unfolding same_sequents conclusions premise_count write_nodes
  sames_two qs ∅ e k st fit h p h' = absurd (omega arith)
  sames_two [] (t ▹ ts) e k st fit h p h' = absurd (omega arith)
  sames_two (q ∷ qs) (t ▹ ∅) e k st fit h p h' = absurd (omega arith)
  sames_two (q ∷ []) (t ▹ t' ▹ ts) e k st fit h p h' = absurd (omega arith)
  sames_two (q ∷ q' ∷ []) (t ▹ t' ▹ ∅) {next} {b} e k st fit h p h' =
      let here = stands_left (write_node t) (write_nodes (t' ▹ ∅)) st in
      let there : Stands s next (write_node t' ++ []) = rw (p.past t here fit.0) (stands_right (write_node t) (write_nodes (t' ▹ ∅)) st) in
      both (h.tells t here fit.0) (h'.tells t' (stands_left (write_node t') [] there) fit.1.0)
    where
      both : {x y : Bool} → true ≡ x → b ≡ y → b ≡ x && (y && true)
      both {x} {y} f g = g ∙ sym (rw (sym f) (last y))
        where
          last : (y : Bool) → (y && true) ≡ y
          last true = refl
          last false = refl
  sames_two (q ∷ q' ∷ q'' ∷ qs) (t ▹ t' ▹ ∅) e k st fit h p h' = absurd (omega arith)
  sames_two (q ∷ q' ∷ qs) (t ▹ t' ▹ t'' ▹ ts) e k st fit h p h' = absurd (omega arith)

-- `follows`: no premise; the first is another; one; two
module _ {m : List ℕ} {z : Zones} {rule i : ℕ} (t : Taken m z rule i 0) {w : ℕ} (word_is : w ≡ word rule i 0) {n : ℕ}
    (count_is : n ≡ get_or premise_counts (rule_of w) 0) where
  made_first : {s : List ℕ} {at : ℕ} {y : Zones} {b : Bool} → (n ≡ 0 → ⊥) → Means m (first_of (step (sequent m z) w)) y → Shown m y s at b
      → Shows s at b (get_or (premises_of t.named i 0 (sequent m z)) 0 ([] ﹔ []))
  made_first h k x = rw (word_first t word_is count_is h).1 at (shown_shows k x)

  made_second : {s : List ℕ} {y : Zones} {next : ℕ} {b : Bool} → (n ≡ 0 → ⊥) → (n ≡ 1 → ⊥) → Means m (second_of (step (sequent m z) w)) y → Shown m y s next b
      → Shows s next b (get_or (premises_of t.named i 0 (sequent m z)) 1 ([] ﹔ []))
  made_second h h' k x = rw (word_second t word_is count_is h h').1 at (shown_shows k x)

  as_many : (ps : Trees) → premise_count ps ≡ follow t.named → length (premises_of t.named i 0 (sequent m z)) ≡ premise_count ps
  as_many ps c = premises_follow t ∙ sym c

  counted : (ps : Trees) → premise_count ps ≡ follow t.named → premise_count ps ≡ n
  counted ps c = c ∙ sym (word_follow t word_is count_is)

  module _ {s : List ℕ} {at : ℕ} where
    -- what is said of the step's own rule is said of each rule of that number
    named_follows : {b : Bool}
        → ((ps : Trees) → Stands s at (write_nodes ps) → NodesFit* ps → premise_count ps ≡ follow t.named
        → b ≡ same_sequents (map concluded (premises_of t.named i 0 (sequent m z))) (conclusions ps))
        → Follows m z rule i s at b
    named_follows {b} h = record { is = λ r ps e st fit c. go r (sym (taken_named t r e)) ps st fit c }
      where
        go : (r : Rule) → r ≡ t.named → (ps : Trees) → Stands s at (write_nodes ps) → NodesFit* ps → premise_count ps ≡ follow r
            → b ≡ same_sequents (map concluded (premises_of r i 0 (sequent m z))) (conclusions ps)
        go r same ps st fit c = rw same (h ps st fit (rw same at c))

    pub follows_none : n ≡ 0 → Follows m z rule i s at true
    follows_none h =
        named_follows (λ ps st fit c. sames_none (premises_of t.named i 0 (sequent m z)) ps (word_none t word_is count_is h) (counted ps c ∙ h))

    module _ {y : Zones} {b : Bool} (some : n ≡ 0 → ⊥) (first : Means m (first_of (step (sequent m z) w)) y) (shown : Shown m y s at b) where
      pub follows_apart : b ≡ false → Follows m z rule i s at false
      follows_apart e =
          named_follows (λ ps st fit c.
          sames_apart (premises_of t.named i 0 (sequent m z)) ps (as_many ps c) (λ k. some (sym (counted ps c) ∙ k)) st fit (rw e at (made_first some first shown)))

      pub follows_one : b ≡ true → n ≡ 1 → Follows m z rule i s at true
      follows_one e h =
          named_follows (λ ps st fit c.
          sames_one (premises_of t.named i 0 (sequent m z)) ps (as_many ps c) (counted ps c ∙ h) st fit (rw e at (made_first some first shown)))

      pub follows_two : {next : ℕ} {y' : Zones} {b' : Bool} → b ≡ true → (n ≡ 1 → ⊥) → TreePassed s at next → Means m (second_of (step (sequent m z) w)) y'
          → Shown m y' s next b'
          → Follows m z rule i s at b'
      follows_two {next} {y'} {b'} e h p second shown' =
          named_follows (λ ps st fit c.
          sames_two
          (premises_of t.named i 0 (sequent m z))
          ps
          (as_many ps c)
          (counted ps c ∙ word_two t word_is count_is some h)
          st
          fit
          (rw e at (made_first some first shown))
          p
          (made_second some h second shown'))
      -- ---- the step at a place

-- a premise that the tree's premise concludes has at most 31 formulas, as that one has
few_concluded : (qs : List Sequent) (ps : Trees) → map concluded qs ≡ conclusions ps → NodesFit* ps → FewEach (at_most 31) qs
unfolding conclusions exceeds
few_concluded [] ps e f = few_none
few_concluded (q ∷ qs) ∅ e f = let z : ◌≡◌ {A = ℕ} 0 1 = cc in absurd (omega arith)
few_concluded (q ∷ qs) (node r c us ▹ ps) e f =
    let h : concluded q ≡ c = cc in
    let k : map concluded qs ≡ conclusions ps = cc in
    let counts : count c ≡ count q = ap (λ (x : Sequent). count x) (sym h) ∙ concluded_count q in
    few_more (le-ltb 31 (count q) (omega (arith, f.0.0.zones_fit.few_formulas))) (few_concluded qs ps k f.1)

fits_few : (r : Rule) (q : Sequent) (ps : Trees) (i mask : ℕ) → fits r q (conclusions ps) i mask ≡ true → NodesFit* ps
    → few_each (at_most 31) (premises_of r i mask q) [] ≡ (made tt, [])
fits_few r q ps i mask e f = few_each_made [] (few_concluded (premises_of r i mask q) ps (fits_premises r q (conclusions ps) i mask e) f)

fits_refused : (r : Rule) (q : Sequent) (ps : Trees) (i mask : ℕ) → few_each (at_most 31) (premises_of r i mask q) [] ≡ (refused too_many, []) → NodesFit* ps
    → false ≡ fits r q (conclusions ps) i mask
fits_refused r q ps i mask e f = go (fits r q (conclusions ps) i mask) refl
  where
    go : (b : Bool) → fits r q (conclusions ps) i mask ≡ b → false ≡ fits r q (conclusions ps) i mask
    go false h = sym h
    go true h = absurd (made_refused (sym e ∙ fits_few r q ps i mask h f))

fits_by : (r : Rule) (q : Sequent) (ds : List Sequent) (i mask : ℕ) {b : Bool} → may_take r i mask q ≡ b
    → fits r q ds i mask ≡ b && same_sequents (map concluded (premises_of r i mask q)) ds
unfolding fits
fits_by r q ds i mask e = ap (λ (b : Bool). b && same_sequents (map concluded (premises_of r i mask q)) ds) e

pub fits_taken : {m : List ℕ} {z : Zones} {rule i : ℕ} {b c : Bool} → Asked m z rule i 0 b → Crowded z rule c → b ≡ true → Sound m z → c ≡ false
    → Taken m z rule i 0
fits_taken asked crowded takes x h = asked_taken x (rw takes at asked) (rw h at crowded)

module _ {m : List ℕ} {z : Zones} {rule i : ℕ} {s : List ℕ} {at : ℕ} {b : Bool} (asked : Asked m z rule i 0 b) where
  pub fits_untaken : b ≡ false → FitsAt m z rule i s at false
  fits_untaken h = record {
    is = λ r ps e st fit c. sym (fits_by r (sequent m z) (conclusions ps) i 0 (sym (asked.is r e) ∙ h));
    taken = λ k. absurd (false≢true k);
  }

  module _ {c : Bool} (crowded : Crowded z rule c) (takes : b ≡ true) where
    pub fits_crowded : c ≡ true → FitsAt m z rule i s at false
    fits_crowded h = record {
      is = λ r ps e st fit k. fits_refused r (sequent m z) ps i 0 (rw h at (crowded.is (told m) r i 0 [] e (sym (asked.is r e) ∙ takes))) fit;
      taken = λ k. absurd (false≢true k);
    }

    pub fits_follows : {d : Bool} → Sound m z → c ≡ false → Follows m z rule i s at d → FitsAt m z rule i s at d
    fits_follows {d} x h f = record {
      is = λ r ps e st fit k. f.is r ps e st fit k ∙ sym (fits_by r (sequent m z) (conclusions ps) i 0 (sym (asked.is r e) ∙ takes));
      taken = λ k. fits_taken asked crowded takes x h;
    }

-- ---- the least place

-- only a tensor's step reads the mask
fits_maskless : (r : Rule) → (rule_number r ≡ 4 → ⊥) → (q : Sequent) (ds : List Sequent) (i mask : ℕ) → fits r q ds i mask ≡ fits r q ds i 0
unfolding fits may_take premises_of rule_number
fits_maskless TensorIntro h q ds i mask = absurd (h refl)
fits_maskless Axiom h q ds i mask = refl
fits_maskless OneIntro h q ds i mask = refl
fits_maskless BottomIntro h q ds i mask = refl
fits_maskless ParIntro h q ds i mask = refl
fits_maskless TopIntro h q ds i mask = refl
fits_maskless WithIntro h q ds i mask = refl
fits_maskless PlusIntroLeft h q ds i mask = refl
fits_maskless PlusIntroRight h q ds i mask = refl
fits_maskless OfCourseIntro h q ds i mask = refl
fits_maskless WhyNotIntro h q ds i mask = refl
fits_maskless Weakening h q ds i mask = refl
fits_maskless Contraction h q ds i mask = refl
fits_maskless Dereliction h q ds i mask = refl
fits_maskless (Cut c) h q ds i mask = refl
fits_maskless (FocusPositive n) h q ds i mask = refl
fits_maskless (FocusNegative n) h q ds i mask = refl
fits_maskless Blur h q ds i mask = refl

module _ {m : List ℕ} {z : Zones} {rule : ℕ} {s : List ℕ} {at : ℕ} where
  pub tried_start : Tried m z rule s at 0
  tried_start = record { each = λ j l. absurd (omega arith) }

  pub tried_more : {i : ℕ} {b : Bool} → Tried m z rule s at i → FitsAt m z rule i s at b → b ≡ false → Tried m z rule s at (i + 1)
  tried_more {i} {b} t f e = record { each = λ j l. go j l (ltb j i) refl }
    where
      go : (j : ℕ) → j < i + 1 → (d : Bool) → ltb j i ≡ d → FitsAt m z rule j s at false
      go j l true h = t.each j (ltb-true j i h)
      go j l false h = let same : i ≡ j = omega (arith, ltb-false j i h) in rw (same, e) at f

  module _ (p : Placing m z rule s at) {i : ℕ} (t : Tried m z rule s at i) where
    -- the mask is not read
    no_tensor_maskless : (r : Rule) (ps : Trees) (j mask : ℕ) → rule ≡ rule_number r → fits r (sequent m z) (conclusions ps) j mask ≡ fits r (sequent m z) (conclusions ps) j 0
    no_tensor_maskless r ps j mask e = fits_maskless r (λ k. p.no_tensor (e ∙ k)) (sequent m z) (conclusions ps) j mask

    pub place_found : {b : Bool} → FitsAt m z rule i s at b → b ≡ true → PlaceFound m z rule s at (Some (i, 0))
    place_found {b} f e = record { step = record { taken = f.taken e; is = λ r ps fs k st fit c. least_is r (sequent m z) (conclusions ps) i 0 fs (it r ps k st fit c) }; low = omega arith }
      where
        it : (r : Rule) (ps : Trees) → rule ≡ rule_number r → Stands s at (write_nodes ps) → NodesFit* ps → premise_count ps ≡ follow r
            → short.Least r (sequent m z) (conclusions ps) i 0
        it r ps k st fit c = record {
          here = sym (f.is r ps k st fit c) ∙ e;
          no_earlier = λ j mask l. no_tensor_maskless r ps j mask k ∙ sym ((t.each j l).is r ps k st fit c);
          no_lesser = λ mask l. absurd (omega arith);
        }

    pub place_nowhere : {n : ℕ} → n ≡ length (linears z) + length (unrestricteds z) → n ≤ i → PlaceFound m z rule s at None
    place_nowhere {n} e l = record { step = record { taken = tt; is = λ r ps fs k st fit c. least_none r (sequent m z) (conclusions ps) fs (none r ps k st fit c) }; low = tt }
      where
        counted_zones : count (sequent m z) ≡ n
        counted_zones = omega (arith, length-map (linears z) (told m), length-map (unrestricteds z) (told m))

        none : (r : Rule) (ps : Trees) → rule ≡ rule_number r → Stands s at (write_nodes ps) → NodesFit* ps → premise_count ps ≡ follow r → (j mask : ℕ)
            → fits r (sequent m z) (conclusions ps) j mask ≡ false
        none r ps k st fit c j mask = go (fits r (sequent m z) (conclusions ps) j mask) refl
          where
            go : (d : Bool) → fits r (sequent m z) (conclusions ps) j mask ≡ d → fits r (sequent m z) (conclusions ps) j mask ≡ false
            go false h = h
            go true h =
                no_tensor_maskless r ps j mask k
                ∙ sym ((t.each j (omega (arith, fits_place r (sequent m z) (conclusions ps) j mask h, counted_zones))).is r ps k st fit c)

-- ---- the least step of a node

none_fits : (r : Rule) (q : Sequent) (ds : List Sequent) → ((i mask : ℕ) → fits r q ds i mask ≡ true → ⊥) → (i mask : ℕ) → fits r q ds i mask ≡ false
none_fits r q ds h i mask = go (fits r q ds i mask) refl
  where
    go : (b : Bool) → fits r q ds i mask ≡ b → fits r q ds i mask ≡ false
    go false e = e
    go true e = absurd (h i mask e)

conclusions_length : (ps : Trees) → length (conclusions ps) ≡ premise_count ps
unfolding conclusions premise_count
conclusions_length ∅ = refl
conclusions_length (t ▹ ts) = ap suc (conclusions_length ts)

-- what fits is taken
module _ {m : List ℕ} {z : Zones} (x : Sound m z) (r : Rule) (ps : Trees) (fit : NodesFit* ps) (i mask : ℕ)
    (e : fits r (sequent m z) (conclusions ps) i mask ≡ true) where
  abbrev fitting : Taken m z (rule_number r) i mask
  fitting = record { sound = x; named = r; number = refl; takes = fits_takes r (sequent m z) (conclusions ps) i mask e; few = fits_few r (sequent m z) ps i mask e fit }

  fits_low : rule_number r < 15
  fits_low = taken_rule fitting

  fits_follow : premise_count ps ≡ follow r
  fits_follow =
      omega (
        arith,
        ap length (fits_premises r (sequent m z) (conclusions ps) i mask e),
        length-map (premises_of r i mask (sequent m z)) concluded,
        premises_follow fitting,
        conclusions_length ps,
      )

-- a tensor's mask has at most 30 bits
pub tensor_low : {m : List ℕ} {z : Zones} {s : List ℕ} {at : ℕ} (x : Option (ℕ × ℕ)) → LeastStep m z 4 s at x → MaskLow x
tensor_low None l = tt
tensor_low (Some (i, mask)) l = omega (arith, taken_mask l.taken refl)

pub low_rule : {rule w : ℕ} → w ≡ word rule 0 0 → rule ≤ 14 → rule_of w < 15
low_rule {rule} {w} e low = rw (e, rule_of_word rule 0 0 (omega arith) (omega arith)) (omega arith)

-- how many premises follow a rule, as a word of it says
word_counts : {rule w follows : ℕ} (r : Rule) → rule ≡ rule_number r → rule ≤ 14 → w ≡ word rule 0 0 → follows ≡ get_or premise_counts (rule_of w) 0
    → follows ≡ follow r
word_counts {rule} {w} {follows} r e low word_is count_is =
    count_is
    ∙ ap (λ (k : ℕ). get_or premise_counts k 0) (ap (λ (k : ℕ). rule_of k) word_is ∙ rule_of_word rule 0 0 (omega arith) (omega arith) ∙ e)
    ∙ premise_counts_follow r

module _ {m : List ℕ} {z : Zones} {s : List ℕ} {n : Node} where
  nowhere : ((r : Rule) (q : Sequent) (ps : Trees) → NodeIs s n r q ps → NodesFit* ps → (i mask : ℕ) → fits r (sequent m z) (conclusions ps) i mask ≡ true → ⊥)
      → LeastFor m z s n None
  nowhere h = record {
    taken = tt;
    low = tt;
    is = λ r q ps fs k fit. least_none r (sequent m z) (conclusions ps) fs (none_fits r (sequent m z) (conclusions ps) (h r q ps k fit));
  }

  -- a rule above 14 has no short form
  pub step_high : Sound m z → 14 < n.rule → LeastFor m z s n None
  step_high x h = nowhere (λ r q ps k fit i mask e. omega (arith, k.rule_is, fits_low x r ps fit i mask e))

  module _ {rule w follows : ℕ} (rule_is : rule ≡ n.rule) (low : rule ≤ 14) (word_is : w ≡ word rule 0 0) (count_is : follows ≡ get_or premise_counts (rule_of w) 0) where
    -- the node has another number of premises than follow its rule
    pub step_other : Sound m z → (n.premises ≡ follows → ⊥) → LeastFor m z s n None
    step_other x h =
        nowhere (λ r q ps k fit i mask e. h (k.count_is ∙ fits_follow x r ps fit i mask e ∙ sym (word_counts r (rule_is ∙ k.rule_is) low word_is count_is)))

    step_found : n.premises ≡ follows → {x : Option (ℕ × ℕ)} → LeastStep m z rule s n.next x → MaskLow x → LeastFor m z s n x
    step_found h {x} l small = record {
      taken = rw rule_is at l.taken;
      low = small;
      is = λ r q ps fs k fit. l.is r ps fs (rule_is ∙ k.rule_is) k.premises_are fit (sym k.count_is ∙ h ∙ word_counts r (rule_is ∙ k.rule_is) low word_is count_is);
    }

    pub step_tensor : n.premises ≡ follows → rule ≡ 4 → {x : Option (ℕ × ℕ)} → LeastStep m z 4 s n.next x → LeastFor m z s n x
    step_tensor h e {x} l = step_found h (rw e l) (tensor_low x l)

    pub step_placed : n.premises ≡ follows → {x : Option (ℕ × ℕ)} → PlaceFound m z rule s n.next x → LeastFor m z s n x
    step_placed h p = step_found h p.step p.low
