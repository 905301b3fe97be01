-- Laws of a step that is taken: its number tells its rule, its place and mask are low, its word is that step, its premises by how many there are, and it is
-- taken as before where more is held. Assumes nothing.
use Rattle.std.specs.Prelude.{◌≡◌, refl, Bool, false, ◌&&◌, List, [], ◌∷◌, ◌↔◌, ℕ, suc, ◌+◌, ◌≤◌, ◌<◌, ◌^◌, eqb, ltb, get_or, take, drop}
use Rattle.std.proofs.Common.{sym, ap, ◌∙◌, arith, length-append, length-take, length-drop}
use Rattle.std.proofs.Math.Bool.{true, and-eq-true_iff}
use Rattle.std.proofs.lemmas.Bool.{false≢true}
use Rattle.std.proofs.Math.Option.{none, some}
use Rattle.std.proofs.Math.Nat.{pow-le-pow_right}
use Rattle.std.proofs.Math.ListN.{length}
use Rattle.std.proofs.lemmas.List.{length-map}
use borrow.Author.Tests.{ltb-true, ltb-false}
use Rattle.logic.specs.Formula.{Formula}
use Rattle.logic.specs.Sequent.{Sequent, count}
use Rattle.logic.specs.Limits.{at_most, exceeds}
use Rattle.logic.specs.Tree.{
  Rule,
  Axiom,
  Cut,
  OneIntro,
  BottomIntro,
  TensorIntro,
  ParIntro,
  TopIntro,
  WithIntro,
  PlusIntroLeft,
  PlusIntroRight,
  OfCourseIntro,
  WhyNotIntro,
  Weakening,
  Contraction,
  Dereliction,
  FocusPositive,
  FocusNegative,
  Blur,
}
use Rattle.tree.specs.Places.{rule_number}
use Rattle.held.specs.Words.{told, Wf, Extends}
use Rattle.held.specs.WordsLaws.{keeps}
use Rattle.zones.specs.declared.Zones.{Zones}
use Rattle.zones.specs.Zones.{Fits, linears, unrestricteds, remove}
use Rattle.zones.specs.ZonesLaws.{linears_length, unrestricteds_length, within_more, meant_agree}
use Rattle.expand.specs.Short.{word, rule_of, ◌by◌, steps, step}
use Rattle.expand.specs.ShortLaws.{rule_of_word, place_of_word, mask_of_word}
use Rattle.expand.specs.Writing.{Sound, premise_counts, first_of, second_of, Stepping, Stepping₂}
use Rattle.short.specs.Short.{follow}
use Rattle.short.specs.Steps.{is_sync, is_focus, may_take, premises_of}
use Rattle.short.proofs.StepsLaws.{is_first_placed, is_focus_tells, is_focus_placed}
use Rattle.short.proofs.LeastLaws.{may_take_place}
use Rattle.short.specs.Making.{made, few_each}
use Rattle.short.specs.MakingLaws.{few_each_passed, few_each_made}
use Rattle.short.specs.Few.{FewEach, few_none, few_more}
use Rattle.step.specs.Taking.{sequent, Asked, Crowded, Taken}

-- ---- the rule by its number

-- the rules that may be taken, by their numbers; at 1, and past 14, there is none
abbrev rules : List Rule
rules =
    Axiom
    ∷ Blur
    ∷ OneIntro
    ∷ BottomIntro
    ∷ TensorIntro
    ∷ ParIntro
    ∷ TopIntro
    ∷ WithIntro
    ∷ PlusIntroLeft
    ∷ PlusIntroRight
    ∷ OfCourseIntro
    ∷ WhyNotIntro
    ∷ Weakening
    ∷ Contraction
    ∷ Dereliction
    ∷ []

-- the number of such a rule
record Takable (n : ℕ) : Type 0 where
  low : n < 15
  no_cut : n ≡ 1 → ⊥

rule_takable : (r : Rule) (i mask : ℕ) (q : Sequent) → may_take r i mask q ≡ true → Takable (rule_number r)
unfolding may_take rule_number
rule_takable Axiom i mask q e = record { low = omega arith; no_cut = λ k. omega arith }
rule_takable OneIntro i mask q e = record { low = omega arith; no_cut = λ k. omega arith }
rule_takable BottomIntro i mask q e = record { low = omega arith; no_cut = λ k. omega arith }
rule_takable TensorIntro i mask q e = record { low = omega arith; no_cut = λ k. omega arith }
rule_takable ParIntro i mask q e = record { low = omega arith; no_cut = λ k. omega arith }
rule_takable TopIntro i mask q e = record { low = omega arith; no_cut = λ k. omega arith }
rule_takable WithIntro i mask q e = record { low = omega arith; no_cut = λ k. omega arith }
rule_takable PlusIntroLeft i mask q e = record { low = omega arith; no_cut = λ k. omega arith }
rule_takable PlusIntroRight i mask q e = record { low = omega arith; no_cut = λ k. omega arith }
rule_takable OfCourseIntro i mask q e = record { low = omega arith; no_cut = λ k. omega arith }
rule_takable WhyNotIntro i mask q e = record { low = omega arith; no_cut = λ k. omega arith }
rule_takable Weakening i mask q e = record { low = omega arith; no_cut = λ k. omega arith }
rule_takable Contraction i mask q e = record { low = omega arith; no_cut = λ k. omega arith }
rule_takable Dereliction i mask q e = record { low = omega arith; no_cut = λ k. omega arith }
rule_takable (Cut c) i mask q e = absurd (false≢true e)
rule_takable (FocusPositive n) i mask q e = absurd (false≢true e)
rule_takable (FocusNegative n) i mask q e = absurd (false≢true e)
rule_takable Blur i mask q e = absurd (false≢true e)

takable_rule : (r : Rule) → Takable (rule_number r) → get_or rules (rule_number r) Blur ≡ r
unfolding rule_number
takable_rule Axiom t = refl
takable_rule OneIntro t = refl
takable_rule BottomIntro t = refl
takable_rule TensorIntro t = refl
takable_rule ParIntro t = refl
takable_rule TopIntro t = refl
takable_rule WithIntro t = refl
takable_rule PlusIntroLeft t = refl
takable_rule PlusIntroRight t = refl
takable_rule OfCourseIntro t = refl
takable_rule WhyNotIntro t = refl
takable_rule Weakening t = refl
takable_rule Contraction t = refl
takable_rule Dereliction t = refl
takable_rule (Cut c) t = absurd (t.no_cut refl)
takable_rule (FocusPositive n) t = absurd (omega (arith, t.low))
takable_rule (FocusNegative n) t = absurd (omega (arith, t.low))
takable_rule Blur t = absurd (omega (arith, t.low))

-- Cut and the focus rules, whose arguments no number tells, are never taken
pub named_once : (r r' : Rule) (i mask : ℕ) (q : Sequent) → rule_number r ≡ rule_number r' → may_take r i mask q ≡ true → r ≡ r'
named_once r r' i mask q e t =
    let k = rule_takable r i mask q t in
    sym (takable_rule r k) ∙ ap (λ (n : ℕ). get_or rules n Blur) e ∙ takable_rule r' (rw e at k)

-- ---- how many formulas there are

pub sequent_count : (m : List ℕ) {z : Zones} → Fits z → count (sequent m z) ≡ z.linear_len + z.unrestricted_len
sequent_count m {z} f =
    omega (arith, length-map (linears z) (told m), length-map (unrestricteds z) (told m), linears_length f, unrestricteds_length f)

pub sequent_few : (m : List ℕ) {z : Zones} → Fits z → count (sequent m z) ≤ 31
sequent_few m f = omega (arith, sequent_count m f, f.few)

-- every sequent has at most 31 formulas
abbrev pub AllFew : List Sequent → Type 0
AllFew [] = Unit {0}
AllFew (q ∷ qs) = (count q ≤ 31) × AllFew qs

few_all : {qs : List Sequent} → FewEach (at_most 31) qs → AllFew qs
unfolding exceeds
few_all few_none = tt
few_all (few_more {q} h d) = (ltb-false 31 (count q) h, few_all d)

all_few : (qs : List Sequent) → AllFew qs → FewEach (at_most 31) qs
unfolding exceeds
all_few [] a = few_none
all_few (q ∷ qs) a = few_more (not_over (ltb 31 (count q)) refl) (all_few qs a.1)
  where
    not_over : (b : Bool) → ltb 31 (count q) ≡ b → ltb 31 (count q) ≡ false
    not_over true e = absurd (omega (arith, ltb-true 31 (count q) e, a.0))
    not_over false e = e

pub crowded_few : (qs : List Sequent) (fs : List Formula) → (few_each (at_most 31) qs fs ≡ (made tt, fs)) ↔ AllFew qs
crowded_few qs fs = (λ e. few_all (few_each_passed (at_most 31) qs fs e).0, λ a. few_each_made fs (all_few qs a))

-- ---- the word of a step that may be taken

module _ (q : Sequent) {i : ℕ} (mask : ℕ) (low : i < 32) where
  step_word : (rule : ℕ) → rule < 32 → step q (word rule i mask) ≡ get_or (steps q i mask) rule none
  unfolding step
  step_word rule l = rw (rule_of_word rule i mask l low, place_of_word rule i mask l low, mask_of_word rule i mask l low)

  -- a rule for an unrestricted formula
  copied_within : (is_sync q && ltb i (length q.unrestricted)) ≡ true → ltb i (length q.unrestricted) ≡ true
  copied_within e = ((and-eq-true_iff (is_sync q) (ltb i (length q.unrestricted))).0 e).1

  pub may_take_step : (r : Rule) → may_take r i mask q ≡ true → step q (word (rule_number r) i mask) ≡ some (premises_of r i mask q by r)
  unfolding may_take premises_of rule_number steps
  may_take_step Axiom e = step_word 0 (omega arith)
  may_take_step OneIntro e = step_word 2 (omega arith)
  may_take_step BottomIntro e = step_word 3 (omega arith) ∙ rw (is_first_placed q i 1 (omega arith) e).0.sign
  may_take_step TensorIntro e =
      let b = (and-eq-true_iff (is_focus q i 6) (ltb mask (2 ^ length (remove i q.linear)))).0 e in
      step_word 4 (omega arith) ∙ rw (is_focus_tells q i 6 b.0).0
  may_take_step ParIntro e = step_word 5 (omega arith) ∙ rw (is_first_placed q i 7 (omega arith) e).0.sign
  may_take_step TopIntro e = step_word 6 (omega arith)
  may_take_step WithIntro e = step_word 7 (omega arith) ∙ rw (is_first_placed q i 8 (omega arith) e).0.sign
  may_take_step PlusIntroLeft e = step_word 8 (omega arith) ∙ rw (is_focus_tells q i 9 e).0
  may_take_step PlusIntroRight e = step_word 9 (omega arith) ∙ rw (is_focus_tells q i 9 e).0
  may_take_step OfCourseIntro e =
      let b = (and-eq-true_iff (is_focus q i 11) (eqb (length q.linear) 1)).0 e in step_word 10 (omega arith) ∙ rw (is_focus_tells q i 11 b.0).0
  may_take_step WhyNotIntro e = step_word 11 (omega arith) ∙ rw (is_first_placed q i 12 (omega arith) e).0.sign
  may_take_step Weakening e = step_word 12 (omega arith) ∙ rw (copied_within e)
  may_take_step Contraction e = step_word 13 (omega arith) ∙ rw (copied_within e)
  may_take_step Dereliction e = step_word 14 (omega arith) ∙ rw (copied_within e)
  may_take_step (Cut c) e = absurd (false≢true e)
  may_take_step (FocusPositive n) e = absurd (false≢true e)
  may_take_step (FocusNegative n) e = absurd (false≢true e)
  may_take_step Blur e = absurd (false≢true e)

-- ---- how many premises

-- the premises of a rule, by how many they are
data Premises (r : Rule) (i mask : ℕ) (q : Sequent) : Type 0 where
  none_at_all : premises_of r i mask q ≡ [] → follow r ≡ 0 → Premises r i mask q
  one_alone : (p : Sequent) → premises_of r i mask q ≡ p ∷ [] → follow r ≡ 1 → Premises r i mask q
  one_and_another : (p p' : Sequent) → premises_of r i mask q ≡ p ∷ p' ∷ [] → follow r ≡ 2 → Premises r i mask q

premises_by_rule : (r : Rule) (i mask : ℕ) (q : Sequent) → Premises r i mask q
unfolding premises_of follow
premises_by_rule Axiom i mask q = none_at_all refl refl
premises_by_rule OneIntro i mask q = none_at_all refl refl
premises_by_rule BottomIntro i mask q = one_alone _ refl refl
premises_by_rule TensorIntro i mask q = one_and_another _ _ refl refl
premises_by_rule ParIntro i mask q = one_alone _ refl refl
premises_by_rule TopIntro i mask q = none_at_all refl refl
premises_by_rule WithIntro i mask q = one_and_another _ _ refl refl
premises_by_rule PlusIntroLeft i mask q = one_alone _ refl refl
premises_by_rule PlusIntroRight i mask q = one_alone _ refl refl
premises_by_rule OfCourseIntro i mask q = one_alone _ refl refl
premises_by_rule WhyNotIntro i mask q = one_alone _ refl refl
premises_by_rule Weakening i mask q = one_alone _ refl refl
premises_by_rule Contraction i mask q = one_alone _ refl refl
premises_by_rule Dereliction i mask q = one_alone _ refl refl
premises_by_rule (Cut c) i mask q = none_at_all refl refl
premises_by_rule (FocusPositive n) i mask q = none_at_all refl refl
premises_by_rule (FocusNegative n) i mask q = none_at_all refl refl
premises_by_rule Blur i mask q = none_at_all refl refl

pub premise_counts_follow : (r : Rule) → get_or premise_counts (rule_number r) 0 ≡ follow r
unfolding rule_number follow
premise_counts_follow Axiom = refl
premise_counts_follow OneIntro = refl
premise_counts_follow BottomIntro = refl
premise_counts_follow TensorIntro = refl
premise_counts_follow ParIntro = refl
premise_counts_follow TopIntro = refl
premise_counts_follow WithIntro = refl
premise_counts_follow PlusIntroLeft = refl
premise_counts_follow PlusIntroRight = refl
premise_counts_follow OfCourseIntro = refl
premise_counts_follow WhyNotIntro = refl
premise_counts_follow Weakening = refl
premise_counts_follow Contraction = refl
premise_counts_follow Dereliction = refl
premise_counts_follow (Cut c) = refl
premise_counts_follow (FocusPositive n) = refl
premise_counts_follow (FocusNegative n) = refl
premise_counts_follow Blur = refl

-- what making no premise needs, one, and two
pub record NoPremise (m : List ℕ) (z : Zones) (rule place mask : ℕ) (r : Rule) : Type 0 where
  pub premises_are : premises_of r place mask (sequent m z) ≡ []
  pub counted : get_or premise_counts (rule_of (word rule place mask)) 0 ≡ 0

pub record OnePremise (m : List ℕ) (z : Zones) (rule place mask : ℕ) (r : Rule) : Type 0 where
  pub first : Sequent
  pub premises_are : premises_of r place mask (sequent m z) ≡ first ∷ []
  pub counted : get_or premise_counts (rule_of (word rule place mask)) 0 ≡ 1
  pub stepping : Stepping m z (word rule place mask)
  pub first_is : first_of (step (sequent m z) (word rule place mask)) ≡ first
  pub few : count first ≤ 31

pub record TwoPremises (m : List ℕ) (z : Zones) (rule place mask : ℕ) (r : Rule) : Type 0 where
  pub first : Sequent
  pub second : Sequent
  pub premises_are : premises_of r place mask (sequent m z) ≡ first ∷ second ∷ []
  pub counted : get_or premise_counts (rule_of (word rule place mask)) 0 ≡ 2
  pub stepping : Stepping m z (word rule place mask)
  pub stepping₂ : Stepping₂ m z (word rule place mask)
  pub first_is : first_of (step (sequent m z) (word rule place mask)) ≡ first
  pub second_is : second_of (step (sequent m z) (word rule place mask)) ≡ second
  pub few_first : count first ≤ 31
  pub few_second : count second ≤ 31

pub data Premised (m : List ℕ) (z : Zones) (rule place mask : ℕ) (r : Rule) : Type 0 where
  no_premise : NoPremise m z rule place mask r → Premised m z rule place mask r
  one_premise : OnePremise m z rule place mask r → Premised m z rule place mask r
  two_premises : TwoPremises m z rule place mask r → Premised m z rule place mask r

-- ---- a step that is taken

module _ {m : List ℕ} {z : Zones} {rule place mask : ℕ} (t : Taken m z rule place mask) where
  abbrev at_word : ℕ
  at_word = word rule place mask

  pub taken_place : place < 31
  taken_place = omega (arith, may_take_place t.named place mask (sequent m z) t.takes, sequent_few m t.sound.fits)

  takable : Takable rule
  takable = rw t.number (rule_takable t.named place mask (sequent m z) t.takes)

  pub taken_rule : rule < 15
  taken_rule = takable.low

  pub taken_no_cut : rule ≡ 1 → ⊥
  taken_no_cut = takable.no_cut

  -- a rule of this number is the rule
  pub taken_named : (r : Rule) → rule ≡ rule_number r → t.named ≡ r
  taken_named r e = named_once t.named r place mask (sequent m z) (sym t.number ∙ e) t.takes

  pub taken_rule_of : rule_of (word rule place mask) ≡ rule
  taken_rule_of = rule_of_word rule place mask (omega (arith, taken_rule)) (omega (arith, taken_place))

  pub taken_rule_of_low : rule_of (word rule place mask) < 15
  taken_rule_of_low = rw taken_rule_of taken_rule

  pub taken_step : step (sequent m z) (word rule place mask) ≡ some (premises_of t.named place mask (sequent m z) by t.named)
  taken_step =
      ap (λ (n : ℕ). step (sequent m z) (word n place mask)) t.number
      ∙ may_take_step (sequent m z) mask (omega (arith, taken_place)) t.named t.takes

  pub premised_follow : get_or premise_counts (rule_of (word rule place mask)) 0 ≡ follow t.named
  premised_follow =
      ap (λ (n : ℕ). get_or premise_counts n 0) (taken_rule_of ∙ t.number) ∙ premise_counts_follow t.named

  pub premised : Premised m z rule place mask t.named
  premised = go (premises_by_rule t.named place mask (sequent m z))
    where
      all : AllFew (premises_of t.named place mask (sequent m z))
      all = (crowded_few _ []).0 t.few

      go : Premises t.named place mask (sequent m z) → Premised m z rule place mask t.named
      go (none_at_all e n) = no_premise record { premises_are = e; counted = premised_follow ∙ n }
      go (one_alone p e n) =
          let s : step (sequent m z) at_word ≡ some (p ∷ [] by t.named) = rw e at taken_step in
          let f : AllFew (p ∷ []) = rw e at all in
          one_premise record {
            first = p;
            premises_are = e;
            counted = premised_follow ∙ n;
            stepping = record { sound = t.sound; rule = t.named; first = p; others = []; takes = s; few = f.0 };
            first_is = ap first_of s;
            few = f.0;
          }
      go (one_and_another p p' e n) =
          let s : step (sequent m z) at_word ≡ some (p ∷ p' ∷ [] by t.named) = rw e at taken_step in
          let f : AllFew (p ∷ p' ∷ []) = rw e at all in
          two_premises record {
            first = p;
            second = p';
            premises_are = e;
            counted = premised_follow ∙ n;
            stepping = record { sound = t.sound; rule = t.named; first = p; others = p' ∷ []; takes = s; few = f.0 };
            stepping₂ = record { sound = t.sound; rule = t.named; first = p; second = p'; takes = s; few = f.1.0 };
            first_is = ap first_of s;
            second_is = ap second_of s;
            few_first = f.0;
            few_second = f.1.0;
          }

  -- where the count is known
  pub premised_none : get_or premise_counts (rule_of (word rule place mask)) 0 ≡ 0 → NoPremise m z rule place mask t.named
  premised_none e = go premised
    where
      go : Premised m z rule place mask t.named → NoPremise m z rule place mask t.named
      go (no_premise p) = p
      go (one_premise p) = absurd (omega (arith, p.counted))
      go (two_premises p) = absurd (omega (arith, p.counted))

  pub premised_one : get_or premise_counts (rule_of (word rule place mask)) 0 ≡ 1 → OnePremise m z rule place mask t.named
  premised_one e = go premised
    where
      go : Premised m z rule place mask t.named → OnePremise m z rule place mask t.named
      go (no_premise p) = absurd (omega (arith, p.counted))
      go (one_premise p) = p
      go (two_premises p) = absurd (omega (arith, p.counted))

  pub premised_two : get_or premise_counts (rule_of (word rule place mask)) 0 ≡ 2 → TwoPremises m z rule place mask t.named
  premised_two e = go premised
    where
      go : Premised m z rule place mask t.named → TwoPremises m z rule place mask t.named
      go (no_premise p) = absurd (omega (arith, p.counted))
      go (one_premise p) = absurd (omega (arith, p.counted))
      go (two_premises p) = p

  -- a tensor stands at the place, and its mask has a bit for each other formula at most; the mask at any other rule is free
  pub taken_split : rule ≡ 4 → (place < length (sequent m z).linear) × (mask < 2 ^ length (remove place (sequent m z).linear))
  unfolding may_take rule_number
  taken_split e =
      let tensor : t.named ≡ TensorIntro = taken_named TensorIntro e in
      let takes : may_take TensorIntro place mask (sequent m z) ≡ true = rw tensor at t.takes in
      let b = (and-eq-true_iff (is_focus (sequent m z) place 6) (ltb mask (2 ^ length (remove place (sequent m z).linear)))).0 takes in
      ((is_focus_placed (sequent m z) place 6 (omega arith) b.0).0.within, ltb-true mask (2 ^ length (remove place (sequent m z).linear)) b.1)

  pub taken_mask : rule ≡ 4 → mask < 1073741824
  taken_mask e =
      let b = taken_split e in
      let Γ = (sequent m z).linear in
      let shorter : length (remove place Γ) ≤ 30 =
      omega (arith, length-append (take place Γ) (drop (suc place) Γ), length-take place Γ, length-drop (suc place) Γ, b.0, sequent_few m t.sound.fits) in
      let most : 2 ^ length (remove place Γ) ≤ 1073741824 = pow-le-pow_right {n = 2} (omega arith) shorter in
      omega (arith, b.1, most)

-- ---- a step is taken where it may be, and its premises are few

pub asked_taken : {m : List ℕ} {z : Zones} {rule place mask : ℕ} → Sound m z → Asked m z rule place mask true → Crowded z rule false
    → Taken m z rule place mask
asked_taken {m} {z} {rule} {place} {mask} s a c =
    let n = a.some refl in
    let takes : may_take n.named place mask (sequent m z) ≡ true = sym (a.is n.named n.number) in
    record {
      sound = s;
      named = n.named;
      number = n.number;
      takes = takes;
      few = c.is (told m) n.named place mask [] n.number takes;
    }

-- ---- where more is held

module _ {m m' : List ℕ} (grew : Extends m m') where
  pub sequent_grows : {z : Zones} → Wf m' → Sound m z → Sound m' z
  sequent_grows w s = record { wf = w; fits = s.fits; within = within_more grew.more s.within }

  pub sequent_same : {z : Zones} → Sound m z → sequent m' z ≡ sequent m z
  sequent_same s = meant_agree (told m) (told m') (keeps m m' grew) s.within

  pub taken_grows : {z : Zones} {rule place mask : ℕ} → Wf m' → Taken m z rule place mask → Taken m' z rule place mask
  taken_grows {z} {rule} {place} {mask} w t =
      let same = sequent_same t.sound in
      record {
        sound = sequent_grows w t.sound;
        named = t.named;
        number = t.number;
        takes = ap (may_take t.named place mask) same ∙ t.takes;
        few = ap (λ (q : Sequent). few_each (at_most 31) (premises_of t.named place mask q) []) same ∙ t.few;
      }
