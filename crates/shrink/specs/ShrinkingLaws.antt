-- Laws of shortening in bytes, one for each way out of each function; and that a short tree is no longer than its tree. Assumes nothing.
use Rattle.std.proofs.Math.Path.{◌≡◌}
use Rattle.std.specs.Prelude.{Option, None, Some, Ok, Err, refl, Bool, true, false, ℕ, suc, ◌+◌, ◌*◌, ◌-◌, ◌≤◌, ◌<◌, eqb, get_or, set}
use Rattle.std.proofs.Common.{sym, ap, ap₂, subst, ◌∙◌, add-one, arith, length-set, eq-eqb, ne_eqb}
use Rattle.std.proofs.lemmas.Bool.{false≢true}
use mathlib.Core.List.{List, [], ◌∷◌, ◌++◌, map, append-nil}
use Rattle.std.proofs.Math.ListN.{length, length-append}
use Rattle.std.proofs.lemmas.List.Edits.{sets}
use Rattle.std.proofs.Math.Seq.{length-sets}
use Rattle.logic.specs.Formula.{Formula}
use Rattle.logic.specs.Sequent.{Sequent, ◌﹔◌}
use Rattle.logic.specs.Answer.{Refusal, wrong_number, wrong_length, wrong_tag, too_high, too_many, held_full, budget_spent, failures_full, output_short, wrong_setting, wrong_memory}
use Rattle.logic.specs.Conclusion.{concluded}
use Rattle.logic.specs.Limits.{Limits}
use Rattle.logic.specs.Tree.{
  Rule,
  Axiom,
  Cut,
  OneIntro,
  BottomIntro,
  TensorIntro,
  ParIntro,
  TopIntro,
  WithIntro,
  PlusIntroLeft,
  PlusIntroRight,
  OfCourseIntro,
  WhyNotIntro,
  Weakening,
  Contraction,
  Dereliction,
  FocusPositive,
  FocusNegative,
  Blur,
  Tree,
  Trees,
  node,
  ∅,
  ◌▹◌,
  conclusion,
  conclusions,
  premise_count,
}
use Rattle.wire.specs.Write.{write_zone, write_rule, write_node, write_nodes}
use Rattle.wire.proofs.ZoneBytes.{length_write_zone}
use Rattle.wire.specs.Fits.{NodesFit, NodesFit*}
use Rattle.formula.proofs.RewritingLaws.{sets_append}
use Rattle.tree.specs.Stands.{Stands}
use Rattle.tree.specs.StandsLaws.{stands_left, stands_right}
use Rattle.tree.specs.Places.{rule_number, NodeFound}
use Rattle.tree.specs.PlacesLaws.{node_long}
use Rattle.tree.specs.declared.Node.{Node}
use Rattle.held.specs.Words.{view, Extends}
use Rattle.held.specs.WordsLaws.{extends_refl, extends_trans}
use Rattle.zones.specs.declared.Zones.{Zones}
use Rattle.expand.specs.Short.{word, rule_of, step}
use Rattle.expand.specs.Writing.{Means, Wrote, Stepping₂, first_of, second_of, premise_counts}
use Rattle.short.specs.Short.{Short, short, Shorts, □, ◌▸◌}
use Rattle.short.specs.Steps.{may_take, premises_of}
use Rattle.short.specs.Making.{Result, made, mismatch, refused, answer, next_of, ◌and_then◌, unless, spelt}
use Rattle.short.specs.MakingLaws.{result_of, with_held, made_mismatch, made_same, and_then_from, unless_true, paired_through}
use Rattle.short.specs.Shortening.{same_sequent, least, shrunk, shorten, shorten_all}
use Rattle.short.proofs.LeastLaws.{same_sequent_iff, fits_premises, least_apart}
use Rattle.short.proofs.ShortenLaws.{shrunk_stages}
use Rattle.short_read.specs.Reading.{node_bytes}
use Rattle.short_bytes.specs.Write.{four_bytes, has_mask, write_mask, write_short_node, write_short_nodes}
use Rattle.step.specs.Taking.{sequent, if_full, SpeltTo}
use Rattle.step.specs.TakingLaws.{taken_named, taken_place, taken_rule, sequent_same, taken_grows}
use Rattle.least.specs.Finding.{NodeInside, LeastFor}
use Rattle.least.specs.FindingLaws.{premises_follow, word_follow, word_none, word_first, word_second, word_two}
use Rattle.shrink.specs.declared.Stop.{Stop}
use Rattle.shrink.specs.declared.Stop.TheVariants.{Full, Mismatch}
use Rattle.shrink.specs.Shrinking.{
  limits,
  mask_bytes,
  own_bytes,
  Put,
  PutNode,
  Shrinking,
  Within,
  Refuses,
  Shrink,
  Whole,
  WholeAs,
  Told,
  ShrunkAs,
  shorten_spelt,
  Shrinks,
}
use Rattle.shrink.specs.Standing.{Standing, AllTold, AllAs}

-- ---- bytes

-- one run of bytes after another
put_then : {xs ys out out₁ out₂ : List ℕ} {to : ℕ} → Put xs out to out₁ → Put ys out₁ (to + length xs) out₂ → Put (xs ++ ys) out to out₂
put_then {xs} {ys} {out} {out₁} {out₂} {to} a b = record { long = b.long ∙ a.long; written = λ h. go (omega (arith, length-append xs ys)) }
  where
    go : to + length xs + length ys ≤ length out → out₂ ≡ sets out to (xs ++ ys)
    go h = b.written (omega (arith, a.long)) ∙ ap (λ (o : List ℕ). sets o (to + length xs) ys) (a.written (omega arith)) ∙ sym (sets_append xs ys out to)

put_none : (out : List ℕ) (to : ℕ) → Put [] out to out
put_none out to = record { long = refl; written = λ h. refl }

-- a node has two bytes or six
own_long : (rule place mask : ℕ) → length (own_bytes rule place mask) ≤ 6
own_long rule place mask = go (eqb rule 4)
  where
    go : (b : Bool) → length (rule ∷ place ∷ mask_bytes b mask) ≤ 6
    go true = omega arith
    go false = omega arith

-- ---- `put_mask`, `put_node`

pub wrote_both : {out out₁ out₂ xs ys : List ℕ} {to n₁ n₂ : ℕ} → Wrote out to xs out₁ n₁ → Wrote out₁ n₁ ys out₂ n₂ → Wrote out to (xs ++ ys) out₂ n₂
wrote_both {out} {out₁} {out₂} {xs} {ys} {to} {n₁} {n₂} a b = record {
  after = omega (arith, a.after, b.after, length-append xs ys);
  written = b.written ∙ rw (a.written, a.after) (sym (sets_append xs ys out to));
}

own_length : (rule place mask : ℕ) → length (own_bytes rule place mask) ≡ node_bytes rule
own_length rule place mask = go (eqb rule 4)
  where
    go : (b : Bool) → length (rule ∷ place ∷ mask_bytes b mask) ≡ elim b as (λ _. ℕ) [ true ↦ 6 | false ↦ 2 ]
    go true = refl
    go false = refl

pub node_bytes_few : (rule : ℕ) → (2 ≤ node_bytes rule) × (node_bytes rule ≤ 6)
node_bytes_few rule = go (eqb rule 4)
  where
    go : (b : Bool) → (2 ≤ elim b as (λ _. ℕ) [ true ↦ 6 | false ↦ 2 ]) × (elim b as (λ _. ℕ) [ true ↦ 6 | false ↦ 2 ] ≤ 6)
    go true = (omega arith, omega arith)
    go false = (omega arith, omega arith)

pub node_bytes_tensor : (rule : ℕ) → rule ≡ 4 → node_bytes rule ≡ 6
node_bytes_tensor rule e = rw e

module _ {out : List ℕ} {to rule : ℕ} (place mask : ℕ) where
  -- no room
  pub put_nothing : {n : ℕ} → n ≡ node_bytes rule → length out < to + n → PutNode out to rule place mask out (to + n)
  put_nothing {n} e h = record {
    next = omega (arith, own_length rule place mask);
    put = record { long = refl; written = λ room. absurd (omega (arith, own_length rule place mask)) };
  }

  pub put_plain : {n : ℕ} → n ≡ node_bytes rule → (rule ≡ 4 → ⊥) → PutNode out to rule place mask (set (set out to rule) (to + 1) place) (to + n)
  put_plain {n} e h = record {
    next = omega (arith, own_length rule place mask);
    put = record {
      long = length-set (set out to rule) (to + 1) place ∙ length-set out to rule;
      written = λ room. plain;
    };
  }
    where
      no_mask : eqb rule 4 ≡ false
      no_mask = ne_eqb rule 4 h

      plain : set (set out to rule) (to + 1) place ≡ sets out to (own_bytes rule place mask)
      plain = rw (no_mask, add-one)

  pub put_tensor : {out' : List ℕ} {r : ℕ} → rule ≡ 4 → Wrote (set (set out to rule) (to + 1) place) (to + 2) (four_bytes mask) out' r → PutNode out to rule place mask out' r
  put_tensor {out'} {r} e w = record {
    next = rw masked (omega (arith, w.after));
    put = record {
      long = ap length w.written ∙ length-sets (set (set out to rule) (to + 1) place) (to + 2) (four_bytes mask) ∙ length-set (set out to rule) (to + 1) place ∙ length-set out to rule;
      written = λ room. w.written ∙ tensor;
    };
  }
    where
      masked : eqb rule 4 ≡ true
      masked = eq-eqb rule 4 e

      tensor : sets (set (set out to rule) (to + 1) place) (to + 2) (four_bytes mask) ≡ sets out to (own_bytes rule place mask)
      tensor = let two : to + 2 ≡ suc (suc to) = omega arith in rw (masked, two, add-one)

-- a rule with a short form has no argument, so its number is all that is written of it
short_bytes : (r : Rule) (i mask : ℕ) (ss : Shorts) (q : Sequent) → may_take r i mask q ≡ true
    → write_short_node (short r i mask ss) ≡ own_bytes (rule_number r) i mask ++ write_short_nodes ss
unfolding may_take rule_number write_rule has_mask write_mask write_short_node
short_bytes Axiom i mask ss q e = refl
short_bytes OneIntro i mask ss q e = refl
short_bytes BottomIntro i mask ss q e = refl
short_bytes TensorIntro i mask ss q e = refl
short_bytes ParIntro i mask ss q e = refl
short_bytes TopIntro i mask ss q e = refl
short_bytes WithIntro i mask ss q e = refl
short_bytes PlusIntroLeft i mask ss q e = refl
short_bytes PlusIntroRight i mask ss q e = refl
short_bytes OfCourseIntro i mask ss q e = refl
short_bytes WhyNotIntro i mask ss q e = refl
short_bytes Weakening i mask ss q e = refl
short_bytes Contraction i mask ss q e = refl
short_bytes Dereliction i mask ss q e = refl
short_bytes (Cut c) i mask ss q e = absurd (false≢true e)
short_bytes (FocusPositive n) i mask ss q e = absurd (false≢true e)
short_bytes (FocusNegative n) i mask ss q e = absurd (false≢true e)
short_bytes Blur i mask ss q e = absurd (false≢true e)

-- ---- `shorten`, and its tail

-- an implication spelled out, the test of the conclusion, then the rest
pub shorten_tail : (r : Rule) (c : Sequent) (ts : Trees) (q : Sequent) (fs : List Formula)
    → shorten limits (node r c ts) q fs
    ≡ (spelt limits.held q and_then λ _. unless (same_sequent c (concluded q)) and_then λ _. shorten_spelt (node r c ts)) fs
unfolding shorten shrunk shorten_spelt
shorten_tail r c ts q fs = refl

-- where it is spelled out, and concludes that
pub shorten_goes : (t : Tree) (q : Sequent) (fs hs : List Formula) → conclusion t ≡ concluded q → spelt limits.held q fs ≡ (made tt, hs)
    → shorten limits t q fs ≡ shorten_spelt t hs
shorten_goes (node r c ts) q fs hs e k =
    shorten_tail r c ts q fs
    ∙ and_then_from (spelt limits.held q) _ fs (made tt) hs k
    ∙ and_then_from (unless (same_sequent c (concluded q))) _ hs (made tt) hs (unless_true _ _ ((same_sequent_iff c (concluded q)).1 e))

pub shorten_full : (t : Tree) (q : Sequent) (fs hs : List Formula) → spelt limits.held q fs ≡ (refused held_full, hs)
    → shorten limits t q fs ≡ (refused held_full, hs)
shorten_full (node r c ts) q fs hs k = shorten_tail r c ts q fs ∙ and_then_from (spelt limits.held q) _ fs (refused held_full) hs k

-- no step fits
spelt_nowhere : (r : Rule) (c : Sequent) (ts : Trees) (fs : List Formula) → least r c (conclusions ts) fs ≡ (mismatch, fs)
    → shorten_spelt (node r c ts) fs ≡ (mismatch, fs)
unfolding shorten_spelt
spelt_nowhere r c ts fs e = and_then_from (least r c (conclusions ts)) _ fs mismatch fs e

-- the least step, then the premises
spelt_at : (r : Rule) (c : Sequent) (ts : Trees) (place mask : ℕ) (fs : List Formula) → least r c (conclusions ts) fs ≡ (made (place, mask), fs)
    → (x : Result Shorts) (hs : List Formula) → shorten_all limits ts (premises_of r place mask c) fs ≡ (x, hs)
    → shorten_spelt (node r c ts) fs ≡ next_of x hs (λ ss. answer (made (short r place mask ss)))
unfolding shorten_spelt
spelt_at r c ts place mask fs e x hs k =
    and_then_from (least r c (conclusions ts)) _ fs (made (place, mask)) fs e
    ∙ and_then_from (shorten_all limits ts (premises_of r place mask c)) _ fs x hs k

-- ---- premises, as the code answers them

-- none
all_none : (ts : Trees) (qs : List Sequent) (fs : List Formula) (below : ℕ) (out : List ℕ) (to : ℕ) → qs ≡ [] → map concluded qs ≡ conclusions ts
    → AllAs (shorten_all limits ts qs fs) (below + length (write_nodes ts)) out to (Whole below to) fs out
unfolding shorten_all conclusions write_nodes write_short_nodes
all_none ∅ [] fs below out to e k = record { told = record { answer = ap₂ Whole (omega arith) (omega arith); put = put_none out to }; held = refl }
all_none ∅ (q ∷ qs) fs below out to e k = let z : ◌≡◌ {A = ℕ} 0 1 = cc in absurd (omega arith)
all_none (t ▹ ts) [] fs below out to e k = let z : ◌≡◌ {A = ℕ} 0 1 = cc in absurd (omega arith)
all_none (t ▹ ts) (q ∷ qs) fs below out to e k = let z : ◌≡◌ {A = ℕ} 0 1 = cc in absurd (omega arith)

all_nothing : (fs : List Formula) → shorten_all limits ∅ [] fs ≡ (made □, fs)
unfolding shorten_all
all_nothing fs = refl

alone_bytes : (s : Short) → write_short_nodes (s ▸ □) ≡ write_short_node s
unfolding write_short_nodes
alone_bytes s = append-nil (write_short_node s)

pair_bytes : (s s' : Short) → write_short_nodes (s ▸ s' ▸ □) ≡ write_short_node s ++ write_short_node s'
unfolding write_short_nodes
pair_bytes s s' = ap (λ (bs : List ℕ). write_short_node s ++ bs) (append-nil (write_short_node s'))

-- the places of an answer
abbrev place_of : Shrink → ℕ
place_of (Ok g) = g.next
place_of (Err k) = 0

abbrev to_of : Shrink → ℕ
to_of (Ok g) = g.to
to_of (Err k) = 0

never_whole : (k : Refusal) (next to : ℕ) → Refuses k (Whole next to) → ⊥
never_whole held_full next to e = let z : ◌≡◌ {A = ℕ} 0 1 = cc in omega arith
never_whole too_many next to e = e
never_whole wrong_number next to e = e
never_whole wrong_length next to e = e
never_whole wrong_tag next to e = e
never_whole too_high next to e = e
never_whole budget_spent next to e = e
never_whole failures_full next to e = e
never_whole output_short next to e = e
never_whole wrong_setting next to e = e
never_whole wrong_memory next to e = e

-- the first premise, then the others
module _ (t : Tree) (ts : Trees) (q : Sequent) (qs : List Sequent) (fs : List Formula) where
  all_first : (r : Result Short) (hs : List Formula) → shorten limits t q fs ≡ (r, hs)
      → shorten_all limits (t ▹ ts) (q ∷ qs) fs ≡ next_of r hs (λ s. shorten_all limits ts qs and_then λ ss. answer (made (s ▸ ss)))
  unfolding shorten_all
  all_first r hs e = and_then_from (shorten limits t q) _ fs r hs e

  all_both : (s : Short) (hs : List Formula) → shorten limits t q fs ≡ (made s, hs) → (x : Result Shorts) (gs : List Formula)
      → shorten_all limits ts qs hs ≡ (x, gs)
      → shorten_all limits (t ▹ ts) (q ∷ qs) fs ≡ next_of x gs (λ ss. answer (made (s ▸ ss)))
  all_both s hs e x gs k = all_first (made s) hs e ∙ and_then_from (shorten_all limits ts qs) _ hs x gs k

  -- it is not made: nor are all
  all_failed : {mid next : ℕ} {out : List ℕ} {to : ℕ} {r : Shrink} {gs : List Formula} {out' out'' : List ℕ}
      → ((next to' : ℕ) → r ≡ Whole next to' → ⊥)
      → ShrunkAs (shorten limits t q fs) mid out to r gs out'
      → AllAs (shorten_all limits (t ▹ ts) (q ∷ qs) fs) next out to r gs out''
  all_failed {mid} {next} {out} {to} {r} {gs} {out'} {out''} h a = go (shorten limits t q fs).0 (shorten limits t q fs).1 refl a.told a.held
    where
      go : (x : Result Short) (hs : List Formula) → shorten limits t q fs ≡ (x, hs) → Told x mid out to r out' → gs ≡ hs
          → AllAs (shorten_all limits (t ▹ ts) (q ∷ qs) fs) next out to r gs out''
      go (made s) hs e w k = absurd (h _ _ w.answer)
      go mismatch hs e w k = rw (all_first mismatch hs e) record { told = w; held = k }
      go (refused f) hs e w k = rw (all_first (refused f) hs e) record { told = w; held = k }

-- one alone
all_one : (t : Tree) (q : Sequent) (fs : List Formula) {next : ℕ} {out : List ℕ} {to : ℕ} {r : Shrink} {gs : List Formula} {out' : List ℕ}
    → ShrunkAs (shorten limits t q fs) next out to r gs out'
    → AllAs (shorten_all limits (t ▹ ∅) (q ∷ []) fs) next out to r gs out'
all_one t q fs {next} {out} {to} {r} {gs} {out'} a = go (shorten limits t q fs).0 (shorten limits t q fs).1 refl a.told a.held
  where
    go : (x : Result Short) (hs : List Formula) → shorten limits t q fs ≡ (x, hs) → Told x next out to r out' → gs ≡ hs
        → AllAs (shorten_all limits (t ▹ ∅) (q ∷ []) fs) next out to r gs out'
    go (made s) hs e w k =
        rw (all_both t ∅ q [] fs s hs e (made □) hs (all_nothing hs)) record {
          told = record { answer = rw (alone_bytes s) w.answer; put = rw (alone_bytes s) w.put };
          held = k;
        }
    go mismatch hs e w k = rw (all_first t ∅ q [] fs mismatch hs e) record { told = w; held = k }
    go (refused f) hs e w k = rw (all_first t ∅ q [] fs (refused f) hs e) record { told = w; held = k }

-- two
all_two : (t t' : Tree) (q q' : Sequent) (fs : List Formula) {mid next : ℕ} {out : List ℕ} {to to₁ : ℕ} {r₁ r : Shrink} {hs gs : List Formula} {out₁ out₂ : List ℕ}
    → r₁ ≡ Whole mid to₁ → {place : ℕ}
    → ShrunkAs (shorten limits t q fs) place out to r₁ hs out₁
    → ShrunkAs (shorten limits t' q' hs) next out₁ to₁ r gs out₂
    → AllAs (shorten_all limits (t ▹ t' ▹ ∅) (q ∷ q' ∷ []) fs) next out to r gs out₂
all_two t t' q q' fs {mid} {next} {out} {to} {to₁} {r₁} {r} {hs} {gs} {out₁} {out₂} whole {place} a b =
    first (shorten limits t q fs).0 (shorten limits t q fs).1 refl a.told a.held
  where
    second : (s : Short) → shorten limits t q fs ≡ (made s, hs) → WholeAs s place out to r₁ out₁ → (x : Result Short) (fs' : List Formula)
        → shorten limits t' q' hs ≡ (x, fs')
        → Told x next out₁ to₁ r out₂ → gs ≡ fs' → AllAs (shorten_all limits (t ▹ t' ▹ ∅) (q ∷ q' ∷ []) fs) next out to r gs out₂
    second s e w (made s') fs' e' w' k =
        let to_is : to₁ ≡ to + length (write_short_node s) = ap to_of (sym whole ∙ w.answer) in
        rw (all_both t (t' ▹ ∅) q (q' ∷ []) fs s hs e (made (s' ▸ □)) fs' (all_both t' ∅ q' [] hs s' fs' e' (made □) fs' (all_nothing fs'))) record {
          told = record {
            answer = w'.answer ∙ ap (Whole next) (rw (pair_bytes s s') (omega (arith, length-append (write_short_node s) (write_short_node s'))));
            put = rw (pair_bytes s s') (put_then w.put (rw to_is at w'.put));
          };
          held = k;
        }
    second s e w mismatch fs' e' w' k =
        rw (all_both t (t' ▹ ∅) q (q' ∷ []) fs s hs e mismatch fs' (all_first t' ∅ q' [] hs mismatch fs' e')) record { told = w'; held = k }
    second s e w (refused f) fs' e' w' k =
        rw (all_both t (t' ▹ ∅) q (q' ∷ []) fs s hs e (refused f) fs' (all_first t' ∅ q' [] hs (refused f) fs' e')) record { told = w'; held = k }

    first : (x : Result Short) (fs' : List Formula) → shorten limits t q fs ≡ (x, fs') → Told x place out to r₁ out₁ → hs ≡ fs'
        → AllAs (shorten_all limits (t ▹ t' ▹ ∅) (q ∷ q' ∷ []) fs) next out to r gs out₂
    first (made s) fs' e w k = second s (rw k e) w (shorten limits t' q' hs).0 (shorten limits t' q' hs).1 refl b.told b.held
    first mismatch fs' e w k = let z : ◌≡◌ {A = ℕ} 0 1 = cc in absurd (omega arith)
    first (refused f) fs' e w k = absurd (never_whole f mid to₁ (rw whole at w))

-- ---- premises that stand in the message

-- a premise of the step, spelled out and shortened
module _ {m : List ℕ} {q : Sequent} {y : Zones} {x : Option Zones} {m₁ : List ℕ} (MadeSo : Means m q y) (spelled : SpeltTo m y x m₁) where
  premise_spells : {r : Option Zones} → x ≡ r → spelt limits.held q (view m) ≡ (if_full r, view m₁)
  premise_spells h =
      ap (λ (p : Sequent). spelt limits.held p (view m)) (sym MadeSo.means) ∙ spelled.made_is ∙ ap (λ (r : Option Zones). (if_full r, view m₁)) h

  spelled_means : {v : Zones} → x ≡ Some v → Means m₁ (concluded (sequent m y)) v
  spelled_means h = rw h at spelled.means

  premise_full : x ≡ None → (t : Tree) {next : ℕ} {out : List ℕ} {to : ℕ} {out' : List ℕ}
      → ShrunkAs (shorten limits t q (view m)) next out to (Err Full) (view m₁) out'
  premise_full h t =
      rw (shorten_full t q (view m) (view m₁) (premise_spells h)) record { told = refl; held = refl }

  premise_as : {s : List ℕ} {at : ℕ} {out : List ℕ} {to : ℕ} {r : Shrink} {m₂ out' : List ℕ} {v : Zones} → x ≡ Some v
      → Shrinks m₁ s at v out to r m₂ out'
      → (t : Tree) → Stands s at (write_node t) → NodesFit t → concluded q ≡ conclusion t
      → ShrunkAs (shorten limits t q (view m)) (at + length (write_node t)) out to r (view m₂) out'
  premise_as h below t st fit e =
      rw (shorten_goes t q (view m) (view m₁) (sym e) (premise_spells h))
      (below.is t st fit (sym e ∙ sym ((spelled_means h).means ∙ ap concluded MadeSo.means)))

-- the place after what was made
whole_next : {x : Result Short × List Formula} {place : ℕ} {out : List ℕ} {to : ℕ} {r : Shrink} {gs : List Formula} {out' : List ℕ} {next to' : ℕ}
    → ShrunkAs x place out to r gs out'
    → r ≡ Whole next to' → next ≡ place
whole_next {x} {place} {out} {to} {r} {gs} {out'} {next} {to'} a e = go x.0 a.told
  where
    go : (y : Result Short) → Told y place out to r out' → next ≡ place
    go (made t) w = ap place_of (sym e ∙ w.answer)
    go mismatch w = let z : ◌≡◌ {A = ℕ} 0 1 = cc in absurd (omega arith)
    go (refused k) w = absurd (never_whole k next to' (rw e at w))

-- what is said of any tree at the place that concludes q, an implication spelled out
abbrev Each : List ℕ → ℕ → Sequent → (Tree → Type 0) → Type 0
Each s at q P = (t : Tree) → Stands s at (write_node t) → NodesFit t → concluded q ≡ conclusion t → P t

module _ {s : List ℕ} {at : ℕ} (fs : List Formula) {out : List ℕ} {to : ℕ} where
  first_tree : (qs : List Sequent) (ts : Trees) → (length qs ≡ 0 → ⊥) → map concluded qs ≡ conclusions ts → Stands s at (write_nodes ts) → NodesFit* ts
      → {next : ℕ} {r : Shrink} {gs : List Formula} {out' : List ℕ} → ((next to' : ℕ) → r ≡ Whole next to' → ⊥)
      → Each s at (get_or qs 0 ([] ﹔ [])) (λ t. ShrunkAs (shorten limits t (get_or qs 0 ([] ﹔ [])) fs) (at + length (write_node t)) out to r gs out')
      → AllAs (shorten_all limits ts qs fs) next out to r gs out'
  unfolding conclusions write_nodes
  first_tree [] ts h e st fit k a = absurd (h refl)
  first_tree (q ∷ qs) ∅ h e st fit k a = let z : ◌≡◌ {A = ℕ} 0 1 = cc in absurd (omega arith)
  first_tree (q ∷ qs) (t ▹ ts) h e st fit k a =
      let same : concluded q ≡ conclusion t = cc in
      all_failed t ts q qs fs k (a t (stands_left (write_node t) (write_nodes ts) st) fit.0 same)

  one_tree : (qs : List Sequent) (ts : Trees) → length qs ≡ 1 → map concluded qs ≡ conclusions ts → Stands s at (write_nodes ts) → NodesFit* ts
      → {r : Shrink} {gs : List Formula} {out' : List ℕ}
      → Each s at (get_or qs 0 ([] ﹔ [])) (λ t. ShrunkAs (shorten limits t (get_or qs 0 ([] ﹔ [])) fs) (at + length (write_node t)) out to r gs out')
      → AllAs (shorten_all limits ts qs fs) (at + length (write_nodes ts)) out to r gs out'
  unfolding conclusions write_nodes
  one_tree [] ts h e st fit a = absurd (omega arith)
  one_tree (q ∷ q' ∷ qs) ts h e st fit a = absurd (omega arith)
  one_tree (q ∷ []) ∅ h e st fit a = let z : ◌≡◌ {A = ℕ} 0 1 = cc in absurd (omega arith)
  one_tree (q ∷ []) (t ▹ t' ▹ ts) h e st fit a = let z : ◌≡◌ {A = ℕ} 0 1 = cc in absurd (omega arith)
  one_tree (q ∷ []) (t ▹ ∅) h e st fit a =
      let same : concluded q ≡ conclusion t = cc in
      let end : write_node t ++ [] ≡ write_node t = append-nil (write_node t) in
      rw end (all_one t q fs (a t (stands_left (write_node t) [] st) fit.0 same))

  two_trees : (qs : List Sequent) (ts : Trees) → length qs ≡ 2 → map concluded qs ≡ conclusions ts → Stands s at (write_nodes ts) → NodesFit* ts
      → {next to₁ : ℕ} {r₁ r : Shrink} {hs gs : List Formula} {out₁ out₂ : List ℕ} → r₁ ≡ Whole next to₁
      → Each s at (get_or qs 0 ([] ﹔ [])) (λ t. ShrunkAs (shorten limits t (get_or qs 0 ([] ﹔ [])) fs) (at + length (write_node t)) out to r₁ hs out₁)
      → Each s next (get_or qs 1 ([] ﹔ [])) (λ t. ShrunkAs (shorten limits t (get_or qs 1 ([] ﹔ [])) hs) (next + length (write_node t)) out₁ to₁ r gs out₂)
      → AllAs (shorten_all limits ts qs fs) (at + length (write_nodes ts)) out to r gs out₂
  unfolding conclusions write_nodes
  two_trees [] ts h e st fit w a b = absurd (omega arith)
  two_trees (q ∷ []) ts h e st fit w a b = absurd (omega arith)
  two_trees (q ∷ q' ∷ q'' ∷ qs) ts h e st fit w a b = absurd (omega arith)
  two_trees (q ∷ q' ∷ []) ∅ h e st fit w a b = let z : ◌≡◌ {A = ℕ} 0 1 = cc in absurd (omega arith)
  two_trees (q ∷ q' ∷ []) (t ▹ ∅) h e st fit w a b = let z : ◌≡◌ {A = ℕ} 0 1 = cc in absurd (omega arith)
  two_trees (q ∷ q' ∷ []) (t ▹ t' ▹ t'' ▹ ts) h e st fit w a b = let z : ◌≡◌ {A = ℕ} 0 1 = cc in absurd (omega arith)
  two_trees (q ∷ q' ∷ []) (t ▹ t' ▹ ∅) h e st fit {next} w a b =
      let same : concluded q ≡ conclusion t = cc in
      let same' : concluded q' ≡ conclusion t' = cc in
      let first = a t (stands_left (write_node t) (write_nodes (t' ▹ ∅)) st) fit.0 same in
      let mid : next ≡ at + length (write_node t) = whole_next first w in
      let there : Stands s next (write_node t' ++ []) = rw mid (stands_right (write_node t) (write_nodes (t' ▹ ∅)) st) in
      let second = b t' (stands_left (write_node t') [] there) fit.1.0 same' in
      let end : next + length (write_node t') ≡ at + length (write_node t ++ (write_node t' ++ [])) =
      omega (arith, length-append (write_node t) (write_node t' ++ []), length-append (write_node t') []) in
      rw (sym end) (all_two t t' q q' fs w first second)

-- ---- a node that stands there, with its least step

module _ {m s : List ℕ} {at : ℕ} {z : Zones} {n : Node} (found : NodeFound s at n) {place mask : ℕ} (l : LeastFor m z s n (Some (place, mask))) where
  abbrev its_rule : Rule
  its_rule = l.taken.named

  standing : (ts : Trees) → Stands s at (write_node (node its_rule (sequent m z) ts)) → NodesFit (node its_rule (sequent m z) ts)
      → Standing s at n.next its_rule (sequent m z) ts place mask
  standing ts st fit =
      let k = found.is its_rule (sequent m z) ts st fit.0 in
      let steps : (fs : List Formula) → least its_rule (sequent m z) (conclusions ts) fs ≡ (made (place, mask), fs) =
      λ fs. l.is its_rule (sequent m z) ts fs k fit.1 in
      record {
        premises_stand = k.premises_are;
        premises_fit = fit.1;
        fitted =
            fits_premises its_rule (sequent m z) (conclusions ts) place mask
            (least_apart its_rule (sequent m z) (conclusions ts) [] (ap result_of (steps []))).here;
        steps = steps;
        ends = found.ends its_rule (sequent m z) ts st fit.0;
      }

  -- a tree that stands there and concludes z is a node of the step's rule
  each_tree : {out : List ℕ} {to : ℕ} {r : Shrink} {gs : List Formula} {out' : List ℕ}
      → ((ts : Trees) → Standing s at n.next its_rule (sequent m z) ts place mask
      → ShrunkAs (shorten_spelt (node its_rule (sequent m z) ts) (view m)) (at + length (write_node (node its_rule (sequent m z) ts))) out to r gs out')
      → (t : Tree) → Stands s at (write_node t) → NodesFit t → conclusion t ≡ sequent m z
      → ShrunkAs (shorten_spelt t (view m)) (at + length (write_node t)) out to r gs out'
  each_tree {out} {to} {r} {gs} {out'} h (node k c ts) st fit e =
      let rule_is : its_rule ≡ k = taken_named l.taken k (found.is k c ts st fit.0).rule_is in
      let same : node k c ts ≡ node its_rule (sequent m z) ts = ap₂ (λ (x : Rule) (y : Sequent). node x y ts) (sym rule_is) e in
      subst (λ (t : Tree). ShrunkAs (shorten_spelt t (view m)) (at + length (write_node t)) out to r gs out') (sym same)
      (h ts (standing ts (subst (λ (t : Tree). Stands s at (write_node t)) same st) (subst (λ (t : Tree). NodesFit t) same fit)))

  -- its bytes, then those of its premises
  module _ {out : List ℕ} {to : ℕ} {out₁ : List ℕ} {written : ℕ} (put : PutNode out to n.rule place mask out₁ written) where
    node_as : {r : Shrink} {gs : List Formula} {out' : List ℕ} (ts : Trees) → Standing s at n.next its_rule (sequent m z) ts place mask
        → AllAs (shorten_all limits ts (premises_of its_rule place mask (sequent m z)) (view m)) (n.next + length (write_nodes ts)) out₁ written r gs out'
        → ShrunkAs (shorten_spelt (node its_rule (sequent m z) ts) (view m)) (at + length (write_node (node its_rule (sequent m z) ts))) out to r gs out'
    node_as {r} {gs} {out'} ts st a =
        go
        (shorten_all limits ts (premises_of its_rule place mask (sequent m z)) (view m)).0
        (shorten_all limits ts (premises_of its_rule place mask (sequent m z)) (view m)).1
        refl
        a.told
        a.held
      where
        bytes : (ss : Shorts) → write_short_node (short its_rule place mask ss) ≡ own_bytes n.rule place mask ++ write_short_nodes ss
        bytes ss =
            short_bytes its_rule place mask ss (sequent m z) l.taken.takes
            ∙ ap (λ (k : ℕ). own_bytes k place mask ++ write_short_nodes ss) (sym l.taken.number)

        through : (x : Result Shorts) (hs : List Formula)
            → shorten_all limits ts (premises_of its_rule place mask (sequent m z)) (view m) ≡ (x, hs)
            → shorten_spelt (node its_rule (sequent m z) ts) (view m) ≡ next_of x hs (λ ss. answer (made (short its_rule place mask ss)))
        through x hs e = spelt_at its_rule (sequent m z) ts place mask (view m) (st.steps (view m)) x hs e

        go : (x : Result Shorts) (hs : List Formula)
            → shorten_all limits ts (premises_of its_rule place mask (sequent m z)) (view m) ≡ (x, hs)
            → AllTold x (n.next + length (write_nodes ts)) out₁ written r out' → gs ≡ hs
            → ShrunkAs (shorten_spelt (node its_rule (sequent m z) ts) (view m)) (at + length (write_node (node its_rule (sequent m z) ts))) out to r gs out'
        go (made ss) hs e w k =
            rw (through (made ss) hs e) record {
              told = record {
                answer =
                    w.answer
                    ∙ ap₂ Whole st.ends
                    (rw (bytes ss) (omega (arith, put.next, length-append (own_bytes n.rule place mask) (write_short_nodes ss))));
                put = rw (bytes ss) (put_then put.put (rw put.next at w.put));
              };
              held = k;
            }
        go mismatch hs e w k = rw (through mismatch hs e) record { told = w; held = k }
        go (refused f) hs e w k = rw (through (refused f) hs e) record { told = w; held = k }

-- ---- the ways out of `shrink`

-- from a place further on, with the bytes paid for
within_further : (len : ℕ) {at to at' to' : ℕ} (r : Shrink) → at ≤ at' → to ≤ to' → to' + 10 * (len - at') ≤ to + 10 * (len - at) → Within len at' to' r
    → Within len at to r
within_further len (Ok g) a b h w =
    ((omega (arith, w.0.0), w.0.1), (omega (arith, w.1.0), omega (arith, w.1.1)))
within_further len (Err k) a b h w = tt

err_apart : {r : Shrink} {k : Stop} → r ≡ Err k → (next to : ℕ) → r ≡ Whole next to → ⊥
err_apart h next to e = let z : ◌≡◌ {A = ℕ} 0 1 = cc in omega arith

-- what is known before the end, and of a step that was found
pub before_end : {m s : List ℕ} {at : ℕ} {z : Zones} {to : ℕ} → Shrinking m s at z to → (at ≡ length s → ⊥) → at < length s
before_end asked h = omega (arith, asked.inside)

pub node_inside : {s : List ℕ} {at : ℕ} {n : Node} → NodeFound s at n → NodeInside (length s) n
node_inside found = record { next_inside = found.within.next_inside }

pub least_at : {m : List ℕ} {z : Zones} {s : List ℕ} {n : Node} {x : Option (ℕ × ℕ)} {place mask : ℕ} → LeastFor m z s n x → x ≡ Some (place, mask)
    → LeastFor m z s n (Some (place, mask))
least_at l e = rw e at l

pub least_nowhere : {m : List ℕ} {z : Zones} {s : List ℕ} {n : Node} {x : Option (ℕ × ℕ)} → LeastFor m z s n x → x ≡ None → LeastFor m z s n None
least_nowhere l e = rw e at l

pub number_word : {m : List ℕ} {z : Zones} {s : List ℕ} {n : Node} {place mask number w : ℕ} → LeastFor m z s n (Some (place, mask)) → number ≡ n.rule
    → w ≡ word number place mask → w ≡ word n.rule place mask
number_word l e k = rw e at k

-- what writing the node and its word ask
module _ {m s : List ℕ} {at : ℕ} {z : Zones} {to : ℕ} {n : Node} {place mask : ℕ} where
  pub node_room : Shrinking m s at z to → LeastFor m z s n (Some (place, mask)) → (place < 256) × ((mask < 4294967296) × (to ≤ 700000))
  node_room asked l = (omega (arith, taken_place l.taken), (l.low, omega (arith, asked.room)))

pub word_room : {m s : List ℕ} {z : Zones} {n : Node} {place mask number : ℕ} → number ≡ n.rule → LeastFor m z s n (Some (place, mask))
    → (number < 256) × ((place < 256) × (mask < 4294967296))
word_room e l = (omega (arith, taken_rule l.taken), (omega (arith, taken_place l.taken), l.low))

-- the measure: what is left of the message falls
pub falls_first : {s : List ℕ} {at : ℕ} {n : Node} {left : ℕ} → at < length s → NodeFound s at n → length s - at ≡ left → length s - n.next < left
falls_first before found e = omega (arith, found.within.further before, found.within.next_inside)

-- no tree stands at the end
pub shrinks_end : {m s : List ℕ} {at : ℕ} {z : Zones} {out : List ℕ} {to : ℕ} → Shrinking m s at z to → at ≡ length s → Shrinks m s at z out to (Err Mismatch) m out
shrinks_end {m} {s} {at} asked e = record {
  within = tt;
  wf = asked.sound.wf;
  grew = extends_refl m;
  long = refl;
  is = λ t st fit c. absurd (omega (arith, st.inside, node_long t));
}

module _ {m s : List ℕ} {at : ℕ} {z : Zones} {out : List ℕ} {to : ℕ} (asked : Shrinking m s at z to) (before : at < length s) {n : Node} (found : NodeFound s at n) where
  pub shrinks_nowhere : LeastFor m z s n None → Shrinks m s at z out to (Err Mismatch) m out
  shrinks_nowhere l = record { within = tt; wf = asked.sound.wf; grew = extends_refl m; long = refl; is = go }
    where
      go : (t : Tree) → Stands s at (write_node t) → NodesFit t → conclusion t ≡ sequent m z
          → ShrunkAs (shorten_spelt t (view m)) (at + length (write_node t)) out to (Err Mismatch) (view m) out
      go (node r c ts) st fit e =
          let k = l.is r c ts (view m) (found.is r c ts st fit.0) fit.1 in
          let here : least r c (conclusions ts) (view m) ≡ (mismatch, view m) = ap (λ (q : Sequent). least r q (conclusions ts) (view m)) e ∙ k in
          rw (spelt_nowhere r c ts (view m) here) record { told = refl; held = refl }

  module _ {place mask : ℕ} (l : LeastFor m z s n (Some (place, mask))) {out₁ : List ℕ} {written : ℕ} (put : PutNode out to n.rule place mask out₁ written)
      {w : ℕ} (word_is : w ≡ word n.rule place mask) {k : ℕ} (count_is : k ≡ get_or premise_counts (rule_of w) 0) where
    -- a node passes a byte at least and writes six at most
    paid : written + 10 * (length s - n.next) + 4 ≤ to + 10 * (length s - at)
    paid = omega (arith, put.next, own_long n.rule place mask, found.within.further before, found.within.next_inside)

    behind : to ≤ written
    behind = omega (arith, put.next)

    as_many : length (premises_of l.taken.named place mask (sequent m z)) ≡ k
    as_many = premises_follow l.taken ∙ sym (word_follow l.taken word_is count_is)

    pub shrinks_leaf : k ≡ 0 → Shrinks m s at z out to (Whole n.next written) m out₁
    shrinks_leaf h = record {
      within = ((omega (arith, found.within.further before), found.within.next_inside), (behind, omega (arith, paid)));
      wf = asked.sound.wf;
      grew = extends_refl m;
      long = put.put.long;
      is =
          each_tree found l (λ ts st.
          node_as found l put ts st
          (all_none ts (premises_of l.taken.named place mask (sequent m z)) (view m) n.next out₁ written (word_none l.taken word_is count_is h) st.fitted));
    }

    module _ (some : k ≡ 0 → ⊥) {y : Zones} (first : Means m (first_of (step (sequent m z) w)) y) {x : Option Zones} {m₁ : List ℕ} (spelled : SpeltTo m y x m₁) where
      first_made : Means m (get_or (premises_of l.taken.named place mask (sequent m z)) 0 ([] ﹔ [])) y
      first_made = rw (word_first l.taken word_is count_is some).1 at first

      none_failed : length (premises_of l.taken.named place mask (sequent m z)) ≡ 0 → ⊥
      none_failed h = some (sym as_many ∙ h)

      pub shrinks_first_full : x ≡ None → Shrinks m s at z out to (Err Full) m₁ out₁
      shrinks_first_full h = record {
        within = tt;
        wf = spelled.wf;
        grew = spelled.grew;
        long = put.put.long;
        is =
            each_tree found l (λ ts st.
            node_as found l put ts st
            (first_tree (view m) (premises_of l.taken.named place mask (sequent m z)) ts none_failed st.fitted st.premises_stand st.premises_fit (err_apart refl)
            (λ t there fit e. premise_full first_made spelled h t {out' = out₁})));
      }

      pub first_shrinking : {v : Zones} → x ≡ Some v → Shrinking m₁ s n.next v written
      first_shrinking h = record {
        sound = (spelled_means first_made spelled h).sound;
        inside = found.within.next_inside;
        short = asked.short;
        room = omega (arith, paid, asked.room);
      }

      module _ {v : Zones} (held : x ≡ Some v) {r₁ : Shrink} {m₂ out₂ : List ℕ} (below : Shrinks m₁ s n.next v out₁ written r₁ m₂ out₂) where
        grown : Extends m m₂
        grown = extends_trans spelled.grew below.grew

        within_node : Within (length s) at to r₁
        within_node = within_further (length s) r₁ (omega (arith, found.within.further before)) behind (omega (arith, paid)) below.within

        pub shrinks_one : k ≡ 1 → Shrinks m s at z out to r₁ m₂ out₂
        shrinks_one h = record {
          within = within_node;
          wf = below.wf;
          grew = grown;
          long = below.long ∙ put.put.long;
          is =
              each_tree found l (λ ts st.
              node_as found l put ts st
              (one_tree (view m) (premises_of l.taken.named place mask (sequent m z)) ts (as_many ∙ h) st.fitted st.premises_stand st.premises_fit
              (premise_as first_made spelled held below)));
        }

        pub shrinks_failed : ((next to' : ℕ) → r₁ ≡ Whole next to' → ⊥) → Shrinks m s at z out to r₁ m₂ out₂
        shrinks_failed h = record {
          within = within_node;
          wf = below.wf;
          grew = grown;
          long = below.long ∙ put.put.long;
          is =
              each_tree found l (λ ts st.
              node_as found l put ts st
              (first_tree (view m) (premises_of l.taken.named place mask (sequent m z)) ts none_failed st.fitted st.premises_stand st.premises_fit h
              (premise_as first_made spelled held below)));
        }

        pub shrinks_stopped : {f : Stop} → r₁ ≡ Err f → Shrinks m s at z out to r₁ m₂ out₂
        shrinks_stopped h = shrinks_failed (err_apart h)

        module _ (more : k ≡ 1 → ⊥) {next second : ℕ} (whole : r₁ ≡ Whole next second) where
          after_first : Within (length s) n.next written (Whole next second)
          after_first = rw whole at below.within

          pub second_stepping : Stepping₂ m₂ z w
          second_stepping = (word_second (taken_grows grown below.wf l.taken) word_is count_is some more).0

          module _ {y' : Zones} (other : Means m₂ (second_of (step (sequent m₂ z) w)) y') {x' : Option Zones} {m₃ : List ℕ} (spelled' : SpeltTo m₂ y' x' m₃) where
            second_made : Means m₂ (get_or (premises_of l.taken.named place mask (sequent m z)) 1 ([] ﹔ [])) y'
            second_made =
                subst (λ (q : Sequent). Means m₂ q y')
                (ap (λ (q : Sequent). second_of (step q w)) (sequent_same grown asked.sound) ∙ (word_second l.taken word_is count_is some more).1)
                other

            two : length (premises_of l.taken.named place mask (sequent m z)) ≡ 2
            two = as_many ∙ word_two l.taken word_is count_is some more

            pub shrinks_second_full : x' ≡ None → Shrinks m s at z out to (Err Full) m₃ out₂
            shrinks_second_full h = record {
              within = tt;
              wf = spelled'.wf;
              grew = extends_trans grown spelled'.grew;
              long = below.long ∙ put.put.long;
              is =
                  each_tree found l (λ ts st.
                  node_as found l put ts st
                  (two_trees (view m) (premises_of l.taken.named place mask (sequent m z)) ts two st.fitted st.premises_stand st.premises_fit whole
                  (premise_as first_made spelled held below) (λ t there fit e. premise_full second_made spelled' h t {out' = out₂})));
            }

            pub falls_second : {left : ℕ} → length s - at ≡ left → length s - next < left
            falls_second e = omega (arith, found.within.further before, after_first.0.0, after_first.0.1)

            pub second_shrinking : {v' : Zones} → x' ≡ Some v' → Shrinking m₃ s next v' second
            second_shrinking h = record {
              sound = (spelled_means second_made spelled' h).sound;
              inside = after_first.0.1;
              short = asked.short;
              room = omega (arith, paid, asked.room, after_first.1.1);
            }

            pub shrinks_two : {r : Shrink} {m₄ out₃ : List ℕ} {v' : Zones} → x' ≡ Some v' → Shrinks m₃ s next v' out₂ second r m₄ out₃
                → Shrinks m s at z out to r m₄ out₃
            shrinks_two {r} h last = record {
              within =
                  within_further (length s) r
                  (omega (arith, found.within.further before, after_first.0.0))
                  (omega (arith, behind, after_first.1.0))
                  (omega (arith, paid, after_first.1.1))
                  last.within;
              wf = last.wf;
              grew = extends_trans grown (extends_trans spelled'.grew last.grew);
              long = last.long ∙ below.long ∙ put.put.long;
              is =
                  each_tree found l (λ ts st.
                  node_as found l put ts st
                  (two_trees (view m) (premises_of l.taken.named place mask (sequent m z)) ts two st.fitted st.premises_stand st.premises_fit whole
                  (premise_as first_made spelled held below) (premise_as second_made spelled' h last)));
            }

-- ---- a short tree is no longer than its tree

mask_long : (b : Bool) (mask : ℕ) → length (write_mask b mask) ≤ 4
unfolding write_mask
mask_long true mask = omega arith
mask_long false mask = omega arith

-- a place and a mask have at most five bytes, and so have two empty zones and a count
node_shorter : (r : Rule) (place mask : ℕ) (ss : Shorts) (c : Sequent) (ts : Trees) → length (write_short_nodes ss) ≤ length (write_nodes ts)
    → length (write_short_node (short r place mask ss)) ≤ length (write_node (node r c ts))
unfolding write_short_node write_node
node_shorter r place mask ss c ts h =
    let bytes = write_mask (has_mask r) mask in
    let after = write_zone c.unrestricted ++ (premise_count ts ∷ write_nodes ts) in
    omega (
      arith,
      length-append (write_rule r) (place ∷ (bytes ++ write_short_nodes ss)),
      length-append bytes (write_short_nodes ss),
      mask_long (has_mask r) mask,
      length-append (write_rule r) (write_zone c.linear ++ after),
      length-append (write_zone c.linear) after,
      length-append (write_zone c.unrestricted) (premise_count ts ∷ write_nodes ts),
      length_write_zone c.linear,
      length_write_zone c.unrestricted,
    )

mutual
  unfolding shorten shorten_all write_nodes write_short_nodes

  shorter : (bounds : Limits) (t : Tree) (q : Sequent) (fs : List Formula) {s : Short} {gs : List Formula} → shorten bounds t q fs ≡ (made s, gs)
      → length (write_short_node s) ≤ length (write_node t)
  shorter bounds (node r c ts) q fs e =
      let g = shrunk_stages bounds (shorten_all bounds ts) r c (conclusions ts) q fs e in
      rw g.short_is
      (node_shorter r g.place g.mask g.below c ts (shorter_all bounds ts (premises_of r g.place g.mask c) g.between g.premises))

  shorter_all : (bounds : Limits) (ts : Trees) (qs : List Sequent) (fs : List Formula) {ss : Shorts} {gs : List Formula}
      → shorten_all bounds ts qs fs ≡ (made ss, gs)
      → length (write_short_nodes ss) ≤ length (write_nodes ts)
  shorter_all bounds ∅ [] fs e = rw (made_same e) (omega arith)
  shorter_all bounds ∅ (q ∷ qs) fs e = absurd (made_mismatch e)
  shorter_all bounds (t ▹ ts) [] fs e = absurd (made_mismatch e)
  shorter_all bounds (t ▹ ts) (q ∷ qs) fs e =
      let p = paired_through (shorten bounds t q) (shorten_all bounds ts qs) ◌▸◌ fs e in
      rw p.joined
      (omega (
        arith,
        length-append (write_short_node p.left) (write_short_nodes p.right),
        length-append (write_node t) (write_nodes ts),
        shorter bounds t q fs p.first,
        shorter_all bounds ts qs p.between p.second,
      ))

pub short_shorter : (bounds : Limits) (t : Tree) (q : Sequent) (fs : List Formula) {s : Short} → (shorten bounds t q fs).0 ≡ made s
    → length (write_short_node s) ≤ length (write_node t)
short_shorter bounds t q fs e = shorter bounds t q fs (with_held _ e)
