-- What a message that was read as a short tree holds: its root behind version and length, and at each node's place its rule, place, mask and premises.
-- Assumes nothing.
use Rattle.std.specs.Prelude.{◌≡◌, refl, Bool, true, false, eqb, get_or, Err, Ok, Result}
use Rattle.std.proofs.Math.Path.{sym, ap, subst}
use Rattle.std.proofs.Common.{◌∙◌, arith, eq-eqb, ne_eqb}
use mathlib.Core.List.{List, [], ◌∷◌, ◌++◌, append-nil}
use Prim.Native.Nat.{ℕ, ◌+◌, ◌*◌, ◌/◌, ◌%◌, ◌<◌}
use Rattle.std.proofs.Math.ListN.{length, length-append}
use Rattle.logic.specs.Tree.{
  Rule,
  Axiom,
  Cut,
  OneIntro,
  BottomIntro,
  TensorIntro,
  ParIntro,
  TopIntro,
  WithIntro,
  PlusIntroLeft,
  PlusIntroRight,
  OfCourseIntro,
  WhyNotIntro,
  Weakening,
  Contraction,
  Dereliction,
  FocusPositive,
  FocusNegative,
  Blur,
}
use Rattle.wire.specs.Write.{two_bytes, write_rule}
use Rattle.wire.specs.Read.{Read, got, refused}
use Rattle.wire.specs.Fits.{Bytes}
use Rattle.formula.specs.declared.Refusal.{Refusal}
use Rattle.tree.specs.Stands.{Stands}
use Rattle.tree.specs.StandsLaws.{stands_left, stands_right, stands_head, stands_tail, stands_inside, stands_behind}
use Rattle.tree.specs.Places.{rule_number}
use Rattle.tree.specs.ReadingLaws.{RefusedBy}
use Rattle.short.specs.Short.{Short, Shorts, short, □, ◌▸◌, heights, many, follow}
use Rattle.short_bytes.specs.Write.{four_bytes, has_mask, write_mask, write_short_node, write_short_nodes, message_two, write_short}
use Rattle.short_bytes.specs.Read.{read_short}
use Rattle.short_bytes.specs.Fits.{HasShort, MaskFits, ShortNodeFits}
use Rattle.short_bytes.proofs.ShortBytes.{write_read_short}
use Rattle.short_read.specs.Reading.{premises_by, four, short_read}
use Rattle.short_read.specs.Places.{Got, RootThere, NodeThere, OneThere, TwoThere}

-- ---- the answer of reading

pub short_got : (end : ℕ) (m : Read Short) {x : Result ℕ Refusal} {next : ℕ} → x ≡ short_read end m → x ≡ Ok next → Got m
unfolding short_read
short_got end (got t rest) e₁ e₂ = record { tree = t; rest = rest; is = refl }
short_got end (refused k) e₁ e₂ = let z : ◌≡◌ {A = ℕ} 0 1 = cc in absurd (omega arith)

pub short_refused : (end : ℕ) (m : Read Short) {x : Result ℕ Refusal} {why : Refusal} → x ≡ short_read end m → x ≡ Err why → RefusedBy m why
unfolding short_read
short_refused end (got t rest) e₁ e₂ = let z : ◌≡◌ {A = ℕ} 0 1 = cc in absurd (omega arith)
short_refused end (refused k) e₁ e₂ = record { kind = k; is = refl; code = cc }

-- ---- the root

pub short_stands : {s : List ℕ} {t : Short} {rest : List ℕ} → Bytes s → read_short s ≡ got t rest → RootThere s t rest
unfolding write_short message_two
short_stands {s} {t} {rest} bytes e =
    let back = write_read_short s t rest bytes e in
    let body : List ℕ = write_short_node t in
    let front : List ℕ = 2 ∷ two_bytes (length body) in
    record {
      stands = subst (λ (s : List ℕ). Stands s 3 body) back.bytes_are (stands_behind front body);
      ends = omega (arith, ap length back.bytes_are);
      fits = back.fits;
      none_left = back.none_left;
    }

-- ---- a node

-- a rule with a short form is written as its number
rule_written : (r : Rule) → HasShort r → write_rule r ≡ rule_number r ∷ []
unfolding write_rule rule_number
rule_written Axiom h = refl
rule_written (Cut c) h = absurd h
rule_written OneIntro h = refl
rule_written BottomIntro h = refl
rule_written TensorIntro h = refl
rule_written ParIntro h = refl
rule_written TopIntro h = refl
rule_written WithIntro h = refl
rule_written PlusIntroLeft h = refl
rule_written PlusIntroRight h = refl
rule_written OfCourseIntro h = refl
rule_written WhyNotIntro h = refl
rule_written Weakening h = refl
rule_written Contraction h = refl
rule_written Dereliction h = refl
rule_written (FocusPositive i) h = absurd h
rule_written (FocusNegative i) h = absurd h
rule_written Blur h = absurd h

-- by its number: how many premises follow, whether there is a mask
pub follow_by_number : (r : Rule) → HasShort r → premises_by (rule_number r) ≡ follow r
unfolding rule_number follow
follow_by_number Axiom h = refl
follow_by_number (Cut c) h = absurd h
follow_by_number OneIntro h = refl
follow_by_number BottomIntro h = refl
follow_by_number TensorIntro h = refl
follow_by_number ParIntro h = refl
follow_by_number TopIntro h = refl
follow_by_number WithIntro h = refl
follow_by_number PlusIntroLeft h = refl
follow_by_number PlusIntroRight h = refl
follow_by_number OfCourseIntro h = refl
follow_by_number WhyNotIntro h = refl
follow_by_number Weakening h = refl
follow_by_number Contraction h = refl
follow_by_number Dereliction h = refl
follow_by_number (FocusPositive i) h = absurd h
follow_by_number (FocusNegative i) h = absurd h
follow_by_number Blur h = absurd h

pub mask_by_number : (r : Rule) → has_mask r ≡ eqb (rule_number r) 4
unfolding rule_number has_mask
mask_by_number Axiom = refl
mask_by_number (Cut c) = refl
mask_by_number OneIntro = refl
mask_by_number BottomIntro = refl
mask_by_number TensorIntro = refl
mask_by_number ParIntro = refl
mask_by_number TopIntro = refl
mask_by_number WithIntro = refl
mask_by_number PlusIntroLeft = refl
mask_by_number PlusIntroRight = refl
mask_by_number OfCourseIntro = refl
mask_by_number WhyNotIntro = refl
mask_by_number Weakening = refl
mask_by_number Contraction = refl
mask_by_number Dereliction = refl
mask_by_number (FocusPositive i) = refl
mask_by_number (FocusNegative i) = refl
mask_by_number Blur = refl

-- 4 is TensorIntro's number alone
pub tensor_by_number : (r : Rule) → rule_number r ≡ 4 → r ≡ TensorIntro
unfolding rule_number
tensor_by_number Axiom e = absurd (omega arith)
tensor_by_number (Cut c) e = absurd (omega arith)
tensor_by_number OneIntro e = absurd (omega arith)
tensor_by_number BottomIntro e = absurd (omega arith)
tensor_by_number TensorIntro e = refl
tensor_by_number ParIntro e = absurd (omega arith)
tensor_by_number TopIntro e = absurd (omega arith)
tensor_by_number WithIntro e = absurd (omega arith)
tensor_by_number PlusIntroLeft e = absurd (omega arith)
tensor_by_number PlusIntroRight e = absurd (omega arith)
tensor_by_number OfCourseIntro e = absurd (omega arith)
tensor_by_number WhyNotIntro e = absurd (omega arith)
tensor_by_number Weakening e = absurd (omega arith)
tensor_by_number Contraction e = absurd (omega arith)
tensor_by_number Dereliction e = absurd (omega arith)
tensor_by_number (FocusPositive i) e = absurd (omega arith)
tensor_by_number (FocusNegative i) e = absurd (omega arith)
tensor_by_number Blur e = absurd (omega arith)

-- the mask behind a node's place, where there is one, and what stands behind it
record MaskThere (b : Bool) (s : List ℕ) (at mask : ℕ) (nodes : List ℕ) : Type 0 where
  is : b ≡ true → four s (at + 2) ≡ mask
  none : b ≡ false → mask ≡ 0
  small : mask < 4294967296
  behind : Stands s (at + elim b [ true ↦ 6 | false ↦ 2 ]) nodes
  long : elim b [ true ↦ 6 | false ↦ 2 ] ≡ 2 + length (write_mask b mask)

four_back : (s : List ℕ) (p mask : ℕ) {rest : List ℕ} → Stands s p (four_bytes mask ++ rest) → four s p ≡ mask
four_back s p mask h =
    let n₁ : p + 1 + 1 ≡ p + 2 = omega arith in
    let n₂ : p + 1 + 1 + 1 ≡ p + 2 + 1 = omega arith in
    let b₁ : get_or s p 0 ≡ mask / 65536 / 256 = stands_head h in
    let b₂ : get_or s (p + 1) 0 ≡ mask / 65536 % 256 = stands_head (stands_tail h) in
    let b₃ : get_or s (p + 1 + 1) 0 ≡ mask % 65536 / 256 = stands_head (stands_tail (stands_tail h)) in
    let b₄ : get_or s (p + 1 + 1 + 1) 0 ≡ mask % 65536 % 256 = stands_head (stands_tail (stands_tail (stands_tail h))) in
    let c₃ : get_or s (p + 2) 0 ≡ mask % 65536 / 256 = rw n₁ at b₃ in
    let c₄ : get_or s (p + 2 + 1) 0 ≡ mask % 65536 % 256 = rw n₂ at b₄ in
    let high : get_or s p 0 * 256 + get_or s (p + 1) 0 ≡ mask / 65536 = omega (arith, b₁, b₂) in
    let low : get_or s (p + 2) 0 * 256 + get_or s (p + 2 + 1) 0 ≡ mask % 65536 = omega (arith, c₃, c₄) in
    omega (arith, high, low)

mask_there : (b : Bool) (s : List ℕ) (at mask : ℕ) (nodes : List ℕ) → MaskFits b mask → Stands s (at + 1 + 1) (write_mask b mask ++ nodes)
    → MaskThere b s at mask nodes
unfolding write_mask
mask_there true s at mask nodes h there =
    let n : at + 1 + 1 ≡ at + 2 = omega arith in
    let n' : at + 1 + 1 + 4 ≡ at + 6 = omega arith in
    record {
      is = λ _. four_back s (at + 2) mask (rw n at there);
      none = λ e. let z : ◌≡◌ {A = ℕ} 0 1 = cc in absurd (omega arith);
      small = h;
      behind = subst (λ (p : ℕ). Stands s p nodes) n' (stands_right (four_bytes mask) nodes there);
      long = refl;
    }
mask_there false s at mask nodes h there =
    let n : at + 1 + 1 ≡ at + 2 = omega arith in
    record {
      is = λ e. let z : ◌≡◌ {A = ℕ} 0 1 = cc in absurd (omega arith);
      none = λ _. h;
      small = omega arith;
      behind = subst (λ (p : ℕ). Stands s p nodes) n there;
      long = refl;
    }

module _ {s : List ℕ} {at : ℕ} where
  pub short_node_there : (r : Rule) (place mask : ℕ) (ss : Shorts) → Stands s at (write_short_node (short r place mask ss)) → ShortNodeFits r place mask ss
      → NodeThere s at r place mask ss
  unfolding write_short_node
  short_node_there r place mask ss there fits =
      let nodes : List ℕ = write_short_nodes ss in
      let whole : Stands s at (rule_number r ∷ place ∷ (write_mask (has_mask r) mask ++ nodes)) =
      subst (λ (w : List ℕ). Stands s at (w ++ (place ∷ (write_mask (has_mask r) mask ++ nodes)))) (rule_written r fits.rule_short) there in
      let split : MaskThere (eqb (rule_number r) 4) s at mask nodes =
      subst
      (λ (b : Bool). MaskThere b s at mask nodes)
      (mask_by_number r)
      (mask_there (has_mask r) s at mask nodes fits.mask_fits (stands_tail (stands_tail whole))) in
      let counts = follow_by_number r fits.rule_short in
      record {
        inside = stands_inside whole;
        rule_is = stands_head whole;
        place_is = stands_head (stands_tail whole);
        place_small = fits.place_fits;
        mask_is = λ e. split.is (eq-eqb (rule_number r) 4 e);
        mask_none = λ h. split.none (ne_eqb (rule_number r) 4 h);
        mask_small = split.small;
        premises_stand = split.behind;
        ends = rw (rule_written r fits.rule_short, mask_by_number r) (omega (arith, split.long, length-append (write_mask (eqb (rule_number r) 4) mask) nodes));
        follows = counts;
        count_is = counts ∙ sym fits.premises_follow;
      }

-- ---- premises

pub shorts_none : (ss : Shorts) → many ss ≡ 0 → ss ≡ □
unfolding many
shorts_none □ e = refl
shorts_none (t ▸ ss) e = absurd (omega arith)

module _ {s : List ℕ} {at : ℕ} where
  pub shorts_one : (ss : Shorts) → many ss ≡ 1 → Stands s at (write_short_nodes ss) → OneThere s at ss
  unfolding many write_short_nodes heights
  shorts_one □ e there = absurd (omega arith)
  shorts_one (t ▸ □) e there =
      record {
        first = t;
        is = refl;
        stands = stands_left (write_short_node t) [] there;
        ends = ap length (append-nil (write_short_node t));
        fits = λ f. f.0;
        low = omega arith;
      }
  shorts_one (t ▸ t₂ ▸ ss) e there = absurd (omega arith)

  pub shorts_two : (ss : Shorts) → many ss ≡ 2 → Stands s at (write_short_nodes ss) → TwoThere s at ss
  unfolding many write_short_nodes heights
  shorts_two □ e there = absurd (omega arith)
  shorts_two (t ▸ □) e there = absurd (omega arith)
  shorts_two (t ▸ t₂ ▸ □) e there =
      record {
        first = t;
        second = t₂;
        is = refl;
        first_stands = stands_left (write_short_node t) (write_short_node t₂ ++ []) there;
        second_stands = stands_left (write_short_node t₂) [] (stands_right (write_short_node t) (write_short_node t₂ ++ []) there);
        ends = omega (arith, length-append (write_short_node t) (write_short_node t₂ ++ []), length-append (write_short_node t₂) []);
        fits = λ f. (f.0, f.1.0);
        first_low = omega arith;
        second_low = omega arith;
      }
  shorts_two (t ▸ t₂ ▸ t₃ ▸ ss) e there = absurd (omega arith)
