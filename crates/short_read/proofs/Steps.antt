-- What each step of reading a short tree adds: a node's own bytes, its premises, and the message around the root.
use Rattle.std.specs.Prelude.{Err, Ok, Result}
use mathlib.Core.Path.{◌≡◌, refl, sym, ap, ◌∙◌}
use mathlib.Core.Bool.{Bool, true, false}
use mathlib.Core.List.{List, [], ◌∷◌}
use Prim.Native.Nat.{ℕ, zero, suc, ◌+◌, ◌-◌, ◌*◌, ◌≤◌, ◌<◌}
use native.Mathlib.Omega.{arith}
use native.Mathlib.Numerals.{add-one}
use lib.Dec.{eqb}
use lib.ListN.{length, get_or, drop, length-drop}
use lib.Seq.{drop-cons, drop-length}
use borrow.Author.Tests.{le-leb, lt-leb, eq-eqb, ne_eqb}
use Rattle.logic.specs.Tree.{Rule}
use Rattle.logic.specs.Answer as answer
use Rattle.wire.specs.Read.{Read, got, refused, ◌then◌, unless, entry, read_byte, read_two, at_end, highest_tree}
use Rattle.formula.specs.Answers.{coded, reads}
use Rattle.formula.specs.declared.Refusal.{Refusal}
use Rattle.formula.specs.declared.Refusal.TheVariants.{WrongNumber, WrongLength, TooHigh}
use Rattle.tree.specs.EndsLaws.{LeavesEnd}
use Rattle.tree.specs.ReadingLaws.{Landed, reads_next, two_there, two_read}
use Rattle.short.specs.Short.{Short, Shorts, short, □, ◌▸◌, follow}
use Rattle.short_bytes.specs.Write.{has_mask}
use Rattle.short_bytes.specs.Read.{read_four, short_rules, read_mask, read_short_premises, read_short_node, read_message_two, read_short}
use Rattle.short_bytes.proofs.ShortBytes.{read_message_two_is}
use Rattle.short_read.specs.Reading.{premises_by, node_bytes, short_read, HeadThere, HeadRead}
use Rattle.short_read.specs.EndsLaws.{short_ends}
use Rattle.short_read.specs.RuleLaws.{RuleThere, rule_refused, rule_there}

-- ---- a node's own bytes

byte_there : (s : List ℕ) (at : ℕ) → at < length s → drop at s ≡ get_or s at 0 ∷ drop (at + 1) s
byte_there s at inside = rw add-one (drop-cons s at 0 inside)

-- what follows a rule's number
abbrev behind : (levels : ℕ) (r : Rule) → List ℕ → Read Short
behind levels r bs =
    read_byte bs then λ place bs.
    read_mask (has_mask r) bs then λ mask bs. read_short_premises (read_short_node levels) (follow r) bs then λ ss bs. got (short r place mask ss) bs

-- place and mask, where a byte of them is lacking
lacking : (b : Bool) (bs : List ℕ) (k : ℕ → ℕ → List ℕ → Read Short) → length bs + 1 < elim b [ true ↦ 6 | false ↦ 2 ]
    → (read_byte bs then λ place bs. read_mask b bs then λ mask bs. k place mask bs) ≡ refused answer.wrong_length
unfolding read_byte read_mask read_four read_two ◌then◌
lacking false [] k h = refl
lacking false (a ∷ bs) k h = absurd (omega arith)
lacking true [] k h = refl
lacking true (a ∷ []) k h = refl
lacking true (a ∷ a₂ ∷ []) k h = refl
lacking true (a ∷ a₂ ∷ a₃ ∷ []) k h = refl
lacking true (a ∷ a₂ ∷ a₃ ∷ a₄ ∷ []) k h = refl
lacking true (a ∷ a₂ ∷ a₃ ∷ a₄ ∷ a₅ ∷ bs) k h = absurd (omega arith)

-- and where they are there
record PlaceMask (b : Bool) (s : List ℕ) (at : ℕ) : Type 0 where
  place : ℕ
  mask : ℕ
  is : (k : ℕ → ℕ → List ℕ → Read Short)
      → (read_byte (drop (at + 1) s) then λ place bs. read_mask b bs then λ mask bs. k place mask bs) ≡ k place mask (drop (at + elim b [ true ↦ 6 | false ↦ 2 ]) s)

place_mask : (b : Bool) (s : List ℕ) (at : ℕ) → at < length s → elim b [ true ↦ 6 | false ↦ 2 ] ≤ length s - at → PlaceMask b s at
unfolding read_byte read_mask read_four ◌then◌
place_mask false s at inside h =
    let n : at + 1 + 1 ≡ at + 2 = omega arith in
    record { place = get_or s (at + 1) 0; mask = 0; is = λ k. rw (byte_there s (at + 1) (omega arith), n) }
place_mask true s at inside h =
    let n : at + 1 + 1 + 2 + 2 ≡ at + 6 = omega arith in
    record {
      place = get_or s (at + 1) 0;
      mask = (get_or s (at + 1 + 1) 0 * 256 + get_or s (at + 1 + 1 + 1) 0) * 65536 + (get_or s (at + 1 + 1 + 2) 0 * 256 + get_or s (at + 1 + 1 + 2 + 1) 0);
      is = λ k. rw (byte_there s (at + 1) (omega arith), two_read s (at + 1 + 1) (omega arith), two_read s (at + 1 + 1 + 2) (omega arith), n);
    }

module _ (s : List ℕ) (at levels : ℕ) where
  pub head_none : at ≡ length s → HeadRead s at levels (Err WrongLength)
  unfolding coded read_short_node read_byte ◌then◌
  head_none e = record { kind = answer.wrong_length; is = rw (e, drop-length s) (no_byte levels); code = refl }
    where
      no_byte : (levels : ℕ) → read_short_node levels [] ≡ refused answer.wrong_length
      no_byte zero = refl
      no_byte (suc levels) = refl

  module _ (inside : at < length s) where
    pub head_too_high : levels ≡ 0 → HeadRead s at levels (Err TooHigh)
    unfolding coded read_short_node read_byte ◌then◌
    head_too_high e = record { kind = answer.too_high; is = rw (e, byte_there s at inside); code = refl }

    module _ (level : 0 < levels) where
      by_rule : read_short_node levels (drop at s)
          ≡ (entry short_rules (get_or s at 0) answer.wrong_number λ known. known then λ r _. behind (levels - 1) r (drop (at + 1) s))
      unfolding read_short_node read_byte ◌then◌
      by_rule =
          let e : levels ≡ suc (levels - 1) = omega arith in
          ap (λ (l : ℕ). read_short_node l (drop at s)) e ∙ rw (byte_there s at inside)

      pub head_unknown : {n : ℕ} → n ≡ premises_by (get_or s at 0) → n ≡ 3 → HeadRead s at levels (Err WrongNumber)
      unfolding coded
      head_unknown e n =
          record { kind = answer.wrong_number; is = by_rule ∙ rule_refused (get_or s at 0) (λ r. behind (levels - 1) r (drop (at + 1) s)) (sym e ∙ n); code = refl }

      module _ {n : ℕ} (e : n ≡ premises_by (get_or s at 0)) (some : n ≡ 3 → ⊥) where
        known : RuleThere (get_or s at 0)
        known = rule_there (get_or s at 0) (λ z. some (e ∙ z))

        by_known : read_short_node levels (drop at s)
            ≡ (read_byte (drop (at + 1) s) then λ place bs.
            read_mask (eqb (get_or s at 0) 4) bs then λ mask bs.
            read_short_premises (read_short_node (levels - 1)) (premises_by (get_or s at 0)) bs then λ ss bs. got (short known.rule place mask ss) bs)
        by_known = by_rule ∙ known.found (λ r. behind (levels - 1) r (drop (at + 1) s)) ∙ rw (known.masked, known.follows)

        own_there : node_bytes (get_or s at 0) ≤ length s - at → HeadThere s at levels (at + node_bytes (get_or s at 0))
        own_there h =
            let there = place_mask (eqb (get_or s at 0) 4) s at inside h in
            record {
              rule = known.rule;
              place = there.place;
              mask = there.mask;
              level = level;
              further = long (eqb (get_or s at 0) 4);
              inside = omega arith;
              few = known.few;
              by_premises = by_known ∙ there.is _;
            }
          where
            long : (b : Bool) → at < at + elim b [ true ↦ 6 | false ↦ 2 ]
            long true = omega arith
            long false = omega arith

        module _ {m : ℕ} (e' : m ≡ node_bytes (get_or s at 0)) where
          pub head_short : length s - at < m → HeadRead s at levels (Err WrongLength)
          unfolding coded
          head_short h =
              record {
                kind = answer.wrong_length;
                is = by_known ∙ lacking (eqb (get_or s at 0) 4) (drop (at + 1) s) _ (rw (length-drop (at + 1) s, ← e') (omega arith));
                code = refl;
              }

          pub head_next : m ≤ length s - at → HeadRead s at levels (Ok (at + m))
          head_next h = rw e' (own_there (rw e' at h))

-- ---- a node and its premises

-- an answer without value is handed on
pub refused_on : (s : List ℕ) (at levels : ℕ) (x : Result ℕ Refusal) {why : Refusal} → HeadRead s at levels x → x ≡ Err why
    → x ≡ short_read (length s) (read_short_node levels (drop at s))
unfolding short_read
refused_on s at levels (Ok n) h e = let z : ◌≡◌ {A = ℕ} 0 1 = cc in absurd (omega arith)
refused_on s at levels (Err why) h e = rw (h.is, h.code)

pub head_there : {s : List ℕ} {at levels : ℕ} (x : Result ℕ Refusal) {next : ℕ} → HeadRead s at levels x → x ≡ Ok next → HeadThere s at levels next
head_there (Ok n) {next} h e = let same : n ≡ next = cc in rw same at h
head_there (Err why) h e = let z : ◌≡◌ {A = ℕ} 0 1 = cc in absurd (omega arith)

-- a place that was answered: the rest of the bytes is left over there
pub landed : (s : List ℕ) (at : ℕ) → at ≤ length s → (m : Read Short) {x : Result ℕ Refusal} {next : ℕ} → LeavesEnd (drop at s) m → x ≡ short_read (length s) m
    → x ≡ Ok next → Landed s at m next (λ t. Unit {0})
unfolding short_read reads
landed s at inside (got t rest) {next = next} ends e₁ e₂ =
    let n : length s - length rest ≡ next = cc in
    reads_next s at inside (got t rest) ends refl (ap Ok n)
landed s at inside (refused k) ends e₁ e₂ = let z : ◌≡◌ {A = ℕ} 0 1 = cc in absurd (omega arith)

-- the last premise's answer is the node's, and so is a refusal of the first
last_read : (end : ℕ) (m : Read Short) (f : Shorts → Short) (g : Short → Shorts)
    → short_read end ((m then λ t bs. got (g t) bs) then λ ss bs. got (f ss) bs) ≡ short_read end m
unfolding short_read ◌then◌
last_read end (got t rest) f g = refl
last_read end (refused k) f g = refl

first_refused : (end : ℕ) (m : Read Short) (k : Short → List ℕ → Read Shorts) (f : Shorts → Short) {x : Result ℕ Refusal} {why : Refusal}
    → x ≡ short_read end m → x ≡ Err why → x ≡ short_read end ((m then k) then λ ss bs. got (f ss) bs)
unfolding short_read ◌then◌
first_refused end (got t rest) k f e₁ e₂ = let z : ◌≡◌ {A = ℕ} 0 1 = cc in absurd (omega arith)
first_refused end (refused why) k f e₁ e₂ = e₁

second_read : (end : ℕ) (m : Read Short) (t : Short) (f : Shorts → Short)
    → short_read end (((m then λ t₂ bs. got (t₂ ▸ □) bs) then λ ss bs. got (t ▸ ss) bs) then λ ss bs. got (f ss) bs) ≡ short_read end m
unfolding short_read ◌then◌
second_read end (got t₂ rest) t f = refl
second_read end (refused k) t f = refl

module _ {s : List ℕ} {at levels next : ℕ} (h : HeadThere s at levels next) where
  pub node_leaf : premises_by (get_or s at 0) ≡ 0 → Ok next ≡ short_read (length s) (read_short_node levels (drop at s))
  unfolding short_read read_short_premises ◌then◌
  node_leaf e =
      let n : next ≡ length s - length (drop next s) = rw length-drop (omega (arith, h.inside)) in
      rw (h.by_premises, e) (ap Ok n)

  module _ {x : Result ℕ Refusal} (e₁ : x ≡ short_read (length s) (read_short_node (levels - 1) (drop next s))) where
    pub node_one : premises_by (get_or s at 0) ≡ 1 → x ≡ short_read (length s) (read_short_node levels (drop at s))
    unfolding read_short_premises ◌then◌
    node_one e =
        let m : Read Short = read_short_node (levels - 1) (drop next s) in
        e₁ ∙ sym (rw (h.by_premises, e) (last_read (length s) m (short h.rule h.place h.mask) (λ t. t ▸ □)))

    module _ (zero_not : premises_by (get_or s at 0) ≡ 0 → ⊥) (one_not : premises_by (get_or s at 0) ≡ 1 → ⊥) where
      by_two : read_short_node levels (drop at s)
          ≡ ((read_short_node (levels - 1) (drop next s) then λ t bs.
          (read_short_node (levels - 1) bs then λ t₂ bs. got (t₂ ▸ □) bs) then λ ss bs. got (t ▸ ss) bs)
          then λ ss bs. got (short h.rule h.place h.mask ss) bs)
      unfolding read_short_premises ◌then◌
      by_two = let e : premises_by (get_or s at 0) ≡ 2 = omega (arith, h.few) in rw (h.by_premises, e)

      pub node_first_refused : {why : Refusal} → x ≡ Err why → x ≡ short_read (length s) (read_short_node levels (drop at s))
      node_first_refused e₂ = rw by_two (first_refused (length s) (read_short_node (levels - 1) (drop next s)) _ _ e₁ e₂)

      module _ {second : ℕ} (e₂ : x ≡ Ok second) where
        pub first_landed : Landed s next (read_short_node (levels - 1) (drop next s)) second (λ t. Unit {0})
        first_landed = landed s next h.inside (read_short_node (levels - 1) (drop next s)) (short_ends (levels - 1) (drop next s)) e₁ e₂

        pub node_two : {y : Result ℕ Refusal} → y ≡ short_read (length s) (read_short_node (levels - 1) (drop second s))
            → y ≡ short_read (length s) (read_short_node levels (drop at s))
        unfolding ◌then◌
        node_two e₃ =
            let m : Read Short = read_short_node (levels - 1) (drop second s) in
            e₃ ∙ sym (rw (by_two, first_landed.is) (second_read (length s) m first_landed.value (short h.rule h.place h.mask)))

-- ---- a message

refused_over : (end : ℕ) (m : Read Short) (k : Short → List ℕ → Read Short) {x : Result ℕ Refusal} {why : Refusal} → x ≡ short_read end m → x ≡ Err why
    → x ≡ short_read end (m then k)
unfolding short_read ◌then◌
refused_over end (got t rest) k e₁ e₂ = let z : ◌≡◌ {A = ℕ} 0 1 = cc in absurd (omega arith)
refused_over end (refused why) k e₁ e₂ = e₁

module _ (s : List ℕ) where
  pub short_cut : length s < 3 → Err WrongLength ≡ short_read (length s) (read_short s)
  unfolding short_read read_short ◌then◌ coded
  short_cut h = rw (read_message_two_is s, lt-leb 3 (length s) h)

  module _ (three : 3 ≤ length s) where
    body : drop 1 s ≡ get_or s 1 0 ∷ get_or s 2 0 ∷ drop 3 s
    body = two_there s 1 three

    version : read_message_two s
        ≡ unless (eqb (get_or s 0 0) 2) answer.wrong_number
        (unless (eqb (length (drop 3 s)) (get_or s 1 0 * 256 + get_or s 2 0)) answer.wrong_length (got (drop 3 s) []))
    unfolding read_byte read_two ◌then◌
    version = read_message_two_is s ∙ rw (le-leb 3 (length s) three, byte_there s 0 (omega arith), body)

    pub short_version : (get_or s 0 0 ≡ 2 → ⊥) → Err WrongNumber ≡ short_read (length s) (read_short s)
    unfolding short_read read_short ◌then◌ coded
    short_version h = rw (version, ne_eqb (get_or s 0 0) 2 h)

    module _ (two : get_or s 0 0 ≡ 2) {n : ℕ} (e : n ≡ get_or s 1 0 * 256 + get_or s 2 0) where
      pub short_length : (length s - 3 ≡ n → ⊥) → Err WrongLength ≡ short_read (length s) (read_short s)
      unfolding short_read read_short ◌then◌ coded
      short_length h = rw (version, eq-eqb (get_or s 0 0) 2 two, ← e, ne_eqb (length (drop 3 s)) n (rw length-drop h))

      module _ (fits : length s - 3 ≡ n) {x : Result ℕ Refusal} (e₁ : x ≡ short_read (length s) (read_short_node highest_tree (drop 3 s))) where
        by_node : read_short s ≡ (read_short_node highest_tree (drop 3 s) then λ t rest. at_end t rest)
        unfolding read_short ◌then◌
        by_node = rw (version, eq-eqb (get_or s 0 0) 2 two, ← e, eq-eqb (length (drop 3 s)) n (rw length-drop fits))

        pub short_root_refused : {why : Refusal} → x ≡ Err why → x ≡ short_read (length s) (read_short s)
        short_root_refused e₂ = rw by_node (refused_over (length s) (read_short_node highest_tree (drop 3 s)) (λ t rest. at_end t rest) e₁ e₂)

        module _ {next : ℕ} (e₂ : x ≡ Ok next) where
          root : Landed s 3 (read_short_node highest_tree (drop 3 s)) next (λ t. Unit {0})
          root = landed s 3 three (read_short_node highest_tree (drop 3 s)) (short_ends highest_tree (drop 3 s)) e₁ e₂

          pub short_left_over : next < length s → Err WrongLength ≡ short_read (length s) (read_short s)
          unfolding short_read at_end ◌then◌ coded
          short_left_over h = rw (by_node, root.is, byte_there s next h)

          pub short_whole : length s ≤ next → Ok next ≡ short_read (length s) (read_short s)
          unfolding short_read at_end ◌then◌
          short_whole h =
              let n : next ≡ length s = omega (arith, root.inside) in
              let none_left : drop next s ≡ [] = ap (λ (k : ℕ). drop k s) n ∙ drop-length s in
              let k : length s ≡ length s - 0 = omega arith in
              rw (by_node, root.is, none_left) (ap Ok (n ∙ k))
