-- Short trees written and read: what is written reads back the same, what was read is written as the same bytes, and reading refuses with 2 to 6 alone. A reader of either version answers 2
-- to the other's bytes. Assumes nothing.
use Rattle.std.specs.Prelude.{◌≡◌, refl, Bool, true, false, List, [], ◌∷◌, ◌++◌, leb, eqb, length, get_or, drop}
use Rattle.std.proofs.Common.{sym, ap₂, ◌∙◌, subst, append-nil, append_assoc, arith, lit<, le-leb, eqb-true, eq-eqb, ne_eqb}
use Rattle.std.proofs.Math.Path.{ap}
use Prim.Native.Nat.{ℕ, zero, suc, ◌+◌, ◌*◌, ◌-◌, ◌/◌, ◌%◌, ◌≤◌, ◌<◌}
use Rattle.std.proofs.Math.Arith.{digits_div, digits_mod}
use Rattle.std.proofs.lemmas.Bool.{eqb-false}
use Rattle.logic.specs.Tree.{
  Rule,
  Axiom,
  Cut,
  OneIntro,
  BottomIntro,
  TensorIntro,
  ParIntro,
  TopIntro,
  WithIntro,
  PlusIntroLeft,
  PlusIntroRight,
  OfCourseIntro,
  WhyNotIntro,
  Weakening,
  Contraction,
  Dereliction,
  FocusPositive,
  FocusNegative,
  Blur,
  Tree,
}
use Rattle.logic.specs.Answer.{Refusal, wrong_number, wrong_length}
use Rattle.short.specs.Short.{Short, Shorts, short, □, ◌▸◌, height, heights, many, follow}
use Rattle.wire.specs.Write.{two_bytes, message, write_rule, write_node, write_tree}
use Rattle.wire.specs.Read.{Read, got, refused, ◌then◌, unless, entry, read_byte, read_two, at_end, read_message, highest_tree, read_tree}
use Rattle.wire.specs.Fits.{Bytes, FormulaRefusal, cut_short, too_tall, ReadRefusal, unknown_number, in_formula}
use Rattle.wire.specs.FitsLaws.{bytes_nil, bytes_cons, bytes_append, bytes_head, bytes_tail, bytes_left_over, bytes_two}
use Rattle.wire.proofs.FormulaBytes.{read_write_two, byte_gives, two_gives}
use Rattle.wire.proofs.MessageBytes.{in_reading, read_write_message, message_gives}
use Rattle.wire.specs.Gives.{Gives, AllAt, ◌&◌}
use Rattle.wire.proofs.GivesLaws.{gives_got, gives_refused, gives_map, gives_then, gives_entry, gives_end, when_got, when_refused}
use Rattle.short_bytes.specs.Write.{four_bytes, has_mask, write_mask, write_short_node, write_short_nodes, message_two, write_short}
use Rattle.short_bytes.specs.Read.{read_four, short_rules, read_mask, read_short_premises, read_short_node, version_down, read_message_two, read_short}
use Rattle.short_bytes.specs.Fits.{HasShort, MaskFits, ShortNodesFit, ShortNodesFit*, ShortFits, ShortNodeBack, ShortPremisesBack, MessageTwoBack, ShortBack, ShortRuleWritten}

-- a number of four bytes
pub read_write_four : (n : ℕ) (rest : List ℕ) → read_four (four_bytes n ++ rest) ≡ got n rest
unfolding read_four ◌then◌
read_write_four n rest =
    rw (read_write_two (n / 65536) (two_bytes (n % 65536) ++ rest), read_write_two (n % 65536) rest) (ap (λ (k : ℕ). got k rest) (omega arith))

pub bytes_four : (n : ℕ) → n < 4294967296 → Bytes (four_bytes n)
bytes_four n h = bytes_append (bytes_two (n / 65536) (omega arith)) (bytes_two (n % 65536) (omega arith))

pub write_read_four : (h l : ℕ) → l < 65536 → four_bytes (h * 65536 + l) ≡ two_bytes h ++ two_bytes l
write_read_four h l q = rw (digits_div h q, digits_mod h q)

pub four_gives : (bs : List ℕ) → Gives (λ n rest. Bytes bs → (bs ≡ four_bytes n ++ rest) × (n < 4294967296)) FormulaRefusal (read_four bs)
unfolding read_four
four_gives bs =
    gives_then (two_gives bs) λ h mid p.
    gives_then (two_gives mid) λ l rest q.
    gives_got λ bytes.
    let high = p bytes in
    let low = q (bytes_left_over (two_bytes h) mid high.0 bytes) in
    let front : bs ≡ two_bytes h ++ (two_bytes l ++ rest) = high.0 ∙ ap (λ (x : List ℕ). two_bytes h ++ x) low.0 in
    (front ∙ ap (λ (x : List ℕ). x ++ rest) (sym (write_read_four h l low.1)), omega (arith, high.1, low.1))

-- a mask, where one is written
read_write_mask : (b : Bool) (mask : ℕ) (rest : List ℕ) → MaskFits b mask → read_mask b (write_mask b mask ++ rest) ≡ got mask rest
unfolding read_mask write_mask
read_write_mask true mask rest h = read_write_four mask rest
read_write_mask false mask rest h = rw h

write_mask_bytes : (b : Bool) (mask : ℕ) → MaskFits b mask → Bytes (write_mask b mask)
unfolding write_mask
write_mask_bytes true mask h = bytes_four mask h
write_mask_bytes false mask h = bytes_nil

mask_gives : (b : Bool) (bs : List ℕ) → Gives (λ mask rest. Bytes bs → (bs ≡ write_mask b mask ++ rest) × MaskFits b mask) ReadRefusal (read_mask b bs)
unfolding read_mask write_mask
mask_gives true bs = in_reading (four_gives bs)
mask_gives false bs = gives_got λ h. (refl, refl)

-- a rule's number
read_write_short_rule : (r : Rule) (rest : List ℕ) (k : Rule → List ℕ → Read Short) → HasShort r
    → (read_byte (write_rule r ++ rest) then λ n bs. entry short_rules n wrong_number λ known. known then λ r _. k r bs) ≡ k r rest
unfolding write_rule read_byte ◌then◌ entry
read_write_short_rule Axiom rest k h = refl
read_write_short_rule (Cut c) rest k h = absurd h
read_write_short_rule OneIntro rest k h = refl
read_write_short_rule BottomIntro rest k h = refl
read_write_short_rule TensorIntro rest k h = refl
read_write_short_rule ParIntro rest k h = refl
read_write_short_rule TopIntro rest k h = refl
read_write_short_rule WithIntro rest k h = refl
read_write_short_rule PlusIntroLeft rest k h = refl
read_write_short_rule PlusIntroRight rest k h = refl
read_write_short_rule OfCourseIntro rest k h = refl
read_write_short_rule WhyNotIntro rest k h = refl
read_write_short_rule Weakening rest k h = refl
read_write_short_rule Contraction rest k h = refl
read_write_short_rule Dereliction rest k h = refl
read_write_short_rule (FocusPositive i) rest k h = absurd h
read_write_short_rule (FocusNegative i) rest k h = absurd h
read_write_short_rule Blur rest k h = absurd h

write_short_rule_bytes : (r : Rule) → HasShort r → Bytes (write_rule r)
unfolding write_rule
write_short_rule_bytes Axiom h = bytes_cons (lit< tt) bytes_nil
write_short_rule_bytes (Cut c) h = absurd h
write_short_rule_bytes OneIntro h = bytes_cons (lit< tt) bytes_nil
write_short_rule_bytes BottomIntro h = bytes_cons (lit< tt) bytes_nil
write_short_rule_bytes TensorIntro h = bytes_cons (lit< tt) bytes_nil
write_short_rule_bytes ParIntro h = bytes_cons (lit< tt) bytes_nil
write_short_rule_bytes TopIntro h = bytes_cons (lit< tt) bytes_nil
write_short_rule_bytes WithIntro h = bytes_cons (lit< tt) bytes_nil
write_short_rule_bytes PlusIntroLeft h = bytes_cons (lit< tt) bytes_nil
write_short_rule_bytes PlusIntroRight h = bytes_cons (lit< tt) bytes_nil
write_short_rule_bytes OfCourseIntro h = bytes_cons (lit< tt) bytes_nil
write_short_rule_bytes WhyNotIntro h = bytes_cons (lit< tt) bytes_nil
write_short_rule_bytes Weakening h = bytes_cons (lit< tt) bytes_nil
write_short_rule_bytes Contraction h = bytes_cons (lit< tt) bytes_nil
write_short_rule_bytes Dereliction h = bytes_cons (lit< tt) bytes_nil
write_short_rule_bytes (FocusPositive i) h = absurd h
write_short_rule_bytes (FocusNegative i) h = absurd h
write_short_rule_bytes Blur h = absurd h

short_rules_written : AllAt ShortRuleWritten short_rules
unfolding write_rule
short_rules_written =
    gives_got (refl, tt)
    & gives_refused unknown_number
    & gives_got (refl, tt)
    & gives_got (refl, tt)
    & gives_got (refl, tt)
    & gives_got (refl, tt)
    & gives_got (refl, tt)
    & gives_got (refl, tt)
    & gives_got (refl, tt)
    & gives_got (refl, tt)
    & gives_got (refl, tt)
    & gives_got (refl, tt)
    & gives_got (refl, tt)
    & gives_got (refl, tt)
    & gives_got (refl, tt)
    & tt

-- a node and its premises
short_node_bytes : (r : Rule) (place mask : ℕ) (ss : Shorts) (rest : List ℕ)
    → write_short_node (short r place mask ss) ++ rest ≡ write_rule r ++ (place ∷ (write_mask (has_mask r) mask ++ (write_short_nodes ss ++ rest)))
unfolding write_short_node
short_node_bytes r place mask ss rest = simp append_assoc

mutual
  unfolding read_short_node read_byte ◌then◌ height read_short_premises write_short_nodes many heights

  read_write_short_node : (s : Short) (levels : ℕ) (rest : List ℕ) → height s ≤ levels → ShortNodesFit s → read_short_node levels (write_short_node s ++ rest) ≡ got s rest
  read_write_short_node (short r place mask ss) zero rest h n = absurd (omega arith)
  read_write_short_node (short r place mask ss) (suc levels) rest h n =
      rw (short_node_bytes r place mask ss rest)
      (read_write_short_rule r _ _ n.0.rule_short
      ∙ rw (read_write_mask (has_mask r) mask _ n.0.mask_fits, ← n.0.premises_follow, read_write_short_nodes ss levels rest (omega arith) n.1))

  read_write_short_nodes : (ss : Shorts) (levels : ℕ) (rest : List ℕ) → heights ss ≤ levels → ShortNodesFit* ss
      → read_short_premises (read_short_node levels) (many ss) (write_short_nodes ss ++ rest) ≡ got ss rest
  read_write_short_nodes □ levels rest h n = refl
  read_write_short_nodes (s ▸ ss) levels rest h n =
      rw (append_assoc, read_write_short_node s levels (write_short_nodes ss ++ rest) (omega arith) n.0, read_write_short_nodes ss levels rest (omega arith) n.1)

mutual
  unfolding write_short_node write_short_nodes

  write_short_node_bytes : (s : Short) → ShortNodesFit s → Bytes (write_short_node s)
  write_short_node_bytes (short r place mask ss) n =
      bytes_append
      (write_short_rule_bytes r n.0.rule_short)
      (bytes_cons n.0.place_fits (bytes_append (write_mask_bytes (has_mask r) mask n.0.mask_fits) (write_short_nodes_bytes ss n.1)))

  write_short_nodes_bytes : (ss : Shorts) → ShortNodesFit* ss → Bytes (write_short_nodes ss)
  write_short_nodes_bytes □ n = bytes_nil
  write_short_nodes_bytes (s ▸ ss) n = bytes_append (write_short_node_bytes s n.0) (write_short_nodes_bytes ss n.1)

module _ (levels : ℕ) (premise : List ℕ → Read Short) (premise_gives : (bs : List ℕ) → Gives (λ s rest. Bytes bs → ShortNodeBack levels bs s rest) ReadRefusal (premise bs)) where
  short_premises_give : (n : ℕ) (bs : List ℕ) → Gives (λ ss rest. Bytes bs → ShortPremisesBack levels n bs ss rest) ReadRefusal (read_short_premises premise n bs)
  unfolding read_short_premises write_short_nodes many heights
  short_premises_give zero bs = gives_got λ h. record { bytes_are = refl; count_is = refl; heights_fit = omega arith; nodes_fit = tt }
  short_premises_give (suc n) bs =
      gives_then (premise_gives bs) λ s mid p.
      gives_then (short_premises_give n mid) λ ss rest q.
      gives_got λ h.
      let first = p h in
      let others = q (bytes_left_over (write_short_node s) mid first.bytes_are h) in
      record {
        bytes_are = rw (append_assoc, first.bytes_are, others.bytes_are);
        count_is = ap suc others.count_is;
        heights_fit = omega arith;
        nodes_fit = (first.nodes_fit, others.nodes_fit);
      }

short_node_gives : (levels : ℕ) (bs : List ℕ) → Gives (λ s rest. Bytes bs → ShortNodeBack levels bs s rest) ReadRefusal (read_short_node levels bs)
unfolding read_short_node height
short_node_gives zero bs = gives_then (in_reading (byte_gives bs)) λ n rest p. gives_refused (in_formula too_tall)
short_node_gives (suc levels) bs =
    gives_then (in_reading (byte_gives bs)) λ n tail p.
    gives_entry ShortRuleWritten short_rules short_rules_written n wrong_number unknown_number λ known w.
    gives_then w λ r _ u.
    gives_then (in_reading (byte_gives tail)) λ place above q.
    gives_then (mask_gives (has_mask r) above) λ mask mid m.
    gives_then (short_premises_give levels (read_short_node levels) (short_node_gives levels) (follow r) mid) λ ss below d.
    gives_got λ h.
    let tail_bytes : Bytes (place ∷ above) = subst Bytes q (bytes_tail (subst Bytes p h)) in
    let split = m (bytes_tail tail_bytes) in
    let premises = d (bytes_left_over (write_mask (has_mask r) mask) mid split.0 (bytes_tail tail_bytes)) in
    record {
      bytes_are = rw (short_node_bytes r place mask ss below, u.0, p, q, split.0, premises.bytes_are);
      height_fits = omega (arith, premises.heights_fit);
      nodes_fit =
          (record { rule_short = u.1; place_fits = bytes_head tail_bytes; mask_fits = split.1; premises_follow = premises.count_is }, premises.nodes_fit);
    }

-- a message of version 2
read_write_message_two : (body : List ℕ) → read_message_two (message_two body) ≡ got body []
unfolding read_message_two message_two version_down message
read_write_message_two body = read_write_message body

version_two : (version : ℕ) → eqb (version - 1) 1 ≡ eqb version 2
version_two version = go (eqb version 2) refl
  where
    go : (b : Bool) → eqb version 2 ≡ b → eqb (version - 1) 1 ≡ b
    go true e = let two = eqb-true version 2 e in eq-eqb (version - 1) 1 (omega arith)
    go false e = ne_eqb (version - 1) 1 λ one. eqb-false version 2 e (omega arith)

-- the same said outright: fewer than three bytes 3, version 2, length 3
pub read_message_two_is : (bs : List ℕ)
    → read_message_two bs
    ≡ unless (leb 3 (length bs)) wrong_length
    (read_byte bs then λ version bs.
    unless (eqb version 2) wrong_number (read_two bs then λ n body. unless (eqb (length body) n) wrong_length (got body [])))
unfolding read_message_two version_down read_message read_byte ◌then◌
read_message_two_is [] = refl
read_message_two_is (version ∷ bs) = rw (version_two version)

message_two_bytes : (body : List ℕ) → length body ≤ 65535 → Bytes body → Bytes (message_two body)
unfolding message_two
message_two_bytes body small h = bytes_cons (lit< tt) (bytes_append (bytes_two _ (omega arith)) h)

version_down_bytes : (bs : List ℕ) → Bytes bs → Bytes (version_down bs)
unfolding version_down
version_down_bytes [] h = bytes_nil
version_down_bytes (version ∷ bs) h = let small = bytes_head h in bytes_cons (omega arith) (bytes_tail h)

version_up : (bs body : List ℕ) → message body ≡ version_down bs → message_two body ≡ bs
unfolding message message_two version_down
version_up [] body e = let none = ap length e in absurd (omega arith)
version_up (version ∷ bs) body e =
    let one : 1 ≡ version - 1 = ap (λ (x : List ℕ). get_or x 0 0) e in
    let two : 2 ≡ version = omega arith in
    ap₂ (λ (v : ℕ) (x : List ℕ). v ∷ x) two (ap (λ (x : List ℕ). drop 1 x) e)

message_two_gives : (bs : List ℕ) → Gives (λ body rest. Bytes bs → MessageTwoBack bs body rest) ReadRefusal (read_message_two bs)
unfolding read_message_two
message_two_gives bs =
    gives_map (message_gives (version_down bs)) λ body rest m h.
    let back = m (version_down_bytes bs h) in
    record { bytes_are = version_up bs body back.bytes_are; none_left = back.none_left; body_short = back.short }

body_two_bytes : {bs body rest : List ℕ} → MessageTwoBack bs body rest → Bytes bs → Bytes body
unfolding message_two
body_two_bytes {body} m h = bytes_left_over (2 ∷ two_bytes (length body)) body (sym m.bytes_are) h

-- a short tree
pub read_write_short : (s : Short) → ShortFits s → read_short (write_short s) ≡ got s []
unfolding read_short write_short ◌then◌ at_end
read_write_short s h = rw (read_write_message_two, ← append-nil (write_short_node s), read_write_short_node s highest_tree [] h.height_fits h.nodes_fit)

pub write_short_bytes : (s : Short) → ShortFits s → Bytes (write_short s)
unfolding write_short
write_short_bytes s h = message_two_bytes (write_short_node s) h.body_short (write_short_node_bytes s h.nodes_fit)

pub short_gives : (bs : List ℕ) → Gives (λ s rest. Bytes bs → ShortBack bs s rest) ReadRefusal (read_short bs)
unfolding read_short write_short
short_gives bs =
    gives_then (message_two_gives bs) λ body left m.
    gives_then (short_node_gives highest_tree body) λ s rest p.
    gives_end s rest (in_formula cut_short) λ e h.
    let back = p (body_two_bytes (m h) h) in
    let body_is : write_short_node s ≡ body = sym (append-nil (write_short_node s)) ∙ sym (rw e at back.bytes_are) in
    record {
      bytes_are = ap message_two body_is ∙ (m h).bytes_are;
      none_left = refl;
      fits = record { nodes_fit = back.nodes_fit; height_fits = back.height_fits; body_short = rw body_is (m h).body_short };
    }

pub write_read_short : (bs : List ℕ) (s : Short) (rest : List ℕ) → Bytes bs → read_short bs ≡ got s rest → ShortBack bs s rest
write_read_short bs s rest h e = when_got (short_gives bs) e h

pub read_short_refusals : (bs : List ℕ) (r : Refusal) → read_short bs ≡ refused r → ReadRefusal r
read_short_refusals bs r e = when_refused (short_gives bs) e

-- an old reader meets version 2 and answers 2; and the reader of short trees so meets version 1
pub old_readers : (s : Short) → read_tree (write_short s) ≡ refused wrong_number
unfolding read_tree read_message write_short message_two read_byte ◌then◌
old_readers s = rw (le-leb 3 (suc (suc (suc (length (write_short_node s))))) (omega arith))

pub new_readers : (t : Tree) → read_short (write_tree t) ≡ refused wrong_number
unfolding read_short read_message_two version_down read_message write_tree message read_byte ◌then◌
new_readers t = rw (le-leb 3 (suc (suc (suc (length (write_node t))))) (omega arith))
