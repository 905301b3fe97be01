-- Formulas written and read: the length of a formula's bytes, that they are bytes, that what is written reads back the same, that what was read is written as the same bytes, that reading does
-- not look past the formula, and which refusals reading can give. Assumes nothing.
use Rattle.std.specs.Prelude.{◌≡◌, ℕ, zero, suc, ◌+◌, ◌*◌, ◌≤◌, ◌<◌, length, take, drop}
use Rattle.std.proofs.Math.Path.{refl}
use Rattle.std.proofs.Common.{sym, ap, ap₂, ◌∙◌, subst, arith, lit<, length-append, take_at, drop_at}
use mathlib.Core.List.{List, [], ◌∷◌, ◌++◌, append_assoc}
use Rattle.std.proofs.Math.Arith.{digits_div, digits_mod}
use Rattle.logic.specs.Formula.{Formula, One, Bottom, Top, Zero, Atom, NegAtom, Tensor, Par, With, Plus, Lolli, OfCourse, WhyNot, height, size}
use Rattle.logic.proofs.FormulaLaws.{height_positive}
use Rattle.logic.specs.Answer.{Refusal, wrong_tag}
use Rattle.wire.specs.Write.{two_bytes, write_formula}
use Rattle.wire.specs.Read.{Read, got, refused, ◌then◌, entry, read_byte, read_two, Sign, unit, named, binary, unary, signs, read_parts, read_formula}
use Rattle.wire.specs.Fits.{Bytes, NamesFit, ReadBack, Written, FormulaRefusal, cut_short, unknown_tag, too_tall}
use Rattle.wire.specs.FitsLaws.{bytes_nil, bytes_cons, bytes_head, bytes_tail, bytes_append, bytes_left_over, bytes_two}
use Rattle.wire.specs.Gives.{Gives, AllAt, ◌&◌}
use Rattle.wire.proofs.GivesLaws.{gives_got, gives_refused, gives_then, gives_entry, when_got, when_refused}

-- a formula's bytes are as many as its size, at least one
length_parts : (a b : List ℕ) {m n : ℕ} → length a ≡ m → length b ≡ n → suc (length (a ++ b)) ≡ suc (m + n)
length_parts a b p q = ap suc (length-append a b ∙ ap₂ ◌+◌ p q)

pub length_write : (f : Formula) → length (write_formula f) ≡ size f
unfolding write_formula size
length_write One = refl
length_write Bottom = refl
length_write Top = refl
length_write Zero = refl
length_write (Atom a) = refl
length_write (NegAtom a) = refl
length_write (Tensor a b) = length_parts (write_formula a) (write_formula b) (length_write a) (length_write b)
length_write (Par a b) = length_parts (write_formula a) (write_formula b) (length_write a) (length_write b)
length_write (With a b) = length_parts (write_formula a) (write_formula b) (length_write a) (length_write b)
length_write (Plus a b) = length_parts (write_formula a) (write_formula b) (length_write a) (length_write b)
length_write (Lolli a b) = length_parts (write_formula a) (write_formula b) (length_write a) (length_write b)
length_write (OfCourse a) = ap suc (length_write a)
length_write (WhyNot a) = ap suc (length_write a)

-- each tag's entry is what is written under it: the theorems on reading go by the four shapes of an entry
signs_written : AllAt Written signs
unfolding write_formula height
signs_written =
    (refl, refl, tt)
    & (refl, refl, tt)
    & (refl, refl, tt)
    & (refl, refl, tt)
    & (λ n. (refl, refl, λ h. h))
    & (λ n. (refl, refl, λ h. h))
    & (λ a b. (refl, refl, λ h k. (h, k)))
    & (λ a b. (refl, refl, λ h k. (h, k)))
    & (λ a b. (refl, refl, λ h k. (h, k)))
    & (λ a b. (refl, refl, λ h k. (h, k)))
    & (λ a b. (refl, refl, λ h k. (h, k)))
    & (λ a. (refl, refl, λ h. h))
    & (λ a. (refl, refl, λ h. h))
    & tt

-- a number of two bytes, written and read
pub read_write_two : (n : ℕ) (rest : List ℕ) → read_two (two_bytes n ++ rest) ≡ got n rest
unfolding read_two read_byte ◌then◌
read_write_two n rest = ap (λ (k : ℕ). got k rest) (omega arith)

pub write_read_two : (h l : ℕ) → h < 256 → l < 256 → two_bytes (h * 256 + l) ≡ h ∷ l ∷ []
write_read_two h l p q = ap₂ (λ (x y : ℕ). x ∷ y ∷ []) (digits_div h q) (digits_mod h q)

-- what is written reads back the same
read_unary : (part : List ℕ → Read Formula) (f : Formula → Formula) {bs : List ℕ} {a : Formula} {rest : List ℕ} → part bs ≡ got a rest → read_parts part (unary f) bs ≡ got (f a) rest
unfolding read_parts ◌then◌
read_unary part f p = rw p

read_binary : (part : List ℕ → Read Formula) (f : Formula → Formula → Formula) (a b : List ℕ) (rest : List ℕ) {x y : Formula}
    → part (a ++ (b ++ rest)) ≡ got x (b ++ rest) → part (b ++ rest) ≡ got y rest → read_parts part (binary f) ((a ++ b) ++ rest) ≡ got (f x y) rest
unfolding read_parts ◌then◌
read_binary part f a b rest p q = rw (append_assoc, p, q)

read_named : (part : List ℕ → Read Formula) (f : ℕ → Formula) (n : ℕ) (rest : List ℕ) → read_parts part (named f) (two_bytes n ++ rest) ≡ got (f n) rest
unfolding read_parts ◌then◌
read_named part f n rest = rw read_write_two

-- (that names fit makes the numbers written bytes; reading them back does not depend on it)
pub read_write : (levels : ℕ) (f : Formula) (rest : List ℕ) → height f ≤ levels → NamesFit f → read_formula levels (write_formula f ++ rest) ≡ got f rest
unfolding read_formula read_parts read_byte ◌then◌ entry write_formula height
read_write zero f rest h n = absurd (omega (arith, height_positive f))
read_write (suc levels) One rest h n = refl
read_write (suc levels) Bottom rest h n = refl
read_write (suc levels) Top rest h n = refl
read_write (suc levels) Zero rest h n = refl
read_write (suc levels) (Atom a) rest h n = read_named (read_formula levels) Atom a rest
read_write (suc levels) (NegAtom a) rest h n = read_named (read_formula levels) NegAtom a rest
read_write (suc levels) (Tensor a b) rest h n =
    read_binary (read_formula levels) Tensor (write_formula a) (write_formula b) rest (read_write levels a _ (omega arith) n.0) (read_write levels b rest (omega arith) n.1)
read_write (suc levels) (Par a b) rest h n =
    read_binary (read_formula levels) Par (write_formula a) (write_formula b) rest (read_write levels a _ (omega arith) n.0) (read_write levels b rest (omega arith) n.1)
read_write (suc levels) (With a b) rest h n =
    read_binary (read_formula levels) With (write_formula a) (write_formula b) rest (read_write levels a _ (omega arith) n.0) (read_write levels b rest (omega arith) n.1)
read_write (suc levels) (Plus a b) rest h n =
    read_binary (read_formula levels) Plus (write_formula a) (write_formula b) rest (read_write levels a _ (omega arith) n.0) (read_write levels b rest (omega arith) n.1)
read_write (suc levels) (Lolli a b) rest h n =
    read_binary (read_formula levels) Lolli (write_formula a) (write_formula b) rest (read_write levels a _ (omega arith) n.0) (read_write levels b rest (omega arith) n.1)
read_write (suc levels) (OfCourse a) rest h n = read_unary (read_formula levels) OfCourse (read_write levels a rest (omega arith) n)
read_write (suc levels) (WhyNot a) rest h n = read_unary (read_formula levels) WhyNot (read_write levels a rest (omega arith) n)

-- the bytes of a formula whose names fit are bytes
pub write_bytes : (f : Formula) → NamesFit f → Bytes (write_formula f)
unfolding write_formula
write_bytes One n = bytes_cons (lit< tt) bytes_nil
write_bytes Bottom n = bytes_cons (lit< tt) bytes_nil
write_bytes Top n = bytes_cons (lit< tt) bytes_nil
write_bytes Zero n = bytes_cons (lit< tt) bytes_nil
write_bytes (Atom a) n = bytes_cons (lit< tt) (bytes_two a n)
write_bytes (NegAtom a) n = bytes_cons (lit< tt) (bytes_two a n)
write_bytes (Tensor a b) n = bytes_cons (lit< tt) (bytes_append (write_bytes a n.0) (write_bytes b n.1))
write_bytes (Par a b) n = bytes_cons (lit< tt) (bytes_append (write_bytes a n.0) (write_bytes b n.1))
write_bytes (With a b) n = bytes_cons (lit< tt) (bytes_append (write_bytes a n.0) (write_bytes b n.1))
write_bytes (Plus a b) n = bytes_cons (lit< tt) (bytes_append (write_bytes a n.0) (write_bytes b n.1))
write_bytes (Lolli a b) n = bytes_cons (lit< tt) (bytes_append (write_bytes a n.0) (write_bytes b n.1))
write_bytes (OfCourse a) n = bytes_cons (lit< tt) (write_bytes a n)
write_bytes (WhyNot a) n = bytes_cons (lit< tt) (write_bytes a n)

-- what was read is written as the same bytes, and reading refuses for three reasons alone
pub byte_gives : (bs : List ℕ) → Gives (λ b rest. bs ≡ b ∷ rest) FormulaRefusal (read_byte bs)
unfolding read_byte
byte_gives [] = gives_refused cut_short
byte_gives (b ∷ bs) = gives_got refl

pub two_gives : (bs : List ℕ) → Gives (λ n rest. Bytes bs → (bs ≡ two_bytes n ++ rest) × (n < 65536)) FormulaRefusal (read_two bs)
unfolding read_two
two_gives bs =
    gives_then (byte_gives bs) λ h mid p.
    gives_then (byte_gives mid) λ l rest q.
    gives_got λ bytes.
    let front : bs ≡ h ∷ l ∷ rest = p ∙ ap (λ (x : List ℕ). h ∷ x) q in
    let both : Bytes (h ∷ l ∷ rest) = subst Bytes front bytes in
    let high : h < 256 = bytes_head both in
    let low : l < 256 = bytes_head (bytes_tail both) in
    (front ∙ ap (λ (x : List ℕ). x ++ rest) (sym (write_read_two h l high low)), omega arith)

module _ (levels : ℕ) (part : List ℕ → Read Formula) (part_Gives : (bs : List ℕ) → Gives (λ f rest. Bytes bs → ReadBack levels bs f rest) FormulaRefusal (part bs)) where
  parts_give : (t : ℕ) (s : Sign) (bs : List ℕ) → Written t s → Gives (λ f rest. Bytes (t ∷ bs) → ReadBack (suc levels) (t ∷ bs) f rest) FormulaRefusal (read_parts part s bs)
  unfolding read_parts
  parts_give t (unit f) bs w = gives_got λ h. record { bytes_are = rw w.0; height_fits = omega (arith, w.1); names_fit = w.2 }
  parts_give t (named f) bs w =
      gives_then (two_gives bs) λ n rest p.
      gives_got λ h.
      let back = p (bytes_tail h) in
      record { bytes_are = rw ((w n).0, back.0); height_fits = omega (arith, (w n).1); names_fit = (w n).2 back.1 }
  parts_give t (binary f) bs w =
      gives_then (part_Gives bs) λ a mid p.
      gives_then (part_Gives mid) λ b rest q.
      gives_got λ h.
      let first = p (bytes_tail h) in
      let second = q (bytes_left_over (write_formula a) mid first.bytes_are (bytes_tail h)) in
      record {
        bytes_are = rw ((w a b).0, append_assoc, first.bytes_are, second.bytes_are);
        height_fits = omega (arith, (w a b).1);
        names_fit = (w a b).2 first.names_fit second.names_fit;
      }
  parts_give t (unary f) bs w =
      gives_then (part_Gives bs) λ a rest p.
      gives_got λ h.
      let back = p (bytes_tail h) in
      record { bytes_are = rw ((w a).0, back.bytes_are); height_fits = omega (arith, (w a).1); names_fit = (w a).2 back.names_fit }

pub formula_gives : (levels : ℕ) (bs : List ℕ) → Gives (λ f rest. Bytes bs → ReadBack levels bs f rest) FormulaRefusal (read_formula levels bs)
unfolding read_formula
formula_gives zero bs = gives_then (byte_gives bs) λ t rest p. gives_entry Written signs signs_written t wrong_tag unknown_tag λ s w. gives_refused too_tall
formula_gives (suc levels) bs =
    gives_then (byte_gives bs) λ t rest p.
    gives_entry Written signs signs_written t wrong_tag unknown_tag λ s w.
    rw p (parts_give levels (read_formula levels) (formula_gives levels) t s rest w)

pub write_read : (levels : ℕ) (bs : List ℕ) (f : Formula) (rest : List ℕ) → Bytes bs → read_formula levels bs ≡ got f rest → ReadBack levels bs f rest
write_read levels bs f rest h e = when_got (formula_gives levels bs) e h

-- so a formula takes as many bytes as its size
module _ {levels : ℕ} {bs : List ℕ} {f : Formula} {rest : List ℕ} (back : ReadBack levels bs f rest) where
  pub read_length : length bs ≡ size f + length rest
  read_length = ap length back.bytes_are ∙ length-append (write_formula f) rest ∙ ap (λ (n : ℕ). n + length rest) (length_write f)

  pub read_take : take (size f) bs ≡ write_formula f
  read_take = rw back.bytes_are (take_at (write_formula f) rest (size f) (length_write f))

  pub read_drop : drop (size f) bs ≡ rest
  read_drop = rw back.bytes_are (drop_at (write_formula f) rest (size f) (length_write f))

pub read_refusals : (levels : ℕ) (bs : List ℕ) (r : Refusal) → read_formula levels bs ≡ refused r → FormulaRefusal r
read_refusals levels bs r e = when_refused (formula_gives levels bs) e

-- Reading does not look past the formula: with more bytes behind, the same formula is read, and they are left over too
byte_more : (bs more : List ℕ) → Gives (λ b rest. read_byte (bs ++ more) ≡ got b (rest ++ more)) FormulaRefusal (read_byte bs)
unfolding read_byte
byte_more [] more = gives_refused cut_short
byte_more (b ∷ bs) more = gives_got refl

two_more : (bs more : List ℕ) → Gives (λ n rest. read_two (bs ++ more) ≡ got n (rest ++ more)) FormulaRefusal (read_two bs)
unfolding read_two ◌then◌
two_more bs more = gives_then (byte_more bs more) λ h mid p. gives_then (byte_more mid more) λ l rest q. gives_got (rw (p, q))

module _ (part : List ℕ → Read Formula) (more : List ℕ) (part_more : (bs : List ℕ) → Gives (λ f rest. part (bs ++ more) ≡ got f (rest ++ more)) FormulaRefusal (part bs)) where
  parts_more : (s : Sign) (bs : List ℕ) → Gives (λ f rest. read_parts part s (bs ++ more) ≡ got f (rest ++ more)) FormulaRefusal (read_parts part s bs)
  unfolding read_parts ◌then◌
  parts_more (unit f) bs = gives_got refl
  parts_more (named f) bs = gives_then (two_more bs more) λ n rest p. gives_got (rw p)
  parts_more (binary f) bs = gives_then (part_more bs) λ a mid p. gives_then (part_more mid) λ b rest q. gives_got (rw (p, q))
  parts_more (unary f) bs = gives_then (part_more bs) λ a rest p. gives_got (rw p)

entry_more : (table : List Sign) (n : ℕ) (more : List ℕ) {k k' : Sign → Read Formula}
    → ((s : Sign) → Gives (λ f rest. k' s ≡ got f (rest ++ more)) FormulaRefusal (k s))
    → Gives (λ f rest. entry table n wrong_tag k' ≡ got f (rest ++ more)) FormulaRefusal (entry table n wrong_tag k)
unfolding entry
entry_more [] n more g = gives_refused unknown_tag
entry_more (s ∷ ss) zero more g = g s
entry_more (s ∷ ss) (suc n) more g = entry_more ss n more g

formula_more : (levels : ℕ) (bs more : List ℕ) → Gives (λ f rest. read_formula levels (bs ++ more) ≡ got f (rest ++ more)) FormulaRefusal (read_formula levels bs)
unfolding read_formula ◌then◌
formula_more zero bs more = gives_then (byte_more bs more) λ t rest p. rw p (entry_more signs t more λ s. gives_refused too_tall)
formula_more (suc levels) bs more =
    gives_then (byte_more bs more) λ t rest p.
    rw p (entry_more signs t more λ s. parts_more (read_formula levels) more (λ bs. formula_more levels bs more) s rest)

pub read_more : (levels : ℕ) (bs more : List ℕ) (f : Formula) (rest : List ℕ) → read_formula levels bs ≡ got f rest → read_formula levels (bs ++ more) ≡ got f (rest ++ more)
read_more levels bs more f rest e = when_got (formula_more levels bs more) e
