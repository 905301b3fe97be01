-- Items that move down by one, and the loop that keeps items by the bits of a mask, step by step. Assumes nothing.
use mathlib.Core.Path.{◌≡◌, refl, sym, ap, ◌∙◌}
use mathlib.Core.Bool.{Bool, true, false}
use mathlib.Core.List.{List, [], ◌∷◌, ◌++◌, append_assoc, append-nil}
use Prim.Native.Nat.{ℕ, zero, suc, ◌+◌, ◌-◌, ◌/◌, ◌%◌, ◌≤◌, ◌<◌}
use native.Mathlib.Numerals.{add-one}
use native.Mathlib.Nat.{add-zero}
use native.Mathlib.Omega.{arith}
use lib.Dec.{eqb, leb}
use lib.ListN.{get_or, set, length, take, drop, length-set, drop_of_length-le}
use lib.Seq.{length-take-le, take-take, drop-cons, take-suc-set, take-set-le, get_or-set_other, get_or-take, set_split, take-set-lt}
use Rattle.std.specs.List.{copy_within}
use Rattle.std.proofs.lemmas.List.Edits.{take-paste}
use Rattle.std.proofs.lemmas.Slice.{between_is}
use Rattle.std.proofs.Common.{length-drop}
use lib.Seq.{paste}
use mir.Val.{bool_byte}
use Rattle.zones.specs.declared.Zones.{Zones}
use Rattle.zones.specs.ZonesLaws.{remove_length, remove_at, made}
use Rattle.zones.specs.Zones.{Fits, Made, Shifted, replaced, only, split, remove, replace, keep, as_number, bit, past, part}

-- what `shift_down` copies
pub shifted : {items r : List ℕ} {i last : ℕ} → i ≤ last → last < length items → length r ≡ length items → r ≡ copy_within items (i + 1) (last + 1) i → Shifted items i last r
shifted {items} {r} {i} {last} h g l e =
    let n : i + (last + 1 - (i + 1)) ≡ last = omega arith in
    let m : last + 1 - (i + 1) ≡ suc last - suc i = omega arith in
    record {
      sized = l;
      moved =
          ap (take last) e
          ∙ sym (ap (λ (k : ℕ). take k (paste items i (drop (i + 1) items) (last + 1 - (i + 1)))) n)
          ∙ take-paste items i (drop (i + 1) items) (last + 1 - (i + 1)) (omega arith) (omega (arith, length-drop (i + 1) items))
          ∙ rw (m, add-one i, between_is items (suc i) (suc last), take-take i (suc last) items (omega arith)) refl;
    }

-- the loop of `part`, over the first n items without the one at place i: those before place k are dealt with, `to` of them kept, and the items from k on stand as at first
pub record Keeping (side i mask : ℕ) (items : List ℕ) (n : ℕ) (r : List ℕ) (m to k : ℕ) : Type 0 where
  pub sized : length r ≡ length items
  pub low : to ≤ k
  pub high : k < n
  pub done : take to r ++ part side m (drop k (remove i (take n items))) ≡ part side mask (remove i (take n items))
  pub ahead : (j : ℕ) → k ≤ j → get_or r j 0 ≡ get_or items j 0

keep_take : (b : Bool) (r : List ℕ) (to a : ℕ) (rest : List ℕ) → to < length r → take (to + as_number b) (set r to a) ++ rest ≡ take to r ++ keep b a rest
keep_take true r to a rest h = rw add-one (ap (λ (l : List ℕ). l ++ rest) (take-suc-set r to a h) ∙ append_assoc (take to r) (a ∷ []) rest)
keep_take false r to a rest h = rw add-zero (ap (λ (l : List ℕ). l ++ rest) (take-set-le to r to a (omega arith)))

as_number_le : (b : Bool) → as_number b ≤ 1
as_number_le true = omega arith
as_number_le false = omega arith

pub bit_le : (side mask : ℕ) → bit side mask ≤ 1
bit_le side mask = as_number_le (eqb (mask % 2) side)

-- the code's number of a test
pub as_byte : (b : Bool) → bool_byte b ≡ as_number b
as_byte true = refl
as_byte false = refl

pub past_le : (i k : ℕ) → past i k ≤ 1
past_le i k = as_number_le (leb i k)

module _ {side i mask : ℕ} {items : List ℕ} {n : ℕ} {r : List ℕ} {m to k : ℕ} (p : Keeping side i mask items n r m to k) (fits : n ≤ length items) (place : i < n) where
  items_length : length (take n items) ≡ n
  items_length = length-take-le n items fits

  others_length : length (remove i (take n items)) + 1 ≡ n
  others_length = remove_length (take n items) i (omega (arith, items_length)) ∙ items_length

  pub keeping_step : k + 1 < n → Keeping side i mask items n (set r to (get_or r (k + past i k) 0)) (m / 2) (to + bit side m) (k + 1)
  unfolding part
  keeping_step h =
      let x : ℕ = get_or r (k + past i k) 0 in
      let here : get_or (remove i (take n items)) k 0 ≡ x =
      remove_at (take n items) i k (omega (arith, items_length))
      ∙ get_or-take n items (k + past i k) 0 (omega (arith, past_le i k))
      ∙ sym (p.ahead (k + past i k) (omega arith)) in
      let left : drop k (remove i (take n items)) ≡ x ∷ drop (suc k) (remove i (take n items)) =
      rw here at (drop-cons (remove i (take n items)) k 0 (omega (arith, others_length))) in
      record {
        sized = length-set r to _ ∙ p.sized;
        low = omega (arith, p.low, bit_le side m);
        high = h;
        done =
            rw (add-one k)
            (keep_take (eqb (m % 2) side) r to x _ (omega (arith, p.low, p.sized))
            ∙ sym (ap (λ (l : List ℕ). take to r ++ part side m l) left)
            ∙ p.done);
        ahead = λ j l. get_or-set_other r to j _ 0 (λ e. omega (arith, p.low)) ∙ p.ahead j (omega arith);
      }

  pub keeping_end : n ≤ k + 1 → take to r ≡ part side mask (remove i (take n items))
  unfolding part
  keeping_end h =
      let none : drop k (remove i (take n items)) ≡ [] = drop_of_length-le (remove i (take n items)) {i = k} (omega (arith, others_length)) in
      sym (append-nil _) ∙ sym (ap (λ (l : List ℕ). take to r ++ part side m l) none) ∙ p.done

-- one item more, and one item changed
take_push : (items : List ℕ) (n a : ℕ) → n < length items → take (n + 1) (set items n a) ≡ take n items ++ (a ∷ [])
take_push items n a h = rw add-one (take-suc-set items n a h)

take_replace : (items : List ℕ) (n i a : ℕ) → i < n → n ≤ length items → take n (set items i a) ≡ replace i a (take n items)
take_replace items n i a h g = take-set-lt n items i a h ∙ set_split (take n items) i a (omega (arith, length-take-le n items g))

module _ {z : Zones} (f : Fits z) where
  pub made_replaced : (i a : ℕ) → i < z.linear_len
      → Made z (replaced i a)
      record { linear = set z.linear i a; linear_len = z.linear_len; unrestricted = z.unrestricted; unrestricted_len = z.unrestricted_len }
  made_replaced i a h =
      made
      record { few = f.few; linear_sized = length-set z.linear _ a ∙ f.linear_sized; unrestricted_sized = f.unrestricted_sized }
      (replaced i a)
      (take_replace z.linear z.linear_len i a h (omega (arith, f.few, f.linear_sized)))
      refl

  pub made_only : (a : ℕ) → z.unrestricted_len < 31
      → Made z (only a)
      record { linear = set z.linear 0 a; linear_len = 1; unrestricted = z.unrestricted; unrestricted_len = z.unrestricted_len }
  made_only a h =
      made
      record { few = omega arith; linear_sized = length-set z.linear _ a ∙ f.linear_sized; unrestricted_sized = f.unrestricted_sized }
      (only a)
      (take-suc-set z.linear zero a (omega (arith, f.linear_sized)))
      refl

  pub made_split : {side i mask a : ℕ} (r : Zones) {m to k : ℕ} → i < z.linear_len → Keeping side i mask z.linear z.linear_len r.linear m to k → z.linear_len ≤ k + 1
      → r.unrestricted ≡ z.unrestricted → r.unrestricted_len ≡ z.unrestricted_len
      → Made z (split side i mask a)
      record { linear = set r.linear to a; linear_len = to + 1; unrestricted = r.unrestricted; unrestricted_len = r.unrestricted_len }
  made_split {side} {i} {mask} {a} r {m} {to} {k} l p h u n =
      made
      record {
        few = omega (arith, f.few, n, p.low, p.high);
        linear_sized = length-set r.linear to a ∙ p.sized ∙ f.linear_sized;
        unrestricted_sized = ap length u ∙ f.unrestricted_sized;
      }
      (split side i mask a)
      (take_push r.linear to a (omega (arith, f.few, f.linear_sized, p.sized, p.low, p.high))
      ∙ ap (λ (l : List ℕ). l ++ (a ∷ [])) (keeping_end p (omega (arith, f.few, f.linear_sized)) l h))
      (rw (u, n))
