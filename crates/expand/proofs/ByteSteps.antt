-- Bytes written one after another, and the bytes of a held formula by its tag. Assumes nothing.
use mathlib.Core.Path.{◌≡◌, refl, sym, ap, ◌∙◌}
use mathlib.Core.Logic.{⊎_elim}
use mathlib.Core.List.{List, [], ◌∷◌, ◌++◌, map, map-append}
use Prim.Native.Nat.{ℕ, ◌+◌, ◌≤◌, ◌<◌}
use native.Mathlib.Numerals.{add-one}
use native.Mathlib.Omega.{arith}
use lib.ListN.{get_or, set, length, take, drop, take-append-drop, length-append, length-set}
use lib.Seq.{length-sets, take-suc, take-take, length-take-le, get_or-take}
use Rattle.logic.specs.Formula.{Formula, size}
use Rattle.logic.proofs.FormulaLaws.{size_positive}
use Rattle.logic.specs.Parts.{tag_of, left_part, right_part, signs, make}
use Rattle.logic.proofs.PartsLaws.{unit_tags, name_tags, binary_tags, unary_tags, tag_make, left_make, right_make}
use Rattle.wire.specs.Write.{two_bytes, write_formula, write_formulas, write_zone}
use Rattle.wire.proofs.FormulaBytes.{length_write}
use Rattle.wire.proofs.ZoneBytes.{write_formulas_append, write_formulas_one, length_write_zone}
use Rattle.formula.proofs.RewritingLaws.{sets_append}
use Rattle.held.specs.SignsLaws.{node_make}
use Rattle.held.specs.Words.{at, count, view, told, named, Wf}
use Rattle.held.specs.Answers.{Field}
use Rattle.held.specs.OrderLaws.{le_or_lt}
use Rattle.held.specs.WordsLaws.{held_node, row_low, weights}
use Rattle.held.proofs.RowSteps.{row_left, row_right}
use Rattle.expand.specs.Writing.{Wrote, FormulaRoom, Items, ItemsRoom, ZoneRoom, Weighs}

-- one run of bytes after another
pub wrote_then : {out out₁ out₂ xs ys : List ℕ} {to n₁ n₂ : ℕ} → Wrote out to xs out₁ n₁ → Wrote out₁ n₁ ys out₂ n₂ → Wrote out to (xs ++ ys) out₂ n₂
wrote_then {out} {out₁} {out₂} {xs} {ys} {to} {n₁} {n₂} a b = record {
  after = omega (arith, a.after, b.after, length-append xs ys);
  written = b.written ∙ rw (a.written, a.after) (sym (sets_append xs ys out to));
}

pub wrote_one : (out : List ℕ) (to b : ℕ) → Wrote out to (b ∷ []) (set out to b) (to + 1)
wrote_one out to b = record { after = refl; written = refl }

pub wrote_length : {out bs out' : List ℕ} {to next : ℕ} → Wrote out to bs out' next → length out' ≡ length out
wrote_length {out} {bs} {out'} {to} w = ap length w.written ∙ length-sets out to bs

pub wrote_as : {out bs bs' out' : List ℕ} {to next : ℕ} → Wrote out to bs out' next → bs ≡ bs' → Wrote out to bs' out' next
wrote_as w e = rw e at w

-- what a tag is followed by
module _ (n : ℕ) (x y : Formula) where
  write_unit : (t : ℕ) → t < 4 → write_formula (make t n x y) ≡ t ∷ []
  unfolding make signs write_formula
  write_unit = unit_tags (λ t. write_formula (make t n x y) ≡ t ∷ []) refl refl refl refl

  write_name : (t : ℕ) → 4 ≤ t → t < 6 → write_formula (make t n x y) ≡ t ∷ two_bytes n
  unfolding make signs write_formula
  write_name = name_tags (λ t. write_formula (make t n x y) ≡ t ∷ two_bytes n) refl refl

  write_mid : (t : ℕ) → 6 ≤ t → t < 11 → write_formula (make t n x y) ≡ t ∷ (write_formula x ++ write_formula y)
  unfolding make signs write_formula
  write_mid = binary_tags (λ t. write_formula (make t n x y) ≡ t ∷ (write_formula x ++ write_formula y)) refl refl refl refl refl

  write_high : (t : ℕ) → 11 ≤ t → t < 13 → write_formula (make t n x y) ≡ t ∷ write_formula x
  unfolding make signs write_formula
  write_high = unary_tags (λ t. write_formula (make t n x y) ≡ t ∷ write_formula x) refl refl

module _ (m : List ℕ) (x : ℕ) (wf : Wf m) (l : x < count m) where
  pub told_make : told m x ≡ make (at m x 0) (at m x 1) (told m (at m x 1)) (told m (at m x 2))
  told_make = held_node m (count m) wf.formulas x l ∙ node_make (at m x 0) (at m x 1) (at m x 2) (view m)

  pub tag_low : at m x 0 < 13
  tag_low = row_low (wf.formulas.rows x l)

  pub told_tag : tag_of (told m x) ≡ at m x 0
  told_tag = ap tag_of told_make ∙ tag_make _ _ _ (at m x 0) tag_low

  pub told_left : 6 ≤ at m x 0 → left_part (told m x) ≡ told m (at m x 1)
  told_left h = ap left_part told_make ∙ left_make _ _ _ (at m x 0) h tag_low

  pub told_right : 6 ≤ at m x 0 → at m x 0 < 11 → right_part (told m x) ≡ told m (at m x 2)
  told_right h k = ap right_part told_make ∙ right_make _ _ _ (at m x 0) h k

  pub part_left : 6 ≤ at m x 0 → at m x 1 < x
  part_left = row_left (wf.formulas.rows x l)

  pub part_right : 6 ≤ at m x 0 → at m x 0 < 11 → at m x 2 < x
  part_right = row_right (wf.formulas.rows x l)

  bytes_unit : at m x 0 < 4 → write_formula (told m x) ≡ at m x 0 ∷ []
  bytes_unit h = ap write_formula told_make ∙ write_unit _ _ _ (at m x 0) h

  bytes_name : 4 ≤ at m x 0 → at m x 0 < 6 → write_formula (told m x) ≡ at m x 0 ∷ two_bytes (at m x 1)
  bytes_name h k = ap write_formula told_make ∙ write_name _ _ _ (at m x 0) h k

  bytes_two : 6 ≤ at m x 0 → at m x 0 < 11 → write_formula (told m x) ≡ at m x 0 ∷ (write_formula (told m (at m x 1)) ++ write_formula (told m (at m x 2)))
  bytes_two h k = ap write_formula told_make ∙ write_mid _ _ _ (at m x 0) h k

  bytes_one : 11 ≤ at m x 0 → write_formula (told m x) ≡ at m x 0 ∷ write_formula (told m (at m x 1))
  bytes_one h = ap write_formula told_make ∙ write_high _ _ _ (at m x 0) h tag_low

  size_is : size (told m x) ≡ at m x 4
  size_is = (weights m (count m) wf.formulas x l).1

-- `formula_bytes`, with the tag and the two fields read
module _ {m : List ℕ} {x : ℕ} {out : List ℕ} {to : ℕ} (p : FormulaRoom m x out to) {t a b : ℕ} (ft : Field m x 0 t) (fa : Field m x 1 a) (fb : Field m x 2 b) where
  pub formula_tag : t < 13
  formula_tag = omega (arith, ft.value, tag_low m x p.wf p.low)

  room_written : {bs : List ℕ} → write_formula (told m x) ≡ bs → to + length bs ≤ length out
  room_written e = omega (arith, p.room, length_write (told m x), ap length e)

  pub formula_start : to < length out
  formula_start = omega (arith, p.room, size_positive (told m x))

  pub formula_unit : t < 4 → Wrote out to (write_formula (told m x)) (set out to t) (to + 1)
  formula_unit h = wrote_as (wrote_one out to t) (sym (rw ft.value (bytes_unit m x p.wf p.low (omega (arith, ft.value)))))

  pub name_room : 4 ≤ t → t < 6 → (a < 65536) × (to + 1 + 2 ≤ length (set out to t))
  name_room h k = (
    fa.fits,
    omega (arith, length-set out to t, room_written (bytes_name m x p.wf p.low (omega (arith, ft.value)) (omega (arith, ft.value)))),
  )

  pub formula_name : {out' : List ℕ} {r : ℕ} → 4 ≤ t → t < 6 → Wrote (set out to t) (to + 1) (two_bytes a) out' r → Wrote out to (write_formula (told m x)) out' r
  formula_name h k w =
      wrote_as
      (wrote_then (wrote_one out to t) w)
      (sym (rw (ft.value, fa.value) (bytes_name m x p.wf p.low (omega (arith, ft.value)) (omega (arith, ft.value)))))

  pub left_less : 6 ≤ t → a < x
  left_less h = omega (arith, fa.value, part_left m x p.wf p.low (omega (arith, ft.value)))

  pub right_less : 6 ≤ t → t < 11 → b < x
  right_less h k = omega (arith, fb.value, part_right m x p.wf p.low (omega (arith, ft.value)) (omega (arith, ft.value)))

  parts_two : 6 ≤ t → t < 11 → write_formula (told m x) ≡ t ∷ (write_formula (told m a) ++ write_formula (told m b))
  parts_two h k = rw (ft.value, fa.value, fb.value) (bytes_two m x p.wf p.low (omega (arith, ft.value)) (omega (arith, ft.value)))

  parts_one : 11 ≤ t → write_formula (told m x) ≡ t ∷ write_formula (told m a)
  parts_one h = rw (ft.value, fa.value) (bytes_one m x p.wf p.low (omega (arith, ft.value)))

  pub left_room : 6 ≤ t → FormulaRoom m a (set out to t) (to + 1)
  left_room h = record { wf = p.wf; low = omega (arith, left_less h, p.low); room = ⊎_elim two_room one_room (le_or_lt 11 t) }
    where
      one_room : t < 11 → to + 1 + size (told m a) ≤ length (set out to t)
      one_room k =
          omega (
            arith,
            length-set out to t,
            room_written (parts_two h k),
            length-append (write_formula (told m a)) (write_formula (told m b)),
            length_write (told m a),
          )

      two_room : 11 ≤ t → to + 1 + size (told m a) ≤ length (set out to t)
      two_room k = omega (arith, length-set out to t, room_written (parts_one k), length_write (told m a))

  module _ {out₁ : List ℕ} {n₁ : ℕ} (w : Wrote (set out to t) (to + 1) (write_formula (told m a)) out₁ n₁) where
    pub right_room : 6 ≤ t → t < 11 → FormulaRoom m b out₁ n₁
    right_room h k = record {
      wf = p.wf;
      low = omega (arith, right_less h k, p.low);
      room =
          omega (
            arith,
            wrote_length w,
            length-set out to t,
            w.after,
            room_written (parts_two h k),
            length-append (write_formula (told m a)) (write_formula (told m b)),
            length_write (told m b),
          );
    }

    pub formula_two : {out₂ : List ℕ} {n₂ : ℕ} → 6 ≤ t → t < 11 → Wrote out₁ n₁ (write_formula (told m b)) out₂ n₂ → Wrote out to (write_formula (told m x)) out₂ n₂
    formula_two h k w₂ = wrote_as (wrote_then (wrote_one out to t) (wrote_then w w₂)) (sym (parts_two h k))

    pub formula_one : 11 ≤ t → Wrote out to (write_formula (told m x)) out₁ n₁
    formula_one h = wrote_as (wrote_then (wrote_one out to t) w) (sym (parts_one h))

-- formulas one after another
module _ {m items : List ℕ} {n : ℕ} (g : Items m items n) where
  -- the item at place k
  pub item_low : (k : ℕ) → k < n → get_or items k 0 < count m
  item_low k h = rw (get_or-take n items k 0 h) at (g.below.below k (omega (arith, length-take-le n items (omega (arith, g.few, g.sized)))))

  named_next : (k : ℕ) → k < n → named m items (k + 1) ≡ named m items k ++ (told m (get_or items k 0) ∷ [])
  named_next k h =
      rw add-one
      (ap (map (told m)) (take-suc items k 0 (omega (arith, g.few, g.sized))) ∙ map-append (told m) (take k items) (get_or items k 0 ∷ []))

  bytes_next : (k : ℕ) → k < n → write_formulas (named m items (k + 1)) ≡ write_formulas (named m items k) ++ write_formula (told m (get_or items k 0))
  bytes_next k h =
      ap write_formulas (named_next k h)
      ∙ write_formulas_append (named m items k) (told m (get_or items k 0) ∷ [])
      ∙ ap (λ (l : List ℕ). write_formulas (named m items k) ++ l) (write_formulas_one (told m (get_or items k 0)))

  bytes_prefix : (k : ℕ) → k ≤ n → length (write_formulas (named m items k)) ≤ length (write_formulas (named m items n))
  bytes_prefix k h =
      let split : named m items n ≡ named m items k ++ map (told m) (drop k (take n items)) =
      ap (map (told m)) (sym (take-append-drop k (take n items)) ∙ ap (λ (l : List ℕ). l ++ drop k (take n items)) (take-take k n items h))
      ∙ map-append (told m) (take k items) (drop k (take n items)) in
      omega (
        arith,
        ap length (ap write_formulas split ∙ write_formulas_append (named m items k) (map (told m) (drop k (take n items)))),
        length-append (write_formulas (named m items k)) (write_formulas (map (told m) (drop k (take n items)))),
      )

  -- the loop of `items_length`: the first k items are counted
  pub weighs_start : Weighs m items 0 0
  unfolding write_formulas
  weighs_start = record { bytes = refl; small = omega arith }

  pub weighs_next : {k sum s : ℕ} → k < n → Weighs m items k sum → Field m (get_or items k 0) 4 s → Weighs m items (k + 1) (sum + s)
  weighs_next {k} {sum} {s} h w f =
      let x = get_or items k 0 in
      record {
        bytes =
            omega (
              arith,
              w.bytes,
              f.value,
              size_is m x g.wf (item_low k h),
              length_write (told m x),
              ap length (bytes_next k h),
              length-append (write_formulas (named m items k)) (write_formula (told m x)),
            );
        small = omega (arith, w.small, f.fits);
      }

  -- the loop of `items_bytes`: the first k items are written
  module _ {out : List ℕ} {to : ℕ} (room : to + length (write_formulas (named m items n)) ≤ length out) where
    pub written_start : Wrote out to (write_formulas (named m items 0)) out to
    unfolding write_formulas
    written_start = record { after = omega arith; written = refl }

    pub written_room : {k : ℕ} {out' : List ℕ} {next : ℕ} → k < n → Wrote out to (write_formulas (named m items k)) out' next → FormulaRoom m (get_or items k 0) out' next
    written_room {k} h w = record {
      wf = g.wf;
      low = item_low k h;
      room =
          omega (
            arith,
            room,
            w.after,
            wrote_length w,
            length_write (told m (get_or items k 0)),
            bytes_prefix (k + 1) (omega arith),
            ap length (bytes_next k h),
            length-append (write_formulas (named m items k)) (write_formula (told m (get_or items k 0))),
          );
    }

    pub written_next : {k : ℕ} {out' out'' : List ℕ} {next next' : ℕ} → k < n → Wrote out to (write_formulas (named m items k)) out' next
        → Wrote out' next (write_formula (told m (get_or items k 0))) out'' next' → Wrote out to (write_formulas (named m items (k + 1))) out'' next'
    written_next {k} h w v = wrote_as (wrote_then w v) (sym (bytes_next k h))

-- the first n items as a list of their own
part_same : (items : List ℕ) (n : ℕ) → n ≤ length items → take (length (take n items)) (take n items) ≡ take n items
part_same items n h = rw (length-take-le n items h) (take-take n n items (omega arith))

pub part_items : {m items : List ℕ} {n : ℕ} → Items m items n → Items m (take n items) (length (take n items))
part_items {m} {items} {n} g = record { wf = g.wf; sized = omega arith; few = omega (arith, length-take-le n items g.sized, g.few); below = rw (part_same items n g.sized) g.below }

pub part_room : {m items : List ℕ} {n : ℕ} {out : List ℕ} {to : ℕ} → ZoneRoom m items n out to → ZoneRoom m (take n items) (length (take n items)) out to
part_room {m} {items} {n} z = let e = part_same items n z.good.sized in record { good = part_items z.good; room = rw e z.room; short = rw e z.short }

module _ {m items : List ℕ} {n : ℕ} (g : Items m items n) where
  pub part_weighs : {r : ℕ} → Weighs m (take n items) (length (take n items)) r → Weighs m items n r
  part_weighs w = record {
    bytes = w.bytes ∙ ap (λ (l : List ℕ). length (write_formulas (map (told m) l))) (part_same items n g.sized);
    small = omega (arith, length-take-le n items g.sized, w.small);
  }

  pub part_wrote : {out out' : List ℕ} {to next : ℕ} → Wrote out to (write_zone (named m (take n items) (length (take n items)))) out' next
      → Wrote out to (write_zone (named m items n)) out' next
  part_wrote w = wrote_as w (ap (λ (l : List ℕ). write_zone (map (told m) l)) (part_same items n g.sized))

-- a zone: its length, and its formulas
module _ {m items : List ℕ} {n : ℕ} {out : List ℕ} {to : ℕ} (z : ZoneRoom m items n out to) where
  pub length_room : {r : ℕ} → Weighs m items n r → (r < 65536) × (to + 2 ≤ length out)
  length_room w = (omega (arith, w.bytes, z.short), omega (arith, z.room, length_write_zone (named m items n)))

  module _ {r : ℕ} (w : Weighs m items n r) {out₁ : List ℕ} {n₁ : ℕ} (v : Wrote out to (two_bytes r) out₁ n₁) where
    pub zone_items : ItemsRoom m items n out₁ n₁
    zone_items = record { good = z.good; room = omega (arith, z.room, length_write_zone (named m items n), v.after, wrote_length v) }

    pub zone_wrote : {out₂ : List ℕ} {n₂ : ℕ} → Wrote out₁ n₁ (write_formulas (named m items n)) out₂ n₂ → Wrote out to (write_zone (named m items n)) out₂ n₂
    unfolding write_zone
    zone_wrote u = wrote_as (wrote_then v u) (ap (λ (k : ℕ). two_bytes k ++ write_formulas (named m items n)) w.bytes)
