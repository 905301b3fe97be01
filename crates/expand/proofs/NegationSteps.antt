-- The table of negations: what a look-up answers, and the negation of a formula from those of its parts. Assumes nothing.
use Rattle.std.specs.Prelude.{None, Option, Some}
use mathlib.Core.Path.{◌≡◌, refl, sym, ap, ◌∙◌}
use mathlib.Core.Logic.{⊎_elim}
use mathlib.Core.List.{List}
use Prim.Native.Nat.{ℕ, ◌+◌, ◌-◌, ◌≤◌, ◌<◌, max}
use native.Mathlib.Omega.{arith}
use borrow.Author.Count.{below_more}
use lib.ListN.{get_or, set, length, length-set}
use lib.Seq.{get_or-set_same, get_or-set_other}
use Rattle.logic.specs.Formula.{Formula, negate, height, size}
use Rattle.logic.proofs.FormulaLaws.{negate_height, negate_size}
use Rattle.logic.specs.Parts.{tag_of, left_part, right_part, make, negated_tag}
use Rattle.logic.proofs.PartsLaws.{
  make_binary,
  make_unary,
  tag_make,
  left_make,
  right_make,
  negate_leaf,
  negate_binary,
  negate_make_lolli,
  negate_unary,
  negated_binary,
  negated_unary,
}
use Rattle.held.specs.Signs.{node}
use Rattle.held.specs.SignsLaws.{node_make}
use Rattle.held.specs.Words.{at, count, most, view, told, Row, two, one, Wf}
use Rattle.held.specs.OrderLaws.{le_or_lt}
use Rattle.held.specs.WordsLaws.{weights, number_once}
use Rattle.held.specs.Answers.{Field, Next, NumberOf}
use Rattle.held.proofs.RowSteps.{row_tall, row_wide, row_tall_one, row_wide_one}
use Rattle.held.proofs.TurnSteps.{leaf_row}
use Rattle.expand.specs.Negations.{Noted, Table, Above}
use Rattle.expand.proofs.ByteSteps.{told_make, told_tag, told_left, told_right, tag_low, part_left, part_right}

-- what a look-up answers
noted_at : {m : List ℕ} {f : Formula} {i : ℕ} → Wf m → (i < count m) × (told m i ≡ f) → Noted m f (i + 1)
noted_at {m} {f} {i} wf h = record {
  sound = λ y e. let s : i ≡ y = omega arith in rw s at h;
  complete = λ y l e. ap (λ (k : ℕ). k + 1) ((number_once m wf i y h.0 l).0 (h.1 ∙ sym e));
}

noted_none : {m : List ℕ} {f : Formula} → ((i : ℕ) → i < count m → told m i ≡ f → ⊥) → Noted m f 0
noted_none h = record { sound = λ y e. absurd (omega arith); complete = λ y l e. absurd (h y l e) }

pub number_some : (m : List ℕ) (f : Formula) (r : Option ℕ) (i : ℕ) → Wf m → NumberOf m f r → r ≡ Some i → Noted m f (i + 1)
number_some m f r i wf x e = noted_at wf (rw e at x)

pub number_fits : (m : List ℕ) (f : Formula) (r : Option ℕ) (i : ℕ) → Wf m → NumberOf m f r → r ≡ Some i → i < most
number_fits m f r i wf x e = let h : (i < count m) × (told m i ≡ f) = rw e at x in omega (arith, h.0, wf.few)

pub number_none : (m : List ℕ) (f : Formula) (r : Option ℕ) → NumberOf m f r → r ≡ None → Noted m f 0
number_none m f (Some i) x e = cc
number_none m f None x e = noted_none x

number_as : (m : List ℕ) {f g : Formula} (r : Option ℕ) → f ≡ g → NumberOf m f r → NumberOf m g r
number_as m r e n = rw e at n

-- a word that is no zero
noted_some : {m : List ℕ} {f : Formula} {r : ℕ} → Noted m f r → (r ≡ 0 → ⊥) → (r - 1 < count m) × (told m (r - 1) ≡ f)
noted_some {r} n h = n.sound (r - 1) (omega arith)

-- the parts of a formula that is held
module _ (m : List ℕ) (wf : Wf m) {y : ℕ} (l : y < count m) (t n : ℕ) (u v : Formula) (e : told m y ≡ make t n u v) where
  tag_is : t < 13 → at m y 0 ≡ t
  tag_is h = sym (told_tag m y wf l) ∙ ap tag_of e ∙ tag_make n u v t h

  left_of : 6 ≤ t → t < 13 → (at m y 1 < count m) × (told m (at m y 1) ≡ u)
  left_of h k =
      let g : 6 ≤ at m y 0 = omega (arith, tag_is k) in
      (omega (arith, part_left m y wf l g), sym (told_left m y wf l g) ∙ ap left_part e ∙ left_make n u v t h k)

  right_of : 6 ≤ t → t < 11 → (at m y 2 < count m) × (told m (at m y 2) ≡ v)
  right_of h k =
      let tag = tag_is (omega arith) in
      let g : 6 ≤ at m y 0 = omega arith in
      let g' : at m y 0 < 11 = omega arith in
      (omega (arith, part_right m y wf l g g'), sym (told_right m y wf l g g') ∙ ap right_part e ∙ right_make n u v t h k)

  pub part_of_mid : 6 ≤ t → t < 11 → ((at m y 1 < count m) × (told m (at m y 1) ≡ u)) × ((at m y 2 < count m) × (told m (at m y 2) ≡ v))
  part_of_mid h k = (left_of h (omega arith), right_of h k)

  part_of_high : 11 ≤ t → t < 13 → (at m y 1 < count m) × (told m (at m y 1) ≡ u)
  part_of_high h k = left_of (omega arith) k

-- a formula and its negation are as high and as long
same_weight : (m : List ℕ) → Wf m → {y k : ℕ} → y < count m → k < count m → told m y ≡ negate (told m k) → (at m y 3 ≡ at m k 3) × (at m y 4 ≡ at m k 4)
same_weight m wf {y} {k} l u e =
    let wy = weights m (count m) wf.formulas y l in
    let wk = weights m (count m) wf.formulas k u in
    (sym wy.0 ∙ ap height e ∙ negate_height (told m k) ∙ wk.0, sym wy.1 ∙ ap size e ∙ negate_size (told m k) ∙ wk.1)

-- `negation`, with the tag and the two fields read
module _ {m table : List ℕ} {x : ℕ} (p : Table m table x × (x < count m)) {t a b : ℕ} (ft : Field m x 0 t) (fa : Field m x 1 a) (fb : Field m x 2 b) where
  row : Row m x t a b (at m x 3) (at m x 4)
  row = rw (ft.value, fa.value, fb.value) (p.0.wf.formulas.rows x p.1)

  told_is : told m x ≡ make t a (told m a) (told m b)
  told_is = rw (ft.value, fa.value, fb.value) (told_make m x p.0.wf p.1)

  pub negation_tag : t < 13
  negation_tag = omega (arith, ft.value, tag_low m x p.0.wf p.1)

  pub leaf_next : {d : ℕ} → t < 6 → d ≡ negated_tag t → Next m d a 0
  leaf_next h e = rw e record { wf = p.0.wf; tall = at m x 3; wide = at m x 4; row = leaf_row (count m) row h }

  pub leaf_noted : {d : ℕ} (r : Option ℕ) → t < 6 → d ≡ negated_tag t → NumberOf m (node d a 0 (view m)) r → NumberOf m (negate (told m x)) r
  leaf_noted {d} r h e =
      number_as
      m
      r
      (ap (λ (k : ℕ). node k a 0 (view m)) e
      ∙ node_make (negated_tag t) a 0 (view m)
      ∙ sym (negate_leaf a (told m a) (told m b) (told m a) (told m 0) t h)
      ∙ ap negate (sym told_is))

  pub left_low : 6 ≤ t → a < x
  left_low h = omega (arith, ft.value, fa.value, part_left m x p.0.wf p.1 (omega (arith, ft.value)))

  pub right_low : 6 ≤ t → t < 11 → b < x
  right_low h k = omega (arith, fb.value, part_right m x p.0.wf p.1 (omega (arith, ft.value)) (omega (arith, ft.value)))

  -- the negations of the parts, where they are held
  module _ (h : 6 ≤ t) where
    left_word : Noted m (negate (told m a)) (get_or table a 0)
    left_word = p.0.filled a (left_low h)

    module _ (k : t < 11) where
      right_word : Noted m (negate (told m b)) (get_or table b 0)
      right_word = p.0.filled b (right_low h k)

      -- two parts with these weights may stand next
      next_two : {d y z : ℕ} → 6 ≤ d → d < 11 → y < count m → z < count m → at m y 3 ≡ at m a 3 → at m y 4 ≡ at m a 4 → at m z 3 ≡ at m b 3 → at m z 4 ≡ at m b 4 → Next m d y z
      next_two {d} {y} {z} g l ly lz y3 y4 z3 z4 =
          record {
            wf = p.0.wf;
            tall = 1 + max (at m y 3) (at m z 3);
            wide = 1 + at m y 4 + at m z 4;
            row = two g l ly lz refl refl (rw (y3, z3) (row_tall row h k)) (rw (y4, z4) (row_wide row h k));
          }

  -- an implication: its left part, and the negation of its right one
  module _ (e : t ≡ 10) where
    lolli_is : negate (told m x) ≡ make 6 a (told m a) (negate (told m b))
    lolli_is = ap negate (told_is ∙ ap (λ (k : ℕ). make k a (told m a) (told m b)) e) ∙ negate_make_lolli a (told m a) (told m b) a

    pub lolli_none : get_or table b 0 ≡ 0 → NumberOf m (negate (told m x)) None
    lolli_none z =
        λ y l f.
        let parts = part_of_mid m p.0.wf l 6 a (told m a) (negate (told m b)) (f ∙ lolli_is) (omega arith) (omega arith) in
        omega (arith, z, (right_word (omega arith) (omega arith)).complete (at m y 2) parts.1.0 parts.1.1)

    module _ (z : get_or table b 0 ≡ 0 → ⊥) where
      lolli_right : (get_or table b 0 - 1 < count m) × (told m (get_or table b 0 - 1) ≡ negate (told m b))
      lolli_right = noted_some (right_word (omega arith) (omega arith)) z

      pub lolli_next : Next m 6 a (get_or table b 0 - 1)
      lolli_next =
          let b_low : b < count m = omega (arith, p.1, right_low (omega arith) (omega arith)) in
          let w = same_weight m p.0.wf lolli_right.0 b_low lolli_right.1 in
          next_two (omega arith) (omega arith) (omega arith) (omega arith) (omega (arith, p.1, left_low (omega arith))) lolli_right.0 refl refl w.0 w.1

      pub lolli_noted : (r : Option ℕ) → NumberOf m (node 6 a (get_or table b 0 - 1) (view m)) r → NumberOf m (negate (told m x)) r
      lolli_noted r =
          number_as
          m
          r
          (node_make 6 a (get_or table b 0 - 1) (view m) ∙ ap (make 6 a (told m a)) lolli_right.1 ∙ sym lolli_is)

  -- two parts, both negated
  module _ (h : 6 ≤ t) (k : t < 10) where
    mid_is : negate (told m x) ≡ make (negated_tag t) a (negate (told m a)) (negate (told m b))
    mid_is = ap negate told_is ∙ negate_binary a (told m a) (told m b) a t h k

    mid_parts : {y : ℕ} → y < count m → told m y ≡ negate (told m x)
        → ((at m y 1 < count m) × (told m (at m y 1) ≡ negate (told m a))) × ((at m y 2 < count m) × (told m (at m y 2) ≡ negate (told m b)))
    mid_parts l f =
        let d = negated_binary t h (omega arith) in
        part_of_mid m p.0.wf l (negated_tag t) a (negate (told m a)) (negate (told m b)) (f ∙ mid_is) d.0 d.1

    mid_none_left : get_or table a 0 ≡ 0 → NumberOf m (negate (told m x)) None
    mid_none_left z = λ y l f. let q = mid_parts l f in omega (arith, z, (left_word h).complete (at m y 1) q.0.0 q.0.1)

    pub mid_none_right : get_or table b 0 ≡ 0 → NumberOf m (negate (told m x)) None
    mid_none_right z = λ y l f. let q = mid_parts l f in omega (arith, z, (right_word h (omega arith)).complete (at m y 2) q.1.0 q.1.1)

    module _ (za : get_or table a 0 ≡ 0 → ⊥) (zb : get_or table b 0 ≡ 0 → ⊥) {d : ℕ} (e : d ≡ negated_tag t) where
      mid_left : (get_or table a 0 - 1 < count m) × (told m (get_or table a 0 - 1) ≡ negate (told m a))
      mid_left = noted_some (left_word h) za

      mid_right : (get_or table b 0 - 1 < count m) × (told m (get_or table b 0 - 1) ≡ negate (told m b))
      mid_right = noted_some (right_word h (omega arith)) zb

      pub mid_next : Next m d (get_or table a 0 - 1) (get_or table b 0 - 1)
      mid_next =
          let u = negated_binary t h (omega arith) in
          let a_low : a < count m = omega (arith, p.1, left_low h) in
          let b_low : b < count m = omega (arith, p.1, right_low h (omega arith)) in
          let wa = same_weight m p.0.wf mid_left.0 a_low mid_left.1 in
          let wb = same_weight m p.0.wf mid_right.0 b_low mid_right.1 in
          rw e (next_two h (omega arith) u.0 u.1 mid_left.0 mid_right.0 wa.0 wa.1 wb.0 wb.1)

      pub mid_noted : (r : Option ℕ) → NumberOf m (node d (get_or table a 0 - 1) (get_or table b 0 - 1) (view m)) r → NumberOf m (negate (told m x)) r
      mid_noted r =
          number_as
          m
          r
          (node_make d (get_or table a 0 - 1) (get_or table b 0 - 1) (view m)
          ∙ rw (e, mid_left.1, mid_right.1) (make_name (get_or table a 0 - 1) a (negate (told m a)) (negate (told m b)))
          ∙ sym mid_is)
        where
          make_name : (n n' : ℕ) (u v : Formula) → make (negated_tag t) n u v ≡ make (negated_tag t) n' u v
          make_name n n' u v = make_binary n n' u v (negated_tag t) (negated_binary t h (omega arith)).0 (negated_binary t h (omega arith)).1

  -- one part
  module _ (h : 11 ≤ t) where
    high_is : negate (told m x) ≡ make (negated_tag t) a (negate (told m a)) (told m 0)
    high_is = ap negate told_is ∙ negate_unary a (told m a) (told m b) a (told m 0) t h negation_tag

    high_none : get_or table a 0 ≡ 0 → NumberOf m (negate (told m x)) None
    high_none z =
        λ y l f.
        let d = negated_unary t h negation_tag in
        let q = part_of_high m p.0.wf l (negated_tag t) a (negate (told m a)) (told m 0) (f ∙ high_is) d.0 d.1 in
        omega (arith, z, (left_word (omega arith)).complete (at m y 1) q.0 q.1)

    module _ (z : get_or table a 0 ≡ 0 → ⊥) {d : ℕ} (e : d ≡ negated_tag t) where
      high_left : (get_or table a 0 - 1 < count m) × (told m (get_or table a 0 - 1) ≡ negate (told m a))
      high_left = noted_some (left_word (omega arith)) z

      pub high_next : Next m d (get_or table a 0 - 1) 0
      high_next =
          let u = negated_unary t h negation_tag in
          let a_low : a < count m = omega (arith, p.1, left_low (omega arith)) in
          let s = same_weight m p.0.wf high_left.0 a_low high_left.1 in
          rw e record {
            wf = p.0.wf;
            tall = 1 + at m (get_or table a 0 - 1) 3;
            wide = 1 + at m (get_or table a 0 - 1) 4;
            row = one u.0 u.1 high_left.0 refl refl refl (rw s.0 (row_tall_one row h)) (rw s.1 (row_wide_one row h));
          }

      pub high_noted : (r : Option ℕ) → NumberOf m (node d (get_or table a 0 - 1) 0 (view m)) r → NumberOf m (negate (told m x)) r
      high_noted r =
          number_as
          m
          r
          (node_make d (get_or table a 0 - 1) 0 (view m)
          ∙ rw (e, high_left.1) (make_unary (get_or table a 0 - 1) a (negate (told m a)) (told m 0) (told m 0) (negated_tag t) (negated_unary t h negation_tag).0 (negated_unary t h negation_tag).1)
          ∙ sym high_is)

  pub left_none : 6 ≤ t → (t ≡ 10 → ⊥) → get_or table a 0 ≡ 0 → NumberOf m (negate (told m x)) None
  left_none h n z = ⊎_elim (λ k. high_none (omega arith) z) (λ k. mid_none_left h k z) (le_or_lt 10 t)

  -- a part's word stands in the table
  pub left_in : 6 ≤ t → a < length table
  left_in h = omega (arith, left_low h, p.1, p.0.wf.few, p.0.sized)

-- the loop of `negations`: the words below x are filled
pub table_next : {m table : List ℕ} {x r : ℕ} → Table m table x → x < count m → Noted m (negate (told m x)) r → Table m (set table x r) (x + 1)
table_next {m} {table} {x} {r} t l n = record {
  wf = t.wf;
  sized = length-set table x r ∙ t.sized;
  filled = below_more (λ k. Noted m (negate (told m k)) (get_or (set table x r) k 0)) x old new;
}
  where
    old : (k : ℕ) → k < x → Noted m (negate (told m k)) (get_or (set table x r) k 0)
    old k u = rw (get_or-set_other table x k r 0 (λ e. omega arith)) (t.filled k u)

    new : Noted m (negate (told m x)) (get_or (set table x r) x 0)
    new = rw (get_or-set_same table x r 0 (omega (arith, t.wf.few, t.sized))) n

-- how far the table is asked for
module _ {m : List ℕ} {x top : ℕ} (k : Above m x top) where
  module _ {a : ℕ} (f : Field m x 1 a) where
    pub above_raised : {t r : ℕ} → Wf m → x < count m → Field m x 0 t → t ≡ 10 → r ≡ max top (a + 1) → Above m (x + 1) r
    above_raised {t} {r} wf l g e h = record {
      low = omega (arith, k.low, f.value, part_left m x wf l (omega (arith, g.value)));
      above = below_more (λ y. at m y 0 ≡ 10 → at m y 1 < r) x (λ y b d. omega (arith, k.above y b d)) (λ d. omega (arith, f.value));
    }
