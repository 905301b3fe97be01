-- Laws of the words: each formula is made of those before it; equal numbers are equal formulas; heights and sizes are the real ones; what is held stays held; the words are settled by
-- what they say. Assumes nothing.
use Rattle.std.specs.Prelude.{◌≡◌, refl, ◌↔◌, ◌⊎◌, Bool, true, false, List, [], ◌∷◌, ◌++◌, ℕ, zero, suc, ◌+◌, ◌*◌, ◌-◌, ◌/◌, ◌%◌, ◌≤◌, ◌<◌, get_or, length}
use Rattle.std.proofs.Common.{sym, ◌∙◌, ap, ⊎_elim, inl, inr, suc-le-suc, eq-or-lt_of_le, le_of_suc-le-suc, zero-lt-suc, add-one, arith, below_none, below_more, length-append, ext_get_or}
use Rattle.std.proofs.Math.ListN.{get_or-append}
use Rattle.std.proofs.lemmas.List.{get_or_at}
use Rattle.logic.specs.Formula.{Formula, One, height, size, same, among}
use Rattle.logic.proofs.FormulaLaws.{same_self, different_same}
use Rattle.logic.specs.Parts.{tag_of, name_of, left_part, right_part, make}
use Rattle.logic.proofs.PartsLaws.{tag_make, name_make, left_make, right_make}
use Rattle.held.specs.Signs.{node}
use Rattle.held.specs.SignsLaws.{
  node_make,
  height_low,
  height_mid,
  height_high,
  size_unit,
  size_name,
  size_mid,
  size_high,
  node_low,
  node_mid,
  node_high,
}
use Rattle.held.specs.OrderLaws.{le_or_lt, Rising, rises, rising_codes, settled}
use Rattle.held.specs.Words.{at, order_at, code, code_at, count, most, orders, words, held, view, told, Row, unit, name, two, one, RowAt, Rows, Ordered, Wf, Same, Agree, Extends}

pub node_ext : {m : List ℕ} {n t a b h s : ℕ} (fs gs : List Formula) → Row m n t a b h s → ((k : ℕ) → k < n → get_or fs k One ≡ get_or gs k One) → node t a b fs ≡ node t a b gs
node_ext {m} {n} {t} {a} {b} fs gs (unit l x y e f) g = node_low a b b fs gs t (omega arith)
node_ext {m} {n} {t} {a} {b} fs gs (name k l x y e f) g = node_low a b b fs gs t (omega arith)
node_ext {m} {n} {t} {a} {b} fs gs (two k l x y e f u v) g = node_mid a b fs gs t (g a x) (g b y)
node_ext {m} {n} {t} {a} {b} fs gs (one k l x y e f u v) g = node_high a b fs gs t k l (g a x)

-- the first n formulas
pub held_length : (m : List ℕ) (n : ℕ) → length (held m n) ≡ n
unfolding held
held_length m zero = refl
held_length m (suc n) = length-append (held m n) _ ∙ (ap (λ k. k + 1) (held_length m n) ∙ add-one n)

held_last : (m : List ℕ) (n i : ℕ) → i ≡ n → get_or (held m n ++ (node (at m n 0) (at m n 1) (at m n 2) (held m n) ∷ [])) i One ≡ node (at m i 0) (at m i 1) (at m i 2) (held m i)
held_last m n i e = rw e (get_or_at (held m n) _ [] One n (held_length m n))

held_before : (m : List ℕ) (n i : ℕ) (f : Formula) → i < n → get_or (held m n ++ (f ∷ [])) i One ≡ get_or (held m n) i One
held_before m n i f l = let h : i < length (held m n) = rw (held_length m n) l in get_or-append (held m n) _ One i h

pub held_at : (m : List ℕ) (n i : ℕ) → i < n → get_or (held m n) i One ≡ node (at m i 0) (at m i 1) (at m i 2) (held m i)
unfolding held
held_at m zero i l = absurd (omega arith)
held_at m (suc n) i l =
    ⊎_elim (λ e. held_last m n i e) (λ u. held_before m n i _ u ∙ held_at m n i u) (eq-or-lt_of_le (le_of_suc-le-suc l))

pub held_prefix : (m : List ℕ) (n i k : ℕ) → k < i → i ≤ n → get_or (held m i) k One ≡ get_or (held m n) k One
held_prefix m n i k l u = held_at m i k l ∙ sym (held_at m n k (omega arith))

-- formula i is made of formulas of the whole list
pub held_node : (m : List ℕ) (n : ℕ) → Rows m n → (i : ℕ) → i < n → get_or (held m n) i One ≡ node (at m i 0) (at m i 1) (at m i 2) (held m n)
held_node m n z i l = held_at m n i l ∙ node_ext (held m i) (held m n) (z.rows i l) (λ k u. held_prefix m n i k u (omega arith))

-- a row stands later too
pub row_later : {m : List ℕ} {n t a b h s : ℕ} (n' : ℕ) → n ≤ n' → Row m n t a b h s → Row m n' t a b h s
row_later n' p (unit l x y e f) = unit l x y e f
row_later n' p (name k l x y e f) = name k l x y e f
row_later n' p (two k l x y e f u v) = two k l (omega arith) (omega arith) e f u v
row_later n' p (one k l x y e f u v) = one k l (omega arith) y e f u v

pub row_low : {m : List ℕ} {n t a b h s : ℕ} → Row m n t a b h s → t < 13
row_low (unit l x y e f) = omega arith
row_low (name k l x y e f) = omega arith
row_low (two k l x y e f u v) = omega arith
row_low (one k l x y e f u v) = omega arith

pub tag_node : (t a b : ℕ) (fs : List Formula) → t < 13 → tag_of (node t a b fs) ≡ t
tag_node t a b fs l = ap tag_of (node_make t a b fs) ∙ tag_make a (get_or fs a One) (get_or fs b One) t l

-- the numbers of a row fit their words
pub row_left_fits : {m : List ℕ} {n t a b h s : ℕ} → Row m n t a b h s → n ≤ most → a < 65536
row_left_fits (unit l x y e f) p = omega arith
row_left_fits (name k l x y e f) p = x
row_left_fits (two k l x y e f u v) p = omega arith
row_left_fits (one k l x y e f u v) p = omega arith

pub row_right_fits : {m : List ℕ} {n t a b h s : ℕ} → Row m n t a b h s → n ≤ most → b < 65536
row_right_fits (unit l x y e f) p = omega arith
row_right_fits (name k l x y e f) p = omega arith
row_right_fits (two k l x y e f u v) p = omega arith
row_right_fits (one k l x y e f u v) p = omega arith

pub row_weight_fits : {m : List ℕ} {n t a b h s : ℕ} → Row m n t a b h s → (h ≤ 64) × (s < 65536)
row_weight_fits (unit l x y e f) = omega arith
row_weight_fits (name k l x y e f) = omega arith
row_weight_fits (two k l x y e f u v) = omega arith
row_weight_fits (one k l x y e f u v) = omega arith

-- a code has one tag, one left and one right
pub code_parts : (t a b t' a' b' : ℕ) → a < 65536 → b < 65536 → a' < 65536 → b' < 65536 → code t a b ≡ code t' a' b' → (t ≡ t') × ((a ≡ a') × (b ≡ b'))
code_parts t a b t' a' b' p q p' q' e = (omega arith, (omega arith, omega arith))

pub code_same : (m : List ℕ) (i t a b : ℕ) → Same m i t a b → code_at m i ≡ code t a b
code_same m i t a b w = omega (arith, w.tag, w.left, w.right)

-- the order words
pub ordered_rising : (m : List ℕ) (n : ℕ) → Ordered m n → Rising (code_at m) (order_at m) n
ordered_rising m n o =
    record {
      low = λ j l. (o.places j l).low;
      above = rises (λ j. code_at m (order_at m j)) n (λ k l. (o.places (k + 1) l).above k refl);
    }

pub rising_ordered : (m : List ℕ) (n : ℕ) → Rising (code_at m) (order_at m) n → Ordered m n
rising_ordered m n z = record { places = λ j l. record { low = z.low j l; above = λ k e. z.above k j (omega arith) l } }

-- the first n of a list are different formulas
pub record Different (fs : List Formula) (n : ℕ) : Type 0 where
  pub once : (i j : ℕ) → i < n → j < n → get_or fs i One ≡ get_or fs j One → i ≡ j

-- a formula is written in one way
pub node_once :
    {m m' : List ℕ} {n t a b h s t' a' b' h' s' : ℕ} (fs : List Formula) → Different fs n → Row m n t a b h s → Row m' n t' a' b' h' s' → node t a b fs ≡ node t' a' b' fs →
    (t ≡ t') × ((a ≡ a') × (b ≡ b'))
node_once {m} {m'} {n} {t} {a} {b} {h} {s} {t'} {a'} {b'} {h'} {s'} fs d r r' e = let q = sym (tag_node t a b fs (row_low r)) ∙ (ap tag_of e ∙ tag_node t' a' b' fs (row_low r')) in (q, parts r r' q)
  where
    made : make t a (get_or fs a One) (get_or fs b One) ≡ make t' a' (get_or fs a' One) (get_or fs b' One)
    made = sym (node_make t a b fs) ∙ e ∙ node_make t' a' b' fs

    parts : Row m n t a b h s → Row m' n t' a' b' h' s' → t ≡ t' → (a ≡ a') × (b ≡ b')
    parts (unit l₁ x₁ y₁ e₁ f₁) (unit l₂ x₂ y₂ e₂ f₂) q = (omega arith, omega arith)
    parts (unit l₁ x₁ y₁ e₁ f₁) (name k₂ l₂ x₂ y₂ e₂ f₂) q = absurd (omega arith)
    parts (unit l₁ x₁ y₁ e₁ f₁) (two k₂ l₂ x₂ y₂ e₂ f₂ u₂ v₂) q = absurd (omega arith)
    parts (unit l₁ x₁ y₁ e₁ f₁) (one k₂ l₂ x₂ y₂ e₂ f₂ u₂ v₂) q = absurd (omega arith)
    parts (name k₁ l₁ x₁ y₁ e₁ f₁) (unit l₂ x₂ y₂ e₂ f₂) q = absurd (omega arith)
    parts (name k₁ l₁ x₁ y₁ e₁ f₁) (name k₂ l₂ x₂ y₂ e₂ f₂) q = (sym (name_make a _ _ t k₁ l₁) ∙ ap name_of made ∙ name_make a' _ _ t' k₂ l₂, omega arith)
    parts (name k₁ l₁ x₁ y₁ e₁ f₁) (two k₂ l₂ x₂ y₂ e₂ f₂ u₂ v₂) q = absurd (omega arith)
    parts (name k₁ l₁ x₁ y₁ e₁ f₁) (one k₂ l₂ x₂ y₂ e₂ f₂ u₂ v₂) q = absurd (omega arith)
    parts (two k₁ l₁ x₁ y₁ e₁ f₁ u₁ v₁) (unit l₂ x₂ y₂ e₂ f₂) q = absurd (omega arith)
    parts (two k₁ l₁ x₁ y₁ e₁ f₁ u₁ v₁) (name k₂ l₂ x₂ y₂ e₂ f₂) q = absurd (omega arith)
    parts (two k₁ l₁ x₁ y₁ e₁ f₁ u₁ v₁) (two k₂ l₂ x₂ y₂ e₂ f₂ u₂ v₂) q = (
      d.once a a' x₁ x₂ (sym (left_make a _ _ t k₁ (omega arith)) ∙ ap left_part made ∙ left_make a' _ _ t' k₂ (omega arith)),
      d.once b b' y₁ y₂ (sym (right_make a _ _ t k₁ l₁) ∙ ap right_part made ∙ right_make a' _ _ t' k₂ l₂),
    )
    parts (two k₁ l₁ x₁ y₁ e₁ f₁ u₁ v₁) (one k₂ l₂ x₂ y₂ e₂ f₂ u₂ v₂) q = absurd (omega arith)
    parts (one k₁ l₁ x₁ y₁ e₁ f₁ u₁ v₁) (unit l₂ x₂ y₂ e₂ f₂) q = absurd (omega arith)
    parts (one k₁ l₁ x₁ y₁ e₁ f₁ u₁ v₁) (name k₂ l₂ x₂ y₂ e₂ f₂) q = absurd (omega arith)
    parts (one k₁ l₁ x₁ y₁ e₁ f₁ u₁ v₁) (two k₂ l₂ x₂ y₂ e₂ f₂ u₂ v₂) q = absurd (omega arith)
    parts (one k₁ l₁ x₁ y₁ e₁ f₁ u₁ v₁) (one k₂ l₂ x₂ y₂ e₂ f₂ u₂ v₂) q = (d.once a a' x₁ x₂ (sym (left_make a _ _ t (omega arith) l₁) ∙ ap left_part made ∙ left_make a' _ _ t' (omega arith) l₂), omega arith)

-- equal numbers, equal formulas
module _ (m : List ℕ) (n : ℕ) (few : n ≤ most) (z : Rows m n) (o : Ordered m n) where
  -- no formula is written twice
  pub written_once : (i j : ℕ) → i < n → j < n → Same m i (at m j 0) (at m j 1) (at m j 2) → i ≡ j
  written_once i j u v w = rising_codes (code_at m) (order_at m) n (ordered_rising m n o) i j u v (code_same m i (at m j 0) (at m j 1) (at m j 2) w)

  apart_step : (k : ℕ) → k < n → Different (held m n) k → (i : ℕ) → i < k → get_or (held m n) i One ≡ get_or (held m n) k One → ⊥
  apart_step k l d i u e =
      let e' = sym (held_node m n z i (omega arith)) ∙ (e ∙ held_node m n z k l) in
      let w = node_once (held m n) d (row_later k (omega arith) (z.rows i (omega arith))) (z.rows k l) e' in
      let q = written_once i k (omega arith) l (record { tag = w.0; left = w.1.0; right = w.1.1 }) in
      omega arith

  different_below : (k : ℕ) → k ≤ n → Different (held m n) k
  different_below zero l = record { once = λ i j u v e. absurd (omega arith) }
  different_below (suc k) l = let d = different_below k (omega arith) in record { once = λ i j u v e. step d i j e (eq-or-lt_of_le (le_of_suc-le-suc u)) (eq-or-lt_of_le (le_of_suc-le-suc v)) }
    where
      step : Different (held m n) k → (i j : ℕ) → get_or (held m n) i One ≡ get_or (held m n) j One → (i ≡ k) ⊎ (i < k) → (j ≡ k) ⊎ (j < k) → i ≡ j
      step d i j e (inl p) (inl q) = p ∙ sym q
      step d i j e (inl p) (inr q) = absurd (apart_step k l d j q (sym e ∙ ap (λ x. get_or (held m n) x One) p))
      step d i j e (inr p) (inl q) = absurd (apart_step k l d i p (e ∙ ap (λ x. get_or (held m n) x One) q))
      step d i j e (inr p) (inr q) = d.once i j p q e

  pub different : Different (held m n) n
  different = different_below n (omega arith)

-- the recorded heights and sizes are the real ones
module _ (m : List ℕ) (n : ℕ) (z : Rows m n) where
  weight_row : (fs : List Formula) (k t a b h s : ℕ) → Row m k t a b h s → ((i : ℕ) → i < k → (height (get_or fs i One) ≡ at m i 3) × (size (get_or fs i One) ≡ at m i 4)) → (height (node t a b fs) ≡ h) × (size (node t a b fs) ≡ s)
  weight_row fs k t a b h s (unit l x y e f) g = (height_low a b fs t (omega arith) ∙ sym e, size_unit a b fs t l ∙ sym f)
  weight_row fs k t a b h s (name k' l x y e f) g = (height_low a b fs t l ∙ sym e, size_name a b fs t k' l ∙ sym f)
  weight_row fs k t a b h s (two k' l x y e f u v) g =
      let p = g a x in
      let q = g b y in
      (omega (arith, height_mid a b fs t k' l), omega (arith, size_mid a b fs t k' l))
  weight_row fs k t a b h s (one k' l x y e f u v) g = let p = g a x in (omega (arith, height_high a b fs t k' l), omega (arith, size_high a b fs t k' l))

  weights_below : (k : ℕ) → k ≤ n → (i : ℕ) → i < k → (height (get_or (held m n) i One) ≡ at m i 3) × (size (get_or (held m n) i One) ≡ at m i 4)
  weights_below zero l = λ i u. absurd (omega arith)
  weights_below (suc k) l =
      let g = weights_below k (omega arith) in
      λ i u. ⊎_elim (λ e. rw e (rw (held_node m n z k l) (weight_row (held m n) k _ _ _ _ _ (z.rows k l) g))) (λ v. g i v) (eq-or-lt_of_le (le_of_suc-le-suc u))

  pub weights : (i : ℕ) → i < n → (height (get_or (held m n) i One) ≡ at m i 3) × (size (get_or (held m n) i One) ≡ at m i 4)
  weights = weights_below n (omega arith)

module _ (m : List ℕ) (n : ℕ) (few : n ≤ most) (z : Rows m n) (o : Ordered m n) where
  -- a formula that may stand next is held at i exactly where it is written at i
  pub written : {t a b : ℕ} (i : ℕ) → i < n → Same m i t a b → get_or (held m n) i One ≡ node t a b (held m n)
  written i l w = held_node m n z i l ∙ rw (w.tag, w.left, w.right)

  pub unwritten : {t a b h s : ℕ} → Row m n t a b h s → (i : ℕ) → i < n → get_or (held m n) i One ≡ node t a b (held m n) → Same m i t a b
  unwritten r i l e =
      let w = node_once (held m n) (different m n few z o) (row_later n (omega arith) (z.rows i l)) r (sym (held_node m n z i l) ∙ e) in
      record { tag = w.0; left = w.1.0; right = w.1.1 }

-- among a list
same_among : (f g : Formula) → f ≡ g → same f g ≡ true
same_among f g e = rw e (same_self g)

pub among_true : (f : Formula) (fs : List Formula) (i : ℕ) → i < length fs → get_or fs i One ≡ f → among f fs ≡ true
unfolding among
among_true f [] i l e = absurd (omega arith)
among_true f (g ∷ gs) zero l e = rw (same_among f g (sym e), among)
among_true f (g ∷ gs) (suc i) l e = go (same f g) (among_true f gs i (le_of_suc-le-suc l) e)
  where
    go : (b : Bool) → among f gs ≡ true → (elim b [ true ↦ true | false ↦ among f gs ]) ≡ true
    go true h = refl
    go false h = h

pub among_false : (f : Formula) (fs : List Formula) → ((i : ℕ) → i < length fs → get_or fs i One ≡ f → ⊥) → among f fs ≡ false
unfolding among
among_false f [] h = refl
among_false f (g ∷ gs) h = rw (different_same f g (λ e. h zero (zero-lt-suc _) (sym e)), among) (among_false f gs (λ i l e. h (suc i) (suc-le-suc l) e))

-- equal words, equal formulas
pub held_agree : (m m' : List ℕ) (n : ℕ) → ((i k : ℕ) → i < n → k < 5 → at m' i k ≡ at m i k) → held m' n ≡ held m n
unfolding held
held_agree m m' zero g = refl
held_agree m m' (suc n) g =
    let u : n < suc n = omega arith in
    rw (held_agree m m' n (λ i k l. g i k (omega arith)), g n 0 u (omega arith), g n 1 u (omega arith), g n 2 u (omega arith))

pub row_agree : {m : List ℕ} {n t a b h s : ℕ} (m' : List ℕ) → ((i k : ℕ) → i < n → k < 5 → at m' i k ≡ at m i k) → Row m n t a b h s → Row m' n t a b h s
row_agree m' g (unit l x y e f) = unit l x y e f
row_agree m' g (name k l x y e f) = name k l x y e f
row_agree {m} {n} {t} {a} {b} m' g (two k l x y e f u v) = two k l x y (rw (g a 3 x (omega arith), g b 3 y (omega arith)) e) (rw (g a 4 x (omega arith), g b 4 y (omega arith)) f) u v
row_agree {m} {n} {t} {a} {b} m' g (one k l x y e f u v) = one k l x y (rw (g a 3 x (omega arith)) e) (rw (g a 4 x (omega arith)) f) u v

pub agree_at : {m m' : List ℕ} {n : ℕ} → Agree m m' n → (i k : ℕ) → i < n → k < 5 → at m' i k ≡ at m i k
agree_at p i k l u = p.same (1 + 5 * i + k) (omega arith) (omega arith)

pub agree_code : {m m' : List ℕ} {n : ℕ} → Agree m m' n → (i : ℕ) → i < n → code_at m' i ≡ code_at m i
agree_code p i l = rw (agree_at p i 0 l (omega arith), agree_at p i 1 l (omega arith), agree_at p i 2 l (omega arith))

pub agree_rows : (m m' : List ℕ) (n : ℕ) → Agree m m' n → Rows m n → Rows m' n
agree_rows m m' n p z = record { rows = λ i l. row i l }
  where
    row : (i : ℕ) → i < n → RowAt m' i
    row i l = rw (agree_at p i 0 l (omega arith), agree_at p i 1 l (omega arith), agree_at p i 2 l (omega arith), agree_at p i 3 l (omega arith), agree_at p i 4 l (omega arith)) (row_agree m' (λ j k u v. agree_at p j k (omega arith) v) (z.rows i l))

pub agree_held : (m m' : List ℕ) (n : ℕ) → Agree m m' n → held m' n ≡ held m n
agree_held m m' n p = held_agree m m' n (λ j k u v. agree_at p j k u v)

pub agree_refl : (m : List ℕ) (n : ℕ) → Agree m m n
agree_refl m n = record { long = refl; same = λ k l u. refl }

pub agree_trans : {m m' m'' : List ℕ} {n : ℕ} → Agree m m' n → Agree m' m'' n → Agree m m'' n
agree_trans p q = record { long = q.long ∙ p.long; same = λ k l u. q.same k l u ∙ p.same k l u }

pub agree_less : {m m' : List ℕ} {n : ℕ} (n' : ℕ) → n' ≤ n → Agree m m' n → Agree m m' n'
agree_less n' l p = record { long = p.long; same = λ k u v. p.same k u (omega arith) }

pub extends_refl : (m : List ℕ) → Extends m m
extends_refl m = record { more = omega arith; agree = agree_refl m (count m) }

pub extends_trans : {m m' m'' : List ℕ} → Extends m m' → Extends m' m'' → Extends m m''
extends_trans p q = record { more = omega (arith, p.more, q.more); agree = agree_trans p.agree (agree_less _ p.more q.agree) }

-- numbers keep their meaning
pub keeps : (m m' : List ℕ) → Extends m m' → (i : ℕ) → i < count m → told m' i ≡ told m i
keeps m m' p i l = sym (held_prefix m' (count m') (count m) i l p.more) ∙ ap (λ fs. get_or fs i One) (agree_held m m' (count m) p.agree)

-- numbers are equal exactly where formulas are
pub number_once : (m : List ℕ) → Wf m → (i j : ℕ) → i < count m → j < count m → (told m i ≡ told m j) ↔ (i ≡ j)
number_once m z i j u v = ((different m (count m) z.few z.formulas z.order).once i j u v, λ e. ap (told m) e)

-- one state, one image: the words are settled by the formulas they say
pub five : (P : ℕ → Type 0) → P 0 → P 1 → P 2 → P 3 → P 4 → (k : ℕ) → k < 5 → P k
five P p₀ p₁ p₂ p₃ p₄ = below_more P 4 (below_more P 3 (below_more P 2 (below_more P 1 (below_more P 0 (below_none P) p₀) p₁) p₂) p₃) p₄

module _ (m m' : List ℕ) (z : Wf m) (z' : Wf m') (e : view m ≡ view m') where
  counts : count m ≡ count m'
  counts = sym (held_length m (count m)) ∙ (ap length e ∙ held_length m' (count m'))

  image_row : (i : ℕ) → i < count m → (k : ℕ) → k < 5 → at m i k ≡ at m' i k
  image_row i l =
      let l' : i < count m' = omega (arith, counts) in
      let here = ap (λ fs. get_or fs i One) e in
      let row' : Row m' (count m) (at m' i 0) (at m' i 1) (at m' i 2) (at m' i 3) (at m' i 4) = row_later (count m) (omega arith) (z'.formulas.rows i l') in
      let same = sym (held_node m (count m) z.formulas i l) ∙ (here ∙ (held_node m' (count m') z'.formulas i l' ∙ ap (λ fs. node (at m' i 0) (at m' i 1) (at m' i 2) fs) (sym e))) in
      let w = node_once (view m) (different m (count m) z.few z.formulas z.order) (row_later (count m) (omega arith) (z.formulas.rows i l)) row' same in
      let x = weights m (count m) z.formulas i l in
      let x' = weights m' (count m') z'.formulas i l' in
      five (λ k. at m i k ≡ at m' i k) w.0 w.1.0 w.1.1 (sym x.0 ∙ (ap height here ∙ x'.0)) (sym x.1 ∙ (ap size here ∙ x'.1))

  image_order : (j : ℕ) → j < count m → order_at m j ≡ order_at m' j
  image_order = settled (code_at m) (order_at m) (order_at m') (count m) (ordered_rising m (count m) z.order) (record { low = λ j l. below j l; above = λ i j l u. above i j l u })
    where
      other : Rising (code_at m') (order_at m') (count m)
      other = rw counts (ordered_rising m' (count m') z'.order)

      below : (j : ℕ) → j < count m → order_at m' j < count m
      below j l = other.low j l

      codes : (x : ℕ) → x < count m → code_at m x ≡ code_at m' x
      codes x l = rw (image_row x l 0 (omega arith), image_row x l 1 (omega arith), image_row x l 2 (omega arith))

      above : (i j : ℕ) → i < j → j < count m → code_at m (order_at m' i) < code_at m (order_at m' j)
      above i j l u = rw (codes (order_at m' i) (below i (omega arith)), codes (order_at m' j) (below j u)) (other.above i j l u)

  image_word : (k : ℕ) → k < words → get_or m k 0 ≡ get_or m' k 0
  image_word zero l = counts
  image_word (suc k) l = ⊎_elim (λ u. ⊎_elim (λ v. ⊎_elim unused (λ w. order v w) (le_or_lt (orders + count m) (suc k))) (λ v. far u v) (le_or_lt orders (suc k))) near (le_or_lt (1 + 5 * count m) (suc k))
    where
      near : suc k < 1 + 5 * count m → get_or m (suc k) 0 ≡ get_or m' (suc k) 0
      near u =
          let j : 1 + 5 * (k / 5) + k % 5 ≡ suc k = omega arith in
          rw (← j) (image_row (k / 5) (omega arith) (k % 5) (omega arith))

      far : 1 + 5 * count m ≤ suc k → suc k < orders → get_or m (suc k) 0 ≡ get_or m' (suc k) 0
      far u v = z.rest.zero (suc k) u v ∙ sym (z'.rest.zero (suc k) (omega (arith, counts)) v)

      order : orders ≤ suc k → suc k < orders + count m → get_or m (suc k) 0 ≡ get_or m' (suc k) 0
      order u v =
          let j : orders + (suc k - orders) ≡ suc k = omega arith in
          rw (← j) (image_order (suc k - orders) (omega arith))

      unused : orders + count m ≤ suc k → get_or m (suc k) 0 ≡ get_or m' (suc k) 0
      unused u = z.unused.zero (suc k) u l ∙ sym (z'.unused.zero (suc k) (omega (arith, counts)) l)

  pub image_once : m ≡ m'
  image_once = ext_get_or 0 m m' (z.sized ∙ sym z'.sized) (λ k l. image_word k (omega (arith, z.sized)))
