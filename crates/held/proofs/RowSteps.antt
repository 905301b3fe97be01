-- Steps of the proofs on rows: a told bool, a weighed row. Assumes nothing.
use Rattle.std.specs.Prelude.{None, Option, Some}
use mathlib.Core.Path.{◌≡◌, refl}
use mathlib.Core.Bool.{Bool, true, false}
use mathlib.Core.List.{List}
use Prim.Native.Nat.{ℕ, ◌+◌, ◌≤◌, ◌<◌, max}
use native.Mathlib.Omega.{arith}
use borrow.Author.Count.{below_more}
use borrow.Author.Tests.{eqb-true, eqb-false}
use lib.Dec.{eqb}
use Rattle.held.specs.Words.{at, Row, unit, name, two, one, RowAt, Rows}
use Rattle.held.specs.Answers.{Tells, Weighed}
use Rattle.held.specs.declared.rows.Weight.{Weight}
use Rattle.held.specs.contracts.rows.WeightPartialEq.TheImpl.{eq-value}
use Rattle.std.specs.Option.{option_eq}
use Rattle.std.specs.Prelude.{◌&&◌, MatchBool}
use Rattle.std.specs.List.{AllWithin, HoldsAt, range_with_len}
use Rattle.std.proofs.lemmas.List.FromFn.{length-range_with_len, get_or-range_with_len}
use lib.ListN.{get_or, length}

pub told : (r : Bool) (P : Type 0) → Tells r P → r ≡ true → P
told true P x e = x
told false P x e = let z : ◌≡◌ {A = ℕ} 0 1 = cc in absurd (omega arith)

pub untold : (r : Bool) (P : Type 0) → Tells r P → r ≡ false → P → ⊥
untold false P x e = x
untold true P x e = let z : ◌≡◌ {A = ℕ} 0 1 = cc in absurd (omega arith)

module _ {m : List ℕ} {n t a b h s : ℕ} where
  pub row_short : Row m n t a b h s → t < 6 → b ≡ 0
  row_short (unit l x y e f) p = y
  row_short (name k l x y e f) p = y
  row_short (two k l x y e f u v) p = omega arith
  row_short (one k l x y e f u v) p = omega arith

  pub row_single : Row m n t a b h s → 11 ≤ t → b ≡ 0
  row_single (unit l x y e f) p = y
  row_single (name k l x y e f) p = y
  row_single (two k l x y e f u v) p = omega arith
  row_single (one k l x y e f u v) p = y

  pub row_left : Row m n t a b h s → 6 ≤ t → a < n
  row_left (unit l x y e f) p = omega arith
  row_left (name k l x y e f) p = omega arith
  row_left (two k l x y e f u v) p = x
  row_left (one k l x y e f u v) p = x

  pub row_right : Row m n t a b h s → 6 ≤ t → t < 11 → b < n
  row_right (unit l x y e f) p q = omega arith
  row_right (name k l x y e f) p q = omega arith
  row_right (two k l x y e f u v) p q = y
  row_right (one k l x y e f u v) p q = omega arith

  pub row_tall : Row m n t a b h s → 6 ≤ t → t < 11 → 1 + max (at m a 3) (at m b 3) ≤ 64
  row_tall (unit l x y e f) p q = omega arith
  row_tall (name k l x y e f) p q = omega arith
  row_tall (two k l x y e f u v) p q = omega arith
  row_tall (one k l x y e f u v) p q = omega arith

  pub row_wide : Row m n t a b h s → 6 ≤ t → t < 11 → 1 + at m a 4 + at m b 4 < 65536
  row_wide (unit l x y e f) p q = omega arith
  row_wide (name k l x y e f) p q = omega arith
  row_wide (two k l x y e f u v) p q = omega arith
  row_wide (one k l x y e f u v) p q = omega arith

  pub row_tall_one : Row m n t a b h s → 11 ≤ t → 1 + at m a 3 ≤ 64
  row_tall_one (unit l x y e f) p = omega arith
  row_tall_one (name k l x y e f) p = omega arith
  row_tall_one (two k l x y e f u v) p = omega arith
  row_tall_one (one k l x y e f u v) p = omega arith

  pub row_wide_one : Row m n t a b h s → 11 ≤ t → 1 + at m a 4 < 65536
  row_wide_one (unit l x y e f) p = omega arith
  row_wide_one (name k l x y e f) p = omega arith
  row_wide_one (two k l x y e f u v) p = omega arith
  row_wide_one (one k l x y e f u v) p = omega arith

-- a row has one height and one size
pub row_once : {m : List ℕ} {n t a b h s h' s' : ℕ} → Row m n t a b h s → Row m n t a b h' s' → (h ≡ h') × (s ≡ s')
row_once (unit l1 x1 y1 e1 f1) (unit l2 x2 y2 e2 f2) = (omega arith, omega arith)
row_once (unit l1 x1 y1 e1 f1) (name k2 l2 x2 y2 e2 f2) = (omega arith, omega arith)
row_once (unit l1 x1 y1 e1 f1) (two k2 l2 x2 y2 e2 f2 u2 v2) = (omega arith, omega arith)
row_once (unit l1 x1 y1 e1 f1) (one k2 l2 x2 y2 e2 f2 u2 v2) = (omega arith, omega arith)
row_once (name k1 l1 x1 y1 e1 f1) (unit l2 x2 y2 e2 f2) = (omega arith, omega arith)
row_once (name k1 l1 x1 y1 e1 f1) (name k2 l2 x2 y2 e2 f2) = (omega arith, omega arith)
row_once (name k1 l1 x1 y1 e1 f1) (two k2 l2 x2 y2 e2 f2 u2 v2) = (omega arith, omega arith)
row_once (name k1 l1 x1 y1 e1 f1) (one k2 l2 x2 y2 e2 f2 u2 v2) = (omega arith, omega arith)
row_once (two k1 l1 x1 y1 e1 f1 u1 v1) (unit l2 x2 y2 e2 f2) = (omega arith, omega arith)
row_once (two k1 l1 x1 y1 e1 f1 u1 v1) (name k2 l2 x2 y2 e2 f2) = (omega arith, omega arith)
row_once (two k1 l1 x1 y1 e1 f1 u1 v1) (two k2 l2 x2 y2 e2 f2 u2 v2) = (omega arith, omega arith)
row_once (two k1 l1 x1 y1 e1 f1 u1 v1) (one k2 l2 x2 y2 e2 f2 u2 v2) = (omega arith, omega arith)
row_once (one k1 l1 x1 y1 e1 f1 u1 v1) (unit l2 x2 y2 e2 f2) = (omega arith, omega arith)
row_once (one k1 l1 x1 y1 e1 f1 u1 v1) (name k2 l2 x2 y2 e2 f2) = (omega arith, omega arith)
row_once (one k1 l1 x1 y1 e1 f1 u1 v1) (two k2 l2 x2 y2 e2 f2 u2 v2) = (omega arith, omega arith)
row_once (one k1 l1 x1 y1 e1 f1 u1 v1) (one k2 l2 x2 y2 e2 f2 u2 v2) = (omega arith, omega arith)

-- what is weighed, against a height and a size
pub weighed_told : (m : List ℕ) (n t a b h s : ℕ) (r : Option Weight) → Weighed m n t a b r → Tells (option_eq eq-value.it r (Some record { height = h; size = s })) (Row m n t a b h s)
weighed_told m n t a b h s None x = x h s
weighed_told m n t a b h s (Some w) x = go (eqb w.height h) (eqb w.size s) refl refl
  where
    go : (p q : Bool) → eqb w.height h ≡ p → eqb w.size s ≡ q → Tells (p && q) (Row m n t a b h s)
    go true true d e = rw (← eqb-true w.height h d, ← eqb-true w.size s e) x
    go true false d e = λ z. eqb-false w.size s e (row_once x z).1
    go false q d e = λ z. eqb-false w.height h d (row_once x z).0

pub row_told : (m : List ℕ) (i t a b h s : ℕ) (w : Option Weight) (r : Bool) → Weighed m i t a b w → r ≡ option_eq eq-value.it w (Some record { height = h; size = s }) → t ≡ at m i 0 → a ≡ at m i 1 → b ≡ at m i 2 → h ≡ at m i 3 → s ≡ at m i 4 → Tells r (RowAt m i)
row_told m i t a b h s w r x q e₀ e₁ e₂ e₃ e₄ = rw (q, ← e₀, ← e₁, ← e₂, ← e₃, ← e₄) (weighed_told m i t a b h s w x)

pub rows_none : (m : List ℕ) → Rows m 0
rows_none m = record { rows = λ i l. absurd (omega arith) }

pub rows_more : (m : List ℕ) (n : ℕ) → Rows m n → RowAt m n → Rows m (n + 1)
rows_more m n z x = record { rows = below_more (λ i. RowAt m i) n z.rows x }

-- a test of each number below n, as `all` makes it
pub each_told : (P : ℕ → Type 0) (n : ℕ) (r : Bool) → MatchBool r (AllWithin P (range_with_len 0 n) 0 (length (range_with_len 0 n))) ((k : ℕ) × (k < length (range_with_len 0 n)) × HoldsAt (λ i. P i → ⊥) (range_with_len 0 n) k) → Tells r ((i : ℕ) → i < n → P i)
each_told P n true h = λ i l. let e : get_or (range_with_len 0 n) i 0 ≡ i = omega (arith, get_or-range_with_len 0 n i 0 l) in rw e at (h i 0 (omega arith) (rw (length-range_with_len 0 n) l))
each_told P n false h =
    λ z.
    let l : h.0 < n = rw (length-range_with_len 0 n) at h.1 in
    let e : get_or (range_with_len 0 n) h.0 0 ≡ h.0 = omega (arith, get_or-range_with_len 0 n h.0 0 l) in
    let y : P h.0 → ⊥ = rw e at (h.2 0) in
    y (z h.0 l)

pub rows_told : (m : List ℕ) (n : ℕ) (r : Bool) → Tells r ((i : ℕ) → i < n → RowAt m i) → Tells r (Rows m n)
rows_told m n true h = record { rows = h }
rows_told m n false h = λ z. h z.rows
