-- Laws of the formulas that words hold: each stands with its parts, they are few enough, and they stay where more is held. Assumes nothing.
use Rattle.std.specs.Prelude.{◌≡◌, Bool, true, false, List, [], ◌∷◌, ℕ, suc, ◌≤◌, ◌<◌, get_or, length}
use Rattle.std.proofs.Math.Path.{refl}
use Rattle.std.proofs.Common.{sym, ap, ◌∙◌, arith}
use Rattle.std.proofs.lemmas.Bool.{false≢true}
use borrow.Author.Tests.{le-ltb}
use Rattle.logic.specs.Formula.{Formula, One, same, among}
use Rattle.logic.proofs.FormulaLaws.{same_iff}
use Rattle.logic.specs.Parts.{left_part, right_part, signs, make}
use Rattle.logic.proofs.PartsLaws.{leaf_tags, unary_tags, left_make, right_make}
use Rattle.logic.specs.Limits.{at_most, exceeds}
use Rattle.held.specs.Words.{at, count, view, Row, unit, name, two, one, Wf, Extends}
use Rattle.held.specs.WordsLaws.{held_length, held_node, among_true, keeps}
use Rattle.held.specs.SignsLaws.{node_make}
use Rattle.memory.specs.MeaningLaws.{Numbered}
use Rattle.short.specs.Closed.{Stay, Closed}

-- a formula that is held has a number
held_numbered : (f : Formula) (fs : List Formula) → among f fs ≡ true → Numbered f fs
unfolding among
held_numbered f [] e = absurd (false≢true e)
held_numbered f (g ∷ fs) e = go (same f g) refl e (held_numbered f fs)
  where
    go : (b : Bool) → same f g ≡ b → elim b as (λ _. Bool) [ true ↦ true | false ↦ among f fs ] ≡ true → (among f fs ≡ true → Numbered f fs)
        → Numbered f (g ∷ fs)
    go true s e rest = record { number = 0; low = omega arith; here = sym ((same_iff f g).0 s) }
    go false s e rest = let r = rest e in record { number = suc r.number; low = omega (arith, r.low); here = r.here }

-- ---- a formula's parts, by its tag: one without parts counts as its own, and a single part as both

module _ (n : ℕ) (x y : Formula) where
  left_leaf : (t : ℕ) → t < 6 → left_part (make t n x y) ≡ make t n x y
  unfolding left_part make signs
  left_leaf = leaf_tags (λ t. left_part (make t n x y) ≡ make t n x y) refl refl refl refl refl refl

  right_leaf : (t : ℕ) → t < 6 → right_part (make t n x y) ≡ make t n x y
  unfolding right_part make signs
  right_leaf = leaf_tags (λ t. right_part (make t n x y) ≡ make t n x y) refl refl refl refl refl refl

  right_single : (t : ℕ) → 11 ≤ t → t < 13 → right_part (make t n x y) ≡ x
  unfolding right_part make signs
  right_single = unary_tags (λ t. right_part (make t n x y) ≡ x) refl refl

-- ---- a well-formed memory

module _ {m : List ℕ} (w : Wf m) where
  held_among : (i : ℕ) → i < count m → among (get_or (view m) i One) (view m) ≡ true
  held_among i l = among_true (get_or (view m) i One) (view m) i (omega (arith, held_length m (count m))) refl

  made_by : (i : ℕ) → i < count m → get_or (view m) i One ≡ make (at m i 0) (at m i 1) (get_or (view m) (at m i 1) One) (get_or (view m) (at m i 2) One)
  made_by i l = held_node m (count m) w.formulas i l ∙ node_make (at m i 0) (at m i 1) (at m i 2) (view m)

  left_held : (i : ℕ) → i < count m → among (left_part (get_or (view m) i One)) (view m) ≡ true
  left_held i l = go (w.formulas.rows i l)
    where
      itself : at m i 0 < 6 → among (left_part (get_or (view m) i One)) (view m) ≡ true
      itself h =
          let e : left_part (get_or (view m) i One) ≡ get_or (view m) i One = ap left_part (made_by i l) ∙ left_leaf _ _ _ (at m i 0) h ∙ sym (made_by i l) in
          ap (λ (f : Formula). among f (view m)) e ∙ held_among i l

      part : 6 ≤ at m i 0 → at m i 0 < 13 → at m i 1 < i → among (left_part (get_or (view m) i One)) (view m) ≡ true
      part h k u =
          let e : left_part (get_or (view m) i One) ≡ get_or (view m) (at m i 1) One = ap left_part (made_by i l) ∙ left_make _ _ _ (at m i 0) h k in
          ap (λ (f : Formula). among f (view m)) e ∙ held_among (at m i 1) (omega arith)

      go : Row m i (at m i 0) (at m i 1) (at m i 2) (at m i 3) (at m i 4) → among (left_part (get_or (view m) i One)) (view m) ≡ true
      go (unit t x y e f) = itself (omega arith)
      go (name k t x y e f) = itself t
      go (two k t x y e f u v) = part k (omega arith) x
      go (one k t x y e f u v) = part (omega arith) t x

  right_held : (i : ℕ) → i < count m → among (right_part (get_or (view m) i One)) (view m) ≡ true
  right_held i l = go (w.formulas.rows i l)
    where
      itself : at m i 0 < 6 → among (right_part (get_or (view m) i One)) (view m) ≡ true
      itself h =
          let e : right_part (get_or (view m) i One) ≡ get_or (view m) i One = ap right_part (made_by i l) ∙ right_leaf _ _ _ (at m i 0) h ∙ sym (made_by i l) in
          ap (λ (f : Formula). among f (view m)) e ∙ held_among i l

      part : (b : ℕ) → b < i → right_part (get_or (view m) i One) ≡ get_or (view m) b One → among (right_part (get_or (view m) i One)) (view m) ≡ true
      part b u e = ap (λ (f : Formula). among f (view m)) e ∙ held_among b (omega arith)

      go : Row m i (at m i 0) (at m i 1) (at m i 2) (at m i 3) (at m i 4) → among (right_part (get_or (view m) i One)) (view m) ≡ true
      go (unit t x y e f) = itself (omega arith)
      go (name k t x y e f) = itself t
      go (two k t x y e f u v) = part (at m i 2) y (ap right_part (made_by i l) ∙ right_make _ _ _ (at m i 0) k t)
      go (one k t x y e f u v) = part (at m i 1) x (ap right_part (made_by i l) ∙ right_single _ _ _ (at m i 0) k t)

  pub closed_view : Closed (view m)
  closed_view = record { left = λ f h. left_of f (held_numbered f (view m) h); right = λ f h. right_of f (held_numbered f (view m) h) }
    where
      left_of : (f : Formula) → Numbered f (view m) → among (left_part f) (view m) ≡ true
      left_of f n = ap (λ (g : Formula). among (left_part g) (view m)) (sym n.here) ∙ left_held n.number (omega (arith, n.low, held_length m (count m)))

      right_of : (f : Formula) → Numbered f (view m) → among (right_part f) (view m) ≡ true
      right_of f n = ap (λ (g : Formula). among (right_part g) (view m)) (sym n.here) ∙ right_held n.number (omega (arith, n.low, held_length m (count m)))

  pub held_few : length (view m) ≤ 2048
  held_few = omega (arith, w.few, held_length m (count m))

  pub held_fits : exceeds (at_most 2048) (length (view m)) ≡ false
  unfolding exceeds
  held_fits = le-ltb 2048 (length (view m)) held_few

-- what is held stays held
pub extends_stay : {m m' : List ℕ} → Extends m m' → Stay (view m) (view m')
extends_stay {m} {m'} grew = record { stays = λ f h. go f (held_numbered f (view m) h) }
  where
    go : (f : Formula) → Numbered f (view m) → among f (view m') ≡ true
    go f n =
        let low : n.number < count m = omega (arith, n.low, held_length m (count m)) in
        among_true f (view m') n.number (omega (arith, grew.more, held_length m' (count m'))) (keeps m m' grew n.number low ∙ n.here)
