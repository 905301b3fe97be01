-- Laws of entering a whole after its parts: where its parts are held it may stand next, and then it is entered with them or there is no room for them all. Assumes nothing.
use Rattle.std.specs.Prelude.{◌≡◌, refl, List, [], ◌∷◌, ℕ, ◌+◌, ◌≤◌, ◌<◌, max, length}
use Rattle.std.proofs.Common.{sym, ◌∙◌, ap, arith, lt_of_lt_of_le, length-append}
use Rattle.logic.specs.Formula.{Formula, One, height, size}
use Rattle.logic.specs.Parts.{make}
use Rattle.logic.specs.Held.{add, enter}
use Rattle.logic.proofs.PartsLaws.{height_binary, height_unary, size_binary, size_unary}
use Rattle.held.specs.Signs.{node}
use Rattle.held.specs.SignsLaws.{node_make, enter_low, enter_mid, enter_high}
use Rattle.held.specs.EnterLaws.{add_unknown, added_longer}
use Rattle.held.specs.Words.{at, count, most, view, told, unit, name, two, one, Wf, Extends}
use Rattle.held.specs.WordsLaws.{held_length, weights, extends_trans}
use Rattle.held.specs.Answers.{Next, Stored, NoRoom}
use Rattle.held.specs.Turn.{Entered, Over}

-- the formula may stand next, and is what the tag makes of its parts
pub record Ahead (m : List ℕ) (t a b : ℕ) (f : Formula) : Type 0 where
  pub next : Next m t a b
  pub here : node t a b (view m) ≡ f

pub unit_ahead : (m : List ℕ) (t n : ℕ) (f : Formula) → Wf m → t < 4 → n ≡ 0 → ((x y : Formula) → make t n x y ≡ f) → Ahead m t n 0 f
unit_ahead m t n f z l e made = record { next = record { wf = z; tall = 1; wide = 1; row = unit l e refl refl refl }; here = node_make t n 0 (view m) ∙ made (told m n) (told m 0) }

pub name_ahead : (m : List ℕ) (t n : ℕ) (f : Formula) → Wf m → 4 ≤ t → t < 6 → n < 65536 → ((x y : Formula) → make t n x y ≡ f) → Ahead m t n 0 f
name_ahead m t n f z k l u made = record { next = record { wf = z; tall = 1; wide = 3; row = name k l u refl refl refl }; here = node_make t n 0 (view m) ∙ made (told m n) (told m 0) }

module _ (m : List ℕ) (t i j : ℕ) (x y f : Formula) (z : Wf m) (u : i < count m) (v : j < count m) (ei : told m i ≡ x) (ej : told m j ≡ y) where
  pub pair_ahead : 6 ≤ t → t < 11 → ((n : ℕ) → make t n x y ≡ f) → height f ≤ 64 → size f < 65536 → Ahead m t i j f
  pair_ahead k l made tall wide =
      let here : node t i j (view m) ≡ f = node_make t i j (view m) ∙ (rw (ei, ej) (made i)) in
      let ws = weights m (count m) z.formulas in
      let ht : height f ≡ 1 + max (at m i 3) (at m j 3) = omega (arith, ap height (sym (made 0)) ∙ height_binary 0 x y t k l, ap height ei, ap height ej, (ws i u).0, (ws j v).0) in
      let st : size f ≡ 1 + at m i 4 + at m j 4 = omega (arith, ap size (sym (made 0)) ∙ size_binary 0 x y t k l, ap size ei, ap size ej, (ws i u).1, (ws j v).1) in
      record { next = record { wf = z; tall = height f; wide = size f; row = two k l u v ht st tall wide }; here = here }

module _ (m : List ℕ) (t i : ℕ) (x f : Formula) (z : Wf m) (u : i < count m) (ei : told m i ≡ x) where
  pub part_ahead : 11 ≤ t → t < 13 → ((n : ℕ) (y : Formula) → make t n x y ≡ f) → height f ≤ 64 → size f < 65536 → Ahead m t i 0 f
  part_ahead k l made tall wide =
      let here : node t i 0 (view m) ≡ f = node_make t i 0 (view m) ∙ (rw ei (made i (told m 0))) in
      let ws = weights m (count m) z.formulas in
      let ht : height f ≡ 1 + at m i 3 = omega (arith, ap height (sym (made 0 One)) ∙ height_unary 0 x One t k l, ap height ei, (ws i u).0) in
      let st : size f ≡ 1 + at m i 4 = omega (arith, ap size (sym (made 0 One)) ∙ size_unary 0 x One t k l, ap size ei, (ws i u).1) in
      record { next = record { wf = z; tall = height f; wide = size f; row = one k l u refl ht st tall wide }; here = here }

-- what is entered of a formula, by its parts
pub enter_leaf : (t n : ℕ) (f : Formula) (fs : List Formula) → t < 6 → ((x y : Formula) → make t n x y ≡ f) → enter f fs ≡ add f fs
enter_leaf t n f fs l made = rw (← made One One) (enter_low n One One fs t l)

pub enter_pair : (t : ℕ) (x y f : Formula) (fs : List Formula) → 6 ≤ t → t < 11 → ((n : ℕ) → make t n x y ≡ f) → enter f fs ≡ add f (enter y (enter x fs))
enter_pair t x y f fs k l made = rw (← made 0) (enter_mid 0 x y fs t k l)

pub enter_part : (t : ℕ) (x f : Formula) (fs : List Formula) → 11 ≤ t → t < 13 → ((n : ℕ) (y : Formula) → make t n x y ≡ f) → enter f fs ≡ add f (enter x fs)
enter_part t x f fs k l made = rw (← made 0 One) (enter_high 0 x One fs t k l)

-- the whole, where its parts are held
module _ (m m₁ : List ℕ) (f : Formula) (grew : Extends m m₁) (all : enter f (view m) ≡ add f (view m₁)) where
  pub whole_entered : (i : ℕ) (m₂ : List ℕ) → Stored m₁ f i m₂ → Entered m f i m₂
  whole_entered i m₂ w = record { wf = w.wf; grew = extends_trans grew w.grew; all = w.all ∙ sym all; low = w.low; here = w.here }

  pub whole_over : (m₂ : List ℕ) → Wf m₁ → NoRoom m₁ f m₂ → Over m f m₂
  whole_over m₂ z w =
      let long : length (enter f (view m)) ≡ length (view m₁) + 1 = ap length all ∙ (ap length (add_unknown f (view m₁) w.new) ∙ length-append (view m₁) (f ∷ [])) in
      record { wf = rw w.same z; grew = rw w.same grew; over = omega (arith, long, held_length m₁ (count m₁), w.full) }

-- a part for which there is no room
pub part_over : (m m₁ : List ℕ) (x f : Formula) (fs : List Formula) → Over m x m₁ → enter f (view m) ≡ add f fs → length (enter x (view m)) ≤ length fs → Over m f m₁
part_over m m₁ x f fs w all l =
    record { wf = w.wf; grew = w.grew; over = rw all (lt_of_lt_of_le w.over (added_longer f (enter x (view m)) fs l)) }

pub second_over : (m m₁ m₂ : List ℕ) (x y f : Formula) (i : ℕ) → Entered m x i m₁ → Over m₁ y m₂ → enter f (view m) ≡ add f (enter y (enter x (view m))) → Over m f m₂
second_over m m₁ m₂ x y f i e w all =
    let fs = enter y (enter x (view m)) in
    let l : most < length fs = rw e.all at w.over in
    record { wf = w.wf; grew = extends_trans e.grew w.grew; over = rw all (lt_of_lt_of_le l (added_longer f fs fs (omega arith))) }
