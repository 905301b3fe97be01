-- Steps of entering the formula that stands at a place: a leaf, a formula of one part, a formula of two. Assumes nothing.
use Rattle.std.specs.Prelude.{None, Option, Some}
use mathlib.Core.Path.{◌≡◌, sym, ap, ◌∙◌}
use mathlib.Core.Logic.{⊎_elim}
use mathlib.Core.List.{List}
use Prim.Native.Nat.{ℕ, suc, ◌+◌, ◌≤◌, ◌<◌, max}
use native.Mathlib.Omega.{arith}
use native.Mathlib.Nat.{lt_of_lt_of_le}
use lib.ListN.{length}
use Rattle.logic.specs.Formula.{Formula, One, height, size}
use Rattle.logic.specs.Held.{add, enter}
use Rattle.formula.specs.Signs.{Stands}
use Rattle.formula.specs.SignsLaws.{starts_inside}
use Rattle.logic.proofs.PartsLaws.{height_binary, height_unary}
use Rattle.held.specs.Signs.{node}
use Rattle.held.specs.SignsLaws.{node_make}
use Rattle.held.specs.EnterLaws.{enter_longer}
use Rattle.held.specs.Words.{view, told, Wf, Extends}
use Rattle.held.specs.WordsLaws.{extends_refl, extends_trans, keeps}
use Rattle.held.specs.Answers.{Next, Stored, NoRoom}
use Rattle.held.specs.Turn.{Entered, Over}
use Rattle.held.specs.WholeLaws.{Ahead, unit_ahead, name_ahead, pair_ahead, part_ahead, enter_leaf, enter_pair, enter_part, whole_entered, whole_over, part_over, second_over}
use Rattle.enter.specs.Standing.{PartAt, PairAt, SignOf, StoredAs, Enterable, EnteredFrom}
use Rattle.enter.specs.declared.Sign.{Sign}
use Rattle.enter.specs.declared.Sign.TheVariants as sign

-- the whole, where it may stand next
stored_whole : (m m₁ : List ℕ) (t a b : ℕ) (f : Formula) (i : ℕ) (m₂ : List ℕ) → Extends m m₁ → enter f (view m) ≡ add f (view m₁) → node t a b (view m₁) ≡ f → Stored m₁ (node t a b (view m₁)) i m₂ → Entered m f i m₂
stored_whole m m₁ t a b f i m₂ grew all here w = whole_entered m m₁ f grew all i m₂ (rw here at w)

full_whole : (m m₁ : List ℕ) (t a b : ℕ) (f : Formula) (m₂ : List ℕ) → Wf m₁ → Extends m m₁ → enter f (view m) ≡ add f (view m₁) → node t a b (view m₁) ≡ f → NoRoom m₁ (node t a b (view m₁)) m₂ → Over m f m₂
full_whole m m₁ t a b f m₂ z grew all here w = whole_over m m₁ f grew all m₂ z (rw here at w)

module _ (m s : List ℕ) (at : ℕ) (z : Enterable m s at) where
  pub inside : at < length s
  inside = starts_inside s at z.formula z.stands

  module _ (t n next : ℕ) (g : SignOf s at (sign.Leaf t n next)) where
    leaf_ahead : (f : Formula) → Stands s at f → Ahead m t n 0 f
    leaf_ahead f stands = let u = g f stands in ⊎_elim (λ k. unit_ahead m t n f z.wf k.0 k.1 u.made) (λ k. name_ahead m t n f z.wf k.0.0 k.0.1 k.1 u.made) u.kind

    leaf_all : (f : Formula) → Stands s at f → enter f (view m) ≡ add f (view m)
    leaf_all f stands = let u = g f stands in enter_leaf t n f (view m) (⊎_elim (λ k. omega (arith, k.0)) (λ k. k.0.1) u.kind) u.made

    pub leaf_next : Next m t n 0
    leaf_next = (leaf_ahead z.formula z.stands).next

    pub leaf_close : (r : Option (ℕ × ℕ)) (m' : List ℕ) → StoredAs m t n 0 next r m' → EnteredFrom m s at r m'
    leaf_close (Some (i, p)) m' x = λ f stands. (x.0 ∙ (g f stands).after, stored_whole m m t n 0 f i m' (extends_refl m) (leaf_all f stands) (leaf_ahead f stands).here x.1)
    leaf_close None m' x = λ f stands. full_whole m m t n 0 f m' z.wf (extends_refl m) (leaf_all f stands) (leaf_ahead f stands).here x

  module _ (t : ℕ) (g : SignOf s at (sign.One t)) where
    abbrev whole_part : PartAt s at t z.formula
    whole_part = g z.formula z.stands

    pub one_ready : Enterable m s (at + 1)
    one_ready =
        let u = whole_part in
        record {
          wf = z.wf;
          formula = u.part;
          stands = u.stands;
          tall = omega (arith, z.tall, ap height (sym (u.made 0 One)) ∙ height_unary 0 u.part One t u.low u.high);
          wide = omega (arith, z.wide, u.wide);
        }

    one_all : (f : Formula) (u : PartAt s at t f) → enter f (view m) ≡ add f (enter u.part (view m))
    one_all f u = enter_part t u.part f (view m) u.low u.high u.made

    pub one_full : (m₁ : List ℕ) → EnteredFrom m s (at + 1) None m₁ → EnteredFrom m s at None m₁
    one_full m₁ x = λ f stands. let u = g f stands in part_over m m₁ u.part f (enter u.part (view m)) (x u.part u.stands) (one_all f u) (omega arith)

    module _ (a next : ℕ) (m₁ : List ℕ) (x : EnteredFrom m s (at + 1) (Some (a, next)) m₁) where
      one_ahead : (f : Formula) → PartAt s at t f → height f ≤ 64 → size f < 65536 → Ahead m₁ t a 0 f
      one_ahead f u tall wide = let e = (x u.part u.stands).1 in part_ahead m₁ t a u.part f e.wf e.low e.here u.low u.high u.made tall wide

      pub one_next : Next m₁ t a 0
      one_next = (one_ahead z.formula whole_part z.tall z.wide).next

      one_node : (f : Formula) (u : PartAt s at t f) → node t a 0 (view m₁) ≡ f
      one_node f u = let e = (x u.part u.stands).1 in node_make t a 0 (view m₁) ∙ rw e.here (u.made a (told m₁ 0))

      one_whole : (f : Formula) (u : PartAt s at t f) → enter f (view m) ≡ add f (view m₁)
      one_whole f u = one_all f u ∙ ap (add f) (sym (x u.part u.stands).1.all)

      pub one_close : (r : Option (ℕ × ℕ)) (m₂ : List ℕ) → StoredAs m₁ t a 0 next r m₂ → EnteredFrom m s at r m₂
      one_close (Some (i, p)) m₂ y = λ f stands.
          let u = g f stands in
          let w = x u.part u.stands in
          (omega (arith, y.0, w.0, u.wide), stored_whole m m₁ t a 0 f i m₂ w.1.grew (one_whole f u) (one_node f u) y.1)
      one_close None m₂ y = λ f stands.
          let u = g f stands in
          let w = (x u.part u.stands).1 in
          full_whole m m₁ t a 0 f m₂ w.wf w.grew (one_whole f u) (one_node f u) y

  module _ (t : ℕ) (g : SignOf s at (sign.Two t)) where
    abbrev whole_pair : PairAt s at t z.formula
    whole_pair = g z.formula z.stands

    two_tall : height z.formula ≡ suc (max (height whole_pair.left) (height whole_pair.right))
    two_tall = let u = whole_pair in ap height (sym (u.made 0)) ∙ height_binary 0 u.left u.right t u.low u.high

    pub two_ready : Enterable m s (at + 1)
    two_ready = let u = whole_pair in record { wf = z.wf; formula = u.left; stands = u.first; tall = omega (arith, z.tall, two_tall); wide = omega (arith, z.wide, u.wide) }

    two_all : (f : Formula) (u : PairAt s at t f) → enter f (view m) ≡ add f (enter u.right (enter u.left (view m)))
    two_all f u = enter_pair t u.left u.right f (view m) u.low u.high u.made

    pub two_full : (m₁ : List ℕ) → EnteredFrom m s (at + 1) None m₁ → EnteredFrom m s at None m₁
    two_full m₁ x = λ f stands.
        let u = g f stands in
        let fs = enter u.left (view m) in
        part_over m m₁ u.left f (enter u.right fs) (x u.left u.first) (two_all f u) (enter_longer u.right fs fs (omega arith))

    module _ (a second : ℕ) (m₁ : List ℕ) (x : EnteredFrom m s (at + 1) (Some (a, second)) m₁) where
      -- where the second part stands
      two_second : (f : Formula) (u : PairAt s at t f) → Stands s second u.right
      two_second f u = rw (x u.left u.first).0 u.second

      pub two_ready_2 : Enterable m₁ s second
      two_ready_2 =
          let u = whole_pair in
          record {
            wf = (x u.left u.first).1.wf;
            formula = u.right;
            stands = two_second z.formula u;
            tall = omega (arith, z.tall, two_tall);
            wide = omega (arith, z.wide, u.wide);
          }

      pub two_further : (at < second) × (second < length s)
      two_further = let u = whole_pair in (omega (arith, (x u.left u.first).0), starts_inside s second u.right (two_second z.formula u))

      pub two_full_2 : (m₂ : List ℕ) → EnteredFrom m₁ s second None m₂ → EnteredFrom m s at None m₂
      two_full_2 m₂ y = λ f stands.
          let u = g f stands in
          second_over m m₁ m₂ u.left u.right f a (x u.left u.first).1 (y u.right (two_second f u)) (two_all f u)

      module _ (b next : ℕ) (m₂ : List ℕ) (y : EnteredFrom m₁ s second (Some (b, next)) m₂) where
        module _ (f : Formula) (u : PairAt s at t f) where
          first_entered : Entered m u.left a m₁
          first_entered = (x u.left u.first).1

          second_entered : Entered m₁ u.right b m₂
          second_entered = (y u.right (two_second f u)).1

          both_grew : Extends m m₂
          both_grew = extends_trans first_entered.grew second_entered.grew

          first_kept : told m₂ a ≡ u.left
          first_kept = keeps m₁ m₂ second_entered.grew a first_entered.low ∙ first_entered.here

          two_node : node t a b (view m₂) ≡ f
          two_node = node_make t a b (view m₂) ∙ rw (first_kept, second_entered.here) (u.made a)

          two_whole : enter f (view m) ≡ add f (view m₂)
          two_whole = two_all f u ∙ ap (add f) (sym (second_entered.all ∙ ap (enter u.right) first_entered.all))

          two_place : next ≡ at + size f
          two_place = omega (arith, (x u.left u.first).0, (y u.right (two_second f u)).0, u.wide)

        pub two_next : Next m₂ t a b
        two_next =
            let f = z.formula in
            let u = whole_pair in
            (pair_ahead m₂ t a b u.left u.right f (second_entered f u).wf (lt_of_lt_of_le (first_entered f u).low (second_entered f u).grew.more) (second_entered f u).low (first_kept f u) (second_entered f u).here u.low u.high u.made z.tall z.wide).next

        pub two_close : (r : Option (ℕ × ℕ)) (m₃ : List ℕ) → StoredAs m₂ t a b next r m₃ → EnteredFrom m s at r m₃
        two_close (Some (i, p)) m₃ w = λ f stands.
            let u = g f stands in
            (w.0 ∙ two_place f u, stored_whole m m₂ t a b f i m₃ (both_grew f u) (two_whole f u) (two_node f u) w.1)
        two_close None m₃ w = λ f stands.
            let u = g f stands in
            full_whole m m₂ t a b f m₃ (second_entered f u).wf (both_grew f u) (two_whole f u) (two_node f u) w

-- ---- the cases of an answer

module _ (s : List ℕ) (at : ℕ) (r : Sign) (y : SignOf s at r) where
  pub as_leaf : (t n next : ℕ) → r ≡ sign.Leaf t n next → SignOf s at (sign.Leaf t n next)
  as_leaf t n next e = rw e at y

  pub as_one : (t : ℕ) → r ≡ sign.One t → SignOf s at (sign.One t)
  as_one t e = rw e at y

  pub as_two : (t : ℕ) → r ≡ sign.Two t → SignOf s at (sign.Two t)
  as_two t e = rw e at y

module _ (m s : List ℕ) (at : ℕ) (r : Option (ℕ × ℕ)) (m' : List ℕ) (y : EnteredFrom m s at r m') where
  pub entered_at : (i p : ℕ) → r ≡ Some (i, p) → EnteredFrom m s at (Some (i, p)) m'
  entered_at i p e = rw e at y

  pub entered_full : r ≡ None → EnteredFrom m s at None m'
  entered_full e = rw e at y
