-- Steps of negating a held formula and of spelling out an implication. Assumes nothing.
use Rattle.std.specs.Prelude.{None, Option, Some}
use Rattle.std.specs.Option.{is_some}
use mathlib.Core.Path.{◌≡◌, refl, sym, ◌∙◌, ap}
use mathlib.Core.Logic.{⊎_elim, ◌⊎◌, inl, inr}
use mathlib.Core.Bool.{true, false}
use mathlib.Core.List.{List, [], ◌∷◌}
use Prim.Native.Nat.{ℕ, zero, suc, ◌+◌, ◌-◌, ◌≤◌, ◌<◌, max}
use native.Mathlib.Omega.{arith}
use native.Mathlib.Nat.{eq-or-lt_of_le, le_of_suc-le-suc, lt_of_lt_of_le}
use lib.ListN.{get_or, length, set, length-set, length-append, replicate, length-replicate, get_or-replicate, get_or-eq_default}
use lib.Seq.{get_or-set_same, get_or-set_other}
use Rattle.logic.specs.Formula.{Formula, One, negate, spell, height, size, among}
use Rattle.logic.specs.Parts.{make, negated_tag}
use Rattle.logic.proofs.FormulaLaws.{negate_height, negate_size, spell_height, spell_size}
use Rattle.logic.proofs.PartsLaws.{
  make_binary,
  make_unary,
  make_lolli,
  make_par,
  height_binary,
  height_unary,
  size_binary,
  size_unary,
  negate_leaf,
  negate_binary,
  negate_make_lolli,
  negate_unary,
  negated_unit,
  negated_name,
  negated_binary,
  negated_unary,
}
use Rattle.logic.specs.Held.{add, enter}
use Rattle.held.specs.Signs.{node}
use Rattle.held.specs.SignsLaws.{node_make, enter_low, enter_mid, enter_high}
use Rattle.held.specs.EnterLaws.{add_known, add_unknown, added_longer, enter_longer}
use Rattle.held.specs.OrderLaws.{le_or_lt, eq_or_not}
use Rattle.held.specs.Words.{at, count, most, view, told, Row, unit, name, two, one, Wf, Extends}
use Rattle.held.specs.Answers.{Next, Stored, NoRoom, AddedTo, TakenBack}
use Rattle.held.specs.Turn.{Memo, Turn, KnownAt, LeafAt, HalfAt, TwoAt, SingleAt, StepOf, Ready, Finished, Entered, Over, Turned, Refused, EnteredOr, Implication}
use Rattle.held.specs.WordsLaws.{held_node, held_length, weights, keeps, extends_refl, extends_trans, among_true, row_low, row_weight_fits}
use Rattle.held.specs.CutLaws.{cut_back}
use Rattle.held.proofs.RowSteps.{row_left, row_right}
use Rattle.held.specs.declared.turn.Step.{Step}
use Rattle.held.specs.declared.turn.Step.TheVariants as step

pub is_none : (r : Option ℕ) → is_some r ≡ false → r ≡ None
is_none (Some i) e = let z : ◌≡◌ {A = ℕ} 0 1 = cc in absurd (omega arith)
is_none None e = refl

-- formula x, with its row
pub record RowOf (m : List ℕ) (x t a b : ℕ) : Type 0 where
  pub wf : Wf m
  pub low : x < count m
  pub row : Row m x t a b (at m x 3) (at m x 4)
  pub here : told m x ≡ make t a (told m a) (told m b)

pub row_of : (m : List ℕ) (x t a b : ℕ) → Wf m → x < count m → t ≡ at m x 0 → a ≡ at m x 1 → b ≡ at m x 2 → RowOf m x t a b
row_of m x t a b z l p q r = record { wf = z; low = l; row = rw (p, q, r) (z.formulas.rows x l); here = rw (p, q, r) (held_node m (count m) z.formulas x l ∙ node_make _ _ _ _) }

-- the row of a leaf's negation
pub leaf_row : {m : List ℕ} {x t a b h s : ℕ} (n : ℕ) → Row m x t a b h s → t < 6 → Row m n (negated_tag t) a 0 h s
leaf_row {m} {x} {t} n (unit l x₁ y e f) p = unit (negated_unit t l) x₁ refl e f
leaf_row {m} {x} {t} n (name k l x₁ y e f) p = let d = negated_name t k l in name d.0 d.1 x₁ refl e f
leaf_row n (two k l x y e f u v) p = absurd (omega arith)
leaf_row n (one k l x y e f u v) p = absurd (omega arith)

dual_low : {m : List ℕ} {x t a b h s : ℕ} → Row m x t a b h s → t < 6 → negated_tag t < 6
dual_low {m} {x} {t} (unit l x₁ y e f) p = let d = negated_unit t l in omega arith
dual_low {m} {x} {t} (name k l x₁ y e f) p = (negated_name t k l).1
dual_low (two k l x y e f u v) p = absurd (omega arith)
dual_low (one k l x y e f u v) p = absurd (omega arith)

pub step_known : (m memo : List ℕ) (x v : ℕ) → Turn m memo x → v ≡ get_or memo x 0 → (v ≡ 0 → ⊥) → KnownAt m x (v - 1)
step_known m memo x zero z e f = absurd (f refl)
step_known m memo x (suc v) z e f = let k = z.notes.known x v (sym e ∙ omega arith) in let q : suc v - 1 ≡ v = omega arith in record { low = rw q k.1.0; here = rw q k.1.1 }

pub step_leaf : (m : List ℕ) (x t a b d : ℕ) → RowOf m x t a b → t < 6 → d ≡ negated_tag t → LeafAt m x d a
step_leaf m x t a b d z p e =
    let q : negate (told m x) ≡ make d a (told m a) (told m 0) = rw (z.here, e) (negate_leaf a (told m a) (told m b) (told m a) (told m 0) t p) in
    record {
      next = record { wf = z.wf; tall = at m x 3; wide = at m x 4; row = rw e (leaf_row (count m) z.row p) };
      here = node_make d a 0 (view m) ∙ sym q;
      alone = rw q (enter_low a (told m a) (told m 0) (view m) d (rw e (dual_low z.row p)));
    }

pub step_two : (m : List ℕ) (x t a b d : ℕ) → RowOf m x t a b → 6 ≤ t → t < 10 → d ≡ negated_tag t → TwoAt m x d a b
step_two m x t a b d z k l e =
    let w = negated_binary t k (omega arith) in
    record { left = row_left z.row k; right = row_right z.row k (omega arith); low = rw e w.0; high = rw e w.1; here = rw (z.here, e) (negate_binary a (told m a) (told m b) 0 t k l) }

pub step_half : (m : List ℕ) (x t a b : ℕ) → RowOf m x t a b → t ≡ 10 → HalfAt m x a b
step_half m x t a b z e =
    record { left = row_left z.row (omega arith); right = row_right z.row (omega arith) (omega arith); here = rw (z.here, e) (negate_make_lolli a (told m a) (told m b) 0) }

pub step_single : (m : List ℕ) (x t a b d : ℕ) → RowOf m x t a b → 10 ≤ t → (t ≡ 10 → ⊥) → d ≡ negated_tag t → SingleAt m x d a
step_single m x t a b d z k f e =
    let k' : 11 ≤ t = omega arith in
    let l = row_low z.row in
    let w = negated_unary t k' l in
    record { left = row_left z.row (omega arith); low = rw e w.0; high = rw e w.1; here = rw (z.here, e) (negate_unary a (told m a) (told m b) 0 One t k' l) }

-- the memo under growth, and with one more number
pub memo_grows : (m m' memo : List ℕ) → Extends m m' → Memo m memo → Memo m' memo
memo_grows m m' memo p z =
    record { sized = z.sized; known = λ k v e. let w = z.known k v e in (omega (arith, p.more, w.0), (omega (arith, p.more, w.1.0), keeps m m' p v w.1.0 ∙ (w.1.1 ∙ ap negate (sym (keeps m m' p k w.0))))) }

pub memo_more : (m memo : List ℕ) (x i : ℕ) → Memo m memo → x < count m → x < most → i < count m → told m i ≡ negate (told m x) → Memo m (set memo x (i + 1))
memo_more m memo x i z l l' u h = record { sized = length-set memo x (i + 1) ∙ z.sized; known = λ k v e. go k v e (eq_or_not k x) }
  where
    go : (k v : ℕ) → get_or (set memo x (i + 1)) k 0 ≡ v + 1 → (k ≡ x) ⊎ (k ≡ x → ⊥) → (k < count m) × ((v < count m) × (told m v ≡ negate (told m k)))
    go k v e (inl q) =
        let e' : i + 1 ≡ v + 1 = sym (get_or-set_same memo x (i + 1) 0 (omega (arith, z.sized))) ∙ (ap (λ j. get_or (set memo x (i + 1)) j 0) (sym q) ∙ e) in
        let w : v ≡ i = omega arith in
        rw (w, q) (l, (u, h))
    go k v e (inr f) = z.known k v (sym (get_or-set_other memo x k (i + 1) 0 f) ∙ e)

pub finish_at : (m memo : List ℕ) (x t a b : ℕ) (r : Option ℕ) (i : ℕ) (m' : List ℕ) → Ready m memo x t a b → AddedTo m (node t a b (view m)) r m' → r ≡ Some i → Stored m (negate (told m x)) i m' × Memo m' (set memo x (i + 1))
finish_at m memo x t a b r i m' z y e =
    let w : Stored m (negate (told m x)) i m' = rw (e, z.here) at y in
    let l = z.turn.low in
    (w, memo_more m' memo x i (memo_grows m m' memo w.grew z.turn.notes) (lt_of_lt_of_le l w.grew.more) (lt_of_lt_of_le l z.turn.wf.few) w.low (w.here ∙ ap negate (sym (keeps m m' w.grew x l))))

-- what is held is entered already
added_held : (m : List ℕ) (i : ℕ) → i < count m → add (told m i) (view m) ≡ view m
added_held m i l = add_known (told m i) (view m) (among_true (told m i) (view m) i (rw (held_length m (count m)) l) refl)

held_row : (m : List ℕ) (x t a b h s : ℕ) → Row m x t a b h s → told m x ≡ make t a (told m a) (told m b) → x < count m → ((i : ℕ) → i < x → enter (told m i) (view m) ≡ view m) → enter (told m x) (view m) ≡ view m
held_row m x t a b h s (unit l p q e f) w u g = ap (λ y. enter y (view m)) w ∙ (enter_low a (told m a) (told m b) (view m) t (omega arith) ∙ (ap (λ y. add y (view m)) (sym w) ∙ added_held m x u))
held_row m x t a b h s (name k l p q e f) w u g = ap (λ y. enter y (view m)) w ∙ (enter_low a (told m a) (told m b) (view m) t l ∙ (ap (λ y. add y (view m)) (sym w) ∙ added_held m x u))
held_row m x t a b h s (two k l p q e f i j) w u g =
    ap (λ y. enter y (view m)) w ∙ (enter_mid a (told m a) (told m b) (view m) t k l ∙ (ap (λ y. add (make t a (told m a) (told m b)) (enter (told m b) y)) (g a p) ∙ (ap (λ y. add (make t a (told m a) (told m b)) y) (g b q) ∙ (ap (λ y. add y (view m)) (sym w) ∙ added_held m x u))))
held_row m x t a b h s (one k l p q e f i j) w u g =
    ap (λ y. enter y (view m)) w ∙ (enter_high a (told m a) (told m b) (view m) t k l ∙ (ap (λ y. add (make t a (told m a) (told m b)) y) (g a p) ∙ (ap (λ y. add y (view m)) (sym w) ∙ added_held m x u)))

held_below : (m : List ℕ) → Wf m → (k : ℕ) → k ≤ count m → (i : ℕ) → i < k → enter (told m i) (view m) ≡ view m
held_below m z zero l = λ i u. absurd (omega arith)
held_below m z (suc k) l =
    let g = held_below m z k (omega arith) in
    let w = row_of m k _ _ _ z l refl refl refl in
    λ i u. ⊎_elim (λ e. rw e (held_row m k _ _ _ _ _ w.row w.here l g)) (λ v. g i v) (eq-or-lt_of_le (le_of_suc-le-suc u))

pub enter_held : (m : List ℕ) → Wf m → (i : ℕ) → i < count m → enter (told m i) (view m) ≡ view m
enter_held m z i l = held_below m z (count m) (omega arith) i l

pub turned_known : (m memo : List ℕ) (x i : ℕ) → Turn m memo x → KnownAt m x i → Entered m (negate (told m x)) i m × Memo m memo
turned_known m memo x i z k =
    (record { wf = z.wf; grew = extends_refl m; all = sym (enter_held m z.wf i k.low) ∙ ap (λ f. enter f (view m)) k.here; low = k.low; here = k.here }, z.notes)

small_neg : (m : List ℕ) → Wf m → (x : ℕ) → x < count m → (height (negate (told m x)) ≤ 64) × (size (negate (told m x)) < 65536)
small_neg m z x l =
    let w = weights m (count m) z.formulas x l in
    let r = row_weight_fits (z.formulas.rows x l) in
    (rw (negate_height (told m x), w.0) r.0, rw (negate_size (told m x), w.1) r.1)

-- ready to enter the whole
pub ready_pair : (m m' memo : List ℕ) (x t a b : ℕ) (f g : Formula) → Wf m → x < count m → Extends m m' → Wf m' → Memo m' memo → a < count m' → b < count m' → told m' a ≡ f → told m' b ≡ g → 6 ≤ t → t < 11 → negate (told m x) ≡ make t 0 f g → Ready m' memo x t a b
ready_pair m m' memo x t a b f g z l p z' n u v ea eb k j h =
    let eq : node t a b (view m') ≡ negate (told m x) = node_make t a b (view m') ∙ (ap (λ y. make t a y (told m' b)) ea ∙ (ap (λ y. make t a f y) eb ∙ (make_binary a 0 f g t k j ∙ sym h))) in
    let s = small_neg m z x l in
    let ws = weights m' (count m') z'.formulas in
    let ht : height (negate (told m x)) ≡ 1 + max (at m' a 3) (at m' b 3) = omega (arith, sym (ap height eq) ∙ (ap height (node_make t a b (view m')) ∙ height_binary a (told m' a) (told m' b) t k j), (ws a u).0, (ws b v).0) in
    let st : size (negate (told m x)) ≡ 1 + at m' a 4 + at m' b 4 = omega (arith, sym (ap size eq) ∙ (ap size (node_make t a b (view m')) ∙ size_binary a (told m' a) (told m' b) t k j), (ws a u).1, (ws b v).1) in
    record {
      turn = record { wf = z'; low = lt_of_lt_of_le l p.more; notes = n };
      next = record { wf = z'; tall = height (negate (told m x)); wide = size (negate (told m x)); row = two k j u v ht st s.0 s.1 };
      here = eq ∙ ap negate (sym (keeps m m' p x l));
    }

pub ready_single : (m m' memo : List ℕ) (x t a : ℕ) (f : Formula) → Wf m → x < count m → Extends m m' → Wf m' → Memo m' memo → a < count m' → told m' a ≡ f → 11 ≤ t → t < 13 → negate (told m x) ≡ make t 0 f One → Ready m' memo x t a 0
ready_single m m' memo x t a f z l p z' n u ea k j h =
    let eq : node t a 0 (view m') ≡ negate (told m x) = node_make t a 0 (view m') ∙ (ap (λ y. make t a y (told m' 0)) ea ∙ (make_unary a 0 f (told m' 0) One t k j ∙ sym h)) in
    let s = small_neg m z x l in
    let ws = weights m' (count m') z'.formulas in
    let ht : height (negate (told m x)) ≡ 1 + at m' a 3 = omega (arith, sym (ap height eq) ∙ (ap height (node_make t a 0 (view m')) ∙ height_unary a (told m' a) (told m' 0) t k j), (ws a u).0) in
    let st : size (negate (told m x)) ≡ 1 + at m' a 4 = omega (arith, sym (ap size eq) ∙ (ap size (node_make t a 0 (view m')) ∙ size_unary a (told m' a) (told m' 0) t k j), (ws a u).1) in
    record {
      turn = record { wf = z'; low = lt_of_lt_of_le l p.more; notes = n };
      next = record { wf = z'; tall = height (negate (told m x)); wide = size (negate (told m x)); row = one k j u refl ht st s.0 s.1 };
      here = eq ∙ ap negate (sym (keeps m m' p x l));
    }

-- the whole entered
pub closing : (m : List ℕ) (x : ℕ) (m' : List ℕ) (r : Option ℕ) (m'' memo : List ℕ) → x < count m → Extends m m' → Wf m' → enter (negate (told m x)) (view m) ≡ add (negate (told m x)) (view m') → Finished m' x r m'' memo → Turned m (negate (told m x)) r m'' memo
closing m x m' (Some i) m'' memo l p z' g y =
    let w = y.0 in
    let q = ap negate (keeps m m' p x l) in
    (record { wf = w.wf; grew = extends_trans p w.grew; all = w.all ∙ (ap (λ f. add f (view m')) q ∙ sym g); low = w.low; here = w.here ∙ q }, y.1)
closing m x m' None m'' memo l p z' g y =
    let q = ap negate (keeps m m' p x l) in
    let new : among (negate (told m x)) (view m') ≡ false = ap (λ f. among f (view m')) (sym q) ∙ y.new in
    let long : length (enter (negate (told m x)) (view m)) ≡ length (view m') + 1 = ap length g ∙ (ap length (add_unknown (negate (told m x)) (view m') new) ∙ length-append (view m') (negate (told m x) ∷ [])) in
    record { wf = rw y.same z'; grew = rw y.same p; over = omega (arith, long, held_length m' (count m'), y.full) }

-- the ways of the recursion
entered_mid : (m : List ℕ) (x t : ℕ) (f g : Formula) → 6 ≤ t → t < 11 → negate (told m x) ≡ make t 0 f g → enter (negate (told m x)) (view m) ≡ add (negate (told m x)) (enter g (enter f (view m)))
entered_mid m x t f g k l h = rw h (enter_mid 0 f g (view m) t k l)

entered_high : (m : List ℕ) (x t : ℕ) (f : Formula) → 11 ≤ t → t < 13 → negate (told m x) ≡ make t 0 f One → enter (negate (told m x)) (view m) ≡ add (negate (told m x)) (enter f (view m))
entered_high m x t f k l h = rw h (enter_high 0 f One (view m) t k l)

pub over_by : (m : List ℕ) (x : ℕ) (m' : List ℕ) (gs : List Formula) → Wf m' → Extends m m' → most < length gs → enter (negate (told m x)) (view m) ≡ add (negate (told m x)) gs → Over m (negate (told m x)) m'
over_by m x m' gs z p l g =
    let u = added_longer (negate (told m x)) gs gs (omega arith) in
    record { wf = z; grew = p; over = rw g (lt_of_lt_of_le l u) }

module _ (m memo : List ℕ) (x t a b : ℕ) (z : Turn m memo x) (w : TwoAt m x t a b) where
  pub two_over : (m₁ : List ℕ) → Over m (negate (told m a)) m₁ → Over m (negate (told m x)) m₁
  two_over m₁ y = over_by m x m₁ _ y.wf y.grew (lt_of_lt_of_le y.over (enter_longer (negate (told m b)) (enter (negate (told m a)) (view m)) (enter (negate (told m a)) (view m)) (omega arith))) (entered_mid m x t _ _ w.low w.high w.here)

  two_same : (m₁ memo₁ : List ℕ) (i : ℕ) → Entered m (negate (told m a)) i m₁ × Memo m₁ memo₁ → told m₁ b ≡ told m b
  two_same m₁ memo₁ i y = keeps m m₁ y.0.grew b (omega (arith, z.low, w.right))

  pub two_over_2 : (m₁ memo₁ : List ℕ) (i : ℕ) (m₂ : List ℕ) → Entered m (negate (told m a)) i m₁ × Memo m₁ memo₁ → Over m₁ (negate (told m₁ b)) m₂ → Over m (negate (told m x)) m₂
  two_over_2 m₁ memo₁ i m₂ y v =
      let e = ap negate (two_same m₁ memo₁ i y) in
      over_by m x m₂ (enter (negate (told m b)) (enter (negate (told m a)) (view m))) v.wf (extends_trans y.0.grew v.grew) (rw (← y.0.all, ← e) v.over) (entered_mid m x t _ _ w.low w.high w.here)

  pub two_ready : (m₁ memo₁ : List ℕ) (i : ℕ) (m₂ memo₂ : List ℕ) (j : ℕ) → Entered m (negate (told m a)) i m₁ × Memo m₁ memo₁ → Entered m₁ (negate (told m₁ b)) j m₂ × Memo m₂ memo₂ → Ready m₂ memo₂ x t i j
  two_ready m₁ memo₁ i m₂ memo₂ j y v =
      ready_pair m m₂ memo₂ x t i j (negate (told m a)) (negate (told m b)) z.wf z.low (extends_trans y.0.grew v.0.grew) v.0.wf v.1 (lt_of_lt_of_le y.0.low v.0.grew.more) v.0.low (keeps m₁ m₂ v.0.grew i y.0.low ∙ y.0.here) (v.0.here ∙ ap negate (two_same m₁ memo₁ i y)) w.low w.high w.here

  pub two_close : (m₁ memo₁ : List ℕ) (i : ℕ) (m₂ memo₂ : List ℕ) (j : ℕ) (r : Option ℕ) (m₃ memo₃ : List ℕ) → Entered m (negate (told m a)) i m₁ × Memo m₁ memo₁ → Entered m₁ (negate (told m₁ b)) j m₂ × Memo m₂ memo₂ → Finished m₂ x r m₃ memo₃ → Turned m (negate (told m x)) r m₃ memo₃
  two_close m₁ memo₁ i m₂ memo₂ j r m₃ memo₃ y v u =
      let e = ap negate (two_same m₁ memo₁ i y) in
      let all : view m₂ ≡ enter (negate (told m b)) (enter (negate (told m a)) (view m)) = v.0.all ∙ (ap (λ f. enter f (view m₁)) e ∙ ap (λ fs. enter (negate (told m b)) fs) y.0.all) in
      closing m x m₂ r m₃ memo₃ z.low (extends_trans y.0.grew v.0.grew) v.0.wf (entered_mid m x t _ _ w.low w.high w.here ∙ ap (λ fs. add (negate (told m x)) fs) (sym all)) u

module _ (m memo : List ℕ) (x a b : ℕ) (z : Turn m memo x) (w : HalfAt m x a b) where
  half_all : enter (negate (told m x)) (view m) ≡ add (negate (told m x)) (enter (negate (told m b)) (view m))
  half_all = entered_mid m x 6 (told m a) (negate (told m b)) (omega arith) (omega arith) w.here ∙ ap (λ fs. add (negate (told m x)) (enter (negate (told m b)) fs)) (enter_held m z.wf a (omega (arith, z.low, w.left)))

  pub half_over : (m₁ : List ℕ) → Over m (negate (told m b)) m₁ → Over m (negate (told m x)) m₁
  half_over m₁ y = over_by m x m₁ _ y.wf y.grew y.over half_all

  pub half_ready : (m₁ memo₁ : List ℕ) (j : ℕ) → Entered m (negate (told m b)) j m₁ × Memo m₁ memo₁ → Ready m₁ memo₁ x 6 a j
  half_ready m₁ memo₁ j y =
      let l : a < count m = omega (arith, z.low, w.left) in
      ready_pair m m₁ memo₁ x 6 a j (told m a) (negate (told m b)) z.wf z.low y.0.grew y.0.wf y.1 (lt_of_lt_of_le l y.0.grew.more) y.0.low (keeps m m₁ y.0.grew a l) y.0.here (omega arith) (omega arith) w.here

  pub half_close : (m₁ memo₁ : List ℕ) (j : ℕ) (r : Option ℕ) (m₂ memo₂ : List ℕ) → Entered m (negate (told m b)) j m₁ × Memo m₁ memo₁ → Finished m₁ x r m₂ memo₂ → Turned m (negate (told m x)) r m₂ memo₂
  half_close m₁ memo₁ j r m₂ memo₂ y u = closing m x m₁ r m₂ memo₂ z.low y.0.grew y.0.wf (half_all ∙ ap (λ fs. add (negate (told m x)) fs) (sym y.0.all)) u

module _ (m memo : List ℕ) (x t a : ℕ) (z : Turn m memo x) (w : SingleAt m x t a) where
  single_all : enter (negate (told m x)) (view m) ≡ add (negate (told m x)) (enter (negate (told m a)) (view m))
  single_all = entered_high m x t (negate (told m a)) w.low w.high w.here

  pub single_over : (m₁ : List ℕ) → Over m (negate (told m a)) m₁ → Over m (negate (told m x)) m₁
  single_over m₁ y = over_by m x m₁ _ y.wf y.grew y.over single_all

  pub single_ready : (m₁ memo₁ : List ℕ) (j : ℕ) → Entered m (negate (told m a)) j m₁ × Memo m₁ memo₁ → Ready m₁ memo₁ x t j 0
  single_ready m₁ memo₁ j y = ready_single m m₁ memo₁ x t j (negate (told m a)) z.wf z.low y.0.grew y.0.wf y.1 y.0.low y.0.here w.low w.high w.here

  pub single_close : (m₁ memo₁ : List ℕ) (j : ℕ) (r : Option ℕ) (m₂ memo₂ : List ℕ) → Entered m (negate (told m a)) j m₁ × Memo m₁ memo₁ → Finished m₁ x r m₂ memo₂ → Turned m (negate (told m x)) r m₂ memo₂
  single_close m₁ memo₁ j r m₂ memo₂ y u = closing m x m₁ r m₂ memo₂ z.low y.0.grew y.0.wf (single_all ∙ ap (λ fs. add (negate (told m x)) fs) (sym y.0.all)) u

pub leaf_close : (m memo : List ℕ) (x t a : ℕ) (r : Option ℕ) (m₂ memo₂ : List ℕ) → Turn m memo x → LeafAt m x t a → Finished m x r m₂ memo₂ → Turned m (negate (told m x)) r m₂ memo₂
leaf_close m memo x t a r m₂ memo₂ z w u = closing m x m r m₂ memo₂ z.low (extends_refl m) z.wf w.alone u

-- the cases of an answer
module _ (m : List ℕ) (x : ℕ) (r : Step) (y : StepOf m x r) where
  pub as_known : (i : ℕ) → r ≡ step.Known i → KnownAt m x i
  as_known i e = rw e at y

  pub as_leaf : (t a : ℕ) → r ≡ step.Leaf t a → LeafAt m x t a
  as_leaf t a e = rw e at y

  pub as_half : (a b : ℕ) → r ≡ step.Half a b → HalfAt m x a b
  as_half a b e = rw e at y

  pub as_two : (t a b : ℕ) → r ≡ step.Two t a b → TwoAt m x t a b
  as_two t a b e = rw e at y

  pub as_single : (t a : ℕ) → r ≡ step.Single t a → SingleAt m x t a
  as_single t a e = rw e at y

pub turned_at : (m : List ℕ) (f : Formula) (r : Option ℕ) (m' memo' : List ℕ) (i : ℕ) → Turned m f r m' memo' → r ≡ Some i → Entered m f i m' × Memo m' memo'
turned_at m f r m' memo' i y e = rw e at y

pub turned_full : (m : List ℕ) (f : Formula) (r : Option ℕ) (m' memo' : List ℕ) → Turned m f r m' memo' → r ≡ None → Over m f m'
turned_full m f r m' memo' y e = rw e at y

-- the memo that knows nothing
abbrev pub blank : ℕ → List ℕ
blank n = replicate n 0

blank_length : (n : ℕ) → length (blank n) ≡ n
blank_length n = length-replicate {A = ℕ} n 0

blank_at : (n k : ℕ) → ◌≡◌ {A = ℕ} (get_or (blank n) k 0) 0
blank_at n k = ⊎_elim (λ l. get_or-eq_default (blank n) 0 (rw (blank_length n) l)) (λ l. get_or-replicate {A = ℕ} n k 0 0 l) (le_or_lt n k)

pub blank_turn : (n : ℕ) → n ≡ most → (m : List ℕ) (x : ℕ) → Wf m → x < count m → Turn m (blank n) x
blank_turn n q m x z l = record { wf = z; low = l; notes = record { sized = blank_length n ∙ q; known = λ k v e. absurd (omega (arith, e, blank_at n k)) } }

pub cut_refused : (m : List ℕ) (f : Formula) (r : Option ℕ) (m₁ memo₁ m₂ : List ℕ) → Wf m → Turned m f r m₁ memo₁ → r ≡ None → TakenBack m₁ (count m) m₂ → Refused m f m₂
cut_refused m f r m₁ memo₁ m₂ z y e w = let o = turned_full m f r m₁ memo₁ y e in record { same = cut_back m m₁ m₂ z o.grew w; over = o.over }

-- spelling out an implication
module _ (m : List ℕ) (x a b : ℕ) (z : Implication m x) (ea : a ≡ at m x 1) (eb : b ≡ at m x 2) where
  spell_row : RowOf m x 10 a b
  spell_row = row_of m x 10 a b z.wf z.low (sym z.lolli) ea eb

  spell_right : b < count m
  spell_right = omega (arith, row_right spell_row.row (omega arith) (omega arith), z.low)

  spell_is : spell (told m x) ≡ make 7 0 (negate (told m a)) (told m b)
  unfolding spell
  spell_is = rw (spell_row.here, make_lolli a (told m a) (told m b)) (sym (make_par 0 (negate (told m a)) (told m b)))

  -- as high and as long as the implication
  spell_small : (height (spell (told m x)) ≤ 64) × (size (spell (told m x)) < 65536)
  spell_small =
      let w = weights m (count m) z.wf.formulas x z.low in
      let r = row_weight_fits (z.wf.formulas.rows x z.low) in
      (rw (spell_height (told m x), w.0) r.0, rw (spell_size (told m x), w.1) r.1)

  spell_enter : enter (spell (told m x)) (view m) ≡ add (spell (told m x)) (enter (told m b) (enter (negate (told m a)) (view m)))
  spell_enter = rw spell_is (enter_mid 0 (negate (told m a)) (told m b) (view m) 7 (omega arith) (omega arith))

  pub spell_over : (m' : List ℕ) → Refused m (negate (told m a)) m' → Refused m (spell (told m x)) m'
  spell_over m' y =
      let fs = enter (negate (told m a)) (view m) in
      record { same = y.same; over = rw spell_enter (lt_of_lt_of_le y.over (added_longer (spell (told m x)) fs (enter (told m b) fs) (enter_longer (told m b) fs fs (omega arith)))) }

  module _ (m₁ : List ℕ) (i : ℕ) (y : Entered m (negate (told m a)) i m₁) where
    right_kept : told m₁ b ≡ told m b
    right_kept = keeps m m₁ y.grew b spell_right

    right_low : b < count m₁
    right_low = lt_of_lt_of_le spell_right y.grew.more

    pub spell_node : node 7 i b (view m₁) ≡ spell (told m x)
    spell_node = node_make 7 i b (view m₁) ∙ (rw (y.here, right_kept) (make_binary i 0 (negate (told m a)) (told m b) 7 (omega arith) (omega arith)) ∙ sym spell_is)

    pub spell_next : Next m₁ 7 i b
    spell_next =
        let s = spell_small in
        let ws = weights m₁ (count m₁) y.wf.formulas in
        let ht : height (spell (told m x)) ≡ 1 + max (at m₁ i 3) (at m₁ b 3) = omega (arith, sym (ap height spell_node) ∙ (ap height (node_make 7 i b (view m₁)) ∙ height_binary i (told m₁ i) (told m₁ b) 7 (omega arith) (omega arith)), (ws i y.low).0, (ws b right_low).0) in
        let st : size (spell (told m x)) ≡ 1 + at m₁ i 4 + at m₁ b 4 = omega (arith, sym (ap size spell_node) ∙ (ap size (node_make 7 i b (view m₁)) ∙ size_binary i (told m₁ i) (told m₁ b) 7 (omega arith) (omega arith)), (ws i y.low).1, (ws b right_low).1) in
        record { wf = y.wf; tall = height (spell (told m x)); wide = size (spell (told m x)); row = two (omega arith) (omega arith) y.low right_low ht st s.0 s.1 }

    spell_all : enter (spell (told m x)) (view m) ≡ add (spell (told m x)) (view m₁)
    spell_all = spell_enter ∙ ap (add (spell (told m x))) (rw (← y.all, ← right_kept) (enter_held m₁ y.wf b right_low))

    spell_entered : (r : Option ℕ) (j : ℕ) (m₂ : List ℕ) → AddedTo m₁ (node 7 i b (view m₁)) r m₂ → r ≡ Some j → Entered m (spell (told m x)) j m₂
    spell_entered r j m₂ w e =
        let v : Stored m₁ (spell (told m x)) j m₂ = rw (e, spell_node) at w in
        record { wf = v.wf; grew = extends_trans y.grew v.grew; all = v.all ∙ sym spell_all; low = v.low; here = v.here }

    pub spell_done : (r : Option ℕ) (m₂ : List ℕ) → AddedTo m₁ (node 7 i b (view m₁)) r m₂ → is_some r ≡ true → EnteredOr m (spell (told m x)) r m₂
    spell_done (Some j) m₂ w e = spell_entered (Some j) j m₂ w refl
    spell_done None m₂ w e = let q : ◌≡◌ {A = ℕ} 0 1 = cc in absurd (omega arith)

    spell_full : (r : Option ℕ) (m₂ : List ℕ) → AddedTo m₁ (node 7 i b (view m₁)) r m₂ → r ≡ None → NoRoom m₁ (spell (told m x)) m₂
    spell_full r m₂ w e = rw (e, spell_node) at w

    pub spell_refused : (r : Option ℕ) (m₂ m₃ : List ℕ) → AddedTo m₁ (node 7 i b (view m₁)) r m₂ → r ≡ None → TakenBack m₂ (count m) m₃ → Refused m (spell (told m x)) m₃
    spell_refused r m₂ m₃ w e t =
        let v = spell_full r m₂ w e in
        let long : length (enter (spell (told m x)) (view m)) ≡ length (view m₁) + 1 = ap length spell_all ∙ (ap length (add_unknown (spell (told m x)) (view m₁) v.new) ∙ length-append (view m₁) (spell (told m x) ∷ [])) in
        record { same = cut_back m m₂ m₃ z.wf (rw v.same y.grew) t; over = omega (arith, long, held_length m₁ (count m₁), v.full) }

-- the cases of an answer
pub entered_at : (m : List ℕ) (f : Formula) (r : Option ℕ) (i : ℕ) (m' : List ℕ) → EnteredOr m f r m' → r ≡ Some i → Entered m f i m'
entered_at m f r i m' y e = rw e at y

pub entered_full : (m : List ℕ) (f : Formula) (r : Option ℕ) (m' : List ℕ) → EnteredOr m f r m' → r ≡ None → Refused m f m'
entered_full m f r m' y e = rw e at y
