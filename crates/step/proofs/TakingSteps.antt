-- Tests of a step over held formulas: tags and names read from the words, and what each function answers of them. Assumes nothing.
use mathlib.Core.Path.{◌≡◌, refl, sym, ap, ◌∙◌}
use mathlib.Core.Logic.{◌⊎◌, inl, inr, ⊎_elim}
use mathlib.Core.Bool.{Bool, true, false, not, ◌&&◌, false≢true}
use mathlib.Core.List.{List, [], ◌∷◌}
use Prim.Native.Nat.{ℕ, zero, suc, ◌+◌, ◌-◌, ◌*◌, ◌%◌, ◌≤◌, ◌<◌, ◌^◌}
use native.Mathlib.Nat.{add-zero}
use native.Mathlib.Omega.{arith}
use borrow.Author.Tests.{eqb-true, eqb-false, lt-leb, eq-eqb, ne_eqb}
use lib.Dec.{eqb, leb, ltb}
use Rattle.std.proofs.Math.Pow.{shl_exact}
use lib.ListN.{get_or, length, take, drop, length-map, get_or-eq_default}
use lib.Seq.{get_or-drop, get_or-take, length-take-le}
use Rattle.logic.specs.Formula.{Formula, One, Bottom, Top, Zero, Atom, NegAtom, Tensor, Par, With, Plus, Lolli, OfCourse, WhyNot, same, negate}
use Rattle.logic.proofs.FormulaLaws.{same_iff, same_self}
use Rattle.logic.specs.Parts.{tag_of, name_of, is_literal, make}
use Rattle.logic.proofs.PartsLaws.{tag_make, name_make}
use Rattle.logic.specs.Sequent.{Sequent, count}
use Rattle.logic.specs.Built.{decomposable}
use Rattle.logic.specs.Tree.{Rule, Axiom, Cut, OneIntro, BottomIntro, TensorIntro, ParIntro, TopIntro, WithIntro, PlusIntroLeft, PlusIntroRight, OfCourseIntro, WhyNotIntro, Weakening, Contraction, Dereliction, FocusPositive, FocusNegative, Blur}
use Rattle.tree.specs.Places.{rule_number}
use Rattle.held.specs.SignsLaws.{node_make}
use Rattle.held.specs.Words as words
use Rattle.held.specs.Words.{at, view, told, Wf}
use Rattle.held.specs.Answers.{Field}
use Rattle.held.specs.OrderLaws.{le_or_lt}
use Rattle.held.specs.WordsLaws.{held_node, row_low}
use Rattle.zones.specs.declared.Zones.{Zones}
use Rattle.zones.specs.Zones.{Fits, linears, unrestricteds, remove, meant}
use Rattle.zones.specs.ZonesLaws.{linears_length, unrestricteds_length, linear_at, within_linear}
use Rattle.expand.specs.Writing.{Sound, FirstAt}
use Rattle.short.specs.Steps.{all_passed, formula_at, is_sync, is_focus, is_pair, may_take}
use Rattle.step.specs.Taking.{sequent, TagAt, decomposed_tags, decomposed_tag, Pair, Alone, Split, Focused, Asked, Crowded}
use Rattle.step.specs.StepsLaws.{
  both_true,
  last_false,
  last_true,
  same_test,
  tag_low,
  passed_all,
  tag_in,
  sync_passed,
  plain,
  number_plain,
  rule_known,
  Others,
  first_none,
  first_other,
  not_sync,
  empty_sync,
  untaken,
  taken_first,
  untaken_sync,
  remove_length,
  few_taken,
  few_room,
  many_par,
  many_contraction,
}
use Rattle.step.specs.SequentLaws.{linear_length, unrestricted_length}

-- ---- a held formula's tag and name

module _ (m : List ℕ) (x : ℕ) (wf : Wf m) (l : x < words.count m) where
  told_make : told m x ≡ make (at m x 0) (at m x 1) (told m (at m x 1)) (told m (at m x 2))
  told_make = held_node m (words.count m) wf.formulas x l ∙ node_make (at m x 0) (at m x 1) (at m x 2) (view m)

  row_tag : at m x 0 < 13
  row_tag = row_low (wf.formulas.rows x l)

  pub told_tag : tag_of (told m x) ≡ at m x 0
  told_tag = ap tag_of told_make ∙ tag_make _ _ _ (at m x 0) row_tag

  told_name : 4 ≤ at m x 0 → at m x 0 < 6 → name_of (told m x) ≡ at m x 1
  told_name h k = ap name_of told_make ∙ name_make _ _ _ (at m x 0) h k

-- ---- the formula at a place

module _ {m : List ℕ} {z : Zones} (s : Sound m z) where
  pub linear_low : (i : ℕ) → i < z.linear_len → get_or z.linear i 0 < words.count m
  linear_low i h = within_linear (words.count m) s.fits s.within i h

  pub linear_fits : (i : ℕ) → i < z.linear_len → get_or z.linear i 0 < 2048
  linear_fits i h = omega (arith, linear_low i h, s.wf.few)

  first_of_drop : (fs : List Formula) (i : ℕ) (f : Formula) (gs : List Formula) → drop i fs ≡ f ∷ gs → get_or fs i One ≡ f
  first_of_drop fs i f gs e = rw (add-zero i) at (sym (get_or-drop i fs 0 One) ∙ ap (λ (l : List Formula). get_or l 0 One) e)

  pub linear_told : (i : ℕ) → i < z.linear_len → formula_at (sequent m z) i ≡ told m (get_or z.linear i 0)
  linear_told i h = first_of_drop (sequent m z).linear i _ _ (linear_at (told m) s.fits i h)

  pub linear_tag : (i : ℕ) → i < z.linear_len → tag_of (formula_at (sequent m z) i) ≡ at m (get_or z.linear i 0) 0
  linear_tag i h = ap tag_of (linear_told i h) ∙ told_tag m _ s.wf (linear_low i h)

  linear_name : (i : ℕ) → i < z.linear_len → 4 ≤ tag_of (formula_at (sequent m z) i) → tag_of (formula_at (sequent m z) i) < 6
      → name_of (formula_at (sequent m z) i) ≡ at m (get_or z.linear i 0) 1
  linear_name i h k l =
      ap name_of (linear_told i h) ∙ told_name m _ s.wf (linear_low i h) (omega (arith, linear_tag i h)) (omega (arith, linear_tag i h))

  -- `tag_at`
  pub tag_none : {i : ℕ} → z.linear_len ≤ i → TagAt m z i 0
  unfolding tag_of
  tag_none {i} h = record { is = sym (ap tag_of (get_or-eq_default (sequent m z).linear One {n = i} (omega (arith, linear_length s)))) }

  pub tag_here : {i t : ℕ} → i < z.linear_len → Field m (get_or z.linear i 0) 0 t → TagAt m z i t
  tag_here {i} {t} h f = record { is = f.value ∙ sym (linear_tag i h) }

  -- what `first_decomposable` answers, of the formulas
  module _ {k : ℕ} (f : FirstAt m z k) where
    pub first_passed : all_passed (take k (sequent m z).linear) ≡ true
    first_passed =
        passed_all (take k (sequent m z).linear)
        (λ j l.
        let b : j < k = omega (arith, length-take-le k (sequent m z).linear (omega (arith, f.low, linear_length s))) in
        ap decomposable (get_or-take k (sequent m z).linear j One b ∙ linear_told j (omega (arith, f.low))) ∙ f.passed j b)

    pub first_here : k < z.linear_len → decomposable (formula_at (sequent m z) k) ≡ true
    first_here h = ap decomposable (linear_told k h) ∙ f.here h

pub decomposed_past : (rule : ℕ) → 17 < rule → 13 ≡ decomposed_tag rule
decomposed_past rule h = sym (get_or-eq_default decomposed_tags 13 {n = rule} (omega arith))

pub decomposed_none : (rule : ℕ) → (rule ≡ 3 → ⊥) → (rule ≡ 5 → ⊥) → (rule ≡ 6 → ⊥) → (rule ≡ 7 → ⊥) → (rule ≡ 11 → ⊥) → 13 ≡ decomposed_tag rule
decomposed_none zero a b c d e = refl
decomposed_none (suc zero) a b c d e = refl
decomposed_none (suc (suc zero)) a b c d e = refl
decomposed_none (suc (suc (suc zero))) a b c d e = absurd (a refl)
decomposed_none (suc (suc (suc (suc zero)))) a b c d e = refl
decomposed_none (suc (suc (suc (suc (suc zero))))) a b c d e = absurd (b refl)
decomposed_none (suc (suc (suc (suc (suc (suc zero)))))) a b c d e = absurd (c refl)
decomposed_none (suc (suc (suc (suc (suc (suc (suc zero))))))) a b c d e = absurd (d refl)
decomposed_none (suc (suc (suc (suc (suc (suc (suc (suc zero)))))))) a b c d e = refl
decomposed_none (suc (suc (suc (suc (suc (suc (suc (suc (suc zero))))))))) a b c d e = refl
decomposed_none (suc (suc (suc (suc (suc (suc (suc (suc (suc (suc zero)))))))))) a b c d e = refl
decomposed_none (suc (suc (suc (suc (suc (suc (suc (suc (suc (suc (suc zero))))))))))) a b c d e = absurd (e refl)
decomposed_none (suc (suc (suc (suc (suc (suc (suc (suc (suc (suc (suc (suc zero)))))))))))) a b c d e = refl
decomposed_none (suc (suc (suc (suc (suc (suc (suc (suc (suc (suc (suc (suc (suc zero))))))))))))) a b c d e = refl
decomposed_none (suc (suc (suc (suc (suc (suc (suc (suc (suc (suc (suc (suc (suc (suc zero)))))))))))))) a b c d e = refl
decomposed_none (suc (suc (suc (suc (suc (suc (suc (suc (suc (suc (suc (suc (suc (suc (suc zero))))))))))))))) a b c d e = refl
decomposed_none (suc (suc (suc (suc (suc (suc (suc (suc (suc (suc (suc (suc (suc (suc (suc (suc zero)))))))))))))))) a b c d e = refl
decomposed_none (suc (suc (suc (suc (suc (suc (suc (suc (suc (suc (suc (suc (suc (suc (suc (suc (suc zero))))))))))))))))) a b c d e = refl
decomposed_none (suc (suc (suc (suc (suc (suc (suc (suc (suc (suc (suc (suc (suc (suc (suc (suc (suc (suc n)))))))))))))))))) a b c d e = refl

-- ---- `is_pair`

-- a name and its negation, by tags and names
record PairOf (f g : Formula) : Type 0 where
  pub names : name_of f ≡ name_of g
  pub low : 4 ≤ tag_of f
  pub high : tag_of f < 6
  pub sum : tag_of f + tag_of g ≡ 9

pair_of : (f g : Formula) → (is_literal f && same g (negate f)) ≡ true → PairOf f g
unfolding is_literal negate tag_of name_of
pair_of (Atom a) g e = rw ((same_iff g (NegAtom a)).0 e) record { names = refl; low = omega arith; high = omega arith; sum = refl }
pair_of (NegAtom a) g e = rw ((same_iff g (Atom a)).0 e) record { names = refl; low = omega arith; high = omega arith; sum = refl }
pair_of One g e = absurd (false≢true e)
pair_of Bottom g e = absurd (false≢true e)
pair_of Top g e = absurd (false≢true e)
pair_of Zero g e = absurd (false≢true e)
pair_of (Tensor a b) g e = absurd (false≢true e)
pair_of (Par a b) g e = absurd (false≢true e)
pair_of (With a b) g e = absurd (false≢true e)
pair_of (Plus a b) g e = absurd (false≢true e)
pair_of (Lolli a b) g e = absurd (false≢true e)
pair_of (OfCourse a) g e = absurd (false≢true e)
pair_of (WhyNot a) g e = absurd (false≢true e)

-- a name, and a negated name
name_is : (f : Formula) → tag_of f ≡ 4 → f ≡ Atom (name_of f)
unfolding tag_of name_of
name_is (Atom a) e = refl
name_is (NegAtom a) e = absurd (omega arith)
name_is One e = absurd (omega arith)
name_is Bottom e = absurd (omega arith)
name_is Top e = absurd (omega arith)
name_is Zero e = absurd (omega arith)
name_is (Tensor a b) e = absurd (omega arith)
name_is (Par a b) e = absurd (omega arith)
name_is (With a b) e = absurd (omega arith)
name_is (Plus a b) e = absurd (omega arith)
name_is (Lolli a b) e = absurd (omega arith)
name_is (OfCourse a) e = absurd (omega arith)
name_is (WhyNot a) e = absurd (omega arith)

negated_is : (f : Formula) → tag_of f ≡ 5 → f ≡ NegAtom (name_of f)
unfolding tag_of name_of
negated_is (NegAtom a) e = refl
negated_is (Atom a) e = absurd (omega arith)
negated_is One e = absurd (omega arith)
negated_is Bottom e = absurd (omega arith)
negated_is Top e = absurd (omega arith)
negated_is Zero e = absurd (omega arith)
negated_is (Tensor a b) e = absurd (omega arith)
negated_is (Par a b) e = absurd (omega arith)
negated_is (With a b) e = absurd (omega arith)
negated_is (Plus a b) e = absurd (omega arith)
negated_is (Lolli a b) e = absurd (omega arith)
negated_is (OfCourse a) e = absurd (omega arith)
negated_is (WhyNot a) e = absurd (omega arith)

module _ (a : ℕ) where
  pair_names : (is_literal (Atom a) && same (NegAtom a) (negate (Atom a))) ≡ true
  unfolding is_literal negate
  pair_names = same_self (NegAtom a)

  pair_negated : (is_literal (NegAtom a) && same (Atom a) (negate (NegAtom a))) ≡ true
  unfolding is_literal negate
  pair_negated = same_self (Atom a)

of_pair : (f g : Formula) → PairOf f g → (is_literal f && same g (negate f)) ≡ true
of_pair f g p = go (eqb (tag_of f) 4) refl
  where
    go : (b : Bool) → eqb (tag_of f) 4 ≡ b → (is_literal f && same g (negate f)) ≡ true
    go true e =
        let t = eqb-true (tag_of f) 4 e in
        rw (name_is f t, negated_is g (omega (arith, p.sum)) ∙ ap NegAtom (sym p.names)) (pair_names (name_of f))
    go false e =
        let n : tag_of f ≡ 4 → ⊥ = eqb-false (tag_of f) 4 e in
        let t : tag_of f ≡ 5 = omega (arith, p.low, p.high) in
        rw (negated_is f t, name_is g (omega (arith, p.sum)) ∙ ap Atom (sym p.names)) (pair_negated (name_of f))

pair_two : (fs : List Formula) → length fs ≡ 2 → is_pair fs ≡ (is_literal (get_or fs 0 One) && same (get_or fs 1 One) (negate (get_or fs 0 One)))
unfolding is_pair
pair_two [] e = absurd (omega arith)
pair_two (f ∷ []) e = absurd (omega arith)
pair_two (f ∷ g ∷ []) e = refl
pair_two (f ∷ g ∷ h ∷ fs) e = absurd (omega arith)

pair_other : (fs : List Formula) → (length fs ≡ 2 → ⊥) → is_pair fs ≡ false
unfolding is_pair
pair_other [] n = refl
pair_other (f ∷ []) n = refl
pair_other (f ∷ g ∷ []) n = absurd (n refl)
pair_other (f ∷ g ∷ h ∷ fs) n = refl

abbrev PairAt : List ℕ → Zones → Type 0
PairAt m z = PairOf (formula_at (sequent m z) 0) (formula_at (sequent m z) 1)

module _ {m : List ℕ} {z : Zones} (s : Sound m z) where
  pub pair_none : (z.linear_len ≡ 2 → ⊥) → Pair m z false
  pair_none n = record { is = sym (pair_other (sequent m z).linear (λ e. n (sym (linear_length s) ∙ e))) }

  module _ (two : z.linear_len ≡ 2) where
    -- a test that holds just where the two are a pair
    pair_tested : {b : Bool} → (b ≡ true → PairAt m z) → (PairAt m z → b ≡ true) → Pair m z b
    pair_tested {b} to from = record {
      is =
          same_test b _
          (λ e. of_pair (formula_at (sequent m z) 0) (formula_at (sequent m z) 1) (to e))
          (λ e. from (pair_of (formula_at (sequent m z) 0) (formula_at (sequent m z) 1) e))
          ∙ sym (pair_two (sequent m z).linear (linear_length s ∙ two));
    }

    module _ {a b : ℕ} (fa : Field m (get_or z.linear 0 0) 1 a) (fb : Field m (get_or z.linear 1 0) 1 b) where
      pair_fields : PairAt m z → a ≡ b
      pair_fields p =
          fa.value
          ∙ sym (linear_name s 0 (omega (arith, two)) p.low p.high)
          ∙ p.names
          ∙ linear_name s 1 (omega (arith, two)) (omega (arith, p.sum, p.low, p.high)) (omega (arith, p.sum, p.low, p.high))
          ∙ sym fb.value

      pub pair_apart : (a ≡ b → ⊥) → Pair m z false
      pair_apart n = pair_tested (λ e. absurd (false≢true e)) (λ p. absurd (n (pair_fields p)))

      module _ (same_name : a ≡ b) {t u : ℕ} (ft : Field m (get_or z.linear 0 0) 0 t) (fu : Field m (get_or z.linear 1 0) 0 u) where
        tag_f : tag_of (formula_at (sequent m z) 0) ≡ t
        tag_f = linear_tag s 0 (omega (arith, two)) ∙ sym ft.value

        tag_g : tag_of (formula_at (sequent m z) 1) ≡ u
        tag_g = linear_tag s 1 (omega (arith, two)) ∙ sym fu.value

        fields_pair : 4 ≤ t → t < 6 → t + u ≡ 9 → PairAt m z
        fields_pair h k e = record {
          names =
              linear_name s 0 (omega (arith, two)) (omega (arith, tag_f)) (omega (arith, tag_f))
              ∙ sym fa.value
              ∙ same_name
              ∙ fb.value
              ∙ sym (linear_name s 1 (omega (arith, two)) (omega (arith, tag_g)) (omega (arith, tag_g)));
          low = omega (arith, tag_f);
          high = omega (arith, tag_f);
          sum = omega (arith, tag_f, tag_g);
        }

        pub pair_atom : t ≡ 4 → Pair m z (eqb u 5)
        pair_atom e =
            pair_tested
            (λ h. fields_pair (omega arith) (omega arith) (omega (arith, eqb-true u 5 h)))
            (λ p. eq-eqb u 5 (omega (arith, p.sum, tag_f, tag_g)))

        pub pair_negation : t ≡ 5 → Pair m z (eqb u 4)
        pair_negation e =
            pair_tested
            (λ h. fields_pair (omega arith) (omega arith) (omega (arith, eqb-true u 4 h)))
            (λ p. eq-eqb u 4 (omega (arith, p.sum, tag_f, tag_g)))

        pub pair_unlike : (t ≡ 4 → ⊥) → (t ≡ 5 → ⊥) → Pair m z false
        pair_unlike n k = pair_tested (λ e. absurd (false≢true e)) (λ p. absurd (omega (arith, p.low, p.high, tag_f)))

-- ---- `is_alone`, `is_split`

abbrev tagged : Sequent → (place tag : ℕ) → Bool
tagged q place tag = eqb (tag_of (formula_at q place)) tag

module _ {m : List ℕ} {z : Zones} (s : Sound m z) {place tag : ℕ} where
  pub alone_more : (z.linear_len ≡ 1 → ⊥) → Alone m z place tag false
  alone_more n = record {
    is =
        sym
        (last_false (tagged (sequent m z) place tag) _
        (last_false (eqb place 0) _ (ne_eqb (length (sequent m z).linear) 1 (λ e. n (sym (linear_length s) ∙ e)))));
  }

  pub alone_later : (place ≡ 0 → ⊥) → Alone m z place tag false
  alone_later n = record { is = sym (last_false (tagged (sequent m z) place tag) _ (rw (ne_eqb place 0 n))) }

  pub alone_tag : {t : ℕ} → z.linear_len ≡ 1 → place ≡ 0 → TagAt m z place t → Alone m z place tag (eqb t tag)
  alone_tag {t} e p k = record {
    is =
        ap (λ (x : ℕ). eqb x tag) k.is
        ∙ sym (last_true (tagged (sequent m z) place tag) _ (rw (eq-eqb place 0 p) (eq-eqb (length (sequent m z).linear) 1 (linear_length s ∙ e))));
  }

module _ {m : List ℕ} {z : Zones} (s : Sound m z) {place t : ℕ} (k : TagAt m z place t) where
  pub split_other : {mask : ℕ} → (t ≡ 6 → ⊥) → Split m z place mask false
  split_other n = record { is = rw (ne_eqb (tag_of (formula_at (sequent m z) place)) 6 (λ e. n (k.is ∙ e))) }

  pub split_some : t ≡ 6 → 1 ≤ z.linear_len
  split_some e =
      omega (arith, linear_length s, tag_in (sequent m z).linear place 6 (omega arith) (eq-eqb (tag_of (formula_at (sequent m z) place)) 6 (sym k.is ∙ e)))

  -- a bit of the mask for each other formula
  pub split_below : t ≡ 6 → (mask : ℕ) → Split m z place mask (ltb mask ((1 * 2 ^ (z.linear_len - 1)) % 18446744073709551616))
  split_below e mask =
      let tag = eq-eqb (tag_of (formula_at (sequent m z) place)) 6 (sym k.is ∙ e) in
      let low = tag_in (sequent m z).linear place 6 (omega arith) tag in
      let others = length (remove place (sequent m z).linear) in
      let n : z.linear_len - 1 ≡ others = omega (arith, remove_length (sequent m z).linear place low, linear_length s) in
      let few : 1 + (z.linear_len - 1) ≤ 64 = omega (arith, s.fits.few) in
      let one : (1 * 2 ^ (z.linear_len - 1)) % 18446744073709551616 ≡ 2 ^ (z.linear_len - 1) =
      omega (arith, shl_exact {a = 1} 1 (z.linear_len - 1) 64 (omega arith) few) in
      record { is = rw (tag, ← n) (ap (ltb mask) one) }

-- ---- `takes_focused`

-- a rule known by its number
asked_of : {m : List ℕ} {z : Zones} {rule place mask : ℕ} {b : Bool} (k : ℕ) → rule ≡ k → k < 15 → (k ≡ 1 → ⊥) → b ≡ may_take (plain k) place mask (sequent m z)
    → Asked m z rule place mask b
asked_of {m} {z} {rule} {place} {mask} k n l o e = record {
  is = λ r h. e ∙ ap (λ (r : Rule). may_take r place mask (sequent m z)) (sym (rule_known r k (sym h ∙ n) l o));
  some = λ t. record { named = plain k; number = n ∙ number_plain k (omega arith) };
}

-- no rule
asked_none : {m : List ℕ} {z : Zones} {rule place mask : ℕ} → ((r : Rule) → rule ≡ rule_number r → may_take r place mask (sequent m z) ≡ false)
    → Asked m z rule place mask false
asked_none h = record { is = λ r n. sym (h r n); some = λ e. absurd (false≢true e) }

-- past the rules' numbers there is no rule
rule_low : (r : Rule) → rule_number r < 18
unfolding rule_number
rule_low Axiom = omega arith
rule_low (Cut c) = omega arith
rule_low OneIntro = omega arith
rule_low BottomIntro = omega arith
rule_low TensorIntro = omega arith
rule_low ParIntro = omega arith
rule_low TopIntro = omega arith
rule_low WithIntro = omega arith
rule_low PlusIntroLeft = omega arith
rule_low PlusIntroRight = omega arith
rule_low OfCourseIntro = omega arith
rule_low WhyNotIntro = omega arith
rule_low Weakening = omega arith
rule_low Contraction = omega arith
rule_low Dereliction = omega arith
rule_low (FocusPositive i) = omega arith
rule_low (FocusNegative i) = omega arith
rule_low Blur = omega arith

pub asked_past : {m : List ℕ} {z : Zones} {rule place mask : ℕ} → 17 < rule → Asked m z rule place mask false
asked_past h = asked_none (λ r n. absurd (omega (arith, h, n, rule_low r)))

and_assoc : (a b c : Bool) → (a && (b && c)) ≡ (a && b && c)
and_assoc true b c = refl
and_assoc false b c = refl

-- alone, so at place 0
alone_first : (q : Sequent) (place : ℕ) → (tagged q place 11 && (eqb place 0 && eqb (length q.linear) 1)) ≡ (tagged q place 11 && eqb (length q.linear) 1)
alone_first q place =
    same_test (tagged q place 11 && (eqb place 0 && eqb (length q.linear) 1)) (tagged q place 11 && eqb (length q.linear) 1)
    (λ e.
    let a = both_true (tagged q place 11) (eqb place 0 && eqb (length q.linear) 1) e in
    rw a.0 (both_true (eqb place 0) (eqb (length q.linear) 1) a.1).1)
    (λ e.
    let a = both_true (tagged q place 11) (eqb (length q.linear) 1) e in
    let i = tag_in q.linear place 11 (omega arith) a.0 in
    rw (a.0, eq-eqb place 0 (omega (arith, eqb-true (length q.linear) 1 a.1))) a.1)

unrestricted_tested : {m : List ℕ} {z : Zones} → Sound m z → (place : ℕ) → ltb place z.unrestricted_len ≡ ltb place (length (sequent m z).unrestricted)
unrestricted_tested s place = ap (ltb place) (sym (unrestricted_length s))

module _ {m : List ℕ} {z : Zones} {rule place mask : ℕ} (p : Focused m z) where
  pub focused_axiom_place : rule ≡ 0 → (place ≡ 0 → ⊥) → Asked m z rule place mask (eqb place 0)
  unfolding may_take
  focused_axiom_place n o = rw (ne_eqb place 0 o) (asked_of 0 n (omega arith) (λ e. omega arith) (rw (p.sync, ne_eqb place 0 o)))

  pub focused_axiom : {b : Bool} → rule ≡ 0 → place ≡ 0 → Pair m z b → Asked m z rule place mask b
  unfolding may_take
  focused_axiom n o k = asked_of 0 n (omega arith) (λ e. omega arith) (rw (p.sync, eq-eqb place 0 o) k.is)

  pub focused_one : {b : Bool} → rule ≡ 2 → Alone m z place 0 b → Asked m z rule place mask b
  unfolding may_take is_focus
  focused_one n k =
      asked_of 2 n (omega arith) (λ e. omega arith)
      (rw p.sync (k.is ∙ and_assoc (tagged (sequent m z) place 0) (eqb place 0) (eqb (length (sequent m z).linear) 1)))

  pub focused_tensor : {b : Bool} → rule ≡ 4 → Split m z place mask b → Asked m z rule place mask b
  unfolding may_take is_focus
  focused_tensor n k = asked_of 4 n (omega arith) (λ e. omega arith) (rw p.sync k.is)

  focused_plus_left : {t : ℕ} → rule ≡ 8 → TagAt m z place t → Asked m z rule place mask (eqb t 9)
  unfolding may_take is_focus
  focused_plus_left n k = asked_of 8 n (omega arith) (λ e. omega arith) (rw p.sync (ap (λ (x : ℕ). eqb x 9) k.is))

  focused_plus_right : {t : ℕ} → rule ≡ 9 → TagAt m z place t → Asked m z rule place mask (eqb t 9)
  unfolding may_take is_focus
  focused_plus_right n k = asked_of 9 n (omega arith) (λ e. omega arith) (rw p.sync (ap (λ (x : ℕ). eqb x 9) k.is))

  pub focused_plus : {t : ℕ} → 8 ≤ rule → rule ≤ 9 → TagAt m z place t → Asked m z rule place mask (eqb t 9)
  focused_plus low high k = ⊎_elim (λ h. focused_plus_left (omega arith) k) (λ h. focused_plus_right (omega arith) k) (le_or_lt rule 8)

  pub focused_of_course : {b : Bool} → rule ≡ 10 → Alone m z place 11 b → Asked m z rule place mask b
  unfolding may_take is_focus
  focused_of_course n k = asked_of 10 n (omega arith) (λ e. omega arith) (rw p.sync (k.is ∙ alone_first (sequent m z) place))

  focused_weakening : rule ≡ 12 → Asked m z rule place mask (ltb place z.unrestricted_len)
  unfolding may_take
  focused_weakening n = asked_of 12 n (omega arith) (λ e. omega arith) (rw p.sync (unrestricted_tested p.sound place))

  focused_contraction : rule ≡ 13 → Asked m z rule place mask (ltb place z.unrestricted_len)
  unfolding may_take
  focused_contraction n = asked_of 13 n (omega arith) (λ e. omega arith) (rw p.sync (unrestricted_tested p.sound place))

  focused_dereliction : rule ≡ 14 → Asked m z rule place mask (ltb place z.unrestricted_len)
  unfolding may_take
  focused_dereliction n = asked_of 14 n (omega arith) (λ e. omega arith) (rw p.sync (unrestricted_tested p.sound place))

  pub focused_kept : 12 ≤ rule → rule ≤ 14 → Asked m z rule place mask (ltb place z.unrestricted_len)
  focused_kept low high =
      ⊎_elim (λ h. focused_weakening (omega arith))
      (λ h. ⊎_elim (λ k. focused_contraction (omega arith)) (λ k. focused_dereliction (omega arith)) (le_or_lt rule 13))
      (le_or_lt rule 12)

  pub focused_other : Others rule → Asked m z rule place mask false
  focused_other o = asked_none (λ r n. untaken_sync (sequent m z) place mask r (sync_passed (sequent m z) p.sync) (rw n at o))

-- ---- `may_take`

module _ {m : List ℕ} {z : Zones} {k : ℕ} (s : Sound m z) (f : FirstAt m z k) where
  module _ (h : k < z.linear_len) where
    async : is_sync (sequent m z) ≡ false
    async = not_sync (sequent m z) k k (first_passed s f) (first_here s f h)

    pub take_elsewhere : {rule place mask : ℕ} → (place ≡ k → ⊥) → Asked m z rule place mask (eqb place k)
    take_elsewhere {rule} {place} {mask} o =
        rw (ne_eqb place k o) (asked_none (λ r n. untaken (sequent m z) place mask r async (first_other (sequent m z) place k (first_passed s f) (first_here s f h) o)))

    pub take_first : {rule place mask t d : ℕ} → place ≡ k → TagAt m z place t → d ≡ decomposed_tag rule → Asked m z rule place mask (eqb t d)
    take_first {rule} {place} {mask} {t} {d} o g e = record {
      is = λ r n.
          ap (λ (x : ℕ). eqb x d) g.is
          ∙ ap (eqb (tag_of (formula_at (sequent m z) place))) (e ∙ ap decomposed_tag n)
          ∙ sym (taken_first (sequent m z) place mask r async (rw o (first_passed s f)));
      some = λ u. record { named = plain rule; number = number_plain rule (listed u) };
    }
      where
        listed : eqb t d ≡ true → rule < 18
        listed u =
            ⊎_elim
            (λ past. absurd (omega (arith, decomposed_past rule past, eqb-true t d u, g.is, tag_low (formula_at (sequent m z) place))))
            (λ l. l)
            (le_or_lt 18 rule)

  module _ (h : z.linear_len ≤ k) where
    all_taken : all_passed (sequent m z).linear ≡ true
    all_taken =
        passed_all (sequent m z).linear
        (λ j l.
        let b : j < z.linear_len = omega (arith, linear_length s) in
        ap decomposable (linear_told s j b) ∙ f.passed j (omega arith))

    pub take_nothing : {rule place mask : ℕ} → z.linear_len ≡ 0 → Asked m z rule place mask (not (eqb z.linear_len 0))
    take_nothing {rule} {place} {mask} e =
        rw (eq-eqb z.linear_len 0 e) (asked_none (λ r n. untaken (sequent m z) place mask r (empty_sync (sequent m z) place (linear_length s ∙ e)) (first_none (sequent m z) place all_taken)))

    pub focused : (z.linear_len ≡ 0 → ⊥) → Focused m z
    unfolding is_sync
    focused o = record { sound = s; sync = rw (ne_eqb (length (sequent m z).linear) 0 (λ e. o (sym (linear_length s) ∙ e))) all_taken }

-- ---- `is_crowded`

module _ {z : Zones} {n : ℕ} (f : Fits z) (counted : n ≡ length (linears z) + length (unrestricteds z)) where
  meant_count : (to : ℕ → Formula) → count (meant to z) ≡ n
  meant_count to = omega (arith, counted, length-map (linears z) to, length-map (unrestricteds z) to)

  meant_few : (to : ℕ → Formula) → count (meant to z) ≤ 31
  meant_few to = omega (arith, meant_count to, counted, linears_length f, unrestricteds_length f, f.few)

  pub crowded_room : {rule : ℕ} → n < 31 → Crowded z rule (leb 31 n)
  crowded_room h = rw (lt-leb 31 n h) record { is = λ to r i mask fs k e. few_room i mask (meant to z) r fs e (omega (arith, meant_count to)) }

  pub crowded_many : {rule : ℕ} → 31 ≤ n → (rule ≡ 5) ⊎ (rule ≡ 13) → Crowded z rule true
  crowded_many h (inl p) = record { is = λ to r i mask fs k e. many_par i mask (meant to z) r fs e (omega (arith, meant_count to)) (sym k ∙ p) }
  crowded_many h (inr p) = record { is = λ to r i mask fs k e. many_contraction i mask (meant to z) r fs e (omega (arith, meant_count to)) (sym k ∙ p) }

  pub crowded_other : {rule : ℕ} → ((rule ≡ 5) ⊎ (rule ≡ 13) → ⊥) → Crowded z rule false
  crowded_other n = record {
    is = λ to r i mask fs k e. few_taken i mask (meant to z) r fs e (meant_few to) (λ o. n (inl (k ∙ o))) (λ o. n (inr (k ∙ o)));
  }
