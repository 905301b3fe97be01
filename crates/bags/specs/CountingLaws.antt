-- Multisets compared by counting: two lists are the same multiset exactly where they have as many formulas and each formula of the first stands equally often in both. Assumes nothing.
use Rattle.std.specs.Prelude.{◌≡◌, refl, Bool, true, false, ◌&&◌, List, [], ◌∷◌, ◌++◌, ℕ, suc, ◌+◌, ◌≤◌, ◌<◌, eqb, length}
use Rattle.std.proofs.Common.{sym, ap, ap₂, ◌∙◌, arith, eq-eqb, eqb-true, ne_eqb}
use Rattle.std.proofs.Math.ListN.{get_or}
use Rattle.std.proofs.Math.Bool.{So, and-eq-true_iff, and_assoc}
use Rattle.logic.specs.Formula.{Formula, same}
use Rattle.logic.proofs.FormulaLaws.{same_iff}
use Rattle.logic.specs.Zone.{total}
use Rattle.logic.specs.Legal.{as_number, times, plain}
use Rattle.logic.specs.Key.{same_bag}
use Rattle.logic.proofs.Bags.{same_bag_iff, same_length, counts_itself}
use Rattle.bags.specs.ReadingLaws.{same_test}
use Rattle.bags.specs.Runs.{BagReads, LongIn, agree_on, Agrees, BagsSame}
use Rattle.bags.specs.Walks.{AgreeingAll}
use Rattle.bags.specs.WalksLaws.{runs_here, runs_next, runs_end}
use Rattle.bags.specs.declared.Run.{Run}

-- each formula of the first list stands equally often in the other two
EqualOn : List Formula → List Formula → List Formula → Type 0
EqualOn [] xs ys = Unit {0}
EqualOn (f ∷ fs) xs ys = (times plain f xs ≡ times plain f ys) × EqualOn fs xs ys

agree_equal : (fs xs ys : List Formula) → So (agree_on fs xs ys) → EqualOn fs xs ys
unfolding agree_on EqualOn
agree_equal [] xs ys e = tt
agree_equal (f ∷ fs) xs ys e = let b = (and-eq-true_iff (eqb (times plain f xs) (times plain f ys)) (agree_on fs xs ys)).0 e in (eqb-true _ _ b.0, agree_equal fs xs ys b.1)

equal_agree : (fs xs ys : List Formula) → ((f : Formula) → times plain f xs ≡ times plain f ys) → So (agree_on fs xs ys)
unfolding agree_on
equal_agree [] xs ys h = refl
equal_agree (f ∷ fs) xs ys h = (and-eq-true_iff (eqb (times plain f xs) (times plain f ys)) (agree_on fs xs ys)).1 (eq-eqb _ _ (h f), equal_agree fs xs ys h)

-- a formula that stands in a list can be taken out of it
record TakenOut (x : Formula) (ys : List Formula) : Type 0 where
  rest : List Formula
  others : (f : Formula) → times plain f ys ≡ as_number (same f x) + times plain f rest
  shorter : length ys ≡ suc (length rest)

take_out : (x : Formula) (ys : List Formula) → 1 ≤ times plain x ys → TakenOut x ys
unfolding total
take_out x [] h = absurd (omega arith)
take_out x (y ∷ ys) h = go (same x y) refl (take_out x ys)
  where
    go : (b : Bool) → same x y ≡ b → (1 ≤ times plain x ys → TakenOut x ys) → TakenOut x (y ∷ ys)
    go true e more = record { rest = ys; others = λ f. ap (λ z. as_number (same f z) + times plain f ys) (sym ((same_iff x y).0 e)); shorter = refl }
    go false e more =
        let none : as_number (same x y) ≡ 0 = ap as_number e in
        let t = more (omega arith) in
        record { rest = y ∷ t.rest; others = λ f. omega (arith, t.others f); shorter = ap suc t.shorter }

-- what is equal on fs stays so when x is taken out of both
equal_less : (fs : List Formula) (x : Formula) (xs ys : List Formula) (t : TakenOut x ys) → EqualOn fs (x ∷ xs) ys → EqualOn fs xs t.rest
unfolding EqualOn total
equal_less [] x xs ys t h = tt
equal_less (f ∷ fs) x xs ys t h = (omega (arith, h.0, t.others f), equal_less fs x xs ys t h.1)

enough : (xs ys : List Formula) → length xs ≡ length ys → EqualOn xs xs ys → (f : Formula) → times plain f xs ≡ times plain f ys
unfolding EqualOn total
enough [] [] n h f = refl
enough [] (y ∷ ys) n h f = absurd (omega arith)
enough (x ∷ xs) ys n h f =
    let t = take_out x ys (omega (arith, h.0, counts_itself x)) in
    let rest = enough xs t.rest (omega (arith, n, t.shorter)) (equal_less xs x xs ys t h.1) f in
    omega (arith, t.others f)

counted_same : (xs ys : List Formula) → eqb (length xs) (length ys) && agree_on xs xs ys ≡ same_bag xs ys
counted_same xs ys =
    same_test _ _
    (λ e.
    let b = (and-eq-true_iff (eqb (length xs) (length ys)) (agree_on xs xs ys)).0 e in
    (same_bag_iff xs ys).1 record { each = enough xs ys (eqb-true _ _ b.0) (agree_equal xs xs ys b.1) })
    (λ e.
    let s = (same_bag_iff xs ys).0 e in
    (and-eq-true_iff (eqb (length xs) (length ys)) (agree_on xs xs ys)).1 (eq-eqb _ _ (same_length s), equal_agree xs xs ys s.each))

agree_append : (as' bs xs ys : List Formula) → agree_on (as' ++ bs) xs ys ≡ agree_on as' xs ys && agree_on bs xs ys
unfolding agree_on
agree_append [] bs xs ys = refl
agree_append (f ∷ fs) bs xs ys = ap (λ b. eqb (times plain f xs) (times plain f ys) && b) (agree_append fs bs xs ys) ∙ sym (and_assoc (eqb (times plain f xs) (times plain f ys)) (agree_on fs xs ys) (agree_on bs xs ys))

-- ---- multisets of runs

-- tests in a row
no_first : (a b : Bool) {t : Bool} → false ≡ a → a && b ≡ t → false ≡ t
no_first a b e k = ap (λ c. c && b) e ∙ k

yes_first : (a b : Bool) {t : Bool} → true ≡ a → a && b ≡ t → b ≡ t
yes_first a b e k = ap (λ c. c && b) e ∙ k

module _ (s : List ℕ) (x y : List Run) {m n : ℕ} (long_x : LongIn s x m) (long_y : LongIn s y n) where
  lengths : (xs ys : List Formula) → BagReads s x xs → BagReads s y ys → eqb m n ≡ eqb (length xs) (length ys)
  lengths xs ys x_is y_is = ap₂ eqb (long_x.right xs x_is) (long_y.right ys y_is)

  pub other_lengths : (m ≡ n → ⊥) → BagsSame s x y false
  other_lengths h = record { right = λ xs ys x_is y_is. no_first _ _ (sym (ne_eqb m n h) ∙ lengths xs ys x_is y_is) (counted_same xs ys) }

  module _ (alike : m ≡ n) where
    each : (xs ys : List Formula) → BagReads s x xs → BagReads s y ys → agree_on xs xs ys ≡ same_bag xs ys
    each xs ys x_is y_is = yes_first _ _ (sym (eq-eqb m n alike) ∙ lengths xs ys x_is y_is) (counted_same xs ys)

    module _ {i : ℕ} (t : AgreeingAll s x i x y) where
      -- the formulas of a run that are not equally often in both
      pub other_run : (d : Run) {r : Bool} → i < length x → Agrees s (get_or x i d) x y r → r ≡ false → BagsSame s x y false
      other_run d h agrees e = record {
        right = λ xs ys x_is y_is.
            let here = runs_here s x d h t.walk xs x_is in
            let none : false ≡ agree_on here.formulas xs ys = sym e ∙ agrees.right here.formulas xs ys here.reads x_is y_is in
            no_first _ (agree_on here.others xs ys) none (sym (agree_append here.formulas here.others xs ys) ∙ sym (here.so xs ys x_is y_is) ∙ each xs ys x_is y_is);
      }

      pub all_runs : length x ≤ i → BagsSame s x y true
      unfolding agree_on
      all_runs h = record { right = λ xs ys x_is y_is. sym (runs_end s x h t.walk xs x_is xs ys x_is y_is) ∙ each xs ys x_is y_is }

module _ (s : List ℕ) (x y : List Run) where
  pub agreeing_all_next : {i : ℕ} (d : Run) {r : Bool} → i < length x → AgreeingAll s x i x y → Agrees s (get_or x i d) x y r → r ≡ true → AgreeingAll s x (i + 1) x y
  agreeing_all_next d h t agrees e = record {
    walk = runs_next s x d h t.walk λ fs gs rest reads so xs ys x_is y_is.
        let all : true ≡ agree_on gs xs ys = sym e ∙ agrees.right gs xs ys reads x_is y_is in
        so xs ys x_is y_is ∙ agree_append gs rest xs ys ∙ sym (yes_first _ (agree_on rest xs ys) all refl);
  }
