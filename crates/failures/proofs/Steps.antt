-- The loops of the well-formed test, step by step. Assumes nothing.
use mathlib.Core.Path.{◌≡◌, refl, sym, ap}
use mathlib.Core.Logic.{⊎_elim}
use mathlib.Core.Bool.{Bool, true, false}
use mathlib.Core.List.{List}
use Prim.Native.Nat.{ℕ, zero, suc, ◌+◌, ◌*◌, ◌≤◌, ◌<◌}
use native.Mathlib.Nat.{eq-or-lt_of_le, le_of_suc-le-suc}
use native.Mathlib.Numerals.{add-one}
use native.Mathlib.Omega.{arith}
use lib.ListN.{length}
use borrow.Author.Count.{below_more}
use Rattle.held.specs.Answers.{Tells}
use Rattle.failures.specs.Items.{Item, Listing}
use Rattle.failures.specs.Records.{item_at, items_at, Stands, Standing}
use Rattle.failures.specs.RecordsLaws.{listing_next}

-- the loop of `items_fit`: the items before place k are of held formulas and never fall, and `last` is the one before place k
pub record Fitting (m f : List ℕ) (i n last k : ℕ) : Type 0 where
  pub high : k ≤ n
  pub each : (j : ℕ) → j < k → Item m (item_at f i j)
  pub rising : (j : ℕ) → suc j < k → item_at f i j ≤ item_at f i (suc j)
  pub none : k ≡ 0 → last ≡ 0
  pub passed : (j : ℕ) → suc j ≡ k → last ≡ item_at f i j

module _ {m f : List ℕ} {i n last : ℕ} where
  falls : (k : ℕ) → Fitting m f i n last k → 2 + 32 * i + n ≤ length f → k < n → item_at f i k < last → Listing m (items_at f i n) → ⊥
  falls zero p room h l z = omega (arith, p.none refl)
  falls (suc k) p room h l z = omega (arith, p.passed k refl, listing_next m f i n room z k h)

  follows : (k : ℕ) → Fitting m f i n last k → last ≤ item_at f i k → (j : ℕ) → suc j < k + 1 → item_at f i j ≤ item_at f i (suc j)
  follows k p l j u = ⊎_elim (λ e. let e' = sym e in rw e (omega (arith, p.passed j e))) (λ v. p.rising j v) (eq-or-lt_of_le (le_of_suc-le-suc (rw (add-one k) at u)))

module _ {m f : List ℕ} {i n last k : ℕ} (p : Fitting m f i n last k) where
  pub fitting_falls : 2 + 32 * i + n ≤ length f → k < n → item_at f i k < last → Listing m (items_at f i n) → ⊥
  fitting_falls room h l z = falls k p room h l z

  pub fitting_step : k < n → last ≤ item_at f i k → Item m (item_at f i k) → Fitting m f i n (item_at f i k) (k + 1)
  fitting_step h l q =
      record {
        high = omega arith;
        each = below_more _ k p.each q;
        rising = follows k p l;
        none = λ e. absurd (omega arith);
        passed = λ j e. let e' : j ≡ k = omega arith in ap (item_at f i) (sym e');
      }

-- each failure tested, as `all` does it
pub standing_told : (m f : List ℕ) (n : ℕ) (r : Bool) → Tells r ((i : ℕ) → i < n → Stands m f i) → Tells r (Standing m f n)
standing_told m f n true h = record { stands = h }
standing_told m f n false h = λ z. h z.stands
