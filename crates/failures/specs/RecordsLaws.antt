-- Laws of the failures' words: what stands where; a failure more leaves the others as they are; the words stay well-formed. Assumes nothing.
use Rattle.std.specs.Prelude.{◌≡◌, refl, List, [], ◌∷◌, ◌++◌, ℕ, zero, suc, ◌+◌, ◌*◌, ◌≤◌, ◌<◌, get_or, length, drop}
use Rattle.std.proofs.Common.{sym, ◌∙◌, ⊎_elim, eq-or-lt_of_le, le_of_suc-le-suc, arith, length-append, length-drop, length-take-le, get_or-take, get_or-drop, ext_get_or}
use Rattle.std.proofs.Math.Path.{ap, ap₂}
use Rattle.std.proofs.Math.Numerals.{add-one}
use Rattle.std.proofs.Math.ListN.{get_or-append}
use Rattle.std.proofs.lemmas.List.{get_or_at}
use Rattle.held.specs.OrderLaws.{le_or_lt}
use Rattle.held.specs.Words.{Zeros, Extends}
use Rattle.failures.specs.Items.{Item, Listing}
use Rattle.failures.specs.ItemsLaws.{listing_grows}
use Rattle.failures.specs.Records.{most, words, tally, size_at, item_at, word_at, items_at, record_at, first, records, Stands, Standing, WfFailures, Sized, Kept, Appended}

-- the first n items of failure i
pub items_length : (f : List ℕ) (i n : ℕ) → 2 + 32 * i + n ≤ length f → length (items_at f i n) ≡ n
items_length f i n h = length-take-le n (drop (2 + 32 * i) f) (omega (arith, length-drop (2 + 32 * i) f))

pub items_item : (f : List ℕ) (i n k : ℕ) → k < n → get_or (items_at f i n) k 0 ≡ item_at f i k
items_item f i n k l = get_or-take n (drop (2 + 32 * i) f) k 0 l ∙ get_or-drop (2 + 32 * i) f k 0

-- words that say that they may be a failure's items
pub items_listing : (m f : List ℕ) (i n : ℕ) → 2 + 32 * i + n ≤ length f → ((k : ℕ) → k < n → Item m (item_at f i k)) → ((k : ℕ) → suc k < n → item_at f i k ≤ item_at f i (suc k)) → Listing m (items_at f i n)
items_listing m f i n h p q =
    let e = items_length f i n h in
    record {
      each = record { each = λ k l. let l' : k < n = omega arith in rw (items_item f i n k l') (p k l') };
      rising = record { next = λ k l. let l' : suc k < n = omega arith in let l'' : k < n = omega arith in rw (items_item f i n k l'', items_item f i n (suc k) l') (q k l') };
    }

pub listing_item : (m f : List ℕ) (i n : ℕ) → 2 + 32 * i + n ≤ length f → Listing m (items_at f i n) → (k : ℕ) → k < n → Item m (item_at f i k)
listing_item m f i n h z k l = rw (items_item f i n k l) at (z.each.each k (omega (arith, items_length f i n h)))

pub listing_next : (m f : List ℕ) (i n : ℕ) → 2 + 32 * i + n ≤ length f → Listing m (items_at f i n) → (k : ℕ) → suc k < n → item_at f i k ≤ item_at f i (suc k)
listing_next m f i n h z k l =
    let l' : k < n = omega arith in
    rw (items_item f i n k l', items_item f i n (suc k) l) at (z.rising.next k (omega (arith, items_length f i n h)))

-- word by word
word_size : (f : List ℕ) (i : ℕ) → word_at f i 0 ≡ size_at f i
word_size f i = let e : 1 + 32 * i + 0 ≡ 1 + 32 * i = omega arith in ap (λ n. get_or f n 0) e

word_item : (f : List ℕ) (i k : ℕ) → word_at f i (suc k) ≡ item_at f i k
word_item f i k = let e : 1 + 32 * i + suc k ≡ 2 + 32 * i + k = omega arith in ap (λ n. get_or f n 0) e

-- failures whose words are the same have the same items
pub record_same :
    (f f' : List ℕ) (i i' : ℕ) → size_at f i ≤ 31 → 33 + 32 * i ≤ length f → 33 + 32 * i' ≤ length f' → ((k : ℕ) → k < 32 → word_at f' i' k ≡ word_at f i k) →
    record_at f' i' ≡ record_at f i
record_same f f' i i' s h h' g =
    let e : size_at f' i' ≡ size_at f i = sym (word_size f' i') ∙ g 0 (omega arith) ∙ word_size f i in
    let p = items_length f i (size_at f i) (omega arith) in
    let q = items_length f' i' (size_at f' i') (omega arith) in
    ext_get_or 0 (record_at f' i') (record_at f i) (q ∙ e ∙ sym p)
    (λ k l.
    items_item f' i' (size_at f' i') k (omega arith)
    ∙ sym (word_item f' i' k)
    ∙ g (suc k) (omega arith)
    ∙ word_item f i k
    ∙ sym (items_item f i (size_at f i) k (omega arith)))

-- and the other way round, where the rest of their words are zero
module _
    (f f' : List ℕ) (i i' : ℕ) (room : 33 + 32 * i ≤ length f) (room' : 33 + 32 * i' ≤ length f') (few : size_at f i ≤ 31) (few' : size_at f' i' ≤ 31)
    (rest : Zeros f (2 + 32 * i + size_at f i) (33 + 32 * i)) (rest' : Zeros f' (2 + 32 * i' + size_at f' i') (33 + 32 * i')) (e : record_at f i ≡ record_at f' i') where
  same_size : size_at f i ≡ size_at f' i'
  same_size = sym (items_length f i (size_at f i) (omega arith)) ∙ ap length e ∙ items_length f' i' (size_at f' i') (omega arith)

  same_item : (k : ℕ) → k < 31 → item_at f i k ≡ item_at f' i' k
  same_item k u = ⊎_elim beyond inside (le_or_lt (size_at f i) k)
    where
      beyond : size_at f i ≤ k → item_at f i k ≡ item_at f' i' k
      beyond h = rest.zero (2 + 32 * i + k) (omega arith) (omega arith) ∙ sym (rest'.zero (2 + 32 * i' + k) (omega (arith, same_size)) (omega arith))

      inside : k < size_at f i → item_at f i k ≡ item_at f' i' k
      inside h = sym (items_item f i (size_at f i) k h) ∙ ap (λ xs. get_or xs k 0) e ∙ items_item f' i' (size_at f' i') k (omega (arith, same_size))

  pub same_word : (k : ℕ) → k < 32 → word_at f i k ≡ word_at f' i' k
  same_word zero u = word_size f i ∙ same_size ∙ sym (word_size f' i')
  same_word (suc k) u = word_item f i k ∙ same_item k (omega arith) ∙ sym (word_item f' i' k)

-- the first n failures
pub first_length : (f : List ℕ) (n : ℕ) → length (first f n) ≡ n
unfolding first
first_length f zero = refl
first_length f (suc n) = length-append (first f n) _ ∙ (ap (λ k. k + 1) (first_length f n) ∙ add-one n)

pub first_at : (f : List ℕ) (n i : ℕ) → i < n → get_or (first f n) i [] ≡ record_at f i
unfolding first
first_at f zero i l = absurd (omega arith)
first_at f (suc n) i l = ⊎_elim (λ e. last e) (λ u. get_or-append (first f n) _ [] i (rw (first_length f n) u) ∙ first_at f n i u) (eq-or-lt_of_le (le_of_suc-le-suc l))
  where
    last : i ≡ n → get_or (first f n ++ (record_at f n ∷ [])) i [] ≡ record_at f i
    last e = rw e (get_or_at (first f n) _ [] [] n (first_length f n))

pub first_same : (f f' : List ℕ) (n : ℕ) → ((i : ℕ) → i < n → record_at f' i ≡ record_at f i) → first f' n ≡ first f n
unfolding first
first_same f f' zero g = refl
first_same f f' (suc n) g = ap₂ (λ fs x. fs ++ (x ∷ [])) (first_same f f' n (λ i l. g i (omega arith))) (g n (omega arith))

-- well-formed failures lie within the words, and stand in order
pub standing_sized : {m f : List ℕ} {n : ℕ} → length f ≡ words → n ≤ most → Standing m f n → Sized f n
standing_sized e l z = record { long = e; low = l; small = λ i u. (z.stands i u).few }

pub wf_kept : {m f : List ℕ} → WfFailures m f → Kept f (tally f)
wf_kept z = record { within = standing_sized z.sized z.few z.failures; order = z.order }

-- a failure more: the others stay as they are, and it stands last
module _ {m f : List ℕ} {xs f' : List ℕ} (z : WfFailures m f) (room : tally f < most) (a : Appended f (tally f) xs f') where
  record_kept : (i : ℕ) → i < tally f → record_at f' i ≡ record_at f i
  record_kept i l =
      record_same f f' i i (z.failures.stands i l).few (omega (arith, z.sized)) (omega (arith, z.sized, a.long))
      (λ k u. a.before (1 + 32 * i + k) (omega arith) (omega arith))

  pub records_appended : records f' ≡ records f ++ (xs ∷ [])
  unfolding first
  records_appended =
      ap (first f') (a.counted ∙ add-one (tally f))
      ∙ ap₂ (λ fs x. fs ++ (x ∷ [])) (first_same f f' (tally f) record_kept) a.here

  pub wf_appended : Listing m xs → length xs ≤ 31 → WfFailures m f'
  wf_appended listing few =
      record {
        sized = a.long ∙ z.sized;
        few = omega (arith, a.counted);
        failures = record { stands = λ i l. ⊎_elim last old (eq-or-lt_of_le (le_of_suc-le-suc (rw (a.counted ∙ add-one (tally f)) at l))) };
        order = rw a.counted a.order;
        rest = record { zero = λ k h l. a.after k (omega (arith, a.counted)) l ∙ z.rest.zero k (omega (arith, a.counted)) l };
        unused = record { zero = λ k h l. a.unused k (omega (arith, a.counted)) ∙ z.unused.zero k (omega (arith, a.counted)) l };
      }
    where
      old : {i : ℕ} → i < tally f → Stands m f' i
      old {i} l =
          let s = z.failures.stands i l in
          let e : size_at f' i ≡ size_at f i = a.before (1 + 32 * i) (omega arith) (omega arith) in
          record {
            few = omega (arith, s.few);
            items = rw (record_kept i l) s.items;
            rest = record { zero = λ k h u. a.before k (omega arith) (omega arith) ∙ s.rest.zero k (omega arith) u };
          }

      last : {i : ℕ} → i ≡ tally f → Stands m f' i
      last {i} e =
          rw e
          record {
            few = omega (arith, a.size);
            items = rw a.here listing;
            rest = record { zero = λ k h u. a.after k (omega (arith, a.size)) (omega arith) ∙ z.rest.zero k (omega arith) (omega arith) };
          }

-- more formulas held
pub failures_grow : {m m' f : List ℕ} → Extends m m' → WfFailures m f → WfFailures m' f
failures_grow grew z =
    record {
      sized = z.sized;
      few = z.few;
      failures = record { stands = λ i l. let s = z.failures.stands i l in record { few = s.few; items = listing_grows grew s.items; rest = s.rest } };
      order = z.order;
      rest = z.rest;
      unused = z.unused;
    }

-- words that are all zero
pub reset_wf : (m : List ℕ) {f' : List ℕ} → length f' ≡ words → Zeros f' 0 words → WfFailures m f'
reset_wf m {f'} e z =
    let none : tally f' ≡ 0 = z.zero 0 (omega arith) (omega arith) in
    record {
      sized = e;
      few = omega arith;
      failures = record { stands = λ i l. absurd (omega arith) };
      order = record { places = λ j l. absurd (omega arith) };
      rest = record { zero = λ k h l. z.zero k (omega arith) (omega arith) };
      unused = record { zero = λ k h l. z.zero k (omega arith) l };
    }

pub reset_records : {f' : List ℕ} → Zeros f' 0 words → records f' ≡ []
unfolding first
reset_records {f'} z = ap (first f') (z.zero 0 (omega arith) (omega arith))
