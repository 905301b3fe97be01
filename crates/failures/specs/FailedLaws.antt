-- Laws of the recorded failures as keys: looking items up is `contains`, recording them is `record_failure`; failures keep their meaning when more formulas are held; the words are settled
-- by what they say. Callers cite these. Assumes nothing.
use Rattle.std.specs.Prelude.{◌≡◌, ◌⊎◌, Bool, ◌||◌, List, [], ◌∷◌, ◌++◌, map, get_or, length}
use Rattle.std.proofs.Math.Path.{refl, ap}
use Rattle.std.proofs.Common.{sym, ap₂, subst, ◌∙◌, ⊎_elim, inl, inr, eq-or-lt_of_le, le_of_suc-le-suc, arith, ext_get_or}
use Rattle.std.proofs.Math.Bool.{true, false}
use Rattle.std.proofs.lemmas.Bool.{false≢true}
use Rattle.std.proofs.lemmas.List.{map-append, length-map}
use Prim.Native.Nat.{ℕ, zero, suc, ◌+◌, ◌-◌, ◌*◌, ◌/◌, ◌%◌, ◌≤◌, ◌<◌}
use Rattle.std.proofs.Math.ListN.{get_or-map}
use Rattle.logic.specs.Formula.{Formula}
use Rattle.logic.specs.Key.{Key, sequent_key, same_bag, contains}
use Rattle.logic.proofs.Bags.{same_bag_iff}
use Rattle.logic.specs.Legal.{Same, plain}
use Rattle.logic.proofs.SameLaws.{same_of, same_sym, same_trans}
use Rattle.logic.specs.Outcome.{State}
use Rattle.zones.specs.declared.Zones.{Zones}
use Rattle.zones.specs.Zones.{meant}
use Rattle.held.specs.Answers.{Tells}
use Rattle.held.specs.OrderLaws.{Rising, settled, le_or_lt}
use Rattle.held.specs.Words.{told, Wf, Extends, Zeros}
use Rattle.failures.specs.declared.items.Items.{Items}
use Rattle.failures.specs.declared.Noted.{Noted}
use Rattle.failures.specs.declared.Noted.TheVariants as noted
use Rattle.failures.specs.Alike.{Alike}
use Rattle.failures.specs.AlikeLaws.{alike_of, alike_trans, alike_snoc, alike_length, alike_at, contains_alike, record_known, record_full, record_new}
use Rattle.failures.specs.Items.{key_items, key_of, Listing, Names, listed, Lists}
use Rattle.failures.specs.ItemsLaws.{keys_once, key_items_key, key_items_listing, key_items_length, key_grows}
use Rattle.failures.specs.Records.{words, orders, tally, word_at, record_at, order_at, code, code_at, first, records, Standing, WfFailures, Among, NotedTo}
use Rattle.failures.specs.RecordsLaws.{same_word, first_length, first_at, records_appended, wf_appended, reset_records}
use Rattle.failures.specs.OrderLaws.{ordered_rising}
use Rattle.failures.specs.Failed.{failed, NotedAs, Recording}

-- as many keys as failures
pub failed_length : (told : ℕ → Formula) (f : List ℕ) → length (failed told f) ≡ tally f
failed_length told f = length-map (records f) (key_of told) ∙ first_length f (tally f)

pub failed_none : (told : ℕ → Formula) {f : List ℕ} → Zeros f 0 words → failed told f ≡ []
failed_none told z = ap (map (key_of told)) (reset_records z)

-- what is recorded keeps its meaning when more formulas are held
first_grows : {m m' : List ℕ} → Extends m m' → (f : List ℕ) (n : ℕ) → Standing m f n → map (key_of (told m')) (first f n) ≡ map (key_of (told m)) (first f n)
unfolding first
first_grows grew f zero z = refl
first_grows {m} {m'} grew f (suc n) z =
    map-append (key_of (told m')) (first f n) _
    ∙ ap₂ (λ ks k. ks ++ (k ∷ [])) (first_grows grew f n record { stands = λ i l. z.stands i (omega arith) }) (key_grows grew (record_at f n) (z.stands n (omega arith)).items)
    ∙ sym (map-append (key_of (told m)) (first f n) _)

pub failed_grows : {m m' : List ℕ} → Extends m m' → {f : List ℕ} → WfFailures m f → failed (told m') f ≡ failed (told m) f
failed_grows grew {f} z = first_grows grew f (tally f) z.failures

-- a key is contained exactly where one of the failures has it
contains_snoc : (ks : List Key) (l k : Key) → contains (ks ++ (l ∷ [])) k ≡ (contains ks k || same_bag l k)
unfolding contains
contains_snoc [] l k = go (same_bag l k)
  where
    go : (b : Bool) → (elim b as (λ _. Bool) [ true ↦ true | false ↦ false ]) ≡ b
    go true = refl
    go false = refl
contains_snoc (j ∷ ks) l k = go (same_bag j k) (contains_snoc ks l k)
  where
    go : (b : Bool) → contains (ks ++ (l ∷ [])) k ≡ (contains ks k || same_bag l k) → (elim b as (λ _. Bool) [ true ↦ true | false ↦ contains (ks ++ (l ∷ [])) k ]) ≡ ((elim b as (λ _. Bool) [ true ↦ true | false ↦ contains ks k ]) || same_bag l k)
    go true e = refl
    go false e = e

-- failure `place` has the key k
record Has (told : ℕ → Formula) (f : List ℕ) (n : ℕ) (k : Key) : Type 0 where
  place : ℕ
  low : place < n
  same : Same plain (key_of told (record_at f place)) k

module _ (told : ℕ → Formula) (f : List ℕ) (k : Key) where
  abbrev keys : ℕ → List Key
  keys n = map (key_of told) (first f n)

  keys_step : (n : ℕ) → contains (keys (suc n)) k ≡ (contains (keys n) k || same_bag (key_of told (record_at f n)) k)
  unfolding first
  keys_step n = ap (λ ks. contains ks k) (map-append (key_of told) (first f n) _) ∙ contains_snoc (keys n) (key_of told (record_at f n)) k

  contains_has : (n : ℕ) → contains (keys n) k ≡ true → Has told f n k
  unfolding first contains
  contains_has zero e = absurd (false≢true e)
  contains_has (suc n) e = go (contains (keys n) k) (sym (keys_step n) ∙ e) (contains_has n)
    where
      go : (b : Bool) → (b || same_bag (key_of told (record_at f n)) k) ≡ true → (b ≡ true → Has told f n k) → Has told f (suc n) k
      go true e rest = let h = rest refl in record { place = h.place; low = omega (arith, h.low); same = h.same }
      go false e rest = record { place = n; low = omega arith; same = (same_bag_iff _ _).0 e }

  has_contains : (n : ℕ) → Has told f n k → contains (keys n) k ≡ true
  has_contains zero h = absurd (omega (arith, h.low))
  has_contains (suc n) h = keys_step n ∙ go (contains (keys n) k) refl (eq-or-lt_of_le (le_of_suc-le-suc h.low)) (has_contains n)
    where
      go : (b : Bool) → contains (keys n) k ≡ b → (h.place ≡ n) ⊎ (h.place < n) → (Has told f n k → contains (keys n) k ≡ true) → (b || same_bag (key_of told (record_at f n)) k) ≡ true
      go true q u rest = refl
      go false q (inl e) rest = (same_bag_iff _ _).1 (rw e at h.same)
      go false q (inr l) rest = absurd (false≢true (sym q ∙ rest record { place = h.place; low = l; same = h.same }))

-- looking items up is `contains`
module _ {m : List ℕ} (wf : Wf m) {f : List ℕ} (z : WfFailures m f) {xs : List ℕ} (listing : Listing m xs) (k : Key) (key : Same plain (key_of (told m) xs) k) where
  among_has : Among f (tally f) xs → Has (told m) f (tally f) k
  among_has a = record { place = a.place; low = a.low; same = same_trans (same_of (ap (key_of (told m)) a.here)) key }

  has_among : Has (told m) f (tally f) k → Among f (tally f) xs
  has_among h =
      record {
        place = h.place;
        low = h.low;
        here = (keys_once wf (record_at f h.place) xs (z.failures.stands h.place h.low).items listing).1 (same_trans h.same (same_sym key));
      }

  among_contains : Among f (tally f) xs → contains (failed (told m) f) k ≡ true
  among_contains a = has_contains (told m) f k (tally f) (among_has a)

  not_among_contains : (Among f (tally f) xs → ⊥) → contains (failed (told m) f) k ≡ false
  not_among_contains h = go (contains (failed (told m) f) k) refl
    where
      go : (b : Bool) → contains (failed (told m) f) k ≡ b → b ≡ false
      go true e = absurd (h (has_among (contains_has (told m) f k (tally f) e)))
      go false e = refl

  tells_contains : (r : Bool) → Tells r (Among f (tally f) xs) → r ≡ contains (failed (told m) f) k
  tells_contains true a = sym (among_contains a)
  tells_contains false h = sym (not_among_contains h)

  noted_as : length xs ≤ 31 → (r : Noted) {f' : List ℕ} → NotedTo f xs r f' → WfFailures m f' × NotedAs (failed (told m) f) k r (failed (told m) f')
  noted_as few noted.Known {f'} n = (rw n.same z, record { known = among_contains n.known; same = ap (failed (told m)) n.same })
  noted_as few noted.Recorded {f'} n = (
    wf_appended z n.room n.appended listing few,
    record {
      new = not_among_contains n.new;
      room = omega (arith, failed_length (told m) f, n.room);
      key = key_of (told m) xs;
      same = key;
      last = ap (map (key_of (told m))) (records_appended z n.room n.appended) ∙ map-append (key_of (told m)) (records f) (xs ∷ []);
    },
  )
  noted_as few noted.Full {f'} n =
      (rw n.same z, record { new = not_among_contains n.new; full = omega (arith, failed_length (told m) f, n.full); same = ap (failed (told m)) n.same })

-- the failures of a memory, and a sequent's items
module _ {m f : List ℕ} (z : WfFailures m f) {q : Zones} (names : Names m q) {s : Items} (lists : Lists s (key_items m q)) where
  pub known_contains : (r : Bool) → Tells r (Among f (tally f) (listed s)) → r ≡ contains (failed (told m) f) (sequent_key (meant (told m) q))
  known_contains r t =
      tells_contains names.wf z (key_items_listing names.wf names.within) _ (key_items_key names.wf names.within) r
      (rw lists.list at t)

  pub noted_keys : (r : Noted) {f' : List ℕ} → NotedTo f (listed s) r f' → WfFailures m f' × NotedAs (failed (told m) f) (sequent_key (meant (told m) q)) r (failed (told m) f')
  noted_keys r {f'} n =
      noted_as names.wf z (key_items_listing names.wf names.within) _ (key_items_key names.wf names.within) (key_items_length names) r
      (subst (λ xs. NotedTo f xs r f') lists.list n)

-- recording is `record_failure`
pub noted_recording : (s : State) {ks : List Key} (k : Key) (r : Noted) {js : List Key} → Alike ks s.memory.failures → NotedAs ks k r js → Recording s k r js
noted_recording s k noted.Known a n =
    record {
      failures = s.memory.failures;
      answers = record_known s k _ (sym (contains_alike a (same_of refl)) ∙ n.known);
      alike = rw n.same a;
    }
noted_recording s k noted.Recorded a n =
    record {
      failures = s.memory.failures ++ (k ∷ []);
      answers = record_new s k (sym (contains_alike a (same_of refl)) ∙ n.new) (omega (arith, alike_length a, n.room));
      alike = alike_trans (alike_of n.last) (alike_snoc a n.same);
    }
noted_recording s k noted.Full a n =
    record {
      failures = s.memory.failures;
      answers = record_full s k (sym (contains_alike a (same_of refl)) ∙ n.new) (omega (arith, alike_length a, n.full));
      alike = rw n.same a;
    }

-- one state, one image: the words are settled by the failures they say
module _ {m : List ℕ} (wf : Wf m) {f f' : List ℕ} (z : WfFailures m f) (z' : WfFailures m f') (a : Alike (failed (told m) f) (failed (told m) f')) where
  tallies : tally f ≡ tally f'
  tallies = sym (failed_length (told m) f) ∙ alike_length a ∙ failed_length (told m) f'

  image_record : (i : ℕ) → i < tally f → record_at f i ≡ record_at f' i
  image_record i l =
      let l' : i < tally f' = omega (arith, tallies) in
      (keys_once wf (record_at f i) (record_at f' i) (z.failures.stands i l).items (z'.failures.stands i l').items).1
      (same_trans
      (same_of (sym (get_or-map (key_of (told m)) (records f) i [] ∙ ap (key_of (told m)) (first_at f (tally f) i l))))
      (same_trans (alike_at a i) (same_of (get_or-map (key_of (told m)) (records f') i [] ∙ ap (key_of (told m)) (first_at f' (tally f') i l')))))

  image_word : (i : ℕ) → i < tally f → (k : ℕ) → k < 32 → word_at f i k ≡ word_at f' i k
  image_word i l =
      let l' : i < tally f' = omega (arith, tallies) in
      let s = z.failures.stands i l in
      let s' = z'.failures.stands i l' in
      same_word f f' i i (omega (arith, z.sized, z.few)) (omega (arith, z'.sized, z'.few)) s.few s'.few s.rest s'.rest (image_record i l)

  image_order : (j : ℕ) → j < tally f → order_at f j ≡ order_at f' j
  image_order = settled (code_at f) (order_at f) (order_at f') (tally f) (ordered_rising z.order) record { low = other.low; above = above }
    where
      other : Rising (code_at f') (order_at f') (tally f)
      other = rw tallies (ordered_rising z'.order)

      same : (j : ℕ) → j < tally f → code_at f (order_at f' j) ≡ code_at f' (order_at f' j)
      same j l = ap code (image_record (order_at f' j) (other.low j l))

      above : (i j : ℕ) → i < j → j < tally f → code_at f (order_at f' i) < code_at f (order_at f' j)
      above i j l u = omega (arith, other.above i j l u, same i (omega arith), same j u)

  image_at : (k : ℕ) → k < words → get_or f k 0 ≡ get_or f' k 0
  image_at zero l = tallies
  image_at (suc k) l = ⊎_elim (λ u. ⊎_elim unused (order u) (le_or_lt (orders + tally f) (suc k))) (λ u. ⊎_elim (rest u) used (le_or_lt (tally f) (k / 32))) (le_or_lt orders (suc k))
    where
      used : k / 32 < tally f → get_or f (suc k) 0 ≡ get_or f' (suc k) 0
      used h =
          let e : 1 + 32 * (k / 32) + k % 32 ≡ suc k = omega arith in
          rw (← e) (image_word (k / 32) h (k % 32) (omega arith))

      rest : suc k < orders → tally f ≤ k / 32 → get_or f (suc k) 0 ≡ get_or f' (suc k) 0
      rest u h = z.rest.zero (suc k) (omega arith) u ∙ sym (z'.rest.zero (suc k) (omega (arith, tallies)) u)

      order : orders ≤ suc k → suc k < orders + tally f → get_or f (suc k) 0 ≡ get_or f' (suc k) 0
      order u h =
          let e : orders + (suc k - orders) ≡ suc k = omega arith in
          rw (← e) (image_order (suc k - orders) (omega arith))

      unused : orders + tally f ≤ suc k → get_or f (suc k) 0 ≡ get_or f' (suc k) 0
      unused h = z.unused.zero (suc k) h l ∙ sym (z'.unused.zero (suc k) (omega (arith, tallies)) l)

  pub image_once : f ≡ f'
  image_once = ext_get_or 0 f f' (z.sized ∙ sym z'.sized) (λ k l. image_at k (omega (arith, z.sized)))
