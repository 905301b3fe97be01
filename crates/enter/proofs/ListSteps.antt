-- Steps of entering the formulas of a zone and of negating listed formulas: each loop's invariant, with a lemma for its start, its turn and its end. Assumes nothing.
use Rattle.std.specs.Prelude.{None, Some}
use mathlib.Core.Path.{◌≡◌, refl, sym, ap, ◌∙◌}
use mathlib.Core.Logic.{◌⊎◌, inl, inr, ⊎_elim}
use mathlib.Core.List.{List, [], ◌∷◌, ◌++◌, map, append_assoc}
use Prim.Native.Nat.{ℕ, zero, suc, ◌+◌, ◌-◌, ◌≤◌, ◌<◌}
use native.Mathlib.Omega.{arith}
use native.Mathlib.Nat.{lt_of_lt_of_le, le_of_suc-le-suc, eq-or-lt_of_le}
use native.Mathlib.Numerals.{add-one}
use lib.ListN.{get_or, length, take, drop, set, length-set, drop_of_length-le, length-drop, take-append-drop, length-map}
use lib.Seq.{slice, length-slice, take-suc, drop-cons, drop-drop, drop_at, length-take-le, take_all, get_or-take, get_or-set_same, get_or-set_other}
use Rattle.logic.specs.Formula.{Formula, One, negate, height, size}
use Rattle.logic.proofs.FormulaLaws.{size_positive}
use Rattle.logic.specs.Held.{enter, enter_all}
use Rattle.wire.specs.Write.{write_formula, write_formulas}
use Rattle.wire.specs.Read.{got, read_all}
use Rattle.wire.specs.Fits.{FormulasFit}
use Rattle.wire.proofs.FormulaBytes.{length_write}
use Rattle.wire.proofs.ZoneBytes.{length_write_formulas, drop_split}
use Rattle.formula.specs.Signs.{Stands}
use Rattle.held.specs.EnterLaws.{enter_all_longer}
use Rattle.held.specs.Words.{count, most, view, told, named, Wf, Extends}
use Rattle.held.specs.WordsLaws.{extends_refl, extends_trans, keeps}
use Rattle.held.specs.Turn.{Entered, Refused}
use Rattle.held.specs.OrderLaws.{le_or_lt}
use Rattle.enter.specs.Standing.{Enterable, EnteredFrom}
use Rattle.enter.specs.Lists.{Names, Zone, Zoned, OverAll, ListedAll, Negatable}

-- ---- lists entered one after another

pub enter_all_append : (fs gs hs : List Formula) → enter_all (fs ++ gs) hs ≡ enter_all gs (enter_all fs hs)
unfolding enter_all
enter_all_append [] gs hs = refl
enter_all_append (f ∷ fs) gs hs = enter_all_append fs gs (enter f hs)

-- one formula more
enter_all_more : (fs : List Formula) (n : ℕ) (hs : List Formula) → n < length fs → enter_all (take (n + 1) fs) hs ≡ enter (get_or fs n One) (enter_all (take n fs) hs)
unfolding enter_all
enter_all_more fs n hs l = rw (add-one n, take-suc fs n One) (enter_all_append (take n fs) (get_or fs n One ∷ []) hs)

-- what one of them lacks room for, all do
enter_all_over : (fs : List Formula) (n : ℕ) (hs : List Formula) → n < length fs → most < length (enter (get_or fs n One) (enter_all (take n fs) hs)) → most < length (enter_all fs hs)
enter_all_over fs n hs l h =
    let e : enter_all fs hs ≡ enter_all (drop (n + 1) fs) (enter_all (take (n + 1) fs) hs) = ap (λ gs. enter_all gs hs) (sym (take-append-drop (n + 1) fs)) ∙ enter_all_append (take (n + 1) fs) (drop (n + 1) fs) hs in
    let k = enter_all_more fs n hs l in
    rw (e, k) (lt_of_lt_of_le h (enter_all_longer (drop (n + 1) fs) (enter (get_or fs n One) (enter_all (take n fs) hs)) (enter (get_or fs n One) (enter_all (take n fs) hs)) (omega arith)))

-- ---- lists of numbers

pub names_kept : (m m' numbers : List ℕ) (from n : ℕ) (fs : List Formula) → Extends m m' → Names m numbers from n fs → Names m' numbers from n fs
names_kept m m' numbers from n fs p z =
    record { low = λ j l. lt_of_lt_of_le (z.low j l) p.more; here = λ j l. keeps m m' p (get_or numbers (from + j) 0) (z.low j l) ∙ z.here j l }

names_more : (m numbers : List ℕ) (from n : ℕ) (fs : List Formula) (i : ℕ) → Names m numbers from n fs → from + n < length numbers → i < count m → told m i ≡ get_or fs n One → Names m (set numbers (from + n) i) from (n + 1) fs
names_more m numbers from n fs i z room l e = record { low = λ j u. low j (eq-or-lt_of_le (le j u)); here = λ j u. here j (eq-or-lt_of_le (le j u)) }
  where
    le : (j : ℕ) → j < n + 1 → j ≤ n
    le j u = omega arith

    low : (j : ℕ) → (j ≡ n) ⊎ (j < n) → get_or (set numbers (from + n) i) (from + j) 0 < count m
    low j (inl q) = rw (q, get_or-set_same numbers (from + n) i 0 room) l
    low j (inr q) = rw (get_or-set_other numbers (from + n) (from + j) i 0 (λ e. omega arith)) (z.low j q)

    here : (j : ℕ) → (j ≡ n) ⊎ (j < n) → told m (get_or (set numbers (from + n) i) (from + j) 0) ≡ get_or fs j One
    here j (inl q) = rw (q, get_or-set_same numbers (from + n) i 0 room) e
    here j (inr q) = rw (get_or-set_other numbers (from + n) (from + j) i 0 (λ e. omega arith)) (z.here j q)

-- ---- the formulas of a zone

-- each formula of a list that fits, fits
fits_at : (fs : List Formula) (n : ℕ) → FormulasFit fs → n < length fs → height (get_or fs n One) ≤ 64
fits_at [] n z l = absurd (omega arith)
fits_at (f ∷ fs) zero z l = z.0.height_fits
fits_at (f ∷ fs) (suc n) z l = fits_at fs n z.1 (le_of_suc-le-suc l)

module _ (m₀ s : List ℕ) (at end : ℕ) (numbers₀ : List ℕ) (from : ℕ) (fs : List Formula) where
  -- the first n formulas are entered and listed, and the others stand from p on
  pub record Listing (m numbers : List ℕ) (p n : ℕ) : Type 0 where
    pub few : n ≤ length fs
    pub started : at ≤ p
    pub within : p ≤ end
    pub ahead : slice p end s ≡ write_formulas (drop n fs)
    pub long : length numbers ≡ length numbers₀
    pub kept : (j : ℕ) → j < from → get_or numbers j 0 ≡ get_or numbers₀ j 0
    pub names : Names m numbers from n fs
    pub wf : Wf m
    pub grew : Extends m₀ m
    pub all : view m ≡ enter_all (take n fs) (view m₀)

module _ (m₀ s : List ℕ) (at end : ℕ) (numbers₀ : List ℕ) (from : ℕ) (z : Zoned m₀ s at end numbers₀ from) where
  pub listing_starts : Listing m₀ s at end numbers₀ from z.formulas m₀ numbers₀ at 0
  unfolding enter_all
  listing_starts =
      record {
        few = omega arith;
        started = omega arith;
        within = z.zone.ordered;
        ahead = z.zone.bytes_are;
        long = refl;
        kept = λ j l. refl;
        names = record { low = λ j l. absurd (omega arith); here = λ j l. absurd (omega arith) };
        wf = z.wf;
        grew = extends_refl m₀;
        all = refl;
      }

  module _ (m numbers : List ℕ) (p n : ℕ) (w : Listing m₀ s at end numbers₀ from z.formulas m numbers p n) where
    left_size : length (write_formulas (drop n z.formulas)) ≡ end - p
    left_size = sym (ap length w.ahead) ∙ length-slice p end s z.zone.inside

    none_left : length z.formulas ≤ n → end - p ≡ 0
    unfolding write_formulas
    none_left l = let e : drop n z.formulas ≡ [] = drop_of_length-le z.formulas l in sym left_size ∙ ap (λ gs. length (write_formulas gs)) e

    -- at a place before the end there is one more
    pub listing_more_left : p < end → n < length z.formulas
    listing_more_left h = ⊎_elim (λ l. absurd (omega (arith, none_left l))) (λ l. l) (le_or_lt (length z.formulas) n)

    module _ (h : p < end) where
      abbrev next_formula : Formula
      next_formula = get_or z.formulas n One

      next_split : drop n z.formulas ≡ next_formula ∷ drop (suc n) z.formulas
      next_split = drop-cons z.formulas n One (listing_more_left h)

      next_bytes : slice p end s ≡ write_formula next_formula ++ write_formulas (drop (suc n) z.formulas)
      unfolding write_formulas
      next_bytes = w.ahead ∙ ap write_formulas next_split

      next_size : size next_formula + length (write_formulas (drop (suc n) z.formulas)) ≡ end - p
      next_size = sym (length_write_formulas next_formula (drop (suc n) z.formulas)) ∙ (ap (λ gs. length (write_formulas gs)) (sym next_split) ∙ left_size)

      next_stands : Stands s p next_formula
      next_stands =
          record {
            rest = write_formulas (drop (suc n) z.formulas) ++ drop end s;
            here = drop_split s p end w.within z.zone.inside ∙ (ap (λ bs. bs ++ drop end s) next_bytes ∙ append_assoc (write_formula next_formula) (write_formulas (drop (suc n) z.formulas)) (drop end s));
          }

      zone_size : length (write_formulas z.formulas) ≡ end - at
      zone_size = sym (ap length z.zone.bytes_are) ∙ length-slice at end s z.zone.inside

      pub listing_ready : Enterable m s p
      listing_ready =
          record {
            wf = w.wf;
            formula = next_formula;
            stands = next_stands;
            tall = fits_at z.formulas n z.fits.formulas_fit (listing_more_left h);
            wide = omega (arith, next_size, zone_size, z.fits.zone_short, w.started);
          }

      pub listing_over : (m' : List ℕ) → EnteredFrom m s p None m' → OverAll m₀ z.formulas m'
      listing_over m' x =
          let o = x next_formula next_stands in
          record { wf = o.wf; grew = extends_trans w.grew o.grew; over = enter_all_over z.formulas n (view m₀) (listing_more_left h) (rw (← w.all) o.over) }

      module _ (i next : ℕ) (m' : List ℕ) (x : EnteredFrom m s p (Some (i, next)) m') where
        next_place : next ≡ p + size next_formula
        next_place = (x next_formula next_stands).0

        next_entered : Entered m next_formula i m'
        next_entered = (x next_formula next_stands).1

        pub listing_fits : i < 65536
        listing_fits = omega (arith, next_entered.low, next_entered.wf.few)

        pub listing_falls : p < next
        listing_falls = omega (arith, next_place, size_positive next_formula)

        pub listing_room : from + n < length numbers
        listing_room = omega (arith, z.room, w.long, listing_more_left h)

        next_ahead : slice next end s ≡ write_formulas (drop (n + 1) z.formulas)
        next_ahead =
            rw (next_place, add-one n)
            (sym (drop-drop (size next_formula) p (take end s))
            ∙ (ap (drop (size next_formula)) next_bytes
            ∙ drop_at (write_formula next_formula) (write_formulas (drop (suc n) z.formulas)) (size next_formula) (length_write next_formula)))

        pub listing_more : Listing m₀ s at end numbers₀ from z.formulas m' (set numbers (from + n) i) next (n + 1)
        listing_more =
            record {
              few = omega (arith, listing_more_left h);
              started = omega (arith, next_place, w.started);
              within = omega (arith, next_place, next_size);
              ahead = next_ahead;
              long = length-set numbers (from + n) i ∙ w.long;
              kept = λ j l. get_or-set_other numbers (from + n) j i 0 (λ e. omega arith) ∙ w.kept j l;
              names = names_more m' numbers from n z.formulas i (names_kept m m' numbers from n z.formulas next_entered.grew w.names) listing_room next_entered.low next_entered.here;
              wf = next_entered.wf;
              grew = extends_trans w.grew next_entered.grew;
              all = next_entered.all ∙ (ap (enter next_formula) w.all ∙ sym (enter_all_more z.formulas n (view m₀) (listing_more_left h)));
            }

    pub listing_ends : end ≤ p → ListedAll m₀ z.formulas numbers₀ from n m numbers
    listing_ends h =
        let e : n ≡ length z.formulas = ends in
        record {
          entered = record { wf = w.wf; grew = w.grew; all = w.all ∙ ap (λ gs. enter_all gs (view m₀)) (take_all n z.formulas (omega arith)) };
          counted = e;
          names = w.names;
          long = w.long;
          kept = w.kept;
        }
      where
        all_written : (gs : List Formula) → length (write_formulas gs) ≡ 0 → length gs ≡ 0
        all_written [] q = refl
        all_written (g ∷ gs) q = absurd (omega (arith, length_write_formulas g gs, size_positive g))

        ends : n ≡ length z.formulas
        ends = omega (arith, all_written (drop n z.formulas) (omega (arith, left_size)), length-drop n z.formulas, w.few)

-- the loop's invariant, with what the zone is
pub record ListingOf (m₀ s : List ℕ) (at end : ℕ) (numbers₀ : List ℕ) (from : ℕ) (m numbers : List ℕ) (p n : ℕ) : Type 0 where
  pub given : Zoned m₀ s at end numbers₀ from
  pub far : Listing m₀ s at end numbers₀ from given.formulas m numbers p n

-- the formulas that are read there are the zone's
read_same : (s : List ℕ) (at end : ℕ) (fs gs : List Formula) → Zone s at end fs → read_all (slice at end s) ≡ got gs [] → fs ≡ gs
read_same s at end fs gs z e = let q : got fs [] ≡ got gs [] = sym z.read ∙ e in cc

pub listed_all : (m s : List ℕ) (at end : ℕ) (numbers : List ℕ) (from : ℕ) (z : Zoned m s at end numbers from) (n : ℕ) (m' numbers' : List ℕ) → ListedAll m z.formulas numbers from n m' numbers' → (fs : List Formula) → read_all (slice at end s) ≡ got fs [] → ListedAll m fs numbers from n m' numbers'
listed_all m s at end numbers from z n m' numbers' w fs e = rw (read_same s at end z.formulas fs z.zone e) at w

pub over_all : (m s : List ℕ) (at end : ℕ) (numbers : List ℕ) (from : ℕ) (z : Zoned m s at end numbers from) (m' : List ℕ) → OverAll m z.formulas m' → (fs : List Formula) → read_all (slice at end s) ≡ got fs [] → OverAll m fs m'
over_all m s at end numbers from z m' w fs e = rw (read_same s at end z.formulas fs z.zone e) at w

-- ---- the negations of listed formulas

map_take : (g : Formula → Formula) (fs : List Formula) (n : ℕ) → take n (map g fs) ≡ map g (take n fs)
map_take g [] zero = refl
map_take g [] (suc n) = refl
map_take g (f ∷ fs) zero = refl
map_take g (f ∷ fs) (suc n) = ap (λ gs. g f ∷ gs) (map_take g fs n)

abbrev negations : List ℕ → List ℕ → ℕ → List Formula
negations m numbers n = map negate (named m numbers n)

negations_length : (m numbers : List ℕ) (n : ℕ) → n ≤ length numbers → length (negations m numbers n) ≡ n
negations_length m numbers n l = length-map (named m numbers n) negate ∙ (length-map (take n numbers) (told m) ∙ length-take-le n numbers l)

-- the j-th of them; `told` of a number past the end is some formula
negations_at : (m numbers : List ℕ) (n j : ℕ) → n ≤ length numbers → j < n → get_or (negations m numbers n) j One ≡ negate (told m (get_or numbers j 0))
negations_at m numbers n j l u = at_map negate (named m numbers n) j (rw (length-map (take n numbers) (told m) ∙ length-take-le n numbers l) u) ∙ ap negate (at_map_told (take n numbers) j (rw (length-take-le n numbers l) u) ∙ ap (told m) (get_or-take n numbers j 0 u))
  where
    at_map : (g : Formula → Formula) (fs : List Formula) (j : ℕ) → j < length fs → get_or (map g fs) j One ≡ g (get_or fs j One)
    at_map g [] j l = absurd (omega arith)
    at_map g (f ∷ fs) zero l = refl
    at_map g (f ∷ fs) (suc j) l = at_map g fs j (le_of_suc-le-suc l)

    at_map_told : (xs : List ℕ) (j : ℕ) → j < length xs → get_or (map (told m) xs) j One ≡ told m (get_or xs j 0)
    at_map_told [] j l = absurd (omega arith)
    at_map_told (x ∷ xs) zero l = refl
    at_map_told (x ∷ xs) (suc j) l = at_map_told xs j (le_of_suc-le-suc l)

-- the first k formulas are negated, and the others are listed as they were
pub record Turning (m₀ numbers₀ : List ℕ) (n : ℕ) (m numbers : List ℕ) (k : ℕ) : Type 0 where
  pub given : Negatable m₀ numbers₀ n
  pub few : k ≤ n
  pub long : length numbers ≡ length numbers₀
  pub names : Names m numbers 0 k (negations m₀ numbers₀ n)
  pub kept : (j : ℕ) → k ≤ j → get_or numbers j 0 ≡ get_or numbers₀ j 0
  pub wf : Wf m
  pub grew : Extends m₀ m
  pub all : view m ≡ enter_all (take k (negations m₀ numbers₀ n)) (view m₀)

pub turning_starts : (m numbers : List ℕ) (n : ℕ) → Negatable m numbers n → Turning m numbers n m numbers 0
unfolding enter_all
turning_starts m numbers n z =
    record { given = z; few = omega arith; long = refl; names = record { low = λ j l. absurd (omega arith); here = λ j l. absurd (omega arith) }; kept = λ j l. refl; wf = z.wf; grew = extends_refl m; all = refl }

module _ (m₀ numbers₀ : List ℕ) (n : ℕ) (m numbers : List ℕ) (k x : ℕ) (w : Turning m₀ numbers₀ n m numbers k) (l : k < n) (e : x ≡ get_or numbers k 0) where
  abbrev turned_list : List Formula
  turned_list = negations m₀ numbers₀ n

  old_number : x ≡ get_or numbers₀ k 0
  old_number = e ∙ w.kept k (omega arith)

  pub turning_low : x < count m
  turning_low = lt_of_lt_of_le (rw old_number (w.given.low k l)) w.grew.more

  turned_here : negate (told m x) ≡ get_or turned_list k One
  turned_here = ap negate (keeps m₀ m w.grew x (rw old_number (w.given.low k l)) ∙ ap (told m₀) old_number) ∙ sym (negations_at m₀ numbers₀ n k w.given.room l)

  turned_length : k < length turned_list
  turned_length = rw (negations_length m₀ numbers₀ n w.given.room) l

  pub turning_over : (m' : List ℕ) → Refused m (negate (told m x)) m' → OverAll m₀ (map negate (named m₀ numbers₀ n)) m'
  turning_over m' o =
      record { wf = rw o.same w.wf; grew = rw o.same w.grew; over = enter_all_over turned_list k (view m₀) turned_length (rw (← w.all, ← turned_here) o.over) }

  module _ (i : ℕ) (m' : List ℕ) (y : Entered m (negate (told m x)) i m') where
    pub turning_fits : i < 65536
    turning_fits = omega (arith, y.low, y.wf.few)

    pub turning_more : Turning m₀ numbers₀ n m' (set numbers k i) (k + 1)
    turning_more =
        record {
          given = w.given;
          few = omega arith;
          long = length-set numbers k i ∙ w.long;
          names = let q : 0 + k ≡ k = omega arith in rw q at (names_more m' numbers 0 k turned_list i (names_kept m m' numbers 0 k turned_list y.grew w.names) (omega (arith, w.long, w.given.room)) y.low (y.here ∙ turned_here));
          kept = λ j u. get_or-set_other numbers k j i 0 (λ q. omega arith) ∙ w.kept j (omega arith);
          wf = y.wf;
          grew = extends_trans w.grew y.grew;
          all = y.all ∙ (ap (λ f. enter f (view m)) turned_here ∙ (ap (enter (get_or turned_list k One)) w.all ∙ sym (enter_all_more turned_list k (view m₀) turned_length)));
        }
