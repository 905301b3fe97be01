-- Laws of walks over a run: a walk begins, goes one formula on, and ends; so counting and comparing go over all formulas of a run. Assumes nothing.
use Rattle.std.specs.Prelude.{◌≡◌, refl, true, ◌++◌, ℕ, ◌+◌, ◌≤◌, ◌<◌, length, drop}
use Rattle.std.proofs.Math.Path.{sym, ap}
use Rattle.std.proofs.Common.{◌∙◌, add-one, arith, eq-eqb, ne_eqb, length-append, drop-cons}
use Rattle.std.proofs.Math.Bool.{false}
use mathlib.Core.List.{List, [], ◌∷◌, map}
use Rattle.std.proofs.Math.Dec.{eqb}
use Rattle.std.proofs.Math.ListN.{get_or, drop_of_length-le}
use Rattle.std.proofs.lemmas.List.{length-map}
use Rattle.logic.specs.Formula.{Formula, size, same}
use Rattle.logic.proofs.FormulaLaws.{size_positive}
use Rattle.logic.specs.Zone.{total}
use Rattle.logic.proofs.ZoneLaws.{total_append}
use Rattle.logic.specs.Legal.{as_number, times, plain}
use Rattle.tree.specs.Places.{FormulaAt, Passed}
use Rattle.bags.specs.Reading.{read_as}
use Rattle.bags.specs.Compared.{read_at, Once}
use Rattle.bags.specs.Runs.{Short, Along, Reads, BagReads, Counts, CountsIn, Long, LongIn, agree_on, Agrees}
use Rattle.bags.specs.Walks.{Walk, Here, Timing, Agreeing, Counting, RunHere, RunsWalk, TimingAll, CountingAll}
use Rattle.bags.specs.declared.How.{How}
use Rattle.bags.specs.declared.Place.{Place}
use Rattle.bags.specs.declared.Run.{Run}

along_within : (s : List ℕ) (end p : ℕ) (fs : List Formula) → Along s end p fs → p ≤ end
along_within s end p [] h = omega arith
along_within s end p (f ∷ fs) h = omega (arith, along_within s end (p + size f) fs h.1)

module _ (s : List ℕ) (end : ℕ) where
  pub walk_start : (p₀ : ℕ) {P : List Formula → List Formula → Type 0} → ((fs : List Formula) → P fs fs) → Walk s end p₀ p₀ P
  walk_start p₀ h = record { left = λ fs along. record { rest = fs; along = along; so = h fs } }

  -- before the end a formula stands there
  pub walk_here : {p₀ p : ℕ} {P : List Formula → List Formula → Type 0} → p < end → Walk s end p₀ p P → (fs : List Formula) → Along s end p₀ fs → Here s end p (P fs)
  walk_here {p₀} {p} {P} h walk fs along = let l = walk.left fs along in here l.rest l.along l.so
    where
      here : (rest : List Formula) → Along s end p rest → P fs rest → Here s end p (P fs)
      here [] along so = absurd (omega arith)
      here (f ∷ rest) along so = record { formula = f; others = rest; stands = along.0; within = along_within s end (p + size f) rest along.1; along = along.1; so = so }

  -- and the walk goes on past it
  pub walk_next : {p₀ p next : ℕ} {P P' : List Formula → List Formula → Type 0} → p < end → Passed s p end next → Walk s end p₀ p P
      → ((fs : List Formula) (f : Formula) (rest : List Formula) → FormulaAt s p f → next ≡ p + size f → P fs (f ∷ rest) → P' fs rest) → Walk s end p₀ next P'
  walk_next {P = P} h passed walk step = record {
    left = λ fs along.
        let here = walk_here {P = P} h walk fs along in
        let e = passed.past here.formula here.stands here.within in
        record { rest = here.others; along = rw e here.along; so = step fs here.formula here.others here.stands e here.so };
  }

  pub walk_end : {p₀ p : ℕ} {P : List Formula → List Formula → Type 0} → end ≤ p → Walk s end p₀ p P → (fs : List Formula) → Along s end p₀ fs → P fs []
  walk_end {p₀} {p} {P} h walk fs along = let l = walk.left fs along in none l.rest l.along l.so
    where
      none : (rest : List Formula) → Along s end p rest → P fs rest → P fs []
      none [] along so = so
      none (f ∷ rest) along so = absurd (omega (arith, along_within s end (p + size f) rest along.1, size_positive f))

-- how often a formula stands in a run
module _ (s : List ℕ) (x : Place) (end : ℕ) (how : How) where
  pub timing_start : (p₀ : ℕ) → p₀ ≤ length s → Timing s end how p₀ p₀ x 0
  timing_start p₀ h = record { few = omega arith; inside = h; walk = walk_start s end p₀ λ fs f here. omega arith }

  module _ {p₀ p n : ℕ} (t : Timing s end how p₀ p x n) where
    pub timing_next : {next one m : ℕ} {y : Place} → p < end → end ≤ length s → Once s x y one → y.at ≡ p → y.how ≡ how → m ≡ n + one → Passed s p end next → Timing s end how p₀ next x m
    unfolding total
    timing_next {next} {one} {m} {y} h inside once at_is how_is sum passed = record {
      few = omega (arith, once.small, passed.further, t.few);
      inside = omega (arith, passed.within);
      walk = walk_next s end h passed t.walk λ fs g rest there next_is so f here.
          let same_one : one ≡ as_number (same (read_at x f) (read_as how g)) = rw (← how_is) (once.right f g here (rw at_is there)) in
          so f here ∙ omega arith;
    }

    pub timing_end : {run : Run} → end ≤ p → run.at ≡ p₀ → run.end ≡ end → run.how ≡ how → Counts s run x n
    unfolding total
    timing_end {run} h at_is end_is how_is = record {
      few = omega (arith, t.few, t.inside);
      right = λ fs f reads here.
          let along = rw (at_is, end_is) at reads.along in
          let all = walk_end s end h t.walk reads.stand along f here in
          let e : times plain (read_at x f) fs ≡ times plain (read_at x f) (map (read_as how) reads.stand) = ap (times plain (read_at x f)) (reads.read ∙ ap (λ h. map (read_as h) reads.stand) how_is) in
          omega arith;
    }

-- how many formulas a run has
module _ (s : List ℕ) (end : ℕ) where
  pub counting_start : (p₀ : ℕ) → p₀ ≤ length s → Counting s end p₀ p₀ 0
  counting_start p₀ h = record { few = omega arith; inside = h; walk = walk_start s end p₀ λ fs. omega arith }

  module _ {p₀ p n : ℕ} (t : Counting s end p₀ p n) where
    pub counting_next : {next : ℕ} → p < end → end ≤ length s → Passed s p end next → Counting s end p₀ next (n + 1)
    counting_next h inside passed = record {
      few = omega (arith, passed.further, t.few);
      inside = omega (arith, passed.within);
      walk = walk_next s end h passed t.walk λ fs g rest there next_is so. so ∙ omega arith;
    }

    pub counting_end : {run : Run} → end ≤ p → run.at ≡ p₀ → run.end ≡ end → Long s run n
    counting_end {run} h at_is end_is = record {
      few = omega (arith, t.few, t.inside);
      right = λ fs reads.
          let along = rw (at_is, end_is) at reads.along in
          let all = walk_end s end h t.walk reads.stand along in
          let e : length fs ≡ length reads.stand = ap length reads.read ∙ length-map reads.stand (read_as run.how) in
          omega arith;
    }

-- whether two multisets agree on the formulas of a run
module _ (s : List ℕ) (x y : List Run) (end : ℕ) (how : How) where
  pub agreeing_start : (p₀ : ℕ) → Agreeing s end how p₀ p₀ x y
  agreeing_start p₀ = record { walk = walk_start s end p₀ λ fs xs ys x_is y_is. refl }

  module _ {p₀ p : ℕ} (t : Agreeing s end how p₀ p x y) {z : Place} (at_is : z.at ≡ p) (how_is : z.how ≡ how) {m n : ℕ} (in_x : CountsIn s x z m) (in_y : CountsIn s y z n) where
    counted : (f : Formula) → FormulaAt s p f → (xs ys : List Formula) → BagReads s x xs → BagReads s y ys → (m ≡ times plain (read_as how f) xs) × (n ≡ times plain (read_as how f) ys)
    counted f here xs ys x_is y_is =
        (rw (← how_is) (in_x.right xs f x_is (rw at_is here)), rw (← how_is) (in_y.right ys f y_is (rw at_is here)))

    pub agreeing_next : {next : ℕ} → p < end → m ≡ n → Passed s p end next → Agreeing s end how p₀ next x y
    unfolding agree_on
    agreeing_next h e passed = record {
      walk = walk_next s end h passed t.walk λ fs f rest here next_is so xs ys x_is y_is.
          let k = counted f here xs ys x_is y_is in
          so xs ys x_is y_is ∙ rw (eq-eqb _ _ (sym k.0 ∙ e ∙ k.1)) refl;
    }

    pub agreeing_stops : {run : Run} → p < end → (m ≡ n → ⊥) → run.at ≡ p₀ → run.end ≡ end → run.how ≡ how → Agrees s run x y false
    unfolding agree_on
    agreeing_stops {run} h e run_at run_end run_how = record {
      right = λ fs xs ys reads x_is y_is.
          let along = rw (run_at, run_end) at reads.along in
          let here = walk_here s end h t.walk reads.stand along in
          let k = counted here.formula here.stands xs ys x_is y_is in
          let all : fs ≡ map (read_as how) reads.stand = reads.read ∙ ap (λ h. map (read_as h) reads.stand) run_how in
          let first : false ≡ eqb (times plain (read_as how here.formula) xs) (times plain (read_as how here.formula) ys) = sym (ne_eqb _ _ λ d. e (k.0 ∙ d ∙ sym k.1)) in
          rw (all, here.so xs ys x_is y_is, ← first) refl;
    }

  pub agreeing_end : {p₀ p : ℕ} {run : Run} → Agreeing s end how p₀ p x y → end ≤ p → run.at ≡ p₀ → run.end ≡ end → run.how ≡ how → Agrees s run x y true
  unfolding agree_on
  agreeing_end t h run_at run_end run_how = record {
    right = λ fs xs ys reads x_is y_is.
        let along = rw (run_at, run_end) at reads.along in
        let all : fs ≡ map (read_as how) reads.stand = reads.read ∙ ap (λ h. map (read_as h) reads.stand) run_how in
        rw all (sym (walk_end s end h t.walk reads.stand along xs ys x_is y_is));
  }

-- ---- from run to run

module _ (s : List ℕ) (bag : List Run) where
  module _ {i : ℕ} {P : List Formula → List Formula → Type 0} where
    pub runs_here : (d : Run) → i < length bag → RunsWalk s bag i P → (fs : List Formula) → BagReads s bag fs → RunHere s bag i (get_or bag i d) (P fs)
    runs_here d h walk fs read =
        let l = walk.left fs read in
        let here : BagReads s (get_or bag i d ∷ drop (i + 1) bag) l.rest = rw (add-one, ← drop-cons bag i d h) l.read in
        let p = here.all_read in
        record { formulas = p.0; others = p.1; reads = p.2; read = record { all_read = p.3 }; so = rw (← p.4) l.so }

    pub runs_next : (d : Run) {P' : List Formula → List Formula → Type 0} → i < length bag → RunsWalk s bag i P
        → ((fs gs rest : List Formula) → Reads s (get_or bag i d) gs → P fs (gs ++ rest) → P' fs rest) → RunsWalk s bag (i + 1) P'
    runs_next d h walk step = record {
      left = λ fs read.
          let here = runs_here d h walk fs read in
          record { rest = here.others; read = here.read; so = step fs here.formulas here.others here.reads here.so };
    }

    pub runs_end : length bag ≤ i → RunsWalk s bag i P → (fs : List Formula) → BagReads s bag fs → P fs []
    runs_end h walk fs read =
        let l = walk.left fs read in
        let none : BagReads s [] l.rest = rw (← drop_of_length-le bag h) l.read in
        rw (← none.all_read) l.so

-- how often a formula stands in a multiset
module _ (s : List ℕ) (bag : List Run) (x : Place) where
  module _ {i n : ℕ} (t : TimingAll s bag i x n) where
    pub timing_all_next : (d : Run) {k : ℕ} → Short s → i < length bag → Counts s (get_or bag i d) x k → TimingAll s bag (i + 1) x (n + k)
    timing_all_next d {k} short h counts = record {
      few = omega (arith, t.few, counts.few, short.short);
      walk = runs_next s bag d h t.walk λ fs gs rest reads so f here.
          so f here ∙ (let both : times plain (read_at x f) (gs ++ rest) ≡ times plain (read_at x f) gs + times plain (read_at x f) rest = simp total_append refl in omega (arith, counts.right gs f reads here));
    }

    pub timing_all_end : length bag ≤ i → CountsIn s bag x n
    unfolding total
    timing_all_end h = record { right = λ fs f read here. omega (arith, runs_end s bag h t.walk fs read f here) }

-- how many formulas a multiset has
module _ (s : List ℕ) (bag : List Run) where
  module _ {i n : ℕ} (t : CountingAll s bag i n) where
    pub counting_all_next : (d : Run) {k : ℕ} → Short s → i < length bag → Long s (get_or bag i d) k → CountingAll s bag (i + 1) (n + k)
    counting_all_next d {k} short h long = record {
      few = omega (arith, t.few, long.few, short.short);
      walk = runs_next s bag d h t.walk λ fs gs rest reads so. so ∙ omega (arith, length-append gs rest, long.right gs reads);
    }

    pub counting_all_end : length bag ≤ i → LongIn s bag n
    counting_all_end h = record { right = λ fs read. omega (arith, runs_end s bag h t.walk fs read) }
