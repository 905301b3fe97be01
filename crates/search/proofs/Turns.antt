-- The logic's visit as the ring's code goes through it: each test of `prove_with_depth`, the failures' memory, an implication spelled out, each as a step of `Goes`. Assumes nothing.
use mathlib.Core.Path.{◌≡◌, refl, sym, ap, ◌∙◌}
use mathlib.Core.Bool.{Bool, true, false, ◌&&◌}
use mathlib.Core.List.{List}
use Prim.Native.Nat.{ℕ, suc, ◌+◌, ◌≤◌, ◌<◌, max}
use native.Mathlib.Omega.{arith}
use native.Mathlib.Numerals.{add-one}
use lib.ListN.{length-map}
use Rattle.logic.specs.Formula.{Formula}
use Rattle.logic.specs.Sequent.{Sequent, count}
use Rattle.logic.specs.Answer as answer
use Rattle.logic.specs.Tree.{Rule}
use Rattle.logic.specs.Key.{Key, sequent_key, contains}
use Rattle.logic.specs.Held.{enter}
use Rattle.logic.specs.Limits.{at_most}
use Rattle.logic.specs.Outcome as logic
use Rattle.logic.specs.Outcome.{State, Search, ◌or_else◌, ◌if_found◌, visited, hit, with_failure, with_held, made}
use Rattle.logic.specs.Search.{from_one}
use Rattle.zones.specs.declared.Zones.{Zones}
use Rattle.zones.specs.Zones.{Fits, meant, linears, unrestricteds}
use Rattle.zones.specs.ZonesLaws.{linears_length, unrestricteds_length}
use Rattle.failures.specs.Alike.{Alike}
use Rattle.failures.specs.AlikeLaws.{alike_length, alike_snoc, contains_alike}
use Rattle.logic.proofs.SameLaws.{same_of}
use Rattle.memory.specs.Meaning.{holds, failed, told}
use Rattle.memory.specs.Shapes.{Filed, was_known, is_new, Recorded, NoPlace, Spelled, NoRoom}
use Rattle.search.specs.declared.Prover.{Prover}
use Rattle.search.specs.declared.counters.Counters.{Counters}
use Rattle.search.specs.Walk.{rules, filing, seen, visit_long, visit_spent, visit_over, visit_hit, visit_searched, filing_known, filing_off, filing_full, filing_new, made_full, made_room}
use Rattle.search.specs.Contract.{visiting, Stands, counted, reached_at, struck}
use Rattle.search.proofs.Steps.{Reached, Goes}

-- alike failures know the same keys
same_known : {js ks : List Key} → Alike js ks → (x : Key) → contains js x ≡ contains ks x
same_known a x = contains_alike a (same_of refl)

-- the state after a visit is counted, after a hit
pub stands_visited : {c : Counters} {m : List ℕ} {s : State} (depth : ℕ) → Stands c m s → Stands (reached_at depth (counted c)) m (visited depth s)
unfolding visited
stands_visited depth h = record {
  explored = ap suc h.explored ∙ sym (add-one _);
  hits = h.hits;
  reached = ap (λ (n : ℕ). max n depth) h.reached;
  held = h.held;
  failures = h.failures;
}

pub stands_hit : {c : Counters} {m : List ℕ} {s : State} → Stands c m s → Stands (struck c) m (hit s)
unfolding hit
stands_hit h = record {
  explored = h.explored;
  hits = ap suc h.hits ∙ sym (add-one _);
  reached = h.reached;
  held = h.held;
  failures = h.failures;
}

-- a sequent by value has at most 31 formulas
pub count_meant : (told : ℕ → Formula) {z : Zones} → Fits z → count (meant told z) ≡ z.linear_len + z.unrestricted_len
count_meant told {z} f = rw (length-map (linears z) told, length-map (unrestricteds z) told, linears_length f, unrestricteds_length f)

module _ (p : Prover) (left depth : ℕ) (q : Sequent) {c : Counters} {m : List ℕ} where
  pub goes_long : 31 < count q → Goes (visiting p left depth q) c m (logic.answer (logic.refused answer.too_many)) c m
  goes_long h = record { on = λ s st. record { state = s; stands = st; same = visit_long p.cache p.budget left depth q s h } }

  module _ (short : count q ≤ 31) where
    pub goes_spent : p.budget ≤ c.explored → Goes (visiting p left depth q) c m (logic.answer (logic.refused answer.budget_spent)) c m
    goes_spent h = record { on = λ s st. record { state = s; stands = st; same = visit_spent p.cache p.budget left depth q s short (omega (arith, st.explored)) } }

    module _ (some : c.explored < p.budget) {c₂ : Counters} (e₂ : c₂ ≡ reached_at depth (counted c)) where
      pub goes_over : left ≡ 0 → Goes (visiting p left depth q) c m (logic.answer logic.nothing) c₂ m
      goes_over e = record { on = λ s st. record { state = visited depth s; stands = rw e₂ (stands_visited depth st); same = visit_over p.cache p.budget left depth q s short (omega (arith, st.explored)) e } }

      known_by : (s : State) → Stands c m s → (b : Bool) → seen p.cache p.budget (failed m) q ≡ b → seen p.cache p.budget s.memory.failures q ≡ b
      known_by s st b e = ap (λ (x : Bool). p.cache && x) (sym (same_known st.failures (sequent_key q))) ∙ e

      module _ (l : ℕ) (e : left ≡ suc l) where
        pub goes_hit : seen p.cache p.budget (failed m) q ≡ true → Goes (visiting p left depth q) c m (logic.answer logic.nothing) (struck c₂) m
        goes_hit h = rw (e, e₂) record { on = λ s st. record { state = hit (visited depth s); stands = stands_hit (stands_visited depth st); same = visit_hit p.cache p.budget l depth q s short (omega (arith, st.explored)) (known_by s st true h) } }

        pub goes_searched : seen p.cache p.budget (failed m) q ≡ false → Goes (visiting p left depth q) c m (rules p.cache p.budget l depth q or_else filing p.cache p.budget q) c₂ m
        goes_searched h = rw (e, e₂) record { on = λ s st. record { state = visited depth s; stands = stands_visited depth st; same = visit_searched p.cache p.budget l depth q s short (omega (arith, st.explored)) (known_by s st false h) } }

-- a no is recorded, where the cache is on
module _ (p : Prover) (q : Sequent) {c : Counters} {m m' : List ℕ} where
  filed_goes : {fs : List Key} (s : State) → Stands c m s → holds m' ≡ holds m → failed m' ≡ fs → Filed (failed m) (sequent_key q) fs → p.cache ≡ true → Reached (filing p.cache p.budget q s) (logic.answer logic.nothing) c m'
  filed_goes s st e f (was_known k) on = record {
    state = s;
    stands = record { explored = st.explored; hits = st.hits; reached = st.reached; held = st.held ∙ sym e; failures = rw (f, k.same) st.failures };
    same = filing_known q s p.cache p.budget (sym (same_known st.failures (sequent_key q)) ∙ k.known);
  }
  filed_goes s st e f (is_new k) on = record {
    state = with_failure (sequent_key q) s;
    stands = record { explored = st.explored; hits = st.hits; reached = st.reached; held = st.held ∙ sym e; failures = rw (f, k.last) (alike_snoc st.failures k.same) };
    same = rw on (filing_new q s p.budget (sym (same_known st.failures (sequent_key q)) ∙ k.new) (omega (arith, alike_length st.failures, k.room)));
  }

  pub goes_recorded : p.cache ≡ true → Recorded m (sequent_key q) m' → Goes (filing p.cache p.budget q) c m (logic.answer logic.nothing) c m'
  goes_recorded on r = record { on = λ s st. filed_goes s st r.all refl r.failures on }

  pub goes_full : p.cache ≡ true → NoPlace m (sequent_key q) m' → Goes (filing p.cache p.budget q) c m (logic.answer (logic.refused answer.failures_full)) c m'
  goes_full on r = rw (on, r.same) record { on = λ s st. record { state = s; stands = st; same = filing_full q s p.budget (sym (same_known st.failures (sequent_key q)) ∙ r.new) (omega (arith, r.full, alike_length st.failures)) } }

  pub goes_unfiled : p.cache ≡ false → m' ≡ m → Goes (filing p.cache p.budget q) c m (logic.answer logic.nothing) c m'
  goes_unfiled off e = rw (off, e) record { on = λ s st. record { state = s; stands = st; same = filing_off q s p.budget } }

-- a formula is made, and held
module _ (f : Formula) (run : Search) {c : Counters} {m m' : List ℕ} where
  pub goes_made : {i : ℕ} → Spelled m f i m' → Goes (made (at_most 2048) f run) c m run c m'
  goes_made r = record {
    on = λ s st. record {
      state = with_held (enter f s.memory.held) s;
      stands = record { explored = st.explored; hits = st.hits; reached = st.reached; held = ap (enter f) st.held ∙ sym r.all; failures = rw r.failures st.failures };
      same = made_room f run s (rw st.held r.room);
    };
  }

  pub goes_unmade : NoRoom m f m' → Goes (made (at_most 2048) f run) c m (logic.answer (logic.refused answer.held_full)) c m'
  goes_unmade r = rw r.same record { on = λ s st. record { state = s; stands = st; same = made_full f run s (rw st.held r.full) } }

-- a premise that is refused at once
pub goes_refused : (rule : Rule) (q : Sequent) {run : Search} {c : Counters} {m : List ℕ} (k : answer.Refusal) → Goes run c m (logic.answer (logic.refused k)) c m → Goes (from_one rule q run) c m (logic.answer (logic.refused k)) c m
unfolding from_one ◌if_found◌
goes_refused rule q {run} {c} {m} k g = record { on = λ s st. go s (g.on s st) }
  where
    go : (s : State) → Reached (run s) (logic.answer (logic.refused k)) c m → Reached (from_one rule q run s) (logic.answer (logic.refused k)) c m
    go s x = record { state = x.state; stands = x.stands; same = rw x.same }
