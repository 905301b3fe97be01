-- What `visit`, `under` and `both` return, each end of theirs. Assumes nothing.
use mathlib.Core.Path.{◌≡◌, refl, sym, ap, ◌∙◌, subst}
use mathlib.Core.Bool.{Bool, true, false, false≢true}
use mathlib.Core.List.{List, [], ◌∷◌}
use Prim.Native.Nat.{ℕ, zero, suc, ◌+◌, ◌-◌, ◌≤◌, ◌<◌}
use native.Mathlib.Omega.{arith}
use native.Mathlib.Numerals.{add-one}
use types.Run.{OneOf}
use lib.ListN.{set}
use Rattle.logic.specs.Sequent.{Sequent, count}
use Rattle.logic.specs.Answer as answer
use Rattle.logic.specs.Key.{sequent_key}
use Rattle.logic.specs.Outcome.{Search, ◌or_else◌}
use Rattle.zones.specs.declared.Zones.{Zones}
use Rattle.memory.specs.Meaning.{told, failed, StandsIn, key_of}
use Rattle.memory.specs.Shapes.{RecordedOr}
use Rattle.formula.specs.Answers.{coded}
use Rattle.formula.specs.declared.Refusal.TheVariants.{BudgetSpent, FailuresFull}
use Rattle.expand.specs.Short.{spelled}
use Rattle.search.specs.declared.Prover.{Prover}
use Rattle.search.specs.declared.counters.Counters.{Counters}
use Rattle.search.specs.declared.Outcome.{Outcome}
use Rattle.search.specs.declared.Outcome.TheVariants.{Found, Nothing, Refused}
use Rattle.search.specs.Walk.{rules, filing, seen}
use Rattle.search.specs.Plans.{sequent}
use Rattle.search.specs.Contract.{visiting, Ready, Agrees, FiledOr, Visits, Decomposes, Puts, PutsBoth, deeper, counted, reached_at, struck}
use Rattle.search.proofs.Steps.{tag, Kept, Goes, goes_then, rebase, stops, nothing_goes, nothing_kept, kept_then, done_nothing, done_refused, one_stops, one_found, two_stops, right_stops, two_found}
use Rattle.search.proofs.Turns.{count_meant, goes_spent, goes_over, goes_hit, goes_searched, goes_recorded, goes_full, goes_unfiled}
use Rattle.search.specs.AskedLaws.{sequent_later}
use Rattle.search.proofs.Ready.{kept_now, below_explored, kept_counted, kept_struck, counted_is, kept_memory}

pub one_up : (left : ℕ) → (left ≡ 0 → ⊥) → left ≡ suc (left - 1)
one_up zero f = absurd (f refl)
one_up (suc l) f = omega arith

-- the levels by an equation
levels : {n n' : ℕ} {q : Sequent} {run : Search} {at : ℕ} {p : Prover} {c : Counters} {m w : List ℕ} {r : Outcome} {m' w' : List ℕ} → n ≡ n' → Agrees n' q run at p c m w r m' w' → Agrees n q run at p c m w r m' w'
levels {n} {n'} {q} {run} {at} {p} {c} {m} {w} {r} {m'} {w'} e a = subst (λ (x : ℕ). Agrees x q run at p c m w r m' w') (sym e) a

module _ (left depth : ℕ) {z : Zones} {at : ℕ} {p : Prover} {c : Counters} {m w : List ℕ} (ready : Ready 0 z (depth + left) at p c m w) where
  short : count (sequent m z) ≤ 31
  short = let f = ready.zones.fits in omega (arith, count_meant (told m) f, f.few)

  pub visit_spent : p.budget ≤ c.explored → Visits p left depth z at c m w (Refused BudgetSpent c) m w
  unfolding coded
  visit_spent h = done_refused (kept_now ready) answer.budget_spent (below_explored ready) (goes_spent p left depth (sequent m z) short h)

  module _ (some : c.explored < p.budget) {c₁ c₂ : Counters} (e₁ : c₁ ≡ counted c) (e₂ : c₂ ≡ reached_at depth c₁) where
    kept₂ : Kept at p c m w c₂ m w
    kept₂ = kept_counted ready some depth e₁ e₂

    is₂ : c₂ ≡ reached_at depth (counted c)
    is₂ = counted_is ready some depth e₁ e₂

    below₂ : at ≤ c₂.explored
    below₂ = omega (arith, below_explored ready, kept₂.more)

    pub visit_over : left ≡ 0 → Visits p left depth z at c m w (Nothing c₂) m w
    visit_over e = done_nothing kept₂ below₂ (goes_over p left depth (sequent m z) short some is₂ e)

    module _ (more : left ≡ 0 → ⊥) {b : Bool} (e₃ : b ≡ seen p.cache p.budget (failed m) (sequent m z)) where
      pub visit_hits : {c₃ : Counters} → b ≡ true → c₃ ≡ struck c₂ → Visits p left depth z at c m w (Nothing c₃) m w
      visit_hits {c₃} t e = rw e (done_nothing (kept_struck ready some depth e₁ e₂) below₂ (goes_hit p left depth (sequent m z) short some is₂ (left - 1) (one_up left more) (sym e₃ ∙ t)))

      module _ (unseen : b ≡ false) {r : Outcome} {m' w' : List ℕ} (a : Decomposes p (left - 1) depth z at c₂ m w r m' w') where
        on_from_there : Goes (visiting p left depth (sequent m z)) c m (rules p.cache p.budget (left - 1) depth (sequent m z) or_else filing p.cache p.budget (sequent m z)) c₂ m
        on_from_there = goes_searched p left depth (sequent m z) short some is₂ (left - 1) (one_up left more) (sym e₃ ∙ unseen)

        pub visit_stops : OneOf (0 ∷ 2 ∷ []) (tag r) → Visits p left depth z at c m w r m' w'
        visit_stops o = levels (one_up left more) (rebase kept₂ on_from_there (stops a o _))

        module _ {d : Counters} (e : r ≡ Nothing d) {b' : Bool} {m'' : List ℕ} (f : FiledOr p m' z b' m'') where
          kept_d : Kept at p c m w d m' w'
          kept_d = kept_then kept₂ (nothing_kept a e)

          below_d : at ≤ d.explored
          below_d = omega (arith, below_explored ready, kept_d.more)

          filing_from_there : Goes (visiting p left depth (sequent m z)) c m (filing p.cache p.budget (sequent m z)) d m'
          filing_from_there = goes_then on_from_there (nothing_goes a e _)

          -- the sequent's key is the same in the memory that the rules left
          same_key : key_of m' z ≡ sequent_key (sequent m z)
          same_key = ap sequent_key (sequent_later kept_d.grew ready.zones)

          by_cache : (P : Type 0) → (p.cache ≡ true → P) → (p.cache ≡ false → P) → P
          by_cache P h k = go p.cache refl
            where
              go : (x : Bool) → p.cache ≡ x → P
              go true y = h y
              go false y = k y

          pub visit_files : b' ≡ true → Visits p left depth z at c m w (Nothing d) m'' w'
          visit_files t = by_cache _
              (λ on. let g = subst (λ (x : Bool). RecordedOr m' (sequent_key (sequent m z)) x m'') t (rw same_key at (f.on on)) in
              done_nothing (kept_memory kept_d g.wf g.grew) below_d (goes_then filing_from_there (goes_recorded p (sequent m z) on g)))
              (λ off. let g = f.off off in
              done_nothing (rw g.1 kept_d) below_d (goes_then filing_from_there (goes_unfiled p (sequent m z) off g.1)))

          pub visit_full : b' ≡ false → Visits p left depth z at c m w (Refused FailuresFull d) m'' w'
          unfolding coded
          visit_full t = by_cache _
              (λ on. let g = subst (λ (x : Bool). RecordedOr m' (sequent_key (sequent m z)) x m'') t (rw same_key at (f.on on)) in
              done_refused (rw g.same kept_d) answer.failures_full below_d (goes_then filing_from_there (goes_full p (sequent m z) on g)))
              (λ off. absurd (false≢true (sym t ∙ (f.off off).0)))

-- a rule of one premise
module _ (left depth : ℕ) {y : Zones} {far at : ℕ} {p : Prover} {c : Counters} {m w : List ℕ} (ready : Ready 1 y far at p c m w) (x : ℕ) {r : Outcome} {m' w' : List ℕ}
    (a : Visits p left (depth + 1) y (at + 1) c m w r m' w') where
  -- one level down is `suc` in the definition
  down : Visits p left (suc depth) y (at + 1) c m w r m' w'
  down = subst (λ (d : ℕ). Visits p left d y (at + 1) c m w r m' w') (add-one depth) a

  pub under_stops : OneOf (1 ∷ 2 ∷ []) (tag r) → Puts p left depth y at c m w r m' w' x
  under_stops o = record { over = λ q rule held k. one_stops left (sequent m y) at q rule down (below_explored ready) o }

  pub under_found : {end : ℕ} {d : Counters} → r ≡ Found end d → Puts p left depth y at c m w (Found end d) m' (set w' at x) x
  under_found e = record { over = λ q rule held k. one_found left (sequent m y) at q rule down e ready.room x held k }

  pub both_left_stops : (u : Zones) → OneOf (1 ∷ 2 ∷ []) (tag r) → PutsBoth p left depth y at c m w r m' w' x u
  both_left_stops u o = record { over = λ q rule held k. two_stops left (sequent m y) at q rule down _ (below_explored ready) o }

  -- a rule of two premises
  module _ {u : Zones} (s : StandsIn m u) {mid : ℕ} {c₁ : Counters} (e : r ≡ Found mid c₁) {r' : Outcome} {m'' w'' : List ℕ} (b : Visits p left (depth + 1) u mid c₁ m' w' r' m'' w'') where
    -- the right premise means the same in the memory that the left one left
    right : Agrees left (spelled (sequent m u)) (deeper p left depth (sequent m u)) mid p c₁ m' w' r' m'' w''
    right =
        subst (λ (q : Sequent). Agrees left (spelled q) (deeper p left depth q) mid p c₁ m' w' r' m'' w'') (sequent_later a.grew s)
        (subst (λ (d : ℕ). Visits p left d u mid c₁ m' w' r' m'' w'') (add-one depth) b)

    pub both_right_stops : OneOf (1 ∷ 2 ∷ []) (tag r') → PutsBoth p left depth y at c m w r' m'' w'' x u
    both_right_stops o = record { over = λ q rule held k. right_stops left (sequent m y) (sequent m u) at mid q rule down e right (below_explored ready) o }

    pub both_found : {end : ℕ} {d : Counters} → r' ≡ Found end d → PutsBoth p left depth y at c m w (Found end d) m'' (set w'' at x) x u
    both_found e' = record { over = λ q rule held k. two_found left (sequent m y) (sequent m u) at mid q rule down e right e' ready.room x held k }
