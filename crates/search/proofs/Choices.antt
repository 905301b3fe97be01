-- What the synchronous phase's members return: their loops, what is focused on, the rules on the unrestricted zone. Assumes nothing.
use mathlib.Core.Path.{◌≡◌, refl, sym, ap, ◌∙◌, subst}
use mathlib.Core.Bool.{Bool, true, false≢true}
use mathlib.Core.List.{List, [], ◌∷◌, ◌++◌}
use mathlib.Core.Option.{some}
use Prim.Native.Nat.{ℕ, suc, ◌+◌, ◌-◌, ◌≤◌, ◌<◌}
use native.Mathlib.Omega.{arith}
use types.Run.{OneOf}
use lib.ListN.{length, get_or, take, drop, length-append, length-map}
use borrow.Author.Tests.{eqb-true}
use Rattle.logic.specs.Formula as formula
use Rattle.logic.specs.Formula.{Formula, same}
use Rattle.logic.specs.Sequent.{Sequent, ◌﹔◌, count}
use Rattle.logic.specs.Answer as answer
use Rattle.logic.specs.Tree as tree
use Rattle.logic.specs.Split.{left_of, right_of}
use Rattle.logic.specs.Outcome as logic
use Rattle.logic.specs.Outcome.{State, Search, ◌or_else◌}
use Rattle.logic.specs.Search.{from_one, from_two, each, tensor_masks, prove_focused, try_dereliction, try_contraction, try_weakening, prove_sync}
use Rattle.zones.specs.declared.Zones.{Zones}
use Rattle.zones.specs.Zones.{unrestricteds}
use Rattle.zones.specs.ZonesLaws.{unrestricteds_length}
use Rattle.memory.specs.Meaning.{told, Grew, StandsIn}
use Rattle.formula.specs.Answers.{coded}
use Rattle.formula.specs.declared.Refusal.TheVariants.{TooMany}
use Rattle.expand.specs.Short.{word, ◌by◌, step}
use Rattle.expand.specs.ShortLaws.{step_dereliction, step_contraction, step_weakening}
use Rattle.search.specs.declared.Prover.{Prover}
use Rattle.search.specs.declared.counters.Counters.{Counters}
use Rattle.search.specs.declared.Outcome.{Outcome}
use Rattle.search.specs.declared.Outcome.TheVariants.{Nothing, Refused}
use Rattle.search.specs.declared.plan.Exponential.{Exponential}
use Rattle.search.specs.declared.plan.Exponential.TheVariants.{Dereliction, Contraction, Weakening}
use Rattle.search.specs.Walk.{each_next, each_end, masks_next, masks_end, positive_at, positives, positive_focused, exponentials, sync_next}
use Rattle.search.specs.Plans.{sequent, number_of, rule_named, premise_of, exponential, long, Premise}
use Rattle.search.specs.Contract.{deeper, Ready, Agrees, Syncs, Chooses, Focuses, Exponentials, Copies, Uses, Takes, Puts}
use Rattle.search.proofs.Steps.{tag, Kept, Reached, Goes, goes_as, goes_then, rebase, of, stops, or_then, nothing_goes, nothing_done, nothing_kept, kept_then, done_nothing, done_refused}
use Rattle.search.proofs.Turns.{goes_long, goes_refused}
use Rattle.search.proofs.Leaves.{linear_length}
use Rattle.search.specs.AskedLaws.{sequent_later}
use Rattle.search.proofs.Ready.{kept_now, kept_sequent, below_explored}
use Rattle.search.proofs.Rules.{put_one, stepped, removed_length}

-- The search of a sequent that means the same later
pub as_before : {n at : ℕ} {p : Prover} {c : Counters} {m m₁ w₁ : List ℕ} {r : Outcome} {m' w' : List ℕ} (z : Zones) (run : Sequent → Search) → Grew m m₁ → StandsIn m z
    → Agrees n (sequent m₁ z) (run (sequent m₁ z)) at p c m₁ w₁ r m' w' → Agrees n (sequent m z) (run (sequent m z)) at p c m₁ w₁ r m' w'
as_before {n} {at} {p} {c} {m} {m₁} {w₁} {r} {m'} {w'} z run g s a = subst (λ (q : Sequent). Agrees n q (run q) at p c m₁ w₁ r m' w') (sequent_later g s) a

-- A loop over a zone: it starts, goes on, stops, ends
abbrev pub from_place : (List Formula → Formula → List Formula → Search) → List Formula → ℕ → Search
from_place body l i = each body (take i l) (drop i l)

module _ (body : List Formula → Formula → List Formula → Search) (l : List Formula) where
  pub each_starts : {run : Search} {c₀ : Counters} {m₀ : List ℕ} → run ≡ each body [] l → Goes run c₀ m₀ (from_place body l 0) c₀ m₀
  each_starts e = goes_as (e ∙ go l)
    where
      go : (l : List Formula) → each body [] l ≡ each body (take 0 l) (drop 0 l)
      go [] = refl
      go (f ∷ l) = refl

  module _ (i : ℕ) {run : Search} {at : ℕ} {p : Prover} {c₀ c : Counters} {m₀ w₀ m w : List ℕ} (k : Kept at p c₀ m₀ w₀ c m w) (g : Goes run c₀ m₀ (from_place body l i) c m) where
    module _ (h : i < length l) {n : ℕ} {q : Sequent} {r : Outcome} {m' w' : List ℕ} (a : Agrees n q (body (take i l) (get_or l i formula.One) (drop (suc i) l)) at p c m w r m' w') where
      pub each_goes : {d : Counters} → r ≡ Nothing d → Goes run c₀ m₀ (from_place body l (i + 1)) d m'
      each_goes e = goes_then g (goes_then (goes_as (each_next body l i h)) (nothing_goes a e (from_place body l (i + 1))))

      pub each_stops : OneOf (0 ∷ 2 ∷ []) (tag r) → Agrees n q run at p c₀ m₀ w₀ r m' w'
      each_stops o = rebase k (goes_then g (goes_as (each_next body l i h))) (stops a o (from_place body l (i + 1)))

    pub each_ends : (n : ℕ) (q : Sequent) → length l ≤ i → at ≤ c.explored → Agrees n q run at p c₀ m₀ w₀ (Nothing c) m w
    each_ends n q h b = done_nothing k b (goes_then g (goes_as (each_end body l i h)))

-- The loop over the masks
abbrev pub from_mask : (Sequent → Search) → Sequent → Formula → Formula → List Formula → ℕ → ℕ → Search
from_mask deep q a b others count x = tensor_masks deep q a b others (count - x) x

module _ (deep : Sequent → Search) (q : Sequent) (a b : Formula) (others : List Formula) (count : ℕ) where
  pub masks_starts : {run : Search} {c₀ : Counters} {m₀ : List ℕ} → run ≡ tensor_masks deep q a b others count 0 → Goes run c₀ m₀ (from_mask deep q a b others count 0) c₀ m₀
  masks_starts e = let z : count ≡ count - 0 = omega arith in goes_as (e ∙ ap (λ (k : ℕ). tensor_masks deep q a b others k 0) z)

  abbrev pub at_mask : ℕ → Search
  at_mask x = from_two tree.TensorIntro q (deep (left_of x others ++ (a ∷ []) ﹔ q.unrestricted)) (deep (right_of x others ++ (b ∷ []) ﹔ q.unrestricted))

  module _ (x : ℕ) {run : Search} {at : ℕ} {p : Prover} {c₀ c : Counters} {m₀ w₀ m w : List ℕ} (k : Kept at p c₀ m₀ w₀ c m w) (g : Goes run c₀ m₀ (from_mask deep q a b others count x) c m) where
    module _ (h : x < count) {n : ℕ} {r : Outcome} {m' w' : List ℕ} (t : Agrees n q (at_mask x) at p c m w r m' w') where
      pub masks_go : {d : Counters} → r ≡ Nothing d → Goes run c₀ m₀ (from_mask deep q a b others count (x + 1)) d m'
      masks_go e = goes_then g (goes_then (goes_as (masks_next deep q a b others count x h)) (nothing_goes t e (from_mask deep q a b others count (x + 1))))

      pub masks_stop : OneOf (0 ∷ 2 ∷ []) (tag r) → Agrees n q run at p c₀ m₀ w₀ r m' w'
      masks_stop o = rebase k (goes_then g (goes_as (masks_next deep q a b others count x h))) (stops t o (from_mask deep q a b others count (x + 1)))

    pub masks_done : (n : ℕ) → count ≤ x → at ≤ c.explored → Agrees n q run at p c₀ m₀ w₀ (Nothing c) m w
    masks_done n h l = done_nothing k l (goes_then g (goes_as (masks_end deep q a b others count x h)))

-- After the positives, the unrestricted zone's rules
goes_sync : (deep : Sequent → Search) (q : Sequent) {c d : Counters} {m m' : List ℕ} → Goes (positives deep q) c m (logic.answer logic.nothing) d m' → Goes (prove_sync deep q) c m (exponentials deep q) d m'
goes_sync deep q {c} {d} {m} {m'} g = record { on = λ s st. go s (g.on s st) }
  where
    go : (s : State) → Reached (positives deep q s) (logic.answer logic.nothing) d m' → Reached (prove_sync deep q s) (exponentials deep q) d m'
    go s x = record { state = x.state; stands = x.stands; same = sync_next deep q s x.state x.same }

module _ (left depth : ℕ) {z : Zones} {far at : ℕ} {p : Prover} {c : Counters} {m w : List ℕ} (ready : Ready 1 z far at p c m w) where
  abbrev q₀ : Sequent
  q₀ = sequent m z

  abbrev deep : Sequent → Search
  deep = deeper p left depth

  pub sync_stops : {r : Outcome} {m' w' : List ℕ} → Chooses p left depth z at c m w r m' w' → OneOf (0 ∷ 2 ∷ []) (tag r) → Syncs p left depth z at c m w r m' w'
  unfolding prove_sync
  sync_stops a o = stops a o _

  pub sync_goes : {r₁ r : Outcome} {d : Counters} {m₁ w₁ m' w' : List ℕ} → Chooses p left depth z at c m w r₁ m₁ w₁ → r₁ ≡ Nothing d → Exponentials p left depth z at d m₁ w₁ r m' w' → Syncs p left depth z at c m w r m' w'
  sync_goes a e b =
      let k = nothing_kept a e in
      rebase k (goes_sync deep q₀ (nothing_done a e)) (as_before z (λ q. exponentials deep q) k.grew ready.zones b)

  pub exponentials_go : {r₁ r : Outcome} {d : Counters} {m₁ w₁ m' w' : List ℕ} → Uses p left depth z at c m w r₁ m₁ w₁ Dereliction → r₁ ≡ Nothing d → Copies p left depth z at d m₁ w₁ r m' w' → Exponentials p left depth z at c m w r m' w'
  exponentials_go a e b = or_then a e (as_before z (λ q. try_contraction deep q or_else try_weakening deep q) (nothing_kept a e).grew ready.zones b)

  pub copies_go : {r₁ r : Outcome} {d : Counters} {m₁ w₁ m' w' : List ℕ} → Uses p left depth z at c m w r₁ m₁ w₁ Contraction → r₁ ≡ Nothing d → Uses p left depth z at d m₁ w₁ r m' w' Weakening → Copies p left depth z at c m w r m' w'
  copies_go a e b = or_then a e (as_before z (λ q. try_weakening deep q) (nothing_kept a e).grew ready.zones b)

-- `positives`
pub record Choosing (left depth : ℕ) (z : Zones) (at : ℕ) (p : Prover) (c₀ : Counters) (m₀ w₀ : List ℕ) (x : ℕ) (c : Counters) (m w : List ℕ) : Type 0 where
  pub kept : Kept at p c₀ m₀ w₀ c m w
  pub goes : Goes (positives (deeper p left depth) (sequent m₀ z)) c₀ m₀ (from_place (positive_at (deeper p left depth) (sequent m₀ z)) (sequent m₀ z).linear x) c m

module _ (left depth : ℕ) {z : Zones} {far at : ℕ} {p : Prover} {c₀ : Counters} {m₀ w₀ : List ℕ} (ready : Ready 1 z far at p c₀ m₀ w₀) where
  abbrev q₁ : Sequent
  q₁ = sequent m₀ z

  abbrev deep₁ : Sequent → Search
  deep₁ = deeper p left depth

  module _ {x : ℕ} {c : Counters} {m w : List ℕ} (i : Choosing left depth z at p c₀ m₀ w₀ x c m w) where
    focused_before : {r : Outcome} {m' w' : List ℕ} → Focuses p left depth z at c m w r m' w' x → Agrees (suc left) q₁ (positive_at deep₁ q₁ (take x q₁.linear) (get_or q₁.linear x formula.One) (drop (suc x) q₁.linear)) at p c m w r m' w'
    focused_before a =
        of (positive_focused deep₁ q₁ (take x q₁.linear) (get_or q₁.linear x formula.One) (drop (suc x) q₁.linear))
        (as_before z (λ q. prove_focused deep₁ q (take x q.linear) (get_or q.linear x formula.One) (drop (suc x) q.linear)) i.kept.grew ready.zones a)

    pub choosing_goes : {r : Outcome} {m' w' : List ℕ} {d : Counters} → x < z.linear_len → Focuses p left depth z at c m w r m' w' x → r ≡ Nothing d → Choosing left depth z at p c₀ m₀ w₀ (x + 1) d m' w'
    choosing_goes h a e = record {
      kept = kept_then i.kept (nothing_kept (focused_before a) e);
      goes = each_goes (positive_at deep₁ q₁) q₁.linear x i.kept i.goes (omega (arith, linear_length m₀ ready.zones.fits)) (focused_before a) e;
    }

    pub choosing_stops : {r : Outcome} {m' w' : List ℕ} → x < z.linear_len → Focuses p left depth z at c m w r m' w' x → OneOf (0 ∷ 2 ∷ []) (tag r) → Chooses p left depth z at c₀ m₀ w₀ r m' w'
    choosing_stops h a o = each_stops (positive_at deep₁ q₁) q₁.linear x i.kept i.goes (omega (arith, linear_length m₀ ready.zones.fits)) (focused_before a) o

    pub choosing_ends : z.linear_len ≤ x → Chooses p left depth z at c₀ m₀ w₀ (Nothing c) m w
    choosing_ends h = each_ends (positive_at deep₁ q₁) q₁.linear x i.kept i.goes (suc left) q₁ (omega (arith, linear_length m₀ ready.zones.fits)) (omega (arith, below_explored ready, i.kept.more))

-- the rules on the unrestricted zone, at one place of it
abbrev tried : Exponential → (Sequent → Search) → Sequent → List Formula → Formula → List Formula → Search
tried Dereliction deep q before f after = from_one tree.Dereliction q (deep (q.linear ++ (f ∷ []) ﹔ before ++ after))
tried Contraction deep q before f after = from_one tree.Contraction q (deep (q.linear ++ (f ∷ f ∷ []) ﹔ before ++ after))
tried Weakening deep q before f after = from_one tree.Weakening q (deep (q.linear ﹔ before ++ after))

tried_here : (e : Exponential) (deep : Sequent → Search) (q : Sequent) (i : ℕ) → tried e deep q (take i q.unrestricted) (get_or q.unrestricted i formula.One) (drop (suc i) q.unrestricted) ≡ from_one (rule_named e) q (deep (premise_of e i q))
tried_here Dereliction deep q i = refl
tried_here Contraction deep q i = refl
tried_here Weakening deep q i = refl

tried_each : (e : Exponential) (deep : Sequent → Search) (q : Sequent) → exponential e deep q ≡ each (tried e deep q) [] q.unrestricted
unfolding try_dereliction try_contraction try_weakening
tried_each Dereliction deep q = refl
tried_each Contraction deep q = refl
tried_each Weakening deep q = refl

-- `unrestricted`
pub record Using (e : Exponential) (left depth : ℕ) (z : Zones) (at : ℕ) (p : Prover) (c₀ : Counters) (m₀ w₀ : List ℕ) (x : ℕ) (c : Counters) (m w : List ℕ) : Type 0 where
  pub kept : Kept at p c₀ m₀ w₀ c m w
  pub goes : Goes (exponential e (deeper p left depth) (sequent m₀ z)) c₀ m₀ (from_place (tried e (deeper p left depth) (sequent m₀ z)) (sequent m₀ z).unrestricted x) c m

module _ (e : Exponential) (left depth : ℕ) {z : Zones} {far at : ℕ} {p : Prover} {c₀ : Counters} {m₀ w₀ : List ℕ} (ready : Ready 1 z far at p c₀ m₀ w₀) where
  abbrev q₂ : Sequent
  q₂ = sequent m₀ z

  abbrev deep₂ : Sequent → Search
  deep₂ = deeper p left depth

  unrestricted_length : length q₂.unrestricted ≡ z.unrestricted_len
  unrestricted_length = length-map (unrestricteds z) (told m₀) ∙ unrestricteds_length ready.zones.fits

  pub using_starts : Using e left depth z at p c₀ m₀ w₀ 0 c₀ m₀ w₀
  using_starts = record { kept = kept_now ready; goes = each_starts (tried e deep₂ q₂) q₂.unrestricted (tried_each e deep₂ q₂) }

  module _ {x : ℕ} {c : Counters} {m w : List ℕ} (i : Using e left depth z at p c₀ m₀ w₀ x c m w) where
    taken_before : {r : Outcome} {m' w' : List ℕ} → Takes p left depth z at c m w r m' w' e x → Agrees (suc left) q₂ (tried e deep₂ q₂ (take x q₂.unrestricted) (get_or q₂.unrestricted x formula.One) (drop (suc x) q₂.unrestricted)) at p c m w r m' w'
    taken_before a =
        of (tried_here e deep₂ q₂ x) (as_before z (λ q. from_one (rule_named e) q (deep₂ (premise_of e x q))) i.kept.grew ready.zones a)

    pub using_goes : {r : Outcome} {m' w' : List ℕ} {d : Counters} → x < z.unrestricted_len → Takes p left depth z at c m w r m' w' e x → r ≡ Nothing d → Using e left depth z at p c₀ m₀ w₀ (x + 1) d m' w'
    using_goes h a k = record {
      kept = kept_then i.kept (nothing_kept (taken_before a) k);
      goes = each_goes (tried e deep₂ q₂) q₂.unrestricted x i.kept i.goes (omega (arith, unrestricted_length)) (taken_before a) k;
    }

    pub using_stops : {r : Outcome} {m' w' : List ℕ} → x < z.unrestricted_len → Takes p left depth z at c m w r m' w' e x → OneOf (0 ∷ 2 ∷ []) (tag r) → Uses p left depth z at c₀ m₀ w₀ r m' w' e
    using_stops h a o = each_stops (tried e deep₂ q₂) q₂.unrestricted x i.kept i.goes (omega (arith, unrestricted_length)) (taken_before a) o

    pub using_ends : z.unrestricted_len ≤ x → Uses p left depth z at c₀ m₀ w₀ (Nothing c) m w e
    using_ends h = each_ends (tried e deep₂ q₂) q₂.unrestricted x i.kept i.goes (suc left) q₂ (omega (arith, unrestricted_length)) (omega (arith, below_explored ready, i.kept.more))

  -- `taken`: only a contraction's premise can be too long
  long_contraction : long e z ≡ true → (e ≡ Contraction) × (z.linear_len + z.unrestricted_len ≡ 31)
  long_contraction h = go e h
    where
      go : (e : Exponential) → long e z ≡ true → (e ≡ Contraction) × (z.linear_len + z.unrestricted_len ≡ 31)
      go Dereliction h = absurd (false≢true h)
      go Contraction h = (refl, eqb-true _ 31 h)
      go Weakening h = absurd (false≢true h)

  pub taken_long : {i : ℕ} {b : Bool} → i < z.unrestricted_len → b ≡ long e z → b ≡ true → Takes p left depth z at c₀ m₀ w₀ (Refused TooMany c₀) m₀ w₀ e i
  unfolding coded
  taken_long {i} {b} l k t =
      let g = long_contraction (sym k ∙ t) in
      let h = linear_length m₀ ready.zones.fits in
      let o = removed_length q₂.unrestricted i (omega (arith, unrestricted_length)) in
      let u = length-append q₂.linear (get_or q₂.unrestricted i formula.One ∷ get_or q₂.unrestricted i formula.One ∷ []) in
      done_refused (kept_now ready) answer.too_many (below_explored ready)
      (goes_refused (rule_named e) q₂ answer.too_many (goes_long p left (suc depth) (premise_of e i q₂) (rw g.0 (omega (arith, unrestricted_length, g.1)))))

  step_exponential : (i : ℕ) → i < z.unrestricted_len → step q₂ (word (number_of e) i 0) ≡ some (premise_of e i q₂ ∷ [] by rule_named e)
  step_exponential i l = go e
    where
      low : i < 32
      low = let f = ready.zones.fits in omega (arith, f.few)

      there : i < length q₂.unrestricted
      there = omega (arith, unrestricted_length)

      go : (e : Exponential) → step q₂ (word (number_of e) i 0) ≡ some (premise_of e i q₂ ∷ [] by rule_named e)
      go Dereliction = step_dereliction q₂ 0 low there refl
      go Contraction = step_contraction q₂ 0 low there refl
      go Weakening = step_weakening q₂ 0 low there

  pub taken_under : {i k x : ℕ} {y : Zones} {r : Outcome} {m' w' : List ℕ} → i < z.unrestricted_len → Premise e z i y → k ≡ number_of e → x ≡ word k i 0 → Puts p left depth y at c₀ m₀ w₀ r m' w' x → Takes p left depth z at c₀ m₀ w₀ r m' w' e i
  taken_under {i} {k} {x} {y} l o g h u =
      put_one left depth q₂ (rule_named e) y u (o.means (told m₀)) (kept_sequent ready.zones) (stepped q₂ (h ∙ ap (λ (n : ℕ). word n i 0) g) (step_exponential i l))
