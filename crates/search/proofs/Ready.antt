-- What the ring's members ask, handed on: to the next choice, to a premise, to the second premise; and what stays over a visit's own counting. Assumes nothing.
use mathlib.Core.Path.{◌≡◌, refl, ap, ◌∙◌}
use mathlib.Core.List.{List, [], ◌∷◌}
use Prim.Native.Nat.{ℕ, ◌+◌, ◌≤◌, ◌<◌}
use native.Mathlib.Omega.{arith}
use lib.ListN.{length, get_or, length-map}
use Rattle.logic.specs.Formula.{Formula, One, Bottom, Top, Zero, Atom, NegAtom, Tensor, Par, With, Plus, Lolli, OfCourse, WhyNot}
use Rattle.logic.specs.Zone.{total}
use Rattle.logic.specs.Search.{lolli_count, lollis}
use Rattle.logic.specs.Sequent.{Sequent}
use Rattle.logic.specs.Outcome.{Search}
use Rattle.zones.specs.declared.Zones.{Zones}
use Rattle.zones.specs.Zones.{Fits, Change, Made, Adds, linears}
use Rattle.zones.specs.ZonesLaws.{linears_length, within_made, within_linear}
use Rattle.memory.specs.Meaning.{holds, told, held_count, Wf, Grew, StandsIn}
use Rattle.memory.specs.MeaningLaws.{told_among}
use Rattle.expand.specs.InMemory as in_memory
use Rattle.search.proofs.Turns.{count_meant}
use Rattle.search.proofs.Leaves.{linear_here, linear_length}
use Rattle.search.specs.declared.Prover.{Prover}
use Rattle.search.specs.declared.counters.Counters.{Counters}
use Rattle.search.specs.declared.Outcome.{Outcome}
use Rattle.search.specs.declared.Outcome.TheVariants.{Found}
use Rattle.search.specs.Plans.{sequent}
use Rattle.search.specs.AskedLaws.{stands_later}
use Rattle.search.specs.Contract.{Ready, Agrees, counted, reached_at, struck}
use Rattle.search.proofs.Steps.{Kept, grew_refl, answered}

-- what an operation makes of held formulas is of held formulas
pub stands_made : {m : List ℕ} {z y : Zones} {change : Change ℕ} → StandsIn m z → Made z change y → Adds (held_count m) change → StandsIn m y
stands_made {m} s o a = record { fits = o.fits; within = within_made (held_count m) o s.within a }

-- the formulas of the sequent are held
pub kept_sequent : {m : List ℕ} {z : Zones} → StandsIn m z → in_memory.Kept (holds m) (sequent m z)
kept_sequent {m} {z} s =
    let f = s.fits in
    record {
      few = omega (arith, count_meant (told m) f, f.few);
      held = λ i l. let h : i < z.linear_len = omega (arith, linear_length m f) in rw (linear_here m f i h) (told_among m (get_or z.linear i 0) (within_linear (held_count m) f s.within i h));
    }

-- at most 31 implications
one_lolli : (f : Formula) → lolli_count f ≤ 1
one_lolli (Lolli a b) = omega arith
one_lolli (Atom a) = omega arith
one_lolli (NegAtom a) = omega arith
one_lolli (Tensor a b) = omega arith
one_lolli (Par a b) = omega arith
one_lolli One = omega arith
one_lolli Bottom = omega arith
one_lolli (With a b) = omega arith
one_lolli (Plus a b) = omega arith
one_lolli Top = omega arith
one_lolli Zero = omega arith
one_lolli (OfCourse a) = omega arith
one_lolli (WhyNot a) = omega arith

lollis_length : (l : List Formula) → lollis l ≤ length l
unfolding lollis total
lollis_length [] = omega arith
lollis_length (f ∷ l) = omega (arith, one_lolli f, lollis_length l)

pub few_lollis : (m : List ℕ) {z : Zones} → Fits z → lollis (sequent m z).linear ≤ 31
few_lollis m {z} f = omega (arith, lollis_length (sequent m z).linear, length-map (linears z) (told m), linears_length f, f.few)

module _ {k : ℕ} {z : Zones} {far at : ℕ} {p : Prover} {c : Counters} {m w : List ℕ} (ready : Ready k z far at p c m w) where
  pub kept_now : Kept at p c m w c m w
  kept_now = record {
    front = refl;
    beyond = λ i l. refl;
    size = refl;
    wf = ready.wf;
    grew = grew_refl;
    within = ready.within;
    more = omega arith;
    struck = omega arith;
  }

  -- other zones, of held formulas
  pub ready_zones : {y : Zones} → StandsIn m y → Ready k y far at p c m w
  ready_zones s = record {
    zones = s;
    wf = ready.wf;
    shallow = ready.shallow;
    within = ready.within;
    small = ready.small;
    room = ready.room;
    stack = ready.stack;
    struck = ready.struck;
  }

  pub below_explored : at ≤ c.explored
  below_explored = omega (arith, ready.stack)

module _ {z : Zones} {far at : ℕ} {p : Prover} {c : Counters} {m w : List ℕ} (ready : Ready 1 z far at p c m w) where
  -- the next choice
  pub ready_after : {c' : Counters} {m' w' : List ℕ} → Kept at p c m w c' m' w' → Ready 1 z far at p c' m' w'
  ready_after k = record {
    zones = stands_later k.grew ready.zones;
    wf = k.wf;
    shallow = ready.shallow;
    within = k.within;
    small = ready.small;
    room = rw k.size ready.room;
    stack = omega (arith, ready.stack, k.more);
    struck = omega (arith, ready.struck, k.struck);
  }

  -- a premise, or the left one
  pub ready_premise : (far' : ℕ) → far' ≤ far → Ready 0 z far' (at + 1) p c m w
  ready_premise far' l = record {
    zones = ready.zones;
    wf = ready.wf;
    shallow = omega (arith, ready.shallow);
    within = ready.within;
    small = ready.small;
    room = ready.room;
    stack = omega (arith, ready.stack);
    struck = omega (arith, ready.struck);
  }

  -- the right premise, over the left one's tree
  pub ready_right : {n : ℕ} {q : Sequent} {run : Search} {u : Zones} {mid : ℕ} {r : Outcome} {c₁ : Counters} {m₁ w₁ : List ℕ} (far' : ℕ)
      → far' ≤ far → StandsIn m u → Agrees n q run (at + 1) p c m w r m₁ w₁ → r ≡ Found mid c₁ → Ready 0 u far' mid p c₁ m₁ w₁
  ready_right far' l s a e =
      let f = answered e a in
      record {
        zones = stands_later f.grew s;
        wf = f.wf;
        shallow = omega (arith, ready.shallow);
        within = f.within;
        small = ready.small;
        room = rw f.size ready.room;
        stack = omega (arith, f.stack);
        struck = omega (arith, ready.struck, f.struck);
      }

  -- the same depth, once more
  pub ready_again : {z' : Zones} {m' : List ℕ} → Grew m m' → Wf m' → StandsIn m' z' → Ready 0 z' far at p c m' w
  ready_again g f s = record {
    zones = s;
    wf = f;
    shallow = ready.shallow;
    within = ready.within;
    small = ready.small;
    room = ready.room;
    stack = omega (arith, ready.stack);
    struck = omega (arith, ready.struck);
  }

-- a visit is counted
module _ {z : Zones} {far at : ℕ} {p : Prover} {c : Counters} {m w : List ℕ} (ready : Ready 0 z far at p c m w) (some : c.explored < p.budget) (depth : ℕ) {c₁ c₂ : Counters} (e₁ : c₁ ≡ counted c) (e₂ : c₂ ≡ reached_at depth c₁) where
  pub counted_is : c₂ ≡ reached_at depth (counted c)
  counted_is = e₂ ∙ ap (reached_at depth) e₁

  pub kept_counted : Kept at p c m w c₂ m w
  kept_counted = rw counted_is record {
    front = refl;
    beyond = λ i l. refl;
    size = refl;
    wf = ready.wf;
    grew = grew_refl;
    within = omega arith;
    more = omega arith;
    struck = omega arith;
  }

  pub kept_struck : Kept at p c m w (struck c₂) m w
  kept_struck = rw counted_is record {
    front = refl;
    beyond = λ i l. refl;
    size = refl;
    wf = ready.wf;
    grew = grew_refl;
    within = omega arith;
    more = omega arith;
    struck = omega arith;
  }

-- the memory after a record
pub kept_memory : {at : ℕ} {p : Prover} {c c' : Counters} {m w m' w' m'' : List ℕ} → Kept at p c m w c' m' w' → Wf m'' → Grew m' m'' → Kept at p c m w c' m'' w'
kept_memory k f g = record {
  front = k.front;
  beyond = k.beyond;
  size = k.size;
  wf = f;
  grew = record { more = omega (arith, k.grew.more, g.more); same = λ x l. g.same x (omega (arith, k.grew.more)) ∙ k.grew.same x l };
  within = k.within;
  more = k.more;
  struck = k.struck;
}

-- at most 31 implications, in the memory that an answer left
pub few_after : {n : ℕ} {q : Sequent} {run : Search} {at : ℕ} {p : Prover} {c : Counters} {m w : List ℕ} {r : Outcome} {m' w' : List ℕ} (u : Zones) → Agrees n q run at p c m w r m' w' → Fits u → lollis (sequent m' u).linear ≤ 31
few_after {m' = m'} u a f = few_lollis m' f
