-- The calculus of the ring's contract: what a nothing keeps, how a search goes on from it, what a node adds, how two premises join. No code is in it. Assumes nothing.
use mathlib.Core.Path.{◌≡◌, refl, sym, ap, ◌∙◌, subst}
use mathlib.Core.Logic.{⊎_elim, inl, inr}
use mathlib.Core.List.{List, [], ◌∷◌, ◌++◌}
use mathlib.Core.Option.{some}
use Prim.Native.Nat.{ℕ, suc, ◌+◌, ◌≤◌, ◌<◌}
use native.Mathlib.Omega.{arith}
use native.Mathlib.Numerals.{add-one}
use lib.ListN.{length, get_or, set, take, drop, length-set, take-append-drop}
use lib.Seq.{slice, slice-cons, slice_empty, take-take, take-set-le, take-set-lt, drop-set-lt, drop-append-le, length-take-le, get_or-set_same, get_or-set_other}
use types.Run.{OneOf}
use denote.Enum.Declared.{tag_of}
use Rattle.logic.specs.Sequent.{Sequent}
use Rattle.logic.specs.Tree.{Rule, Tree, node, ∅, ◌▹◌}
use Rattle.logic.specs.Answer as answer
use Rattle.logic.specs.Outcome as logic
use Rattle.logic.specs.Outcome.{State, Search, or_next, found_next, ◌or_else◌, ◌if_found◌}
use Rattle.logic.specs.Search.{from_one, from_two}
use Rattle.formula.specs.Answers.{coded}
use Rattle.memory.specs.Meaning.{holds, Wf, Grew}
use Rattle.memory.specs.MeaningLaws.{grew_among}
use Rattle.expand.specs.Short.{step, ◌by◌, spelled}
use Rattle.expand.specs.InMemory as in_memory
use Rattle.expand.specs.InMemoryLaws.{Grows, kept_grows}
use Rattle.search.specs.Told.{Tells}
use Rattle.search.specs.ToldLaws.{tells_leaf, tells_one, tells_two, tells_grows}
use Rattle.search.specs.declared.Prover.{Prover}
use Rattle.search.specs.declared.counters.Counters.{Counters}
use Rattle.search.specs.declared.Outcome.{Outcome}
use Rattle.search.specs.declared.Outcome.TheVariants.{Found, Nothing, Refused}
use Rattle.search.specs.contracts.Outcome.{the_type}
use Rattle.search.specs.Contract.{Stands, Says, Agrees, counters_of, end_of}

abbrev pub tag : Outcome → ℕ
tag r = tag_of the_type r

-- the answers that are no nothing, and those that are no tree
pub not_nothing : (r : Outcome) → ((c : Counters) → r ≡ Nothing c → ⊥) → OneOf (0 ∷ 2 ∷ []) (tag r)
not_nothing (Found n c) o = inl refl
not_nothing (Nothing c) o = absurd (o c refl)
not_nothing (Refused k c) o = inr refl

pub not_found : (r : Outcome) → ((n : ℕ) (c : Counters) → r ≡ Found n c → ⊥) → OneOf (1 ∷ 2 ∷ []) (tag r)
not_found (Found n c) o = absurd (o n c refl)
not_found (Nothing c) o = inl refl
not_found (Refused k c) o = inr refl

pub grew_refl : {m : List ℕ} → Grew m m
grew_refl = record { more = omega arith; same = λ x h. refl }

pub grew_trans : {m m' m'' : List ℕ} → Grew m m' → Grew m' m'' → Grew m m''
grew_trans h g = record { more = omega arith; same = λ x l. g.same x (omega arith) ∙ h.same x l }

-- so the formulas held stay held
pub holds_grow : {m m' : List ℕ} → Grew m m' → Grows (holds m) (holds m')
holds_grow g = record { stays = grew_among g }

-- what stays over a nothing: the words below `at`, those that no visit could use, the bounds
pub record Kept (at : ℕ) (p : Prover) (c : Counters) (m w : List ℕ) (c' : Counters) (m' w' : List ℕ) : Type 0 where
  pub front : take at w' ≡ take at w
  pub beyond : (i : ℕ) → c'.explored ≤ i → get_or w' i 0 ≡ get_or w i 0
  pub size : length w' ≡ length w
  pub wf : Wf m'
  pub grew : Grew m m'
  pub within : c'.explored ≤ p.budget
  pub more : c.explored ≤ c'.explored
  pub struck : c'.hits + c.explored ≤ c'.explored + c.hits

-- a search that ends as o is the search `run` from some state that the counters and the memory stand for
pub record Reached (o : logic.Outcome × State) (run : Search) (c : Counters) (m : List ℕ) : Type 0 where
  pub state : State
  pub stands : Stands c m state
  pub same : o ≡ run state

-- the search `run` from there goes on as the search `run'` from here
pub record Goes (run : Search) (c : Counters) (m : List ℕ) (run' : Search) (c' : Counters) (m' : List ℕ) : Type 0 where
  pub on : (s : State) → Stands c m s → Reached (run s) run' c' m'

pub goes_as : {run run' : Search} {c : Counters} {m : List ℕ} → run ≡ run' → Goes run c m run' c m
goes_as e = record { on = λ s h. record { state = s; stands = h; same = ap (λ (r : Search). r s) e } }

pub goes_then : {run run₁ run₂ : Search} {c c₁ c₂ : Counters} {m m₁ m₂ : List ℕ} → Goes run c m run₁ c₁ m₁ → Goes run₁ c₁ m₁ run₂ c₂ m₂ → Goes run c m run₂ c₂ m₂
goes_then {run} {run₁} {run₂} {c} {c₁} {c₂} {m} {m₁} {m₂} g h = record { on = λ s st. go (g.on s st) }
  where
    go : {o : logic.Outcome × State} → Reached o run₁ c₁ m₁ → Reached o run₂ c₂ m₂
    go x = let y = h.on x.state x.stands in record { state = y.state; stands = y.stands; same = x.same ∙ y.same }

-- an answer by an equation
pub answered : {n : ℕ} {q : Sequent} {run : Search} {at : ℕ} {p : Prover} {c : Counters} {m w : List ℕ} {r r' : Outcome} {m' w' : List ℕ}
    → r ≡ r' → Agrees n q run at p c m w r m' w' → Agrees n q run at p c m w r' m' w'
answered {n} {q} {run} {at} {p} {c} {m} {w} {r} {r'} {m'} {w'} e a = subst (λ (x : Outcome). Agrees n q run at p c m w x m' w') e a

-- another search, by an equation
pub of : {n : ℕ} {q : Sequent} {run run' : Search} {at : ℕ} {p : Prover} {c : Counters} {m w : List ℕ} {r : Outcome} {m' w' : List ℕ}
    → run ≡ run' → Agrees n q run' at p c m w r m' w' → Agrees n q run at p c m w r m' w'
of {n} {q} {run} {run'} {at} {p} {c} {m} {w} {r} {m'} {w'} e a = subst (λ (x : Search). Agrees n q x at p c m w r m' w') (sym e) a

module _ {n : ℕ} {q : Sequent} {run : Search} {at : ℕ} {p : Prover} {c : Counters} {m w : List ℕ} {r : Outcome} {m' w' : List ℕ} (a : Agrees n q run at p c m w r m' w') where
  -- after a nothing the next choice is tried
  module _ {d : Counters} (e : r ≡ Nothing d) where
    b : Agrees n q run at p c m w (Nothing d) m' w'
    b = answered e a

    pub nothing_goes : (run' : Search) → Goes (run or_else run') c m run' d m'
    unfolding ◌or_else◌
    nothing_goes run' = record { on = λ s st. go (run s).0 (run s).1 (b.says s st) }
      where
        go : (o : logic.Outcome) (t : State) → Says n q at m' w' o t (Nothing d) → Reached (or_next o t run') run' d m'
        go (logic.found x) t h = absurd h
        go logic.nothing t h = record { state = t; stands = h; same = refl }
        go (logic.refused k) t h = absurd h

    -- the search itself is done
    pub nothing_done : Goes run c m (logic.answer logic.nothing) d m'
    nothing_done = record { on = λ s st. go (run s).0 (run s).1 (b.says s st) }
      where
        go : (o : logic.Outcome) (t : State) → Says n q at m' w' o t (Nothing d) → Reached (o, t) (logic.answer logic.nothing) d m'
        go (logic.found x) t h = absurd h
        go logic.nothing t h = record { state = t; stands = h; same = refl }
        go (logic.refused k) t h = absurd h

    pub nothing_kept : Kept at p c m w d m' w'
    nothing_kept = record {
      front = b.front;
      beyond = b.beyond;
      size = b.size;
      wf = b.wf;
      grew = b.grew;
      within = b.within;
      more = b.more;
      struck = b.struck;
    }

  -- any other answer ends the choices
  pub stops : OneOf (0 ∷ 2 ∷ []) (tag r) → (run' : Search) → Agrees n q (run or_else run') at p c m w r m' w'
  stops k run' = record {
    says = λ s st. unfold ◌or_else◌ in go (run s).0 (run s).1 r (a.says s st) k;
    front = a.front;
    beyond = a.beyond;
    size = a.size;
    wf = a.wf;
    grew = a.grew;
    within = a.within;
    more = a.more;
    struck = a.struck;
    low = a.low;
    stack = a.stack;
  }
    where
      go : (o : logic.Outcome) (t : State) (x : Outcome) → Says n q at m' w' o t x → OneOf (0 ∷ 2 ∷ []) (tag x) → Says n q at m' w' (or_next o t run').0 (or_next o t run').1 x
      go (logic.found u) t x h k = h
      go logic.nothing t (Found end d) h k = absurd h
      go logic.nothing t (Nothing d) h k = absurd (⊎_elim (λ y. omega arith) (λ y. omega arith) k)
      go logic.nothing t (Refused j d) h k = absurd h
      go (logic.refused j) t x h k = h

module _ {n : ℕ} {q : Sequent} {run : Search} {at : ℕ} {p : Prover} {c : Counters} {m w : List ℕ} {c₁ : Counters} {m₁ w₁ : List ℕ} (k : Kept at p c m w c₁ m₁ w₁) where
  -- the answer from here is the answer from there
  pub rebase : {run' : Search} {r : Outcome} {m' w' : List ℕ} → Goes run c m run' c₁ m₁ → Agrees n q run' at p c₁ m₁ w₁ r m' w' → Agrees n q run at p c m w r m' w'
  rebase {run'} {r} {m'} {w'} g a = record {
    says = λ s st. go (g.on s st);
    front = a.front ∙ k.front;
    beyond = λ i l. a.beyond i l ∙ k.beyond i (omega (arith, a.more));
    size = a.size ∙ k.size;
    wf = a.wf;
    grew = grew_trans k.grew a.grew;
    within = a.within;
    more = omega (arith, a.more, k.more);
    struck = omega (arith, a.struck, k.struck);
    low = a.low;
    stack = a.stack;
  }
    where
      go : {o : logic.Outcome × State} → Reached o run' c₁ m₁ → Says n q at m' w' o.0 o.1 r
      go x = subst (λ (y : logic.Outcome × State). Says n q at m' w' y.0 y.1 r) (sym x.same) (a.says x.state x.stands)

  pub done_nothing : at ≤ c₁.explored → Goes run c m (logic.answer logic.nothing) c₁ m₁ → Agrees n q run at p c m w (Nothing c₁) m₁ w₁
  done_nothing l g = record {
    says = λ s st. go (g.on s st);
    front = k.front;
    beyond = k.beyond;
    size = k.size;
    wf = k.wf;
    grew = k.grew;
    within = k.within;
    more = k.more;
    struck = k.struck;
    low = omega arith;
    stack = l;
  }
    where
      go : {o : logic.Outcome × State} → Reached o (logic.answer logic.nothing) c₁ m₁ → Says n q at m₁ w₁ o.0 o.1 (Nothing c₁)
      go x = subst (λ (y : logic.Outcome × State). Says n q at m₁ w₁ y.0 y.1 (Nothing c₁)) (sym x.same) x.stands

  pub done_refused : (j : answer.Refusal) → at ≤ c₁.explored → Goes run c m (logic.answer (logic.refused j)) c₁ m₁ → Agrees n q run at p c m w (Refused (coded j) c₁) m₁ w₁
  done_refused j l g = record {
    says = λ s st. go (g.on s st);
    front = k.front;
    beyond = k.beyond;
    size = k.size;
    wf = k.wf;
    grew = k.grew;
    within = k.within;
    more = k.more;
    struck = k.struck;
    low = omega arith;
    stack = l;
  }
    where
      go : {o : logic.Outcome × State} → Reached o (logic.answer (logic.refused j)) c₁ m₁ → Says n q at m₁ w₁ o.0 o.1 (Refused (coded j) c₁)
      go x = subst (λ (y : logic.Outcome × State). Says n q at m₁ w₁ y.0 y.1 (Refused (coded j) c₁)) (sym x.same) (x.stands, refl)

-- Words: what lies below a place, a word put before others, and two parts joined
take_less : (i j : ℕ) (v w : List ℕ) → i ≤ j → take j v ≡ take j w → take i v ≡ take i w
take_less i j v w l e = sym (take-take i j v l) ∙ ap (take i) e ∙ take-take i j w l

slice_set : (at end x : ℕ) (w : List ℕ) → at < end → end ≤ length w → slice at end (set w at x) ≡ x ∷ slice (at + 1) end w
slice_set at end x w l h =
    let k : end ≤ length (set w at x) = rw length-set h in
    slice-cons at end (set w at x) 0 l k
    ∙ rw (get_or-set_same w at x 0 (omega arith), take-set-lt end w at x l, drop-set-lt (suc at) (take end w) at x (omega arith), add-one)

slice_join : (i j k : ℕ) (w : List ℕ) → i ≤ j → j ≤ k → j ≤ length w → slice i k w ≡ slice i j w ++ slice j k w
slice_join i j k w l h f =
    ap (drop i) (sym (take-append-drop j (take k w)) ∙ ap (λ (v : List ℕ). v ++ drop j (take k w)) (take-take j k w h))
    ∙ drop-append-le i (take j w) (drop j (take k w)) (omega (arith, length-take-le j w f))

-- any answer keeps the words below it
pub kept_by : {n : ℕ} {q : Sequent} {run : Search} {at at₁ : ℕ} {p : Prover} {c : Counters} {m w : List ℕ} {r : Outcome} {m' w' : List ℕ}
    → at ≤ at₁ → Agrees n q run at₁ p c m w r m' w' → Kept at p c m w (counters_of r) m' w'
kept_by {at = at} {at₁ = at₁} {w = w} {w' = w'} l a = record {
  front = take_less at at₁ w' w l a.front;
  beyond = a.beyond;
  size = a.size;
  wf = a.wf;
  grew = a.grew;
  within = a.within;
  more = a.more;
  struck = a.struck;
}

pub kept_then : {at : ℕ} {p : Prover} {c c₁ c₂ : Counters} {m w m₁ w₁ m₂ w₂ : List ℕ} → Kept at p c m w c₁ m₁ w₁ → Kept at p c₁ m₁ w₁ c₂ m₂ w₂ → Kept at p c m w c₂ m₂ w₂
kept_then k l = record {
  front = l.front ∙ k.front;
  beyond = λ i h. l.beyond i h ∙ k.beyond i (omega (arith, l.more));
  size = l.size ∙ k.size;
  wf = l.wf;
  grew = grew_trans k.grew l.grew;
  within = l.within;
  more = omega (arith, k.more, l.more);
  struck = omega (arith, k.struck, l.struck);
}

-- an answer that is no tree, counted from a place below
stopped : (n : ℕ) (q : Sequent) {run : Search} {at : ℕ} {p : Prover} {c : Counters} {m w : List ℕ} {r : Outcome} {m' w' : List ℕ}
    → Kept at p c m w (counters_of r) m' w' → OneOf (1 ∷ 2 ∷ []) (tag r) → at ≤ (counters_of r).explored → ((s : State) → Stands c m s → Says n q at m' w' (run s).0 (run s).1 r) → Agrees n q run at p c m w r m' w'
stopped n q {at = at} {r = r} k o l h = record {
  says = h;
  front = k.front;
  beyond = k.beyond;
  size = k.size;
  wf = k.wf;
  grew = k.grew;
  within = k.within;
  more = k.more;
  struck = k.struck;
  low = at_least r o;
  stack = at_most r o l;
}
  where
    at_least : (x : Outcome) → OneOf (1 ∷ 2 ∷ []) (tag x) → at ≤ end_of at x
    at_least (Found e d) o = absurd (⊎_elim (λ y. omega arith) (λ y. omega arith) o)
    at_least (Nothing d) o = omega arith
    at_least (Refused j d) o = omega arith

    at_most : (x : Outcome) → OneOf (1 ∷ 2 ∷ []) (tag x) → at ≤ (counters_of x).explored → end_of at x ≤ (counters_of x).explored
    at_most (Found e d) o l = absurd (⊎_elim (λ y. omega arith) (λ y. omega arith) o)
    at_most (Nothing d) o l = l
    at_most (Refused j d) o l = l

-- an outcome that is no tree gets no node, and no second premise
module _ (n : ℕ) (q : Sequent) (at : ℕ) (n' : ℕ) (q' : Sequent) (at' : ℕ) (m w : List ℕ) (k : Tree → Search) where
  says_stopped : (o : logic.Outcome) (t : State) (r : Outcome) → OneOf (1 ∷ 2 ∷ []) (tag r) → Says n q at m w o t r → Says n' q' at' m w (found_next o t k).0 (found_next o t k).1 r
  says_stopped (logic.found x) t (Found e d) o h = absurd (⊎_elim (λ y. omega arith) (λ y. omega arith) o)
  says_stopped (logic.found x) t (Nothing d) o h = absurd h
  says_stopped (logic.found x) t (Refused j d) o h = absurd h
  says_stopped logic.nothing t (Found e d) o h = absurd h
  says_stopped logic.nothing t (Nothing d) o h = h
  says_stopped logic.nothing t (Refused j d) o h = absurd h
  says_stopped (logic.refused i) t (Found e d) o h = absurd h
  says_stopped (logic.refused i) t (Nothing d) o h = absurd h
  says_stopped (logic.refused i) t (Refused j d) o h = h

-- a tree, taken apart
pub record Grown (n : ℕ) (q : Sequent) (at : ℕ) (m w : List ℕ) (o : logic.Outcome) (t : State) (end : ℕ) (c : Counters) : Type 0 where
  pub tree : Tree
  pub is : o ≡ logic.found tree
  pub stands : Stands c m t
  pub tells : Tells n q (slice at end w) (holds m) tree

grown : (n : ℕ) (q : Sequent) (at : ℕ) (m w : List ℕ) (o : logic.Outcome) (t : State) (end : ℕ) (c : Counters) → Says n q at m w o t (Found end c) → Grown n q at m w o t end c
grown n q at m w (logic.found x) t end c h = record { tree = x; is = refl; stands = h.0; tells = h.1 }
grown n q at m w logic.nothing t end c h = absurd h
grown n q at m w (logic.refused k) t end c h = absurd h

-- A rule of one premise: the premise's words stand behind the rule's
module _ (n : ℕ) (q₁ : Sequent) (at : ℕ) (q : Sequent) (rule : Rule) {run : Search} {p : Prover} {c : Counters} {m w : List ℕ} {r : Outcome} {m' w' : List ℕ} (a : Agrees n (spelled q₁) run (at + 1) p c m w r m' w') where
  at_below : at ≤ at + 1
  at_below = omega arith

  pub one_stops : at ≤ c.explored → OneOf (1 ∷ 2 ∷ []) (tag r) → Agrees (suc n) q (from_one rule q run) at p c m w r m' w'
  one_stops l o =
      stopped (suc n) q (kept_by at_below a) o (omega (arith, a.more)) λ s st. unfold from_one ◌if_found◌ in says_stopped n (spelled q₁) (at + 1) (suc n) q at m' w' _ (run s).0 (run s).1 r o (a.says s st)

  pub two_stops : (run' : Search) → at ≤ c.explored → OneOf (1 ∷ 2 ∷ []) (tag r) → Agrees (suc n) q (from_two rule q run run') at p c m w r m' w'
  two_stops run' l o =
      stopped (suc n) q (kept_by at_below a) o (omega (arith, a.more)) λ s st. unfold from_two ◌if_found◌ in says_stopped n (spelled q₁) (at + 1) (suc n) q at m' w' _ (run s).0 (run s).1 r o (a.says s st)

  module _ {end : ℕ} {d : Counters} (e : r ≡ Found end d) (room : p.budget ≤ length w) where
    found_here : Agrees n (spelled q₁) run (at + 1) p c m w (Found end d) m' w'
    found_here = answered e a

    pub one_found : (x : ℕ) → in_memory.Kept (holds m) q → step q x ≡ some (q₁ ∷ [] by rule) → Agrees (suc n) q (from_one rule q run) at p c m w (Found end d) m' (set w' at x)
    one_found x held k =
        let f = found_here in
        record {
          says = λ s st. unfold from_one ◌if_found◌ in go (run s).0 (run s).1 (grown n (spelled q₁) (at + 1) m' w' (run s).0 (run s).1 end d (f.says s st));
          front = take-set-le at w' at x (omega arith) ∙ take_less at (at + 1) w' w at_below f.front;
          beyond = λ i l. get_or-set_other w' at i x 0 (λ j. omega (arith, f.low, f.stack)) ∙ f.beyond i l;
          size = length-set w' at x ∙ f.size;
          wf = f.wf;
          grew = f.grew;
          within = f.within;
          more = f.more;
          struck = f.struck;
          low = omega (arith, f.low);
          stack = f.stack;
        }
      where
        go : (o : logic.Outcome) (t : State) → Grown n (spelled q₁) (at + 1) m' w' o t end d
            → Says (suc n) q at m' (set w' at x) (found_next o t (λ t₁. logic.answer (logic.found (node rule q (t₁ ▹ ∅))))).0 (found_next o t (λ t₁. logic.answer (logic.found (node rule q (t₁ ▹ ∅))))).1 (Found end d)
        go o t g =
            let f = found_here in
            rw g.is (g.stands, rw (slice_set at end x w' (omega (arith, f.low)) (omega (arith, f.stack, f.within, f.size))) (tells_one n x q rule (kept_grows (holds_grow f.grew) held) q₁ k g.tells))

-- A rule of two premises: the right premise's words stand behind the left's
module _ (n : ℕ) (q₁ q₂ : Sequent) (at mid : ℕ) (q : Sequent) (rule : Rule) {run run' : Search} {p : Prover} {c c₁ : Counters} {m w : List ℕ} {r₁ : Outcome} {m₁ w₁ : List ℕ} {r : Outcome} {m' w' : List ℕ}
    (a : Agrees n (spelled q₁) run (at + 1) p c m w r₁ m₁ w₁) (e₁ : r₁ ≡ Found mid c₁) (b : Agrees n (spelled q₂) run' mid p c₁ m₁ w₁ r m' w') where
  left_tree : Agrees n (spelled q₁) run (at + 1) p c m w (Found mid c₁) m₁ w₁
  left_tree = answered e₁ a

  left_grown : (s : State) → Stands c m s → Grown n (spelled q₁) (at + 1) m₁ w₁ (run s).0 (run s).1 mid c₁
  left_grown s st = grown n (spelled q₁) (at + 1) m₁ w₁ (run s).0 (run s).1 mid c₁ (left_tree.says s st)

  both_kept : Kept at p c m w (counters_of r) m' w'
  both_kept = let f = left_tree in kept_then (kept_by (omega arith) f) (kept_by (omega (arith, f.low)) b)

  pub right_stops : at ≤ c.explored → OneOf (1 ∷ 2 ∷ []) (tag r) → Agrees (suc n) q (from_two rule q run run') at p c m w r m' w'
  right_stops l o =
      let f = left_tree in
      stopped (suc n) q both_kept o (omega (arith, f.more, b.more)) λ s st. unfold from_two ◌if_found◌ in go (run s).0 (run s).1 (left_grown s st)
    where
      go : (x : logic.Outcome) (t : State) → Grown n (spelled q₁) (at + 1) m₁ w₁ x t mid c₁
          → Says (suc n) q at m' w' (found_next x t (λ t₁. run' if_found λ t₂. logic.answer (logic.found (node rule q (t₁ ▹ t₂ ▹ ∅))))).0 (found_next x t (λ t₁. run' if_found λ t₂. logic.answer (logic.found (node rule q (t₁ ▹ t₂ ▹ ∅))))).1 r
      go x t g = rw g.is (unfold ◌if_found◌ in says_stopped n (spelled q₂) mid (suc n) q at m' w' _ (run' t).0 (run' t).1 r o (b.says t g.stands))

  module _ {end : ℕ} {d : Counters} (e : r ≡ Found end d) (room : p.budget ≤ length w) where
    right_tree : Agrees n (spelled q₂) run' mid p c₁ m₁ w₁ (Found end d) m' w'
    right_tree = answered e b

    module _ (x : ℕ) (held : in_memory.Kept (holds m) q) (k : step q x ≡ some (q₁ ∷ q₂ ∷ [] by rule)) where
      words : slice at end (set w' at x) ≡ x ∷ slice (at + 1) mid w₁ ++ slice mid end w'
      words =
          let f = left_tree in
          let g = right_tree in
          slice_set at end x w' (omega (arith, f.low, g.low)) (omega (arith, f.size, g.stack, g.within, g.size))
          ∙ ap (λ (v : List ℕ). x ∷ v) (slice_join (at + 1) mid end w' f.low g.low (omega (arith, f.size, g.low, g.stack, g.within, g.size)) ∙ ap (λ (v : List ℕ). drop (at + 1) v ++ slice mid end w') g.front)

      pub two_found : Agrees (suc n) q (from_two rule q run run') at p c m w (Found end d) m' (set w' at x)
      two_found =
          let f = left_tree in
          let g = right_tree in
          record {
            says = λ s st. unfold from_two ◌if_found◌ in go (run s).0 (run s).1 (left_grown s st);
            front = take-set-le at w' at x (omega arith) ∙ take_less at mid w' w₁ (omega (arith, f.low)) g.front ∙ take_less at (at + 1) w₁ w (omega arith) f.front;
            beyond = λ i l. get_or-set_other w' at i x 0 (λ j. omega (arith, f.low, g.low, g.stack)) ∙ g.beyond i l ∙ f.beyond i (omega (arith, g.more));
            size = length-set w' at x ∙ g.size ∙ f.size;
            wf = g.wf;
            grew = grew_trans f.grew g.grew;
            within = g.within;
            more = omega (arith, f.more, g.more);
            struck = omega (arith, f.struck, g.struck);
            low = omega (arith, f.low, g.low);
            stack = g.stack;
          }
        where
          inner : (o : logic.Outcome) (t : State) (t₁ : Tree) → Tells n (spelled q₁) (slice (at + 1) mid w₁) (holds m₁) t₁ → Grown n (spelled q₂) mid m' w' o t end d
              → Says (suc n) q at m' (set w' at x) (found_next o t (λ t₂. logic.answer (logic.found (node rule q (t₁ ▹ t₂ ▹ ∅))))).0 (found_next o t (λ t₂. logic.answer (logic.found (node rule q (t₁ ▹ t₂ ▹ ∅))))).1 (Found end d)
          inner o t t₁ h g = rw g.is (g.stands, rw words (tells_two n x q rule (kept_grows (holds_grow right_tree.grew) (kept_grows (holds_grow left_tree.grew) held)) q₁ q₂ k (tells_grows (holds_grow right_tree.grew) h) g.tells))

          go : (o : logic.Outcome) (t : State) → Grown n (spelled q₁) (at + 1) m₁ w₁ o t mid c₁
              → Says (suc n) q at m' (set w' at x) (found_next o t (λ t₁. run' if_found λ t₂. logic.answer (logic.found (node rule q (t₁ ▹ t₂ ▹ ∅))))).0 (found_next o t (λ t₁. run' if_found λ t₂. logic.answer (logic.found (node rule q (t₁ ▹ t₂ ▹ ∅))))).1 (Found end d)
          go o t g = rw g.is (unfold ◌if_found◌ in inner (run' t).0 (run' t).1 g.tree g.tells (grown n (spelled q₂) mid m' w' (run' t).0 (run' t).1 end d (right_tree.says t g.stands)))

-- A rule without premises
pub leaf_found : (n : ℕ) (q : Sequent) (rule : Rule) (x : ℕ) {run : Search} {at : ℕ} {p : Prover} {c : Counters} {m w : List ℕ}
    → in_memory.Kept (holds m) q → step q x ≡ some ([] by rule) → run ≡ logic.answer (logic.found (node rule q ∅)) → at + 1 ≤ c.explored → c.explored ≤ p.budget → p.budget ≤ length w → Wf m
    → Agrees (suc n) q run at p c m w (Found (at + 1) c) m (set w at x)
leaf_found n q rule x {run} {at} {p} {c} {m} {w} held k e l f room wf =
    of e record {
      says = λ s st. (st, rw (slice_set at (at + 1) x w (omega arith) (omega arith), slice_empty (at + 1) w) (tells_leaf n x q rule held k));
      front = take-set-le at w at x (omega arith);
      beyond = λ i h. get_or-set_other w at i x 0 (λ j. omega arith);
      size = length-set w at x;
      wf = wf;
      grew = grew_refl;
      within = f;
      more = omega arith;
      struck = omega arith;
      low = omega arith;
      stack = l;
    }

-- A nothing, and then the answer of the next choice
pub or_then : {n : ℕ} {q : Sequent} {run run' : Search} {at : ℕ} {p : Prover} {c d : Counters} {m w m₁ w₁ m' w' : List ℕ} {r₁ r : Outcome}
    → Agrees n q run at p c m w r₁ m₁ w₁ → r₁ ≡ Nothing d → Agrees n q run' at p d m₁ w₁ r m' w' → Agrees n q (run or_else run') at p c m w r m' w'
or_then a e b = rebase (nothing_kept a e) (nothing_goes a e _) b
