-- Laws of the logic's search as code meets it: a loop by its index, the first decomposable formula by its place, a visit by its tests. Assumes nothing.
use Rattle.std.specs.Prelude.{◌≡◌, Bool, ◌&&◌, length, get_or, take, drop}
use Rattle.std.proofs.Math.Path.{refl, sym, ap}
use Rattle.std.proofs.Common.{◌∙◌, drop_of_length-le}
use Rattle.std.proofs.Math.Bool.{true, false}
use Rattle.std.proofs.lemmas.Bool.{false≢true}
use mathlib.Core.List.{List, [], ◌∷◌, ◌++◌, append_assoc, append-nil}
use Prim.Native.Nat.{ℕ, zero, suc, ◌+◌, ◌-◌, ◌≤◌, ◌<◌}
use native.Mathlib.Omega.{arith}
use Rattle.std.proofs.Math.Numerals.{add-one}
use Rattle.std.proofs.Math.Dec.{eqb}
use Rattle.std.proofs.Math.Seq.{take-suc, drop-cons}
use borrow.Author.Tests.{le-ltb, lt-ltb, eqb-true}
use Rattle.logic.specs.Formula.{Formula, One, Bottom, Top, Zero, Atom, NegAtom, Tensor, Par, With, Plus, Lolli, OfCourse, WhyNot, among, same, is_positive}
use Rattle.logic.proofs.FormulaLaws.{same_iff, same_self}
use Rattle.logic.specs.Sequent.{Sequent, ◌﹔◌, count}
use Rattle.logic.specs.Tree.{TensorIntro, Axiom, Tree, node, ∅}
use Rattle.logic.specs.Answer.{too_many, held_full, budget_spent, failures_full}
use Rattle.logic.specs.Split.{left_of, right_of}
use Rattle.logic.specs.Key.{Key, sequent_key, contains}
use Rattle.logic.specs.Held.{enter}
use Rattle.logic.specs.Limits.{at_most, exceeds}
use Rattle.logic.specs.Outcome.{Outcome, found, nothing, refused, State, Search, answer, when◌then◌else◌, or_next, ◌or_else◌, visited, hit, with_failure, with_held, record_failure, made}
use Rattle.logic.specs.Search.{Settings, as_stated, from_two, if_so, each, tensor_masks, prove_focused, try_axiom, try_dereliction, try_contraction, try_weakening, prove_sync, async_from, unless_empty, prove_async, entered, remembered, prove_with_depth}
use Rattle.logic.specs.Built.{decomposable, Passed, none_yet, and_passed}
use Rattle.logic.proofs.Ring.{ring, ring_over}

-- A loop over a zone, from the place i on
module _ (body : List Formula → Formula → List Formula → Search) (l : List Formula) (i : ℕ) where
  pub each_next : i < length l → each body (take i l) (drop i l) ≡ body (take i l) (get_or l i One) (drop (suc i) l) or_else each body (take (i + 1) l) (drop (i + 1) l)
  unfolding each
  each_next h = rw (add-one, take-suc l i One h, drop-cons l i One h, each)

  pub each_end : length l ≤ i → each body (take i l) (drop i l) ≡ answer nothing
  unfolding each
  each_end h = rw (drop_of_length-le l h, each)

-- The loop over the masks, from the mask x on
module _ (deeper : Sequent → Search) (q : Sequent) (a b : Formula) (others : List Formula) (n x : ℕ) where
  pub masks_next : x < n → tensor_masks deeper q a b others (n - x) x ≡ from_two TensorIntro q (deeper (left_of x others ++ (a ∷ []) ﹔ q.unrestricted)) (deeper (right_of x others ++ (b ∷ []) ﹔ q.unrestricted)) or_else tensor_masks deeper q a b others (n - (x + 1)) (x + 1)
  unfolding tensor_masks
  masks_next h = let e : n - x ≡ suc (n - (x + 1)) = omega arith in rw (e, add-one, tensor_masks)

  pub masks_end : n ≤ x → tensor_masks deeper q a b others (n - x) x ≡ answer nothing
  unfolding tensor_masks
  masks_end h = let e : n - x ≡ 0 = omega arith in rw (e, tensor_masks)

-- The first decomposable formula: what stands before it is passed over
module _ (settings : Settings) (deeper again : Sequent → Search) (q : Sequent) where
  async_skips : (before : List Formula) (f : Formula) (after : List Formula) → decomposable f ≡ false → async_from settings deeper again q before (f ∷ after) ≡ async_from settings deeper again q (before ++ (f ∷ [])) after
  unfolding async_from decomposable
  async_skips before (Par a b) after e = absurd (false≢true (sym e))
  async_skips before Bottom after e = absurd (false≢true (sym e))
  async_skips before Top after e = absurd (false≢true (sym e))
  async_skips before (With a b) after e = absurd (false≢true (sym e))
  async_skips before (WhyNot a) after e = absurd (false≢true (sym e))
  async_skips before (Lolli a b) after e = absurd (false≢true (sym e))
  async_skips before (Atom a) after e = refl
  async_skips before (NegAtom a) after e = refl
  async_skips before (Tensor a b) after e = refl
  async_skips before One after e = refl
  async_skips before (Plus a b) after e = refl
  async_skips before Zero after e = refl
  async_skips before (OfCourse a) after e = refl

  async_passes : (before passed after : List Formula) → Passed passed → async_from settings deeper again q before (passed ++ after) ≡ async_from settings deeper again q (before ++ passed) after
  async_passes before [] after none_yet = rw append-nil
  async_passes before (f ∷ passed) after (and_passed e p) =
      async_skips before f (passed ++ after) e ∙ async_passes (before ++ (f ∷ [])) passed after p ∙ rw append_assoc

  start_at : {l : List Formula} (before : List Formula) (f : Formula) (after : List Formula) → Passed before → l ≡ before ++ (f ∷ after) → unless_empty settings deeper again q l ≡ async_from settings deeper again q before (f ∷ after)
  unfolding unless_empty
  start_at [] f after p e = rw e
  start_at (g ∷ gs) f after p e = rw e (async_passes [] (g ∷ gs) (f ∷ after) p)

  -- the rule at the first decomposable formula
  pub async_at : (before : List Formula) (f : Formula) (after : List Formula) → Passed before → q.linear ≡ before ++ (f ∷ after) → prove_async settings deeper again q ≡ async_from settings deeper again q before (f ∷ after)
  unfolding prove_async
  async_at = start_at

  start_rest : (l : List Formula) → Passed l → 0 < length l → unless_empty settings deeper again q l ≡ prove_sync deeper q
  unfolding unless_empty
  start_rest [] p h = absurd (omega arith)
  start_rest (f ∷ fs) p h = ap (async_from settings deeper again q []) (sym (append-nil (f ∷ fs))) ∙ async_passes [] (f ∷ fs) [] p ∙ unfold async_from in refl

  -- where there is none, the synchronous phase
  pub async_rest : Passed q.linear → 0 < length q.linear → prove_async settings deeper again q ≡ prove_sync deeper q
  unfolding prove_async
  async_rest = start_rest q.linear

  start_empty : (l : List Formula) → length l ≡ 0 → unless_empty settings deeper again q l ≡ answer nothing
  unfolding unless_empty
  start_empty [] e = refl
  start_empty (f ∷ fs) e = absurd (omega arith)

  pub async_empty : length q.linear ≡ 0 → prove_async settings deeper again q ≡ answer nothing
  unfolding prove_async
  async_empty = start_empty q.linear

-- `prove_sync`: the pass over the negated atoms finds nothing that the positives' pass did not, and visits nothing
and_false : (b : Bool) → b && false ≡ false
and_false true = refl
and_false false = refl

found_apart : {t : Tree} → found t ≡ nothing → ⊥
found_apart e = let z : ◌≡◌ {A = ℕ} 0 1 = cc in omega arith

among_one : (f : Formula) → among f (f ∷ []) ≡ true
unfolding among
among_one f = rw (among, same_self)

among_other : (f g : Formula) → same f g ≡ false → among f (g ∷ []) ≡ false
unfolding among
among_other f g e = rw (among, e)

module _ (deeper : Sequent → Search) (q : Sequent) where
  -- the body of the positives' pass, and the pass
  abbrev pub positive_at : List Formula → Formula → List Formula → Search
  positive_at before f after = if_so (is_positive f) (prove_focused deeper q before f after)

  abbrev pub positives : Search
  positives = each positive_at [] q.linear

  -- only a positive formula is focused on
  pub positive_focused : (before : List Formula) (f : Formula) (after : List Formula) → positive_at before f after ≡ prove_focused deeper q before f after
  unfolding is_positive prove_focused when◌then◌else◌
  positive_focused before (Atom a) after = refl
  positive_focused before (NegAtom a) after = refl
  positive_focused before (Tensor a b) after = refl
  positive_focused before (Par a b) after = refl
  positive_focused before One after = refl
  positive_focused before Bottom after = refl
  positive_focused before (With a b) after = refl
  positive_focused before (Plus a b) after = refl
  positive_focused before Top after = refl
  positive_focused before Zero after = refl
  positive_focused before (OfCourse a) after = refl
  positive_focused before (WhyNot a) after = refl
  positive_focused before (Lolli a b) after = refl

  axiom_none : (before : List Formula) (f : Formula) (after : List Formula) → ((n : ℕ) → f ≡ NegAtom n → among (Atom n) (before ++ after) && eqb (length q.linear) 2 ≡ false) → try_axiom deeper q before f after ≡ answer nothing
  unfolding try_axiom when◌then◌else◌
  axiom_none before (NegAtom n) after h = rw (h n refl)
  axiom_none before (Atom a) after h = refl
  axiom_none before (Tensor a b) after h = refl
  axiom_none before (Par a b) after h = refl
  axiom_none before One after h = refl
  axiom_none before Bottom after h = refl
  axiom_none before (With a b) after h = refl
  axiom_none before (Plus a b) after h = refl
  axiom_none before Top after h = refl
  axiom_none before Zero after h = refl
  axiom_none before (OfCourse a) after h = refl
  axiom_none before (WhyNot a) after h = refl
  axiom_none before (Lolli a b) after h = refl

  -- not exactly two formulas
  axioms_none : eqb (length q.linear) 2 ≡ false → (before after : List Formula) (s : State) → each (try_axiom deeper q) before after s ≡ (nothing, s)
  unfolding each ◌or_else◌
  axioms_none e before [] s = refl
  axioms_none e before (f ∷ after) s = rw (axiom_none before f after (λ n _. rw e (and_false (among (Atom n) (before ++ after))))) (axioms_none e (before ++ (f ∷ [])) after s)

  module _ (two : eqb (length q.linear) 2 ≡ true) (s : State) where
    atom_first : (n : ℕ) → each positive_at [] (Atom n ∷ NegAtom n ∷ []) s ≡ (found (node Axiom q ∅), s)
    unfolding each ◌or_else◌ when◌then◌else◌ is_positive prove_focused
    atom_first n = let e : among (NegAtom n) (NegAtom n ∷ []) && eqb (length q.linear) 2 ≡ true = rw (among_one, two) in rw e

    atom_second : (n : ℕ) → each positive_at [] (NegAtom n ∷ Atom n ∷ []) s ≡ (found (node Axiom q ∅), s)
    unfolding each ◌or_else◌ when◌then◌else◌ is_positive prove_focused
    atom_second n = let e : among (NegAtom n) (NegAtom n ∷ []) && eqb (length q.linear) 2 ≡ true = rw (among_one, two) in rw e

    -- what the positives' pass finds in each of the two orders
    Pair : Formula → Formula → Type 0
    Pair x y = (n : ℕ) → x ≡ NegAtom n → y ≡ Atom n → ⊥

    no_pair : (x y : Formula) (t : State) → each positive_at [] (x ∷ y ∷ []) s ≡ (nothing, t) → Pair x y × Pair y x
    unfolding Pair
    no_pair x y t h = (
      λ n e f. found_apart (ap (λ r. r.0) (sym (atom_second n) ∙ (rw (e, f) at h))),
      λ n e f. found_apart (ap (λ r. r.0) (sym (atom_first n) ∙ (rw (e, f) at h))),
    )

    unpaired : (x y : Formula) → Pair x y → (n : ℕ) → x ≡ NegAtom n → among (Atom n) (y ∷ []) && eqb (length q.linear) 2 ≡ false
    unfolding Pair
    unpaired x y h n e = go (same (Atom n) y) refl
      where
        go : (b : Bool) → same (Atom n) y ≡ b → among (Atom n) (y ∷ []) && eqb (length q.linear) 2 ≡ false
        go true t = absurd (h n e (sym ((same_iff (Atom n) y).0 t)))
        go false t = rw (among_other (Atom n) y t)

    two_none : (x y : Formula) (t : State) → each positive_at [] (x ∷ y ∷ []) s ≡ (nothing, t) → each (try_axiom deeper q) [] (x ∷ y ∷ []) t ≡ (nothing, t)
    unfolding each ◌or_else◌
    two_none x y t h =
        let p = no_pair x y t h in
        rw (axiom_none [] x (y ∷ []) (unpaired x y p.0), axiom_none (x ∷ []) y [] (unpaired y x p.1))

  axioms_after : (l : List Formula) (s t : State) → length l ≡ length q.linear → each positive_at [] l s ≡ (nothing, t) → each (try_axiom deeper q) [] l t ≡ (nothing, t)
  axioms_after l s t len h = go (eqb (length q.linear) 2) refl l len h
    where
      go : (b : Bool) → eqb (length q.linear) 2 ≡ b → (l : List Formula) → length l ≡ length q.linear → each positive_at [] l s ≡ (nothing, t) → each (try_axiom deeper q) [] l t ≡ (nothing, t)
      go false e l len h = axioms_none e [] l t
      go true e [] len h = absurd (omega (arith, eqb-true (length q.linear) 2 e))
      go true e (x ∷ []) len h = absurd (omega (arith, eqb-true (length q.linear) 2 e))
      go true e (x ∷ y ∷ []) len h = two_none e s x y t h
      go true e (x ∷ y ∷ z ∷ l) len h = absurd (omega (arith, eqb-true (length q.linear) 2 e))

  pub negated_atoms_none : (s t : State) → positives s ≡ (nothing, t) → each (try_axiom deeper q) [] q.linear t ≡ (nothing, t)
  negated_atoms_none s t h = axioms_after q.linear s t refl h

  -- the unrestricted zone's three rules
  abbrev pub exponentials : Search
  exponentials = try_dereliction deeper q or_else try_contraction deeper q or_else try_weakening deeper q

  -- so after the positives come the unrestricted zone's rules
  pub sync_next : (s t : State) → positives s ≡ (nothing, t) → prove_sync deeper q s ≡ exponentials t
  unfolding prove_sync ◌or_else◌
  sync_next s t h = rw (h, negated_atoms_none s t h)

or_nothing : (m : Search) (s : State) → (m or_else answer nothing) s ≡ m s
unfolding ◌or_else◌
or_nothing m s = go (m s).0 (m s).1
  where
    go : (o : Outcome) (t : State) → or_next o t (answer nothing) ≡ (o, t)
    go (found t) u = refl
    go nothing u = refl
    go (refused r) u = refl

-- A visit under document 01's limits, by its tests
module _ (use_cache : Bool) (budget : ℕ) where
  abbrev pub settings : Settings
  settings = as_stated use_cache budget

  -- `prove_async` as a visit calls it
  abbrev pub rules : ℕ → ℕ → Sequent → Search
  rules left depth q = prove_async settings (prove_with_depth settings left (suc depth)) (prove_with_depth settings (suc left) depth) q

  -- a no after the rules is recorded, where the cache is on
  abbrev pub filing : Sequent → Search
  filing q = if_so use_cache (record_failure (at_most 1000) (sequent_key q))

  -- a recorded failure, where the cache is on
  abbrev pub seen : List Key → Sequent → Bool
  seen failures q = use_cache && contains failures (sequent_key q)

module _ (use_cache : Bool) (budget : ℕ) (q : Sequent) (m : Search) (s : State) where
  remembered_hit : seen use_cache budget s.memory.failures q ≡ true → remembered (settings use_cache budget) q m s ≡ (nothing, hit s)
  unfolding remembered when◌then◌else◌
  remembered_hit e = go use_cache e
    where
      go : (b : Bool) → seen b budget s.memory.failures q ≡ true → remembered (settings b budget) q m s ≡ (nothing, hit s)
      go true h = rw h
      go false h = absurd (false≢true h)

  remembered_searched : seen use_cache budget s.memory.failures q ≡ false → remembered (settings use_cache budget) q m s ≡ (m or_else filing use_cache budget q) s
  unfolding remembered when◌then◌else◌
  remembered_searched e = go use_cache e
    where
      go : (b : Bool) → seen b budget s.memory.failures q ≡ false → remembered (settings b budget) q m s ≡ (m or_else filing b budget q) s
      go true h = rw h
      go false h = sym (or_nothing m s)

module _ (use_cache : Bool) (budget : ℕ) where
  module _ (left depth : ℕ) (q : Sequent) (s : State) where
    pub visit_long : 31 < count q → prove_with_depth (settings use_cache budget) left depth q s ≡ (refused too_many, s)
    visit_long h = go left
      where
        go : (n : ℕ) → prove_with_depth (settings use_cache budget) n depth q s ≡ (refused too_many, s)
        go zero = ap (λ m. m s) (ring_over (settings use_cache budget) depth q) ∙ unfold entered exceeds when◌then◌else◌ in rw (lt-ltb 31 (count q) h)
        go (suc n) = ap (λ m. m s) (ring (settings use_cache budget) n depth q) ∙ unfold entered exceeds when◌then◌else◌ in rw (lt-ltb 31 (count q) h)

    module _ (short : count q ≤ 31) where
      pub visit_spent : budget ≤ s.explored → prove_with_depth (settings use_cache budget) left depth q s ≡ (refused budget_spent, s)
      visit_spent h = go left
        where
          go : (n : ℕ) → prove_with_depth (settings use_cache budget) n depth q s ≡ (refused budget_spent, s)
          go zero = ap (λ m. m s) (ring_over (settings use_cache budget) depth q) ∙ unfold entered exceeds when◌then◌else◌ in rw (le-ltb 31 (count q) short, lt-ltb budget (suc s.explored) (omega arith))
          go (suc n) = ap (λ m. m s) (ring (settings use_cache budget) n depth q) ∙ unfold entered exceeds when◌then◌else◌ in rw (le-ltb 31 (count q) short, lt-ltb budget (suc s.explored) (omega arith))

      module _ (some : s.explored < budget) where
        entered_now : (body : Search) → entered (settings use_cache budget) depth q body s ≡ body (visited depth s)
        unfolding entered exceeds when◌then◌else◌
        entered_now body = rw (le-ltb 31 (count q) short, le-ltb budget (suc s.explored) some)

        -- a depth over the limit
        pub visit_over : left ≡ 0 → prove_with_depth (settings use_cache budget) left depth q s ≡ (nothing, visited depth s)
        visit_over e = rw e (ap (λ m. m s) (ring_over (settings use_cache budget) depth q) ∙ entered_now _)

        turned : prove_with_depth (settings use_cache budget) (suc left) depth q s ≡ remembered (settings use_cache budget) q (rules use_cache budget left depth q) (visited depth s)
        turned = ap (λ m. m s) (ring (settings use_cache budget) left depth q) ∙ entered_now _

        pub visit_hit : seen use_cache budget s.memory.failures q ≡ true → prove_with_depth (settings use_cache budget) (suc left) depth q s ≡ (nothing, hit (visited depth s))
        visit_hit e = turned ∙ remembered_hit use_cache budget q _ (visited depth s) (unfold visited in e)

        pub visit_searched : seen use_cache budget s.memory.failures q ≡ false → prove_with_depth (settings use_cache budget) (suc left) depth q s ≡ (rules use_cache budget left depth q or_else filing use_cache budget q) (visited depth s)
        visit_searched e = turned ∙ remembered_searched use_cache budget q _ (visited depth s) (unfold visited in e)

-- a new failure is recorded, where there is room
module _ (q : Sequent) (s : State) where
  pub filing_known : (use_cache : Bool) (budget : ℕ) → contains s.memory.failures (sequent_key q) ≡ true → filing use_cache budget q s ≡ (nothing, s)
  unfolding record_failure when◌then◌else◌
  filing_known true budget e = rw e
  filing_known false budget e = refl

  pub filing_off : (budget : ℕ) → filing false budget q s ≡ (nothing, s)
  unfolding when◌then◌else◌
  filing_off budget = refl

  pub filing_full : (budget : ℕ) → contains s.memory.failures (sequent_key q) ≡ false → 1000 ≤ length s.memory.failures → filing true budget q s ≡ (refused failures_full, s)
  unfolding record_failure when◌then◌else◌ exceeds
  filing_full budget e h = rw (e, lt-ltb 1000 (suc (length s.memory.failures)) (omega arith))

  pub filing_new : (budget : ℕ) → contains s.memory.failures (sequent_key q) ≡ false → length s.memory.failures < 1000 → filing true budget q s ≡ (nothing, with_failure (sequent_key q) s)
  unfolding record_failure when◌then◌else◌ exceeds
  filing_new budget e h = rw (e, le-ltb 1000 (suc (length s.memory.failures)) (omega arith))

-- a formula is made, where there is room
module _ (f : Formula) (m : Search) (s : State) where
  pub made_full : 2048 < length (enter f s.memory.held) → made (at_most 2048) f m s ≡ (refused held_full, s)
  unfolding made when◌then◌else◌ exceeds
  made_full h = rw (lt-ltb 2048 (length (enter f s.memory.held)) h)

  pub made_room : length (enter f s.memory.held) ≤ 2048 → made (at_most 2048) f m s ≡ m (with_held (enter f s.memory.held) s)
  unfolding made when◌then◌else◌ exceeds
  made_room h = rw (le-ltb 2048 (length (enter f s.memory.held)) h)
