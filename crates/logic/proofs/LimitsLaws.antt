-- Where no limit is met, the limits make no difference: a search that is not refused gives the same answer, tree, counters, formulas and failures as the search without limits, which is
-- the Rust's. Assumes nothing.
use Rattle.std.specs.Prelude.{◌≡◌, refl, Bool, true, false, length}
use Rattle.std.proofs.Common.{ap, ◌∙◌}
use mathlib.Core.List.{List, [], ◌∷◌}
use Prim.Native.Nat.{ℕ, zero, suc}
use Rattle.logic.specs.Formula.{Formula, One, Bottom, Top, Zero, Atom, NegAtom, Tensor, Par, With, Plus, Lolli, OfCourse, WhyNot}
use Rattle.logic.specs.Sequent.{Sequent, Question}
use Rattle.logic.specs.Tree.{Rule, Tree}
use Rattle.logic.specs.Answer.{Refusal}
use Rattle.logic.specs.Key.{Key, sequent_key, contains}
use Rattle.logic.specs.Held.{enter}
use Rattle.logic.specs.Limits.{Limit, no_limit, exceeds}
use Rattle.logic.specs.Outcome.{
  Outcome,
  found,
  nothing,
  refused,
  State,
  start,
  Search,
  Ended,
  answer,
  when◌then◌else◌,
  or_next,
  ◌or_else◌,
  found_next,
  ◌if_found◌,
  with_held,
  record_failure,
  made,
  Memory,
}
use Rattle.logic.specs.Search.{Settings, unlimited, from_one, from_two, tensor_masks, prove_focused, try_axiom, each, try_dereliction, try_contraction, try_weakening, prove_sync, async_from, unless_empty, prove_async, entered, remembered, visit, prove_with_depth, prove, ask}

-- where m is not refused, m' does the same
pub record Agrees (m m' : Search) : Type 0 where
  pub at : (s : State) → Ended (m s).0 → m' s ≡ m s

agrees_refl : (m : Search) → Agrees m m
agrees_refl m = record { at = λ s h. refl }

agrees_or : {m m' n n' : Search} → Agrees m m' → Agrees n n' → Agrees (m or_else n) (m' or_else n')
unfolding ◌or_else◌
agrees_or {m} {m'} {n} {n'} hm hn = record { at = λ s h. go s (m s).0 (m s).1 (hm.at s) h }
  where
    go : (s : State) (o : Outcome) (t : State) → (Ended o → m' s ≡ (o, t)) → Ended (or_next o t n).0 → or_next (m' s).0 (m' s).1 n' ≡ or_next o t n
    go s (found p) t e h = ap (λ r. or_next r.0 r.1 n') (e tt)
    go s nothing t e h = ap (λ r. or_next r.0 r.1 n') (e tt) ∙ hn.at t h
    go s (refused r) t e h = absurd h

agrees_if : {m m' : Search} {k k' : Tree → Search} → Agrees m m' → ((t : Tree) → Agrees (k t) (k' t)) → Agrees (m if_found k) (m' if_found k')
unfolding ◌if_found◌
agrees_if {m} {m'} {k} {k'} hm hk = record { at = λ s h. go s (m s).0 (m s).1 (hm.at s) h }
  where
    go : (s : State) (o : Outcome) (t : State) → (Ended o → m' s ≡ (o, t)) → Ended (found_next o t k).0 → found_next (m' s).0 (m' s).1 k' ≡ found_next o t k
    go s (found p) t e h = ap (λ r. found_next r.0 r.1 k') (e tt) ∙ (hk p).at t h
    go s nothing t e h = ap (λ r. found_next r.0 r.1 k') (e tt)
    go s (refused r) t e h = absurd h

agrees_one : (r : Rule) (q : Sequent) {m m' : Search} → Agrees m m' → Agrees (from_one r q m) (from_one r q m')
unfolding from_one
agrees_one r q h = agrees_if h λ t. agrees_refl _

agrees_two : (r : Rule) (q : Sequent) {m m' n n' : Search} → Agrees m m' → Agrees n n' → Agrees (from_two r q m n) (from_two r q m' n')
unfolding from_two
agrees_two r q h k = agrees_if h λ t. agrees_if k λ u. agrees_refl _

agrees_either : (b : Bool) {m m' n n' : Search} → Agrees m m' → Agrees n n' → Agrees (when b then m else n) (when b then m' else n')
unfolding when◌then◌else◌
agrees_either true h k = h
agrees_either false h k = k

-- a limit's test: met, it refuses; off, it is passed
past_limit : (most : Limit) (n : ℕ) (r : Refusal) (m m' : Search) (s : State) → (Ended (m s).0 → m' s ≡ m s) → Ended ((when exceeds most n then answer (refused r) else m) s).0 → (when exceeds no_limit n then answer (refused r) else m') s ≡ (when exceeds most n then answer (refused r) else m) s
unfolding when◌then◌else◌ exceeds
past_limit most n r m m' s h = go (exceeds most n)
  where
    go : (b : Bool) → Ended ((when b then answer (refused r) else m) s).0 → (when exceeds no_limit n then answer (refused r) else m') s ≡ (when b then answer (refused r) else m) s
    go true e = absurd e
    go false e = h e

each_agrees : (body body' : List Formula → Formula → List Formula → Search) → ((before : List Formula) (f : Formula) (after : List Formula) → Agrees (body before f after) (body' before f after)) → (before after : List Formula) → Agrees (each body before after) (each body' before after)
unfolding each
each_agrees body body' h before [] = agrees_refl _
each_agrees body body' h before (f ∷ after) = agrees_or (h before f after) (each_agrees body body' h _ after)

module _ (deeper deeper' : Sequent → Search) (hd : (p : Sequent) → Agrees (deeper p) (deeper' p)) where
  masks_agree : (q : Sequent) (a b : Formula) (others : List Formula) (left mask : ℕ) → Agrees (tensor_masks deeper q a b others left mask) (tensor_masks deeper' q a b others left mask)
  unfolding tensor_masks
  masks_agree q a b others zero mask = agrees_refl _
  masks_agree q a b others (suc left) mask =
      record { at = λ s h. (agrees_or (agrees_two _ q (hd _) (hd _)) (masks_agree q a b others left (suc mask))).at s h }

  focused_agrees : (q : Sequent) (before : List Formula) (f : Formula) (after : List Formula) → Agrees (prove_focused deeper q before f after) (prove_focused deeper' q before f after)
  unfolding prove_focused
  focused_agrees q before (Atom a) after = agrees_refl _
  focused_agrees q before One after = agrees_refl _
  focused_agrees q before Zero after = agrees_refl _
  focused_agrees q before (Tensor a b) after = masks_agree q a b _ _ 0
  focused_agrees q before (Plus a b) after = agrees_or (agrees_one _ q (hd _)) (agrees_one _ q (hd _))
  focused_agrees q before (OfCourse a) after = agrees_either _ (agrees_one _ q (hd _)) (agrees_refl _)
  focused_agrees q before (NegAtom a) after = agrees_refl _
  focused_agrees q before (Par a b) after = agrees_refl _
  focused_agrees q before Bottom after = agrees_refl _
  focused_agrees q before (With a b) after = agrees_refl _
  focused_agrees q before Top after = agrees_refl _
  focused_agrees q before (WhyNot a) after = agrees_refl _
  focused_agrees q before (Lolli a b) after = agrees_refl _

  axiom_agrees : (q : Sequent) (before : List Formula) (f : Formula) (after : List Formula) → Agrees (try_axiom deeper q before f after) (try_axiom deeper' q before f after)
  unfolding try_axiom
  axiom_agrees q before (NegAtom a) after = agrees_refl _
  axiom_agrees q before (Atom a) after = agrees_refl _
  axiom_agrees q before One after = agrees_refl _
  axiom_agrees q before Bottom after = agrees_refl _
  axiom_agrees q before Top after = agrees_refl _
  axiom_agrees q before Zero after = agrees_refl _
  axiom_agrees q before (Tensor a b) after = agrees_refl _
  axiom_agrees q before (Par a b) after = agrees_refl _
  axiom_agrees q before (With a b) after = agrees_refl _
  axiom_agrees q before (Plus a b) after = agrees_refl _
  axiom_agrees q before (Lolli a b) after = agrees_refl _
  axiom_agrees q before (OfCourse a) after = agrees_refl _
  axiom_agrees q before (WhyNot a) after = agrees_refl _

  sync_agrees : (q : Sequent) → Agrees (prove_sync deeper q) (prove_sync deeper' q)
  unfolding prove_sync try_dereliction try_contraction try_weakening
  sync_agrees q =
      agrees_or (each_agrees _ _ (λ before f after. agrees_either _ (focused_agrees q before f after) (agrees_refl _)) [] _)
      (agrees_or (each_agrees _ _ (axiom_agrees q) [] _)
      (agrees_or (each_agrees _ _ (λ before f after. agrees_one _ q (hd _)) [] _)
      (agrees_or (each_agrees _ _ (λ before f after. agrees_one _ q (hd _)) [] _)
      (each_agrees _ _ (λ before f after. agrees_one _ q (hd _)) [] _))))

  module _ (settings : Settings) (again again' : Sequent → Search) (ha : (p : Sequent) → Agrees (again p) (again' p)) where
    made_agrees : (f : Formula) {m m' : Search} → Agrees m m' → Agrees (made settings.limits.held f m) (made no_limit f m')
    unfolding made
    made_agrees f {m} {m'} h =
        record { at = λ s e. past_limit settings.limits.held (length (enter f s.memory.held)) _ (λ s. m (with_held _ s)) (λ s. m' (with_held _ s)) s (λ k. h.at _ k) e }

    async_agrees : (q : Sequent) (before after : List Formula) → Agrees (async_from settings deeper again q before after) (async_from (unlimited settings) deeper' again' q before after)
    unfolding async_from
    async_agrees q before [] = sync_agrees q
    async_agrees q before (Par a b ∷ after) = agrees_one _ q (hd _)
    async_agrees q before (Bottom ∷ after) = agrees_one _ q (hd _)
    async_agrees q before (Top ∷ after) = agrees_refl _
    async_agrees q before (With a b ∷ after) = agrees_two _ q (hd _) (hd _)
    async_agrees q before (WhyNot a ∷ after) = agrees_one _ q (hd _)
    async_agrees q before (Lolli a b ∷ after) = made_agrees _ (ha _)
    async_agrees q before (Atom a ∷ after) = async_agrees q _ after
    async_agrees q before (NegAtom a ∷ after) = async_agrees q _ after
    async_agrees q before (Tensor a b ∷ after) = async_agrees q _ after
    async_agrees q before (One ∷ after) = async_agrees q _ after
    async_agrees q before (Plus a b ∷ after) = async_agrees q _ after
    async_agrees q before (Zero ∷ after) = async_agrees q _ after
    async_agrees q before (OfCourse a ∷ after) = async_agrees q _ after

    prove_async_agrees : (q : Sequent) → Agrees (prove_async settings deeper again q) (prove_async (unlimited settings) deeper' again' q)
    unfolding prove_async unless_empty
    prove_async_agrees q = go q.linear
      where
        go : (l : List Formula) → Agrees (unless_empty settings deeper again q l) (unless_empty (unlimited settings) deeper' again' q l)
        go [] = agrees_refl _
        go (f ∷ fs) = async_agrees q [] (f ∷ fs)

module _ (settings : Settings) where
  entered_agrees : (depth : ℕ) (q : Sequent) {m m' : Search} → Agrees m m' → Agrees (entered settings depth q m) (entered (unlimited settings) depth q m')
  unfolding entered
  entered_agrees depth q {m} {m'} h =
      record { at = λ s e. past_limit _ _ _ _ _ s (λ k. past_limit _ _ _ _ _ s (λ k'. h.at _ k') k) e }

  record_agrees : (k : Key) → Agrees (record_failure settings.limits.failures k) (record_failure no_limit k)
  unfolding record_failure
  record_agrees k =
      record { at = λ s e. (agrees_either (contains s.memory.failures k) (agrees_refl _) record { at = λ s' e'. past_limit _ _ _ _ _ s' (λ h. refl) e' }).at s e }

  remembered_agrees : (q : Sequent) {m m' : Search} → Agrees m m' → Agrees (remembered settings q m) (remembered (unlimited settings) q m')
  unfolding remembered
  remembered_agrees q {m} {m'} h =
      record { at = λ s e. (agrees_either settings.use_cache (agrees_either (contains s.memory.failures (sequent_key q)) (agrees_refl _) (agrees_or h (record_agrees (sequent_key q)))) h).at s e }

  visit_agrees : (left k depth : ℕ) (q : Sequent) → Agrees (visit settings left k depth q) (visit (unlimited settings) left k depth q)
  unfolding visit
  visit_agrees zero k depth q = entered_agrees depth q (agrees_refl _)
  visit_agrees (suc left) zero depth q =
      entered_agrees depth q (remembered_agrees q (prove_async_agrees _ _ (λ p. visit_agrees left _ (suc depth) p) settings _ _ (λ p. agrees_refl _) q))
  visit_agrees (suc left) (suc k) depth q =
      entered_agrees depth q (remembered_agrees q (prove_async_agrees _ _ (λ p. visit_agrees left _ (suc depth) p) settings _ _ (λ p. visit_agrees (suc left) k depth p) q))

  pub no_limit_met : (limit : ℕ) (q : Sequent) (memory : Memory) → Ended (prove settings limit q memory).0 → prove (unlimited settings) limit q memory ≡ prove settings limit q memory
  unfolding prove prove_with_depth
  no_limit_met limit q memory h = (visit_agrees (suc limit) _ 0 q).at _ h

  -- a whole question
  pub no_limit_met_asking : (limit : ℕ) (question : Question) (memory : Memory) → Ended (ask settings limit question memory).0 → ask (unlimited settings) limit question memory ≡ ask settings limit question memory
  unfolding ask prove_with_depth
  no_limit_met_asking limit question memory h =
      past_limit _ _ _ _ _ (start memory) (λ k. past_limit _ _ _ _ _ (start memory) (λ k'. (visit_agrees (suc limit) _ 0 _).at _ k') k) h
