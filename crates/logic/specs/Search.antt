-- The search of search.rs as a definition. Each name is the Rust function's. `deeper` is `prove_with_depth(.., depth + 1)` and `again` is `prove_with_depth(.., depth)`; only `visit`
-- recurs, and `Ring` shows that it satisfies the Rust's own equation.
-- A loop over `i` in a zone is a walk over the zone in two parts, `before` (what was passed, in order) and what is left: `remove(i)` is `before ++ after`. Assumes nothing.
use Rattle.std.specs.Prelude.{Bool, ◌&&◌, List, [], ◌∷◌, ◌++◌, ℕ, zero, suc, ◌^◌, eqb, length}
use Rattle.logic.specs.Formula.{Formula, One, Bottom, Top, Zero, Atom, NegAtom, Tensor, Par, With, Plus, Lolli, OfCourse, WhyNot, among, negate, is_positive}
use Rattle.logic.specs.Sequent.{Sequent, ◌﹔◌, count, Question, to_one_sided}
use Rattle.logic.specs.Tree.{Rule, Axiom, OneIntro, BottomIntro, TensorIntro, ParIntro, TopIntro, WithIntro, PlusIntroLeft, PlusIntroRight, OfCourseIntro, WhyNotIntro, Weakening, Contraction, Dereliction, node, ∅, ◌▹◌}
use Rattle.logic.specs.Answer.{too_many, held_full, budget_spent}
use Rattle.logic.specs.Split.{left_of, right_of}
use Rattle.logic.specs.Zone.{total}
use Rattle.logic.specs.Key.{sequent_key, contains}
use Rattle.logic.specs.Held.{enter_question}
use Rattle.logic.specs.Limits.{Limits, exceeds, off, stated}
use Rattle.logic.specs.Outcome.{Outcome, found, nothing, refused, State, start, Search, answer, when◌then◌else◌, ◌or_else◌, ◌if_found◌, visited, hit, with_held, record_failure, made, Memory}

-- a rule with one premise and one with two: the premise is searched, and the node put below it
unfoldable pub from_one : Rule → Sequent → Search → Search
from_one r q p = p if_found λ t. answer (found (node r q (t ▹ ∅)))

unfoldable pub from_two : Rule → Sequent → Search → Search → Search
from_two r q p p' = p if_found λ t. p' if_found λ t'. answer (found (node r q (t ▹ t' ▹ ∅)))

abbrev pub if_so : Bool → Search → Search
if_so b m = when b then m else answer nothing

-- `for i in 0..zone.len() { if let Some(proof) = body(i) { return Some(proof); } } None`, from the place between `before` and what is left
unfoldable pub each : (List Formula → Formula → List Formula → Search) → List Formula → List Formula → Search
each body before [] = answer nothing
each body before (f ∷ after) = body before f after or_else each body (before ++ (f ∷ [])) after

module _ (deeper : Sequent → Search) where
  -- the loop over the masks: `left` of them are left, and `mask` is the next. The λ keeps antt from going on before a mask has failed
  unfoldable pub tensor_masks : Sequent → Formula → Formula → List Formula → ℕ → ℕ → Search
  tensor_masks q a b others zero mask = answer nothing
  tensor_masks q a b others (suc left) mask = λ s.
      (from_two
      TensorIntro
      q
      (deeper (left_of mask others ++ (a ∷ []) ﹔ q.unrestricted))
      (deeper (right_of mask others ++ (b ∷ []) ﹔ q.unrestricted))
      or_else tensor_masks q a b others left (suc mask))
      s

  -- `prove_focused`, at the formula between `before` and `after`
  unfoldable pub prove_focused : Sequent → List Formula → Formula → List Formula → Search
  prove_focused q before (Atom name) after =
      if_so (among (NegAtom name) (before ++ after) && eqb (length q.linear) 2) (answer (found (node Axiom q ∅)))
  prove_focused q before One after = if_so (eqb (length q.linear) 1) (answer (found (node OneIntro q ∅)))
  prove_focused q before Zero after = answer nothing
  prove_focused q before (Tensor a b) after = tensor_masks q a b (before ++ after) (2 ^ length (before ++ after)) 0
  prove_focused q before (Plus a b) after =
      from_one PlusIntroLeft q (deeper (before ++ (a ∷ after) ﹔ q.unrestricted))
      or_else from_one PlusIntroRight q (deeper (before ++ (b ∷ after) ﹔ q.unrestricted))
  prove_focused q before (OfCourse a) after =
      if_so (eqb (length q.linear) 1) (from_one OfCourseIntro q (deeper (a ∷ [] ﹔ q.unrestricted)))
  prove_focused q before (NegAtom name) after = answer nothing
  prove_focused q before (Par a b) after = answer nothing
  prove_focused q before Bottom after = answer nothing
  prove_focused q before (With a b) after = answer nothing
  prove_focused q before Top after = answer nothing
  prove_focused q before (WhyNot a) after = answer nothing
  prove_focused q before (Lolli a b) after = answer nothing

  -- `try_axiom`, at the formula between `before` and `after`
  unfoldable pub try_axiom : Sequent → List Formula → Formula → List Formula → Search
  try_axiom q before (NegAtom name) after =
      if_so (among (Atom name) (before ++ after) && eqb (length q.linear) 2) (answer (found (node Axiom q ∅)))
  try_axiom q before (Atom name) after = answer nothing
  try_axiom q before One after = answer nothing
  try_axiom q before Bottom after = answer nothing
  try_axiom q before Top after = answer nothing
  try_axiom q before Zero after = answer nothing
  try_axiom q before (Tensor a b) after = answer nothing
  try_axiom q before (Par a b) after = answer nothing
  try_axiom q before (With a b) after = answer nothing
  try_axiom q before (Plus a b) after = answer nothing
  try_axiom q before (Lolli a b) after = answer nothing
  try_axiom q before (OfCourse a) after = answer nothing
  try_axiom q before (WhyNot a) after = answer nothing

  unfoldable pub try_dereliction : Sequent → Search
  try_dereliction q = each (λ before f after. from_one Dereliction q (deeper (q.linear ++ (f ∷ []) ﹔ before ++ after))) [] q.unrestricted

  unfoldable pub try_contraction : Sequent → Search
  try_contraction q = each (λ before f after. from_one Contraction q (deeper (q.linear ++ (f ∷ f ∷ []) ﹔ before ++ after))) [] q.unrestricted

  unfoldable pub try_weakening : Sequent → Search
  try_weakening q = each (λ before f after. from_one Weakening q (deeper (q.linear ﹔ before ++ after))) [] q.unrestricted

  -- `prove_sync`: each positive formula, each negated atom, then the unrestricted zone
  unfoldable pub prove_sync : Sequent → Search
  prove_sync q =
      each (λ before f after. if_so (is_positive f) (prove_focused q before f after)) [] q.linear
      or_else each (try_axiom q) [] q.linear
      or_else try_dereliction q
      or_else try_contraction q
      or_else try_weakening q

-- how many formulas of a zone are implications
abbrev pub lolli_count : Formula → ℕ
lolli_count (Lolli a b) = 1
lolli_count (Atom a) = 0
lolli_count (NegAtom a) = 0
lolli_count (Tensor a b) = 0
lolli_count (Par a b) = 0
lolli_count One = 0
lolli_count Bottom = 0
lolli_count (With a b) = 0
lolli_count (Plus a b) = 0
lolli_count Top = 0
lolli_count Zero = 0
lolli_count (OfCourse a) = 0
lolli_count (WhyNot a) = 0

unfoldable pub lollis : List Formula → ℕ
lollis = total lolli_count

-- what a call sets: the use of the cache, and the limits in force
pub record Settings : Type 0 where
  pub use_cache : Bool
  pub limits : Limits

-- the same call without limits: the Rust's
abbrev pub unlimited : Settings → Settings
unlimited settings = record { use_cache = settings.use_cache; limits = off }

-- document 01's
abbrev pub as_stated : (use_cache : Bool) (budget : ℕ) → Settings
as_stated use_cache budget = record { use_cache = use_cache; limits = stated budget }

module _ (settings : Settings) where
  module _ (deeper again : Sequent → Search) where
    -- the loop of `prove_async`: the first formula that can be decomposed, from the left
    unfoldable pub async_from : Sequent → List Formula → List Formula → Search
    async_from q before [] = prove_sync deeper q
    async_from q before (Par a b ∷ after) = from_one ParIntro q (deeper (before ++ after ++ (a ∷ b ∷ []) ﹔ q.unrestricted))
    async_from q before (Bottom ∷ after) = from_one BottomIntro q (deeper (before ++ after ﹔ q.unrestricted))
    async_from q before (Top ∷ after) = answer (found (node TopIntro q ∅))
    async_from q before (With a b ∷ after) =
        from_two
        WithIntro
        q
        (deeper (before ++ after ++ (a ∷ []) ﹔ q.unrestricted))
        (deeper (before ++ after ++ (b ∷ []) ﹔ q.unrestricted))
    async_from q before (WhyNot a ∷ after) = from_one WhyNotIntro q (deeper (before ++ after ﹔ q.unrestricted ++ (a ∷ [])))
    async_from q before (Lolli a b ∷ after) =
        made settings.limits.held (Par (negate a) b) (again (before ++ (Par (negate a) b ∷ after) ﹔ q.unrestricted))
    async_from q before (Atom a ∷ after) = async_from q (before ++ (Atom a ∷ [])) after
    async_from q before (NegAtom a ∷ after) = async_from q (before ++ (NegAtom a ∷ [])) after
    async_from q before (Tensor a b ∷ after) = async_from q (before ++ (Tensor a b ∷ [])) after
    async_from q before (One ∷ after) = async_from q (before ++ (One ∷ [])) after
    async_from q before (Plus a b ∷ after) = async_from q (before ++ (Plus a b ∷ [])) after
    async_from q before (Zero ∷ after) = async_from q (before ++ (Zero ∷ [])) after
    async_from q before (OfCourse a ∷ after) = async_from q (before ++ (OfCourse a ∷ [])) after

    -- an empty linear zone is a no
    unfoldable pub unless_empty : Sequent → List Formula → Search
    unless_empty q [] = answer nothing
    unless_empty q (f ∷ fs) = async_from q [] (f ∷ fs)

    unfoldable pub prove_async : Sequent → Search
    prove_async q = unless_empty q q.linear

  -- the head of `prove_with_depth`: a sequent that is too long, a spent budget; then the visit is counted
  unfoldable pub entered : ℕ → Sequent → Search → Search
  entered depth q body s =
      (when exceeds settings.limits.formulas (count q) then answer (refused too_many) else
      when exceeds settings.limits.visits (suc s.explored) then answer (refused budget_spent) else
      λ s. body (visited depth s))
      s

  -- the cache around `prove_async`
  unfoldable pub remembered : Sequent → Search → Search
  remembered q body s =
      (when settings.use_cache
      then (when contains s.memory.failures (sequent_key q) then (λ s. (nothing, hit s)) else body or_else record_failure settings.limits.failures (sequent_key q))
      else body)
      s

  -- A visit. `left` is how many depths are left, the limit's own included: the limit and one, less the depth. `k` is how many visits may follow at the same depth.
  -- On each way round `left` falls, or it stays and `k` falls
  unfoldable pub visit : ℕ → ℕ → ℕ → Sequent → Search
  visit zero k depth q = entered depth q (answer nothing)
  visit (suc left) zero depth q =
      entered depth q (remembered q (prove_async (λ p. visit left (lollis p.linear) (suc depth) p) (λ p. answer nothing) q))
  visit (suc left) (suc k) depth q =
      entered depth q (remembered q (prove_async (λ p. visit left (lollis p.linear) (suc depth) p) (visit (suc left) k depth) q))

  -- `prove_with_depth`: as many visits may follow at the same depth as there are implications at the top
  unfoldable pub prove_with_depth : ℕ → ℕ → Sequent → Search
  prove_with_depth left depth q = visit left (lollis q.linear) depth q

  -- `prove`: the counters start at 0, the memory stays
  unfoldable pub prove : ℕ → Sequent → Memory → Outcome × State
  prove limit q memory = prove_with_depth (suc limit) 0 q (start memory)

  -- a whole question, of either kind: 6, then 7, with nothing entered; else its formulas are held and it is searched (`prove`, `prove_two_sided`)
  unfoldable pub ask : ℕ → Question → Memory → Outcome × State
  ask limit question memory =
      let q = to_one_sided question in
      let fs = enter_question question memory.held in
      (when exceeds settings.limits.formulas (count q) then answer (refused too_many) else
      when exceeds settings.limits.held (length fs) then answer (refused held_full) else
      λ s. prove_with_depth (suc limit) 0 q (with_held fs s))
      (start memory)
