-- Each tree that a search finds is `Built`, whatever the memory of failures and the limits; and each fact of the state that the search's four changes of it keep, is kept. One walk
-- through the definition of the search, in the manner of Hoare: `Meets` with a lemma for each of its forms. Assumes nothing.
use Rattle.std.specs.Prelude.{◌≡◌, Bool, true, false, ◌&&◌, length, eqb}
use Rattle.std.proofs.Math.Path.{refl}
use Rattle.std.proofs.Common.{sym, ap, subst, ◌∙◌, suc-ne-zero, eqb-true, arith}
use Rattle.std.proofs.lemmas.Bool.{false≢true}
use Rattle.std.proofs.Math.Bool.{and-eq-true_iff}
use Rattle.std.proofs.Math.Nat.{suc_inj}
use mathlib.Core.List.{List, [], ◌∷◌, ◌++◌, append-nil, nil≢cons}
use Prim.Native.Nat.{ℕ, zero, suc, ◌+◌, ◌≤◌, ◌^◌}
use Rattle.logic.specs.Formula.{Formula, One, Bottom, Top, Zero, Atom, NegAtom, Tensor, Par, With, Plus, Lolli, OfCourse, WhyNot, same, among}
use Rattle.logic.proofs.FormulaLaws.{same_iff}
use Rattle.logic.specs.Sequent.{Sequent, Question, to_one_sided}
use Rattle.logic.proofs.ZoneLaws.{snoc}
use Rattle.logic.specs.Tree.{Rule, Tree, node, ∅, ◌▹◌}
use Rattle.logic.specs.Key.{Key, sequent_key, contains}
use Rattle.logic.specs.Held.{enter, enter_question}
use Rattle.logic.specs.Limits.{exceeds}
use Rattle.logic.specs.Outcome.{
  Outcome,
  found,
  nothing,
  refused,
  State,
  start,
  Search,
  answer,
  when◌then◌else◌,
  or_next,
  ◌or_else◌,
  found_next,
  ◌if_found◌,
  visited,
  hit,
  with_failure,
  with_held,
  record_failure,
  made,
  Memory,
}
use Rattle.logic.specs.Search.{
  Settings,
  from_one,
  from_two,
  if_so,
  tensor_masks,
  prove_focused,
  try_axiom,
  each,
  try_dereliction,
  try_contraction,
  try_weakening,
  prove_sync,
  async_from,
  unless_empty,
  prove_async,
  entered,
  remembered,
  visit,
  prove_with_depth,
  prove,
  ask,
}
use Rattle.logic.specs.Built.{
  decomposable,
  Passed,
  none_yet,
  and_passed,
  Built,
  by_par,
  by_bottom,
  by_top,
  by_with,
  by_why_not,
  by_lolli,
  by_axiom,
  by_axiom⊥,
  by_one,
  by_tensor,
  by_plus_left,
  by_plus_right,
  by_of_course,
  by_dereliction,
  by_contraction,
  by_weakening,
}

-- What is said of each tree that a search finds, from whatever state. `Meets I P m`: from a state of which I holds, m hands on such a state, and P holds of the tree it finds
abbrev pub Of : (Tree → Type 0) → Outcome → Type 0
Of P (found t) = P t
Of P nothing = Unit {0}
Of P (refused n) = Unit {0}

abbrev pub After : (State → Type 0) → (Tree → Type 0) → Outcome × State → Type 0
After I P r = I r.1 × Of P r.0

pub record Meets (I : State → Type 0) (P : Tree → Type 0) (m : Search) : Type 0 where
  pub at : (s : State) → I s → After I P (m s)

-- either branch, at one state
pub either_at : (Q : Outcome × State → Type 0) (b : Bool) (m n : Search) (s : State) → (b ≡ true → Q (m s)) → (b ≡ false → Q (n s)) → Q ((when b then m else n) s)
unfolding when◌then◌else◌
either_at Q true m n s h k = h refl
either_at Q false m n s h k = k refl

module _ {I : State → Type 0} {P : Tree → Type 0} where
  meets_or : {m n : Search} → Meets I P m → Meets I P n → Meets I P (m or_else n)
  unfolding ◌or_else◌
  meets_or {m} {n} hm hn = record { at = λ s i. go (m s).0 (m s).1 (hm.at s i) }
    where
      go : (o : Outcome) (s : State) → I s × Of P o → After I P (or_next o s n)
      go (found t) s h = h
      go nothing s h = hn.at s h.0
      go (refused k) s h = h

  meets_if : {Q : Tree → Type 0} {m : Search} {k : Tree → Search} → Meets I Q m → ((t : Tree) → Q t → Meets I P (k t)) → Meets I P (m if_found k)
  unfolding ◌if_found◌
  meets_if {Q} {m} {k} hm hk = record { at = λ s i. go (m s).0 (m s).1 (hm.at s i) }
    where
      go : (o : Outcome) (s : State) → I s × Of Q o → After I P (found_next o s k)
      go (found t) s h = (hk t h.1).at s h.0
      go nothing s h = (h.0, tt)
      go (refused n) s h = (h.0, tt)

  meets_nothing : Meets I P (answer nothing)
  meets_nothing = record { at = λ s i. (i, tt) }

  meets_found : {t : Tree} → P t → Meets I P (answer (found t))
  meets_found h = record { at = λ s i. (i, h) }

  meets_map : {Q : Tree → Type 0} {m : Search} → Meets I Q m → ((t : Tree) → Q t → P t) → Meets I P m
  meets_map {Q} {m} h k = record { at = λ s i. go (m s).0 (m s).1 (h.at s i) }
    where
      go : (o : Outcome) (s : State) → I s × Of Q o → I s × Of P o
      go (found t) s p = (p.0, k t p.1)
      go nothing s p = p
      go (refused n) s p = p

  meets_so : {b : Bool} {m : Search} → (b ≡ true → Meets I P m) → Meets I P (if_so b m)
  meets_so {b} {m} h = record { at = λ s i. either_at (After I P) b m (answer nothing) s (λ e. (h e).at s i) (λ e. (i, tt)) }

  meets_one : {Q : Tree → Type 0} (r : Rule) (q : Sequent) {m : Search} → Meets I Q m → ((t : Tree) → Q t → P (node r q (t ▹ ∅))) → Meets I P (from_one r q m)
  unfolding from_one
  meets_one r q h k = meets_if h λ t p. meets_found (k t p)

  meets_two : {Q R : Tree → Type 0} (r : Rule) (q : Sequent) {m n : Search} → Meets I Q m → Meets I R n → ((t u : Tree) → Q t → R u → P (node r q (t ▹ u ▹ ∅))) → Meets I P (from_two r q m n)
  unfolding from_two
  meets_two r q h g k = meets_if h λ t p. meets_if g λ u p'. meets_found (k t u p p')

  -- a loop over a zone: at each place of it
  each_meets : (body : List Formula → Formula → List Formula → Search) (l : List Formula) → ((before : List Formula) (f : Formula) (after : List Formula) → l ≡ before ++ (f ∷ after) → Meets I P (body before f after)) → Meets I P (each body [] l)
  unfolding each
  each_meets body l h = go [] l refl
    where
      go : (before after : List Formula) → l ≡ before ++ after → Meets I P (each body before after)
      go before [] e = meets_nothing
      go before (f ∷ after) e = meets_or (h before f after e) (go (before ++ (f ∷ [])) after (snoc before f after e))

-- What keeps I: the four ways in which a search changes the state. J holds between the count of a visit and what follows it
pub record Keeps (settings : Settings) (limit : ℕ) (I J : State → Type 0) : Type 0 where
  pub on_visit : (depth : ℕ) (s : State) → depth ≤ suc limit → exceeds settings.limits.visits (suc s.explored) ≡ false → I s → J (visited depth s)
  pub on_hit : (s : State) → J s → I (hit s)
  pub on_search : (s : State) → J s → I s
  pub on_failure : (k : Key) (s : State) → contains s.memory.failures k ≡ false → exceeds settings.limits.failures (suc (length s.memory.failures)) ≡ false → I s → I (with_failure k s)
  pub on_made : (f : Formula) (s : State) → exceeds settings.limits.held (length (enter f s.memory.held)) ≡ false → I s → I (with_held (enter f s.memory.held) s)

-- What the tests on a zone's length tell of what stands beside the principal formula
pub length_beside : (before : List Formula) (x : Formula) (after : List Formula) → length (before ++ (x ∷ after)) ≡ suc (length (before ++ after))
length_beside [] x after = refl
length_beside (y ∷ before) x after = ap suc (length_beside before x after)

none_of_length : (xs : List Formula) → length xs ≡ 0 → xs ≡ []
none_of_length [] e = refl
none_of_length (x ∷ xs) e = absurd (suc-ne-zero _ e)

none_beside : (before : List Formula) (x : Formula) (after : List Formula) {l : List Formula} → l ≡ before ++ (x ∷ after) → eqb (length l) 1 ≡ true → before ++ after ≡ []
none_beside before x after e t =
    none_of_length (before ++ after) (suc_inj (sym (length_beside before x after) ∙ ap length (sym e) ∙ eqb-true _ 1 t))

one_of_length : (y : Formula) (xs : List Formula) → among y xs ≡ true → length xs ≡ 1 → xs ≡ y ∷ []
unfolding among
one_of_length y [] t e = absurd (false≢true t)
one_of_length y (x ∷ []) t e = go (same y x) refl
  where
    go : (b : Bool) → same y x ≡ b → x ∷ [] ≡ y ∷ []
    go true h = ap (λ z. z ∷ []) (sym ((same_iff y x).0 h))
    go false h = absurd (false≢true (rw (h, among) at t))
one_of_length y (x ∷ x' ∷ xs) t e = absurd (suc-ne-zero _ (suc_inj e))

one_beside : (before : List Formula) (x y : Formula) (after : List Formula) {l : List Formula} → l ≡ before ++ (x ∷ after) → among y (before ++ after) && eqb (length l) 2 ≡ true → before ++ after ≡ y ∷ []
one_beside before x y after {l} e t =
    one_of_length y (before ++ after) ((and-eq-true_iff _ _).0 t).0 (suc_inj (sym (length_beside before x after) ∙ ap length (sym e) ∙ eqb-true _ 2 ((and-eq-true_iff (among y (before ++ after)) (eqb (length l) 2)).0 t).1))

pub passed_snoc : {before : List Formula} (f : Formula) → Passed before → decomposable f ≡ false → Passed (before ++ (f ∷ []))
passed_snoc f none_yet h = and_passed h none_yet
passed_snoc f (and_passed p ps) h = and_passed p (passed_snoc f ps h)

module _ {settings : Settings} {limit : ℕ} {I J : State → Type 0} (keeps : Keeps settings limit I J) (n : ℕ) (deeper : Sequent → Search) (hd : (p : Sequent) → Meets I (Built n p) (deeper p)) where
  module _ (q : Sequent) (filled : q.linear ≡ [] → ⊥) (pass : Passed q.linear) where
    masks_find : (before : List Formula) (a b : Formula) (after : List Formula) → q.linear ≡ before ++ (Tensor a b ∷ after) → (count mask : ℕ) → count + mask ≡ 2 ^ length (before ++ after) → Meets I (Built (suc n) q) (tensor_masks deeper q a b (before ++ after) count mask)
    unfolding tensor_masks
    masks_find before a b after e zero mask h = meets_nothing
    masks_find before a b after e (suc count) mask h =
        record { at = λ s i. (meets_or (meets_two _ _ (hd _) (hd _) (λ t u. by_tensor before a b after mask (omega arith) pass e)) (masks_find before a b after e count (suc mask) (omega arith))).at s i }

    focused_finds : (before : List Formula) (f : Formula) (after : List Formula) → q.linear ≡ before ++ (f ∷ after) → Meets I (Built (suc n) q) (prove_focused deeper q before f after)
    unfolding prove_focused
    focused_finds before (Atom a) after e = meets_so λ t. meets_found (by_axiom before a after pass e (one_beside before _ _ after e t))
    focused_finds before One after e = meets_so λ t. meets_found (by_one before after pass e (none_beside before _ after e t))
    focused_finds before Zero after e = meets_nothing
    focused_finds before (Tensor a b) after e = masks_find before a b after e _ _ (omega arith)
    focused_finds before (Plus a b) after e =
        meets_or (meets_one _ _ (hd _) (λ t. by_plus_left before a b after pass e)) (meets_one _ _ (hd _) (λ t. by_plus_right before a b after pass e))
    focused_finds before (OfCourse a) after e =
        meets_so λ h. meets_one _ _ (hd _) (λ t. by_of_course before a after pass e (none_beside before _ after e h))
    focused_finds before (NegAtom a) after e = meets_nothing
    focused_finds before (Par a b) after e = meets_nothing
    focused_finds before Bottom after e = meets_nothing
    focused_finds before (With a b) after e = meets_nothing
    focused_finds before Top after e = meets_nothing
    focused_finds before (WhyNot a) after e = meets_nothing
    focused_finds before (Lolli a b) after e = meets_nothing

    axiom_finds : (before : List Formula) (f : Formula) (after : List Formula) → q.linear ≡ before ++ (f ∷ after) → Meets I (Built (suc n) q) (try_axiom deeper q before f after)
    unfolding try_axiom
    axiom_finds before (NegAtom a) after e = meets_so λ t. meets_found (by_axiom⊥ before a after pass e (one_beside before _ _ after e t))
    axiom_finds before (Atom a) after e = meets_nothing
    axiom_finds before One after e = meets_nothing
    axiom_finds before Bottom after e = meets_nothing
    axiom_finds before Top after e = meets_nothing
    axiom_finds before Zero after e = meets_nothing
    axiom_finds before (Tensor a b) after e = meets_nothing
    axiom_finds before (Par a b) after e = meets_nothing
    axiom_finds before (With a b) after e = meets_nothing
    axiom_finds before (Plus a b) after e = meets_nothing
    axiom_finds before (Lolli a b) after e = meets_nothing
    axiom_finds before (OfCourse a) after e = meets_nothing
    axiom_finds before (WhyNot a) after e = meets_nothing

    sync_finds : Meets I (Built (suc n) q) (prove_sync deeper q)
    unfolding prove_sync try_dereliction try_contraction try_weakening
    sync_finds =
        meets_or (each_meets _ _ (λ before f after e. meets_so λ _. focused_finds before f after e))
        (meets_or (each_meets _ _ axiom_finds)
        (meets_or (each_meets _ _ λ before f after e. meets_one _ _ (hd _) (λ t. by_dereliction before f after filled pass e))
        (meets_or (each_meets _ _ λ before f after e. meets_one _ _ (hd _) (λ t. by_contraction before f after filled pass e))
        (each_meets _ _ λ before f after e. meets_one _ _ (hd _) (λ t. by_weakening before f after filled pass e)))))

  made_meets : {P : Tree → Type 0} (f : Formula) {m : Search} → Meets I P m → Meets I P (made settings.limits.held f m)
  unfolding made
  made_meets {P} f {m} h =
      record { at = λ s i. either_at (After I P) _ _ _ s (λ e. (i, tt)) (λ e. h.at _ (keeps.on_made f s e i)) }

  module _ (again : Sequent → Search) (ha : (p : Sequent) → Meets I (Built (suc n) p) (again p)) where
    async_finds : (q : Sequent) → (q.linear ≡ [] → ⊥) → (before after : List Formula) → Passed before → q.linear ≡ before ++ after → Meets I (Built (suc n) q) (async_from settings deeper again q before after)
    unfolding async_from decomposable
    async_finds q ne before [] ps e = sync_finds q ne (subst Passed (sym (e ∙ append-nil before)) ps)
    async_finds q ne before (Par a b ∷ after) ps e = meets_one _ _ (hd _) (λ t. by_par before a b after ps e)
    async_finds q ne before (Bottom ∷ after) ps e = meets_one _ _ (hd _) (λ t. by_bottom before after ps e)
    async_finds q ne before (Top ∷ after) ps e = meets_found (by_top before after ps e)
    async_finds q ne before (With a b ∷ after) ps e = meets_two _ _ (hd _) (hd _) (λ t u. by_with before a b after ps e)
    async_finds q ne before (WhyNot a ∷ after) ps e = meets_one _ _ (hd _) (λ t. by_why_not before a after ps e)
    async_finds q ne before (Lolli a b ∷ after) ps e = made_meets _ (meets_map (ha _) (λ t. by_lolli before a b after ps e))
    async_finds q ne before (Atom a ∷ after) ps e = async_finds q ne _ after (passed_snoc _ ps refl) (snoc before _ after e)
    async_finds q ne before (NegAtom a ∷ after) ps e = async_finds q ne _ after (passed_snoc _ ps refl) (snoc before _ after e)
    async_finds q ne before (Tensor a b ∷ after) ps e = async_finds q ne _ after (passed_snoc _ ps refl) (snoc before _ after e)
    async_finds q ne before (One ∷ after) ps e = async_finds q ne _ after (passed_snoc _ ps refl) (snoc before _ after e)
    async_finds q ne before (Plus a b ∷ after) ps e = async_finds q ne _ after (passed_snoc _ ps refl) (snoc before _ after e)
    async_finds q ne before (Zero ∷ after) ps e = async_finds q ne _ after (passed_snoc _ ps refl) (snoc before _ after e)
    async_finds q ne before (OfCourse a ∷ after) ps e = async_finds q ne _ after (passed_snoc _ ps refl) (snoc before _ after e)

    prove_async_finds : (q : Sequent) → Meets I (Built (suc n) q) (prove_async settings deeper again q)
    unfolding prove_async unless_empty
    prove_async_finds q = go q.linear refl
      where
        go : (l : List Formula) → q.linear ≡ l → Meets I (Built (suc n) q) (unless_empty settings deeper again q l)
        go [] e = meets_nothing
        go (f ∷ fs) e = async_finds q (λ k. nil≢cons (sym k ∙ e)) [] (f ∷ fs) none_yet e

module _ (settings : Settings) (limit : ℕ) (I J : State → Type 0) (keeps : Keeps settings limit I J) where
  entered_meets : {P : Tree → Type 0} (depth : ℕ) (q : Sequent) (m : Search) → depth ≤ suc limit → ((s : State) → J s → After I P (m s)) → Meets I P (entered settings depth q m)
  unfolding entered
  entered_meets {P} depth q m d h =
      record { at = λ s i. either_at (After I P) _ _ _ s (λ e. (i, tt)) (λ e. either_at (After I P) _ _ _ s (λ e'. (i, tt)) (λ e'. h _ (keeps.on_visit depth s d e' i))) }

  record_meets : {P : Tree → Type 0} (k : Key) → Meets I P (record_failure settings.limits.failures k)
  unfolding record_failure
  record_meets {P} k =
      record { at = λ s i. either_at (After I P) _ _ _ s (λ e. (i, tt)) (λ e. either_at (After I P) _ _ _ s (λ e'. (i, tt)) (λ e'. (keeps.on_failure k s e e' i, tt))) }

  remembered_meets : {P : Tree → Type 0} (q : Sequent) {m : Search} → Meets I P m → (s : State) → J s → After I P (remembered settings q m s)
  unfolding remembered
  remembered_meets {P} q {m} h s j =
      either_at (After I P) _ _ _ s (λ e. either_at (After I P) _ _ _ s (λ e'. (keeps.on_hit s j, tt)) (λ e'. (meets_or h (record_meets (sequent_key q))).at s (keeps.on_search s j))) (λ e. h.at s (keeps.on_search s j))

  -- Each tree that a visit finds is built by the rules, within the levels that are left
  pub visit_meets : (left k depth : ℕ) (q : Sequent) → depth + left ≡ suc limit → Meets I (Built left q) (visit settings left k depth q)
  unfolding visit
  visit_meets zero k depth q d = entered_meets depth q _ (omega arith) (λ s j. (keeps.on_search s j, tt))
  visit_meets (suc left) zero depth q d =
      entered_meets depth q _ (omega arith) (remembered_meets q (prove_async_finds keeps left _ (λ p. visit_meets left _ (suc depth) p (omega arith)) (λ p. answer nothing) (λ p. meets_nothing) q))
  visit_meets (suc left) (suc k) depth q d =
      entered_meets depth q _ (omega arith) (remembered_meets q (prove_async_finds keeps left _ (λ p. visit_meets left _ (suc depth) p (omega arith)) _ (λ p. visit_meets (suc left) k depth p d) q))

  pub prove_meets : (q : Sequent) (memory : Memory) → I (start memory) → After I (Built (suc limit) q) (prove settings limit q memory)
  unfolding prove prove_with_depth
  prove_meets q memory i = (visit_meets (suc limit) _ 0 q (omega arith)).at _ i

  -- a whole question
  pub ask_meets : (question : Question) (memory : Memory) → I (start memory) → (exceeds settings.limits.held (length (enter_question question memory.held)) ≡ false → I (with_held (enter_question question memory.held) (start memory))) → After I (Built (suc limit) (to_one_sided question)) (ask settings limit question memory)
  unfolding ask prove_with_depth
  ask_meets question memory i h =
      either_at (After I (Built (suc limit) (to_one_sided question))) _ _ _ (start memory) (λ e. (i, tt)) (λ e. either_at (After I (Built (suc limit) (to_one_sided question))) _ _ _ (start memory) (λ e'. (i, tt)) (λ e'. (visit_meets (suc limit) _ 0 _ (omega arith)).at _ (h e')))

-- Whatever the memory of failures
module _ (settings : Settings) (limit : ℕ) where
  no_claim : Keeps settings limit (λ s. Unit {0}) (λ s. Unit {0})
  no_claim =
      record {
        on_visit = λ d s h g i. tt;
        on_hit = λ s j. tt;
        on_search = λ s j. tt;
        on_failure = λ k s h g i. tt;
        on_made = λ f s h i. tt;
      }

  pub prove_builds : (q : Sequent) (memory : Memory) → Of (Built (suc limit) q) (prove settings limit q memory).0
  prove_builds q memory = (prove_meets settings limit _ _ no_claim q memory tt).1

  pub ask_builds : (question : Question) (memory : Memory) → Of (Built (suc limit) (to_one_sided question)) (ask settings limit question memory).0
  ask_builds question memory = (ask_meets settings limit _ _ no_claim question memory tt (λ e. tt)).1
