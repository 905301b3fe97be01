-- Laws of the search's steps (crates/short/specs/Steps.antt): what is decomposable, where a principal formula stands, the step that a node's word says, how
-- many formulas a premise has. Assumes nothing.
use Rattle.std.specs.Prelude.{◌≡◌, Bool, true, not, ◌&&◌, ℕ, zero, suc, ◌+◌, ◌/◌, ◌%◌, ◌≤◌, ◌<◌, ◌^◌, eqb, ltb, take, drop}
use Rattle.std.proofs.Math.Path.{refl, ap}
use Rattle.std.proofs.Common.{sym, ◌∙◌, below_none, below_more, eqb-true, ltb-true, lt-ltb, le-ltb, eq-eqb, ne_eqb, length-drop, length-take-le, get_or-take}
use Rattle.std.proofs.Math.Logic.{⊎_elim}
use Rattle.std.proofs.Math.Bool.{false}
use Rattle.std.proofs.lemmas.Bool.{false≢true, eqb-false, not-true}
use mathlib.Core.List.{List, [], ◌∷◌}
use native.Mathlib.Omega.{arith}
use Rattle.std.proofs.Math.ListN.{get_or, length, length-append, get_or-eq_default}
use Rattle.logic.specs.Formula.{Formula, One, Bottom, Top, Zero, Atom, NegAtom, Tensor, Par, With, Plus, Lolli, OfCourse, WhyNot}
use Rattle.logic.specs.Parts.{tag_of, left_part, right_part}
use Rattle.logic.specs.Sequent.{Sequent, ◌﹔◌, count}
use Rattle.logic.specs.Split.{keep, left_of, right_of}
use Rattle.logic.specs.Built.{decomposable}
use Rattle.logic.specs.Answer.{too_many}
use Rattle.logic.specs.Limits.{at_most, exceeds}
use Rattle.logic.specs.Tree.{
  Rule,
  Axiom,
  Cut,
  OneIntro,
  BottomIntro,
  TensorIntro,
  ParIntro,
  TopIntro,
  WithIntro,
  PlusIntroLeft,
  PlusIntroRight,
  OfCourseIntro,
  WhyNotIntro,
  Weakening,
  Contraction,
  Dereliction,
  FocusPositive,
  FocusNegative,
  Blur,
}
use Rattle.tree.specs.Places.{rule_number}
use Rattle.zones.specs.Zones.{remove, replace}
use Rattle.held.specs.OrderLaws.{le_or_lt}
use Rattle.expand.specs.Writing.{decomposes}
use Rattle.short.specs.Steps.{all_passed, formula_at, is_first, is_sync, is_focus, may_take, premises_of}
use Rattle.step.specs.Taking.{decomposed_tag}
use Rattle.short.specs.Making.{made, refused, few_each}

-- two tests that both hold
pub both_true : (a b : Bool) → (a && b) ≡ true → (a ≡ true) × (b ≡ true)
both_true true b e = (refl, e)
both_true false b e = absurd (false≢true e)

pub last_false : (a b : Bool) → b ≡ false → (a && b) ≡ false
last_false true b e = e
last_false false b e = refl

pub last_true : (a b : Bool) → b ≡ true → (a && b) ≡ a
last_true true b e = e
last_true false b e = refl

-- a test that holds just where another does
pub same_test : (a b : Bool) → (a ≡ true → b ≡ true) → (b ≡ true → a ≡ true) → a ≡ b
same_test true true f g = refl
same_test true false f g = sym (f refl)
same_test false true f g = g refl
same_test false false f g = refl

-- ---- what is decomposable

pub decomposes_tag : (f : Formula) → decomposable f ≡ decomposes (tag_of f)
unfolding decomposable tag_of
decomposes_tag One = refl
decomposes_tag Bottom = refl
decomposes_tag Top = refl
decomposes_tag Zero = refl
decomposes_tag (Atom a) = refl
decomposes_tag (NegAtom a) = refl
decomposes_tag (Tensor a b) = refl
decomposes_tag (Par a b) = refl
decomposes_tag (With a b) = refl
decomposes_tag (Plus a b) = refl
decomposes_tag (Lolli a b) = refl
decomposes_tag (OfCourse a) = refl
decomposes_tag (WhyNot a) = refl

pub tag_low : (f : Formula) → tag_of f < 13
unfolding tag_of
tag_low One = omega arith
tag_low Bottom = omega arith
tag_low Top = omega arith
tag_low Zero = omega arith
tag_low (Atom a) = omega arith
tag_low (NegAtom a) = omega arith
tag_low (Tensor a b) = omega arith
tag_low (Par a b) = omega arith
tag_low (With a b) = omega arith
tag_low (Plus a b) = omega arith
tag_low (Lolli a b) = omega arith
tag_low (OfCourse a) = omega arith
tag_low (WhyNot a) = omega arith

pub passed_all : (fs : List Formula) → ((k : ℕ) → k < length fs → decomposable (get_or fs k One) ≡ false) → all_passed fs ≡ true
unfolding all_passed
passed_all [] h = refl
passed_all (f ∷ fs) h = rw (h zero (omega arith), passed_all fs (λ k l. h (suc k) (omega arith)))

-- past the end stands One, which is not decomposable
pub passed_at : (fs : List Formula) → all_passed fs ≡ true → (k : ℕ) → decomposable (get_or fs k One) ≡ false
unfolding all_passed decomposable
passed_at [] e k = refl
passed_at (f ∷ fs) e zero = not-true (decomposable f) (both_true (not (decomposable f)) (all_passed fs) e).0
passed_at (f ∷ fs) e (suc k) = passed_at fs (both_true (not (decomposable f)) (all_passed fs) e).1 k

pub passed_not : (fs : List Formula) (k : ℕ) → decomposable (get_or fs k One) ≡ true → all_passed fs ≡ false
passed_not fs k d = go (all_passed fs) refl
  where
    go : (b : Bool) → all_passed fs ≡ b → b ≡ false
    go true e = absurd (false≢true (sym (passed_at fs e k) ∙ d))
    go false e = refl

-- a formula that is not decomposable has no such tag
pub other_tag : (f : Formula) (t : ℕ) → decomposable f ≡ false → decomposes t ≡ true → eqb (tag_of f) t ≡ false
other_tag f t d e = ne_eqb (tag_of f) t (λ o. false≢true (sym d ∙ decomposes_tag f ∙ ap decomposes o ∙ e))

-- ---- where a principal formula stands

-- past the end stands One, whose tag is 0
pub tag_in : (fs : List Formula) (i t : ℕ) → 1 ≤ t → eqb (tag_of (get_or fs i One)) t ≡ true → i < length fs
unfolding tag_of
tag_in fs i t h e =
    ⊎_elim
    (λ l. absurd (let o : tag_of (get_or fs i One) ≡ 0 = ap tag_of (get_or-eq_default fs One {n = i} l) in omega (arith, eqb-true _ t e)))
    (λ l. l)
    (le_or_lt (length fs) i)

module _ (q : Sequent) (i : ℕ) where
  pub first_tag : (t : ℕ) → is_first q i t ≡ true → eqb (tag_of (formula_at q i)) t ≡ true
  unfolding is_first
  first_tag t e = (both_true (eqb (tag_of (formula_at q i)) t) (all_passed (take i q.linear)) e).0

  pub focus_sync : (t : ℕ) → is_focus q i t ≡ true → is_sync q ≡ true
  unfolding is_focus
  focus_sync t e = (both_true (is_sync q) (eqb (tag_of (formula_at q i)) t) e).0

  pub focus_tag : (t : ℕ) → is_focus q i t ≡ true → eqb (tag_of (formula_at q i)) t ≡ true
  unfolding is_focus
  focus_tag t e = (both_true (is_sync q) (eqb (tag_of (formula_at q i)) t) e).1

  pub first_in : (t : ℕ) → 1 ≤ t → is_first q i t ≡ true → i < length q.linear
  first_in t h e = tag_in q.linear i t h (first_tag t e)

  pub focus_in : (t : ℕ) → 1 ≤ t → is_focus q i t ≡ true → i < length q.linear
  focus_in t h e = tag_in q.linear i t h (focus_tag t e)

pub sync_some : (q : Sequent) → is_sync q ≡ true → 1 ≤ length q.linear
unfolding is_sync
sync_some q e =
    let some = (both_true (not (eqb (length q.linear) 0)) (all_passed q.linear) e).0 in
    let o : length q.linear ≡ 0 → ⊥ = eqb-false (length q.linear) 0 (not-true _ some) in
    omega arith

pub sync_passed : (q : Sequent) → is_sync q ≡ true → all_passed q.linear ≡ true
unfolding is_sync
sync_passed q e = (both_true (not (eqb (length q.linear) 0)) (all_passed q.linear) e).1

-- ---- rules by number

-- a rule of each number; Cut, the focus rules and Blur stand with a part of their own choice
abbrev pub plain : ℕ → Rule
plain k =
    get_or
    (Axiom
    ∷ Cut One
    ∷ OneIntro
    ∷ BottomIntro
    ∷ TensorIntro
    ∷ ParIntro
    ∷ TopIntro
    ∷ WithIntro
    ∷ PlusIntroLeft
    ∷ PlusIntroRight
    ∷ OfCourseIntro
    ∷ WhyNotIntro
    ∷ Weakening
    ∷ Contraction
    ∷ Dereliction
    ∷ FocusPositive 0
    ∷ FocusNegative 0
    ∷ [])
    k Blur

pub plain_is : (r : Rule) → rule_number r < 15 → (rule_number r ≡ 1 → ⊥) → r ≡ plain (rule_number r)
unfolding rule_number
plain_is Axiom l n = refl
plain_is OneIntro l n = refl
plain_is BottomIntro l n = refl
plain_is TensorIntro l n = refl
plain_is ParIntro l n = refl
plain_is TopIntro l n = refl
plain_is WithIntro l n = refl
plain_is PlusIntroLeft l n = refl
plain_is PlusIntroRight l n = refl
plain_is OfCourseIntro l n = refl
plain_is WhyNotIntro l n = refl
plain_is Weakening l n = refl
plain_is Contraction l n = refl
plain_is Dereliction l n = refl
plain_is (Cut c) l n = absurd (n refl)
plain_is (FocusPositive k) l n = absurd (omega arith)
plain_is (FocusNegative k) l n = absurd (omega arith)
plain_is Blur l n = absurd (omega arith)

pub number_plain : (k : ℕ) → k < 18 → k ≡ rule_number (plain k)
unfolding rule_number
number_plain =
    let P : ℕ → Type 0 = λ k. k ≡ rule_number (plain k) in
    below_more P 17 (below_more P 16 (below_more P 15 (below_more P 14 (below_more P 13 (below_more P 12 (below_more P 11 (below_more P 10 (below_more P 9
    (below_more P 8 (below_more P 7 (below_more P 6 (below_more P 5 (below_more P 4 (below_more P 3 (below_more P 2 (below_more P 1 (below_more P 0 (below_none P)
    refl) refl) refl) refl) refl) refl) refl) refl) refl) refl) refl) refl) refl) refl) refl) refl) refl) refl

pub rule_known : (r : Rule) (k : ℕ) → rule_number r ≡ k → k < 15 → (k ≡ 1 → ⊥) → r ≡ plain k
rule_known r k e l n = plain_is r (omega (arith, e)) (λ o. n (sym e ∙ o)) ∙ ap plain e

-- the rule is none of those of `prove_sync`, as the code names them
abbrev pub Others : ℕ → Type 0
Others k =
    ((((((((Unit {0} × (k ≡ 0 → ⊥)) × (k ≡ 2 → ⊥)) × (k ≡ 4 → ⊥)) × (k ≡ 8 → ⊥)) × (k ≡ 9 → ⊥)) × (k ≡ 10 → ⊥)) × (k ≡ 12 → ⊥)) × (k ≡ 13 → ⊥)) × (k ≡ 14 → ⊥)

-- ---- what is taken where a formula is decomposable, and where none is

module _ (q : Sequent) (i : ℕ) where
  pub first_none : all_passed q.linear ≡ true → (t : ℕ) → decomposes t ≡ true → is_first q i t ≡ false
  unfolding is_first
  first_none p t d = ap (λ (b : Bool). b && all_passed (take i q.linear)) (other_tag (formula_at q i) t (passed_at q.linear p i) d)

  -- the first decomposable formula is at place k
  module _ (k : ℕ) (passed : all_passed (take k q.linear) ≡ true) (here : decomposable (formula_at q k) ≡ true) where
    pub first_other : (i ≡ k → ⊥) → (t : ℕ) → decomposes t ≡ true → is_first q i t ≡ false
    unfolding is_first
    first_other n t d = ⊎_elim after before (le_or_lt k i)
      where
        after : k ≤ i → (eqb (tag_of (formula_at q i)) t && all_passed (take i q.linear)) ≡ false
        after l =
            last_false (eqb (tag_of (formula_at q i)) t) (all_passed (take i q.linear))
            (passed_not (take i q.linear) k (rw (get_or-take i q.linear k One (omega arith)) here))

        before : i < k → (eqb (tag_of (formula_at q i)) t && all_passed (take i q.linear)) ≡ false
        before l =
            ap (λ (b : Bool). b && all_passed (take i q.linear))
            (other_tag (formula_at q i) t (rw (get_or-take k q.linear i One l) at (passed_at (take k q.linear) passed i)) d)

    pub not_sync : is_sync q ≡ false
    unfolding is_sync
    not_sync = last_false (not (eqb (length q.linear) 0)) (all_passed q.linear) (passed_not q.linear k here)

  pub empty_sync : length q.linear ≡ 0 → is_sync q ≡ false
  unfolding is_sync
  empty_sync e = rw (eq-eqb (length q.linear) 0 e)

  no_focus : is_sync q ≡ false → (t : ℕ) → is_focus q i t ≡ false
  unfolding is_focus
  no_focus s t = rw s

  module _ (mask : ℕ) where
    pub untaken : (r : Rule) → is_sync q ≡ false → ((t : ℕ) → decomposes t ≡ true → is_first q i t ≡ false) → may_take r i mask q ≡ false
    unfolding may_take
    untaken Axiom s f = rw s
    untaken OneIntro s f = rw (no_focus s 0)
    untaken BottomIntro s f = f 1 refl
    untaken TensorIntro s f = rw (no_focus s 6)
    untaken ParIntro s f = f 7 refl
    untaken TopIntro s f = f 2 refl
    untaken WithIntro s f = f 8 refl
    untaken PlusIntroLeft s f = no_focus s 9
    untaken PlusIntroRight s f = no_focus s 9
    untaken OfCourseIntro s f = rw (no_focus s 11)
    untaken WhyNotIntro s f = f 12 refl
    untaken Weakening s f = rw s
    untaken Contraction s f = rw s
    untaken Dereliction s f = rw s
    untaken (Cut c) s f = refl
    untaken (FocusPositive n) s f = refl
    untaken (FocusNegative n) s f = refl
    untaken Blur s f = refl

    no_thirteen : false ≡ eqb (tag_of (formula_at q i)) 13
    no_thirteen = sym (ne_eqb (tag_of (formula_at q i)) 13 (λ e. omega (arith, tag_low (formula_at q i))))

    -- at the first decomposable formula its own rule is taken, by its tag
    pub taken_first : (r : Rule) → is_sync q ≡ false → all_passed (take i q.linear) ≡ true
        → may_take r i mask q ≡ eqb (tag_of (formula_at q i)) (decomposed_tag (rule_number r))
    unfolding may_take rule_number is_first
    taken_first Axiom s p = rw s no_thirteen
    taken_first OneIntro s p = rw (no_focus s 0) no_thirteen
    taken_first BottomIntro s p = last_true _ _ p
    taken_first TensorIntro s p = rw (no_focus s 6) no_thirteen
    taken_first ParIntro s p = last_true _ _ p
    taken_first TopIntro s p = last_true _ _ p
    taken_first WithIntro s p = last_true _ _ p
    taken_first PlusIntroLeft s p = rw (no_focus s 9) no_thirteen
    taken_first PlusIntroRight s p = rw (no_focus s 9) no_thirteen
    taken_first OfCourseIntro s p = rw (no_focus s 11) no_thirteen
    taken_first WhyNotIntro s p = last_true _ _ p
    taken_first Weakening s p = rw s no_thirteen
    taken_first Contraction s p = rw s no_thirteen
    taken_first Dereliction s p = rw s no_thirteen
    taken_first (Cut c) s p = no_thirteen
    taken_first (FocusPositive n) s p = no_thirteen
    taken_first (FocusNegative n) s p = no_thirteen
    taken_first Blur s p = no_thirteen

    -- where no formula is decomposable, the rules that `prove_sync` does not have are not taken
    pub untaken_sync : (r : Rule) → all_passed q.linear ≡ true → Others (rule_number r) → may_take r i mask q ≡ false
    unfolding may_take rule_number
    untaken_sync Axiom p o = absurd (o.0.0.0.0.0.0.0.0.1 refl)
    untaken_sync OneIntro p o = absurd (o.0.0.0.0.0.0.0.1 refl)
    untaken_sync BottomIntro p o = first_none p 1 refl
    untaken_sync TensorIntro p o = absurd (o.0.0.0.0.0.0.1 refl)
    untaken_sync ParIntro p o = first_none p 7 refl
    untaken_sync TopIntro p o = first_none p 2 refl
    untaken_sync WithIntro p o = first_none p 8 refl
    untaken_sync PlusIntroLeft p o = absurd (o.0.0.0.0.0.1 refl)
    untaken_sync PlusIntroRight p o = absurd (o.0.0.0.0.1 refl)
    untaken_sync OfCourseIntro p o = absurd (o.0.0.0.1 refl)
    untaken_sync WhyNotIntro p o = first_none p 12 refl
    untaken_sync Weakening p o = absurd (o.0.0.1 refl)
    untaken_sync Contraction p o = absurd (o.0.1 refl)
    untaken_sync Dereliction p o = absurd (o.1 refl)
    untaken_sync (Cut c) p o = refl
    untaken_sync (FocusPositive n) p o = refl
    untaken_sync (FocusNegative n) p o = refl
    untaken_sync Blur p o = refl

-- ---- how many premises there are, and how many formulas each has

pub remove_length : (fs : List Formula) (i : ℕ) → i < length fs → length (remove i fs) + 1 ≡ length fs
remove_length fs i h = omega (arith, length-append (take i fs) (drop (suc i) fs), length-take-le i fs (omega arith), length-drop (suc i) fs)

replace_length : (fs : List Formula) (i : ℕ) (f : Formula) → i < length fs → length (replace i f fs) ≡ length fs
replace_length fs i f h = omega (arith, length-append (take i fs) (f ∷ drop (suc i) fs), length-take-le i fs (omega arith), length-drop (suc i) fs)

kept_length : (b : Bool) (f : Formula) (fs : List Formula) (n : ℕ) → length fs ≤ n → length (keep b f fs) ≤ suc n
kept_length true f fs n h = omega arith
kept_length false f fs n h = omega arith

left_length : (mask : ℕ) (fs : List Formula) → length (left_of mask fs) ≤ length fs
unfolding left_of
left_length mask [] = omega arith
left_length mask (f ∷ fs) = kept_length (eqb (mask % 2) 0) f (left_of (mask / 2) fs) (length fs) (left_length (mask / 2) fs)

right_length : (mask : ℕ) (fs : List Formula) → length (right_of mask fs) ≤ length fs
unfolding right_of
right_length mask [] = omega arith
right_length mask (f ∷ fs) = kept_length (not (eqb (mask % 2) 0)) f (right_of (mask / 2) fs) (length fs) (right_length (mask / 2) fs)

-- each of the sequents has at most n formulas
pub record Sizes (n : ℕ) (qs : List Sequent) : Type 0 where
  pub each : (k : ℕ) → k < length qs → count (get_or qs k ([] ﹔ [])) ≤ n

pub sizes_none : (n : ℕ) → Sizes n []
sizes_none n = record { each = λ k l. absurd (omega arith) }

pub sizes_more : {n : ℕ} {q : Sequent} {qs : List Sequent} → count q ≤ n → Sizes n qs → Sizes n (q ∷ qs)
sizes_more {n} {q} {qs} h s = record { each = go }
  where
    go : (k : ℕ) → k < length (q ∷ qs) → count (get_or (q ∷ qs) k ([] ﹔ [])) ≤ n
    go zero l = h
    go (suc k) l = s.each k (omega arith)

pub sizes_first : {n : ℕ} {q : Sequent} {qs : List Sequent} → Sizes n (q ∷ qs) → count q ≤ n
sizes_first s = s.each 0 (omega arith)

pub sizes_later : {n : ℕ} {q : Sequent} {qs : List Sequent} → Sizes n (q ∷ qs) → Sizes n qs
sizes_later s = record { each = λ k l. s.each (suc k) (omega arith) }

pub sizes_wider : {n m : ℕ} {qs : List Sequent} → n ≤ m → Sizes n qs → Sizes m qs
sizes_wider h s = record { each = λ k l. omega (arith, s.each k l) }

sizes_one : {n : ℕ} {q : Sequent} → count q ≤ n → Sizes n (q ∷ [])
sizes_one {n} h = sizes_more h (sizes_none n)

sizes_two : {n : ℕ} {p q : Sequent} → count p ≤ n → count q ≤ n → Sizes n (p ∷ q ∷ [])
sizes_two h k = sizes_more h (sizes_one k)

-- 6 where one has more than 31
pub few_skip : (q : Sequent) (qs : List Sequent) (fs : List Formula) → count q ≤ 31 → few_each (at_most 31) (q ∷ qs) fs ≡ few_each (at_most 31) qs fs
unfolding few_each exceeds
few_skip q qs fs h = rw (le-ltb 31 (count q) h, few_each)

pub many_first : (q : Sequent) (qs : List Sequent) (fs : List Formula) → 31 < count q → few_each (at_most 31) (q ∷ qs) fs ≡ (refused too_many, fs)
unfolding few_each exceeds
many_first q qs fs h = rw (lt-ltb 31 (count q) h, few_each)

pub few_made : (qs : List Sequent) (fs : List Formula) → Sizes 31 qs → few_each (at_most 31) qs fs ≡ (made tt, fs)
unfolding few_each
few_made [] fs s = refl
few_made (q ∷ qs) fs s = few_skip q qs fs (sizes_first s) ∙ few_made qs fs (sizes_later s)

-- ---- the premises of a step that is taken

-- ParIntro and Contraction have one formula more
module _ (i mask : ℕ) (q : Sequent) where
  pub par_count : may_take ParIntro i mask q ≡ true → count (get_or (premises_of ParIntro i mask q) 0 ([] ﹔ [])) ≡ count q + 1
  unfolding may_take premises_of
  par_count e =
      let f = formula_at q i in
      omega (
        arith,
        remove_length q.linear i (first_in q i 7 (omega arith) e),
        length-append (remove i q.linear) (left_part f ∷ right_part f ∷ []),
      )

  pub contraction_count : may_take Contraction i mask q ≡ true → count (get_or (premises_of Contraction i mask q) 0 ([] ﹔ [])) ≡ count q + 1
  unfolding may_take premises_of
  contraction_count e =
      let g = get_or q.unrestricted i One in
      omega (
        arith,
        remove_length q.unrestricted i (ltb-true i _ (both_true (is_sync q) (ltb i (length q.unrestricted)) e).1),
        length-append q.linear (g ∷ g ∷ []),
      )

  unrestricted_in : (is_sync q && ltb i (length q.unrestricted)) ≡ true → i < length q.unrestricted
  unrestricted_in e = ltb-true i _ (both_true (is_sync q) (ltb i (length q.unrestricted)) e).1

  -- and no other rule has more
  pub premises_small : (r : Rule) → may_take r i mask q ≡ true → (rule_number r ≡ 5 → ⊥) → (rule_number r ≡ 13 → ⊥) → Sizes (count q) (premises_of r i mask q)
  unfolding may_take premises_of rule_number
  premises_small Axiom e p c = sizes_none _
  premises_small OneIntro e p c = sizes_none _
  premises_small BottomIntro e p c = sizes_one (omega (arith, remove_length q.linear i (first_in q i 1 (omega arith) e)))
  premises_small TensorIntro e p c =
      let f = formula_at q i in
      let h = remove_length q.linear i (focus_in q i 6 (omega arith) (both_true (is_focus q i 6) (ltb mask (2 ^ length (remove i q.linear))) e).0) in
      sizes_two
      (omega (arith, h, length-append (left_of mask (remove i q.linear)) (left_part f ∷ []), left_length mask (remove i q.linear)))
      (omega (arith, h, length-append (right_of mask (remove i q.linear)) (right_part f ∷ []), right_length mask (remove i q.linear)))
  premises_small ParIntro e p c = absurd (p refl)
  premises_small TopIntro e p c = sizes_none _
  premises_small WithIntro e p c =
      let f = formula_at q i in
      let h = remove_length q.linear i (first_in q i 8 (omega arith) e) in
      sizes_two
      (omega (arith, h, length-append (remove i q.linear) (left_part f ∷ [])))
      (omega (arith, h, length-append (remove i q.linear) (right_part f ∷ [])))
  premises_small PlusIntroLeft e p c = sizes_one (omega (arith, replace_length q.linear i (left_part (formula_at q i)) (focus_in q i 9 (omega arith) e)))
  premises_small PlusIntroRight e p c = sizes_one (omega (arith, replace_length q.linear i (right_part (formula_at q i)) (focus_in q i 9 (omega arith) e)))
  premises_small OfCourseIntro e p c = sizes_one (omega (arith, sync_some q (focus_sync q i 11 (both_true (is_focus q i 11) (eqb (length q.linear) 1) e).0)))
  premises_small WhyNotIntro e p c =
      sizes_one (omega (arith, remove_length q.linear i (first_in q i 12 (omega arith) e), length-append q.unrestricted (left_part (formula_at q i) ∷ [])))
  premises_small Weakening e p c = sizes_one (omega (arith, remove_length q.unrestricted i (unrestricted_in e)))
  premises_small Contraction e p c = absurd (c refl)
  premises_small Dereliction e p c =
      sizes_one (omega (arith, remove_length q.unrestricted i (unrestricted_in e), length-append q.linear (get_or q.unrestricted i One ∷ [])))
  premises_small (Cut d) e p c = absurd (false≢true e)
  premises_small (FocusPositive n) e p c = absurd (false≢true e)
  premises_small (FocusNegative n) e p c = absurd (false≢true e)
  premises_small Blur e p c = absurd (false≢true e)

  par_sizes : may_take ParIntro i mask q ≡ true → Sizes (count q + 1) (premises_of ParIntro i mask q)
  unfolding premises_of
  par_sizes e = sizes_one (omega (arith, par_count e))

  contraction_sizes : may_take Contraction i mask q ≡ true → Sizes (count q + 1) (premises_of Contraction i mask q)
  unfolding premises_of
  contraction_sizes e = sizes_one (omega (arith, contraction_count e))

  par_many : (fs : List Formula) → may_take ParIntro i mask q ≡ true → 31 ≤ count q
      → few_each (at_most 31) (premises_of ParIntro i mask q) fs ≡ (refused too_many, fs)
  unfolding premises_of
  par_many fs e h = many_first _ [] fs (omega (arith, par_count e))

  contraction_many : (fs : List Formula) → may_take Contraction i mask q ≡ true → 31 ≤ count q
      → few_each (at_most 31) (premises_of Contraction i mask q) fs ≡ (refused too_many, fs)
  unfolding premises_of
  contraction_many fs e h = many_first _ [] fs (omega (arith, contraction_count e))

  -- a rule by its number
  as_par : (r : Rule) → rule_number r ≡ 5 → r ≡ ParIntro
  as_par r e = rule_known r 5 e (omega arith) (λ o. omega arith)

  as_contraction : (r : Rule) → rule_number r ≡ 13 → r ≡ Contraction
  as_contraction r e = rule_known r 13 e (omega arith) (λ o. omega arith)

  pub premises_near : (r : Rule) → may_take r i mask q ≡ true → Sizes (count q + 1) (premises_of r i mask q)
  premises_near r e = go (eqb (rule_number r) 5) refl (eqb (rule_number r) 13) refl
    where
      go : (b : Bool) → eqb (rule_number r) 5 ≡ b → (c : Bool) → eqb (rule_number r) 13 ≡ c → Sizes (count q + 1) (premises_of r i mask q)
      go true t c u = let k = as_par r (eqb-true _ 5 t) in rw k (par_sizes (rw k at e))
      go false t true u = let k = as_contraction r (eqb-true _ 13 u) in rw k (contraction_sizes (rw k at e))
      go false t false u = sizes_wider (omega arith) (premises_small r e (eqb-false _ 5 t) (eqb-false _ 13 u))

  -- so 6 is met at those two alone, and only with 31 formulas
  pub few_taken : (r : Rule) (fs : List Formula) → may_take r i mask q ≡ true → count q ≤ 31 → (rule_number r ≡ 5 → ⊥) → (rule_number r ≡ 13 → ⊥)
      → few_each (at_most 31) (premises_of r i mask q) fs ≡ (made tt, fs)
  few_taken r fs e h p c = few_made _ fs (sizes_wider h (premises_small r e p c))

  pub few_room : (r : Rule) (fs : List Formula) → may_take r i mask q ≡ true → count q < 31 → few_each (at_most 31) (premises_of r i mask q) fs ≡ (made tt, fs)
  few_room r fs e h = few_made _ fs (sizes_wider (omega arith) (premises_near r e))

  pub many_par : (r : Rule) (fs : List Formula) → may_take r i mask q ≡ true → 31 ≤ count q → rule_number r ≡ 5
      → few_each (at_most 31) (premises_of r i mask q) fs ≡ (refused too_many, fs)
  many_par r fs e h n = let k = as_par r n in rw k (par_many fs (rw k at e) h)

  pub many_contraction : (r : Rule) (fs : List Formula) → may_take r i mask q ≡ true → 31 ≤ count q → rule_number r ≡ 13
      → few_each (at_most 31) (premises_of r i mask q) fs ≡ (refused too_many, fs)
  many_contraction r fs e h n = let k = as_contraction r n in rw k (contraction_many fs (rw k at e) h)
