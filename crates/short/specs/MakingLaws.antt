-- Laws of computations over the formulas held: one after another, the tests, an implication spelled out, and the premises' counts. Assumes nothing.
use Rattle.std.specs.Prelude.{◌≡◌, refl, Bool, true, false, ◌⊎◌, ℕ, length}
use Rattle.std.proofs.Common.{sym, ◌∙◌, inl, arith}
use Rattle.std.proofs.Math.Path.{ap}
use mathlib.Core.List.{List, [], ◌∷◌}
use Rattle.std.proofs.Math.Option.{Option, none, some}
use Rattle.std.proofs.Math.Logic.{inr}
use Rattle.logic.specs.Formula.{Formula, among}
use Rattle.logic.specs.Sequent.{Sequent, count}
use Rattle.logic.specs.Answer.{Refusal, held_full, too_many}
use Rattle.logic.specs.Held.{enter}
use Rattle.logic.specs.Limits.{Limit, exceeds}
use Rattle.short.specs.Making.{Result, made, mismatch, refused, Making, answer, next_of, ◌and_then◌, unless, enter_made, few_each}
use Rattle.short.specs.Outcome.{Keeps, MakesOrFull, Through, Paired}
use Rattle.short.specs.Few.{FewEach, few_none, few_more}
use Rattle.short.specs.Closed.{Stay, Closed}
use Rattle.short.specs.EnteredLaws.{enter_among, enter_held}

-- ---- results

module _ {A : Type 0} where
  abbrev pub result_of : Result A × List Formula → Result A
  result_of x = x.0

  abbrev pub held_after : Result A × List Formula → List Formula
  held_after x = x.1

  -- a result, with the formulas then held
  pub with_held : (x : Result A × List Formula) {r : Result A} → x.0 ≡ r → x ≡ (r, x.1)
  with_held x e = λ i. (e i, x.1)

  pub made_refused : {a : A} {r : Refusal} {fs gs : List Formula} → ◌≡◌ {A = Result A × List Formula} (refused r, fs) (made a, gs) → ⊥
  made_refused {a} {r} e = never (ap result_of e)
    where
      never : ◌≡◌ {A = Result A} (refused r) (made a) → ⊥
      never p = let z : ◌≡◌ {A = ℕ} 0 1 = cc in omega arith

  pub made_mismatch : {a : A} {fs gs : List Formula} → ◌≡◌ {A = Result A × List Formula} (mismatch, fs) (made a, gs) → ⊥
  made_mismatch {a} e = never (ap result_of e)
    where
      never : ◌≡◌ {A = Result A} mismatch (made a) → ⊥
      never p = let z : ◌≡◌ {A = ℕ} 0 1 = cc in omega arith

  pub made_same : {a b : A} {fs gs : List Formula} → ◌≡◌ {A = Result A × List Formula} (made a, fs) (made b, gs) → b ≡ a
  made_same {a} {b} e = go (ap result_of e)
    where
      go : ◌≡◌ {A = Result A} (made a) (made b) → b ≡ a
      go p = cc

-- ---- one after another

module _ {A B : Type 0} (m : Making A) (k : A → Making B) (fs : List Formula) where
  pub and_then_from : (r : Result A) (hs : List Formula) → m fs ≡ (r, hs) → (m and_then k) fs ≡ next_of r hs k
  unfolding ◌and_then◌
  and_then_from r hs e = ap (λ (x : Result A × List Formula). next_of x.0 x.1 k) e

  pub and_then_through : (b : B) (gs : List Formula) → (m and_then k) fs ≡ (made b, gs) → Through m k fs b gs
  and_then_through b gs e = go (m fs).0 (m fs).1 refl
    where
      go : (r : Result A) (hs : List Formula) → m fs ≡ (r, hs) → Through m k fs b gs
      go (made a) hs h = record { middle = a; between = hs; first = h; second = sym (and_then_from (made a) hs h) ∙ e }
      go mismatch hs h = absurd (made_mismatch (sym (and_then_from mismatch hs h) ∙ e))
      go (refused s) hs h = absurd (made_refused (sym (and_then_from (refused s) hs h) ∙ e))

pub paired_through : {A B C : Type 0} (m : Making A) (k : Making B) (join : A → B → C) (fs : List Formula) {c : C} {gs : List Formula}
    → (m and_then λ a. k and_then λ b. answer (made (join a b))) fs ≡ (made c, gs) → Paired m k join fs c gs
paired_through m k join fs {c} {gs} e =
    let s = and_then_through m _ fs c gs e in
    let u = and_then_through k _ s.between c gs s.second in
    record {
      left = s.middle;
      right = u.middle;
      between = s.between;
      first = s.first;
      second = u.first ∙ ap (λ (x : List Formula). (made u.middle, x)) (ap held_after u.second);
      joined = made_same u.second;
    }

pub paired_made : {A B C : Type 0} (m : Making A) (k : Making B) (join : A → B → C) (fs : List Formula) {c : C} {gs : List Formula} → Paired m k join fs c gs
    → (m and_then λ a. k and_then λ b. answer (made (join a b))) fs ≡ (made c, gs)
paired_made {C = C} m k join fs {c} {gs} p =
    and_then_from m _ fs (made p.left) p.between p.first
    ∙ and_then_from k _ p.between (made p.right) gs p.second
    ∙ ap (λ (x : C). (made x, gs)) (sym p.joined)

module _ {A B : Type 0} {m : Making A} (k : A → Making B) where
  pub and_then_keeps : {I : List Formula → Type 0} → Keeps I m → ((a : A) → Keeps I (k a)) → Keeps I (m and_then k)
  unfolding ◌and_then◌
  and_then_keeps {I} h h' = record { keeps = λ fs i. go (m fs).0 (m fs).1 (h.keeps fs i) }
    where
      go : (r : Result A) (hs : List Formula) → I hs → I (next_of r hs k).1
      go (made a) hs i = (h' a).keeps hs i
      go mismatch hs i = i
      go (refused s) hs i = i

  pub and_then_makes : {a : A} {b : B} → MakesOrFull m a → MakesOrFull (k a) b → MakesOrFull (m and_then k) b
  unfolding ◌and_then◌
  and_then_makes {a} {b} h h' = record { outcome = λ fs. go (m fs).0 (m fs).1 (h.outcome fs) }
    where
      go : (r : Result A) (hs : List Formula) → (r ≡ made a) ⊎ (r ≡ refused held_full) → ((next_of r hs k).0 ≡ made b) ⊎ ((next_of r hs k).0 ≡ refused held_full)
      go r hs (inl e) = rw e (h'.outcome hs)
      go r hs (inr e) = inr (rw e)

-- ---- answers and tests

pub answer_keeps : {A : Type 0} {I : List Formula → Type 0} (r : Result A) → Keeps I (answer r)
answer_keeps r = record { keeps = λ fs i. i }

pub answer_makes : {A : Type 0} (a : A) → MakesOrFull (answer (made a)) a
answer_makes a = record { outcome = λ fs. inl refl }

pub unless_keeps : {I : List Formula → Type 0} (b : Bool) → Keeps I (unless b)
unless_keeps true = answer_keeps (made tt)
unless_keeps false = answer_keeps mismatch

pub unless_makes : (b : Bool) → b ≡ true → MakesOrFull (unless b) tt
unless_makes b e = rw e (answer_makes tt)

pub unless_passed : (b : Bool) (fs : List Formula) {u : Unit {0}} {gs : List Formula} → unless b fs ≡ (made u, gs) → (b ≡ true) × (gs ≡ fs)
unless_passed true fs e = (refl, sym (ap held_after e))
unless_passed false fs e = absurd (made_mismatch e)

pub unless_true : (b : Bool) (fs : List Formula) → b ≡ true → unless b fs ≡ (made tt, fs)
unless_true b fs e = rw e

-- ---- an implication spelled out

pub spelt_keeps : {I : List Formula → Type 0} → ((f : Formula) (fs : List Formula) → I fs → I (enter f fs)) → (most : Limit) (o : Option Formula)
    → Keeps I (enter_made most o)
unfolding enter_made
spelt_keeps h most none = record { keeps = λ fs i. i }
spelt_keeps {I} h most (some f) = record { keeps = λ fs i. go fs i (exceeds most (length (enter f fs))) }
  where
    go : (fs : List Formula) → I fs → (b : Bool)
        → I (elim b as (λ _. Result (Unit {0}) × List Formula) [ true ↦ (refused held_full, fs) | false ↦ (made tt, enter f fs) ]).1
    go fs i true = i
    go fs i false = h f fs i

pub spelt_makes : (most : Limit) (o : Option Formula) → MakesOrFull (enter_made most o) tt
unfolding enter_made
spelt_makes most none = record { outcome = λ fs. inl refl }
spelt_makes most (some f) = record { outcome = λ fs. go fs (exceeds most (length (enter f fs))) }
  where
    out : List Formula → Bool → Result (Unit {0})
    out fs b = (elim b as (λ _. Result (Unit {0}) × List Formula) [ true ↦ (refused held_full, fs) | false ↦ (made tt, enter f fs) ]).0

    go : (fs : List Formula) (b : Bool) → (out fs b ≡ made tt) ⊎ (out fs b ≡ refused held_full)
    go fs true = inr refl
    go fs false = inl refl

fits_made : (most : Limit) (f : Formula) (fs : List Formula) → exceeds most (length (enter f fs)) ≡ false → enter_made most (some f) fs ≡ (made tt, enter f fs)
unfolding enter_made
fits_made most f fs h = rw (h, enter_made)

-- a second time nothing is entered
pub spelt_again : (most : Limit) (o : Option Formula) (fs : List Formula) {u : Unit {0}} {hs gs : List Formula} → enter_made most o fs ≡ (made u, hs)
    → Stay hs gs → Closed gs
    → exceeds most (length gs) ≡ false → enter_made most o gs ≡ (made tt, gs)
unfolding enter_made
spelt_again most none fs e s c l = refl
spelt_again most (some f) fs {u} {hs} {gs} e s c l = go (exceeds most (length (enter f fs))) e
  where
    go : (b : Bool)
        → ◌≡◌ {A = Result (Unit {0}) × List Formula} (elim b [ true ↦ (refused held_full, fs) | false ↦ (made tt, enter f fs) ]) (made u, hs)
        → enter_made most (some f) gs ≡ (made tt, gs)
    go true k = absurd (made_refused k)
    go false k =
        let held : among f gs ≡ true = s.stays f (ap (among f) (sym (ap held_after k)) ∙ enter_among f fs) in
        let same : enter f gs ≡ gs = enter_held c f held in
        fits_made most f gs (ap (λ (x : List Formula). exceeds most (length x)) same ∙ l) ∙ ap (λ (x : List Formula). (made tt, x)) same

-- ---- the premises' counts

pub few_each_keeps : {I : List Formula → Type 0} (most : Limit) (qs : List Sequent) → Keeps I (few_each most qs)
unfolding few_each
few_each_keeps most [] = answer_keeps (made tt)
few_each_keeps {I} most (q ∷ qs) = go (exceeds most (count q)) (few_each_keeps most qs)
  where
    go : (b : Bool) → Keeps I (few_each most qs)
        → Keeps {A = Unit {0}} I (elim b as (λ _. Making (Unit {0})) [ true ↦ answer (refused too_many) | false ↦ few_each most qs ])
    go true h = answer_keeps (refused too_many)
    go false h = h

pub few_each_passed : (most : Limit) (qs : List Sequent) (fs : List Formula) {u : Unit {0}} {gs : List Formula} → few_each most qs fs ≡ (made u, gs)
    → FewEach most qs × (gs ≡ fs)
unfolding few_each
few_each_passed most [] fs e = (few_none, sym (ap held_after e))
few_each_passed most (q ∷ qs) fs {u} {gs} e = go (exceeds most (count q)) refl e (few_each_passed most qs fs)
  where
    go : (b : Bool) → exceeds most (count q) ≡ b
        → (elim b as (λ _. Making (Unit {0})) [ true ↦ answer (refused too_many) | false ↦ few_each most qs ]) fs ≡ (made u, gs)
        → (few_each most qs fs ≡ (made u, gs) → FewEach most qs × (gs ≡ fs)) → FewEach most (q ∷ qs) × (gs ≡ fs)
    go true h k rest = absurd (made_refused k)
    go false h k rest = let r = rest k in (few_more h r.0, r.1)

pub few_each_made : {most : Limit} {qs : List Sequent} (fs : List Formula) → FewEach most qs → few_each most qs fs ≡ (made tt, fs)
unfolding few_each
few_each_made fs few_none = refl
few_each_made {most} fs (few_more {q} {qs} h ds) = rw (h, few_each) (few_each_made fs ds)

pub few_each_makes : {most : Limit} {qs : List Sequent} → FewEach most qs → MakesOrFull (few_each most qs) tt
few_each_makes d = record { outcome = λ fs. inl (ap result_of (few_each_made fs d)) }
