-- Laws of the least place and mask: what `least` answers is the least that fits, and it answers 15 where none does; the tests of zones and sequents tell equality. Assumes nothing.
use Rattle.std.proofs.Math.Path.{◌≡◌, refl, ap, subst}
use Rattle.std.proofs.Common.{sym, ap₂, ◌∙◌, inl, inr, arith, length-append, length-take, length-drop, eqb-true, ltb-true, ltb-false}
use Rattle.std.specs.Prelude.{Bool, true, false, ◌&&◌, List, [], ◌∷◌, map, ◌↔◌, ◌⊎◌, eqb, ltb, take, drop}
use Rattle.std.proofs.Math.Bool.{So, and-eq-true_iff}
use Rattle.std.proofs.lemmas.Bool.{false≢true, eqb-false}
use Rattle.std.proofs.Math.Option.{Option, none, some}
use Prim.Native.Nat.{ℕ, zero, suc, ◌+◌, ◌≤◌, ◌<◌, ◌^◌}
use Rattle.std.proofs.Math.Nat.{one-le-pow, pow-le-pow_right}
use Rattle.std.proofs.Math.ListN.{length}
use Rattle.logic.specs.Formula.{Formula, same}
use Rattle.logic.proofs.FormulaLaws.{same_iff}
use Rattle.logic.specs.Sequent.{Sequent, count}
use Rattle.logic.specs.Conclusion.{concluded}
use Rattle.logic.specs.Tree.{
  Rule,
  Axiom,
  Cut,
  OneIntro,
  BottomIntro,
  TensorIntro,
  ParIntro,
  TopIntro,
  WithIntro,
  PlusIntroLeft,
  PlusIntroRight,
  OfCourseIntro,
  WhyNotIntro,
  Weakening,
  Contraction,
  Dereliction,
  FocusPositive,
  FocusNegative,
  Blur,
}
use Rattle.zones.specs.Zones.{remove}
use Rattle.short.specs.Steps.{is_sync, is_focus, is_pair, may_take, premises_of}
use Rattle.short.specs.Making.{made, mismatch}
use Rattle.short.specs.Shortening.{same_zone, same_sequent, same_sequents, fits, first_from, is_some, least_mask, least_place, with_mask, at_place, least}
use Rattle.short.specs.Least.{Least, First}
use Rattle.short.proofs.StepsLaws.{is_first_placed, is_sync_passed, is_focus_placed, is_focus_tells}

-- ---- equality tests

pub same_zone_iff : (fs gs : List Formula) → So (same_zone fs gs) ↔ (fs ≡ gs)
unfolding same_zone
same_zone_iff [] [] = (λ e. refl, λ e. refl)
same_zone_iff [] (g ∷ gs) = (λ e. absurd (false≢true e), λ e. cc)
same_zone_iff (f ∷ fs) [] = (λ e. absurd (false≢true e), λ e. cc)
same_zone_iff (f ∷ fs) (g ∷ gs) = (to (same_zone_iff fs gs).0, from (same_zone_iff fs gs).1)
  where
    to : (So (same_zone fs gs) → fs ≡ gs) → So (same f g && same_zone fs gs) → f ∷ fs ≡ g ∷ gs
    to h e = let b = (and-eq-true_iff (same f g) (same_zone fs gs)).0 e in ap₂ (λ x xs. x ∷ xs) ((same_iff f g).0 b.0) (h b.1)

    from : (fs ≡ gs → So (same_zone fs gs)) → f ∷ fs ≡ g ∷ gs → So (same f g && same_zone fs gs)
    from h e = let p : f ≡ g = cc in let p' : fs ≡ gs = cc in (and-eq-true_iff (same f g) (same_zone fs gs)).1 ((same_iff f g).1 p, h p')

pub same_sequent_iff : (p q : Sequent) → So (same_sequent p q) ↔ (p ≡ q)
same_sequent_iff p q = (to, from)
  where
    to : So (same_sequent p q) → p ≡ q
    to e =
        let b = (and-eq-true_iff (same_zone p.linear q.linear) (same_zone p.unrestricted q.unrestricted)).0 e in
        λ i. record { linear = ((same_zone_iff p.linear q.linear).0 b.0 i); unrestricted = ((same_zone_iff p.unrestricted q.unrestricted).0 b.1 i) }

    from : p ≡ q → So (same_sequent p q)
    from e =
        (and-eq-true_iff (same_zone p.linear q.linear) (same_zone p.unrestricted q.unrestricted)).1
        ((same_zone_iff _ _).1 (ap (λ (x : Sequent). x.linear) e), (same_zone_iff _ _).1 (ap (λ (x : Sequent). x.unrestricted) e))

pub same_sequents_iff : (ps qs : List Sequent) → So (same_sequents ps qs) ↔ (ps ≡ qs)
unfolding same_sequents
same_sequents_iff [] [] = (λ e. refl, λ e. refl)
same_sequents_iff [] (q ∷ qs) = (λ e. absurd (false≢true e), λ e. cc)
same_sequents_iff (p ∷ ps) [] = (λ e. absurd (false≢true e), λ e. cc)
same_sequents_iff (p ∷ ps) (q ∷ qs) = (to (same_sequents_iff ps qs).0, from (same_sequents_iff ps qs).1)
  where
    to : (So (same_sequents ps qs) → ps ≡ qs) → So (same_sequent p q && same_sequents ps qs) → p ∷ ps ≡ q ∷ qs
    to h e =
        let b = (and-eq-true_iff (same_sequent p q) (same_sequents ps qs)).0 e in ap₂ (λ x xs. x ∷ xs) ((same_sequent_iff p q).0 b.0) (h b.1)

    from : (ps ≡ qs → So (same_sequents ps qs)) → p ∷ ps ≡ q ∷ qs → So (same_sequent p q && same_sequents ps qs)
    from h e =
        let k : p ≡ q = cc in
        let k' : ps ≡ qs = cc in
        (and-eq-true_iff (same_sequent p q) (same_sequents ps qs)).1 ((same_sequent_iff p q).1 k, h k')

-- ---- the first that passes

true_false : {b : Bool} → b ≡ true → b ≡ false → ⊥
true_false e k = false≢true (sym k ∙ e)

first_from_true : (test : ℕ → Bool) (k left : ℕ) → test k ≡ true → first_from test k (suc left) ≡ some k
unfolding first_from
first_from_true test k left e = rw (e, first_from)

first_from_false : (test : ℕ → Bool) (k left : ℕ) → test k ≡ false → first_from test k (suc left) ≡ first_from test (suc k) left
unfolding first_from
first_from_false test k left e = rw (e, first_from)

pub first_from_is : (test : ℕ → Bool) (k left n : ℕ) → First test k left n → first_from test k left ≡ some n
first_from_is test k zero n f = absurd (omega (arith, f.low, f.high))
first_from_is test k (suc left) n f = go (test k) refl (first_from_is test (suc k) left n)
  where
    go : (b : Bool) → test k ≡ b → (First test (suc k) left n → first_from test (suc k) left ≡ some n) → first_from test k (suc left) ≡ some n
    go true e rest = first_from_true test k left e ∙ ap some (here (ltb k n) refl)
      where
        here : (b : Bool) → ltb k n ≡ b → k ≡ n
        here true l = absurd (true_false e (f.earlier k (omega arith) (ltb-true k n l)))
        here false l = omega (arith, f.low, ltb-false k n l)
    go false e rest =
        first_from_false test k left e
        ∙ rest record { low = past (ltb k n) refl; high = omega (arith, f.high); passes = f.passes; earlier = λ j a b. f.earlier j (omega arith) b }
      where
        past : (b : Bool) → ltb k n ≡ b → suc k ≤ n
        past true l = ltb-true k n l
        past false l = let same : k ≡ n = omega (arith, f.low, ltb-false k n l) in absurd (true_false f.passes (ap test (sym same) ∙ e))

pub first_from_none : (test : ℕ → Bool) (k left : ℕ) → ((j : ℕ) → k ≤ j → j < k + left → test j ≡ false) → first_from test k left ≡ none
unfolding first_from
first_from_none test k zero h = refl
first_from_none test k (suc left) h =
    first_from_false test k left (h k (omega arith) (omega arith))
    ∙ first_from_none test (suc k) left (λ j a b. h j (omega arith) (omega arith))

pub first_from_some : (test : ℕ → Bool) (k left : ℕ) {n : ℕ} → first_from test k left ≡ some n → First test k left n
unfolding first_from
first_from_some test k zero e = let z : ◌≡◌ {A = ℕ} 0 1 = cc in absurd (omega arith)
first_from_some test k (suc left) {n} e = go (test k) refl (λ m. first_from_some test (suc k) left m)
  where
    go : (b : Bool) → test k ≡ b → (first_from test (suc k) left ≡ some n → First test (suc k) left n) → First test k (suc left) n
    go true h rest =
        let p : some k ≡ some n = sym (first_from_true test k left h) ∙ e in
        let s : k ≡ n = cc in
        record { low = omega arith; high = omega arith; passes = ap test (sym s) ∙ h; earlier = λ j a b. absurd (omega arith) }
    go false h rest =
        let f = rest (sym (first_from_false test k left h) ∙ e) in
        record { low = omega (arith, f.low); high = omega (arith, f.high); passes = f.passes; earlier = λ j a b. at j b (ltb k j) refl a f }
      where
        at : (j : ℕ) → j < n → (b : Bool) → ltb k j ≡ b → k ≤ j → First test (suc k) left n → test j ≡ false
        at j l true m a f = f.earlier j (ltb-true k j m) l
        at j l false m a f = let s : j ≡ k = omega (arith, ltb-false k j m) in ap test s ∙ h

pub first_from_nowhere : (test : ℕ → Bool) (k left : ℕ) → first_from test k left ≡ none → (j : ℕ) → k ≤ j → j < k + left → test j ≡ false
first_from_nowhere test k zero e j a b = absurd (omega arith)
first_from_nowhere test k (suc left) e j a b = go (test k) refl (first_from_nowhere test (suc k) left) (ltb k j) refl
  where
    go : (c : Bool) → test k ≡ c → (first_from test (suc k) left ≡ none → (j : ℕ) → suc k ≤ j → j < suc k + left → test j ≡ false) → (d : Bool) → ltb k j ≡ d
        → test j ≡ false
    go true h rest d m = let p : some k ≡ none = sym (first_from_true test k left h) ∙ e in let z : ◌≡◌ {A = ℕ} 0 1 = cc in absurd (omega arith)
    go false h rest true m = rest (sym (first_from_false test k left h) ∙ e) j (ltb-true k j m) (omega arith)
    go false h rest false m = let s : j ≡ k = omega (arith, ltb-false k j m) in ap test s ∙ h

-- ---- where a step can fit

first_place : (i : ℕ) (q : Sequent) → i ≡ 0 → (q.linear ≡ [] → ⊥) → i < count q
first_place i q z h = go q.linear refl
  where
    go : (fs : List Formula) → q.linear ≡ fs → i < count q
    go [] e = absurd (h e)
    go (f ∷ fs) e = let l : length q.linear ≡ suc (length fs) = ap length e in omega arith

unrestricted_place : (i : ℕ) (q : Sequent) → (is_sync q && ltb i (length q.unrestricted)) ≡ true → i < count q
unrestricted_place i q e = let b = (and-eq-true_iff (is_sync q) (ltb i (length q.unrestricted))).0 e in omega (arith, ltb-true i (length q.unrestricted) b.1)

-- a step is taken at a place of its zone
pub may_take_place : (r : Rule) (i mask : ℕ) (q : Sequent) → may_take r i mask q ≡ true → i < count q
unfolding may_take
may_take_place Axiom i mask q e =
    let b = (and-eq-true_iff (is_sync q && eqb i 0) (is_pair q.linear)).0 e in
    let c = (and-eq-true_iff (is_sync q) (eqb i 0)).0 b.0 in
    first_place i q (eqb-true _ _ c.1) (is_sync_passed q c.0).0
may_take_place OneIntro i mask q e =
    let b = (and-eq-true_iff (is_focus q i 0 && eqb i 0) (eqb (length q.linear) 1)).0 e in
    let c = (and-eq-true_iff (is_focus q i 0) (eqb i 0)).0 b.0 in
    first_place i q (eqb-true _ _ c.1) (is_focus_tells q i 0 c.0).1
may_take_place BottomIntro i mask q e = omega (arith, (is_first_placed q i 1 (omega arith) e).0.within)
may_take_place TensorIntro i mask q e =
    let b = (and-eq-true_iff (is_focus q i 6) (ltb mask (2 ^ length (remove i q.linear)))).0 e in
    omega (arith, (is_focus_placed q i 6 (omega arith) b.0).0.within)
may_take_place ParIntro i mask q e = omega (arith, (is_first_placed q i 7 (omega arith) e).0.within)
may_take_place TopIntro i mask q e = omega (arith, (is_first_placed q i 2 (omega arith) e).0.within)
may_take_place WithIntro i mask q e = omega (arith, (is_first_placed q i 8 (omega arith) e).0.within)
may_take_place PlusIntroLeft i mask q e = omega (arith, (is_focus_placed q i 9 (omega arith) e).0.within)
may_take_place PlusIntroRight i mask q e = omega (arith, (is_focus_placed q i 9 (omega arith) e).0.within)
may_take_place OfCourseIntro i mask q e =
    let b = (and-eq-true_iff (is_focus q i 11) (eqb (length q.linear) 1)).0 e in omega (arith, (is_focus_placed q i 11 (omega arith) b.0).0.within)
may_take_place WhyNotIntro i mask q e = omega (arith, (is_first_placed q i 12 (omega arith) e).0.within)
may_take_place Weakening i mask q e = unrestricted_place i q e
may_take_place Contraction i mask q e = unrestricted_place i q e
may_take_place Dereliction i mask q e = unrestricted_place i q e
may_take_place (Cut c) i mask q e = absurd (false≢true e)
may_take_place (FocusPositive n) i mask q e = absurd (false≢true e)
may_take_place (FocusNegative n) i mask q e = absurd (false≢true e)
may_take_place Blur i mask q e = absurd (false≢true e)

-- only a tensor's step reads the mask
tensor_or : (r : Rule) → (r ≡ TensorIntro) ⊎ ((q : Sequent) (ds : List Sequent) (i m m' : ℕ) → fits r q ds i m ≡ fits r q ds i m')
unfolding fits may_take premises_of
tensor_or TensorIntro = inl refl
tensor_or Axiom = inr (λ q ds i m m'. refl)
tensor_or OneIntro = inr (λ q ds i m m'. refl)
tensor_or BottomIntro = inr (λ q ds i m m'. refl)
tensor_or ParIntro = inr (λ q ds i m m'. refl)
tensor_or TopIntro = inr (λ q ds i m m'. refl)
tensor_or WithIntro = inr (λ q ds i m m'. refl)
tensor_or PlusIntroLeft = inr (λ q ds i m m'. refl)
tensor_or PlusIntroRight = inr (λ q ds i m m'. refl)
tensor_or OfCourseIntro = inr (λ q ds i m m'. refl)
tensor_or WhyNotIntro = inr (λ q ds i m m'. refl)
tensor_or Weakening = inr (λ q ds i m m'. refl)
tensor_or Contraction = inr (λ q ds i m m'. refl)
tensor_or Dereliction = inr (λ q ds i m m'. refl)
tensor_or (Cut c) = inr (λ q ds i m m'. refl)
tensor_or (FocusPositive n) = inr (λ q ds i m m'. refl)
tensor_or (FocusNegative n) = inr (λ q ds i m m'. refl)
tensor_or Blur = inr (λ q ds i m m'. refl)

-- a tensor's mask has no spare bit
tensor_mask : (q : Sequent) (i m : ℕ) → may_take TensorIntro i m q ≡ true → m < 2 ^ length q.linear
unfolding may_take
tensor_mask q i m e =
    let b = (and-eq-true_iff (is_focus q i 6) (ltb m (2 ^ length (remove i q.linear)))).0 e in
    let shorter : length (remove i q.linear) ≤ length q.linear =
    omega (arith, length-append (take i q.linear) (drop (suc i) q.linear), length-take i q.linear, length-drop (suc i) q.linear) in
    omega (arith, ltb-true m (2 ^ length (remove i q.linear)) b.1, pow-le-pow_right {n = 2} (omega arith) shorter)

is_some_false : (o : Option ℕ) → is_some o ≡ false → o ≡ none
is_some_false none e = refl
is_some_false (some n) e = absurd (true_false refl e)

module _ (r : Rule) (q : Sequent) (ds : List Sequent) where
  pub fits_takes : (i m : ℕ) → fits r q ds i m ≡ true → may_take r i m q ≡ true
  unfolding fits
  fits_takes i m e = ((and-eq-true_iff (may_take r i m q) (same_sequents (map concluded (premises_of r i m q)) ds)).0 e).0

  pub fits_premises : (i m : ℕ) → fits r q ds i m ≡ true → map concluded (premises_of r i m q) ≡ ds
  unfolding fits
  fits_premises i m e = (same_sequents_iff _ _).0 ((and-eq-true_iff (may_take r i m q) (same_sequents (map concluded (premises_of r i m q)) ds)).0 e).1

  pub takes_fits : (i m : ℕ) → may_take r i m q ≡ true → map concluded (premises_of r i m q) ≡ ds → fits r q ds i m ≡ true
  unfolding fits
  takes_fits i m e k = (and-eq-true_iff (may_take r i m q) (same_sequents (map concluded (premises_of r i m q)) ds)).1 (e, (same_sequents_iff _ _).1 k)

  pub fits_place : (i m : ℕ) → fits r q ds i m ≡ true → i < count q
  fits_place i m e = may_take_place r i m q (fits_takes i m e)

  -- a mask that fits is low, or every mask fits
  fits_low : (i m : ℕ) → fits r q ds i m ≡ true → (m' : ℕ) × (m' < 2 ^ length q.linear) × (fits r q ds i m' ≡ true)
  fits_low i m e = go (tensor_or r)
    where
      go : (r ≡ TensorIntro) ⊎ ((q : Sequent) (ds : List Sequent) (i m m' : ℕ) → fits r q ds i m ≡ fits r q ds i m')
          → (m' : ℕ) × (m' < 2 ^ length q.linear) × (fits r q ds i m' ≡ true)
      go (inl t) = (m, tensor_mask q i m (rw t at (fits_takes i m e)), e)
      go (inr f) = (0, one-le-pow (length q.linear) 2 (omega arith), f q ds i 0 m ∙ e)

  -- no mask fits where no low one does
  fits_high : (i : ℕ) → ((m : ℕ) → m < 2 ^ length q.linear → fits r q ds i m ≡ false) → (m : ℕ) → fits r q ds i m ≡ false
  fits_high i h m = go (fits r q ds i m) refl
    where
      go : (b : Bool) → fits r q ds i m ≡ b → fits r q ds i m ≡ false
      go false e = e
      go true e = let l = fits_low i m e in absurd (true_false l.2 (h l.0 l.1))

  -- ---- the least

  -- unless the step is a tensor's, the least mask is 0
  pub least_zero : (i mask : ℕ) → Least r q ds i mask → (r ≡ TensorIntro) ⊎ (mask ≡ 0)
  least_zero i mask l = go (tensor_or r) (eqb mask 0) refl
    where
      go : (r ≡ TensorIntro) ⊎ ((q : Sequent) (ds : List Sequent) (i m m' : ℕ) → fits r q ds i m ≡ fits r q ds i m') → (b : Bool) → eqb mask 0 ≡ b
          → (r ≡ TensorIntro) ⊎ (mask ≡ 0)
      go (inl t) b e = inl t
      go (inr f) true e = inr (eqb-true mask 0 e)
      go (inr f) false e =
          let ne : mask ≡ 0 → ⊥ = eqb-false mask 0 e in
          absurd (true_false (f q ds i 0 mask ∙ l.here) (l.no_lesser 0 (omega arith)))

  pub least_low : (i mask : ℕ) → Least r q ds i mask → mask < 2 ^ length q.linear
  least_low i mask l = go (least_zero i mask l)
    where
      go : (r ≡ TensorIntro) ⊎ (mask ≡ 0) → mask < 2 ^ length q.linear
      go (inl t) = tensor_mask q i mask (rw t at (fits_takes i mask l.here))
      go (inr z) = omega (arith, one-le-pow (length q.linear) 2 (omega arith))

  mask_none : (i : ℕ) → ((m : ℕ) → fits r q ds i m ≡ false) → least_mask r q ds i ≡ none
  unfolding least_mask
  mask_none i h = first_from_none (fits r q ds i) 0 (2 ^ length q.linear) (λ j a b. h j)

  mask_nowhere : (i : ℕ) → least_mask r q ds i ≡ none → (m : ℕ) → fits r q ds i m ≡ false
  unfolding least_mask
  mask_nowhere i e = fits_high i (λ m l. first_from_nowhere (fits r q ds i) 0 (2 ^ length q.linear) e m (omega arith) (omega arith))

  mask_least : (i mask : ℕ) → Least r q ds i mask → least_mask r q ds i ≡ some mask
  unfolding least_mask
  mask_least i mask l =
      first_from_is (fits r q ds i) 0 (2 ^ length q.linear) mask
      record { low = omega arith; high = omega (arith, least_low i mask l); passes = l.here; earlier = λ j a b. l.no_lesser j b }

  place_least : (i mask : ℕ) → Least r q ds i mask → least_place r q ds ≡ some i
  unfolding least_place
  place_least i mask l =
      first_from_is (λ i. is_some (least_mask r q ds i)) 0 (count q) i
      record {
        low = omega arith;
        high = omega (arith, fits_place i mask l.here);
        passes = ap is_some (mask_least i mask l);
        earlier = λ j a b. ap is_some (mask_none j (λ m. l.no_earlier j m b));
      }

  pub least_is : (i mask : ℕ) (fs : List Formula) → Least r q ds i mask → least r q ds fs ≡ (made (i, mask), fs)
  unfolding least
  least_is i mask fs l =
      ap (λ (o : Option ℕ). at_place r q ds o fs) (place_least i mask l) ∙ ap (λ (o : Option ℕ). with_mask i o fs) (mask_least i mask l)

  pub least_none : (fs : List Formula) → ((i m : ℕ) → fits r q ds i m ≡ false) → least r q ds fs ≡ (mismatch, fs)
  unfolding least least_place
  least_none fs h =
      ap (λ (o : Option ℕ). at_place r q ds o fs) (first_from_none (λ i. is_some (least_mask r q ds i)) 0 (count q) (λ j a b. ap is_some (mask_none j (h j))))

  -- and conversely
  found_least : (i mask : ℕ) → least_place r q ds ≡ some i → least_mask r q ds i ≡ some mask → Least r q ds i mask
  unfolding least_place least_mask
  found_least i mask p m =
      let f = first_from_some (λ i. is_some (least_mask r q ds i)) 0 (count q) p in
      let g = first_from_some (fits r q ds i) 0 (2 ^ length q.linear) m in
      record {
        here = g.passes;
        no_earlier = λ j m l. mask_nowhere j (is_some_false (least_mask r q ds j) (f.earlier j (omega arith) l)) m;
        no_lesser = λ m l. g.earlier m (omega arith) l;
      }

  pub least_apart : (fs : List Formula) {i mask : ℕ} → (least r q ds fs).0 ≡ made (i, mask) → Least r q ds i mask
  unfolding least
  least_apart fs {i} {mask} e = go (least_place r q ds) refl e
    where
      at : (j : ℕ) → least_place r q ds ≡ some j → (o : Option ℕ) → least_mask r q ds j ≡ o → (with_mask j o fs).0 ≡ made (i, mask) → Least r q ds i mask
      at j p none m k = let z : ◌≡◌ {A = ℕ} 0 1 = cc in absurd (omega arith)
      at j p (some n) m k =
          let pair : ◌≡◌ {A = ℕ × ℕ} (j, n) (i, mask) = cc in
          subst (λ (x : ℕ × ℕ). Least r q ds x.0 x.1) pair (found_least j n p m)

      go : (o : Option ℕ) → least_place r q ds ≡ o → (at_place r q ds o fs).0 ≡ made (i, mask) → Least r q ds i mask
      go none p k = let z : ◌≡◌ {A = ℕ} 0 1 = cc in absurd (omega arith)
      go (some j) p k = at j p (least_mask r q ds j) refl k

  -- there is a least one where one fits
  pub least_found : (i m : ℕ) → fits r q ds i m ≡ true → (j : ℕ) × (n : ℕ) × Least r q ds j n
  unfolding least_place
  least_found i m e = go (least_place r q ds) refl
    where
      none_fits : least_place r q ds ≡ none → ⊥
      none_fits p =
          let f = first_from_nowhere (λ i. is_some (least_mask r q ds i)) 0 (count q) p i (omega arith) (omega (arith, fits_place i m e)) in
          true_false e (mask_nowhere i (is_some_false (least_mask r q ds i) f) m)

      at : (j : ℕ) → least_place r q ds ≡ some j → (o : Option ℕ) → least_mask r q ds j ≡ o → (j : ℕ) × (n : ℕ) × Least r q ds j n
      at j p none k =
          let f = first_from_some (λ i. is_some (least_mask r q ds i)) 0 (count q) p in
          absurd (true_false f.passes (ap is_some k))
      at j p (some n) k = (j, n, found_least j n p k)

      go : (o : Option ℕ) → least_place r q ds ≡ o → (j : ℕ) × (n : ℕ) × Least r q ds j n
      go none p = absurd (none_fits p)
      go (some j) p = at j p (least_mask r q ds j) refl
