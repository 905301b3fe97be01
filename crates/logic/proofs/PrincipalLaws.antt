-- The tests of strict mode find exactly what stands in a zone: the lemmas that the rules share. Assumes nothing.
use Rattle.std.specs.Prelude.{◌≡◌, ◌↔◌, Bool, ◌&&◌, ◌+◌, ◌≤◌}
use Rattle.std.proofs.Math.Path.{refl, ap}
use Rattle.std.proofs.Common.{sym, subst, ◌∙◌, arith}
use mathlib.Core.Logic.Iff
use Rattle.std.proofs.Math.Bool.{true, false, So, and-eq-true_iff}
use Rattle.std.proofs.lemmas.Bool.{false≢true}
use mathlib.Core.List.{List, [], ◌∷◌, ◌++◌}
use Rattle.logic.specs.Formula.{Formula, One, Bottom, Top, Zero, Atom, NegAtom, Tensor, Par, With, Plus, Lolli, OfCourse, WhyNot, same, among, spell}
use Rattle.logic.proofs.FormulaLaws.{same_iff, same_self, spell_twice}
use Rattle.logic.specs.Zone.{total}
use Rattle.logic.proofs.ZoneLaws.{total_append}
use Rattle.logic.specs.Legal.{as_number, times, plain, ◌≈◌, ◌≋◌}
use Rattle.logic.proofs.Bags.{counts_itself, same_bag_iff, same_map_iff}
use Rattle.logic.specs.Key.{same_bag}
use Rattle.logic.specs.Verify.{any}
use Rattle.logic.specs.VerifyLaws.{any_map, any_same, among_any}
use Rattle.logic.specs.Strict.{spelled, linear_same, in_linear}
use Rattle.logic.specs.Principal.{Stands, Passing, Unspelled, Sign, Principal, Shared}

-- two tests one after the other
pub both_iff : {a b : Bool} {A B : Type 0} → So a ↔ A → So b ↔ B → So (a && b) ↔ (A × B)
both_iff {a} {b} h k = Iff.trans (and-eq-true_iff a b) (Iff.and h k)

-- Any formula of a zone, read through g
module _ (g : Formula → Formula) (twice : (f : Formula) → g (g f) ≡ g f) where
  stands_first : (y : Formula) (ys : List Formula) → Stands g (g y) (y ∷ ys)
  unfolding total
  stands_first y ys = record { rest = ys; same = record { each = λ f. rw twice } }

  stands_later : (y : Formula) {x : Formula} {ys : List Formula} → Stands g x ys → Stands g x (y ∷ ys)
  unfolding total
  stands_later y s = record { rest = y ∷ s.rest; same = record { each = λ f. omega (arith, s.same.each f) } }

  any_passing : (test : Formula → Bool) (xs : List Formula) → So (any (λ y. test (g y)) xs) → Passing g test xs
  unfolding any
  any_passing test [] e = absurd (false≢true e)
  any_passing test (y ∷ ys) e = go (test (g y)) refl e (any_passing test ys)
    where
      go : (b : Bool) → test (g y) ≡ b → So (elim b as (λ _. Bool) [ true ↦ true | false ↦ any (λ y. test (g y)) ys ]) → (So (any (λ y. test (g y)) ys) → Passing g test ys) → Passing g test (y ∷ ys)
      go true h k rest = record { here = g y; fixed = twice y; stands = stands_first y ys; passes = h }
      go false h k rest = let r = rest k in record { here = r.here; fixed = r.fixed; stands = stands_later y r.stands; passes = r.passes }

  counted_any : (test : Formula → Bool) (x : Formula) → So (test x) → (xs : List Formula) → 1 ≤ times g x xs → So (any (λ y. test (g y)) xs)
  unfolding any total
  counted_any test x t [] h = absurd (omega arith)
  counted_any test x t (y ∷ ys) h = go (same x (g y)) refl h (counted_any test x t ys)
    where
      later : (b : Bool) → So (any (λ y. test (g y)) ys) → So (elim b as (λ _. Bool) [ true ↦ true | false ↦ any (λ y. test (g y)) ys ])
      later true k = refl
      later false k = k

      go : (b : Bool) → same x (g y) ≡ b → 1 ≤ as_number b + times g x ys → (1 ≤ times g x ys → So (any (λ y. test (g y)) ys)) → So (any (λ y. test (g y)) (y ∷ ys))
      go true e k rest = let t' : So (test (g y)) = subst (λ z. So (test z)) ((same_iff x (g y)).0 e) t in rw (t', any)
      go false e k rest = later (test (g y)) (rest (omega arith))

  stands_counted : {x : Formula} {xs : List Formula} → g x ≡ x → Stands g x xs → 1 ≤ times g x xs
  unfolding total
  stands_counted {x} e s = omega (arith, s.same.each x, counts_itself x, ap (λ z. as_number (same x z)) e)

  pub any_iff : (test : Formula → Bool) (xs : List Formula) → So (any (λ y. test (g y)) xs) ↔ Passing g test xs
  any_iff test xs = (any_passing test xs, λ p. counted_any test p.here p.passes xs (stands_counted p.fixed p.stands))

-- Tests over a zone that is read through spell first
spelled_any_iff : (test : Formula → Bool) (xs : List Formula) → So (any test (spelled xs)) ↔ Passing spell test xs
spelled_any_iff test xs = rw any_map (any_iff spell spell_twice test xs)

pub linear_same_iff : (xs ys : List Formula) → So (linear_same xs ys) ↔ (xs ≈ ys)
unfolding linear_same
linear_same_iff = same_map_iff spell

-- a formula stands in a linear zone where its spelled form does
respelled : {x y : Formula} {xs : List Formula} → spell x ≡ spell y → Stands spell x xs → Stands spell y xs
unfolding total
respelled e s = record { rest = s.rest; same = record { each = λ f. s.same.each f ∙ ap (λ z. as_number (same f z) + times spell f s.rest) e } }

pub in_linear_iff : (f : Formula) (xs : List Formula) → So (in_linear f xs) ↔ Stands spell f xs
in_linear_iff f xs = rw among_any (Iff.trans (spelled_any_iff (same (spell f)) xs) (found, shown))
  where
    found : Passing spell (same (spell f)) xs → Stands spell f xs
    found p = respelled (p.fixed ∙ sym ((same_iff (spell f) p.here).0 p.passes)) p.stands

    shown : Stands spell f xs → Passing spell (same (spell f)) xs
    shown s = record { here = spell f; fixed = spell_twice f; stands = respelled (sym (spell_twice f)) s; passes = (same_iff (spell f) (spell f)).1 refl }

-- Tests over a linear zone as it stands, which spelling out would not change
pub test_spell : (test : Formula → Bool) → Unspelled test → (f : Formula) → test (spell f) ≡ test f
unfolding spell
test_spell test h (Lolli a b) = h a b
test_spell test h (Atom a) = refl
test_spell test h (NegAtom a) = refl
test_spell test h (Tensor a b) = refl
test_spell test h (Par a b) = refl
test_spell test h One = refl
test_spell test h Bottom = refl
test_spell test h (With a b) = refl
test_spell test h (Plus a b) = refl
test_spell test h Top = refl
test_spell test h Zero = refl
test_spell test h (OfCourse a) = refl
test_spell test h (WhyNot a) = refl

pub unspelled_any_iff : (test : Formula → Bool) → Unspelled test → (xs : List Formula) → So (any test xs) ↔ Passing spell test xs
unspelled_any_iff test h xs = subst (λ b. So b ↔ Passing spell test xs) (any_same (test_spell test h) xs) (any_iff spell spell_twice test xs)

pub unspelled_among_iff : (x : Formula) → Unspelled (same x) → spell x ≡ x → (xs : List Formula) → So (among x xs) ↔ Stands spell x xs
unspelled_among_iff x h e xs = rw among_any (Iff.trans (unspelled_any_iff (same x) h xs) (found, shown))
  where
    found : Passing spell (same x) xs → Stands spell x xs
    found p = respelled (ap spell (sym ((same_iff x p.here).0 p.passes))) p.stands

    shown : Stands spell x xs → Passing spell (same x) xs
    shown s = record { here = x; fixed = e; stands = s; passes = same_self x }

-- A principal formula of the linear zone: where the test on its parts comes to T, the search for it comes to `Principal`
module _ {A : Type 0} {sign : A → Formula} {parts : Formula → A} (signs : Sign sign parts) where
  pub principal_iff : (test : A → Bool) (T : A → List Formula → Type 0) (xs : List Formula) → ((a : A) (Γ : List Formula) → xs ≈ sign a ∷ Γ → So (test a) ↔ T a Γ) → So (any (λ x. same x (sign (parts x)) && test (parts x)) (spelled xs)) ↔ Principal sign T xs
  principal_iff test T xs meets = Iff.trans (spelled_any_iff (λ x. same x (sign (parts x)) && test (parts x)) xs) (found, shown)
    where
      found : Passing spell (λ x. same x (sign (parts x)) && test (parts x)) xs → Principal sign T xs
      found p =
          let x = p.here in
          let h = (and-eq-true_iff (same x (sign (parts x))) (test (parts x))).0 p.passes in
          let s = respelled (ap spell ((same_iff x (sign (parts x))).0 h.0)) p.stands in
          record { parts = parts x; rest = s.rest; same = s.same; meets = (meets (parts x) s.rest s.same).0 h.1 }

      shown : Principal sign T xs → Passing spell (λ x. same x (sign (parts x)) && test (parts x)) xs
      shown p = record {
        here = sign p.parts;
        fixed = signs.spell_sign p.parts;
        stands = record { rest = p.rest; same = p.same };
        passes = rw (signs.parts_sign p.parts) ((and-eq-true_iff _ _).1 ((same_iff (sign p.parts) (sign p.parts)).1 refl, (meets p.parts p.rest p.same).1 p.meets));
      }

-- in the premise the formulas `new` stand for the principal formula
pub replaced_iff : (new : List Formula) {x : Formula} {Γ xs : List Formula} (ys : List Formula) → xs ≈ x ∷ Γ → So (linear_same (x ∷ ys) (new ++ xs)) ↔ (ys ≈ new ++ Γ)
unfolding total
replaced_iff new {x} {Γ} {xs} ys h = Iff.trans (linear_same_iff (x ∷ ys) (new ++ xs)) (left, right)
  where
    left : x ∷ ys ≈ new ++ xs → ys ≈ new ++ Γ
    left k = record { each = λ f. simp total_append (omega (arith, h.each f, simp total_append at (k.each f))) }

    right : ys ≈ new ++ Γ → x ∷ ys ≈ new ++ xs
    right k = record { each = λ f. simp total_append (omega (arith, h.each f, simp total_append at (k.each f))) }

-- No search over splits: what two premises hold besides a and b is a way to share xs out
pub shared_iff : (a b : Formula) (ys zs xs : List Formula) → ((Stands spell a ys × Stands spell b zs) × (ys ++ zs ≈ a ∷ b ∷ xs)) ↔ Shared a b ys zs xs
unfolding total
shared_iff a b ys zs xs = (left, right)
  where
    left : (Stands spell a ys × Stands spell b zs) × (ys ++ zs ≈ a ∷ b ∷ xs) → Shared a b ys zs xs
    left h = record {
      one = h.0.0.rest;
      other = h.0.1.rest;
      shared = record { each = λ f. simp total_append (omega (arith, h.0.0.same.each f, h.0.1.same.each f, simp total_append at (h.1.each f))) };
      with_one = h.0.0.same;
      with_other = h.0.1.same;
    }

    right : Shared a b ys zs xs → (Stands spell a ys × Stands spell b zs) × (ys ++ zs ≈ a ∷ b ∷ xs)
    right s = (
      (record { rest = s.one; same = s.with_one }, record { rest = s.other; same = s.with_other }),
      record { each = λ f. simp total_append (omega (arith, s.with_one.each f, s.with_other.each f, simp total_append at (s.shared.each f))) },
    )

-- the rest beside a principal formula, given another way
pub rest_same : {x : Formula} {xs Γ Δ : List Formula} → xs ≈ x ∷ Γ → Γ ≈ Δ → xs ≈ x ∷ Δ
unfolding total
rest_same h k = record { each = λ f. omega (arith, h.each f, k.each f) }

-- a formula of the unrestricted zone that is taken out
pub taken_iff : (test : Formula → Bool) (T : Formula → Type 0) (xs ys : List Formula) → ((a : Formula) → So (test a) ↔ T a) → So (any (λ a. test a && same_bag xs (a ∷ ys)) xs) ↔ ((a : Formula) × T a × (xs ≋ a ∷ ys))
taken_iff test T xs ys meets = Iff.trans (any_iff plain (λ f. refl) (λ a. test a && same_bag xs (a ∷ ys)) xs) (found, shown)
  where
    found : Passing plain (λ a. test a && same_bag xs (a ∷ ys)) xs → (a : Formula) × T a × (xs ≋ a ∷ ys)
    found p = let h = (both_iff (meets p.here) (same_bag_iff xs (p.here ∷ ys))).0 p.passes in (p.here, h.0, h.1)

    shown : ((a : Formula) × T a × (xs ≋ a ∷ ys)) → Passing plain (λ a. test a && same_bag xs (a ∷ ys)) xs
    shown h = record { here = h.0; fixed = refl; stands = record { rest = ys; same = h.2 }; passes = (both_iff (meets h.0) (same_bag_iff xs (h.0 ∷ ys))).1 (h.1, h.2) }
