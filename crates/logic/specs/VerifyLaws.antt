-- Laws of `any`, the test over a zone: by its first member, of a list read through a function, and of two tests that agree. Assumes nothing.
use Rattle.std.specs.Prelude.{◌≡◌, refl, Bool, true, false, List, [], ◌∷◌, map}
use Rattle.std.proofs.Common.{ap, ap₂}
use Rattle.logic.specs.Formula.{Formula, same, among}
use Rattle.logic.specs.Verify.{any}

pub any_head : {A : Type 0} (test : A → Bool) (x : A) (xs : List A) → test x ≡ true → any test (x ∷ xs) ≡ true
unfolding any
any_head test x xs e = ap (λ (b : Bool). elim b as (λ _. Bool) [ true ↦ true | false ↦ any test xs ]) e

pub any_tail : {A : Type 0} (test : A → Bool) (x : A) (xs : List A) → test x ≡ false → any test (x ∷ xs) ≡ any test xs
unfolding any
any_tail test x xs e = ap (λ (b : Bool). elim b as (λ _. Bool) [ true ↦ true | false ↦ any test xs ]) e

pub any_map : {A B : Type 0} (g : A → B) (test : B → Bool) (xs : List A) → any test (map g xs) ≡ any (λ x. test (g x)) xs
unfolding any
any_map g test [] = refl
any_map g test (x ∷ xs) = ap (λ (b : Bool). elim (test (g x)) as (λ _. Bool) [ true ↦ true | false ↦ b ]) (any_map g test xs)

pub any_same : {A : Type 0} {test test' : A → Bool} → ((x : A) → test x ≡ test' x) → (xs : List A) → any test xs ≡ any test' xs
unfolding any
any_same h [] = refl
any_same h (x ∷ xs) = ap₂ (λ (b c : Bool). elim b as (λ _. Bool) [ true ↦ true | false ↦ c ]) (h x) (any_same h xs)

pub among_any : (x : Formula) (xs : List Formula) → among x xs ≡ any (same x) xs
unfolding among any
among_any x [] = refl
among_any x (y ∷ ys) = ap (λ (b : Bool). elim (same x y) as (λ _. Bool) [ true ↦ true | false ↦ b ]) (among_any x ys)
