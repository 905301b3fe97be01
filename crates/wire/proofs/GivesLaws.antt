-- A rule for each way of joining readers: what the parts give, the whole gives. Assumes nothing.
use Rattle.std.specs.Prelude.{◌≡◌, refl, Bool, true, false}
use Rattle.std.proofs.Common.{subst}
use mathlib.Core.List.{List, [], ◌∷◌}
use Prim.Native.Nat.{ℕ, zero, suc}
use Rattle.logic.specs.Answer.{Refusal, wrong_length}
use Rattle.wire.specs.Read.{Read, got, refused, ◌then◌, unless, entry, at_end}
use Rattle.wire.specs.Gives.{Given, Gives, AllAt}

module _ {A : Type 0} {P : A → List ℕ → Type 0} {R : Refusal → Type 0} where
  pub gives_got : {a : A} {rest : List ℕ} → P a rest → Gives P R (got a rest)
  gives_got p = record { given = p }

  pub gives_refused : {r : Refusal} → R r → Gives P R (refused r)
  gives_refused p = record { given = p }

  -- from the answer, what was given
  pub when_got : {m : Read A} {a : A} {rest : List ℕ} → Gives P R m → m ≡ got a rest → P a rest
  when_got g e = subst (Given P R) e g.given

  pub when_refused : {m : Read A} {r : Refusal} → Gives P R m → m ≡ refused r → R r
  when_refused g e = subst (Given P R) e g.given

  -- what follows from what is given is given
  pub gives_map : {Q : A → List ℕ → Type 0} {m : Read A} → Gives P R m → ((a : A) (rest : List ℕ) → P a rest → Q a rest) → Gives Q R m
  gives_map {m = got a rest} g f = record { given = f a rest g.given }
  gives_map {m = refused r} g f = record { given = g.given }

  -- more refusals allowed
  pub gives_widen : {R' : Refusal → Type 0} → ((r : Refusal) → R r → R' r) → {m : Read A} → Gives P R m → Gives P R' m
  gives_widen f {m = got a rest} g = record { given = g.given }
  gives_widen f {m = refused r} g = record { given = f r g.given }

  pub gives_unless : (t : Bool) (r : Refusal) {m : Read A} → R r → (t ≡ true → Gives P R m) → Gives P R (unless t r m)
  gives_unless true r h g = g refl
  gives_unless false r h g = gives_refused h

  pub gives_end : (a : A) (bs : List ℕ) → R wrong_length → (bs ≡ [] → P a []) → Gives P R (at_end a bs)
  unfolding at_end
  gives_end a [] h g = gives_got (g refl)
  gives_end a (b ∷ bs) h g = gives_refused h

module _ {A B : Type 0} {P : A → List ℕ → Type 0} {Q : B → List ℕ → Type 0} {R : Refusal → Type 0} where
  pub gives_then : {m : Read A} {k : A → List ℕ → Read B} → Gives P R m → ((a : A) (rest : List ℕ) → P a rest → Gives Q R (k a rest)) → Gives Q R (m then k)
  unfolding ◌then◌
  gives_then {m = got a rest} g f = f a rest g.given
  gives_then {m = refused r} g f = record { given = g.given }

module _ {A B : Type 0} {Q : B → List ℕ → Type 0} {R : Refusal → Type 0} where
  pub gives_entry : (W : ℕ → A → Type 0) (table : List A) → AllAt W table → (n : ℕ) (r : Refusal) {k : A → Read B} → R r → ((a : A) → W n a → Gives Q R (k a)) → Gives Q R (entry table n r k)
  unfolding entry
  gives_entry W [] ws n r h f = gives_refused h
  gives_entry W (a ∷ as') ws zero r h f = f a ws.0
  gives_entry W (a ∷ as') ws (suc n) r h f = gives_entry (λ n. W (suc n)) as' ws.1 n r h f
