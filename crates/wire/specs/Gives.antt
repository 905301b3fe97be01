-- What a reader's answer gives: P of the value and the bytes left over, or R of the refusal. And a rule for each entry of a table. Assumes nothing.
use Rattle.std.specs.Prelude.{List, [], ◌∷◌, ℕ, zero, suc}
use Rattle.logic.specs.Answer.{Refusal}
use Rattle.wire.specs.Read.{Read, got, refused}

abbrev pub Given : {A : Type 0} → (A → List ℕ → Type 0) → (Refusal → Type 0) → Read A → Type 0
Given P R (got a rest) = P a rest
Given P R (refused r) = R r

pub record Gives {A : Type 0} (P : A → List ℕ → Type 0) (R : Refusal → Type 0) (m : Read A) : Type 0 where
  pub given : Given P R m

-- W of each entry and its number
abbrev pub AllAt : {A : Type 0} → (ℕ → A → Type 0) → List A → Type 0
AllAt W [] = Unit {0}
AllAt W (a ∷ as') = W zero a × AllAt (λ n. W (suc n)) as'

-- a pair, for proofs of `AllAt` a line an entry
infixr 15 ◌&◌
abbrev pub ◌&◌ : {A B : Type 0} → A → B → A × B
◌&◌ a b = (a, b)
