-- What shortening and expanding answer, and what they hand on: the formulas held. A memory's failures are neither read nor written. Assumes nothing: these are definitions.
use Rattle.std.specs.Prelude.{Bool, true, false, cond, List, [], ◌∷◌, ℕ, length}
use Rattle.std.proofs.Math.Option.{Option, none, some}
use Rattle.logic.specs.Formula.{Formula, One, Bottom, Top, Zero, Atom, NegAtom, Tensor, Par, With, Plus, Lolli, OfCourse, WhyNot, negate}
use Rattle.logic.specs.Sequent.{Sequent, count}
use Rattle.logic.specs.Answer.{Refusal, number, held_full, too_many}
use Rattle.logic.specs.Held.{enter}
use Rattle.logic.specs.Limits.{Limit, exceeds}
use Rattle.logic.specs.Built.{decomposable}

-- a result; or the step is none of the search's (15); or a refusal of document 01 (6 and 7)
pub data Result (A : Type 0) : Type 0 where
  made : A → Result A
  mismatch : Result A
  refused : Refusal → Result A

-- the number of an answer
abbrev pub result_number : {A : Type 0} → Result A → ℕ
result_number (made a) = 0
result_number mismatch = 15
result_number (refused r) = number r

-- a computation over the formulas held
abbrev pub Making : Type 0 → Type 0
Making A = List Formula → Result A × List Formula

infixr 15 ◌and_then◌
abbrev pub answer : {A : Type 0} → Result A → Making A
answer r fs = (r, fs)

-- what is no result is passed up
abbrev pub next_of : {A B : Type 0} → Result A → List Formula → (A → Making B) → Result B × List Formula
next_of (made a) fs k = k a fs
next_of mismatch fs k = (mismatch, fs)
next_of (refused r) fs k = (refused r, fs)

unfoldable pub ◌and_then◌ : {A B : Type 0} → Making A → (A → Making B) → Making B
◌and_then◌ m k fs = let r = m fs in next_of r.0 r.1 k

-- 15 unless the test holds
abbrev pub unless : Bool → Making (Unit {0})
unless true = answer (made tt)
unless false = answer mismatch

-- a formula spelled out at its top, where it is an implication
abbrev pub if_lolli : Formula → Option Formula
if_lolli (Lolli a b) = some (Par (negate a) b)
if_lolli (Atom a) = none
if_lolli (NegAtom a) = none
if_lolli (Tensor a b) = none
if_lolli (Par a b) = none
if_lolli One = none
if_lolli Bottom = none
if_lolli (With a b) = none
if_lolli (Plus a b) = none
if_lolli Top = none
if_lolli Zero = none
if_lolli (OfCourse a) = none
if_lolli (WhyNot a) = none

-- what is made where the first decomposable formula is an implication
unfoldable pub made_of : List Formula → Option Formula
made_of [] = none
made_of (f ∷ fs) = cond (decomposable f) (if_lolli f) (made_of fs)

-- it is entered with its parts, or 7 and nothing is entered
unfoldable pub enter_made : Limit → Option Formula → Making (Unit {0})
enter_made most none fs = (made tt, fs)
enter_made most (some f) fs = elim (exceeds most (length (enter f fs))) [ true ↦ (refused held_full, fs) | false ↦ (made tt, enter f fs) ]

-- an implication that is the first decomposable formula of a sequent is spelled out unwritten
abbrev pub spelt : Limit → Sequent → Making (Unit {0})
spelt most q = enter_made most (made_of q.linear)

-- 6 where a premise has too many formulas
unfoldable pub few_each : Limit → List Sequent → Making (Unit {0})
few_each most [] = answer (made tt)
few_each most (q ∷ qs) = elim (exceeds most (count q)) [ true ↦ answer (refused too_many) | false ↦ few_each most qs ]
