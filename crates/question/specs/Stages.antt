-- Reading a question in the code's steps: what is still to be read after each. Assumes nothing.
use Rattle.formula.specs.declared.Refusal.{Refusal}
use Rattle.std.specs.Prelude.{◌≡◌, true, false, ◌⊎◌, List, [], ℕ, ◌+◌, ◌≤◌, leb, eqb, length, drop, Err, Ok, Result}
use Rattle.std.proofs.Math.Seq.{slice}
use Rattle.logic.specs.Formula.{Formula}
use Rattle.logic.specs.Sequent.{Question, one_sided, two_sided}
use Rattle.logic.specs.Answer.{too_many}
use Rattle.wire.specs.Read.{Read, got, refused, ◌then◌, unless, read_all, zone_bytes, at_end, most_formulas, read_question}
use Rattle.formula.specs.Answers.{named}

-- the question of a kind
unfoldable pub make_of : ℕ → List Formula → List Formula → Question
make_of k = elim (eqb k 1) [ true ↦ one_sided | false ↦ two_sided ]

module _ (make : List Formula → List Formula → Question) where
  -- from both zones' bytes: the formulas in byte order, then 6
  unfoldable pub formulas_of : (first second : List ℕ) → Read Question
  formulas_of first second =
      read_all first then λ Γ _. read_all second then λ Δ _. unless (leb (length Γ + length Δ) most_formulas) too_many (got (make Γ Δ) [])

  -- from the bytes behind the kind: both zones' lengths and what is left over first
  unfoldable pub zones_of : List ℕ → Read Question
  zones_of bs =
      zone_bytes bs then λ first bs. zone_bytes bs then λ second bs. at_end second bs then λ second _. formulas_of first second

module _ (s : List ℕ) where
  -- what is read, once the kind was
  unfoldable pub kind_on : Result ℕ Refusal → Read Question
  kind_on (Ok k) = zones_of (make_of k) (drop 4 s)
  kind_on (Err r) = refused (named r)

  unfoldable pub KindInside : Result ℕ Refusal → Type 0
  KindInside (Ok k) = (4 ≤ length s) × ((k ≡ 1) ⊎ (k ≡ 2))
  KindInside (Err r) = Unit {0}

  pub record KindRead (r : Result ℕ Refusal) : Type 0 where
    pub right : read_question s ≡ kind_on r
    pub inside : KindInside r

  -- the bytes of the zone at a place, and what is behind it
  module _ (at : ℕ) where
    unfoldable pub framed : Result ℕ Refusal → Read (List ℕ)
    framed (Ok end) = got (slice (at + 2) end s) (drop end s)
    framed (Err r) = refused (named r)

    unfoldable pub FrameInside : Result ℕ Refusal → Type 0
    FrameInside (Ok end) = (at + 2 ≤ end) × (end ≤ length s)
    FrameInside (Err r) = Unit {0}

    pub record ZoneEnd (r : Result ℕ Refusal) : Type 0 where
      pub right : zone_bytes (drop at s) ≡ framed r
      pub inside : FrameInside r

  -- what is read, once both zones' ends were
  unfoldable pub ends_on : (List Formula → List Formula → Question) → Result ℕ Refusal → Read Question
  ends_on make (Ok middle) = formulas_of make (slice 6 middle s) (slice (middle + 2) (length s) s)
  ends_on make (Err r) = refused (named r)

  unfoldable pub EndsInside : Result ℕ Refusal → Type 0
  EndsInside (Ok middle) = (6 ≤ middle) × (middle + 2 ≤ length s)
  EndsInside (Err r) = Unit {0}

  pub record EndsRead (r : Result ℕ Refusal) : Type 0 where
    pub right : (make : List Formula → List Formula → Question) → zones_of make (drop 4 s) ≡ ends_on make r
    pub inside : EndsInside r
