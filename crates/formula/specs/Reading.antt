-- What the reader's own steps answer: a tag's form, and what is known at a formula's tag. Assumes nothing.
use Rattle.std.specs.Prelude.{◌≡◌, List, [], ◌∷◌, ℕ, zero, suc, ◌+◌, ◌-◌, ◌≤◌, ◌<◌, Bool, true, false, get_or, ltb}
use Rattle.std.proofs.Math.Seq.{slice}
use Rattle.wire.specs.Read.{Sign, unit, named, binary, unary, signs, read_formula, ◌then◌}
use Rattle.formula.specs.Answers.{reads}
use Rattle.formula.specs.declared.Refusal.{Refusal}
use Rattle.formula.specs.declared.Refusal.TheVariants.{WrongLength, WrongTag, TooHigh}
use Rattle.std.specs.Prelude.{Result, Ok, Err}
use Rattle.formula.specs.declared.Form.{Form}
use Rattle.formula.specs.declared.Form.TheVariants.{Unit, Named, Binary, Unary, Unknown}
use Rattle.formula.specs.declared.Look.{Look}
use Rattle.formula.specs.declared.Look.TheVariants.{Done, One, Two}

unfoldable pub form_of_sign : Sign → Form
form_of_sign (unit f) = Unit
form_of_sign (named f) = Named
form_of_sign (binary f) = Binary
form_of_sign (unary f) = Unary

unfoldable pub form_in : List Sign → ℕ → Form
form_in [] t = Unknown
form_in (s ∷ ss) zero = form_of_sign s
form_in (s ∷ ss) (suc t) = form_in ss t

-- what a tag is followed by, by document 01's table
abbrev pub form_of : ℕ → Form
form_of t = form_in signs t

-- whether a formula with this tag is positive
abbrev positive_tags : List Bool
positive_tags = true ∷ false ∷ false ∷ true ∷ true ∷ false ∷ true ∷ false ∷ false ∷ true ∷ false ∷ true ∷ false ∷ []

unfoldable pub positive_tag : ℕ → Bool
positive_tag t = get_or positive_tags t false

-- where no level is left
unfoldable pub above_of : Form → Refusal
above_of Unknown = WrongTag
above_of Unit = TooHigh
above_of Named = TooHigh
above_of Binary = TooHigh
above_of Unary = TooHigh

module _ (at end : ℕ) where
  -- where a level is left
  unfoldable pub look_of : Form → Look
  look_of Unit = Done (Ok (at + 1))
  look_of Named = Done (elim (ltb (end - at) 3) [ true ↦ Err WrongLength | false ↦ Ok (at + 3) ])
  look_of Binary = Two
  look_of Unary = One
  look_of Unknown = Done (Err WrongTag)

module _ (s : List ℕ) (at end levels : ℕ) where
  -- what reading answers, once the tag was looked at
  unfoldable pub read_on : Look → Result ℕ Refusal
  read_on (Done r) = r
  read_on One = reads end (read_formula (levels - 1) (slice (at + 1) end s))
  read_on Two = reads end (read_formula (levels - 1) (slice (at + 1) end s) then λ a rest. read_formula (levels - 1) rest)

  -- where parts are to be read, there is a byte before them and a level for them
  unfoldable pub Goes_on : Look → Type 0
  Goes_on (Done r) = at ≤ end
  Goes_on One = (at < end) × (0 < levels)
  Goes_on Two = (at < end) × (0 < levels)

  pub record Looked (r : Look) : Type 0 where
    pub right : reads end (read_formula levels (slice at end s)) ≡ read_on r
    pub goes_on : Goes_on r
