-- What reading a question into the whole lent memory answers. Assumes nothing: these are definitions.
use Rattle.std.specs.Prelude.{◌≡◌, true, false, Err, Ok, Result, List, [], ℕ, length}
use Rattle.logic.specs.Formula.{Formula}
use Rattle.logic.specs.Sequent.{Question, to_one_sided}
use Rattle.logic.specs.Held.{enter_question}
use Rattle.logic.specs.Limits.{at_most, exceeds}
use Rattle.wire.specs.Read as wire
use Rattle.wire.specs.Read.{got, refused, read_question}
use Rattle.formula.specs.Answers.{coded}
use Rattle.formula.specs.declared.Refusal.{Refusal}
use Rattle.formula.specs.declared.Refusal.TheVariants.{HeldFull}
use Rattle.held.specs.Words.{most}
use Rattle.zones.specs.declared.Zones.{Zones}
use Rattle.zones.specs.Zones.{meant}
use Rattle.memory.specs.Meaning.{Wf, Grew, StandsIn, formula_words, holds, told, failed}

-- the answer where the formulas fs are held: reading's refusal; 7 where the question's formulas cannot all be held with them; or a sequent
unfoldable pub answer_of : List Formula → wire.Read Question → Result (Unit {0}) Refusal
answer_of fs (got q rest) = elim (exceeds (at_most most) (length (enter_question q fs))) [ true ↦ Err HeldFull | false ↦ Ok tt ]
answer_of fs (refused k) = Err (coded k)

-- an answer without its sequent
abbrev pub reading_of : Result Zones Refusal → Result (Unit {0}) Refusal
reading_of (Ok z) = Ok tt
reading_of (Err why) = Err why

-- formulas entered into the front of the memory, whose words are w then: it is well-formed still, what was held stays held, and the failures mean what they meant
pub record Extended (m w m' : List ℕ) : Type 0 where
  pub wf : Wf m'
  pub front : formula_words m' ≡ w
  pub grew : Grew m m'
  pub failures : failed m' ≡ failed m

-- the bytes s are a question, whose formulas are held now, and z is its sequent; the failures are as they were
pub record Taken (m s : List ℕ) (z : Zones) (m' : List ℕ) : Type 0 where
  pub question : Question
  pub read : read_question s ≡ got question []
  pub wf : Wf m'
  pub grew : Grew m m'
  pub all : holds m' ≡ enter_question question (holds m)
  pub failures : failed m' ≡ failed m
  pub stands : StandsIn m' z
  pub means : meant (told m') z ≡ to_one_sided question

abbrev pub TakenOr : Result Zones Refusal → List ℕ → List ℕ → List ℕ → Type 0
TakenOr (Ok z) m s m' = Taken m s z m'
TakenOr (Err why) m s m' = m' ≡ m

-- the promise of `read_into`: memory m before and m' after, bytes s, answer r
pub record ReadInto (m s : List ℕ) (r : Result Zones Refusal) (m' : List ℕ) : Type 0 where
  pub answer : reading_of r ≡ answer_of (holds m) (read_question s)
  pub after : TakenOr r m s m'
