-- What entering a whole question answers. Assumes nothing: these are definitions.
use Rattle.std.specs.Prelude.{◌≡◌, None, Option, Some, List, [], map, ℕ, ◌≤◌, ◌<◌, length}
use Rattle.logic.specs.Formula.{Formula}
use Rattle.logic.specs.Sequent.{Question, one_sided, two_sided, to_one_sided}
use Rattle.logic.specs.Held.{enter_question}
use Rattle.wire.specs.Read.{got, read_question}
use Rattle.held.specs.Words.{count, most, view, told, Wf, Extends}
use Rattle.held.specs.Answers.{TakenBack}
use Rattle.zones.specs.declared.Zones.{Zones}
use Rattle.zones.specs.Zones.{Fits, Below, Within, meant}
use Rattle.question.specs.Found.{Found}
use Rattle.question.specs.declared.Places.{Places}

-- the bytes are a question, and p says where its zones stand
pub record Askable (m s : List ℕ) (p : Places) : Type 0 where
  pub wf : Wf m
  pub question : Question
  pub found : Found s p question

-- the same for a question of kind 1, and of kind 2
pub record OneSided (m s : List ℕ) (p : Places) : Type 0 where
  pub wf : Wf m
  pub linear : List Formula
  pub unrestricted : List Formula
  pub found : Found s p (one_sided linear unrestricted)

pub record TwoSided (m s : List ℕ) (p : Places) : Type 0 where
  pub wf : Wf m
  pub antecedent : List Formula
  pub succedent : List Formula
  pub found : Found s p (two_sided antecedent succedent)

-- the numbers xs are of held formulas, and these are fs
pub record Says (m xs : List ℕ) (fs : List Formula) : Type 0 where
  pub low : Below (count m) xs
  pub means : map (told m) xs ≡ fs

-- the formulas of the question q are held, and z is its sequent
pub record Held (m : List ℕ) (q : Question) (z : Zones) (m' : List ℕ) : Type 0 where
  pub wf : Wf m'
  pub grew : Extends m m'
  pub all : view m' ≡ enter_question q (view m)
  pub fits : Fits z
  pub within : Within (count m') z
  pub means : meant (told m') z ≡ to_one_sided q

-- there is no room for them all; some may have been entered
pub record Over (m : List ℕ) (q : Question) (m' : List ℕ) : Type 0 where
  pub wf : Wf m'
  pub grew : Extends m m'
  pub over : most < length (enter_question q (view m))

abbrev pub HeldOr : List ℕ → Question → Option Zones → List ℕ → Type 0
HeldOr m q None m' = Over m q m'
HeldOr m q (Some z) m' = Held m q z m'

-- whatever question the bytes are
abbrev pub Entering : List ℕ → List ℕ → Option Zones → List ℕ → Type 0
Entering m s r m' = (q : Question) → read_question s ≡ got q [] → HeldOr m q r m'

-- the same with nothing changed where there is no room
pub record NoRoom (m : List ℕ) (q : Question) (m' : List ℕ) : Type 0 where
  pub same : m' ≡ m
  pub over : most < length (enter_question q (view m))

abbrev pub HeldOrNot : List ℕ → Question → Option Zones → List ℕ → Type 0
HeldOrNot m q None m' = NoRoom m q m'
HeldOrNot m q (Some z) m' = Held m q z m'

abbrev pub AskedTo : List ℕ → List ℕ → Option Zones → List ℕ → Type 0
AskedTo m s r m' = (q : Question) → read_question s ≡ got q [] → HeldOrNot m q r m'

-- what was entered since the first n formulas can be taken back
pub record Settles (m : List ℕ) (n : ℕ) : Type 0 where
  pub wf : Wf m
  pub low : n ≤ count m

-- all formulas from n on are taken back where there was no room
abbrev pub SettledAs : Option Zones → List ℕ → ℕ → List ℕ → Type 0
SettledAs None m n m' = TakenBack m n m'
SettledAs (Some z) m n m' = m' ≡ m
