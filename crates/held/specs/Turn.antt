-- What negating a held formula and spelling out an implication answer. Assumes nothing: these are definitions.
use Rattle.std.specs.Prelude.{◌≡◌, List, ℕ, ◌+◌, ◌≤◌, ◌<◌, get_or, length, None, Option, Some}
use Rattle.logic.specs.Formula.{Formula, One, negate}
use Rattle.logic.specs.Parts.{make}
use Rattle.logic.specs.Held.{add, enter}
use Rattle.held.specs.Signs.{node}
use Rattle.held.specs.Words.{at, count, view, told, Wf, Extends, most}
use Rattle.held.specs.Answers.{Next, Stored, NoRoom}
use Rattle.held.specs.declared.turn.Step.{Step}
use Rattle.held.specs.declared.turn.Step.TheVariants as step

-- a word k of the memo that is no zero is one more than the number of the negation of formula k
pub record Memo (m memo : List ℕ) : Type 0 where
  pub sized : length memo ≡ most
  pub known : (k v : ℕ) → get_or memo k 0 ≡ v + 1 → (k < count m) × ((v < count m) × (told m v ≡ negate (told m k)))

pub record Turn (m memo : List ℕ) (x : ℕ) : Type 0 where
  pub wf : Wf m
  pub low : x < count m
  pub notes : Memo m memo

-- the formula f has been entered with its parts, and has the number i
pub record Entered (m : List ℕ) (f : Formula) (i : ℕ) (m' : List ℕ) : Type 0 where
  pub wf : Wf m'
  pub grew : Extends m m'
  pub all : view m' ≡ enter f (view m)
  pub low : i < count m'
  pub here : told m' i ≡ f

-- there is no room for f with its parts; some may have been entered
pub record Over (m : List ℕ) (f : Formula) (m' : List ℕ) : Type 0 where
  pub wf : Wf m'
  pub grew : Extends m m'
  pub over : most < length (enter f (view m))

abbrev pub Turned : List ℕ → Formula → Option ℕ → List ℕ → List ℕ → Type 0
Turned m f (Some i) m' memo' = Entered m f i m' × Memo m' memo'
Turned m f None m' memo' = Over m f m'

-- the same with nothing changed where there is no room
pub record Refused (m : List ℕ) (f : Formula) (m' : List ℕ) : Type 0 where
  pub same : m' ≡ m
  pub over : most < length (enter f (view m))

abbrev pub EnteredOr : List ℕ → Formula → Option ℕ → List ℕ → Type 0
EnteredOr m f (Some i) m' = Entered m f i m'
EnteredOr m f None m' = Refused m f m'

-- what negating formula x takes
pub record KnownAt (m : List ℕ) (x i : ℕ) : Type 0 where
  pub low : i < count m
  pub here : told m i ≡ negate (told m x)

pub record LeafAt (m : List ℕ) (x t a : ℕ) : Type 0 where
  pub next : Next m t a 0
  pub here : node t a 0 (view m) ≡ negate (told m x)
  pub alone : enter (negate (told m x)) (view m) ≡ add (negate (told m x)) (view m)

pub record HalfAt (m : List ℕ) (x a b : ℕ) : Type 0 where
  pub left : a < x
  pub right : b < x
  pub here : negate (told m x) ≡ make 6 0 (told m a) (negate (told m b))

pub record TwoAt (m : List ℕ) (x t a b : ℕ) : Type 0 where
  pub left : a < x
  pub right : b < x
  pub low : 6 ≤ t
  pub high : t < 11
  pub here : negate (told m x) ≡ make t 0 (negate (told m a)) (negate (told m b))

pub record SingleAt (m : List ℕ) (x t a : ℕ) : Type 0 where
  pub left : a < x
  pub low : 11 ≤ t
  pub high : t < 13
  pub here : negate (told m x) ≡ make t 0 (negate (told m a)) One

abbrev pub StepOf : List ℕ → ℕ → Step → Type 0
StepOf m x (step.Known i) = KnownAt m x i
StepOf m x (step.Leaf t a) = LeafAt m x t a
StepOf m x (step.Half a b) = HalfAt m x a b
StepOf m x (step.Two t a b) = TwoAt m x t a b
StepOf m x (step.Single t a) = SingleAt m x t a

pub record Ready (m memo : List ℕ) (x t a b : ℕ) : Type 0 where
  pub turn : Turn m memo x
  pub next : Next m t a b
  pub here : node t a b (view m) ≡ negate (told m x)

abbrev pub Finished : List ℕ → ℕ → Option ℕ → List ℕ → List ℕ → Type 0
Finished m x (Some i) m' memo' = Stored m (negate (told m x)) i m' × Memo m' memo'
Finished m x None m' memo' = NoRoom m (negate (told m x)) m'

-- formula x is an implication
pub record Implication (m : List ℕ) (x : ℕ) : Type 0 where
  pub wf : Wf m
  pub low : x < count m
  pub lolli : at m x 0 ≡ 10
