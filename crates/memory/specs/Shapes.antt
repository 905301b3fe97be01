-- What the memory's calls answer: a formula's sign with its parts, an implication spelled out, a failure recorded. Assumes nothing: these are definitions.
use Rattle.std.specs.Prelude.{◌≡◌, Bool, true, false, List, ℕ, ◌≤◌, ◌<◌, length, None, Option, Some}
use Rattle.logic.specs.Formula as formula
use Rattle.logic.specs.Formula.{Formula}
use Rattle.logic.specs.Key.{Key, contains}
use Rattle.logic.specs.Held.{enter}
use Rattle.failures.specs.Failed.{AsKnown, AsNew}
use Rattle.memory.specs.Meaning.{Wf, Grew, holds, held_count, told, failed}
use Rattle.memory.specs.declared.shape.Shape.{Shape}
use Rattle.memory.specs.declared.shape.Shape.TheVariants as shape

-- formula x is made of two held ones by a sign, or of one
pub record OfTwo (m : List ℕ) (x : ℕ) (sign : Formula → Formula → Formula) (a b : ℕ) : Type 0 where
  pub here : told m x ≡ sign (told m a) (told m b)
  pub left : a < held_count m
  pub right : b < held_count m

pub record OfOne (m : List ℕ) (x : ℕ) (sign : Formula → Formula) (a : ℕ) : Type 0 where
  pub here : told m x ≡ sign (told m a)
  pub part : a < held_count m

abbrev pub ShapeOf : List ℕ → ℕ → Shape → Type 0
ShapeOf m x shape.One = told m x ≡ formula.One
ShapeOf m x shape.Bottom = told m x ≡ formula.Bottom
ShapeOf m x shape.Top = told m x ≡ formula.Top
ShapeOf m x shape.Zero = told m x ≡ formula.Zero
ShapeOf m x (shape.Atom a) = told m x ≡ formula.Atom a
ShapeOf m x (shape.NegAtom a) = told m x ≡ formula.NegAtom a
ShapeOf m x (shape.Tensor a b) = OfTwo m x formula.Tensor a b
ShapeOf m x (shape.Par a b) = OfTwo m x formula.Par a b
ShapeOf m x (shape.With a b) = OfTwo m x formula.With a b
ShapeOf m x (shape.Plus a b) = OfTwo m x formula.Plus a b
ShapeOf m x (shape.Lolli a b) = OfTwo m x formula.Lolli a b
ShapeOf m x (shape.OfCourse a) = OfOne m x formula.OfCourse a
ShapeOf m x (shape.WhyNot a) = OfOne m x formula.WhyNot a

-- formula x is an implication
pub record Implication (m : List ℕ) (x : ℕ) : Type 0 where
  pub wf : Wf m
  pub low : x < held_count m
  pub left : Formula
  pub right : Formula
  pub here : told m x ≡ formula.Lolli left right

-- the formula f has been entered with its parts, and has the number i; or there is no room, and nothing changes
pub record Spelled (m : List ℕ) (f : Formula) (i : ℕ) (m' : List ℕ) : Type 0 where
  pub wf : Wf m'
  pub grew : Grew m m'
  pub all : holds m' ≡ enter f (holds m)
  pub room : length (enter f (holds m)) ≤ 2048
  pub failures : failed m' ≡ failed m
  pub low : i < held_count m'
  pub here : told m' i ≡ f

pub record NoRoom (m : List ℕ) (f : Formula) (m' : List ℕ) : Type 0 where
  pub same : m' ≡ m
  pub full : 2048 < length (enter f (holds m))

abbrev pub SpelledOr : List ℕ → Formula → Option ℕ → List ℕ → Type 0
SpelledOr m f (Some i) m' = Spelled m f i m'
SpelledOr m f None m' = NoRoom m f m'

-- the key k has been recorded: it was known, or it is new; or there is no room, and nothing changes
pub data Filed (ks : List Key) (k : Key) (js : List Key) : Type 0 where
  was_known : AsKnown ks k js → Filed ks k js
  is_new : AsNew ks k js → Filed ks k js

pub record Recorded (m : List ℕ) (k : Key) (m' : List ℕ) : Type 0 where
  pub wf : Wf m'
  pub grew : Grew m m'
  pub all : holds m' ≡ holds m
  pub failures : Filed (failed m) k (failed m')

pub record NoPlace (m : List ℕ) (k : Key) (m' : List ℕ) : Type 0 where
  pub same : m' ≡ m
  pub new : contains (failed m) k ≡ false
  pub full : 1000 ≤ length (failed m)

abbrev pub RecordedOr : List ℕ → Key → Bool → List ℕ → Type 0
RecordedOr m k true m' = Recorded m k m'
RecordedOr m k false m' = NoPlace m k m'
