-- What printing writes at a tag, and what a walk over a text does: it counts, or writes, and writes no more once the output buffer is too short. Assumes nothing.
use Rattle.std.specs.Prelude.{◌≡◌, Option, Some, None, List, [], ◌∷◌, ◌++◌, ℕ, ◌+◌, ◌≤◌, ◌<◌, length, get_or}
use Rattle.std.proofs.lemmas.List.Edits.{sets}
use Rattle.logic.specs.Formula.{Formula, size}
use Rattle.logic.specs.Text.{Signs, unicode, ascii, printed}
use Rattle.formula.specs.Signs.{Stands}
use Rattle.print.specs.declared.Style.{Style}
use Rattle.print.specs.declared.Style.TheVariants.{Unicode, Ascii}
use Rattle.print.specs.declared.Pass.{Pass}
use Rattle.print.specs.declared.Pass.TheVariants.{Count, Write}
use Rattle.print.specs.declared.Place.{Place}

abbrev pub signs_of : Style → Signs
signs_of Unicode = unicode
signs_of Ascii = ascii

-- a sign between two parts has a space on each side
abbrev pub spaced : List ℕ → List ℕ
spaced sign = 32 ∷ (sign ++ (32 ∷ []))

-- by tag: a unit, what follows a name, a sign between two parts, a sign before one
abbrev pub sign_texts : Signs → List (List ℕ)
sign_texts σ =
    (49 ∷ [])
    ∷ σ.bottom
    ∷ σ.top
    ∷ (48 ∷ [])
    ∷ []
    ∷ σ.negation
    ∷ spaced σ.tensor
    ∷ spaced σ.par
    ∷ spaced σ.with
    ∷ spaced σ.plus
    ∷ spaced σ.lolli
    ∷ (33 ∷ [])
    ∷ (63 ∷ [])
    ∷ []

unfoldable pub sign_text : Signs → ℕ → List ℕ
sign_text σ t = get_or (sign_texts σ) t []

-- the rows of the code's table: the signs of one printing, then those of the other
abbrev pub sign_row : Style → ℕ → ℕ
sign_row Unicode t = t
sign_row Ascii t = 13 + t

-- the output buffer after a walk over a text
unfoldable pub laid : Pass → List ℕ → ℕ → List ℕ → List ℕ
laid Count out to text = out
laid Write out to text = sets out to text

-- a place where all has fitted
abbrev pub place : (next to : ℕ) → Place
place n t = record { next = n; to = Some t }

-- a walk over a text from the place `to` of the output buffer, if all fitted so far; reading is at `next` then
module _ (pass : Pass) (out : List ℕ) (to : Option ℕ) (text : List ℕ) (next : ℕ) where
  pub data Emitted (r : Place) (last : List ℕ) : Type 0 where
    went : (t : ℕ) → to ≡ Some t → t + length text ≤ length out → r ≡ place next (t + length text) → last ≡ laid pass out t text → Emitted r last
    stopped : ((t : ℕ) → to ≡ Some t → length out < t + length text) → r.next ≡ next → r.to ≡ None → length last ≡ length out → (pass ≡ Count → last ≡ out) → Emitted r last

-- a formula stands where reading goes on
pub record Ready (s : List ℕ) (at : ℕ) : Type 0 where
  pub formula : Formula
  pub stands : Stands s at formula

-- the text of the formula there
pub record Printed (s : List ℕ) (p : Place) (out : List ℕ) (style : Style) (pass : Pass) (r : Place) (last : List ℕ) : Type 0 where
  pub text : (f : Formula) → Stands s p.next f → Emitted pass out p.to (printed (signs_of style) f) (p.next + size f) r last
