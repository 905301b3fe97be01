-- What is said of the formulas held: those of one list are among those of another, and each stands with its parts. Assumes nothing: these are definitions.
use Rattle.std.specs.Prelude.{◌≡◌, true, List}
use Rattle.logic.specs.Formula.{Formula, among}
use Rattle.logic.specs.Parts.{left_part, right_part}

-- what is held stays held
pub record Stay (fs gs : List Formula) : Type 0 where
  pub stays : (f : Formula) → among f fs ≡ true → among f gs ≡ true

-- each formula is held with its parts; a formula without parts counts as its own
pub record Closed (fs : List Formula) : Type 0 where
  pub left : (f : Formula) → among f fs ≡ true → among (left_part f) fs ≡ true
  pub right : (f : Formula) → among f fs ≡ true → among (right_part f) fs ≡ true
