-- The formula that a tag makes of a name or of parts by number. Assumes nothing: these are definitions.
use Rattle.std.specs.Prelude.{List, ℕ, get_or}
use Rattle.logic.specs.Formula.{Formula, One}
use Rattle.logic.specs.Parts.{make}

-- the formula that the tag t makes of the name a, or of the parts numbered a and b in fs
unfoldable pub node : ℕ → ℕ → ℕ → List Formula → Formula
node t a b fs = make t a (get_or fs a One) (get_or fs b One)
