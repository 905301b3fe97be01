-- Lists of keys that no look-up tells apart: as many, and entry by entry the same multiset. A memory keeps a key as ordered items, the search's definition as it met the formulas:
-- their failures are alike. Assumes nothing: these are definitions.
use Rattle.std.specs.Prelude.{List, [], ◌∷◌}
use Rattle.logic.specs.Key.{Key}
use Rattle.logic.specs.Legal.{Same, plain}

pub data Alike : List Key → List Key → Type 0 where
  none : Alike [] []
  more : {k l : Key} {ks ls : List Key} → Same plain k l → Alike ks ls → Alike (k ∷ ks) (l ∷ ls)
