-- What a found tree concludes: the question, with its first decomposable formula, if that is an implication, spelled out at its top (document 01: an implication becomes a par in its
-- place, with no node of its own). Assumes nothing.
use Rattle.std.specs.Prelude.{cond, List, [], ◌∷◌}
use Rattle.logic.specs.Formula.{Formula, spell}
use Rattle.logic.specs.Sequent.{Sequent, ◌﹔◌}
use Rattle.logic.specs.Built.{decomposable}

unfoldable pub spell_first : List Formula → List Formula
spell_first [] = []
spell_first (f ∷ fs) = cond (decomposable f) (spell f ∷ fs) (f ∷ spell_first fs)

abbrev pub concluded : Sequent → Sequent
concluded q = spell_first q.linear ﹔ q.unrestricted
