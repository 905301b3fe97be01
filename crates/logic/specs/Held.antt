-- The formulas that a memory holds, in order of entry: each once, numbered as first met, parts before wholes, left before right; of a question those read before the negations made for
-- its antecedents (document 01). Assumes nothing.
use Rattle.std.specs.Prelude.{true, false, List, [], ◌∷◌, ◌++◌, map}
use Rattle.logic.specs.Formula.{Formula, One, Bottom, Top, Zero, Atom, NegAtom, Tensor, Par, With, Plus, Lolli, OfCourse, WhyNot, among, negate}
use Rattle.logic.specs.Sequent.{Question, one_sided, two_sided}

-- a formula whose parts are held
abbrev pub add : Formula → List Formula → List Formula
add f fs = elim (among f fs) [ true ↦ fs | false ↦ fs ++ (f ∷ []) ]

unfoldable pub enter : Formula → List Formula → List Formula
enter (Atom a) fs = add (Atom a) fs
enter (NegAtom a) fs = add (NegAtom a) fs
enter (Tensor a b) fs = add (Tensor a b) (enter b (enter a fs))
enter (Par a b) fs = add (Par a b) (enter b (enter a fs))
enter One fs = add One fs
enter Bottom fs = add Bottom fs
enter (With a b) fs = add (With a b) (enter b (enter a fs))
enter (Plus a b) fs = add (Plus a b) (enter b (enter a fs))
enter Top fs = add Top fs
enter Zero fs = add Zero fs
enter (OfCourse a) fs = add (OfCourse a) (enter a fs)
enter (WhyNot a) fs = add (WhyNot a) (enter a fs)
enter (Lolli a b) fs = add (Lolli a b) (enter b (enter a fs))

unfoldable pub enter_all : List Formula → List Formula → List Formula
enter_all [] fs = fs
enter_all (g ∷ gs) fs = enter_all gs (enter g fs)

unfoldable pub enter_question : Question → List Formula → List Formula
enter_question (one_sided Γ Θ) fs = enter_all Θ (enter_all Γ fs)
enter_question (two_sided Γ Δ) fs = enter_all (map negate Γ) (enter_all Δ (enter_all Γ fs))
