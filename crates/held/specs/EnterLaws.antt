-- Laws of entering formulas: the list of held formulas never grows shorter. Assumes nothing.
use Rattle.std.specs.Prelude.{◌≡◌, Bool, true, false, List, [], ◌∷◌, ◌++◌, ◌≤◌, length}
use Rattle.std.proofs.Common.{arith, le_trans, length-append}
use Rattle.logic.specs.Formula.{Formula, One, Bottom, Top, Zero, Atom, NegAtom, Tensor, Par, With, Plus, Lolli, OfCourse, WhyNot, among}
use Rattle.logic.specs.Held.{add, enter, enter_all}

-- a formula that is held, and one that is not
pub add_known : (f : Formula) (fs : List Formula) → among f fs ≡ true → add f fs ≡ fs
add_known f fs e = rw (e, add)

pub add_unknown : (f : Formula) (fs : List Formula) → among f fs ≡ false → add f fs ≡ fs ++ (f ∷ [])
add_unknown f fs e = rw (e, add)

-- entering never makes the list shorter
add_longer : (b : Bool) (f : Formula) (fs : List Formula) → length fs ≤ length {A = Formula} (elim b [ true ↦ fs | false ↦ fs ++ (f ∷ []) ])
add_longer true f fs = omega arith
add_longer false f fs = omega (arith, length-append fs (f ∷ []))

pub added_longer : (f : Formula) (fs gs : List Formula) → length fs ≤ length gs → length fs ≤ length (add f gs)
added_longer f fs gs l = le_trans l (add_longer (among f gs) f gs)

pub enter_longer : (g : Formula) (fs hs : List Formula) → length hs ≤ length fs → length hs ≤ length (enter g fs)
unfolding enter
enter_longer One fs hs l = added_longer _ hs fs l
enter_longer Bottom fs hs l = added_longer _ hs fs l
enter_longer Top fs hs l = added_longer _ hs fs l
enter_longer Zero fs hs l = added_longer _ hs fs l
enter_longer (Atom a) fs hs l = added_longer _ hs fs l
enter_longer (NegAtom a) fs hs l = added_longer _ hs fs l
enter_longer (Tensor a b) fs hs l = added_longer _ hs _ (enter_longer b (enter a fs) hs (enter_longer a fs hs l))
enter_longer (Par a b) fs hs l = added_longer _ hs _ (enter_longer b (enter a fs) hs (enter_longer a fs hs l))
enter_longer (With a b) fs hs l = added_longer _ hs _ (enter_longer b (enter a fs) hs (enter_longer a fs hs l))
enter_longer (Plus a b) fs hs l = added_longer _ hs _ (enter_longer b (enter a fs) hs (enter_longer a fs hs l))
enter_longer (Lolli a b) fs hs l = added_longer _ hs _ (enter_longer b (enter a fs) hs (enter_longer a fs hs l))
enter_longer (OfCourse a) fs hs l = added_longer _ hs _ (enter_longer a fs hs l)
enter_longer (WhyNot a) fs hs l = added_longer _ hs _ (enter_longer a fs hs l)

pub enter_all_longer : (gs fs hs : List Formula) → length hs ≤ length fs → length hs ≤ length (enter_all gs fs)
unfolding enter_all
enter_all_longer [] fs hs l = l
enter_all_longer (g ∷ gs) fs hs l = enter_all_longer gs (enter g fs) hs (enter_longer g fs hs l)
