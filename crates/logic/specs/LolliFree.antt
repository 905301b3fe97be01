-- Formulas with no implication in them: on these negation is an involution. Assumes nothing.
use Rattle.std.specs.Prelude.{Bool, true, false, ◌&&◌}
use Rattle.logic.specs.Formula.{Formula, One, Bottom, Top, Zero, Atom, NegAtom, Tensor, Par, With, Plus, Lolli, OfCourse, WhyNot}

unfoldable pub plain_of_lolli : Formula → Bool
plain_of_lolli One = true
plain_of_lolli Bottom = true
plain_of_lolli Top = true
plain_of_lolli Zero = true
plain_of_lolli (Atom a) = true
plain_of_lolli (NegAtom a) = true
plain_of_lolli (Tensor a b) = plain_of_lolli a && plain_of_lolli b
plain_of_lolli (Par a b) = plain_of_lolli a && plain_of_lolli b
plain_of_lolli (With a b) = plain_of_lolli a && plain_of_lolli b
plain_of_lolli (Plus a b) = plain_of_lolli a && plain_of_lolli b
plain_of_lolli (Lolli a b) = false
plain_of_lolli (OfCourse a) = plain_of_lolli a
plain_of_lolli (WhyNot a) = plain_of_lolli a
