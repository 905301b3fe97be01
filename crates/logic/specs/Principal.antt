-- The principal formula of a step, as a place in a multiset: a zone is the formula and a rest. What the tests of strict mode look for, told without a test. Assumes nothing.
use Rattle.std.specs.Prelude.{◌≡◌, Bool, List, ◌∷◌, ◌++◌}
use Rattle.std.proofs.Math.Bool.{So}
use Rattle.logic.specs.Formula.{Formula, Par, Lolli, negate, spell}
use Rattle.logic.specs.Parts.{left_part, right_part}
use Rattle.logic.specs.Legal.{Same, ◌≈◌}

-- x stands in the zone, read through g
pub record Stands (g : Formula → Formula) (x : Formula) (xs : List Formula) : Type 0 where
  pub rest : List Formula
  pub same : Same g xs (x ∷ rest)

-- a formula that stands in the zone and that g leaves as it is passes the test
pub record Passing (g : Formula → Formula) (test : Formula → Bool) (xs : List Formula) : Type 0 where
  pub here : Formula
  pub fixed : g here ≡ here
  pub stands : Stands g here xs
  pub passes : So (test here)

-- the test does not see whether an implication is spelled out
abbrev pub Unspelled : (Formula → Bool) → Type 0
Unspelled test = (a b : Formula) → test (Par (negate a) b) ≡ test (Lolli a b)

-- `sign` is a sign at the top of a formula, over its parts, and no implication
pub record Sign {A : Type 0} (sign : A → Formula) (parts : Formula → A) : Type 0 where
  pub parts_sign : (a : A) → parts (sign a) ≡ a
  pub spell_sign : (a : A) → spell (sign a) ≡ sign a

-- signs over two parts, and over one
abbrev pub over_two : (Formula → Formula → Formula) → Formula × Formula → Formula
over_two sign ab = sign ab.0 ab.1

abbrev pub two_parts : Formula → Formula × Formula
two_parts f = (left_part f, right_part f)

-- some formula of the linear zone has the sign, and its parts and the rest of the zone meet T
pub record Principal {A : Type 0} (sign : A → Formula) (T : A → List Formula → Type 0) (xs : List Formula) : Type 0 where
  pub parts : A
  pub rest : List Formula
  pub same : xs ≈ sign parts ∷ rest
  pub meets : T parts rest

-- the linear zone xs is shared out: what the premises ys and zs hold besides a and b
pub record Shared (a b : Formula) (ys zs xs : List Formula) : Type 0 where
  pub one : List Formula
  pub other : List Formula
  pub shared : xs ≈ one ++ other
  pub with_one : ys ≈ a ∷ one
  pub with_other : zs ≈ b ∷ other
