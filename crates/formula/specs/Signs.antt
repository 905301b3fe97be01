-- A formula by its sign: the tag and the parts that document 01's table gives it, and the bytes of a formula at a place of a slice. Assumes nothing.
use Rattle.std.specs.Prelude.{◌≡◌, List, [], ◌∷◌, ◌++◌, ℕ, zero, suc, ◌+◌, ◌/◌, ◌%◌, ◌≤◌, length, get_or, drop}
use Rattle.logic.specs.Formula.{Formula, size}
use Rattle.wire.specs.Write.{write_formula, two_bytes}
use Rattle.formula.specs.declared.Form.{Form}
use Rattle.formula.specs.declared.Form.TheVariants.{Unit, Named, Binary, Unary, Unknown}
use Rattle.wire.specs.Read.{Sign, unit, named, binary, unary, signs}

-- x stands in a table at t
abbrev pub At : List Sign → ℕ → Sign → Type 0
At [] t x = ⊥
At (y ∷ ys) zero x = y ≡ x
At (y ∷ ys) (suc t) x = At ys t x

pub data Signed (f : Formula) : Type 0 where
  a_unit : (t : ℕ) → At signs t (unit f) → write_formula f ≡ t ∷ [] → Signed f
  a_name : (t n : ℕ) (make : ℕ → Formula) → At signs t (named make) → f ≡ make n → write_formula f ≡ t ∷ two_bytes n → Signed f
  a_pair : (t : ℕ) (a b : Formula) (make : Formula → Formula → Formula)
      → At signs t (binary make) → f ≡ make a b → write_formula f ≡ t ∷ (write_formula a ++ write_formula b) → Signed f
  a_part : (t : ℕ) (a : Formula) (make : Formula → Formula) → At signs t (unary make) → f ≡ make a → write_formula f ≡ t ∷ write_formula a → Signed f

-- the bytes of a formula stand at a place
pub record Stands (s : List ℕ) (at : ℕ) (f : Formula) : Type 0 where
  pub rest : List ℕ
  pub here : drop at s ≡ write_formula f ++ rest

-- and by the form of the tag there, it is a unit, a name, or has two parts or one, which stand behind the tag
module _ (s : List ℕ) (at : ℕ) (f : Formula) where
  pub record UnitAt : Type 0 where
    pub sign : At signs (get_or s at 0) (unit f)
    pub bytes : write_formula f ≡ get_or s at 0 ∷ []
    pub wide : size f ≡ 1

  pub record NamedAt : Type 0 where
    pub name : ℕ
    pub make : ℕ → Formula
    pub sign : At signs (get_or s at 0) (named make)
    pub same : f ≡ make name
    pub wide : size f ≡ 3
    pub high : get_or s (at + 1) 0 ≡ name / 256
    pub low : get_or s (at + 2) 0 ≡ name % 256
    pub inside : at + 3 ≤ length s

  pub record BinaryAt : Type 0 where
    pub first : Formula
    pub second : Formula
    pub make : Formula → Formula → Formula
    pub sign : At signs (get_or s at 0) (binary make)
    pub same : f ≡ make first second
    pub wide : size f ≡ 1 + size first + size second
    pub first_stands : Stands s (at + 1) first
    pub second_stands : Stands s (at + 1 + size first) second

  pub record UnaryAt : Type 0 where
    pub part : Formula
    pub make : Formula → Formula
    pub sign : At signs (get_or s at 0) (unary make)
    pub same : f ≡ make part
    pub wide : size f ≡ 1 + size part
    pub part_stands : Stands s (at + 1) part

  abbrev pub Shape : Form → Type 0
  Shape Unit = UnitAt
  Shape Named = NamedAt
  Shape Binary = BinaryAt
  Shape Unary = UnaryAt
  Shape Unknown = ⊥
