-- `pretty` and `pretty_ascii` of formula.rs, as lists of bytes: UTF-8 and ASCII. Assumes nothing.
use Rattle.std.specs.Prelude.{true, false, List, [], ◌∷◌, ◌++◌, ℕ, zero, suc, ◌+◌, ◌/◌, ◌%◌, eqb}
use Rattle.logic.specs.Formula.{Formula, One, Bottom, Top, Zero, Atom, NegAtom, Tensor, Par, With, Plus, Lolli, OfCourse, WhyNot}

-- a number in decimal, most significant digit first, no leading zero; `fuel` is more than the number of digits
unfoldable pub digits_within : (fuel : ℕ) → ℕ → List ℕ
digits_within zero n = []
digits_within (suc fuel) n = elim (eqb (n / 10) 0) [ true ↦ (48 + n % 10) ∷ [] | false ↦ digits_within fuel (n / 10) ++ ((48 + n % 10) ∷ []) ]

abbrev pub digits : ℕ → List ℕ
digits n = digits_within (suc n) n

-- the Rust atom `a17`
abbrev pub name : ℕ → List ℕ
name n = 97 ∷ digits n

-- `(A SIGN B)`
abbrev pub infix_text : List ℕ → List ℕ → List ℕ → List ℕ
infix_text sign a b = 40 ∷ (a ++ (32 ∷ (sign ++ (32 ∷ (b ++ (41 ∷ []))))))

-- What the two printings write differently: ⊗ ⅋ ⊸ ⊕ and the negation sign, the units ⊥ and ⊤
pub record Signs : Type 0 where
  pub tensor : List ℕ
  pub par : List ℕ
  pub lolli : List ℕ
  pub with : List ℕ
  pub plus : List ℕ
  pub negation : List ℕ
  pub bottom : List ℕ
  pub top : List ℕ

abbrev pub unicode : Signs
unicode =
    record {
      tensor = 0xE2 ∷ 0x8A ∷ 0x97 ∷ [];
      par = 0xE2 ∷ 0x85 ∷ 0x8B ∷ [];
      lolli = 0xE2 ∷ 0x8A ∷ 0xB8 ∷ [];
      with = 38 ∷ [];
      plus = 0xE2 ∷ 0x8A ∷ 0x95 ∷ [];
      negation = 0xE2 ∷ 0x8A ∷ 0xA5 ∷ [];
      bottom = 0xE2 ∷ 0x8A ∷ 0xA5 ∷ [];
      top = 0xE2 ∷ 0x8A ∷ 0xA4 ∷ [];
    }

-- * | -o & + ^ bot top
abbrev pub ascii : Signs
ascii =
    record {
      tensor = 42 ∷ [];
      par = 124 ∷ [];
      lolli = 45 ∷ 111 ∷ [];
      with = 38 ∷ [];
      plus = 43 ∷ [];
      negation = 94 ∷ [];
      bottom = 98 ∷ 111 ∷ 116 ∷ [];
      top = 116 ∷ 111 ∷ 112 ∷ [];
    }

unfoldable pub printed : Signs → Formula → List ℕ
printed σ (Atom a) = name a
printed σ (NegAtom a) = name a ++ σ.negation
printed σ (Tensor a b) = infix_text σ.tensor (printed σ a) (printed σ b)
printed σ (Par a b) = infix_text σ.par (printed σ a) (printed σ b)
printed σ (Lolli a b) = infix_text σ.lolli (printed σ a) (printed σ b)
printed σ (With a b) = infix_text σ.with (printed σ a) (printed σ b)
printed σ (Plus a b) = infix_text σ.plus (printed σ a) (printed σ b)
printed σ (OfCourse a) = 33 ∷ printed σ a
printed σ (WhyNot a) = 63 ∷ printed σ a
printed σ One = 49 ∷ []
printed σ Bottom = σ.bottom
printed σ Top = σ.top
printed σ Zero = 48 ∷ []

abbrev pub pretty : Formula → List ℕ
pretty = printed unicode

abbrev pub pretty_ascii : Formula → List ℕ
pretty_ascii = printed ascii
