-- A reader of printed formulas: a device of the proof that printing is injective (`TextLaws`). No text is read by it anywhere else, and what it makes of a text that was not printed says
-- nothing. Assumes nothing.
use Rattle.std.specs.Prelude.{◌≡◌, true, false, List, [], ◌∷◌, ◌++◌, ℕ, zero, suc, ◌+◌, ◌-◌, ◌*◌, eqb, ltb}
use Rattle.std.proofs.Math.Option.{Option, none, some, bind, or_else}
use Rattle.logic.specs.Formula.{Formula, One, Bottom, Top, Zero, Atom, NegAtom, Tensor, Par, With, Plus, Lolli, OfCourse, WhyNot}
use Rattle.logic.specs.Text.{Signs}

-- what follows a prefix
unfoldable pub after : (prefix text : List ℕ) → Option (List ℕ)
after [] t = some t
after (p ∷ ps) [] = none
after (p ∷ ps) (c ∷ t) = elim (eqb p c) [ true ↦ after ps t | false ↦ none ]

-- the first entry of a table that the text starts with, and what follows
unfoldable pub read_one_of : {A : Type 0} → List (List ℕ × A) → List ℕ → Option (A × List ℕ)
read_one_of [] t = none
read_one_of (e ∷ es) t = elim (after e.0 t) [ some r ↦ some (e.1, r) | none ↦ read_one_of es t ]

unfoldable pub units : Signs → List (List ℕ × Formula)
units σ = (49 ∷ [], One) ∷ (48 ∷ [], Zero) ∷ (σ.bottom, Bottom) ∷ (σ.top, Top) ∷ []

unfoldable pub connectives : Signs → List (List ℕ × (Formula → Formula → Formula))
connectives σ = (σ.tensor, Tensor) ∷ (σ.par, Par) ∷ (σ.lolli, Lolli) ∷ (σ.with, With) ∷ (σ.plus, Plus) ∷ []

-- a number in decimal as far as it goes, after digits that were worth n
unfoldable pub read_digits : ℕ → List ℕ → ℕ × List ℕ
read_digits n [] = (n, [])
read_digits n (c ∷ t) =
    elim (ltb c 48) [
      | true ↦ (n, c ∷ t)
      | false ↦ elim (ltb c 58) [ true ↦ read_digits (n * 10 + (c - 48)) t | false ↦ (n, c ∷ t) ]
    ]

-- a name is negated where the negation sign follows
unfoldable pub name_or_negation : ℕ × List ℕ → Option (List ℕ) → Formula × List ℕ
name_or_negation p none = (Atom p.0, p.1)
name_or_negation p (some r) = (NegAtom p.0, r)

unfoldable pub read_sign : Signs → ℕ × List ℕ → Formula × List ℕ
read_sign σ p = name_or_negation p (after σ.negation p.1)

-- what stands behind the opening bracket; `deeper` reads a part
unfoldable pub read_infix : Signs → (deeper : List ℕ → Option (Formula × List ℕ)) → List ℕ → Option (Formula × List ℕ)
read_infix σ deeper t =
    bind (deeper t) λ a.
    bind (after (32 ∷ []) a.1) λ t₁.
    bind (read_one_of (connectives σ) t₁) λ c.
    bind (after (32 ∷ []) c.1) λ t₂.
    bind (deeper t₂) λ b.
    bind (after (41 ∷ []) b.1) λ t₃.
    some (c.0 a.0 b.0, t₃)

-- behind a `!` or a `?`
unfoldable pub read_part : (Formula → Formula) → Option (Formula × List ℕ) → Option (Formula × List ℕ)
read_part sign none = none
read_part sign (some p) = some (sign p.0, p.1)

unfoldable pub read_other : Signs → (deeper : List ℕ → Option (Formula × List ℕ)) → List ℕ → Option (Formula × List ℕ)
read_other σ deeper [] = none
read_other σ deeper (c ∷ t) =
    elim (eqb c 97) [
      | true ↦ some (read_sign σ (read_digits 0 t))
      | false ↦
          elim (eqb c 40) [
            | true ↦ read_infix σ deeper t
            | false ↦
                elim (eqb c 33) [
                  | true ↦ read_part OfCourse (deeper t)
                  | false ↦ elim (eqb c 63) [ true ↦ read_part WhyNot (deeper t) | false ↦ none ]
                ]
          ]
    ]

-- the formula that a text starts with, and what follows; `fuel` is the height that it may have
unfoldable pub read_formula : Signs → (fuel : ℕ) → List ℕ → Option (Formula × List ℕ)
read_formula σ zero t = none
read_formula σ (suc fuel) t = or_else (read_one_of (units σ) t) (read_other σ (read_formula σ fuel) t)

-- What can follow a formula inside a printed text: there a number ends, and there is no negation sign
pub record Ends (σ : Signs) (rest : List ℕ) : Type 0 where
  pub number_ends : (n : ℕ) → read_digits n rest ≡ (n, rest)
  pub no_negation : after σ.negation rest ≡ none

-- What the reader needs of the signs
pub record Readable (σ : Signs) : Type 0 where
  pub reads_one : (t : List ℕ) → read_one_of (units σ) (49 ∷ t) ≡ some (One, t)
  pub reads_zero : (t : List ℕ) → read_one_of (units σ) (48 ∷ t) ≡ some (Zero, t)
  pub reads_bottom : (t : List ℕ) → read_one_of (units σ) (σ.bottom ++ t) ≡ some (Bottom, t)
  pub reads_top : (t : List ℕ) → read_one_of (units σ) (σ.top ++ t) ≡ some (Top, t)
  -- no unit is written with these bytes in front: `a` `(` `!` `?`
  pub name_no_unit : (t : List ℕ) → read_one_of (units σ) (97 ∷ t) ≡ none
  pub bracket_no_unit : (t : List ℕ) → read_one_of (units σ) (40 ∷ t) ≡ none
  pub of_course_no_unit : (t : List ℕ) → read_one_of (units σ) (33 ∷ t) ≡ none
  pub why_not_no_unit : (t : List ℕ) → read_one_of (units σ) (63 ∷ t) ≡ none
  pub reads_tensor : (t : List ℕ) → read_one_of (connectives σ) (σ.tensor ++ t) ≡ some (Tensor, t)
  pub reads_par : (t : List ℕ) → read_one_of (connectives σ) (σ.par ++ t) ≡ some (Par, t)
  pub reads_lolli : (t : List ℕ) → read_one_of (connectives σ) (σ.lolli ++ t) ≡ some (Lolli, t)
  pub reads_with : (t : List ℕ) → read_one_of (connectives σ) (σ.with ++ t) ≡ some (With, t)
  pub reads_plus : (t : List ℕ) → read_one_of (connectives σ) (σ.plus ++ t) ≡ some (Plus, t)
  pub ends_at_negation : (n : ℕ) (t : List ℕ) → read_digits n (σ.negation ++ t) ≡ (n, σ.negation ++ t)
  pub ends_at_nothing : Ends σ []
  pub ends_at_space : (t : List ℕ) → Ends σ (32 ∷ t)
  pub ends_at_bracket : (t : List ℕ) → Ends σ (41 ∷ t)
