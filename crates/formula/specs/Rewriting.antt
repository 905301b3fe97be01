-- What becomes of a formula's bytes: each tag is turned, each name stays, and every byte keeps its place. Assumes nothing.
use Rattle.std.specs.Prelude.{◌≡◌, true, false, List, [], ◌∷◌, ℕ, ◌+◌, ◌≤◌, eqb, length, get_or}
use Rattle.std.proofs.lemmas.List.Edits.{sets}
use Rattle.logic.specs.Formula.{Formula, negate, desugar, desugar_negation, size}
use Rattle.wire.specs.Write.{write_formula}
use Rattle.formula.specs.Signs.{Stands}
use Rattle.formula.specs.declared.rewrite.How.{How}
use Rattle.formula.specs.declared.rewrite.How.TheVariants.{Copy, Negate, Spell, SpellNegated}

abbrev pub rewritten : How → Formula → Formula
rewritten Copy f = f
rewritten Negate f = negate f
rewritten Spell f = desugar f
rewritten SpellNegated f = desugar_negation f

-- by tag: the negation's tag; the tag with an implication spelled out
abbrev pub duals : List ℕ
duals = 1 ∷ 0 ∷ 3 ∷ 2 ∷ 5 ∷ 4 ∷ 7 ∷ 6 ∷ 9 ∷ 8 ∷ 6 ∷ 12 ∷ 11 ∷ []

abbrev pub spelled : List ℕ
spelled = 0 ∷ 1 ∷ 2 ∷ 3 ∷ 4 ∷ 5 ∷ 6 ∷ 7 ∷ 8 ∷ 9 ∷ 7 ∷ 11 ∷ 12 ∷ []

unfoldable pub turned_of : ℕ → How → ℕ
turned_of t Copy = t
turned_of t Negate = get_or duals t 0
turned_of t Spell = get_or spelled t 0
turned_of t SpellNegated = get_or duals t 0

-- how the left part of an implication is rewritten
unfoldable pub other_way : How → How
other_way Copy = Copy
other_way Negate = Copy
other_way Spell = SpellNegated
other_way SpellNegated = Spell

unfoldable pub left_of : ℕ → How → How
left_of t how = elim (eqb t 10) [ true ↦ other_way how | false ↦ how ]

-- a formula stands there, and there is as much room for it
pub record Ready (s : List ℕ) (at : ℕ) (out : List ℕ) : Type 0 where
  pub formula : Formula
  pub stands : Stands s at formula
  pub room : length s ≤ length out

-- it is rewritten into the same place
pub record Rewritten (s : List ℕ) (at : ℕ) (how : How) (out : List ℕ) (next : ℕ) (last : List ℕ) : Type 0 where
  pub after : (f : Formula) → Stands s at f → next ≡ at + size f
  pub bytes : (f : Formula) → Stands s at f → last ≡ sets out at (write_formula (rewritten how f))
