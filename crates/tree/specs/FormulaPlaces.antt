-- What stands where a formula stands: its tag first, a name behind the tag of a name; and the first formula of a span. Assumes nothing.
use Rattle.std.specs.Prelude.{◌≡◌, ℕ, ◌+◌, ◌*◌, ◌/◌, ◌%◌, ◌≤◌, ◌<◌, get_or}
use Rattle.std.proofs.Math.Path.{refl, ap, subst}
use Rattle.std.proofs.Common.{sym, ◌∙◌, arith}
use mathlib.Core.List.{List, [], ◌∷◌}
use Rattle.std.proofs.Math.ListN.{length, length-append}
use Rattle.logic.specs.Formula.{Formula, One, Bottom, Top, Zero, Atom, NegAtom, Tensor, Par, With, Plus, Lolli, OfCourse, WhyNot, size}
use Rattle.logic.proofs.FormulaLaws.{size_positive}
use Rattle.logic.specs.Parts.{tag_of}
use Rattle.wire.specs.Write.{two_bytes, write_formula, write_formulas}
use Rattle.wire.proofs.FormulaBytes.{length_write}
use Rattle.tree.specs.Stands.{Stands}
use Rattle.tree.specs.StandsLaws.{stands_left, stands_right, stands_head, stands_tail}
use Rattle.tree.specs.Places.{FormulaAt, Holds}
use Rattle.tree.specs.declared.Span.{Span}

module _ {s : List ℕ} {at : ℕ} where
  pub tag_stands : (f : Formula) → Stands s at (write_formula f) → get_or s at 0 ≡ tag_of f
  unfolding write_formula tag_of
  tag_stands One h = stands_head h
  tag_stands Bottom h = stands_head h
  tag_stands Top h = stands_head h
  tag_stands Zero h = stands_head h
  tag_stands (Atom a) h = stands_head h
  tag_stands (NegAtom a) h = stands_head h
  tag_stands (Tensor a b) h = stands_head h
  tag_stands (Par a b) h = stands_head h
  tag_stands (With a b) h = stands_head h
  tag_stands (Plus a b) h = stands_head h
  tag_stands (Lolli a b) h = stands_head h
  tag_stands (OfCourse a) h = stands_head h
  tag_stands (WhyNot a) h = stands_head h

  pub tag_at : (f : Formula) → FormulaAt s at f → get_or s at 0 ≡ tag_of f
  tag_at f h = tag_stands f h.stands

  pub formula_inside : (f : Formula) → FormulaAt s at f → at + size f ≤ length s
  formula_inside f h = omega (arith, h.stands.inside, length_write f)

  -- the two bytes behind a name's tag
  two_behind : {t : ℕ} (a : ℕ) → Stands s at (t ∷ two_bytes a) → get_or s (at + 1) 0 * 256 + get_or s (at + 1 + 1) 0 ≡ a
  two_behind a h =
      let high : get_or s (at + 1) 0 ≡ a / 256 = stands_head (stands_tail h) in
      let low : get_or s (at + 1 + 1) 0 ≡ a % 256 = stands_head (stands_tail (stands_tail h)) in
      omega (arith, high, low)

  pub atom_name : (a : ℕ) → FormulaAt s at (Atom a) → get_or s (at + 1) 0 * 256 + get_or s (at + 1 + 1) 0 ≡ a
  unfolding write_formula
  atom_name a h = two_behind a h.stands

  pub neg_atom_name : (a : ℕ) → FormulaAt s at (NegAtom a) → get_or s (at + 1) 0 * 256 + get_or s (at + 1 + 1) 0 ≡ a
  unfolding write_formula
  neg_atom_name a h = two_behind a h.stands

-- the formulas of a span: the first, and the others behind it
pub record First (s : List ℕ) (z : Span) (fs : List Formula) : Type 0 where
  pub formula : Formula
  pub others : List Formula
  pub joined : fs ≡ formula ∷ others
  pub there : FormulaAt s z.start formula
  pub within : z.start + size formula ≤ z.end
  pub holds : (next : ℕ) → next ≡ z.start + size formula → Holds s (record { start = next; end = z.end }) others

module _ {s : List ℕ} {z : Span} where
  pub holds_first : (fs : List Formula) → Holds s z fs → z.start < z.end → First s z fs
  unfolding write_formulas
  holds_first [] h k = absurd (omega (arith, h.ends))
  holds_first (f ∷ fs) h k =
      let n : length (write_formulas (f ∷ fs)) ≡ size f + length (write_formulas fs) = length-append (write_formula f) (write_formulas fs) ∙ ap (λ (k : ℕ). k + length (write_formulas fs)) (length_write f) in
      record {
        formula = f;
        others = fs;
        joined = refl;
        there = record { stands = stands_left (write_formula f) (write_formulas fs) h.stands; fits = h.fit.0 };
        within = omega (arith, h.ends);
        holds = λ next e.
            record {
              stands = subst (λ (p : ℕ). Stands s p (write_formulas fs)) (sym (e ∙ ap (◌+◌ z.start) (sym (length_write f)))) (stands_right (write_formula f) (write_formulas fs) h.stands);
              ends = omega (arith, h.ends);
              fit = h.fit.1;
            };
      }

  pub holds_none : (fs : List Formula) → Holds s z fs → z.end ≤ z.start → fs ≡ []
  unfolding write_formulas
  holds_none [] h k = refl
  holds_none (f ∷ fs) h k =
      absurd (omega (arith, h.ends, length-append (write_formula f) (write_formulas fs), length_write f, size_positive f))

  pub holds_inside : (fs : List Formula) → Holds s z fs → z.end ≤ length s
  holds_inside fs h = omega (arith, h.ends, h.stands.inside)
