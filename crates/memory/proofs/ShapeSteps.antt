-- Steps of reading a held formula's shape and of spelling out an implication. Assumes nothing.
use mathlib.Core.Path.{◌≡◌, refl, sym, ap, ◌∙◌}
use mathlib.Core.List.{List, ◌++◌}
use Prim.Native.Nat.{ℕ, zero, suc, ◌+◌, ◌*◌, ◌≤◌, ◌<◌}
use native.Mathlib.Omega.{arith}
use lib.ListN.{get_or, length, take-append-drop}
use lib.Seq.{get_or-take}
use Rattle.logic.specs.Formula as formula
use Rattle.logic.specs.Parts.{signs, make, tag_of}
use Rattle.logic.specs.Formula.{Formula, spell}
use Rattle.held.specs.Turn as turn
use Rattle.held.specs.Words as formulas
use Rattle.held.specs.WordsLaws.{held_node, held_length, row_low, tag_node}
use Rattle.held.proofs.RowSteps.{row_left, row_right}
use Rattle.held.proofs.TurnSteps.{RowOf, row_of}
use Rattle.failures.specs.FailedLaws.{failed_grows}
use Rattle.failures.specs.RecordsLaws.{failures_grow}
use Rattle.memory.specs.Meaning.{formula_words, failure_words, holds, held_count, told, failed, Wf}
use Rattle.memory.specs.MeaningLaws.{extends_grew}
use Rattle.memory.specs.PartsLaws.{front_changed}
use Rattle.memory.specs.Shapes.{OfTwo, OfOne, Implication, Spelled, NoRoom}
use Rattle.memory.proofs.WholeSteps.{parts_wf, parts_holds, parts_failed}

-- the words of formula x are there
pub row_reads : (m : List ℕ) (x k : ℕ) → Wf m → x < held_count m → k < 5 → 1 + 5 * x + k < 12289
unfolding held_count
row_reads m x k z l u = omega (arith, z.formulas.few)

-- formula x by its words
read_word : (m : List ℕ) (x k n : ℕ) → Wf m → x < held_count m → k < 5 → n ≡ 1 + 5 * x + k → get_or m n 0 ≡ formulas.at (formula_words m) x k
read_word m x k n z l u e = rw e (sym (get_or-take 12289 m (1 + 5 * x + k) 0 (row_reads m x k z l u)))

pub read_row : (m : List ℕ) (x : ℕ) → Wf m → x < held_count m → RowOf (formula_words m) x (get_or m (1 + 5 * x) 0) (get_or m (1 + 5 * x + 1) 0) (get_or m (1 + 5 * x + 2) 0)
unfolding held_count
read_row m x z l =
    row_of (formula_words m) x _ _ _ z.formulas l (read_word m x 0 _ z l (omega arith) (omega arith)) (read_word m x 1 _ z l (omega arith) (omega arith)) (read_word m x 2 _ z l (omega arith) (omega arith))

-- a tag that is none of the first k
abbrev NoneOf : ℕ → ℕ → Type 0
NoneOf zero t = Unit {0}
NoneOf (suc k) t = NoneOf k t × (t ≡ k → ⊥)

pub none_of : (k t : ℕ) → NoneOf k t → k ≤ t
none_of zero t h = omega arith
none_of (suc k) t h = omega (arith, none_of k t h.0, h.1)

-- the shape of each tag
module _ (m : List ℕ) {x t a b : ℕ} (z : RowOf (formula_words m) x t a b) where
  made : (k : ℕ) → t ≡ k → told m x ≡ make k a (told m a) (told m b)
  unfolding told
  made k e = z.here ∙ ap (λ t. make t a (told m a) (told m b)) e

  left_held : 6 ≤ t → a < held_count m
  unfolding held_count
  left_held k = omega (arith, row_left z.row k, z.low)

  right_held : 6 ≤ t → t < 11 → b < held_count m
  unfolding held_count
  right_held k h = omega (arith, row_right z.row k h, z.low)

  of_two : (sign : Formula → Formula → Formula) (k : ℕ) → t ≡ k → 6 ≤ k → k < 11 → make k a (told m a) (told m b) ≡ sign (told m a) (told m b) → OfTwo m x sign a b
  of_two sign k e u v same = record { here = made k e ∙ same; left = left_held (omega arith); right = right_held (omega arith) (omega arith) }

  of_one : (sign : Formula → Formula) (k : ℕ) → t ≡ k → 6 ≤ k → make k a (told m a) (told m b) ≡ sign (told m a) → OfOne m x sign a
  of_one sign k e u same = record { here = made k e ∙ same; part = left_held (omega arith) }

  pub shape_one : t ≡ 0 → told m x ≡ formula.One
  unfolding make signs
  shape_one = made 0

  pub shape_bottom : t ≡ 1 → told m x ≡ formula.Bottom
  unfolding make signs
  shape_bottom = made 1

  pub shape_top : t ≡ 2 → told m x ≡ formula.Top
  unfolding make signs
  shape_top = made 2

  pub shape_zero : t ≡ 3 → told m x ≡ formula.Zero
  unfolding make signs
  shape_zero = made 3

  pub shape_atom : t ≡ 4 → told m x ≡ formula.Atom a
  unfolding make signs
  shape_atom = made 4

  pub shape_neg_atom : t ≡ 5 → told m x ≡ formula.NegAtom a
  unfolding make signs
  shape_neg_atom = made 5

  pub shape_tensor : t ≡ 6 → OfTwo m x formula.Tensor a b
  unfolding make signs
  shape_tensor e = of_two formula.Tensor 6 e (omega arith) (omega arith) refl

  pub shape_par : t ≡ 7 → OfTwo m x formula.Par a b
  unfolding make signs
  shape_par e = of_two formula.Par 7 e (omega arith) (omega arith) refl

  pub shape_with : t ≡ 8 → OfTwo m x formula.With a b
  unfolding make signs
  shape_with e = of_two formula.With 8 e (omega arith) (omega arith) refl

  pub shape_plus : t ≡ 9 → OfTwo m x formula.Plus a b
  unfolding make signs
  shape_plus e = of_two formula.Plus 9 e (omega arith) (omega arith) refl

  pub shape_lolli : t ≡ 10 → OfTwo m x formula.Lolli a b
  unfolding make signs
  shape_lolli e = of_two formula.Lolli 10 e (omega arith) (omega arith) refl

  pub shape_of_course : t ≡ 11 → OfOne m x formula.OfCourse a
  unfolding make signs
  shape_of_course e = of_one formula.OfCourse 11 e (omega arith) refl

  pub shape_why_not : 12 ≤ t → OfOne m x formula.WhyNot a
  unfolding make signs
  shape_why_not l = of_one formula.WhyNot 12 (omega (arith, row_low z.row)) (omega arith) refl

-- an implication by its words
pub implication_held : (m : List ℕ) (x : ℕ) → Implication m x → turn.Implication (formula_words m) x
unfolding told held_count tag_of
implication_held m x z =
    let f = formula_words m in
    let w = z.wf.formulas in
    let row = w.formulas.rows x z.low in
    record {
      wf = w;
      low = z.low;
      lolli = sym (tag_node _ _ _ _ (row_low row)) ∙ ap tag_of (sym (held_node f (formulas.count f) w.formulas x z.low) ∙ z.here);
    }

-- an implication spelled out: the formulas are entered, and the failures stay as they are
pub spelled : (m : List ℕ) (x i : ℕ) (w : List ℕ) → Wf m → turn.Entered (formula_words m) (spell (formulas.told (formula_words m) x)) i w → Spelled m (spell (told m x)) i (w ++ failure_words m)
unfolding holds held_count told failed
spelled m x i w z e =
    let p = front_changed 12289 m w e.wf.sized in
    record {
      wf = parts_wf p e.wf (failures_grow e.grew z.failures);
      grew = extends_grew m (w ++ failure_words m) (rw p.front e.grew);
      all = parts_holds p ∙ e.all;
      room = omega (arith, ap length e.all, held_length w (formulas.count w), e.wf.few);
      failures = parts_failed p ∙ failed_grows e.grew z.failures;
      low = rw p.front e.low;
      here = rw p.front e.here;
    }

pub not_spelled : (m : List ℕ) (x : ℕ) (w : List ℕ) → turn.Refused (formula_words m) (spell (formulas.told (formula_words m) x)) w → NoRoom m (spell (told m x)) (w ++ failure_words m)
unfolding holds told
not_spelled m x w e = record { same = rw e.same (take-append-drop 12289 m); full = e.over }

-- a number of a held formula fits a word
pub number_fits : {m : List ℕ} {f : Formula} {i : ℕ} {w : List ℕ} → turn.Entered m f i w → i < 65536
number_fits e = omega (arith, e.low, e.wf.few)
