-- What finding the least place and mask of a tensor asks and answers. Any bytes may stand in the message; a contract speaks of the formulas and trees that stand at
-- the places. Assumes nothing: these are definitions.
use Rattle.std.specs.Prelude.{◌≡◌, Bool, true, ◌&&◌, List, [], ◌∷◌, ◌++◌, map, ℕ, ◌≤◌, ◌<◌, eqb, get_or, length, take, None, Option, Some}
use Rattle.logic.specs.Formula.{Formula, One, same, spell}
use Rattle.logic.specs.Parts.{tag_of, left_part, right_part}
use Rattle.logic.specs.Sequent.{Sequent, ◌﹔◌}
use Rattle.logic.specs.Tree.{Rule, TensorIntro, Trees, conclusions, premise_count}
use Rattle.wire.specs.Write.{write_formula, write_nodes}
use Rattle.wire.specs.Fits.{NodesFit*}
use Rattle.tree.specs.Stands.{Stands}
use Rattle.tree.specs.Places.{rule_number, Holds, Within}
use Rattle.tree.specs.declared.Span.{Span}
use Rattle.held.specs.Words.{count, told}
use Rattle.zones.specs.declared.Zones.{Zones}
use Rattle.zones.specs.Zones.{Below}
use Rattle.expand.specs.Writing.{Sound}
use Rattle.short.specs.Short.{follow}
use Rattle.short.specs.Steps.{formula_at, all_passed}
use Rattle.short.specs.Making.{Result, made, mismatch}
use Rattle.short.specs.Shortening.{least}
use Rattle.step.specs.Taking.{sequent, Taken}
use Rattle.split.specs.declared.Labels.{Labels}

-- the linear formula number x stands at the place; or none of the linear formulas does
pub record LabelOf (m : List ℕ) (z : Zones) (s : List ℕ) (at x : ℕ) : Type 0 where
  pub low : x < count m
  pub is : (f : Formula) → Stands s at (write_formula f) → told m x ≡ f

pub record LabelNone (m : List ℕ) (z : Zones) (s : List ℕ) (at : ℕ) : Type 0 where
  pub is : (f : Formula) → Stands s at (write_formula f) → (k : ℕ) → k < z.linear_len → told m (get_or z.linear k 0) ≡ f → ⊥

abbrev pub Labelled : List ℕ → Zones → List ℕ → ℕ → Option ℕ → Type 0
Labelled m z s at (Some x) = LabelOf m z s at x
Labelled m z s at None = LabelNone m z s at

-- none of the first k linear formulas stands there: the loop's invariant
abbrev pub Unlike : List ℕ → Zones → List ℕ → ℕ → ℕ → Type 0
Unlike m z s at k = (f : Formula) → Stands s at (write_formula f) → (j : ℕ) → j < k → told m (get_or z.linear j 0) ≡ f → ⊥

pub record Labelling (m : List ℕ) (z : Zones) (s : List ℕ) (zone : Span) (numbers : List ℕ) : Type 0 where
  pub sound : Sound m z
  pub within : Within (length s) zone
  pub sized : length numbers ≡ 31

-- f is a linear formula of the sequent
pub record Linear (m : List ℕ) (z : Zones) (f : Formula) : Type 0 where
  pub place : ℕ
  pub low : place < z.linear_len
  pub here : told m (get_or z.linear place 0) ≡ f

-- all formulas of the list are
pub record Linears (m : List ℕ) (z : Zones) (fs : List Formula) : Type 0 where
  pub each : (k : ℕ) → k < length fs → Linear m z (get_or fs k One)

-- the zone's formulas are the first so many numbers' and one more, which stands at `last`
pub record ListedAs (m : List ℕ) (s : List ℕ) (n last : ℕ) (numbers : List ℕ) (fs : List Formula) : Type 0 where
  pub final : Formula
  pub all : fs ≡ map (told m) (take n numbers) ++ (final ∷ [])
  pub there : Stands s last (write_formula final)

pub record LabelsListed (m : List ℕ) (z : Zones) (s : List ℕ) (zone : Span) (n last : ℕ) (numbers : List ℕ) : Type 0 where
  pub sized : length numbers ≡ 31
  pub few : n ≤ 31
  pub below : Below (count m) (take n numbers)
  pub inside : last ≤ length s
  pub is : (fs : List Formula) → Holds s zone fs → ListedAs m s n last numbers fs

-- the formulas before place p are the first n numbers', and the others stand from there on: the loop's invariant. No number is listed where p is at the end
pub record Remaining (m : List ℕ) (s : List ℕ) (end n p : ℕ) (numbers : List ℕ) (fs : List Formula) : Type 0 where
  pub rest : List Formula
  pub all : fs ≡ map (told m) (take n numbers) ++ rest
  pub holds : Holds s (record { start = p; end = end }) rest

pub record Listing (m : List ℕ) (s : List ℕ) (start end n p : ℕ) (numbers : List ℕ) : Type 0 where
  pub sized : length numbers ≡ 31
  pub few : n ≤ 31
  pub below : Below (count m) (take n numbers)
  pub within : p ≤ end
  pub unread : end ≤ p → n ≡ 0
  pub left : (fs : List Formula) → Holds s (record { start = start; end = end }) fs → Remaining m s end n p numbers fs

-- no zone of at most 31 formulas that stands there is some linear formulas and one more
pub record LabelsNone (m : List ℕ) (z : Zones) (s : List ℕ) (zone : Span) : Type 0 where
  pub is : (fs : List Formula) → Holds s zone fs → length fs ≤ 31 → (front : List Formula) (final : Formula) → fs ≡ front ++ (final ∷ []) → Linears m z front → ⊥

abbrev pub LabelledTo : List ℕ → Zones → List ℕ → Span → Option Labels → List ℕ → Type 0
LabelledTo m z s zone (Some x) numbers = LabelsListed m z s zone x.count x.last numbers
LabelledTo m z s zone None numbers = LabelsNone m z s zone

pub record TensorAt (m : List ℕ) (z : Zones) (i : ℕ) (s : List ℕ) (left right : ℕ) : Type 0 where
  pub sound : Sound m z
  pub low : i < z.linear_len
  pub left_inside : left ≤ length s
  pub right_inside : right ≤ length s

-- the formula at place i is a tensor whose parts, spelled out at their tops, are g and h
abbrev pub is_tensor_of : Sequent → ℕ → Formula → Formula → Bool
is_tensor_of q i g h = eqb (tag_of (formula_at q i)) 6 && (same g (spell (left_part (formula_at q i))) && same h (spell (right_part (formula_at q i))))

pub record TensorOf (m : List ℕ) (z : Zones) (i : ℕ) (s : List ℕ) (left right : ℕ) (r : Bool) : Type 0 where
  pub is : (g h : Formula) → Stands s left (write_formula g) → Stands s right (write_formula h) → r ≡ is_tensor_of (sequent m z) i g h
  pub tensor : r ≡ true → tag_of (formula_at (sequent m z) i) ≡ 6

-- no formula is decomposable; the lists are of numbers of held formulas
pub record Splitting (m : List ℕ) (z : Zones) (s : List ℕ) (left right : ℕ) (l r : List ℕ) : Type 0 where
  pub sound : Sound m z
  pub passed : all_passed (sequent m z).linear ≡ true
  pub left_inside : left ≤ length s
  pub right_inside : right ≤ length s
  pub left_below : Below (count m) l
  pub right_below : Below (count m) r

-- what is found, as the definition answers
abbrev pub least_of : Option (ℕ × ℕ) → Result (ℕ × ℕ)
least_of (Some x) = made x
least_of None = mismatch

-- what is found can be taken
abbrev pub TakenAt : List ℕ → Zones → ℕ → Option (ℕ × ℕ) → Type 0
TakenAt m z rule (Some x) = Taken m z rule x.0 x.1
TakenAt m z rule None = Unit {0}

pub record SplitTo (m : List ℕ) (z : Zones) (s : List ℕ) (left right : ℕ) (l r : List ℕ) (x : Option (ℕ × ℕ)) : Type 0 where
  pub taken : TakenAt m z 4 x
  pub is : (g h : Formula) → Stands s left (write_formula g) → Stands s right (write_formula h) → (fs : List Formula)
      → least
      TensorIntro
      (sequent m z)
      ((map (told m) l ++ (g ∷ []) ﹔ (sequent m z).unrestricted) ∷ (map (told m) r ++ (h ∷ []) ﹔ (sequent m z).unrestricted) ∷ [])
      fs
      ≡ (least_of x, fs)

-- the least step of the rule with that number from the premises that stand at the place
pub record LeastStep (m : List ℕ) (z : Zones) (rule : ℕ) (s : List ℕ) (at : ℕ) (x : Option (ℕ × ℕ)) : Type 0 where
  pub taken : TakenAt m z rule x
  pub is : (r : Rule) (ps : Trees) (fs : List Formula) → rule ≡ rule_number r → Stands s at (write_nodes ps) → NodesFit* ps → premise_count ps ≡ follow r
      → least r (sequent m z) (conclusions ps) fs ≡ (least_of x, fs)
