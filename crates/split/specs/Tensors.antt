-- A tensor's step that has two given premises, and how far the search for its place has come. Assumes nothing: these are definitions.
use Rattle.std.specs.Prelude.{◌≡◌, Bool, false, List, [], ◌∷◌, ◌++◌, map, ℕ, ◌≤◌, ◌<◌, ◌^◌, length}
use Rattle.logic.specs.Formula.{Formula, spell}
use Rattle.logic.specs.Parts.{tag_of, left_part, right_part}
use Rattle.logic.specs.Sequent.{Sequent, ◌﹔◌}
use Rattle.logic.specs.Split.{left_of, right_of}
use Rattle.logic.specs.Built.{decomposable}
use Rattle.logic.specs.Tree.{TensorIntro}
use Rattle.wire.specs.Write.{write_formula}
use Rattle.tree.specs.Stands.{Stands}
use Rattle.tree.specs.Places.{Holds}
use Rattle.tree.specs.declared.Node.{Node}
use Rattle.held.specs.Words.{told}
use Rattle.zones.specs.declared.Zones.{Zones}
use Rattle.zones.specs.Zones.{remove}
use Rattle.short.specs.Steps.{formula_at}
use Rattle.short.specs.Shortening.{fits}
use Rattle.step.specs.Taking.{sequent}

-- every formula of the list is such
pub data Each (P : Formula → Type 0) : List Formula → Type 0 where
  each_none : Each P []
  each_more : (f : Formula) {fs : List Formula} → P f → Each P fs → Each P (f ∷ fs)

abbrev pub Passes : Formula → Type 0
Passes f = decomposable f ≡ false

-- the formula at place i is a tensor, and the premises of its split by the mask conclude d and e
pub record TensorFits (q d e : Sequent) (i mask : ℕ) : Type 0 where
  pub tensor : tag_of (formula_at q i) ≡ 6
  pub spare : mask < 2 ^ length (remove i q.linear)
  pub left_linear : d.linear ≡ left_of mask (remove i q.linear) ++ (spell (left_part (formula_at q i)) ∷ [])
  pub left_unrestricted : d.unrestricted ≡ q.unrestricted
  pub right_linear : e.linear ≡ right_of mask (remove i q.linear) ++ (spell (right_part (formula_at q i)) ∷ [])
  pub right_unrestricted : e.unrestricted ≡ q.unrestricted

-- the premises with these numbers and one more formula each
abbrev pub two_premises : List ℕ → Zones → (l r : List ℕ) → Formula → Formula → List Sequent
two_premises m z l r g h =
    (map (told m) l ++ (g ∷ []) ﹔ (sequent m z).unrestricted) ∷ (map (told m) r ++ (h ∷ []) ﹔ (sequent m z).unrestricted) ∷ []

-- the tensor's step at place i with this mask fits them
abbrev pub fits_two : List ℕ → Zones → (l r : List ℕ) → Formula → Formula → (i mask : ℕ) → Bool
fits_two m z l r g h i mask = fits TensorIntro (sequent m z) (two_premises m z l r g h) i mask

-- at no place before i a mask fits
pub record Tried (m : List ℕ) (z : Zones) (s : List ℕ) (left right : ℕ) (l r : List ℕ) (i : ℕ) : Type 0 where
  pub high : i ≤ z.linear_len
  pub none : (g h : Formula) → Stands s left (write_formula g) → Stands s right (write_formula h) → (j mask : ℕ) → j < i
      → fits_two m z l r g h j mask ≡ false

-- what two trees at a place conclude, by their nodes: their zones stand in the message
pub record TwoPremises (s : List ℕ) (first second : Node) (ds : List Sequent) : Type 0 where
  pub one : Sequent
  pub two : Sequent
  pub are : ds ≡ one ∷ two ∷ []
  pub one_linear : Holds s first.linear one.linear
  pub one_unrestricted : Holds s first.unrestricted one.unrestricted
  pub one_few : length one.linear ≤ 31
  pub two_linear : Holds s second.linear two.linear
  pub two_unrestricted : Holds s second.unrestricted two.unrestricted
  pub two_few : length two.linear ≤ 31
