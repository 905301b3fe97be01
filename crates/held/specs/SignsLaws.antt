-- Laws of `node`: its height and size by the kind of tag, and that it depends on its parts alone; and what is entered, by the tag. Assumes nothing.
use Rattle.std.specs.Prelude.{◌≡◌, List, ℕ, suc, ◌+◌, ◌≤◌, ◌<◌, max, get_or}
use Rattle.std.proofs.Math.Path.{refl}
use Rattle.std.proofs.Common.{ap}
use Rattle.logic.specs.Formula.{Formula, One, OfCourse, WhyNot, height, size}
use Rattle.logic.specs.Parts.{signs, make}
use Rattle.logic.proofs.PartsLaws.{leaf_tags, binary_tags, unary_tags, height_leaf, height_binary, height_unary, size_unit as unit_size, size_name as name_size, size_binary, size_unary, make_leaf}
use Rattle.logic.specs.Held.{add, enter}
use Rattle.held.specs.Signs.{node}

pub node_make : (t a b : ℕ) (fs : List Formula) → node t a b fs ≡ make t a (get_or fs a One) (get_or fs b One)
unfolding node
node_make t a b fs = refl

module _ (a b : ℕ) (fs : List Formula) where
  pub height_low : (t : ℕ) → t < 6 → height (node t a b fs) ≡ 1
  unfolding node
  height_low = height_leaf a (get_or fs a One) (get_or fs b One)

  pub height_mid : (t : ℕ) → 6 ≤ t → t < 11 → height (node t a b fs) ≡ suc (max (height (get_or fs a One)) (height (get_or fs b One)))
  unfolding node
  height_mid = height_binary a (get_or fs a One) (get_or fs b One)

  pub height_high : (t : ℕ) → 11 ≤ t → t < 13 → height (node t a b fs) ≡ suc (height (get_or fs a One))
  unfolding node
  height_high = height_unary a (get_or fs a One) (get_or fs b One)

  pub size_unit : (t : ℕ) → t < 4 → size (node t a b fs) ≡ 1
  unfolding node
  size_unit = unit_size a (get_or fs a One) (get_or fs b One)

  pub size_name : (t : ℕ) → 4 ≤ t → t < 6 → size (node t a b fs) ≡ 3
  unfolding node
  size_name = name_size a (get_or fs a One) (get_or fs b One)

  pub size_mid : (t : ℕ) → 6 ≤ t → t < 11 → size (node t a b fs) ≡ suc (size (get_or fs a One) + size (get_or fs b One))
  unfolding node
  size_mid = size_binary a (get_or fs a One) (get_or fs b One)

  pub size_high : (t : ℕ) → 11 ≤ t → t < 13 → size (node t a b fs) ≡ suc (size (get_or fs a One))
  unfolding node
  size_high = size_unary a (get_or fs a One) (get_or fs b One)

-- a formula depends on its parts alone
pub node_low : (a b b' : ℕ) (fs gs : List Formula) (t : ℕ) → t < 6 → node t a b fs ≡ node t a b' gs
unfolding node
node_low a b b' fs gs = make_leaf a (get_or fs a One) (get_or fs b One) (get_or gs a One) (get_or gs b' One)

pub node_high : (a b : ℕ) (fs gs : List Formula) (t : ℕ) → 11 ≤ t → t < 13 → get_or fs a One ≡ get_or gs a One → node t a b fs ≡ node t a b gs
unfolding node make signs
node_high a b fs gs t k l e = unary_tags (λ t. node t a b fs ≡ node t a b gs) (ap OfCourse e) (ap WhyNot e) t k l

pub node_mid : (a b : ℕ) (fs gs : List Formula) (t : ℕ) → get_or fs a One ≡ get_or gs a One → get_or fs b One ≡ get_or gs b One → node t a b fs ≡ node t a b gs
unfolding node
node_mid a b fs gs t e f = rw (e, f)

-- what is entered, by the tag
module _ (n : ℕ) (x y : Formula) (fs : List Formula) where
  pub enter_low : (t : ℕ) → t < 6 → enter (make t n x y) fs ≡ add (make t n x y) fs
  unfolding enter make signs
  enter_low = leaf_tags (λ t. enter (make t n x y) fs ≡ add (make t n x y) fs) refl refl refl refl refl refl

  pub enter_mid : (t : ℕ) → 6 ≤ t → t < 11 → enter (make t n x y) fs ≡ add (make t n x y) (enter y (enter x fs))
  unfolding enter make signs
  enter_mid = binary_tags (λ t. enter (make t n x y) fs ≡ add (make t n x y) (enter y (enter x fs))) refl refl refl refl refl

  pub enter_high : (t : ℕ) → 11 ≤ t → t < 13 → enter (make t n x y) fs ≡ add (make t n x y) (enter x fs)
  unfolding enter make signs
  enter_high = unary_tags (λ t. enter (make t n x y) fs ≡ add (make t n x y) (enter x fs)) refl refl
