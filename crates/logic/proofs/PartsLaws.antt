-- Laws of `Parts`: what each kind of tag makes of a name and two formulas; a formula is what its tag makes of its name and parts, so a test for a sign is a test of the tag. Assumes nothing.
use Rattle.std.specs.Prelude.{◌≡◌, Bool, true, false, eqb, leb}
use Rattle.std.proofs.Math.Path.{refl}
use Rattle.std.proofs.Common.{ap, ◌∙◌, arith, below_none, below_more, eqb-true, leb-true, leb-false}
use Prim.Native.Nat.{ℕ, suc, ◌+◌, ◌≤◌, ◌<◌, max}
use Rattle.std.proofs.lemmas.Bool.{eqb-false}
use Rattle.logic.specs.Formula.{Formula, One, Bottom, Top, Zero, Atom, NegAtom, Tensor, Par, With, Plus, Lolli, OfCourse, WhyNot, same, negate, height, size}
use Rattle.logic.proofs.FormulaLaws.{same_iff, different_same}
use Rattle.logic.specs.Parts.{tag_of, name_of, left_part, right_part, signs, make, signed, negated_tag}

-- ---- what holds of each tag of a kind: units, names, the two together, signs over two parts, signs over one part

pub unit_tags : (P : ℕ → Type 0) → P 0 → P 1 → P 2 → P 3 → (t : ℕ) → t < 4 → P t
unit_tags P p₀ p₁ p₂ p₃ = below_more P 3 (below_more P 2 (below_more P 1 (below_more P 0 (below_none P) p₀) p₁) p₂) p₃

pub name_tags : (P : ℕ → Type 0) → P 4 → P 5 → (t : ℕ) → 4 ≤ t → t < 6 → P t
name_tags P p₄ p₅ t k l =
    below_more (λ t. 4 ≤ t → P t) 5 (below_more (λ t. 4 ≤ t → P t) 4 (λ t l k. absurd (omega arith)) (λ k. p₄)) (λ k. p₅) t l k

abbrev pub leaf_tags : (P : ℕ → Type 0) → P 0 → P 1 → P 2 → P 3 → P 4 → P 5 → (t : ℕ) → t < 6 → P t
leaf_tags P p₀ p₁ p₂ p₃ p₄ p₅ = below_more P 5 (below_more P 4 (below_more P 3 (below_more P 2 (below_more P 1 (below_more P 0 (below_none P) p₀) p₁) p₂) p₃) p₄) p₅

abbrev pub binary_tags : (P : ℕ → Type 0) → P 6 → P 7 → P 8 → P 9 → P 10 → (t : ℕ) → 6 ≤ t → t < 11 → P t
binary_tags P p₆ p₇ p₈ p₉ p₁₀ t k l =
    below_more (λ t. 6 ≤ t → P t) 10
    (below_more (λ t. 6 ≤ t → P t) 9
    (below_more (λ t. 6 ≤ t → P t) 8
    (below_more (λ t. 6 ≤ t → P t) 7
    (below_more (λ t. 6 ≤ t → P t) 6 (λ t l k. absurd (omega arith)) (λ k. p₆)) (λ k. p₇)) (λ k. p₈)) (λ k. p₉)) (λ k. p₁₀) t l k

abbrev pub unary_tags : (P : ℕ → Type 0) → P 11 → P 12 → (t : ℕ) → 11 ≤ t → t < 13 → P t
unary_tags P p₁₁ p₁₂ t k l =
    below_more (λ t. 11 ≤ t → P t) 12 (below_more (λ t. 11 ≤ t → P t) 11 (λ t l k. absurd (omega arith)) (λ k. p₁₁)) (λ k. p₁₂) t l k

-- and so of each tag
pub all_tags : (P : ℕ → Type 0) → ((t : ℕ) → t < 6 → P t) → ((t : ℕ) → 6 ≤ t → t < 11 → P t) → ((t : ℕ) → 11 ≤ t → t < 13 → P t) → (t : ℕ) → t < 13 → P t
all_tags P leaf two one t h = go (leb 6 t) refl (leb 11 t) refl
  where
    go : (b : Bool) → leb 6 t ≡ b → (c : Bool) → leb 11 t ≡ c → P t
    go false e c e' = leaf t (leb-false 6 t e)
    go true e false e' = two t (leb-true 6 t e) (leb-false 11 t e')
    go true e true e' = one t (leb-true 11 t e') h

-- ---- what a tag makes of a name and two formulas

module _ (n : ℕ) (x y : Formula) where
  pub tag_make : (t : ℕ) → t < 13 → tag_of (make t n x y) ≡ t
  unfolding make signs tag_of
  tag_make =
      all_tags
      (λ t. tag_of (make t n x y) ≡ t)
      (leaf_tags (λ t. tag_of (make t n x y) ≡ t) refl refl refl refl refl refl)
      (binary_tags (λ t. tag_of (make t n x y) ≡ t) refl refl refl refl refl)
      (unary_tags (λ t. tag_of (make t n x y) ≡ t) refl refl)

  pub name_make : (t : ℕ) → 4 ≤ t → t < 6 → name_of (make t n x y) ≡ n
  unfolding make signs name_of
  name_make = name_tags (λ t. name_of (make t n x y) ≡ n) refl refl

  pub left_make : (t : ℕ) → 6 ≤ t → t < 13 → left_part (make t n x y) ≡ x
  unfolding make signs left_part
  left_make t k l =
      all_tags
      (λ t. 6 ≤ t → left_part (make t n x y) ≡ x)
      (λ t l k. absurd (omega arith))
      (λ t k l _. binary_tags (λ t. left_part (make t n x y) ≡ x) refl refl refl refl refl t k l)
      (λ t k l _. unary_tags (λ t. left_part (make t n x y) ≡ x) refl refl t k l)
      t l k

  pub right_make : (t : ℕ) → 6 ≤ t → t < 11 → right_part (make t n x y) ≡ y
  unfolding make signs right_part
  right_make = binary_tags (λ t. right_part (make t n x y) ≡ y) refl refl refl refl refl

  pub height_leaf : (t : ℕ) → t < 6 → height (make t n x y) ≡ 1
  unfolding make signs height
  height_leaf = leaf_tags (λ t. height (make t n x y) ≡ 1) refl refl refl refl refl refl

  pub height_binary : (t : ℕ) → 6 ≤ t → t < 11 → height (make t n x y) ≡ suc (max (height x) (height y))
  unfolding make signs height
  height_binary = binary_tags (λ t. height (make t n x y) ≡ suc (max (height x) (height y))) refl refl refl refl refl

  pub height_unary : (t : ℕ) → 11 ≤ t → t < 13 → height (make t n x y) ≡ suc (height x)
  unfolding make signs height
  height_unary = unary_tags (λ t. height (make t n x y) ≡ suc (height x)) refl refl

  pub size_unit : (t : ℕ) → t < 4 → size (make t n x y) ≡ 1
  unfolding make signs size
  size_unit = unit_tags (λ t. size (make t n x y) ≡ 1) refl refl refl refl

  pub size_name : (t : ℕ) → 4 ≤ t → t < 6 → size (make t n x y) ≡ 3
  unfolding make signs size
  size_name = name_tags (λ t. size (make t n x y) ≡ 3) refl refl

  pub size_binary : (t : ℕ) → 6 ≤ t → t < 11 → size (make t n x y) ≡ suc (size x + size y)
  unfolding make signs size
  size_binary = binary_tags (λ t. size (make t n x y) ≡ suc (size x + size y)) refl refl refl refl refl

  pub size_unary : (t : ℕ) → 11 ≤ t → t < 13 → size (make t n x y) ≡ suc (size x)
  unfolding make signs size
  size_unary = unary_tags (λ t. size (make t n x y) ≡ suc (size x)) refl refl

  -- the negation. What its tag does not take may be anything
  pub negate_leaf : (x' y' : Formula) (t : ℕ) → t < 6 → negate (make t n x y) ≡ make (negated_tag t) n x' y'
  unfolding negate make signs negated_tag
  negate_leaf x' y' = leaf_tags (λ t. negate (make t n x y) ≡ make (negated_tag t) n x' y') refl refl refl refl refl refl

  pub negate_binary : (n' : ℕ) (t : ℕ) → 6 ≤ t → t < 10 → negate (make t n x y) ≡ make (negated_tag t) n' (negate x) (negate y)
  unfolding negate make signs negated_tag
  negate_binary n' t k l =
      binary_tags (λ t. t < 10 → negate (make t n x y) ≡ make (negated_tag t) n' (negate x) (negate y)) (λ l. refl) (λ l. refl) (λ l. refl) (λ l. refl) (λ l. absurd (omega arith)) t k (omega arith) l

  pub negate_make_lolli : (n' : ℕ) → negate (make 10 n x y) ≡ make 6 n' x (negate y)
  unfolding negate make signs
  negate_make_lolli n' = refl

  pub negate_unary : (n' : ℕ) (y' : Formula) (t : ℕ) → 11 ≤ t → t < 13 → negate (make t n x y) ≡ make (negated_tag t) n' (negate x) y'
  unfolding negate make signs negated_tag
  negate_unary n' y' = unary_tags (λ t. negate (make t n x y) ≡ make (negated_tag t) n' (negate x) y') refl refl

-- what a tag does not take does not matter
pub make_leaf : (n : ℕ) (x y x' y' : Formula) (t : ℕ) → t < 6 → make t n x y ≡ make t n x' y'
unfolding make signs
make_leaf n x y x' y' = leaf_tags (λ t. make t n x y ≡ make t n x' y') refl refl refl refl refl refl

pub make_binary : (n n' : ℕ) (x y : Formula) (t : ℕ) → 6 ≤ t → t < 11 → make t n x y ≡ make t n' x y
unfolding make signs
make_binary n n' x y = binary_tags (λ t. make t n x y ≡ make t n' x y) refl refl refl refl refl

pub make_unary : (n n' : ℕ) (x y y' : Formula) (t : ℕ) → 11 ≤ t → t < 13 → make t n x y ≡ make t n' x y'
unfolding make signs
make_unary n n' x y y' = unary_tags (λ t. make t n x y ≡ make t n' x y') refl refl

-- the sign of an implication, and of a par
pub make_lolli : (n : ℕ) (x y : Formula) → make 10 n x y ≡ Lolli x y
unfolding make signs
make_lolli n x y = refl

pub make_par : (n : ℕ) (x y : Formula) → make 7 n x y ≡ Par x y
unfolding make signs
make_par n x y = refl

-- the negation's tag is of the same kind
pub negated_unit : (t : ℕ) → t < 4 → negated_tag t < 4
unfolding negated_tag
negated_unit = unit_tags (λ t. negated_tag t < 4) (omega arith) (omega arith) (omega arith) (omega arith)

pub negated_name : (t : ℕ) → 4 ≤ t → t < 6 → (4 ≤ negated_tag t) × (negated_tag t < 6)
unfolding negated_tag
negated_name = name_tags (λ t. (4 ≤ negated_tag t) × (negated_tag t < 6)) (omega arith) (omega arith)

pub negated_binary : (t : ℕ) → 6 ≤ t → t < 11 → (6 ≤ negated_tag t) × (negated_tag t < 11)
unfolding negated_tag
negated_binary = binary_tags (λ t. (6 ≤ negated_tag t) × (negated_tag t < 11)) (omega arith) (omega arith) (omega arith) (omega arith) (omega arith)

pub negated_unary : (t : ℕ) → 11 ≤ t → t < 13 → (11 ≤ negated_tag t) × (negated_tag t < 13)
unfolding negated_tag
negated_unary = unary_tags (λ t. (11 ≤ negated_tag t) × (negated_tag t < 13)) (omega arith) (omega arith)

-- ---- a formula is what its tag makes of its name and parts

pub signed_tag : (f : Formula) → f ≡ signed (tag_of f) f
unfolding tag_of name_of left_part right_part make signs
signed_tag One = refl
signed_tag Bottom = refl
signed_tag Top = refl
signed_tag Zero = refl
signed_tag (Atom a) = refl
signed_tag (NegAtom a) = refl
signed_tag (Tensor a b) = refl
signed_tag (Par a b) = refl
signed_tag (With a b) = refl
signed_tag (Plus a b) = refl
signed_tag (Lolli a b) = refl
signed_tag (OfCourse a) = refl
signed_tag (WhyNot a) = refl

-- a formula whose tag is known
pub by_tag : (t : ℕ) (f : Formula) → tag_of f ≡ t → f ≡ signed t f
by_tag t f e = signed_tag f ∙ ap (λ (t : ℕ). signed t f) e

-- a formula is one of a sign exactly where its tag says so
pub same_signed : (t : ℕ) → t < 13 → (f : Formula) → same f (signed t f) ≡ eqb (tag_of f) t
same_signed t l f = go (eqb (tag_of f) t) refl
  where
    go : (b : Bool) → eqb (tag_of f) t ≡ b → same f (signed t f) ≡ b
    go true h = (same_iff f (signed t f)).1 (by_tag t f (eqb-true (tag_of f) t h))
    go false h = different_same f (signed t f) λ k. eqb-false (tag_of f) t h (ap tag_of k ∙ tag_make (name_of f) (left_part f) (right_part f) t l)
