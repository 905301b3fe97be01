-- Proof trees, as in proof.rs. `Trees` is `Vec<Proof>`: antt takes no data type that stands inside a list. Assumes nothing.
use Rattle.std.specs.Prelude.{List, [], ◌∷◌, ℕ, zero, suc, ◌+◌, max}
use Rattle.logic.specs.Formula.{Formula}
use Rattle.logic.specs.Sequent.{Sequent}

pub data Rule : Type 0 where
  Axiom : Rule
  Cut : Formula → Rule
  OneIntro BottomIntro TensorIntro ParIntro TopIntro WithIntro PlusIntroLeft PlusIntroRight OfCourseIntro WhyNotIntro Weakening Contraction Dereliction : Rule
  FocusPositive FocusNegative : ℕ → Rule
  Blur : Rule

mutual
  pub data Tree : Type 0 where
    node : Rule → Sequent → Trees → Tree

  pub data Trees : Type 0 where
    ∅ : Trees
    ◌▹◌ : Tree → Trees → Trees

infixr 20 ◌▹◌
-- `depth`: a leaf is 1
unfoldable mutual
  pub depth : Tree → ℕ
  depth (node r q ps) = suc (depths ps)

  pub depths : Trees → ℕ
  depths ∅ = zero
  depths (t ▹ ts) = max (depth t) (depths ts)

-- how many nodes: what preorder counts
unfoldable mutual
  pub nodes : Tree → ℕ
  nodes (node r q ps) = suc (nodes* ps)

  pub nodes* : Trees → ℕ
  nodes* ∅ = zero
  nodes* (t ▹ ts) = nodes t + nodes* ts

abbrev pub conclusion : Tree → Sequent
conclusion (node r q ps) = q

unfoldable pub conclusions : Trees → List Sequent
conclusions ∅ = []
conclusions (t ▹ ts) = conclusion t ∷ conclusions ts

-- `premises.len()`
unfoldable pub premise_count : Trees → ℕ
premise_count ∅ = zero
premise_count (t ▹ ts) = suc (premise_count ts)
