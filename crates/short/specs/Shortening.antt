-- Document 02, 11/12: a full tree shortened against its question, and a short tree expanded against its question. At each node in preorder 7 (the implication spelled out there), 15, then 6
-- for a premise. Assumes nothing: these are definitions.
use Rattle.std.specs.Prelude.{Bool, true, false, ◌&&◌, List, [], ◌∷◌, map, ℕ, zero, suc, ◌^◌, length}
use Rattle.std.proofs.Math.Option.{Option, none, some}
use Rattle.logic.specs.Formula.{Formula, same}
use Rattle.logic.specs.Sequent.{Sequent, count}
use Rattle.logic.specs.Tree.{Rule, Tree, Trees, node, ∅, ◌▹◌, conclusions}
use Rattle.logic.specs.Limits.{Limits}
use Rattle.logic.specs.Conclusion.{concluded}
use Rattle.short.specs.Steps.{may_take, premises_of}
use Rattle.short.specs.Short.{Short, short, Shorts, □, ◌▸◌}
use Rattle.short.specs.Making.{made, mismatch, Making, answer, ◌and_then◌, unless, spelt, few_each}

-- ---- expanding

-- a node: its conclusion is worked out from the question downward, and so are its premises
unfoldable pub grown : Limits → (List Sequent → Making Trees) → Rule → (i mask : ℕ) → Sequent → Making Tree
grown limits deeper r i mask q =
    spelt limits.held q and_then λ _.
    unless (may_take r i mask (concluded q)) and_then λ _.
    few_each limits.formulas (premises_of r i mask (concluded q)) and_then λ _.
    deeper (premises_of r i mask (concluded q)) and_then λ ts.
    answer (made (node r (concluded q) ts))

unfoldable mutual
  pub expand : Limits → Short → Sequent → Making Tree
  expand limits (short r i mask ss) q = grown limits (λ qs. expand_all limits ss qs) r i mask q

  -- the premises one after another
  pub expand_all : Limits → Shorts → List Sequent → Making Trees
  expand_all limits □ [] = answer (made ∅)
  expand_all limits □ (q ∷ qs) = answer mismatch
  expand_all limits (s ▸ ss) [] = answer mismatch
  expand_all limits (s ▸ ss) (q ∷ qs) = expand limits s q and_then λ t. expand_all limits ss qs and_then λ ts. answer (made (t ▹ ts))

-- ---- the least place and mask

-- lists of formulas and of sequents compared, in order
unfoldable pub same_zone : List Formula → List Formula → Bool
same_zone [] [] = true
same_zone [] (g ∷ gs) = false
same_zone (f ∷ fs) [] = false
same_zone (f ∷ fs) (g ∷ gs) = same f g && same_zone fs gs

abbrev pub same_sequent : Sequent → Sequent → Bool
same_sequent p q = same_zone p.linear q.linear && same_zone p.unrestricted q.unrestricted

unfoldable pub same_sequents : List Sequent → List Sequent → Bool
same_sequents [] [] = true
same_sequents [] (q ∷ qs) = false
same_sequents (p ∷ ps) [] = false
same_sequents (p ∷ ps) (q ∷ qs) = same_sequent p q && same_sequents ps qs

-- the step at place i with this mask is one of the search's, and its premises conclude just these sequents
unfoldable pub fits : Rule → Sequent → List Sequent → (i mask : ℕ) → Bool
fits r q ds i mask = may_take r i mask q && same_sequents (map concluded (premises_of r i mask q)) ds

-- the first of `left` numbers from k on that passes
unfoldable pub first_from : (ℕ → Bool) → (k left : ℕ) → Option ℕ
first_from test k zero = none
first_from test k (suc left) = elim (test k) [ true ↦ some k | false ↦ first_from test (suc k) left ]

abbrev pub is_some : Option ℕ → Bool
is_some (some n) = true
is_some none = false

-- the least mask at a place; the least place that has one
unfoldable pub least_mask : Rule → Sequent → List Sequent → (i : ℕ) → Option ℕ
least_mask r q ds i = first_from (fits r q ds i) 0 (2 ^ length q.linear)

unfoldable pub least_place : Rule → Sequent → List Sequent → Option ℕ
least_place r q ds = first_from (λ i. is_some (least_mask r q ds i)) 0 (count q)

-- a place with its mask
abbrev pub with_mask : ℕ → Option ℕ → Making (ℕ × ℕ)
with_mask i (some mask) = answer (made (i, mask))
with_mask i none = answer mismatch

abbrev pub at_place : Rule → Sequent → List Sequent → Option ℕ → Making (ℕ × ℕ)
at_place r q ds (some i) = with_mask i (least_mask r q ds i)
at_place r q ds none = answer mismatch

-- the least place, then the least mask; 15 where none fits
unfoldable pub least : Rule → Sequent → List Sequent → Making (ℕ × ℕ)
least r q ds = at_place r q ds (least_place r q ds)

-- ---- shortening

-- a node that is to conclude q, an implication spelled out
unfoldable pub shrunk : Limits → (List Sequent → Making Shorts) → Rule → Sequent → List Sequent → Sequent → Making Short
shrunk limits deeper r c ds q =
    spelt limits.held q and_then λ _.
    unless (same_sequent c (concluded q)) and_then λ _.
    least r c ds and_then λ im.
    deeper (premises_of r im.0 im.1 c) and_then λ ss.
    answer (made (short r im.0 im.1 ss))

unfoldable mutual
  pub shorten : Limits → Tree → Sequent → Making Short
  shorten limits (node r c ts) q = shrunk limits (λ qs. shorten_all limits ts qs) r c (conclusions ts) q

  pub shorten_all : Limits → Trees → List Sequent → Making Shorts
  shorten_all limits ∅ [] = answer (made □)
  shorten_all limits ∅ (q ∷ qs) = answer mismatch
  shorten_all limits (t ▹ ts) [] = answer mismatch
  shorten_all limits (t ▹ ts) (q ∷ qs) = shorten limits t q and_then λ s. shorten_all limits ts qs and_then λ ss. answer (made (s ▸ ss))
