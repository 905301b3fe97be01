-- What shape mode's tests answer on a zone's bytes: tests on formulas by their tags, and each rule's test by the rule's number. Assumes nothing.
use Rattle.std.specs.Prelude as code
use Rattle.std.specs.Prelude.{◌≡◌, Bool, List, [], ◌∷◌, ℕ, eqb, get_or}
use Rattle.std.proofs.Math.Option.{Option, none}
use Rattle.logic.specs.Formula.{Formula}
use Rattle.logic.specs.Parts.{tag_of}
use Rattle.logic.specs.Sequent.{Sequent}
use Rattle.logic.specs.Tree.{Rule, Trees, premise_count}
use Rattle.logic.specs.Verify as logic
use Rattle.logic.specs.Verify.{any, axiom_shaped, one_shaped, need_shape, need_premises, shape_fault}
use Rattle.tree.specs.Places.{Holds, NodeIs}
use Rattle.tree.specs.declared.Span.{Span}
use Rattle.tree.specs.declared.Node.{Node}
use Rattle.verify.specs.Verdicts.{fault_of}
use Rattle.verify.specs.declared.Fault.{Fault}
use Rattle.verify.specs.declared.Order.{Order}
use Rattle.verify.specs.declared.Order.TheVariants as order

-- the formula has this tag
abbrev pub tagged : ℕ → Formula → Bool
tagged t f = eqb (tag_of f) t

-- the answers of the tests, where the zone holds formulas
pub record HasTag (s : List ℕ) (z : Span) (t : ℕ) (r : Bool) : Type 0 where
  pub is : (fs : List Formula) → Holds s z fs → r ≡ any (tagged t) fs

pub record IsAxiom (s : List ℕ) (z : Span) (r : Bool) : Type 0 where
  pub is : (fs : List Formula) → Holds s z fs → r ≡ axiom_shaped fs

pub record IsOne (s : List ℕ) (z : Span) (r : Bool) : Type 0 where
  pub is : (fs : List Formula) → Holds s z fs → r ≡ one_shaped fs

-- a shape and a count, in either order
abbrev pub in_order : (first : Order) (is_shaped : Bool) (expected given : ℕ) → Option logic.Fault
in_order order.Shape is_shaped expected given = need_shape is_shaped (need_premises expected given none)
in_order order.Count is_shaped expected given = need_premises expected given (need_shape is_shaped none)

-- each rule's test, by the rule's number; 15, 16 and 17 have none
abbrev pub Test : Type 0
Test = List Formula → ℕ → Option logic.Fault

abbrev pub no_test : Test
no_test fs got = none

unfoldable pub shape_tests : List Test
shape_tests =
    (λ fs got. in_order order.Shape (axiom_shaped fs) 0 got)
    ∷ (λ fs got. need_premises 2 got none)
    ∷ (λ fs got. in_order order.Shape (one_shaped fs) 0 got)
    ∷ (λ fs got. in_order order.Shape (any (tagged 1) fs) 1 got)
    ∷ (λ fs got. in_order order.Count (any (tagged 6) fs) 2 got)
    ∷ (λ fs got. in_order order.Count (any (tagged 7) fs) 1 got)
    ∷ (λ fs got. in_order order.Shape (any (tagged 2) fs) 0 got)
    ∷ (λ fs got. in_order order.Count (any (tagged 8) fs) 2 got)
    ∷ (λ fs got. in_order order.Count (any (tagged 9) fs) 1 got)
    ∷ (λ fs got. in_order order.Count (any (tagged 9) fs) 1 got)
    ∷ (λ fs got. in_order order.Count (any (tagged 11) fs) 1 got)
    ∷ (λ fs got. need_premises 1 got none)
    ∷ (λ fs got. need_premises 1 got none)
    ∷ (λ fs got. need_premises 1 got none)
    ∷ (λ fs got. need_premises 1 got none)
    ∷ []

unfoldable pub test_of : ℕ → Test
test_of n = get_or shape_tests n no_test

-- what is left of a zone, for a test that those before did not meet
pub record Left (s : List ℕ) (z : Span) (test : Formula → Bool) (fs : List Formula) : Type 0 where
  pub rest : List Formula
  pub holds : Holds s z rest
  pub same : any test fs ≡ any test rest

-- the fault at a node that stands where the places say
pub record ShapeFault (s : List ℕ) (n : Node) (x : code.Option Fault) : Type 0 where
  pub is : (r : Rule) (q : Sequent) (ps : Trees) → NodeIs s n r q ps → x ≡ fault_of (shape_fault r q (premise_count ps))
