-- `verify_proof` of verify.rs: each node's own test first, in the Rust's order of tests, then its premises from the left. An error gives the rule, the node's number in preorder (the
-- root is 0), the wrappers (`PremiseFailed`: steps below the root) and the fault. Strict mode runs the same walk with another test at each node. Assumes nothing.
use Rattle.std.specs.Prelude.{Bool, true, false, ◌&&◌, List, [], ◌∷◌, ℕ, suc, ◌+◌, eqb}
use Rattle.std.proofs.Math.Option.{Option, none, some}
use Rattle.logic.specs.Formula.{Formula, One, Bottom, Top, Tensor, Par, With, Plus, OfCourse, negate, same, among}
use Rattle.logic.specs.Parts.{is_literal, is_binary, is_unary}
use Rattle.logic.specs.Sequent.{Sequent}
use Rattle.logic.specs.Tree.{
  Rule,
  Axiom,
  Cut,
  OneIntro,
  BottomIntro,
  TensorIntro,
  ParIntro,
  TopIntro,
  WithIntro,
  PlusIntroLeft,
  PlusIntroRight,
  OfCourseIntro,
  WhyNotIntro,
  Weakening,
  Contraction,
  Dereliction,
  FocusPositive,
  FocusNegative,
  Blur,
  Tree,
  Trees,
  node,
  ∅,
  ◌▹◌,
  nodes,
  premise_count,
}

-- `ProofError` without its texts; document 01's 13, 14 and 15
pub data Fault : Type 0 where
  invalid_rule : Fault
  wrong_premise_count : (expected got : ℕ) → Fault
  context_mismatch : Fault

pub data Verdict : Type 0 where
  accepted : Verdict
  rejected : (rule : Rule) (number wrappers : ℕ) → Fault → Verdict

-- document 01's number for a verdict
abbrev pub fault_number : Fault → ℕ
fault_number invalid_rule = 13
fault_number (wrong_premise_count expected got) = 14
fault_number context_mismatch = 15

abbrev pub verdict_number : Verdict → ℕ
verdict_number accepted = 0
verdict_number (rejected r n w f) = fault_number f

-- `iter().any(..)`
unfoldable pub any : {A : Type 0} → (A → Bool) → List A → Bool
any test [] = false
any test (x ∷ xs) = elim (test x) [ true ↦ true | false ↦ any test xs ]

-- `(Atom(a), NegAtom(b)) | (NegAtom(b), Atom(a)) if a == b`
unfoldable pub axiom_shaped : List Formula → Bool
axiom_shaped [] = false
axiom_shaped (f ∷ []) = false
axiom_shaped (f ∷ g ∷ []) = is_literal f && same (negate f) g
axiom_shaped (f ∷ g ∷ h ∷ hs) = false

-- `linear.len() == 1 && linear[0] == One`
unfoldable pub one_shaped : List Formula → Bool
one_shaped [] = false
one_shaped (f ∷ []) = same One f
one_shaped (f ∷ g ∷ gs) = false

-- a test and the fault that it brings, then the next
abbrev pub need : Bool → Fault → Option Fault → Option Fault
need true f next = next
need false f next = some f

abbrev pub need_shape : Bool → Option Fault → Option Fault
need_shape b = need b invalid_rule

abbrev pub need_premises : (expected got : ℕ) → Option Fault → Option Fault
need_premises expected got = need (eqb got expected) (wrong_premise_count expected got)

-- `verify_rule_application`
unfoldable pub shape_fault : Rule → Sequent → ℕ → Option Fault
shape_fault Axiom q got = need_shape (axiom_shaped q.linear) (need_premises 0 got none)
shape_fault OneIntro q got = need_shape (one_shaped q.linear) (need_premises 0 got none)
shape_fault TopIntro q got = need_shape (among Top q.linear) (need_premises 0 got none)
shape_fault BottomIntro q got = need_shape (among Bottom q.linear) (need_premises 1 got none)
shape_fault TensorIntro q got = need_premises 2 got (need_shape (any (is_binary Tensor) q.linear) none)
shape_fault ParIntro q got = need_premises 1 got (need_shape (any (is_binary Par) q.linear) none)
shape_fault WithIntro q got = need_premises 2 got (need_shape (any (is_binary With) q.linear) none)
shape_fault PlusIntroLeft q got = need_premises 1 got (need_shape (any (is_binary Plus) q.linear) none)
shape_fault PlusIntroRight q got = need_premises 1 got (need_shape (any (is_binary Plus) q.linear) none)
shape_fault WhyNotIntro q got = need_premises 1 got none
shape_fault OfCourseIntro q got = need_premises 1 got (need_shape (any (is_unary OfCourse) q.linear) none)
shape_fault (Cut c) q got = need_premises 2 got none
shape_fault Weakening q got = need_premises 1 got none
shape_fault Contraction q got = need_premises 1 got none
shape_fault Dereliction q got = need_premises 1 got none
shape_fault (FocusPositive i) q got = none
shape_fault (FocusNegative i) q got = none
shape_fault Blur q got = none

-- a node's own verdict, or else that of its premises; and one premise's, or else that of those after it
abbrev pub own_verdict : Rule → ℕ → ℕ → Option Fault → Verdict → Verdict
own_verdict r n w none rest = rest
own_verdict r n w (some f) rest = rejected r n w f

abbrev pub first_verdict : Verdict → Verdict → Verdict
first_verdict accepted rest = rest
first_verdict (rejected r n w f) rest = rejected r n w f

module _ (fault : Rule → Sequent → Trees → Option Fault) where
  unfoldable mutual
    -- `verify_proof`, at the node of number n, with w wrappers around its errors
    pub verify_from : Tree → ℕ → ℕ → Verdict
    verify_from (node r q ps) n w = own_verdict r n w (fault r q ps) (verify_premises ps (suc n) (suc w))

    pub verify_premises : Trees → ℕ → ℕ → Verdict
    verify_premises ∅ n w = accepted
    verify_premises (t ▹ ts) n w = first_verdict (verify_from t n w) (verify_premises ts (n + nodes t) w)

abbrev pub shape_at : Rule → Sequent → Trees → Option Fault
shape_at r q ps = shape_fault r q (premise_count ps)

-- shape mode
unfoldable pub verify : Tree → Verdict
verify t = verify_from shape_at t 0 0
