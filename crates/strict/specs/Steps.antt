-- Strict mode's tests at a node, rule by rule, with the principal formula given, and what the code answers of them. Each is the part of `legal_step` that speaks of one principal formula:
-- `StepsLaws` joins them. Assumes nothing.
use Rattle.std.specs.Prelude.{◌≡◌, Bool, true, false, ◌&&◌, List, [], ◌∷◌, ◌++◌, ℕ, eqb, ltb, length, get_or}
use Rattle.std.proofs.Math.Option.{none}
use Rattle.logic.specs.Formula.{Formula, Bottom, Tensor, Par, With, Plus, OfCourse, WhyNot, negate, spell, same}
use Rattle.logic.specs.Parts.{left_part, right_part, is_binary, is_unary}
use Rattle.logic.specs.Sequent.{Sequent}
use Rattle.logic.specs.Tree.{Rule, Tree, Trees, ∅, ◌▹◌, conclusion, conclusions, premise_count}
use Rattle.logic.specs.Key.{same_bag}
use Rattle.logic.specs.Verify.{any, shape_fault}
use Rattle.logic.specs.Strict.{linear_same, keeps_zone, in_linear, legal_step}
use Rattle.wire.specs.Write.{write_node, write_nodes}
use Rattle.wire.specs.Fits.{NodesFit, NodesFit*}
use Rattle.tree.specs.Stands.{Stands}
use Rattle.tree.specs.Places.{FormulaAt, Holds, NodeIs, rule_number}
use Rattle.tree.specs.declared.Node.{Node}
use Rattle.tree.specs.declared.Span.{Span}
use Rattle.bags.specs.Runs.{Short, Reads}
use Rattle.bags.specs.declared.Run.{Run}
use Rattle.strict.specs.Zones.{NodeInside, SequentAt, PrincipalWithin, PrincipalIs}
use Rattle.strict.specs.declared.Principal.{Principal}

-- ---- the tests. x is the principal formula, q the conclusion, p and p' the premises

unfoldable pub bottom_step : Formula → Sequent → Sequent → Bool
bottom_step x q p = same (spell x) Bottom && linear_same q.linear (Bottom ∷ p.linear)

unfoldable pub par_step : Formula → Sequent → Sequent → Bool
par_step x q p =
    is_binary Par (spell x)
    && linear_same (Par (left_part (spell x)) (right_part (spell x)) ∷ p.linear) (left_part (spell x) ∷ right_part (spell x) ∷ q.linear)

unfoldable pub with_step : Formula → Sequent → Sequent → Sequent → Bool
with_step x q p p' =
    is_binary With (spell x)
    && (linear_same (With (left_part (spell x)) (right_part (spell x)) ∷ p.linear) (left_part (spell x) ∷ q.linear)
    && linear_same (With (left_part (spell x)) (right_part (spell x)) ∷ p'.linear) (right_part (spell x) ∷ q.linear))

-- the part that is kept is a
unfoldable pub plus_step : Formula → Formula → Sequent → Sequent → Bool
plus_step a x q p =
    is_binary Plus (spell x) && linear_same (Plus (left_part (spell x)) (right_part (spell x)) ∷ p.linear) (a ∷ q.linear)

unfoldable pub tensor_step : Formula → Sequent → Sequent → Sequent → Bool
tensor_step x q p p' =
    is_binary Tensor (spell x)
    && ((in_linear (left_part (spell x)) p.linear && in_linear (right_part (spell x)) p'.linear)
    && linear_same
    (Tensor (left_part (spell x)) (right_part (spell x)) ∷ (p.linear ++ p'.linear))
    (left_part (spell x) ∷ right_part (spell x) ∷ q.linear))

unfoldable pub of_course_step : Formula → Sequent → Sequent → Bool
of_course_step x q p =
    is_unary OfCourse (spell x)
    && (linear_same q.linear (OfCourse (left_part (spell x)) ∷ []) && linear_same p.linear (left_part (spell x) ∷ []))

unfoldable pub why_not_step : Formula → Sequent → Sequent → Bool
why_not_step x q p =
    is_unary WhyNot (spell x)
    && (linear_same q.linear (WhyNot (left_part (spell x)) ∷ p.linear) && same_bag p.unrestricted (left_part (spell x) ∷ q.unrestricted))

-- x is taken out of the unrestricted zone
unfoldable pub takes_out : Formula → Sequent → Sequent → Bool
takes_out x q p = same_bag q.unrestricted (x ∷ p.unrestricted)

unfoldable pub weakening_step : Formula → Sequent → Sequent → Bool
weakening_step x q p = linear_same p.linear q.linear && takes_out x q p

unfoldable pub contraction_step : Formula → Sequent → Sequent → Bool
contraction_step x q p = linear_same p.linear (x ∷ x ∷ q.linear) && takes_out x q p

unfoldable pub dereliction_step : Formula → Sequent → Sequent → Bool
dereliction_step x q p = linear_same p.linear (x ∷ q.linear) && takes_out x q p

unfoldable pub cut_step : Formula → Sequent → Sequent → Sequent → Bool
cut_step c q p p' =
    (in_linear c p.linear && in_linear (negate c) p'.linear) && linear_same (p.linear ++ p'.linear) (c ∷ negate c ∷ q.linear)

-- by the rule's number
abbrev Test : Type 0
Test = Formula → Sequent → Sequent → Sequent → Bool

abbrev never : Test
never x q p p' = false

abbrev one : (Formula → Sequent → Sequent → Bool) → Test
one test x q p p' = test x q p

abbrev pub tests : List Test
tests =
    never
    ∷ never
    ∷ never
    ∷ one bottom_step
    ∷ tensor_step
    ∷ one par_step
    ∷ never
    ∷ with_step
    ∷ one (λ x. plus_step (left_part (spell x)) x)
    ∷ one (λ x. plus_step (right_part (spell x)) x)
    ∷ one of_course_step
    ∷ one why_not_step
    ∷ one weakening_step
    ∷ one contraction_step
    ∷ one dereliction_step
    ∷ []

unfoldable pub step_by : ℕ → Test
step_by n = get_or tests n never

-- with one premise: the principal formula is in the unrestricted zone, or in the linear zone; WhyNotIntro alone changes the other zone
unfoldable pub one_test : ℕ → Sequent → Sequent → Bool
one_test n q p =
    elim (ltb 11 n) [
      | true ↦ any (λ x. step_by n x q p p) q.unrestricted
      | false ↦ elim (eqb n 11) [
        | true ↦ any (λ x. step_by n x q p p) q.linear
        | false ↦ keeps_zone q p && any (λ x. step_by n x q p p) q.linear
      ]
    ]

-- with two premises; c is the formula of a cut
unfoldable pub two_test : ℕ → Formula → Sequent → Sequent → Sequent → Bool
two_test n c q p p' =
    keeps_zone q p
    && (keeps_zone q p' && elim (eqb n 1) [ true ↦ cut_step c q p p' | false ↦ any (λ x. step_by n x q p p') q.linear ])

-- ---- what the code answers

-- what holds at each step of the code
pub record Ready (s : List ℕ) (f : Principal) (q p : Node) : Type 0 where
  pub short : Short s
  pub principal_within : PrincipalWithin (length s) f
  pub conclusion_inside : NodeInside (length s) q
  pub premise_inside : NodeInside (length s) p

module _ (s : List ℕ) where
  pub record Keeps (q p : Node) (r : Bool) : Type 0 where
    pub right : (Q P : Sequent) → SequentAt s q Q → SequentAt s p P → r ≡ keeps_zone Q P

  -- a part in the place of the whole
  pub record Replaced (whole part : Run) (q p : Node) (r : Bool) : Type 0 where
    pub right : (x a : Formula) (Q P : Sequent) → Reads s whole (spell x ∷ []) → Reads s part (spell a ∷ []) → SequentAt s q Q → SequentAt s p P → r ≡ linear_same (x ∷ P.linear) (a ∷ Q.linear)

  module _ (f : Principal) (q p : Node) where
    pub record StepIs (test : Formula → Sequent → Sequent → Bool) (r : Bool) : Type 0 where
      pub right : (x : Formula) (Q P : Sequent) → PrincipalIs s f x → SequentAt s q Q → SequentAt s p P → r ≡ test x Q P

    pub record PartStepIs (part : Run) (r : Bool) : Type 0 where
      pub right : (x a : Formula) (Q P : Sequent) → PrincipalIs s f x → (f.tag ≡ 9 → Reads s part (spell a ∷ [])) → SequentAt s q Q → SequentAt s p P → r ≡ plus_step a x Q P

    module _ (p' : Node) where
      pub record TwoStepsAre (test : Test) (r : Bool) : Type 0 where
        pub right : (x : Formula) (Q P P' : Sequent) → PrincipalIs s f x → SequentAt s q Q → SequentAt s p P → SequentAt s p' P' → r ≡ test x Q P P'

      pub record StepAt (r : Bool) : Type 0 where
        pub right : (rule : Rule) (x : Formula) (Q P P' : Sequent) → q.rule ≡ rule_number rule → PrincipalIs s f x → SequentAt s q Q → SequentAt s p P → SequentAt s p' P' → r ≡ step_by q.rule x Q P P'

  pub record SomeStep (zone : Span) (q p p' : Node) (r : Bool) : Type 0 where
    pub right : (rule : Rule) (fs : List Formula) (Q P P' : Sequent) → q.rule ≡ rule_number rule → Holds s zone fs → SequentAt s q Q → SequentAt s p P → SequentAt s p' P' → r ≡ any (λ x. step_by q.rule x Q P P') fs

  pub record CutIs (q p p' : Node) (r : Bool) : Type 0 where
    pub right : (c : Formula) (Q P P' : Sequent) → FormulaAt s q.argument c → SequentAt s q Q → SequentAt s p P → SequentAt s p' P' → r ≡ cut_step c Q P P'

  pub record OnePremise (q : Node) (r : Bool) : Type 0 where
    pub right : (rule : Rule) (Q : Sequent) (t : Tree) → q.rule ≡ rule_number rule → SequentAt s q Q → Stands s q.next (write_node t) → NodesFit t → r ≡ one_test q.rule Q (conclusion t)

  pub record TwoPremises (q : Node) (r : Bool) : Type 0 where
    pub right : (rule : Rule) (c : Formula) (Q : Sequent) (t u : Tree) → q.rule ≡ rule_number rule → (q.rule ≡ 1 → FormulaAt s q.argument c) → SequentAt s q Q → Stands s q.next (write_nodes (t ▹ u ▹ ∅)) → NodesFit t → NodesFit u
        → r ≡ two_test q.rule c Q (conclusion t) (conclusion u)

  -- where shape mode passes at the node, the step is legal
  pub record LegalStep (q : Node) (r : Bool) : Type 0 where
    pub right : (rule : Rule) (Q : Sequent) (ps : Trees) → NodeIs s q rule Q ps → NodesFit* ps → shape_fault rule Q (premise_count ps) ≡ none → r ≡ legal_step rule Q (conclusions ps)
