-- The rules' tests by the rule's number are those of `legal_step`, where shape mode has no fault; and a principal formula is found exactly where some formula of the zone makes the step
-- legal. Assumes nothing.
use Rattle.std.specs.Prelude.{◌≡◌, Bool, false, ◌&&◌, List, [], ◌∷◌, ℕ, ◌≤◌, ◌<◌, eqb, ltb}
use Rattle.std.proofs.Math.Path.{refl, sym, ap}
use Rattle.std.proofs.Common.{ap₂, ◌∙◌, subst, arith}
use Rattle.std.proofs.Math.Bool.{true, and_assoc, and_comm, and-false}
use Rattle.std.proofs.lemmas.Bool.{false≢true}
use Rattle.std.proofs.Math.Option.{Option, none, some-ne-none}
use borrow.Author.Tests.{eqb-true, lt-ltb, le-ltb, eq-eqb, ne_eqb}
use Rattle.logic.specs.Formula.{Formula, Bottom, Top, spell, same, among}
use Rattle.logic.proofs.FormulaLaws.{same_iff}
use Rattle.logic.specs.Sequent.{Sequent}
use Rattle.logic.specs.Tree.{
  Rule,
  Axiom,
  Cut,
  OneIntro,
  BottomIntro,
  TensorIntro,
  ParIntro,
  TopIntro,
  WithIntro,
  PlusIntroLeft,
  PlusIntroRight,
  OfCourseIntro,
  WhyNotIntro,
  Weakening,
  Contraction,
  Dereliction,
  FocusPositive,
  FocusNegative,
  Blur,
  Tree,
  Trees,
  node,
  ∅,
  ◌▹◌,
  conclusion,
  conclusions,
  premise_count,
}
use Rattle.logic.specs.Verify.{Fault, any, axiom_shaped, one_shaped, need, need_shape, need_premises, shape_fault}
use Rattle.logic.specs.VerifyLaws.{any_head, any_tail, any_map}
use Rattle.logic.specs.Strict.{linear_same, keeps_zone, any_binary, any_unary, legal_step}
use Rattle.strict.specs.Steps.{bottom_step, par_step, with_step, plus_step, tensor_step, of_course_step, why_not_step, takes_out, weakening_step, contraction_step, dereliction_step, cut_step}
use Rattle.strict.specs.Steps.{step_by, one_test, two_test, Keeps, StepAt, SomeStep, CutIs, OnePremise, TwoPremises, LegalStep}
use Rattle.strict.specs.StepsLaws.{no_first, yes_first}
use Rattle.strict.specs.Zones.{SequentAt, PrincipalIs, PrincipalAt}
use Rattle.strict.specs.ZonesLaws.{holds_along}
use Rattle.strict.specs.Rules.{NoneOf, with_principal, cut_formula, Trying}
use Rattle.strict.specs.declared.Principal.{Principal}
use Rattle.wire.specs.Write.{write_node, write_nodes}
use Rattle.wire.specs.Fits.{NodesFit, NodesFit*}
use Rattle.tree.specs.Stands.{Stands}
use Rattle.tree.specs.StandsLaws.{stands_left, stands_right}
use Rattle.tree.specs.Places.{Passed, rule_number, NodeIs, NodeFound, TreePassed}
use Rattle.tree.specs.PlacesLaws.{cut_only}
use Rattle.tree.specs.declared.Node.{Node}
use Rattle.tree.specs.declared.Span.{Span}
use Rattle.bags.specs.WalksLaws.{walk_start, walk_here, walk_next, walk_end}

-- ---- a test over a list

any_false : (test : Formula → Bool) (xs : List Formula) → any (λ x. test x && false) xs ≡ false
unfolding any
any_false test [] = refl
any_false test (x ∷ xs) = any_tail (λ x. test x && false) x xs (and-false (test x)) ∙ any_false test xs

-- a second test that is not of the formula
any_and : (test : Formula → Bool) (b : Bool) (xs : List Formula) → any test xs ≡ true → any (λ x. test x && b) xs ≡ b
unfolding any
any_and test false xs e = any_false test xs
any_and test true [] e = absurd (false≢true e)
any_and test true (x ∷ xs) e = go (test x) e (any_and test true xs)
  where
    go : (c : Bool) → elim c as (λ _. Bool) [ true ↦ true | false ↦ any test xs ] ≡ true → (any test xs ≡ true → any (λ x. test x && true) xs ≡ true)
        → elim (c && true) as (λ _. Bool) [ true ↦ true | false ↦ any (λ x. test x && true) xs ] ≡ true
    go true e rest = refl
    go false e rest = rest e

bottom_among : (xs : List Formula) → among Bottom xs ≡ true → any (λ x. same (spell x) Bottom) xs ≡ true
unfolding among any spell
bottom_among [] e = absurd (false≢true e)
bottom_among (x ∷ xs) e = go (same Bottom x) refl e (bottom_among xs) (same (spell x) Bottom) refl
  where
    go : (b : Bool) → same Bottom x ≡ b → elim b as (λ _. Bool) [ true ↦ true | false ↦ among Bottom xs ] ≡ true → (among Bottom xs ≡ true → any (λ x. same (spell x) Bottom) xs ≡ true)
        → (c : Bool) → same (spell x) Bottom ≡ c → elim c as (λ _. Bool) [ true ↦ true | false ↦ any (λ x. same (spell x) Bottom) xs ] ≡ true
    go b k e rest true k' = refl
    go false k e rest false k' = rest e
    go true k e rest false k' = absurd (false≢true (sym k' ∙ (same_iff (spell x) Bottom).1 (ap spell (sym ((same_iff Bottom x).0 k)))))

-- ---- shape mode's faults

need_true : (b : Bool) (f : Fault) (o : Option Fault) → need b f o ≡ none → b ≡ true
need_true true f o e = refl
need_true false f o e = absurd (some-ne-none f e)

-- a count that is tested behind a shape
counted : (is_shaped : Bool) (expected given : ℕ) → need_shape is_shaped (need_premises expected given none) ≡ none → given ≡ expected
counted true expected given e = eqb-true given expected (need_true _ _ _ e)
counted false expected given e = absurd (some-ne-none _ e)

-- rules 15 and more are no steps
no_step : (r : Rule) (q : Sequent) (ps : List Sequent) → 14 < rule_number r → false ≡ legal_step r q ps
unfolding rule_number legal_step
no_step Axiom q ps h = absurd (omega arith)
no_step (Cut c) q ps h = absurd (omega arith)
no_step OneIntro q ps h = absurd (omega arith)
no_step BottomIntro q ps h = absurd (omega arith)
no_step TensorIntro q ps h = absurd (omega arith)
no_step ParIntro q ps h = absurd (omega arith)
no_step TopIntro q ps h = absurd (omega arith)
no_step WithIntro q ps h = absurd (omega arith)
no_step PlusIntroLeft q ps h = absurd (omega arith)
no_step PlusIntroRight q ps h = absurd (omega arith)
no_step OfCourseIntro q ps h = absurd (omega arith)
no_step WhyNotIntro q ps h = absurd (omega arith)
no_step Weakening q ps h = absurd (omega arith)
no_step Contraction q ps h = absurd (omega arith)
no_step Dereliction q ps h = absurd (omega arith)
no_step (FocusPositive i) q ps h = refl
no_step (FocusNegative i) q ps h = refl
no_step Blur q ps h = refl

module _ (q : Sequent) where
  -- no premise: shape mode has tested the leaf
  leaf_legal : (r : Rule) → rule_number r ≤ 14 → shape_fault r q 0 ≡ none → true ≡ legal_step r q []
  unfolding rule_number shape_fault legal_step
  leaf_legal Axiom h e = sym (need_true _ _ _ e)
  leaf_legal OneIntro h e = sym (need_true _ _ _ e)
  leaf_legal TopIntro h e = sym (need_true _ _ _ e)
  leaf_legal BottomIntro h e = absurd (omega (arith, counted (among Bottom q.linear) 1 0 e))
  leaf_legal (Cut c) h e = absurd (some-ne-none _ e)
  leaf_legal TensorIntro h e = absurd (some-ne-none _ e)
  leaf_legal ParIntro h e = absurd (some-ne-none _ e)
  leaf_legal WithIntro h e = absurd (some-ne-none _ e)
  leaf_legal PlusIntroLeft h e = absurd (some-ne-none _ e)
  leaf_legal PlusIntroRight h e = absurd (some-ne-none _ e)
  leaf_legal OfCourseIntro h e = absurd (some-ne-none _ e)
  leaf_legal WhyNotIntro h e = absurd (some-ne-none _ e)
  leaf_legal Weakening h e = absurd (some-ne-none _ e)
  leaf_legal Contraction h e = absurd (some-ne-none _ e)
  leaf_legal Dereliction h e = absurd (some-ne-none _ e)
  leaf_legal (FocusPositive i) h e = absurd (omega arith)
  leaf_legal (FocusNegative i) h e = absurd (omega arith)
  leaf_legal Blur h e = absurd (omega arith)

  -- the zone kept is tested first
  keeps_first : {b b' : Bool} (p : Sequent) → b ≡ b' → keeps_zone q p && b ≡ b' && keeps_zone q p
  keeps_first {b} p e = and_comm (keeps_zone q p) b ∙ ap (λ c. c && keeps_zone q p) e

  module _ (p : Sequent) where
    one_legal : (r : Rule) → rule_number r ≤ 14 → shape_fault r q 1 ≡ none → one_test (rule_number r) q p ≡ legal_step r q (p ∷ [])
    unfolding rule_number shape_fault legal_step one_test step_by any_binary any_unary bottom_step par_step plus_step of_course_step why_not_step weakening_step contraction_step dereliction_step takes_out
    one_legal BottomIntro h e = keeps_first p (any_and (λ x. same (spell x) Bottom) (linear_same q.linear (Bottom ∷ p.linear)) q.linear (bottom_among q.linear (need_true _ _ _ e)))
    one_legal ParIntro h e = keeps_first p (sym (any_map spell _ q.linear))
    one_legal PlusIntroLeft h e = keeps_first p (sym (any_map spell _ q.linear))
    one_legal PlusIntroRight h e = keeps_first p (sym (any_map spell _ q.linear))
    one_legal OfCourseIntro h e = keeps_first p (sym (any_map spell _ q.linear))
    one_legal WhyNotIntro h e = sym (any_map spell _ q.linear)
    one_legal Weakening h e = refl
    one_legal Contraction h e = refl
    one_legal Dereliction h e = refl
    one_legal Axiom h e = absurd (omega (arith, counted (axiom_shaped q.linear) 0 1 e))
    one_legal OneIntro h e = absurd (omega (arith, counted (one_shaped q.linear) 0 1 e))
    one_legal TopIntro h e = absurd (omega (arith, counted (among Top q.linear) 0 1 e))
    one_legal (Cut c) h e = absurd (some-ne-none _ e)
    one_legal TensorIntro h e = absurd (some-ne-none _ e)
    one_legal WithIntro h e = absurd (some-ne-none _ e)
    one_legal (FocusPositive i) h e = absurd (omega arith)
    one_legal (FocusNegative i) h e = absurd (omega arith)
    one_legal Blur h e = absurd (omega arith)

  -- both zones kept are tested first
  both_first : {b b' : Bool} (p p' : Sequent) → b ≡ b' → keeps_zone q p && (keeps_zone q p' && b) ≡ b' && (keeps_zone q p && keeps_zone q p')
  both_first {b} p p' e = sym (and_assoc (keeps_zone q p) (keeps_zone q p') b) ∙ and_comm (keeps_zone q p && keeps_zone q p') b ∙ ap (λ c. c && (keeps_zone q p && keeps_zone q p')) e

  module _ (p p' : Sequent) where
    two_legal : (r : Rule) → rule_number r ≤ 14 → shape_fault r q 2 ≡ none → two_test (rule_number r) (cut_formula r) q p p' ≡ legal_step r q (p ∷ p' ∷ [])
    unfolding rule_number shape_fault legal_step two_test step_by any_binary with_step tensor_step cut_step cut_formula
    two_legal (Cut c) h e = both_first p p' refl
    two_legal TensorIntro h e = both_first p p' (sym (any_map spell _ q.linear))
    two_legal WithIntro h e = both_first p p' (sym (any_map spell _ q.linear))
    two_legal Axiom h e = absurd (omega (arith, counted (axiom_shaped q.linear) 0 2 e))
    two_legal OneIntro h e = absurd (omega (arith, counted (one_shaped q.linear) 0 2 e))
    two_legal TopIntro h e = absurd (omega (arith, counted (among Top q.linear) 0 2 e))
    two_legal BottomIntro h e = absurd (omega (arith, counted (among Bottom q.linear) 1 2 e))
    two_legal ParIntro h e = absurd (some-ne-none _ e)
    two_legal PlusIntroLeft h e = absurd (some-ne-none _ e)
    two_legal PlusIntroRight h e = absurd (some-ne-none _ e)
    two_legal OfCourseIntro h e = absurd (some-ne-none _ e)
    two_legal WhyNotIntro h e = absurd (some-ne-none _ e)
    two_legal Weakening h e = absurd (some-ne-none _ e)
    two_legal Contraction h e = absurd (some-ne-none _ e)
    two_legal Dereliction h e = absurd (some-ne-none _ e)
    two_legal (FocusPositive i) h e = absurd (omega arith)
    two_legal (FocusNegative i) h e = absurd (omega arith)
    two_legal Blur h e = absurd (omega arith)

  -- no rule has three premises
  few_premises : (r : Rule) (n : ℕ) → rule_number r ≤ 14 → shape_fault r q n ≡ none → n ≤ 2
  unfolding rule_number shape_fault
  few_premises Axiom n h e = omega (arith, counted (axiom_shaped q.linear) 0 n e)
  few_premises OneIntro n h e = omega (arith, counted (one_shaped q.linear) 0 n e)
  few_premises TopIntro n h e = omega (arith, counted (among Top q.linear) 0 n e)
  few_premises BottomIntro n h e = omega (arith, counted (among Bottom q.linear) 1 n e)
  few_premises (Cut c) n h e = omega (arith, eqb-true n 2 (need_true _ _ _ e))
  few_premises TensorIntro n h e = omega (arith, eqb-true n 2 (need_true _ _ _ e))
  few_premises WithIntro n h e = omega (arith, eqb-true n 2 (need_true _ _ _ e))
  few_premises ParIntro n h e = omega (arith, eqb-true n 1 (need_true _ _ _ e))
  few_premises PlusIntroLeft n h e = omega (arith, eqb-true n 1 (need_true _ _ _ e))
  few_premises PlusIntroRight n h e = omega (arith, eqb-true n 1 (need_true _ _ _ e))
  few_premises OfCourseIntro n h e = omega (arith, eqb-true n 1 (need_true _ _ _ e))
  few_premises WhyNotIntro n h e = omega (arith, eqb-true n 1 (need_true _ _ _ e))
  few_premises Weakening n h e = omega (arith, eqb-true n 1 (need_true _ _ _ e))
  few_premises Contraction n h e = omega (arith, eqb-true n 1 (need_true _ _ _ e))
  few_premises Dereliction n h e = omega (arith, eqb-true n 1 (need_true _ _ _ e))
  few_premises (FocusPositive i) n h e = absurd (omega arith)
  few_premises (FocusNegative i) n h e = absurd (omega arith)
  few_premises Blur n h e = absurd (omega arith)

-- ---- the step with the principal formula given, by the rule's number

-- the rules without a principal formula
no_principal : (r : Rule) (x : Formula) (q p p' : Sequent) → NoneOf (Unit {0}) with_principal (rule_number r) → false ≡ step_by (rule_number r) x q p p'
unfolding rule_number step_by
no_principal Axiom x q p p' h = refl
no_principal (Cut c) x q p p' h = refl
no_principal OneIntro x q p p' h = refl
no_principal TopIntro x q p p' h = refl
no_principal (FocusPositive i) x q p p' h = refl
no_principal (FocusNegative i) x q p p' h = refl
no_principal Blur x q p p' h = refl
no_principal Dereliction x q p p' h = absurd (h.1 refl)
no_principal Contraction x q p p' h = absurd (h.0.1 refl)
no_principal Weakening x q p p' h = absurd (h.0.0.1 refl)
no_principal WhyNotIntro x q p p' h = absurd (h.0.0.0.1 refl)
no_principal OfCourseIntro x q p p' h = absurd (h.0.0.0.0.1 refl)
no_principal PlusIntroRight x q p p' h = absurd (h.0.0.0.0.0.1 refl)
no_principal PlusIntroLeft x q p p' h = absurd (h.0.0.0.0.0.0.1 refl)
no_principal WithIntro x q p p' h = absurd (h.0.0.0.0.0.0.0.1 refl)
no_principal ParIntro x q p p' h = absurd (h.0.0.0.0.0.0.0.0.1 refl)
no_principal TensorIntro x q p p' h = absurd (h.0.0.0.0.0.0.0.0.0.1 refl)
no_principal BottomIntro x q p p' h = absurd (h.0.0.0.0.0.0.0.0.0.0.1 refl)

module _ {s : List ℕ} {f : Principal} {q p p' : Node} where
  pub step_found : {k : ℕ} {r : Bool} → q.rule ≡ k → ((x : Formula) (Q P P' : Sequent) → PrincipalIs s f x → SequentAt s q Q → SequentAt s p P → SequentAt s p' P' → r ≡ step_by k x Q P P') → StepAt s f q p p' r
  step_found e h = record { right = λ rule x Q P P' rule_is here q_is p_is p'_is. h x Q P P' here q_is p_is p'_is ∙ ap (λ (n : ℕ). step_by n x Q P P') (sym e) }

  pub step_none : NoneOf (Unit {0}) with_principal q.rule → StepAt s f q p p' false
  step_none h =
      record {
        right = λ rule x Q P P' rule_is here q_is p_is p'_is.
            no_principal rule x Q P P' (subst (NoneOf (Unit {0}) with_principal) rule_is h) ∙ ap (λ (n : ℕ). step_by n x Q P P') (sym rule_is);
      }

  pub step_past : 14 < q.rule → StepAt s f q p p' false
  step_past h = step_none (((((((((((tt, λ e. omega arith), λ e. omega arith), λ e. omega arith), λ e. omega arith), λ e. omega arith), λ e. omega arith), λ e. omega arith), λ e. omega arith), λ e. omega arith), λ e. omega arith), λ e. omega arith)

-- ---- a principal formula looked for in a zone

module _ (s : List ℕ) (end : ℕ) (q p p' : Node) where
  pub trying_start : (x₀ : ℕ) → Trying s end q p p' x₀ x₀
  trying_start x₀ = record { walk = walk_start s end x₀ λ fs rule Q P P' rule_is q_is p_is p'_is. refl }

  module _ {x₀ x : ℕ} (t : Trying s end q p p' x₀ x) where
    module _ (h : x < end) {next : ℕ} (passed : Passed s x end next) {f : Principal} (f_is : PrincipalAt s x next f) where
      -- this formula does not make the step legal
      pub trying_next : StepAt s f q p p' false → Trying s end q p p' x₀ next
      trying_next step = record {
        walk = walk_next s end h passed t.walk λ fs y rest here next_is so rule Q P P' rule_is q_is p_is p'_is.
            so rule Q P P' rule_is q_is p_is p'_is
            ∙ any_tail (λ y. step_by q.rule y Q P P') y rest (sym (step.right rule y Q P P' rule_is (f_is.is y here next_is) q_is p_is p'_is));
      }

      -- and this one does
      pub trying_found : StepAt s f q p p' true → (zone : Span) → zone.start ≡ x₀ → zone.end ≡ end → SomeStep s zone q p p' true
      trying_found step zone start_is end_is = record {
        right = λ rule fs Q P P' rule_is holds q_is p_is p'_is.
            let here = walk_here s end h t.walk fs (rw (start_is, end_is) at (holds_along s zone fs holds)) in
            let next_is = passed.past here.formula here.stands here.within in
            sym (here.so rule Q P P' rule_is q_is p_is p'_is
            ∙ any_head (λ y. step_by q.rule y Q P P') here.formula here.others (sym (step.right rule here.formula Q P P' rule_is (f_is.is here.formula here.stands next_is) q_is p_is p'_is)));
      }

    pub trying_end : end ≤ x → (zone : Span) → zone.start ≡ x₀ → zone.end ≡ end → SomeStep s zone q p p' false
    unfolding any
    trying_end h zone start_is end_is = record {
      right = λ rule fs Q P P' rule_is holds q_is p_is p'_is.
          sym (walk_end s end h t.walk fs (rw (start_is, end_is) at (holds_along s zone fs holds)) rule Q P P' rule_is q_is p_is p'_is);
    }

-- ---- a node with its premises

-- the sequent at a node that stands there
pub sequent_at : {s : List ℕ} {n : Node} {r : Rule} {q : Sequent} {ps : Trees} → NodeIs s n r q ps → SequentAt s n q
sequent_at is = record { linear_is = is.linear_is; unrestricted_is = is.unrestricted_is }

-- and at a premise
premise_at : {s : List ℕ} {at : ℕ} {n : Node} → NodeFound s at n → (t : Tree) → Stands s at (write_node t) → NodesFit t → SequentAt s n (conclusion t)
premise_at found (node r q ps) there fits = sequent_at (found.is r q ps there fits.0)

-- the test of one premise, by the answers of the tests of the rule's number
one_by : (n : ℕ) (q p : Sequent) {is_past is_moved : Bool} → ltb 11 n ≡ is_past → eqb n 11 ≡ is_moved
    → elim is_past as (λ _. Bool) [
      | true ↦ any (λ x. step_by n x q p p) q.unrestricted
      | false ↦ elim is_moved as (λ _. Bool) [ true ↦ any (λ x. step_by n x q p p) q.linear | false ↦ keeps_zone q p && any (λ x. step_by n x q p p) q.linear ]
    ] ≡ one_test n q p
unfolding one_test
one_by n q p e e' =
    ap₂
    (λ (a b : Bool).
    elim a as (λ _. Bool) [
      | true ↦ any (λ x. step_by n x q p p) q.unrestricted
      | false ↦ elim b as (λ _. Bool) [ true ↦ any (λ x. step_by n x q p p) q.linear | false ↦ keeps_zone q p && any (λ x. step_by n x q p p) q.linear ]
    ])
    (sym e)
    (sym e')

module _ {s : List ℕ} (q : Node) where
  module _ {p : Node} (found : NodeFound s q.next p) where
    pub one_taken : {r : Bool} → 11 < q.rule → SomeStep s q.unrestricted q p p r → OnePremise s q r
    one_taken h tried = record {
      right = λ rule Q t rule_is q_is there fits.
          let p_is = premise_at found t there fits in
          tried.right rule Q.unrestricted Q (conclusion t) (conclusion t) rule_is q_is.unrestricted_is q_is p_is p_is
          ∙ one_by q.rule Q (conclusion t) (lt-ltb 11 q.rule h) refl;
    }

    module _ (h : q.rule ≤ 11) where
      pub one_moved : {r : Bool} → q.rule ≡ 11 → SomeStep s q.linear q p p r → OnePremise s q r
      one_moved e tried = record {
        right = λ rule Q t rule_is q_is there fits.
            let p_is = premise_at found t there fits in
            tried.right rule Q.linear Q (conclusion t) (conclusion t) rule_is q_is.linear_is q_is p_is p_is
            ∙ one_by q.rule Q (conclusion t) (le-ltb 11 q.rule h) (eq-eqb q.rule 11 e);
      }

      module _ (e : q.rule ≡ 11 → ⊥) {k : Bool} (keeps : Keeps s q p k) where
        pub one_changed : k ≡ false → OnePremise s q false
        one_changed is_false = record {
          right = λ rule Q t rule_is q_is there fits.
              let p_is = premise_at found t there fits in
              no_first _ (sym (keeps.right Q (conclusion t) q_is p_is) ∙ is_false) ∙ one_by q.rule Q (conclusion t) (le-ltb 11 q.rule h) (ne_eqb q.rule 11 e);
        }

        pub one_kept : {r : Bool} → k ≡ true → SomeStep s q.linear q p p r → OnePremise s q r
        one_kept is_true tried = record {
          right = λ rule Q t rule_is q_is there fits.
              let p_is = premise_at found t there fits in
              yes_first (sym (keeps.right Q (conclusion t) q_is p_is) ∙ is_true) (tried.right rule Q.linear Q (conclusion t) (conclusion t) rule_is q_is.linear_is q_is p_is p_is)
              ∙ one_by q.rule Q (conclusion t) (le-ltb 11 q.rule h) (ne_eqb q.rule 11 e);
        }

  module _ {p p' : Node} {at : ℕ} (found : NodeFound s q.next p) (after : TreePassed s q.next at) (found' : NodeFound s at p') where
    -- the two premises stand one after the other
    first_at : (t u : Tree) → Stands s q.next (write_nodes (t ▹ u ▹ ∅)) → NodesFit t → SequentAt s p (conclusion t)
    unfolding write_nodes
    first_at t u there fits = premise_at found t (stands_left (write_node t) (write_nodes (u ▹ ∅)) there) fits

    second_at : (t u : Tree) → Stands s q.next (write_nodes (t ▹ u ▹ ∅)) → NodesFit t → NodesFit u → SequentAt s p' (conclusion u)
    unfolding write_nodes
    second_at t u there fits fits' =
        let at_is = after.past t (stands_left (write_node t) (write_nodes (u ▹ ∅)) there) fits in
        premise_at found' u (rw at_is (stands_left (write_node u) (write_nodes ∅) (stands_right (write_node t) (write_nodes (u ▹ ∅)) there))) fits'

    module _ {k : Bool} (keeps : Keeps s q p k) where
      pub two_changed : k ≡ false → TwoPremises s q false
      unfolding two_test
      two_changed is_false = record {
        right = λ rule c Q t u rule_is cut_at q_is there fits fits'. no_first _ (sym (keeps.right Q (conclusion t) q_is (first_at t u there fits)) ∙ is_false);
      }

      module _ (is_true : k ≡ true) {k' : Bool} (keeps' : Keeps s q p' k') where
        pub two_changed_second : k' ≡ false → TwoPremises s q false
        unfolding two_test
        two_changed_second is_false = record {
          right = λ rule c Q t u rule_is cut_at q_is there fits fits'.
              yes_first (sym (keeps.right Q (conclusion t) q_is (first_at t u there fits)) ∙ is_true)
              (no_first _ (sym (keeps'.right Q (conclusion u) q_is (second_at t u there fits fits')) ∙ is_false));
        }

        module _ (is_true' : k' ≡ true) {r : Bool} where
          pub two_cut : q.rule ≡ 1 → CutIs s q p p' r → TwoPremises s q r
          unfolding two_test
          two_cut e cut = record {
            right = λ rule c Q t u rule_is cut_at q_is there fits fits'.
                let p_is = first_at t u there fits in
                let p'_is = second_at t u there fits fits' in
                yes_first (sym (keeps.right Q (conclusion t) q_is p_is) ∙ is_true)
                (yes_first (sym (keeps'.right Q (conclusion u) q_is p'_is) ∙ is_true') (rw (eq-eqb q.rule 1 e) (cut.right c Q (conclusion t) (conclusion u) (cut_at e) q_is p_is p'_is)));
          }

          pub two_kept : (q.rule ≡ 1 → ⊥) → SomeStep s q.linear q p p' r → TwoPremises s q r
          unfolding two_test
          two_kept e tried = record {
            right = λ rule c Q t u rule_is cut_at q_is there fits fits'.
                let p_is = first_at t u there fits in
                let p'_is = second_at t u there fits fits' in
                yes_first (sym (keeps.right Q (conclusion t) q_is p_is) ∙ is_true)
                (yes_first (sym (keeps'.right Q (conclusion u) q_is p'_is) ∙ is_true')
                (rw (ne_eqb q.rule 1 e) (tried.right rule Q.linear Q (conclusion t) (conclusion u) rule_is q_is.linear_is q_is p_is p'_is)));
          }

-- ---- the step at a node

is_cut : (r : Rule) → rule_number r ≡ 1 → r ≡ Cut (cut_formula r)
unfolding cut_formula
is_cut r e = let c = cut_only r e in c.1 ∙ ap Cut (sym (ap cut_formula c.1))

module _ {s : List ℕ} {q : Node} where
  pub legal_past : 14 < q.rule → LegalStep s q false
  legal_past h = record { right = λ rule Q ps is fits shape. no_step rule Q (conclusions ps) (omega (arith, is.rule_is)) }

  module _ (h : q.rule ≤ 14) where
    pub legal_leaf : q.premises ≡ 0 → LegalStep s q true
    unfolding premise_count conclusions
    legal_leaf e = record { right = λ rule Q ps is fits shape. go rule Q ps (omega (arith, is.rule_is)) (sym is.count_is ∙ e) shape }
      where
        go : (rule : Rule) (Q : Sequent) (ps : Trees) → rule_number rule ≤ 14 → premise_count ps ≡ 0 → shape_fault rule Q (premise_count ps) ≡ none → true ≡ legal_step rule Q (conclusions ps)
        go rule Q ∅ low count shape = leaf_legal Q rule low shape
        go rule Q (t ▹ ps) low count shape = absurd (omega arith)

    pub legal_one : q.premises ≡ 1 → {r : Bool} → OnePremise s q r → LegalStep s q r
    unfolding premise_count conclusions write_nodes
    legal_one e {r} one = record { right = λ rule Q ps is fits shape. go rule Q ps is (omega (arith, is.rule_is)) (sym is.count_is ∙ e) fits shape }
      where
        go : (rule : Rule) (Q : Sequent) (ps : Trees) → NodeIs s q rule Q ps → rule_number rule ≤ 14 → premise_count ps ≡ 1 → NodesFit* ps → shape_fault rule Q (premise_count ps) ≡ none → r ≡ legal_step rule Q (conclusions ps)
        go rule Q ∅ is low count fits shape = absurd (omega arith)
        go rule Q (t ▹ ∅) is low count fits shape =
            one.right rule Q t is.rule_is (sequent_at is) (stands_left (write_node t) (write_nodes ∅) is.premises_are) fits.0
            ∙ ap (λ (n : ℕ). one_test n Q (conclusion t)) is.rule_is
            ∙ one_legal Q (conclusion t) rule low shape
        go rule Q (t ▹ u ▹ ps) is low count fits shape = absurd (omega arith)

    pub legal_two : (q.premises ≡ 0 → ⊥) → (q.premises ≡ 1 → ⊥) → {r : Bool} → TwoPremises s q r → LegalStep s q r
    unfolding premise_count conclusions
    legal_two no_leaf no_one {r} two = record { right = λ rule Q ps is fits shape. go rule Q ps is (omega (arith, is.rule_is)) fits shape }
      where
        go : (rule : Rule) (Q : Sequent) (ps : Trees) → NodeIs s q rule Q ps → rule_number rule ≤ 14 → NodesFit* ps → shape_fault rule Q (premise_count ps) ≡ none → r ≡ legal_step rule Q (conclusions ps)
        go rule Q ∅ is low fits shape = absurd (no_leaf is.count_is)
        go rule Q (t ▹ ∅) is low fits shape = absurd (no_one is.count_is)
        go rule Q (t ▹ u ▹ ∅) is low fits shape =
            two.right rule (cut_formula rule) Q t u is.rule_is (λ e. is.argument_is (cut_formula rule) (is_cut rule (sym is.rule_is ∙ e))) (sequent_at is) is.premises_are fits.0 fits.1.0
            ∙ ap (λ (n : ℕ). two_test n (cut_formula rule) Q (conclusion t) (conclusion u)) is.rule_is
            ∙ two_legal Q (conclusion t) (conclusion u) rule low shape
        go rule Q (t ▹ u ▹ v ▹ ps) is low fits shape = absurd (omega (arith, few_premises Q rule _ low shape))
