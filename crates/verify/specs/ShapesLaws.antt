-- Laws of `Shapes`: shape mode's test by the rule's number, and what the tests on bytes find. Assumes nothing.
use Rattle.std.specs.Prelude as code
use Rattle.std.specs.Prelude.{◌≡◌, Some, None, Bool, not, ◌⊎◌, ℕ, zero, suc, ◌+◌, ◌-◌, ◌*◌, ◌≤◌, ◌<◌, length}
use Rattle.std.specs.Bool.{then_some}
use Rattle.std.specs.Option.{option_or}
use Rattle.std.proofs.Math.Path.{refl, sym, ap}
use Rattle.std.proofs.Common.{ap₂, ◌∙◌, subst}
use Rattle.std.proofs.Math.Bool.{true, false}
use Rattle.std.proofs.lemmas.Bool.{false≢true}
use mathlib.Core.List.{List, [], ◌∷◌}
use Rattle.std.proofs.Math.Option.{Option, none, some}
use Rattle.std.proofs.Math.Logic.{inl, inr}
use native.Mathlib.Omega.{arith}
use borrow.Author.Tests.{eqb-true, eqb-false, eq-eqb, ne_eqb}
use Rattle.std.proofs.Math.Dec.{eqb}
use Rattle.std.proofs.Math.ListN.{get_or, get_or-eq_default}
use Rattle.logic.specs.Formula.{Formula, One, Bottom, Top, Zero, Atom, NegAtom, Tensor, Par, With, Plus, Lolli, OfCourse, WhyNot, negate, same, among, size}
use Rattle.logic.proofs.FormulaLaws.{same_iff, same_symmetric, different_same, size_positive}
use Rattle.wire.specs.Write.{write_formula, write_formulas}
use Rattle.logic.specs.Parts.{tag_of, name_of, left_part, right_part, is_literal, is_binary, is_unary, signs, make, signed}
use Rattle.logic.proofs.PartsLaws.{size_name, by_tag, same_signed}
use Rattle.logic.specs.Sequent.{Sequent}
use Rattle.logic.specs.Tree.{Rule, Axiom, Cut, OneIntro, BottomIntro, TensorIntro, ParIntro, TopIntro, WithIntro, PlusIntroLeft, PlusIntroRight, OfCourseIntro, WhyNotIntro, Weakening, Contraction, Dereliction, FocusPositive, FocusNegative, Blur, premise_count}
use Rattle.logic.specs.Verify as logic
use Rattle.logic.specs.Verify.{any, axiom_shaped, one_shaped, need, need_shape, need_premises, shape_fault}
use Rattle.logic.specs.VerifyLaws.{any_head, any_tail, any_same, among_any}
use Rattle.tree.specs.Places.{rule_number, Within, Passed, FormulaAt, Holds}
use Rattle.tree.specs.StandsLaws.{stands_head, stands_tail}
use Rattle.tree.specs.FormulaPlaces.{tag_at, atom_name, neg_atom_name, First, holds_first, holds_none}
use Rattle.tree.specs.declared.Span.{Span}
use Rattle.tree.specs.declared.Node.{Node}
use Rattle.verify.specs.Verdicts.{fault_of}
use Rattle.verify.specs.Shapes.{tagged, in_order, HasTag, IsAxiom, IsOne, Test, no_test, shape_tests, test_of, ShapeFault, Left}
use Rattle.verify.specs.declared.Fault.{Fault}
use Rattle.verify.specs.declared.Fault.TheVariants as fault
use Rattle.verify.specs.declared.Order.{Order}
use Rattle.verify.specs.declared.Order.TheVariants as order

-- ---- tests by tag

tensors : (fs : List Formula) → any (is_binary Tensor) fs ≡ any (tagged 6) fs
unfolding make signs
tensors = any_same (same_signed 6 (omega arith))

pars : (fs : List Formula) → any (is_binary Par) fs ≡ any (tagged 7) fs
unfolding make signs
pars = any_same (same_signed 7 (omega arith))

withs : (fs : List Formula) → any (is_binary With) fs ≡ any (tagged 8) fs
unfolding make signs
withs = any_same (same_signed 8 (omega arith))

pluses : (fs : List Formula) → any (is_binary Plus) fs ≡ any (tagged 9) fs
unfolding make signs
pluses = any_same (same_signed 9 (omega arith))

of_courses : (fs : List Formula) → any (is_unary OfCourse) fs ≡ any (tagged 11) fs
unfolding make signs
of_courses = any_same (same_signed 11 (omega arith))

bottoms : (fs : List Formula) → among Bottom fs ≡ any (tagged 1) fs
unfolding make signs
bottoms fs = among_any Bottom fs ∙ any_same (λ f. same_symmetric Bottom f ∙ same_signed 1 (omega arith) f) fs

tops : (fs : List Formula) → among Top fs ≡ any (tagged 2) fs
unfolding make signs
tops fs = among_any Top fs ∙ any_same (λ f. same_symmetric Top f ∙ same_signed 2 (omega arith) f) fs

-- each rule's test is the one by its number
shape_by_number : (r : Rule) (q : Sequent) (got : ℕ) → shape_fault r q got ≡ test_of (rule_number r) q.linear got
unfolding shape_fault rule_number test_of shape_tests
shape_by_number Axiom q got = refl
shape_by_number (Cut c) q got = refl
shape_by_number OneIntro q got = refl
shape_by_number BottomIntro q got = rw (bottoms q.linear)
shape_by_number TensorIntro q got = rw (tensors q.linear)
shape_by_number ParIntro q got = rw (pars q.linear)
shape_by_number TopIntro q got = rw (tops q.linear)
shape_by_number WithIntro q got = rw (withs q.linear)
shape_by_number PlusIntroLeft q got = rw (pluses q.linear)
shape_by_number PlusIntroRight q got = rw (pluses q.linear)
shape_by_number OfCourseIntro q got = rw (of_courses q.linear)
shape_by_number WhyNotIntro q got = refl
shape_by_number Weakening q got = refl
shape_by_number Contraction q got = refl
shape_by_number Dereliction q got = refl
shape_by_number (FocusPositive i) q got = refl
shape_by_number (FocusNegative i) q got = refl
shape_by_number Blur q got = refl

module _ {s : List ℕ} {n : Node} {x : code.Option Fault} where
  -- the test of the number found at the node, on its zone and its count
  pub shape_found : {k : ℕ} → n.rule ≡ k → ((fs : List Formula) → Holds s n.linear fs → x ≡ fault_of (test_of k fs n.premises)) → ShapeFault s n x
  shape_found {k} e h =
      record {
        is = λ r q ps is.
            h q.linear is.linear_is
            ∙ ap fault_of (ap (test_of k q.linear) is.count_is ∙ ap (λ (m : ℕ). test_of m q.linear (premise_count ps)) (sym e ∙ is.rule_is) ∙ sym (shape_by_number r q (premise_count ps)));
      }

  -- a test that rules share, from the first of them on
  pub shape_shared : (first count : ℕ) {test : Test} → ((k : ℕ) → k < count → test_of (first + k) ≡ test) → first ≤ n.rule → n.rule < first + count → ((fs : List Formula) → Holds s n.linear fs → x ≡ fault_of (test fs n.premises)) → ShapeFault s n x
  shape_shared first count {test} same low high h =
      let k : n.rule ≡ first + (n.rule - first) = omega arith in
      let shared : test_of n.rule ≡ test = ap test_of k ∙ same (n.rule - first) (omega arith) in
      shape_found refl λ fs there. h fs there ∙ sym (ap (λ (t : Test). fault_of (t fs n.premises)) shared)

-- a plus on either side
pub plus_shared : (k : ℕ) → k < 2 → test_of (8 + k) ≡ (λ fs got. in_order order.Count (any (tagged 9) fs) 1 got)
unfolding test_of shape_tests
plus_shared zero h = refl
plus_shared (suc zero) h = refl
plus_shared (suc (suc k)) h = absurd (omega arith)

-- the rules whose count alone is tested
pub count_shared : (k : ℕ) → k < 4 → test_of (11 + k) ≡ (λ fs got. need_premises 1 got none)
unfolding test_of shape_tests
count_shared zero h = refl
count_shared (suc zero) h = refl
count_shared (suc (suc zero)) h = refl
count_shared (suc (suc (suc zero))) h = refl
count_shared (suc (suc (suc (suc k)))) h = absurd (omega arith)

-- past 14 there is no test
test_none : (n : ℕ) (fs : List Formula) (got : ℕ) → 15 ≤ n → test_of n fs got ≡ none
unfolding test_of shape_tests
test_none n fs got h = ap (λ (t : List Formula → ℕ → Option logic.Fault). t fs got) (get_or-eq_default shape_tests no_test h)

pub shape_none : {s : List ℕ} {n : Node} → 15 ≤ n.rule → ShapeFault s n None
unfolding fault_of
shape_none {s} {n} h = shape_found refl λ fs there. sym (ap fault_of (test_none n.rule fs n.premises h))

-- ---- counts, and a shape before or after

module _ (expected given : ℕ) where
  agree : (f : logic.Fault) (o : Option logic.Fault) → given ≡ expected → need (eqb given expected) f o ≡ o
  agree f o e = rw (eq-eqb given expected e)

  differ : (f : logic.Fault) (o : Option logic.Fault) → (given ≡ expected → ⊥) → need (eqb given expected) f o ≡ some f
  differ f o e = rw (ne_eqb given expected e)

  pub count_passed : given ≡ expected → None ≡ fault_of (need_premises expected given none)
  unfolding fault_of
  count_passed e = sym (ap fault_of (agree (logic.wrong_premise_count expected given) none e))

  pub count_wrong : (given ≡ expected → ⊥) → Some (fault.Count expected given) ≡ fault_of (need_premises expected given none)
  unfolding fault_of
  count_wrong e = sym (ap fault_of (differ (logic.wrong_premise_count expected given) none e))

  -- a shape that is there, and one that is not
  pub order_shaped : (first : Order) {is_shaped : Bool} {x : code.Option Fault} → is_shaped ≡ true → x ≡ fault_of (need_premises expected given none) → x ≡ fault_of (in_order first is_shaped expected given)
  order_shaped order.Shape e h = rw e h
  order_shaped order.Count e h = rw e h

  pub order_unshaped : {first : Order} {is_shaped : Bool} → is_shaped ≡ false → first ≡ order.Shape → Some fault.Invalid ≡ fault_of (in_order first is_shaped expected given)
  unfolding fault_of
  order_unshaped e k = rw (e, k)

  pub order_counted : {first : Order} {is_shaped : Bool} → is_shaped ≡ false → first ≡ order.Count → given ≡ expected → Some fault.Invalid ≡ fault_of (in_order first is_shaped expected given)
  unfolding fault_of
  order_counted e k h = rw (e, k) (sym (ap fault_of (agree (logic.wrong_premise_count expected given) (some logic.invalid_rule) h)))

  pub order_miscounted : {first : Order} {is_shaped : Bool} → is_shaped ≡ false → first ≡ order.Count → (given ≡ expected → ⊥) → Some (fault.Count expected given) ≡ fault_of (in_order first is_shaped expected given)
  unfolding fault_of
  order_miscounted e k h = rw (e, k) (sym (ap fault_of (differ (logic.wrong_premise_count expected given) (some logic.invalid_rule) h)))

  -- the fault of a shape that is not there, and that of a count, in the rule's order
  module _ (is_shaped : Bool) {x y : code.Option Fault} (shape : x ≡ then_some (not is_shaped) fault.Invalid) (count : y ≡ fault_of (need_premises expected given none)) where
    pub order_shape : option_or x y ≡ fault_of (in_order order.Shape is_shaped expected given)
    order_shape = rw shape (go is_shaped)
      where
        go : (b : Bool) → option_or (then_some (not b) fault.Invalid) y ≡ fault_of (in_order order.Shape b expected given)
        go true = order_shaped order.Shape refl count
        go false = order_unshaped refl refl

    pub order_count : option_or y x ≡ fault_of (in_order order.Count is_shaped expected given)
    order_count = rw shape (go is_shaped (eqb given expected) refl)
      where
        or_none : (o : code.Option Fault) → option_or o None ≡ o
        or_none None = refl
        or_none (Some f) = refl

        go : (b c : Bool) → eqb given expected ≡ c → option_or y (then_some (not b) fault.Invalid) ≡ fault_of (in_order order.Count b expected given)
        go true c e = order_shaped order.Count refl (or_none y ∙ count)
        go false true e = let h = eqb-true given expected e in rw (count ∙ sym (count_passed h)) (order_counted refl refl h)
        go false false e = let h = eqb-false given expected e in rw (count ∙ sym (count_wrong h)) (order_miscounted refl refl h)

  -- the shape's own answer in its place
  pub order_answer : (first : Order) {b b' : Bool} {x : code.Option Fault} → x ≡ fault_of (in_order first b expected given) → b ≡ b' → x ≡ fault_of (in_order first b' expected given)
  order_answer first e k = e ∙ ap (λ (c : Bool). fault_of (in_order first c expected given)) k

-- ---- a tag looked for

-- the formulas from p on have the tag if those of the zone have it
pub record Seeking (s : List ℕ) (z : Span) (t p : ℕ) : Type 0 where
  pub ordered : z.start ≤ p
  pub within : p ≤ z.end
  pub left : (fs : List Formula) → Holds s z fs → Left s (record { start = p; end = z.end }) (tagged t) fs

module _ {s : List ℕ} {z : Span} {t : ℕ} (inside : Within (length s) z) where
  pub seeking_start : Seeking s z t z.start
  seeking_start = record { ordered = omega arith; within = inside.ordered; left = λ fs h. record { rest = fs; holds = h; same = refl } }

  module _ {p : ℕ} (k : Seeking s z t p) where
    pub seeking_end : z.end ≤ p → HasTag s z t false
    unfolding any
    seeking_end h = record { is = λ fs there. let l = k.left fs there in sym (l.same ∙ ap (any (tagged t)) (holds_none l.rest l.holds h)) }

    module _ (h : p < z.end) where
      first : (fs : List Formula) (there : Holds s z fs) → First s (record { start = p; end = z.end }) (k.left fs there).rest
      first fs there = holds_first (k.left fs there).rest (k.left fs there).holds h

      -- the tag at p is the first formula's
      here : (fs : List Formula) (there : Holds s z fs) → tagged t (first fs there).formula ≡ eqb (get_or s p 0) t
      here fs there = ap (λ (n : ℕ). eqb n t) (sym (tag_at (first fs there).formula (first fs there).there))

      by_first : (fs : List Formula) (there : Holds s z fs) → any (tagged t) fs ≡ any (tagged t) ((first fs there).formula ∷ (first fs there).others)
      by_first fs there = (k.left fs there).same ∙ ap (any (tagged t)) (first fs there).joined

      pub seeking_found : get_or s p 0 ≡ t → HasTag s z t true
      unfolding any
      seeking_found e = record { is = λ fs there. sym (by_first fs there ∙ any_head (tagged t) (first fs there).formula (first fs there).others (here fs there ∙ eq-eqb (get_or s p 0) t e)) }

      pub seeking_next : (get_or s p 0 ≡ t → ⊥) → {next : ℕ} → Passed s p z.end next → Seeking s z t next
      seeking_next e {next} passed =
          record {
            ordered = omega (arith, k.ordered, passed.further);
            within = passed.within;
            left = λ fs there.
                let f = first fs there in
                record {
                  rest = f.others;
                  holds = f.holds next (passed.past f.formula f.there f.within);
                  same = by_first fs there ∙ any_tail (tagged t) f.formula f.others (here fs there ∙ ne_eqb (get_or s p 0) t e);
                };
          }

-- ---- 1 alone

one_tag : (f : Formula) → same One f ≡ eqb (tag_of f) 0
unfolding make signs
one_tag f = same_symmetric One f ∙ same_signed 0 (omega arith) f

module _ {s : List ℕ} {z : Span} where
  pub not_one : (z.end - z.start ≡ 1 → ⊥) → IsOne s z false
  unfolding one_shaped write_formulas write_formula
  not_one k = record { is = by_cases }
    where
      by_cases : (fs : List Formula) → Holds s z fs → false ≡ one_shaped fs
      by_cases [] h = refl
      by_cases (f ∷ []) h = go (same One f) refl
        where
          go : (b : Bool) → same One f ≡ b → false ≡ b
          go false e = refl
          go true e = absurd (k (one_long (subst (λ (f : Formula). Holds s z (f ∷ [])) (sym ((same_iff One f).0 e)) h)))
            where
              one_long : Holds s z (One ∷ []) → z.end - z.start ≡ 1
              one_long h = omega (arith, h.ends)
      by_cases (f ∷ g ∷ gs) h = refl

  pub one_found : z.end - z.start ≡ 1 → IsOne s z (eqb (get_or s z.start 0) 0)
  unfolding one_shaped
  one_found k =
      record {
        is = λ fs h.
            let f = holds_first fs h (omega arith) in
            let n : size f.formula ≡ 1 = omega (arith, f.within, size_positive f.formula) in
            let others : f.others ≡ [] = holds_none f.others (f.holds (z.start + size f.formula) refl) (omega arith) in
            ap (λ (n : ℕ). eqb n 0) (tag_at f.formula f.there) ∙ sym (one_tag f.formula) ∙ sym (ap one_shaped (f.joined ∙ ap (λ (gs : List Formula). f.formula ∷ gs) others));
      }

-- ---- a name and the same name negated

-- names are compared as numbers
same_names : (sign : ℕ → Formula) → ((a : ℕ) → name_of (sign a) ≡ a) → (a b : ℕ) → same (sign a) (sign b) ≡ eqb a b
same_names sign e a b = go (eqb a b) refl
  where
    go : (t : Bool) → eqb a b ≡ t → same (sign a) (sign b) ≡ t
    go true h = (same_iff (sign a) (sign b)).1 (ap sign (eqb-true a b h))
    go false h = different_same (sign a) (sign b) (λ k. eqb-false a b h (sym (e a) ∙ ap name_of k ∙ e b))

same_atoms : (a b : ℕ) → same (Atom a) (Atom b) ≡ eqb a b
unfolding name_of
same_atoms = same_names Atom (λ a. refl)

same_neg_atoms : (a b : ℕ) → same (NegAtom a) (NegAtom b) ≡ eqb a b
unfolding name_of
same_neg_atoms = same_names NegAtom (λ a. refl)

-- what an axiom's zone is in bytes, but for the name
pub record AxiomBytes (s : List ℕ) (z : Span) : Type 0 where
  pub six : z.end - z.start ≡ 6
  pub signs : ((get_or s z.start 0 ≡ 4) × (get_or s (z.start + 3) 0 ≡ 5)) ⊎ ((get_or s z.start 0 ≡ 5) × (get_or s (z.start + 3) 0 ≡ 4))

module _ {s : List ℕ} {z : Span} where
  pos_bytes : (a : ℕ) → Holds s z (Atom a ∷ NegAtom a ∷ []) → AxiomBytes s z
  unfolding write_formulas write_formula
  pos_bytes a h =
      let fourth : get_or s (z.start + 1 + 1 + 1) 0 ≡ 5 = stands_head (stands_tail (stands_tail (stands_tail h.stands))) in
      let n : z.start + 1 + 1 + 1 ≡ z.start + 3 = omega arith in
      record { six = omega (arith, h.ends); signs = inl (stands_head h.stands, ap (λ (k : ℕ). get_or s k 0) (sym n) ∙ fourth) }

  neg_bytes : (a : ℕ) → Holds s z (NegAtom a ∷ Atom a ∷ []) → AxiomBytes s z
  unfolding write_formulas write_formula
  neg_bytes a h =
      let fourth : get_or s (z.start + 1 + 1 + 1) 0 ≡ 4 = stands_head (stands_tail (stands_tail (stands_tail h.stands))) in
      let n : z.start + 1 + 1 + 1 ≡ z.start + 3 = omega arith in
      record { six = omega (arith, h.ends); signs = inr (stands_head h.stands, ap (λ (k : ℕ). get_or s k 0) (sym n) ∙ fourth) }

  axiom_pair : (f g : Formula) → Holds s z (f ∷ g ∷ []) → axiom_shaped (f ∷ g ∷ []) ≡ true → AxiomBytes s z
  unfolding axiom_shaped is_literal negate
  axiom_pair One g h e = absurd (false≢true e)
  axiom_pair Bottom g h e = absurd (false≢true e)
  axiom_pair Top g h e = absurd (false≢true e)
  axiom_pair Zero g h e = absurd (false≢true e)
  axiom_pair (Atom a) g h e = pos_bytes a (subst (λ (g : Formula). Holds s z (Atom a ∷ g ∷ [])) (sym ((same_iff (NegAtom a) g).0 e)) h)
  axiom_pair (NegAtom a) g h e = neg_bytes a (subst (λ (g : Formula). Holds s z (NegAtom a ∷ g ∷ [])) (sym ((same_iff (Atom a) g).0 e)) h)
  axiom_pair (Tensor a b) g h e = absurd (false≢true e)
  axiom_pair (Par a b) g h e = absurd (false≢true e)
  axiom_pair (With a b) g h e = absurd (false≢true e)
  axiom_pair (Plus a b) g h e = absurd (false≢true e)
  axiom_pair (Lolli a b) g h e = absurd (false≢true e)
  axiom_pair (OfCourse a) g h e = absurd (false≢true e)
  axiom_pair (WhyNot a) g h e = absurd (false≢true e)

  axiom_bytes : (fs : List Formula) → Holds s z fs → axiom_shaped fs ≡ true → AxiomBytes s z
  unfolding axiom_shaped
  axiom_bytes [] h e = absurd (false≢true e)
  axiom_bytes (f ∷ []) h e = absurd (false≢true e)
  axiom_bytes (f ∷ g ∷ []) h e = axiom_pair f g h e
  axiom_bytes (f ∷ g ∷ k ∷ ks) h e = absurd (false≢true e)

  pub not_axiom : (AxiomBytes s z → ⊥) → IsAxiom s z false
  not_axiom k = record { is = λ fs h. go fs h (axiom_shaped fs) refl }
    where
      go : (fs : List Formula) → Holds s z fs → (b : Bool) → axiom_shaped fs ≡ b → false ≡ b
      go fs h false e = refl
      go fs h true e = absurd (k (axiom_bytes fs h e))

-- the formula of a name's tag is three bytes long
three_long : (f : Formula) (t : ℕ) → tag_of f ≡ t → 4 ≤ t → t < 6 → size f ≡ 3
three_long f t e k l = ap size (by_tag t f e) ∙ size_name (name_of f) (left_part f) (right_part f) t k l

-- two names, with their signs and nothing behind
record Pair (s : List ℕ) (z : Span) (t u : ℕ) (fs : List Formula) : Type 0 where
  one : Formula
  other : Formula
  joined : fs ≡ one ∷ other ∷ []
  one_tag_is : tag_of one ≡ t
  other_tag_is : tag_of other ≡ u
  one_there : FormulaAt s z.start one
  other_there : FormulaAt s (z.start + 3) other

module _ (s : List ℕ) (z : Span) where
  pair : (t u : ℕ) → (4 ≤ t) × (t < 6) → (4 ≤ u) × (u < 6) → z.end - z.start ≡ 6 → get_or s z.start 0 ≡ t → get_or s (z.start + 3) 0 ≡ u → (fs : List Formula) → Holds s z fs → Pair s z t u fs
  pair t u name name' six e e' fs h =
      let f = holds_first fs h (omega arith) in
      let tag_f : tag_of f.formula ≡ t = sym (tag_at f.formula f.there) ∙ e in
      let n : size f.formula ≡ 3 = three_long f.formula t tag_f name.0 name.1 in
      let g = holds_first f.others (f.holds (z.start + 3) (ap (◌+◌ z.start) (sym n))) (omega arith) in
      let tag_g : tag_of g.formula ≡ u = sym (tag_at g.formula g.there) ∙ e' in
      let m : size g.formula ≡ 3 = three_long g.formula u tag_g name'.0 name'.1 in
      let none_left : g.others ≡ [] = holds_none g.others (g.holds (z.start + 3 + size g.formula) refl) (omega arith) in
      record {
        one = f.formula;
        other = g.formula;
        joined = f.joined ∙ ap (λ (gs : List Formula). f.formula ∷ gs) (g.joined ∙ ap (λ (gs : List Formula). g.formula ∷ gs) none_left);
        one_tag_is = tag_f;
        other_tag_is = tag_g;
        one_there = f.there;
        other_there = g.there;
      }

  module _ (six : z.end - z.start ≡ 6) {a b : ℕ} (one_name : a ≡ get_or s (z.start + 1) 0 * 256 + get_or s (z.start + 1 + 1) 0) (other_name : b ≡ get_or s (z.start + 4) 0 * 256 + get_or s (z.start + 4 + 1) 0) where
    other_name' : b ≡ get_or s (z.start + 3 + 1) 0 * 256 + get_or s (z.start + 3 + 1 + 1) 0
    other_name' = let four : z.start + 4 ≡ z.start + 3 + 1 = omega arith in other_name ∙ ap (λ (k : ℕ). get_or s k 0 * 256 + get_or s (k + 1) 0) four

    -- two names of these signs, one of them negated
    names_found : (t u : ℕ) (f g : ℕ → Formula) → (4 ≤ t) × (t < 6) → (4 ≤ u) × (u < 6) → ((h : Formula) → signed t h ≡ f (name_of h)) → ((h : Formula) → signed u h ≡ g (name_of h))
        → ((n : ℕ) → FormulaAt s z.start (f n) → a ≡ n) → ((n : ℕ) → FormulaAt s (z.start + 3) (g n) → b ≡ n) → ((n k : ℕ) → axiom_shaped (f n ∷ g k ∷ []) ≡ eqb n k)
        → get_or s z.start 0 ≡ t → get_or s (z.start + 3) 0 ≡ u → IsAxiom s z (eqb a b)
    names_found t u f g name name' made made' first second shaped e e' =
        record {
          is = λ fs h.
              let p = pair t u name name' six e e' fs h in
              let one : p.one ≡ f (name_of p.one) = by_tag t p.one p.one_tag_is ∙ made p.one in
              let other : p.other ≡ g (name_of p.other) = by_tag u p.other p.other_tag_is ∙ made' p.other in
              let x : a ≡ name_of p.one = first _ (subst (FormulaAt s z.start) one p.one_there) in
              let y : b ≡ name_of p.other = second _ (subst (FormulaAt s (z.start + 3)) other p.other_there) in
              ap₂ eqb x y ∙ sym (shaped _ _) ∙ sym (ap axiom_shaped (p.joined ∙ ap₂ (λ (f g : Formula). f ∷ g ∷ []) one other));
        }

    pub axiom_found : get_or s z.start 0 ≡ 4 → get_or s (z.start + 3) 0 ≡ 5 → IsAxiom s z (eqb a b)
    unfolding axiom_shaped is_literal negate make signs
    axiom_found =
        names_found 4 5 Atom NegAtom (omega arith, omega arith) (omega arith, omega arith) (λ h. refl) (λ h. refl) (λ n h. one_name ∙ atom_name n h) (λ n h. other_name' ∙ neg_atom_name n h) same_neg_atoms

    pub axiom_found_turned : get_or s z.start 0 ≡ 5 → get_or s (z.start + 3) 0 ≡ 4 → IsAxiom s z (eqb a b)
    unfolding axiom_shaped is_literal negate make signs
    axiom_found_turned =
        names_found 5 4 NegAtom Atom (omega arith, omega arith) (omega arith, omega arith) (λ h. refl) (λ h. refl) (λ n h. one_name ∙ neg_atom_name n h) (λ n h. other_name' ∙ atom_name n h) same_atoms
