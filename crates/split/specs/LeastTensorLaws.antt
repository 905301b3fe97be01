-- Laws of the least place and mask of a tensor whose premises stand in a tree: one for each way out of `least_tensor`. Assumes nothing.
use Rattle.std.specs.Prelude.{◌≡◌, Bool, ℕ, ◌+◌, ◌≤◌, ◌<◌, take, Option, None}
use Rattle.std.proofs.Math.Path.{refl, ap, ap₂, subst}
use Rattle.std.proofs.Common.{sym, ◌∙◌, arith}
use Rattle.std.proofs.Math.Bool.{true, false}
use Rattle.std.proofs.lemmas.Bool.{false≢true}
use mathlib.Core.List.{List, [], ◌∷◌, ◌++◌, map}
use Rattle.std.proofs.Math.ListN.{length}
use Rattle.logic.specs.Sequent.{Sequent, ◌﹔◌}
use Rattle.logic.specs.Split.{left_of, right_of}
use Rattle.logic.specs.Tree.{
  Rule,
  Axiom,
  Cut,
  OneIntro,
  BottomIntro,
  TensorIntro,
  ParIntro,
  TopIntro,
  WithIntro,
  PlusIntroLeft,
  PlusIntroRight,
  OfCourseIntro,
  WhyNotIntro,
  Weakening,
  Contraction,
  Dereliction,
  FocusPositive,
  FocusNegative,
  Blur,
  Trees,
  node,
  ∅,
  ◌▹◌,
  conclusions,
  premise_count,
}
use Rattle.wire.specs.Write.{write_node, write_nodes}
use Rattle.wire.specs.Fits.{NodesFit*}
use Rattle.tree.specs.Stands.{Stands}
use Rattle.tree.specs.StandsLaws.{stands_left, stands_right}
use Rattle.tree.specs.Places.{rule_number, Holds, NodeIs, NodeFound, TreePassed}
use Rattle.tree.specs.declared.Node.{Node}
use Rattle.tree.specs.declared.Span.{Span}
use Rattle.held.specs.Words.{told}
use Rattle.zones.specs.declared.Zones.{Zones}
use Rattle.zones.specs.Zones.{remove}
use Rattle.expand.specs.Writing.{Sound, FirstAt}
use Rattle.short.specs.Short.{follow}
use Rattle.short.specs.Steps.{all_passed}
use Rattle.short.proofs.StepsLaws.{passed_all_passed}
use Rattle.short.specs.Making.{mismatch}
use Rattle.short.specs.Shortening.{fits, least}
use Rattle.short.proofs.LeastLaws.{same_zone_iff, fits_takes, least_none}
use Rattle.shown.specs.Matching.{UnrestrictedShown}
use Rattle.step.specs.Taking.{sequent}
use Rattle.split.specs.Splitting.{Linear, LabelsListed, LabelsNone, Splitting, SplitTo, least_of, LeastStep}
use Rattle.split.specs.Tensors.{Each, Passes, TensorFits, TwoPremises}
use Rattle.split.specs.TensorLaws.{each_left, each_right, each_remove, each_at, each_by, passed_each, each_passed, taken_passed, fits_tensor}
use Rattle.split.specs.SplittingLaws.{linear_long, formula_told}

-- ---- the rule and the two trees

-- the rule with the number 4
pub rule_four : (r : Rule) → 4 ≡ rule_number r → r ≡ TensorIntro
unfolding rule_number
rule_four TensorIntro e = refl
rule_four Axiom e = absurd (omega arith)
rule_four (Cut c) e = absurd (omega arith)
rule_four OneIntro e = absurd (omega arith)
rule_four BottomIntro e = absurd (omega arith)
rule_four ParIntro e = absurd (omega arith)
rule_four TopIntro e = absurd (omega arith)
rule_four WithIntro e = absurd (omega arith)
rule_four PlusIntroLeft e = absurd (omega arith)
rule_four PlusIntroRight e = absurd (omega arith)
rule_four OfCourseIntro e = absurd (omega arith)
rule_four WhyNotIntro e = absurd (omega arith)
rule_four Weakening e = absurd (omega arith)
rule_four Contraction e = absurd (omega arith)
rule_four Dereliction e = absurd (omega arith)
rule_four (FocusPositive n) e = absurd (omega arith)
rule_four (FocusNegative n) e = absurd (omega arith)
rule_four Blur e = absurd (omega arith)

module _ {s : List ℕ} {at next : ℕ} {first second : Node} (here : NodeFound s at first) (passed : TreePassed s at next) (there : NodeFound s next second) where
  -- where two trees stand their nodes' zones do
  premises_found : (ps : Trees) → Stands s at (write_nodes ps) → NodesFit* ps → premise_count ps ≡ 2 → TwoPremises s first second (conclusions ps)
  unfolding premise_count conclusions write_nodes
  premises_found ∅ stands fit two = absurd (omega arith)
  premises_found (t ▹ ∅) stands fit two = absurd (omega arith)
  premises_found (t ▹ u ▹ v ▹ ps) stands fit two = absurd (omega arith)
  premises_found (node r q ts ▹ node r' q' us ▹ ∅) stands fit two =
      let t : Stands s at (write_node (node r q ts)) = stands_left (write_node (node r q ts)) (write_node (node r' q' us) ++ []) stands in
      let after : next ≡ at + length (write_node (node r q ts)) = passed.past (node r q ts) t fit.0 in
      let u : Stands s next (write_node (node r' q' us)) =
      stands_left (write_node (node r' q' us)) []
      (subst (λ (p : ℕ). Stands s p (write_node (node r' q' us) ++ [])) (sym after) (stands_right (write_node (node r q ts)) (write_node (node r' q' us) ++ []) stands)) in
      let one : NodeIs s first r q ts = here.is r q ts t fit.0.0 in
      let two : NodeIs s second r' q' us = there.is r' q' us u fit.1.0.0 in
      record {
        one = q;
        two = q';
        are = refl;
        one_linear = one.linear_is;
        one_unrestricted = one.unrestricted_is;
        one_few = omega (arith, fit.0.0.zones_fit.few_formulas);
        two_linear = two.linear_is;
        two_unrestricted = two.unrestricted_is;
        two_few = omega (arith, fit.1.0.0.zones_fit.few_formulas);
      }

-- ---- a decomposable formula

module _ {m : List ℕ} {z : Zones} (sound : Sound m z) {k : ℕ} (first : FirstAt m z k) where
  -- none is
  pub none_decomposable : z.linear_len ≤ k → all_passed (sequent m z).linear ≡ true
  none_decomposable h =
      passed_all_passed
      (each_passed
      (each_by {P = Passes} (sequent m z).linear (λ i l.
      let low : i < z.linear_len = omega (arith, linear_long sound) in
      rw (formula_told sound i low) (first.passed i (omega arith)))))

  -- or one is: no tensor's step can be taken
  pub some_decomposable : {s : List ℕ} {at : ℕ} → k < z.linear_len → LeastStep m z 4 s at None
  some_decomposable {s} {at} l = record {
    taken = tt;
    is = λ r ps fs number stands fit two.
        subst (λ (r : Rule). least r (sequent m z) (conclusions ps) fs ≡ (mismatch, fs)) (sym (rule_four r number))
        (least_none TensorIntro (sequent m z) (conclusions ps) fs (λ i mask. go (conclusions ps) i mask (fits TensorIntro (sequent m z) (conclusions ps) i mask) refl));
  }
    where
      go : (ds : List Sequent) (i mask : ℕ) (b : Bool) → fits TensorIntro (sequent m z) ds i mask ≡ b → b ≡ false
      go ds i mask false e = refl
      go ds i mask true e =
          let ps = passed_each (taken_passed (sequent m z) i mask (fits_takes TensorIntro (sequent m z) ds i mask e)) in
          let plain = each_at {P = Passes} ps k (omega (arith, linear_long sound)) in
          absurd (false≢true (sym plain ∙ rw (formula_told sound k l) (first.here l)))

-- ---- the premises' numbers

pub splitting : {m : List ℕ} {z : Zones} {s : List ℕ} {zone zone' : Span} {n k left right : ℕ} {l r : List ℕ} → Sound m z → all_passed (sequent m z).linear ≡ true
    → LabelsListed m z s zone n left l → LabelsListed m z s zone' k right r → Splitting m z s left right (take n l) (take k r)
splitting sound ps ls rs = record {
  sound = sound;
  passed = ps;
  left_inside = ls.inside;
  right_inside = rs.inside;
  left_below = ls.below;
  right_below = rs.below;
}

-- ---- the premises compared with the sequent

module _ {m : List ℕ} {z : Zones} (sound : Sound m z) {s : List ℕ} {at next : ℕ} {first second : Node} (here : NodeFound s at first) (passed : TreePassed s at next)
    (there : NodeFound s next second) where
  -- no tensor's step has such premises
  nowhere_by : ((one two : Sequent) → Holds s first.linear one.linear → Holds s first.unrestricted one.unrestricted → length one.linear ≤ 31
      → Holds s second.linear two.linear → Holds s second.unrestricted two.unrestricted → length two.linear ≤ 31 → (i mask : ℕ)
      → TensorFits (sequent m z) one two i mask → ⊥) → LeastStep m z 4 s at None
  unfolding follow
  nowhere_by never = record {
    taken = tt;
    is = λ r ps fs number stands fit two.
        let tensor : r ≡ TensorIntro = rule_four r number in
        let p = premises_found here passed there ps stands fit (two ∙ ap follow tensor) in
        subst (λ (r : Rule). least r (sequent m z) (conclusions ps) fs ≡ (mismatch, fs)) (sym tensor)
        (least_none TensorIntro (sequent m z) (conclusions ps) fs (λ i mask. go (conclusions ps) p i mask (fits TensorIntro (sequent m z) (conclusions ps) i mask) refl));
  }
    where
      go : (ds : List Sequent) → TwoPremises s first second ds → (i mask : ℕ) (b : Bool) → fits TensorIntro (sequent m z) ds i mask ≡ b → b ≡ false
      go ds p i mask false e = refl
      go ds p i mask true e =
          absurd
          (never p.one p.two p.one_linear p.one_unrestricted p.one_few p.two_linear p.two_unrestricted p.two_few i mask
          (fits_tensor (sequent m z) i mask p.one p.two (ap (λ (ds : List Sequent). fits TensorIntro (sequent m z) ds i mask) (sym p.are) ∙ e)))

  -- another unrestricted zone
  pub other_unrestricted : {b : Bool} → UnrestrictedShown m z s first.unrestricted b → b ≡ false → LeastStep m z 4 s at None
  other_unrestricted shown other =
      nowhere_by (λ one two a b c a' b' c' i mask f. false≢true (sym other ∙ shown.right one.unrestricted b ∙ (same_zone_iff _ _).1 (sym f.left_unrestricted)))

  pub other_unrestricted_second : {b : Bool} → UnrestrictedShown m z s second.unrestricted b → b ≡ false → LeastStep m z 4 s at None
  other_unrestricted_second shown other =
      nowhere_by (λ one two a b c a' b' c' i mask f. false≢true (sym other ∙ shown.right two.unrestricted b' ∙ (same_zone_iff _ _).1 (sym f.right_unrestricted)))

  -- a formula that is no linear one, or no formula: a split's halves are linear formulas, and each premise has one more
  each_linear : Each (Linear m z) (sequent m z).linear
  each_linear = each_by (sequent m z).linear (λ k l.
      let low : k < z.linear_len = omega (arith, linear_long sound) in
      record { place = k; low = low; here = sym (formula_told sound k low) })

  pub other_linear : LabelsNone m z s first.linear → LeastStep m z 4 s at None
  other_linear none =
      nowhere_by (λ one two a b c a' b' c' i mask f.
      none.is one.linear a c (left_of mask (remove i (sequent m z).linear)) _ f.left_linear
      record { each = each_at (each_left mask (each_remove i each_linear)) })

  pub other_linear_second : LabelsNone m z s second.linear → LeastStep m z 4 s at None
  other_linear_second none =
      nowhere_by (λ one two a b c a' b' c' i mask f.
      none.is two.linear a' c' (right_of mask (remove i (sequent m z).linear)) _ f.right_linear
      record { each = each_at (each_right mask (each_remove i each_linear)) })

  -- what is found for the premises' numbers
  module _ {b b' : Bool} (shown : UnrestrictedShown m z s first.unrestricted b) (same : b ≡ true)
      (shown' : UnrestrictedShown m z s second.unrestricted b') (same' : b' ≡ true)
      {n k left right : ℕ} {l r : List ℕ} (ls : LabelsListed m z s first.linear n left l) (rs : LabelsListed m z s second.linear k right r) where
    pub split_is : {x : Option (ℕ × ℕ)} → SplitTo m z s left right (take n l) (take k r) x → LeastStep m z 4 s at x
    unfolding follow
    split_is {x} found = record {
      taken = found.taken;
      is = λ rule ps fs number stands fit two.
          let tensor : rule ≡ TensorIntro = rule_four rule number in
          let p = premises_found here passed there ps stands fit (two ∙ ap follow tensor) in
          let a = ls.is p.one.linear p.one_linear in
          let b = rs.is p.two.linear p.two_linear in
          let one : p.one ≡ (map (told m) (take n l) ++ (a.final ∷ []) ﹔ (sequent m z).unrestricted) =
          λ j. record { linear = (a.all j); unrestricted = (sym ((same_zone_iff _ _).0 (sym (shown.right p.one.unrestricted p.one_unrestricted) ∙ same)) j) } in
          let two : p.two ≡ (map (told m) (take k r) ++ (b.final ∷ []) ﹔ (sequent m z).unrestricted) =
          λ j. record { linear = (b.all j); unrestricted = (sym ((same_zone_iff _ _).0 (sym (shown'.right p.two.unrestricted p.two_unrestricted) ∙ same')) j) } in
          subst (λ (rule : Rule). least rule (sequent m z) (conclusions ps) fs ≡ (least_of x, fs)) (sym tensor)
          (ap (λ (ds : List Sequent). least TensorIntro (sequent m z) ds fs) (p.are ∙ ap₂ (λ (d e : Sequent). d ∷ e ∷ []) one two)
          ∙ found.is a.final b.final a.there b.there fs);
    }
