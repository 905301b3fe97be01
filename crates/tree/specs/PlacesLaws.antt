-- Laws of `Places`: what the code's places hold where something written stands. Assumes nothing.
use Rattle.std.specs.Prelude.{◌≡◌, refl, ◌⊎◌, Result, Ok, Err}
use Rattle.std.specs.Result.{result_unwrap_or}
use Rattle.std.proofs.Common.{sym, ◌∙◌, ⊎_elim}
use Rattle.std.proofs.Math.Path.{ap, subst}
use mathlib.Core.List.{List, ◌∷◌, ◌++◌, append_assoc, append-nil}
use Prim.Native.Nat.{ℕ, ◌+◌, ◌-◌, ◌*◌, ◌/◌, ◌%◌, ◌≤◌, ◌<◌, min}
use native.Mathlib.Omega.{arith}
use Rattle.std.proofs.Math.ListN.{length, get_or, length-append}
use Rattle.std.proofs.Math.Seq.{slice, length-slice}
use Rattle.logic.specs.Formula.{Formula, size}
use Rattle.logic.proofs.FormulaLaws.{size_positive}
use Rattle.logic.specs.Sequent.{Sequent}
use Rattle.logic.specs.Tree.{
  Rule,
  Axiom,
  Cut,
  OneIntro,
  BottomIntro,
  TensorIntro,
  ParIntro,
  TopIntro,
  WithIntro,
  PlusIntroLeft,
  PlusIntroRight,
  OfCourseIntro,
  WhyNotIntro,
  Weakening,
  Contraction,
  Dereliction,
  FocusPositive,
  FocusNegative,
  Blur,
  Tree,
  Trees,
  node,
  ∅,
  ◌▹◌,
  premise_count,
}
use Rattle.wire.specs.Write.{two_bytes, write_formula, write_formulas, write_zone, write_rule, write_node, write_nodes}
use Rattle.wire.specs.Read.{read_formula, highest_formula}
use Rattle.wire.specs.Fits.{Bytes, FormulaFits, RuleFits, NodeFits, NodesFit, NodesFit*}
use Rattle.wire.proofs.FormulaBytes.{length_write, read_write}
use Rattle.formula.specs.Answers.{reads}
use Rattle.formula.specs.ReadingLaws.{reached}
use Rattle.formula.specs.declared.Refusal.{Refusal}
use Rattle.tree.specs.Stands.{Stands}
use Rattle.tree.specs.StandsLaws.{stands_left, stands_right, stands_head, stands_tail, stands_inside, stands_join, stands_slice}
use Rattle.tree.specs.Places.{FormulaAt, follow, rule_number, argument_bytes, Passed, ZoneFound, ArgumentPassed, NodeIs, NodeFound, TreePassed}
use Rattle.tree.specs.declared.Span.{Span}
use Rattle.tree.specs.declared.Node.{Node}

-- ---- a formula passed

-- a formula that stands there is read, and what follows is the next place
formula_there : (s : List ℕ) (at end : ℕ) (f : Formula) → FormulaAt s at f → at + size f ≤ end → end ≤ length s → reads end (read_formula highest_formula (slice at end s)) ≡ Ok (at + size f)
unfolding reads
formula_there s at end f h k k' =
    let n : length (write_formula f) ≡ size f = length_write f in
    let next : end - length (slice (at + length (write_formula f)) end s) ≡ at + size f = rw (length-slice (at + length (write_formula f)) end s k') (omega arith) in
    rw (stands_slice end h.stands (omega arith) k', read_write highest_formula f (slice (at + length (write_formula f)) end s) h.fits.height_fits h.fits.names_fit) (ap Ok next)

module _ (s : List ℕ) (at end : ℕ) (here : at < end) (inside : end ≤ length s) {x : Result ℕ Refusal} (e : x ≡ reads end (read_formula highest_formula (slice at end s))) where
  pub passed_next : Bytes s → {next : ℕ} → x ≡ Ok next → Passed s at end next
  passed_next bytes {next} e' =
      let there = reached s bytes end inside highest_formula at next (omega arith) (sym e ∙ e') in
      record {
        further = omega (arith, there.after, size_positive there.formula);
        within = there.within;
        past = λ f h k. let n : Ok next ≡ Ok (at + size f) = sym e' ∙ e ∙ formula_there s at end f h k inside in (cc);
      }

  pub passed_refused : {why : Refusal} → x ≡ Err why → Passed s at end end
  passed_refused e' =
      record {
        further = here;
        within = omega arith;
        past = λ f h k. let n : Err _ ≡ Ok (at + size f) = sym e' ∙ e ∙ formula_there s at end f h k inside in let z : ◌≡◌ {A = ℕ} 0 1 = cc in absurd (omega arith);
      }

  -- the next place, and `end` where the formula is refused
  pub passed_or : Bytes s → {r : ℕ} → r ≡ result_unwrap_or x end → Passed s at end r
  passed_or bytes {r} k = go x refl k
    where
      go : (y : Result ℕ Refusal) → x ≡ y → r ≡ result_unwrap_or y end → Passed s at end r
      go (Ok next) here k = rw k (passed_next bytes here)
      go (Err why) here k = rw k (passed_refused here)

-- ---- a rule's argument

write_rule_is : (r : Rule) → write_rule r ≡ rule_number r ∷ argument_bytes r
unfolding write_rule rule_number argument_bytes
write_rule_is Axiom = refl
write_rule_is (Cut c) = refl
write_rule_is OneIntro = refl
write_rule_is BottomIntro = refl
write_rule_is TensorIntro = refl
write_rule_is ParIntro = refl
write_rule_is TopIntro = refl
write_rule_is WithIntro = refl
write_rule_is PlusIntroLeft = refl
write_rule_is PlusIntroRight = refl
write_rule_is OfCourseIntro = refl
write_rule_is WhyNotIntro = refl
write_rule_is Weakening = refl
write_rule_is Contraction = refl
write_rule_is Dereliction = refl
write_rule_is (FocusPositive i) = refl
write_rule_is (FocusNegative i) = refl
write_rule_is Blur = refl

-- which rules have an argument
pub cut_only : (r : Rule) → rule_number r ≡ 1 → (c : Formula) × (r ≡ Cut c)
unfolding rule_number
cut_only Axiom e = absurd (omega arith)
cut_only (Cut c) e = (c, refl)
cut_only OneIntro e = absurd (omega arith)
cut_only BottomIntro e = absurd (omega arith)
cut_only TensorIntro e = absurd (omega arith)
cut_only ParIntro e = absurd (omega arith)
cut_only TopIntro e = absurd (omega arith)
cut_only WithIntro e = absurd (omega arith)
cut_only PlusIntroLeft e = absurd (omega arith)
cut_only PlusIntroRight e = absurd (omega arith)
cut_only OfCourseIntro e = absurd (omega arith)
cut_only WhyNotIntro e = absurd (omega arith)
cut_only Weakening e = absurd (omega arith)
cut_only Contraction e = absurd (omega arith)
cut_only Dereliction e = absurd (omega arith)
cut_only (FocusPositive i) e = absurd (omega arith)
cut_only (FocusNegative i) e = absurd (omega arith)
cut_only Blur e = absurd (omega arith)

two_only : (r : Rule) → 15 ≤ rule_number r → rule_number r < 17 → length (argument_bytes r) ≡ 2
unfolding rule_number argument_bytes
two_only Axiom h k = absurd (omega arith)
two_only (Cut c) h k = absurd (omega arith)
two_only OneIntro h k = absurd (omega arith)
two_only BottomIntro h k = absurd (omega arith)
two_only TensorIntro h k = absurd (omega arith)
two_only ParIntro h k = absurd (omega arith)
two_only TopIntro h k = absurd (omega arith)
two_only WithIntro h k = absurd (omega arith)
two_only PlusIntroLeft h k = absurd (omega arith)
two_only PlusIntroRight h k = absurd (omega arith)
two_only OfCourseIntro h k = absurd (omega arith)
two_only WhyNotIntro h k = absurd (omega arith)
two_only Weakening h k = absurd (omega arith)
two_only Contraction h k = absurd (omega arith)
two_only Dereliction h k = absurd (omega arith)
two_only (FocusPositive i) h k = refl
two_only (FocusNegative i) h k = refl
two_only Blur h k = absurd (omega arith)

none_else : (r : Rule) → (rule_number r ≡ 1 → ⊥) → (rule_number r < 15) ⊎ (17 ≤ rule_number r) → length (argument_bytes r) ≡ 0
unfolding rule_number argument_bytes
none_else Axiom h k = refl
none_else (Cut c) h k = absurd (h refl)
none_else OneIntro h k = refl
none_else BottomIntro h k = refl
none_else TensorIntro h k = refl
none_else ParIntro h k = refl
none_else TopIntro h k = refl
none_else WithIntro h k = refl
none_else PlusIntroLeft h k = refl
none_else PlusIntroRight h k = refl
none_else OfCourseIntro h k = refl
none_else WhyNotIntro h k = refl
none_else Weakening h k = refl
none_else Contraction h k = refl
none_else Dereliction h k = refl
none_else (FocusPositive i) h k = absurd (⊎_elim (λ a. omega arith) (λ a. omega arith) k)
none_else (FocusNegative i) h k = absurd (⊎_elim (λ a. omega arith) (λ a. omega arith) k)
none_else Blur h k = refl

module _ (s : List ℕ) (at rule : ℕ) (inside : at ≤ length s) where
  -- no argument, no byte
  stays : ((r : Rule) → rule ≡ rule_number r → Stands s at (argument_bytes r) → RuleFits r → length (argument_bytes r) ≡ 0) → ArgumentPassed s at rule at
  stays h = record { further = omega arith; within = inside; past = λ r e there fits. omega (arith, h r e there fits) }

  pub argument_none : (rule ≡ 1 → ⊥) → (rule < 15) ⊎ (17 ≤ rule) → ArgumentPassed s at rule at
  argument_none h k = stays λ r e there fits. none_else r (λ e'. h (e ∙ e')) (subst (λ (n : ℕ). (n < 15) ⊎ (17 ≤ n)) e k)

  pub argument_lacking : rule ≡ 1 → at ≡ length s → ArgumentPassed s at rule at
  unfolding argument_bytes
  argument_lacking h k =
      stays λ r e there fits.
      let cut = cut_only r (sym e ∙ h) in
      let stands : Stands s at (write_formula cut.0) = subst (λ (r : Rule). Stands s at (argument_bytes r)) cut.1 there in
      absurd (omega (arith, stands.inside, length_write cut.0, size_positive cut.0))

  pub argument_formula : rule ≡ 1 → {next : ℕ} → Passed s at (length s) next → ArgumentPassed s at rule next
  unfolding argument_bytes
  argument_formula h {next} p =
      record {
        further = omega (arith, p.further);
        within = p.within;
        past = λ r e there fits.
            let cut = cut_only r (sym e ∙ h) in
            let stands : Stands s at (write_formula cut.0) = subst (λ (r : Rule). Stands s at (argument_bytes r)) cut.1 there in
            let fit : FormulaFits highest_formula cut.0 = subst (λ (r : Rule). RuleFits r) cut.1 fits in
            let n : length (argument_bytes r) ≡ size cut.0 = ap (λ (r : Rule). length (argument_bytes r)) cut.1 ∙ length_write cut.0 in
            p.past cut.0 (record { stands = stands; fits = fit }) (omega (arith, there.inside)) ∙ ap (◌+◌ at) (sym n);
      }

  pub argument_two : 15 ≤ rule → rule < 17 → {next : ℕ} → next ≡ min (at + 2) (length s) → ArgumentPassed s at rule next
  argument_two h k {next} e =
      record {
        further = omega arith;
        within = omega arith;
        past = λ r e' there fits.
            let n : length (argument_bytes r) ≡ 2 = two_only r (subst (λ (n : ℕ). 15 ≤ n) e' h) (subst (λ (n : ℕ). n < 17) e' k) in omega (arith, there.inside);
      }

-- ---- a zone

two_back : (n : ℕ) → n / 256 * 256 + n % 256 ≡ n
two_back n = omega arith

module _ (s : List ℕ) (at : ℕ) (z : Span) (n : ℕ) (e₁ : z.start ≡ min (at + 2) (length s)) (e₂ : n ≡ get_or s at 0 * 256 + get_or s (at + 1) 0) (e₃ : z.end ≡ min (z.start + n) (length s)) where
  -- the two bytes are the length of what follows
  record ZoneThere (fs : List Formula) : Type 0 where
    formulas : Stands s (at + 1 + 1) (write_formulas fs)
    length_is : n ≡ length (write_formulas fs)

  zone_there : (fs : List Formula) → Stands s at (write_zone fs) → ZoneThere fs
  unfolding write_zone
  zone_there fs there =
      let L : ℕ = length (write_formulas fs) in
      let high : get_or s at 0 ≡ L / 256 = stands_head there in
      let low : get_or s (at + 1) 0 ≡ L % 256 = stands_head (stands_tail there) in
      record {
        formulas = stands_tail (stands_tail there);
        length_is = e₂ ∙ ap (λ (h : ℕ). h * 256 + get_or s (at + 1) 0) high ∙ ap (λ (l : ℕ). L / 256 * 256 + l) low ∙ two_back L;
      }

  pub zone_found : at ≤ length s → ZoneFound s at z
  unfolding write_zone
  zone_found inside =
      record {
        within = record { ordered = omega arith; inside = omega arith };
        further = omega arith;
        holds = λ fs there fits.
            let body = zone_there fs there in
            let start : z.start ≡ at + 1 + 1 = omega (arith, body.formulas.inside) in
            record {
              stands = subst (λ (p : ℕ). Stands s p (write_formulas fs)) (sym start) body.formulas;
              ends = omega (arith, body.formulas.inside, body.length_is);
              fit = fits.formulas_fit;
            };
        past = λ fs there.
            let body = zone_there fs there in omega (arith, body.formulas.inside, body.length_is, length-append (two_bytes (length (write_formulas fs))) (write_formulas fs));
      }

-- ---- a node

-- what stands where, in a node: the places one after another
pub record NodeParts (s : List ℕ) (at : ℕ) (r : Rule) (q : Sequent) (ps : Trees) (zones other last next : ℕ) : Type 0 where
  pub number : get_or s at 0 ≡ rule_number r
  pub before_argument : at < length s
  pub argument : Stands s (at + 1) (argument_bytes r)
  pub zones_are : zones ≡ at + 1 + length (argument_bytes r)
  pub linear : Stands s zones (write_zone q.linear)
  pub other_is : other ≡ zones + length (write_zone q.linear)
  pub unrestricted : Stands s other (write_zone q.unrestricted)
  pub last_is : last ≡ other + length (write_zone q.unrestricted)
  pub count : get_or s last 0 ≡ premise_count ps
  pub before_premises : last < length s
  pub next_is : next ≡ last + 1
  pub premises : Stands s next (write_nodes ps)
  pub ends : next + length (write_nodes ps) ≡ at + length (write_node (node r q ps))

module _ {s : List ℕ} {at : ℕ} (r : Rule) (q : Sequent) (ps : Trees) (there : Stands s at (write_node (node r q ps))) where
  pub node_parts : NodeParts s at r q ps (at + 1 + length (argument_bytes r)) (at + 1 + length (argument_bytes r) + length (write_zone q.linear)) (at + 1 + length (argument_bytes r) + length (write_zone q.linear) + length (write_zone q.unrestricted)) (at + 1 + length (argument_bytes r) + length (write_zone q.linear) + length (write_zone q.unrestricted) + 1)
  unfolding write_node
  node_parts =
      let argument : List ℕ = argument_bytes r in
      let linear : List ℕ = write_zone q.linear in
      let unrestricted : List ℕ = write_zone q.unrestricted in
      let rest : List ℕ = premise_count ps ∷ write_nodes ps in
      let whole : Stands s at (rule_number r ∷ (argument ++ (linear ++ (unrestricted ++ rest)))) = rw write_rule_is at there in
      let behind = stands_tail whole in
      let behind_argument = stands_right argument (linear ++ (unrestricted ++ rest)) behind in
      let behind_linear = stands_right linear (unrestricted ++ rest) behind_argument in
      let behind_zones = stands_right unrestricted rest behind_linear in
      record {
        number = stands_head whole;
        before_argument = stands_inside whole;
        argument = stands_left argument (linear ++ (unrestricted ++ rest)) behind;
        zones_are = refl;
        linear = stands_left linear (unrestricted ++ rest) behind_argument;
        other_is = refl;
        unrestricted = stands_left unrestricted rest behind_linear;
        last_is = refl;
        count = stands_head behind_zones;
        before_premises = stands_inside behind_zones;
        next_is = refl;
        premises = stands_tail behind_zones;
        ends = rw write_rule_is (simp length-append (omega arith));
      }

module _ (s : List ℕ) (at : ℕ) (n : Node) (zones : ℕ) (inside : at ≤ length s) (e₁ : n.rule ≡ get_or s at 0) (e₂ : n.argument ≡ min (at + 1) (length s)) (a : ArgumentPassed s n.argument n.rule zones) (z : ZoneFound s zones n.linear) (z' : ZoneFound s n.linear.end n.unrestricted) (e₃ : n.premises ≡ get_or s n.unrestricted.end 0) (e₄ : n.next ≡ min (n.unrestricted.end + 1) (length s)) where
  module _ (r : Rule) (q : Sequent) (ps : Trees) (there : Stands s at (write_node (node r q ps))) (fits : NodeFits r q ps) where
    parts : NodeParts s at r q ps (at + 1 + length (argument_bytes r)) (at + 1 + length (argument_bytes r) + length (write_zone q.linear)) (at + 1 + length (argument_bytes r) + length (write_zone q.linear) + length (write_zone q.unrestricted)) (at + 1 + length (argument_bytes r) + length (write_zone q.linear) + length (write_zone q.unrestricted) + 1)
    parts = node_parts r q ps there

    rule_is : n.rule ≡ rule_number r
    rule_is = e₁ ∙ parts.number

    argument_place : n.argument ≡ at + 1
    argument_place = omega (arith, parts.before_argument)

    argument_stands : Stands s n.argument (argument_bytes r)
    argument_stands = subst (λ (p : ℕ). Stands s p (argument_bytes r)) (sym argument_place) parts.argument

    zones_place : zones ≡ at + 1 + length (argument_bytes r)
    zones_place = a.past r rule_is argument_stands fits.rule_fits ∙ ap (λ (p : ℕ). p + length (argument_bytes r)) argument_place

    linear_stands : Stands s zones (write_zone q.linear)
    linear_stands = subst (λ (p : ℕ). Stands s p (write_zone q.linear)) (sym zones_place) parts.linear

    other_place : n.linear.end ≡ at + 1 + length (argument_bytes r) + length (write_zone q.linear)
    other_place = z.past q.linear linear_stands ∙ ap (λ (p : ℕ). p + length (write_zone q.linear)) zones_place

    unrestricted_stands : Stands s n.linear.end (write_zone q.unrestricted)
    unrestricted_stands = subst (λ (p : ℕ). Stands s p (write_zone q.unrestricted)) (sym other_place) parts.unrestricted

    last_place : n.unrestricted.end ≡ at + 1 + length (argument_bytes r) + length (write_zone q.linear) + length (write_zone q.unrestricted)
    last_place = z'.past q.unrestricted unrestricted_stands ∙ ap (λ (p : ℕ). p + length (write_zone q.unrestricted)) other_place

    next_place : n.next ≡ at + 1 + length (argument_bytes r) + length (write_zone q.linear) + length (write_zone q.unrestricted) + 1
    next_place = omega (arith, last_place, parts.before_premises)

    node_is : NodeIs s n r q ps
    unfolding argument_bytes
    node_is =
        record {
          rule_is = rule_is;
          argument_is = λ c e. record { stands = subst (λ (r : Rule). Stands s n.argument (argument_bytes r)) e argument_stands; fits = subst RuleFits e fits.rule_fits };
          linear_is = z.holds q.linear linear_stands fits.zones_fit.first_fits;
          unrestricted_is = z'.holds q.unrestricted unrestricted_stands fits.zones_fit.second_fits;
          count_is = e₃ ∙ ap (λ (p : ℕ). get_or s p 0) last_place ∙ parts.count;
          premises_are = subst (λ (p : ℕ). Stands s p (write_nodes ps)) (sym next_place) parts.premises;
        }

    node_ends : n.next + length (write_nodes ps) ≡ at + length (write_node (node r q ps))
    node_ends = ap (λ (p : ℕ). p + length (write_nodes ps)) next_place ∙ parts.ends

  pub node_found : Bytes s → NodeFound s at n
  node_found bytes =
      record {
        within = record {
          argument_inside = omega arith;
          linear_within = z.within;
          unrestricted_within = z'.within;
          few_premises = rw e₃ (bytes.byte n.unrestricted.end);
          next_inside = omega arith;
          further = λ h. omega (arith, a.further, z.further, z.within.ordered, z'.further, z'.within.ordered, z'.within.inside);
        };
        is = node_is;
        ends = node_ends;
      }

-- ---- a tree passed

-- so many trees stand from p on, up to `end`
pub record Awaits (s : List ℕ) (p awaited end : ℕ) : Type 0 where
  pub trees : Trees
  pub stands : Stands s p (write_nodes trees)
  pub fit : NodesFit* trees
  pub count_is : premise_count trees ≡ awaited
  pub ends : p + length (write_nodes trees) ≡ end

pub record Passing (s : List ℕ) (at awaited p : ℕ) : Type 0 where
  pub inside : p ≤ length s
  pub awaits : (t : Tree) → Stands s at (write_node t) → NodesFit t → Awaits s p awaited (at + length (write_node t))

write_joined : (ts us : Trees) → write_nodes (follow ts us) ≡ write_nodes ts ++ write_nodes us
unfolding follow write_nodes
write_joined ∅ us = refl
write_joined (t ▹ ts) us = ap (◌++◌ (write_node t)) (write_joined ts us) ∙ sym (append_assoc (write_node t) (write_nodes ts) (write_nodes us))

count_joined : (ts us : Trees) → premise_count (follow ts us) ≡ premise_count ts + premise_count us
unfolding follow premise_count
count_joined ∅ us = omega arith
count_joined (t ▹ ts) us = omega (arith, count_joined ts us)

fit_joined : (ts us : Trees) → NodesFit* ts → NodesFit* us → NodesFit* (follow ts us)
unfolding follow
fit_joined ∅ us h k = k
fit_joined (t ▹ ts) us h k = (h.0, fit_joined ts us h.1 k)

-- each tree takes a byte
pub node_long : (t : Tree) → 1 ≤ length (write_node t)
unfolding write_node
node_long (node r q ps) = rw write_rule_is (simp length-append (omega arith))

trees_long : (ts : Trees) → premise_count ts ≤ length (write_nodes ts)
unfolding premise_count write_nodes
trees_long ∅ = omega arith
trees_long (t ▹ ts) = omega (arith, length-append (write_node t) (write_nodes ts), node_long t, trees_long ts)

module _ (s : List ℕ) (at : ℕ) where
  pub passing_start : at ≤ length s → Passing s at 1 at
  unfolding write_nodes premise_count
  passing_start h =
      record {
        inside = h;
        awaits = λ t there fits. record { trees = t ▹ ∅; stands = rw append-nil there; fit = (fits, tt); count_is = refl; ends = rw append-nil };
      }

  module _ {awaited p : ℕ} (h : Passing s at awaited p) where
    pub passing_end : awaited ≡ 0 → TreePassed s at p
    unfolding premise_count write_nodes
    passing_end e =
        record {
          inside = h.inside;
          past = λ t there fits. let a = h.awaits t there fits in none_left a.trees (a.count_is ∙ e) a.ends;
        }
      where
        none_left : (ts : Trees) {end : ℕ} → premise_count ts ≡ 0 → p + length (write_nodes ts) ≡ end → p ≡ end
        none_left ∅ e e' = omega arith
        none_left (t ▹ ts) e e' = absurd (omega arith)

    pub passing_short : length s - p < awaited → TreePassed s at p
    passing_short k =
        record {
          inside = h.inside;
          past = λ t there fits. let a = h.awaits t there fits in absurd (omega (arith, a.count_is, trees_long a.trees, a.stands.inside));
        }

    pub passing_next : (n : Node) → 0 < awaited → NodeFound s p n → Passing s at (awaited - 1 + n.premises) n.next
    unfolding premise_count write_nodes
    passing_next n k found =
        record { inside = found.within.next_inside; awaits = λ t there fits. let a = h.awaits t there fits in next_awaits a.trees a.stands a.fit a.count_is a.ends }
      where
        next_awaits : (ts : Trees) {end : ℕ} → Stands s p (write_nodes ts) → NodesFit* ts → premise_count ts ≡ awaited → p + length (write_nodes ts) ≡ end → Awaits s n.next (awaited - 1 + n.premises) end
        next_awaits ∅ there fits count ends = absurd (omega arith)
        next_awaits (node r q ps ▹ ts) there fits count ends =
            let first = stands_left (write_node (node r q ps)) (write_nodes ts) there in
            let is = found.is r q ps first fits.0.0 in
            let over = found.ends r q ps first fits.0.0 in
            let others : Stands s (n.next + length (write_nodes ps)) (write_nodes ts) = rw over (stands_right (write_node (node r q ps)) (write_nodes ts) there) in
            record {
              trees = follow ps ts;
              stands = rw write_joined (stands_join is.premises_are others);
              fit = fit_joined ps ts fits.0.1 fits.1;
              count_is = omega (arith, count_joined ps ts, is.count_is);
              ends = rw write_joined (omega (arith, over, length-append (write_nodes ps) (write_nodes ts), length-append (write_node (node r q ps)) (write_nodes ts)));
            }
