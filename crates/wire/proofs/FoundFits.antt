-- A tree that the search finds fits the byte form where its question does, its sequents are few and its body is short: the formulas of its nodes are parts of the question's, or parts negated.
-- Assumes nothing.
use Rattle.std.specs.Prelude.{◌≡◌, refl, Bool, true, false, not, List, [], ◌∷◌, ◌++◌, ℕ, suc, ◌/◌, ◌%◌, ◌≤◌, ◌<◌, max, eqb, length}
use Rattle.std.proofs.Common.{subst, arith, length-append}
use Rattle.logic.specs.Formula.{Formula, One, Bottom, Top, Zero, Atom, NegAtom, Tensor, Par, With, Plus, Lolli, OfCourse, WhyNot, negate, height}
use Rattle.logic.proofs.FormulaLaws.{negate_height}
use Rattle.logic.specs.Sequent.{Sequent}
use Rattle.logic.specs.Split.{keep, left_of, right_of}
use Rattle.logic.specs.Tree.{Tree, Trees, node, ∅, ◌▹◌, premise_count}
use Rattle.logic.specs.Built.{Built, by_par, by_bottom, by_top, by_with, by_why_not, by_lolli, by_axiom, by_axiom⊥, by_one, by_tensor, by_plus_left, by_plus_right, by_of_course, by_dereliction, by_contraction, by_weakening}
use Rattle.logic.specs.Concludes.{depth_bound}
use Rattle.wire.proofs.ZoneBytes.{length_write_zone}
use Rattle.wire.specs.Write.{write_zone, write_rule, write_node, write_nodes}
use Rattle.wire.specs.Read.{highest_formula, highest_tree}
use Rattle.wire.specs.Fits.{NamesFit, FormulaFits, FormulasFit, RuleFits, NodesFit, NodesFit*, NodesFew, NodesFew*, TreeFits}

-- ---- negation

negate_names_fit : (f : Formula) → NamesFit f → NamesFit (negate f)
unfolding negate
negate_names_fit One h = tt
negate_names_fit Bottom h = tt
negate_names_fit Top h = tt
negate_names_fit Zero h = tt
negate_names_fit (Atom a) h = h
negate_names_fit (NegAtom a) h = h
negate_names_fit (Tensor a b) h = (negate_names_fit a h.0, negate_names_fit b h.1)
negate_names_fit (Par a b) h = (negate_names_fit a h.0, negate_names_fit b h.1)
negate_names_fit (With a b) h = (negate_names_fit a h.0, negate_names_fit b h.1)
negate_names_fit (Plus a b) h = (negate_names_fit a h.0, negate_names_fit b h.1)
negate_names_fit (Lolli a b) h = (h.0, negate_names_fit b h.1)
negate_names_fit (OfCourse a) h = negate_names_fit a h
negate_names_fit (WhyNot a) h = negate_names_fit a h

abbrev Fits : Formula → Type 0
Fits = FormulaFits highest_formula

pub negate_fits : (f : Formula) → Fits f → Fits (negate f)
negate_fits f h = record { height_fits = rw (negate_height f) h.height_fits; names_fit = negate_names_fit f h.names_fit }

-- ---- the parts of a formula

-- two parts under a sign
two_fit : (f a b : Formula) → height f ≡ suc (max (height a) (height b)) → NamesFit a → NamesFit b → Fits f → Fits a × Fits b
two_fit f a b e n n' h = (record { height_fits = omega (arith, h.height_fits); names_fit = n }, record { height_fits = omega (arith, h.height_fits); names_fit = n' })

tensor_fits : (a b : Formula) → Fits (Tensor a b) → Fits a × Fits b
unfolding height
tensor_fits a b h = two_fit (Tensor a b) a b refl h.names_fit.0 h.names_fit.1 h

par_fits : (a b : Formula) → Fits (Par a b) → Fits a × Fits b
unfolding height
par_fits a b h = two_fit (Par a b) a b refl h.names_fit.0 h.names_fit.1 h

with_fits : (a b : Formula) → Fits (With a b) → Fits a × Fits b
unfolding height
with_fits a b h = two_fit (With a b) a b refl h.names_fit.0 h.names_fit.1 h

plus_fits : (a b : Formula) → Fits (Plus a b) → Fits a × Fits b
unfolding height
plus_fits a b h = two_fit (Plus a b) a b refl h.names_fit.0 h.names_fit.1 h

-- an implication spelled out
lolli_fits : (a b : Formula) → Fits (Lolli a b) → Fits (Par (negate a) b)
unfolding height
lolli_fits a b h =
    record { height_fits = omega (arith, h.height_fits, negate_height a); names_fit = (negate_names_fit a h.names_fit.0, h.names_fit.1) }

of_course_fits : (a : Formula) → Fits (OfCourse a) → Fits a
unfolding height
of_course_fits a h = record { height_fits = omega (arith, h.height_fits); names_fit = h.names_fit }

why_not_fits : (a : Formula) → Fits (WhyNot a) → Fits a
unfolding height
why_not_fits a h = record { height_fits = omega (arith, h.height_fits); names_fit = h.names_fit }

-- ---- zones

join_fits : (xs ys : List Formula) → FormulasFit xs → FormulasFit ys → FormulasFit (xs ++ ys)
join_fits [] ys g h = h
join_fits (x ∷ xs) ys g h = (g.0, join_fits xs ys g.1 h)

front_fits : (xs ys : List Formula) → FormulasFit (xs ++ ys) → FormulasFit xs
front_fits [] ys h = tt
front_fits (x ∷ xs) ys h = (h.0, front_fits xs ys h.1)

back_fits : (xs ys : List Formula) → FormulasFit (xs ++ ys) → FormulasFit ys
back_fits [] ys h = h
back_fits (x ∷ xs) ys h = back_fits xs ys h.1

keep_fits : (b : Bool) (x : Formula) (xs : List Formula) → Fits x → FormulasFit xs → FormulasFit (keep b x xs)
keep_fits true x xs f g = (f, g)
keep_fits false x xs f g = g

left_fits : (mask : ℕ) (xs : List Formula) → FormulasFit xs → FormulasFit (left_of mask xs)
unfolding left_of
left_fits mask [] h = tt
left_fits mask (x ∷ xs) h = keep_fits (eqb (mask % 2) 0) x _ h.0 (left_fits (mask / 2) xs h.1)

right_fits : (mask : ℕ) (xs : List Formula) → FormulasFit xs → FormulasFit (right_of mask xs)
unfolding right_of
right_fits mask [] h = tt
right_fits mask (x ∷ xs) h = keep_fits (not (eqb (mask % 2) 0)) x _ h.0 (right_fits (mask / 2) xs h.1)

-- what stands beside the principal formula, and that formula
record Beside (before : List Formula) (x : Formula) (after : List Formula) : Type 0 where
  front : FormulasFit before
  back : FormulasFit after
  others : FormulasFit (before ++ after)
  principal : Fits x

beside : {zone : List Formula} (before : List Formula) (x : Formula) (after : List Formula) → zone ≡ before ++ (x ∷ after) → FormulasFit zone → Beside before x after
beside before x after e h =
    let h' = subst FormulasFit e h in
    let f = front_fits before (x ∷ after) h' in
    let b = back_fits before (x ∷ after) h' in
    record { front = f; back = b.1; others = join_fits before after f b.1; principal = b.0 }

-- ---- a tree

-- the formulas of a sequent
record SequentFits (q : Sequent) : Type 0 where
  linear_fits : FormulasFit q.linear
  unrestricted_fits : FormulasFit q.unrestricted

abbrev mutual
  FormulasOf : Tree → Type 0
  FormulasOf (node r q ps) = RuleFits r × SequentFits q × (premise_count ps < 256) × FormulasOf* ps

  FormulasOf* : Trees → Type 0
  FormulasOf* ∅ = Unit {0}
  FormulasOf* (t ▹ ts) = FormulasOf t × FormulasOf* ts

built_formulas : {n : ℕ} {q : Sequent} {t : Tree} → Built n q t → SequentFits q → FormulasOf t
unfolding premise_count
built_formulas (by_par before a b after ps e d) z =
    let w = beside before _ after e z.linear_fits in
    let x = par_fits a b w.principal in
    (tt, z, omega arith, (built_formulas d record { linear_fits = join_fits (before ++ after) (a ∷ b ∷ []) w.others (x.0, (x.1, tt)); unrestricted_fits = z.unrestricted_fits }, tt))
built_formulas (by_bottom before after ps e d) z =
    let w = beside before _ after e z.linear_fits in
    (tt, z, omega arith, (built_formulas d record { linear_fits = w.others; unrestricted_fits = z.unrestricted_fits }, tt))
built_formulas (by_top before after ps e) z = (tt, z, omega arith, tt)
built_formulas (by_with before a b after ps e d d') z =
    let w = beside before _ after e z.linear_fits in
    let x = with_fits a b w.principal in
    (tt, z, omega arith, (built_formulas d record { linear_fits = join_fits (before ++ after) (a ∷ []) w.others (x.0, tt); unrestricted_fits = z.unrestricted_fits }, (built_formulas d' record { linear_fits = join_fits (before ++ after) (b ∷ []) w.others (x.1, tt); unrestricted_fits = z.unrestricted_fits }, tt)))
built_formulas {q = q} (by_why_not before a after ps e d) z =
    let w = beside before _ after e z.linear_fits in
    (tt, z, omega arith, (built_formulas d record { linear_fits = w.others; unrestricted_fits = join_fits q.unrestricted (a ∷ []) z.unrestricted_fits (why_not_fits a w.principal, tt) }, tt))
built_formulas (by_lolli before a b after ps e d) z =
    let w = beside before _ after e z.linear_fits in
    built_formulas d record { linear_fits = join_fits before (Par (negate a) b ∷ after) w.front (lolli_fits a b w.principal, w.back); unrestricted_fits = z.unrestricted_fits }
built_formulas (by_axiom before a after ps e h) z = (tt, z, omega arith, tt)
built_formulas (by_axiom⊥ before a after ps e h) z = (tt, z, omega arith, tt)
built_formulas (by_one before after ps e h) z = (tt, z, omega arith, tt)
built_formulas (by_tensor before a b after mask m ps e d d') z =
    let w = beside before _ after e z.linear_fits in
    let x = tensor_fits a b w.principal in
    let others = before ++ after in
    (tt, z, omega arith, (built_formulas d record { linear_fits = join_fits (left_of mask others) (a ∷ []) (left_fits mask others w.others) (x.0, tt); unrestricted_fits = z.unrestricted_fits }, (built_formulas d' record { linear_fits = join_fits (right_of mask others) (b ∷ []) (right_fits mask others w.others) (x.1, tt); unrestricted_fits = z.unrestricted_fits }, tt)))
built_formulas (by_plus_left before a b after ps e d) z =
    let w = beside before _ after e z.linear_fits in
    (tt, z, omega arith, (built_formulas d record { linear_fits = join_fits before (a ∷ after) w.front ((plus_fits a b w.principal).0, w.back); unrestricted_fits = z.unrestricted_fits }, tt))
built_formulas (by_plus_right before a b after ps e d) z =
    let w = beside before _ after e z.linear_fits in
    (tt, z, omega arith, (built_formulas d record { linear_fits = join_fits before (b ∷ after) w.front ((plus_fits a b w.principal).1, w.back); unrestricted_fits = z.unrestricted_fits }, tt))
built_formulas (by_of_course before a after ps e h d) z =
    let w = beside before _ after e z.linear_fits in
    (tt, z, omega arith, (built_formulas d record { linear_fits = (of_course_fits a w.principal, tt); unrestricted_fits = z.unrestricted_fits }, tt))
built_formulas {q = q} (by_dereliction before a after ne ps e d) z =
    let w = beside before a after e z.unrestricted_fits in
    (tt, z, omega arith, (built_formulas d record { linear_fits = join_fits q.linear (a ∷ []) z.linear_fits (w.principal, tt); unrestricted_fits = w.others }, tt))
built_formulas {q = q} (by_contraction before a after ne ps e d) z =
    let w = beside before a after e z.unrestricted_fits in
    (tt, z, omega arith, (built_formulas d record { linear_fits = join_fits q.linear (a ∷ a ∷ []) z.linear_fits (w.principal, (w.principal, tt)); unrestricted_fits = w.others }, tt))
built_formulas (by_weakening before a after ne ps e d) z =
    let w = beside before a after e z.unrestricted_fits in
    (tt, z, omega arith, (built_formulas d record { linear_fits = z.linear_fits; unrestricted_fits = w.others }, tt))

-- where a tree's body is short, so are its zones
mutual
  unfolding write_node write_nodes

  nodes_fit : (t : Tree) → FormulasOf t → NodesFew t → length (write_node t) ≤ 65535 → NodesFit t
  nodes_fit (node r q ps) h few short =
      let l = length-append (write_rule r) (write_zone q.linear ++ (write_zone q.unrestricted ++ (premise_count ps ∷ write_nodes ps))) in
      let l1 = length-append (write_zone q.linear) (write_zone q.unrestricted ++ (premise_count ps ∷ write_nodes ps)) in
      let l2 = length-append (write_zone q.unrestricted) (premise_count ps ∷ write_nodes ps) in (
        record {
          rule_fits = h.0;
          zones_fit =
              record {
                first_fits = record { formulas_fit = h.1.linear_fits; zone_short = omega (arith, short, l, l1, length_write_zone q.linear) };
                second_fits = record { formulas_fit = h.1.unrestricted_fits; zone_short = omega (arith, short, l, l1, l2, length_write_zone q.unrestricted) };
                few_formulas = few.0;
              };
          few_premises = h.2;
        },
        premises_fit ps h.3 few.1 (omega (arith, short, l, l1, l2)),
      )

  premises_fit : (ps : Trees) → FormulasOf* ps → NodesFew* ps → length (write_nodes ps) ≤ 65535 → NodesFit* ps
  premises_fit ∅ h few short = tt
  premises_fit (t ▹ ts) h few short =
      let l = length-append (write_node t) (write_nodes ts) in
      (nodes_fit t h.0 few.0 (omega (arith, short, l)), premises_fit ts h.1 few.1 (omega (arith, short, l)))

pub found_fits : {n : ℕ} {q : Sequent} {t : Tree} → Built n q t → FormulasFit q.linear → FormulasFit q.unrestricted → NodesFew t → n ≤ highest_tree → length (write_node t) ≤ 65535 → TreeFits t
found_fits {t = t} d g h few n short =
    record {
      nodes_fit = nodes_fit t (built_formulas d record { linear_fits = g; unrestricted_fits = h }) few short;
      depth_fits = omega (arith, depth_bound d, n);
      body_short = short;
    }
