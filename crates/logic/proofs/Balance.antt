-- Demand 3, the balance: in the multiplicative fragment, with nothing unrestricted, the axiom leaves of a name are its plain places in the question, and its negated ones. Assumes nothing.
use Rattle.std.specs.Prelude.{◌≡◌, refl, Bool, true, false, ℕ, ◌+◌, ◌≤◌, min, eqb}
use Rattle.std.proofs.Common.{sym, ap, ◌∙◌, eqb-true, arith}
use Rattle.std.proofs.lemmas.Bool.{false≢true, eqb-false}
use mathlib.Core.List.{List, [], ◌∷◌, ◌++◌, nil≢cons}
use Rattle.logic.specs.Formula.{Formula, One, Bottom, Top, Zero, Atom, NegAtom, Tensor, Par, With, Plus, Lolli, OfCourse, WhyNot, negate, same, among}
use Rattle.logic.proofs.FormulaLaws.{same_iff}
use Rattle.logic.specs.Sequent.{Sequent}
use Rattle.logic.specs.Tree.{Tree}
use Rattle.logic.specs.Split.{left_of, right_of}
use Rattle.logic.specs.Zone.{total}
use Rattle.logic.proofs.ZoneLaws.{total_append, total_at, total_shared}
use Rattle.logic.specs.Legal.{as_number}
use Rattle.logic.specs.Places.{
  plain_places,
  negated_places,
  leaves,
  is_axiom_rule,
  Balanced,
  Multiplicative,
  m_atom,
  m_neg_atom,
  m_one,
  m_bottom,
  m_tensor,
  m_par,
  m_lolli,
  Multiplicatives,
  m_none,
  m_more,
}
use Rattle.logic.specs.Built.{Built, by_par, by_bottom, by_top, by_with, by_why_not, by_lolli, by_axiom, by_axiom⊥, by_one, by_tensor, by_plus_left, by_plus_right, by_of_course, by_dereliction, by_contraction, by_weakening}

-- how many signs of a formula are not multiplicative: the formula is of the fragment where there is none
unfoldable foreign : Formula → ℕ
foreign (Atom a) = 0
foreign (NegAtom a) = 0
foreign (Tensor a b) = foreign a + foreign b
foreign (Par a b) = foreign a + foreign b
foreign (Lolli a b) = foreign a + foreign b
foreign One = 0
foreign Bottom = 0
foreign (With a b) = 1 + (foreign a + foreign b)
foreign (Plus a b) = 1 + (foreign a + foreign b)
foreign Top = 1
foreign Zero = 1
foreign (OfCourse a) = 1 + foreign a
foreign (WhyNot a) = 1 + foreign a

-- negation changes the places over and keeps the fragment
negated_turns : (n : ℕ) (f : Formula) → (plain_places n (negate f) ≡ negated_places n f) × (negated_places n (negate f) ≡ plain_places n f)
unfolding plain_places negate
negated_turns n (Atom a) = (refl, refl)
negated_turns n (NegAtom a) = (refl, refl)
negated_turns n (Tensor a b) = omega (arith, negated_turns n a, negated_turns n b)
negated_turns n (Par a b) = omega (arith, negated_turns n a, negated_turns n b)
negated_turns n (Lolli a b) = omega (arith, negated_turns n b)
negated_turns n One = (refl, refl)
negated_turns n Bottom = (refl, refl)
negated_turns n (With a b) = omega (arith, negated_turns n a, negated_turns n b)
negated_turns n (Plus a b) = omega (arith, negated_turns n a, negated_turns n b)
negated_turns n Top = (refl, refl)
negated_turns n Zero = (refl, refl)
negated_turns n (OfCourse a) = negated_turns n a
negated_turns n (WhyNot a) = negated_turns n a

negated_foreign : (f : Formula) → foreign (negate f) ≡ foreign f
unfolding foreign negate
negated_foreign (Atom a) = refl
negated_foreign (NegAtom a) = refl
negated_foreign (Tensor a b) = omega (arith, negated_foreign a, negated_foreign b)
negated_foreign (Par a b) = omega (arith, negated_foreign a, negated_foreign b)
negated_foreign (Lolli a b) = omega (arith, negated_foreign b)
negated_foreign One = refl
negated_foreign Bottom = refl
negated_foreign (With a b) = omega (arith, negated_foreign a, negated_foreign b)
negated_foreign (Plus a b) = omega (arith, negated_foreign a, negated_foreign b)
negated_foreign Top = refl
negated_foreign Zero = refl
negated_foreign (OfCourse a) = omega (arith, negated_foreign a)
negated_foreign (WhyNot a) = omega (arith, negated_foreign a)

-- the leaf of an axiom
weight : ℕ → Formula → ℕ
weight n f = as_number (same (Atom n) f)

small : (b : Bool) → as_number b ≤ 1
small true = omega arith
small false = omega arith

among_total : (n : ℕ) (l : List Formula) → as_number (among (Atom n) l) ≡ min 1 (total (weight n) l)
unfolding among total weight
among_total n [] = refl
among_total n (x ∷ xs) = go (same (Atom n) x) (among_total n xs)
  where
    go : (b : Bool) → as_number (among (Atom n) xs) ≡ min 1 (total (weight n) xs) → as_number (elim b as (λ _. Bool) [ true ↦ true | false ↦ among (Atom n) xs ]) ≡ min 1 (as_number b + total (weight n) xs)
    go true h = omega arith
    go false h = omega arith

same_atom : (n a : ℕ) → as_number (same (Atom n) (Atom a)) ≡ as_number (eqb n a)
same_atom n a = go (same (Atom n) (Atom a)) (eqb n a) refl refl
  where
    go : (b c : Bool) → same (Atom n) (Atom a) ≡ b → eqb n a ≡ c → as_number b ≡ as_number c
    go true true e k = refl
    go false false e k = refl
    go true false e k = absurd (eqb-false n a k (let h : Atom n ≡ Atom a = (same_iff _ _).0 e in cc))
    go false true e k = absurd (false≢true (sym e ∙ (same_iff _ _).1 (ap Atom (eqb-true n a k))))

same_neg_atom : (n a : ℕ) → as_number (same (Atom n) (NegAtom a)) ≡ 0
unfolding same
same_neg_atom n a = refl

-- the axiom's formulas, x and what stands beside it
leaf : (n a : ℕ) {l : List Formula} (before : List Formula) (x y : Formula) (after : List Formula) → l ≡ before ++ (x ∷ after) → before ++ after ≡ y ∷ [] → weight n x + weight n y ≡ as_number (eqb n a) → as_number (among (Atom n) l) ≡ as_number (eqb n a)
unfolding total
leaf n a {l} before x y after e k h =
    omega (arith, among_total n l, total_at (weight n) before x after e, ap (total (weight n)) k, small (eqb n a))

-- a zone in which a formula stands is not empty
not_empty : {l : List Formula} (before : List Formula) (x : Formula) (after : List Formula) → l ≡ before ++ (x ∷ after) → l ≡ [] → ⊥
not_empty [] x after e k = nil≢cons (sym k ∙ e)
not_empty (y ∷ before) x after e k = nil≢cons (sym k ∙ e)

built_balanced : {k : ℕ} {q : Sequent} {t : Tree} → Built k q t → total foreign q.linear ≡ 0 → q.unrestricted ≡ [] → (n : ℕ) → Balanced n q t
unfolding leaves total foreign plain_places is_axiom_rule weight
built_balanced {q} (by_par before a b after ps e d) f u n =
    let fa = total_append foreign (before ++ after) (a ∷ b ∷ []) in
    let ih = built_balanced d (omega (arith, fa, total_at foreign before _ after e)) u n in
    omega (arith, ih, total_at (plain_places n) before _ after e, total_at (negated_places n) before _ after e, total_append (plain_places n) (before ++ after) (a ∷ b ∷ []), total_append (negated_places n) (before ++ after) (a ∷ b ∷ []))
built_balanced (by_bottom before after ps e d) f u n =
    let ih = built_balanced d (omega (arith, total_at foreign before _ after e)) u n in
    omega (arith, ih, total_at (plain_places n) before _ after e, total_at (negated_places n) before _ after e)
built_balanced (by_top before after ps e) f u n = omega (arith, total_at foreign before _ after e)
built_balanced (by_with before a b after ps e d d') f u n = omega (arith, total_at foreign before _ after e)
built_balanced (by_why_not before a after ps e d) f u n = omega (arith, total_at foreign before _ after e)
built_balanced (by_lolli before a b after ps e d) f u n =
    let ih = built_balanced d (omega (arith, negated_foreign a, total_at foreign before _ after e, total_at foreign before (Par (negate a) b) after refl)) u n in
    omega (arith, ih, negated_turns n a, total_at (plain_places n) before _ after e, total_at (negated_places n) before _ after e, total_at (plain_places n) before (Par (negate a) b) after refl, total_at (negated_places n) before (Par (negate a) b) after refl)
built_balanced (by_axiom before a after ps e k) f u n =
    omega (arith, leaf n a before _ _ after e k (omega (arith, same_atom n a, same_neg_atom n a)), total_at (plain_places n) before _ after e, total_at (negated_places n) before _ after e, ap (total (plain_places n)) k, ap (total (negated_places n)) k)
built_balanced (by_axiom⊥ before a after ps e k) f u n =
    omega (arith, leaf n a before _ _ after e k (omega (arith, same_atom n a, same_neg_atom n a)), total_at (plain_places n) before _ after e, total_at (negated_places n) before _ after e, ap (total (plain_places n)) k, ap (total (negated_places n)) k)
built_balanced (by_one before after ps e k) f u n =
    omega (arith, total_at (plain_places n) before _ after e, total_at (negated_places n) before _ after e, ap (total (plain_places n)) k, ap (total (negated_places n)) k)
built_balanced (by_tensor before a b after mask _ ps e d d') f u n =
    let rest = before ++ after in
    let l = left_of mask rest in
    let r = right_of mask rest in
    let ih = built_balanced d (omega (arith, total_at foreign before _ after e, total_shared foreign mask rest, total_append foreign l (a ∷ []))) u n in
    let ih' = built_balanced d' (omega (arith, total_at foreign before _ after e, total_shared foreign mask rest, total_append foreign r (b ∷ []))) u n in
    omega (arith, ih, ih', total_at (plain_places n) before _ after e, total_at (negated_places n) before _ after e, total_shared (plain_places n) mask rest, total_shared (negated_places n) mask rest, total_append (plain_places n) l (a ∷ []), total_append (negated_places n) l (a ∷ []), total_append (plain_places n) r (b ∷ []), total_append (negated_places n) r (b ∷ []))
built_balanced (by_plus_left before a b after ps e d) f u n = omega (arith, total_at foreign before _ after e)
built_balanced (by_plus_right before a b after ps e d) f u n = omega (arith, total_at foreign before _ after e)
built_balanced (by_of_course before a after ps e k d) f u n = omega (arith, total_at foreign before _ after e)
built_balanced (by_dereliction before a after _ ps e d) f u n = absurd (not_empty before a after e u)
built_balanced (by_contraction before a after _ ps e d) f u n = absurd (not_empty before a after e u)
built_balanced (by_weakening before a after _ ps e d) f u n = absurd (not_empty before a after e u)

none_foreign : {f : Formula} → Multiplicative f → foreign f ≡ 0
unfolding foreign
none_foreign m_atom = refl
none_foreign m_neg_atom = refl
none_foreign m_one = refl
none_foreign m_bottom = refl
none_foreign (m_tensor h k) = omega (arith, none_foreign h, none_foreign k)
none_foreign (m_par h k) = omega (arith, none_foreign h, none_foreign k)
none_foreign (m_lolli h k) = omega (arith, none_foreign h, none_foreign k)

none_foreign* : {fs : List Formula} → Multiplicatives fs → total foreign fs ≡ 0
unfolding total
none_foreign* m_none = refl
none_foreign* (m_more h hs) = omega (arith, none_foreign h, none_foreign* hs)

pub balanced : {k : ℕ} {q : Sequent} {t : Tree} → Built k q t → Multiplicatives q.linear → q.unrestricted ≡ [] → (n : ℕ) → Balanced n q t
balanced d m u n = built_balanced d (none_foreign* m) u n
