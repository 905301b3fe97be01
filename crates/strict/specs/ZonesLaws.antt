-- Laws of a node's zones in a message, and of a formula of a zone with its parts. Assumes nothing.
use Rattle.std.specs.Prelude.{◌≡◌, Bool, true, false, List, [], ◌∷◌, ◌++◌, map, ℕ, suc, ◌+◌, ◌≤◌, ◌<◌, min, eqb, ltb, length, get_or}
use Rattle.std.proofs.Math.Path.{refl, sym, ap}
use Rattle.std.proofs.Common.{◌∙◌, map-id, arith, length-append}
use borrow.Author.Tests.{ne_eqb, ltb-true, ltb-false, lt-ltb}
use Rattle.logic.specs.Formula.{Formula, One, Bottom, Top, Zero, Atom, NegAtom, Tensor, Par, With, Plus, Lolli, OfCourse, WhyNot, negate, spell, same, among, size}
use Rattle.logic.specs.Parts.{tag_of, left_part, right_part}
use Rattle.logic.proofs.PartsLaws.{left_make, right_make}
use Rattle.logic.specs.Zone.{total}
use Rattle.logic.specs.Legal.{as_number, times, plain}
use Rattle.wire.specs.Write.{write_formula, write_formulas}
use Rattle.wire.specs.Fits.{NamesFit, FormulasFit}
use Rattle.wire.proofs.FormulaBytes.{length_write}
use Rattle.tree.specs.Stands.{Stands}
use Rattle.tree.specs.StandsLaws.{stands_left, stands_right}
use Rattle.tree.specs.FormulaPlaces.{tag_stands}
use Rattle.tree.specs.Places.{FormulaAt, Holds, NodeWithin}
use Rattle.tree.specs.declared.Node.{Node}
use Rattle.tree.specs.declared.Span.{Span}
use Rattle.bags.specs.Reading.{read_as, Rest, unit, named, binary, unary, rest_of, sign_of, left_how, right_how, rest_as}
use Rattle.bags.specs.ReadingLaws.{read_tag, read_rest, read_follows, follows, two_follow, one_follows, two_formed, one_formed}
use Rattle.bags.specs.ComparedLaws.{ends_inside, one_here, two_here}
use Rattle.bags.specs.Runs.{RunWithin, Along, Reads, Counts}
use Rattle.bags.specs.declared.Run.{Run}
use Rattle.bags.specs.declared.Place.{Place}
use Rattle.bags.specs.declared.How.{How}
use Rattle.bags.specs.declared.How.TheVariants.{Plain, Spelled, Negated}
use Rattle.strict.specs.Zones.{NodeInside, LinearRun, UnrestrictedRun, plain_run, part_how, PartEnds, PrincipalWithin, PrincipalIs, PrincipalAt, StandsIn}
use Rattle.strict.specs.declared.Principal.{Principal}

-- what is known of a node is enough here
pub node_inside : {len at : ℕ} {n : Node} → NodeWithin len at n → NodeInside len n
node_inside w = record {
  argument_inside = w.argument_inside;
  linear_within = w.linear_within;
  unrestricted_within = w.unrestricted_within;
  next_inside = w.next_inside;
}

-- the formulas of a zone, one after another
formulas_along : (s : List ℕ) (end at : ℕ) (fs : List Formula) → Stands s at (write_formulas fs) → end ≡ at + length (write_formulas fs) → FormulasFit fs → Along s end at fs
unfolding write_formulas
formulas_along s end at [] h e fit = omega arith
formulas_along s end at (f ∷ fs) h e fit =
    let behind : Stands s (at + size f) (write_formulas fs) = rw (← length_write f) (stands_right (write_formula f) (write_formulas fs) h) in
    let n : length (write_formula f ++ write_formulas fs) ≡ size f + length (write_formulas fs) = length-append (write_formula f) (write_formulas fs) ∙ ap (λ (k : ℕ). k + length (write_formulas fs)) (length_write f) in
    (record { stands = stands_left (write_formula f) (write_formulas fs) h; fits = fit.0 }, formulas_along s end (at + size f) fs behind (omega arith) fit.1)

pub holds_along : (s : List ℕ) (z : Span) (fs : List Formula) → Holds s z fs → Along s z.end z.start fs
holds_along s z fs h = formulas_along s z.end z.start fs h.stands h.ends h.fit

pub linear_run : (n : Node) {r : Run} → r.at ≡ n.linear.start → r.end ≡ n.linear.end → r.how ≡ Spelled → LinearRun n r
unfolding read_as
linear_run n a e h = record {
  within = λ i. record { at_inside = omega (arith, i.linear_within.ordered, i.linear_within.inside); end_inside = omega (arith, i.linear_within.inside) };
  reads = λ {s} {q} i. record { stand = q.linear; along = rw (a, e) (holds_along s n.linear q.linear i.linear_is); read = rw h };
}

pub unrestricted_run : (n : Node) {r : Run} → r.at ≡ n.unrestricted.start → r.end ≡ n.unrestricted.end → r.how ≡ Plain → UnrestrictedRun n r
unfolding read_as
unrestricted_run n a e h = record {
  within = λ i. record { at_inside = omega (arith, i.unrestricted_within.ordered, i.unrestricted_within.inside); end_inside = omega (arith, i.unrestricted_within.inside) };
  reads = λ {s} {q} i. record { stand = q.unrestricted; along = rw (a, e) (holds_along s n.unrestricted q.unrestricted i.unrestricted_is); read = rw h (sym (map-id q.unrestricted)) };
}

-- ---- the parts of a formula, by what follows its tag

-- the names of what follows fit
RestNames : Rest → Type 0
RestNames unit = Unit {0}
RestNames (named n) = n < 65536
RestNames (binary a b) = NamesFit a × NamesFit b
RestNames (unary a) = NamesFit a

rest_names : (f : Formula) → NamesFit f → RestNames (rest_of f)
unfolding RestNames rest_of
rest_names One h = h
rest_names Bottom h = h
rest_names Top h = h
rest_names Zero h = h
rest_names (Atom a) h = h
rest_names (NegAtom a) h = h
rest_names (Tensor a b) h = h
rest_names (Par a b) h = h
rest_names (With a b) h = h
rest_names (Plus a b) h = h
rest_names (Lolli a b) h = h
rest_names (OfCourse a) h = h
rest_names (WhyNot a) h = h

module _ {s : List ℕ} {at : ℕ} (x : Formula) (here : FormulaAt s at x) where
  one_part_at : {a : Formula} → rest_of x ≡ unary a → FormulaAt s (at + 1) a × (size x ≡ suc (size a))
  unfolding RestNames
  one_part_at e =
      let p = one_here x here.stands e in
      (record { stands = p.0; fits = record { height_fits = omega (arith, here.fits.height_fits, p.2); names_fit = rw e at (rest_names x here.fits.names_fit) } }, p.1)

  two_parts_at : {a b : Formula} → rest_of x ≡ binary a b → FormulaAt s (at + 1) a × FormulaAt s (at + 1 + size a) b × (size x ≡ suc (size a + size b))
  unfolding RestNames
  two_parts_at {a} {b} e =
      let p = two_here x here.stands e in
      let names : NamesFit a × NamesFit b = rw e at (rest_names x here.fits.names_fit) in (
        record { stands = p.0; fits = record { height_fits = omega (arith, here.fits.height_fits, p.3); names_fit = names.0 } },
        record { stands = p.1; fits = record { height_fits = omega (arith, here.fits.height_fits, p.3); names_fit = names.1 } },
        p.2,
      )

-- the left part and the right part, by what follows
module _ (f : Formula) where
  left_of_two : {a b : Formula} → rest_of f ≡ binary a b → left_part f ≡ a
  left_of_two {a} {b} e = let k = rw e at (follows f) in ap left_part (two_formed f e) ∙ left_make 0 a b (tag_of f) k.0 (omega (arith, k.1))

  right_of_two : {a b : Formula} → rest_of f ≡ binary a b → right_part f ≡ b
  right_of_two {a} {b} e = let k = rw e at (follows f) in ap right_part (two_formed f e) ∙ right_make 0 a b (tag_of f) k.0 k.1

  left_of_one : {a : Formula} → rest_of f ≡ unary a → left_part f ≡ a
  left_of_one {a} e = let k = rw e at (follows f) in ap left_part (one_formed f e) ∙ left_make 0 a One (tag_of f) (omega (arith, k.0)) k.1

-- a negation has no implication at its top
negate_spelled : (f : Formula) → spell (negate f) ≡ negate f
unfolding spell negate
negate_spelled One = refl
negate_spelled Bottom = refl
negate_spelled Top = refl
negate_spelled Zero = refl
negate_spelled (Atom a) = refl
negate_spelled (NegAtom a) = refl
negate_spelled (Tensor a b) = refl
negate_spelled (Par a b) = refl
negate_spelled (With a b) = refl
negate_spelled (Plus a b) = refl
negate_spelled (Lolli a b) = refl
negate_spelled (OfCourse a) = refl
negate_spelled (WhyNot a) = refl

-- how strict mode reads the left part, and that part spelled out
part_read : (t : ℕ) (a : Formula) → spell (read_as (left_how t Spelled) a) ≡ read_as (part_how t) a
unfolding part_how left_how read_as
part_read t a = go (eqb t 10)
  where
    go : (b : Bool) → spell (read_as (elim b as (λ _. How) [ true ↦ Negated | false ↦ Plain ]) a) ≡ read_as (elim b as (λ _. How) [ true ↦ Negated | false ↦ Spelled ]) a
    go true = negate_spelled a
    go false = refl

module _ (x : Formula) where
  spelled_two : {a b : Formula} → rest_of x ≡ binary a b → rest_of (spell x) ≡ binary (read_as (left_how (tag_of x) Spelled) a) b
  unfolding rest_as read_as right_how
  spelled_two e = read_rest Spelled x ∙ ap (rest_as Spelled (tag_of x)) e

  spelled_one : {a : Formula} → rest_of x ≡ unary a → rest_of (spell x) ≡ unary (read_as (left_how (tag_of x) Spelled) a)
  unfolding rest_as read_as
  spelled_one e = read_rest Spelled x ∙ ap (rest_as Spelled (tag_of x)) e

  two_left : {a b : Formula} → rest_of x ≡ binary a b → spell (left_part (spell x)) ≡ read_as (part_how (tag_of x)) a
  two_left {a} e = ap spell (left_of_two (spell x) (spelled_two e)) ∙ part_read (tag_of x) a

  two_right : {a b : Formula} → rest_of x ≡ binary a b → right_part (spell x) ≡ b
  two_right e = right_of_two (spell x) (spelled_two e)

  one_left : {a : Formula} → rest_of x ≡ unary a → spell (left_part (spell x)) ≡ read_as (part_how (tag_of x)) a
  one_left {a} e = ap spell (left_of_one (spell x) (spelled_one e)) ∙ part_read (tag_of x) a

  -- no implication has one part only
  one_plain : {a : Formula} → rest_of x ≡ unary a → left_part (spell x) ≡ a
  unfolding left_how read_as
  one_plain {a} e =
      let tag : (11 ≤ tag_of x) × (tag_of x < 13) = rw e at (follows x) in
      let stays : left_how (tag_of x) Spelled ≡ Plain = rw (left_how, ne_eqb (tag_of x) 10 λ k. omega arith) in
      left_of_one (spell x) (spelled_one e) ∙ ap (λ h. read_as h a) stays

-- ---- the principal formula

one_reads : {s : List ℕ} {run : Run} (f : Formula) {g : Formula} → FormulaAt s run.at f → run.at + size f ≡ run.end → g ≡ read_as run.how f → Reads s run (g ∷ [])
one_reads f here ends e = record { stand = f ∷ []; along = (here, ends); read = ap (λ (h : Formula). h ∷ []) e }

module _ (s : List ℕ) (at end : ℕ) (some : at < end) (inside : end ≤ length s) (f : Principal) {byte next middle : ℕ}
    (byte_is : byte ≡ get_or s at 0)
    (next_is : next ≡ min (at + 1) (length s))
    (middle_is : PartEnds s next end middle)
    (tag_is : f.tag ≡ sign_of byte Spelled)
    (whole_at : f.whole.at ≡ at)
    (whole_end : f.whole.end ≡ end)
    (whole_how : f.whole.how ≡ Spelled)
    (left_at : f.left.at ≡ next)
    (left_end : f.left.end ≡ middle)
    (left_how : f.left.how ≡ part_how byte)
    (right_at : f.right.at ≡ middle)
    (right_end : f.right.end ≡ end)
    (right_how : f.right.how ≡ Spelled)
  where
    places : PrincipalWithin (length s) f
    places = record {
      whole_within = record { at_inside = omega arith; end_inside = omega arith };
      left_within = record { at_inside = omega arith; end_inside = omega (arith, middle_is.within) };
      right_within = record { at_inside = omega (arith, middle_is.within); end_inside = omega arith };
    }

    module _ (x : Formula) (here : FormulaAt s at x) (ends : end ≡ at + size x) where
      tag_x : f.tag ≡ tag_of (spell x)
      unfolding read_as
      tag_x = tag_is ∙ ap (λ (t : ℕ). sign_of t Spelled) (byte_is ∙ tag_stands x here.stands) ∙ sym (read_tag Spelled x)

      how_x : f.left.how ≡ part_how (tag_of x)
      how_x = left_how ∙ ap part_how (byte_is ∙ tag_stands x here.stands)

      next_x : next ≡ at + 1
      next_x = next_is ∙ omega arith

      -- what follows the tag
      two_x : 6 ≤ f.tag → f.tag < 11 → (a : Formula) × (b : Formula) × (rest_of x ≡ binary a b)
      unfolding read_as
      two_x low high = two_follow (rest_of x) (read_follows Spelled x) (rw (← tag_x) low) (rw (← tag_x) high)

      one_x : 11 ≤ f.tag → (a : Formula) × (rest_of x ≡ unary a)
      unfolding read_as
      one_x low = one_follows (rest_of x) (read_follows Spelled x) (rw (← tag_x) low)

      -- the first part ends in the middle
      middle_x : {a : Formula} → FormulaAt s (at + 1) a → at + 1 + size a ≤ end → middle ≡ at + 1 + size a
      middle_x {a} there within = middle_is.past a (rw next_x there) (omega (arith, next_x)) ∙ ap (λ (k : ℕ). k + size a) next_x

      whole_x : Reads s f.whole (spell x ∷ [])
      unfolding read_as
      whole_x = one_reads x (rw whole_at here) (omega arith) (rw whole_how refl)

      plain_x : Reads s (plain_run f.whole) (x ∷ [])
      unfolding read_as
      plain_x = one_reads x (rw whole_at here) (omega arith) refl

      module _ {a : Formula} (there : FormulaAt s (at + 1) a) (within : at + 1 + size a ≤ end) where
        left_there : FormulaAt s f.left.at a
        left_there = rw (left_at, next_x) there

        left_ends : f.left.at + size a ≡ f.left.end
        left_ends = omega (arith, middle_x there within, next_x)

        left_x : spell (left_part (spell x)) ≡ read_as (part_how (tag_of x)) a → Reads s f.left (spell (left_part (spell x)) ∷ [])
        left_x e = one_reads a left_there left_ends (rw how_x e)

        part_x : left_part (spell x) ≡ a → Reads s (plain_run f.left) (left_part (spell x) ∷ [])
        unfolding read_as
        part_x e = one_reads a left_there left_ends e

      left_two : 6 ≤ f.tag → f.tag < 11 → Reads s f.left (spell (left_part (spell x)) ∷ [])
      left_two low high =
          let t = two_x low high in
          let p = two_parts_at x here t.2 in
          left_x p.0 (omega (arith, p.2)) (two_left x t.2)

      left_one : 11 ≤ f.tag → Reads s f.left (spell (left_part (spell x)) ∷ [])
      left_one low =
          let t = one_x low in
          let p = one_part_at x here t.1 in
          left_x p.0 (omega (arith, p.1)) (one_left x t.1)

      right_there : (a : Formula) {b : Formula} → FormulaAt s (at + 1 + size a) b → middle ≡ at + 1 + size a → at + 1 + size a + size b ≡ end → right_part (spell x) ≡ b → Reads s f.right (spell (right_part (spell x)) ∷ [])
      unfolding read_as
      right_there a {b} there m e r = one_reads b (rw (right_at, m) there) (omega arith) (rw right_how (ap spell r))

      right_x : 6 ≤ f.tag → f.tag < 11 → Reads s f.right (spell (right_part (spell x)) ∷ [])
      right_x low high =
          let t = two_x low high in
          let p = two_parts_at x here t.2 in
          right_there t.0 p.1 (middle_x p.0 (omega (arith, p.2))) (omega (arith, p.2)) (two_right x t.2)

      principal_x : PrincipalIs s f x
      principal_x = record {
        tag_is = tag_x;
        whole_reads = whole_x;
        plain_reads = plain_x;
        left_reads = go (ltb f.tag 11) refl;
        right_reads = right_x;
        part_reads = λ low. let t = one_x low in let p = one_part_at x here t.1 in part_x p.0 (omega (arith, p.1)) (one_plain x t.1);
      }
        where
          go : (b : Bool) → ltb f.tag 11 ≡ b → 6 ≤ f.tag → Reads s f.left (spell (left_part (spell x)) ∷ [])
          go true e low = left_two low (ltb-true _ _ e)
          go false e low = left_one (ltb-false _ _ e)

    pub principal_at : PrincipalAt s at end f
    principal_at = record { within = places; is = principal_x }

-- ---- the formula of a cut, and its negation

cut_ends : {s : List ℕ} (run : Run) {c : Formula} → PartEnds s run.at (length s) run.end → FormulaAt s run.at c → run.at + size c ≡ run.end
cut_ends run {c} ends here = sym (ends.past c here (ends_inside c here.stands))

module _ {s : List ℕ} {run : Run} (ends : PartEnds s run.at (length s) run.end) where
  pub cut_within : run.at ≤ length s → RunWithin (length s) run
  cut_within h = record { at_inside = h; end_inside = ends.within }

  pub cut_reads : {c : Formula} → FormulaAt s run.at c → run.how ≡ Spelled → Reads s run (spell c ∷ [])
  unfolding read_as
  cut_reads {c} here h = one_reads c here (cut_ends run ends here) (rw h refl)

  pub dual_reads : {c : Formula} → FormulaAt s run.at c → run.how ≡ Negated → Reads s run (spell (negate c) ∷ [])
  unfolding read_as
  dual_reads {c} here h = one_reads c here (cut_ends run ends here) (rw h (negate_spelled c))

-- ---- a formula that stands in a zone

-- the one formula of a run
record OneRead (s : List ℕ) (run : Run) (x : Formula) : Type 0 where
  formula : Formula
  here : FormulaAt s run.at formula
  reads : read_as run.how formula ≡ x

one_read : {s : List ℕ} {run : Run} {x : Formula} → Reads s run (x ∷ []) → OneRead s run x
one_read {s} {run} {x} r = go r.stand r.along r.read
  where
    go : (fs : List Formula) → Along s run.end run.at fs → x ∷ [] ≡ map (read_as run.how) fs → OneRead s run x
    go [] along e = let z : ◌≡◌ {A = ℕ} 0 1 = cc in absurd (omega arith)
    go (f ∷ []) along e = record { formula = f; here = along.0; reads = cc }
    go (f ∷ g ∷ fs) along e = let z : ◌≡◌ {A = ℕ} 0 1 = cc in absurd (omega arith)

among_times : (x : Formula) (fs : List Formula) → ltb 0 (times plain x fs) ≡ among x fs
unfolding among total
among_times x [] = refl
among_times x (f ∷ fs) = go (same x f) (among_times x fs)
  where
    go : (b : Bool) → ltb 0 (times plain x fs) ≡ among x fs → ltb 0 (as_number b + times plain x fs) ≡ elim b as (λ _. Bool) [ true ↦ true | false ↦ among x fs ]
    go true e = lt-ltb 0 (1 + times plain x fs) (omega arith)
    go false e = let none : 0 + times plain x fs ≡ times plain x fs = omega arith in ap (λ (n : ℕ). ltb 0 n) none ∙ e

pub stands_in : (s : List ℕ) (f zone : Run) {x : Place} {n : ℕ} → Counts s zone x n → x.at ≡ f.at → x.how ≡ f.how → StandsIn s f zone (ltb 0 n)
stands_in s f zone {x} {n} counts at_is how_is = record {
  right = λ {x = y} {fs} f_reads zone_reads.
      let one = one_read f_reads in
      let e : n ≡ times plain y fs = counts.right fs one.formula zone_reads (rw at_is one.here) ∙ ap (λ z. times plain z fs) (ap (λ h. read_as h one.formula) how_is ∙ one.reads) in
      ap (λ (k : ℕ). ltb 0 k) e ∙ among_times y fs;
}
