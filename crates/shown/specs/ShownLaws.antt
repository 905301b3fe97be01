-- A sequent of held formulas and a node's zones: items and formulas compared one by one are the zones compared, and the first decomposable formula is
-- the one spelled out. Assumes nothing.
use Rattle.std.specs.Prelude.{◌≡◌, Bool, true, false, ◌&&◌, ℕ, zero, suc, ◌+◌, ◌≤◌, ◌<◌, eqb, length, get_or, map, Option, Some, None}
use Rattle.std.proofs.Math.Path.{refl, sym, ap}
use Rattle.std.proofs.Common.{ap₂, ◌∙◌, suc-le-suc, arith, le_of_suc-le-suc, add-one, ne_eqb, eq-eqb, length-append, get_or-take, drop-cons}
use mathlib.Core.List.{List, [], ◌∷◌}
use Rattle.std.proofs.Math.ListN.{drop, get_or-map}
use Rattle.std.proofs.lemmas.List.{length-map}
use Rattle.std.proofs.Math.Seq.{drop-length}
use Rattle.logic.specs.Formula.{Formula, One, same}
use Rattle.logic.proofs.FormulaLaws.{same_symmetric, size_positive}
use Rattle.logic.specs.Sequent.{Sequent}
use Rattle.logic.specs.Built.{decomposable}
use Rattle.logic.specs.Conclusion.{spell_first, concluded}
use Rattle.wire.specs.Write.{write_formula, write_formulas}
use Rattle.wire.proofs.FormulaBytes.{length_write}
use Rattle.tree.specs.Places.{Holds, NodeFound}
use Rattle.tree.specs.FormulaPlaces.{First, holds_first, holds_none}
use Rattle.tree.specs.declared.Span.{Span}
use Rattle.tree.specs.declared.Node.{Node}
use Rattle.bags.specs.Reading.{read_as}
use Rattle.bags.specs.declared.How.{How}
use Rattle.bags.specs.declared.How.TheVariants.{Plain, Spelled}
use Rattle.held.specs.Words.{count, told}
use Rattle.zones.specs.declared.Zones.{Zones}
use Rattle.zones.specs.Zones.{linears, unrestricteds, meant}
use Rattle.zones.specs.ZonesLaws.{linears_length, unrestricteds_length}
use Rattle.expand.specs.Writing.{Sound, FirstAt}
use Rattle.short.specs.Shortening.{same_zone, same_sequent}
use Rattle.shown.specs.Matching.{Comparing, Matches, how_of, spell_nth, spell_one, read_from, items_from, Listed, ZoneShown, Remaining, Showing, UnrestrictedShown, Shown}
use Rattle.shown.specs.MatchingLaws.{matched_same, matched_different, next_inside}

-- ---- how items are read

pub how_here : (k spelled : ℕ) → k ≡ spelled → how_of k (Some spelled) ≡ Spelled
how_here k spelled e = rw (eq-eqb k spelled e, how_of)

pub how_elsewhere : (k spelled : ℕ) → (k ≡ spelled → ⊥) → how_of k (Some spelled) ≡ Plain
how_elsewhere k spelled h = rw (ne_eqb k spelled h, how_of)

-- past its place nothing is spelled out
read_past : (k spelled : ℕ) → spelled < k → (fs : List Formula) → read_from k (Some spelled) fs ≡ fs
unfolding read_from read_as
read_past k spelled h [] = refl
read_past k spelled h (f ∷ fs) = ap₂ ◌∷◌ (ap (λ how. read_as how f) (how_elsewhere k spelled (λ e. omega arith))) (read_past (suc k) spelled (omega arith) fs)

read_nth : (k j spelled : ℕ) → spelled ≡ k + j → (fs : List Formula) → read_from k (Some spelled) fs ≡ spell_nth j fs
unfolding read_from read_as spell_nth
read_nth k j spelled e [] = refl
read_nth k zero spelled e (f ∷ fs) = ap₂ ◌∷◌ (ap (λ how. read_as how f) (how_here k spelled (omega arith))) (read_past (suc k) spelled (omega arith) fs)
read_nth k (suc j) spelled e (f ∷ fs) = ap₂ ◌∷◌ (ap (λ how. read_as how f) (how_elsewhere k spelled (λ d. omega arith))) (read_nth (suc k) j spelled (omega arith) fs)

read_plain : (k : ℕ) (fs : List Formula) → read_from k None fs ≡ fs
unfolding read_from read_as
read_plain k [] = refl
read_plain k (f ∷ fs) = ap (λ gs. f ∷ gs) (read_plain (suc k) fs)

pub read_all : (spelled : Option ℕ) (fs : List Formula) → read_from 0 spelled fs ≡ spell_one spelled fs
read_all None fs = read_plain 0 fs
read_all (Some spelled) fs = read_nth 0 spelled spelled (omega arith) fs

-- past the last formula nothing is spelled out
pub spell_none : (k : ℕ) (fs : List Formula) → length fs ≤ k → spell_nth k fs ≡ fs
unfolding spell_nth
spell_none k [] h = refl
spell_none zero (f ∷ fs) h = absurd (omega arith)
spell_none (suc k) (f ∷ fs) h = ap (λ gs. f ∷ gs) (spell_none k fs (le_of_suc-le-suc h))

-- the place of the first decomposable formula, or how many there are: there the search spells an implication out
pub spell_first_nth : (fs : List Formula) (i : ℕ) → i ≤ length fs → ((k : ℕ) → k < i → decomposable (get_or fs k One) ≡ false) → (i < length fs → decomposable (get_or fs i One) ≡ true)
    → spell_first fs ≡ spell_nth i fs
unfolding spell_first spell_nth
spell_first_nth [] i low passed here = refl
spell_first_nth (f ∷ fs) zero low passed here = rw (here (omega arith)) refl
spell_first_nth (f ∷ fs) (suc i) low passed here =
    rw (passed zero (omega arith)) (ap (λ gs. f ∷ gs) (spell_first_nth fs i (le_of_suc-le-suc low) (λ k h. passed (suc k) (suc-le-suc h)) (λ h. here (suc-le-suc h))))

-- ---- the items

module _ {m items : List ℕ} (z : Listed m items) where
  named_length : length (map (told m) items) ≡ length items
  named_length = length-map items (told m)

  pub item_low : (k : ℕ) → k < length items → get_or items k 0 < count m
  item_low k h = z.below.below k h

  named_at : (k : ℕ) → k < length items → drop k (map (told m) items) ≡ told m (get_or items k 0) ∷ drop (suc k) (map (told m) items)
  named_at k h =
      drop-cons (map (told m) items) k (told m 0) (omega (arith, named_length))
      ∙ ap (λ f. f ∷ drop (suc k) (map (told m) items)) (get_or-map (told m) items k 0)

  pub named_getD : (k : ℕ) → k < length items → get_or (map (told m) items) k One ≡ told m (get_or items k 0)
  named_getD k h = ap (λ fs. get_or fs 0 One) (sym (drop-cons (map (told m) items) k One (omega (arith, named_length))) ∙ named_at k h)

  named_end : drop (length items) (map (told m) items) ≡ []
  named_end = rw named_length at (drop-length (map (told m) items))

-- ---- zones compared in order

none_against : {gs : List Formula} (f : Formula) (fs : List Formula) → gs ≡ [] → same_zone (f ∷ fs) gs ≡ false
unfolding same_zone
none_against f fs e = rw e

first_against : {gs : List Formula} (f : Formula) (fs : List Formula) (g : Formula) (hs : List Formula) → gs ≡ g ∷ hs
    → same_zone (f ∷ fs) gs ≡ same g f && same_zone fs hs
unfolding same_zone
first_against f fs g hs e = rw (e, same_zone, same_symmetric f g)

-- either order tells the same
pub same_zone_symmetric : (fs gs : List Formula) → same_zone fs gs ≡ same_zone gs fs
unfolding same_zone
same_zone_symmetric [] [] = refl
same_zone_symmetric [] (g ∷ gs) = refl
same_zone_symmetric (f ∷ fs) [] = refl
same_zone_symmetric (f ∷ fs) (g ∷ gs) = ap₂ ◌&&◌ (same_symmetric f g) (same_zone_symmetric fs gs)

pub same_sequent_symmetric : (p q : Sequent) → same_sequent p q ≡ same_sequent q p
same_sequent_symmetric p q = ap₂ ◌&&◌ (same_zone_symmetric p.linear q.linear) (same_zone_symmetric p.unrestricted q.unrestricted)

-- what a zone holds past the last item: nothing exactly where it ends there
holds_nothing : {s : List ℕ} {p end : ℕ} → Holds s (record { start = p; end = end }) [] → end ≡ p
unfolding write_formulas
holds_nothing holds = omega (arith, holds.ends)

holds_something : {s : List ℕ} {p end : ℕ} (g : Formula) (gs : List Formula) → Holds s (record { start = p; end = end }) (g ∷ gs) → p < end
unfolding write_formulas
holds_something g gs holds = omega (arith, holds.ends, length-append (write_formula g) (write_formulas gs), length_write g, size_positive g)

over : {s : List ℕ} {p end : ℕ} (gs : List Formula) → Holds s (record { start = p; end = end }) gs → eqb p end ≡ same_zone [] gs
unfolding same_zone
over {p = p} {end} [] holds = eq-eqb p end (sym (holds_nothing holds))
over {p = p} {end} (g ∷ gs) holds = ne_eqb p end λ e. omega (arith, holds_something g gs holds)

-- ---- the loop over items and formulas

module _ {m items : List ℕ} {spelled : Option ℕ} {s : List ℕ} {start end : ℕ} (z : Listed m items) where
  pub showing_start : start ≤ length s → Showing m items spelled s start end start 0
  showing_start h = record {
    few = omega arith;
    inside = h;
    left = λ fs holds. record { rest = fs; holds = holds; so = ap (λ gs. same_zone gs fs) (sym (read_all spelled (map (told m) items))) };
  }

  module _ {p k : ℕ} (t : Showing m items spelled s start end p k) where
    pub compares : k < length items → Comparing m (get_or items k 0) s p
    compares h = record { wf = z.wf; low = item_low z k h; inside = t.inside }

    -- what is left begins with the item at place k
    next_item : k < length items → (gs : List Formula)
        → same_zone (items_from m items spelled k) gs ≡ same_zone (read_as (how_of k spelled) (told m (get_or items k 0)) ∷ items_from m items spelled (suc k)) gs
    unfolding read_from
    next_item h gs = rw (named_at z k h) refl

    -- no formula is left for it
    pub showing_short : k < length items → end ≤ p → ZoneShown m items spelled s (record { start = start; end = end }) false
    showing_short h short = record {
      right = λ fs holds.
          let l = t.left fs holds in
          sym (l.so ∙ next_item h l.rest ∙ none_against _ _ (holds_none l.rest l.holds short));
    }

    module _ {how : How} {r : Option ℕ} (h : k < length items) (how_is : how ≡ how_of k spelled) (more : p < end) (c : Matches m (get_or items k 0) how s p r) where
      abbrev later : List Formula
      later = items_from m items spelled (suc k)

      first_left : (fs : List Formula) → (l : Remaining m items spelled s start end p k fs) → First s (record { start = p; end = end }) l.rest
      first_left fs l = holds_first l.rest l.holds more

      first_so : (fs : List Formula) (l : Remaining m items spelled s start end p k fs)
          → same_zone (spell_one spelled (map (told m) items)) fs ≡ same (first_left fs l).formula (read_as how (told m (get_or items k 0))) && same_zone later (first_left fs l).others
      first_so fs l =
          l.so
          ∙ next_item h l.rest
          ∙ first_against _ _ _ _ (first_left fs l).joined
          ∙ ap (λ how. same (first_left fs l).formula (read_as how (told m (get_or items k 0))) && same_zone later (first_left fs l).others) (sym how_is)

      pub showing_differs : r ≡ None → ZoneShown m items spelled s (record { start = start; end = end }) false
      showing_differs e = record {
        right = λ fs holds.
            let l = t.left fs holds in
            let f = first_left fs l in
            sym (first_so fs l ∙ ap (λ b. b && same_zone later f.others) (matched_different _ _ (c.right f.formula f.there.stands) e));
      }

      pub showing_next : {next : ℕ} → r ≡ Some next → Showing m items spelled s start end next (k + 1)
      showing_next {next} e = rw (add-one k) record {
        few = omega arith;
        inside = next_inside c e;
        left = λ fs holds.
            let l = t.left fs holds in
            let f = first_left fs l in
            let yes = matched_same _ _ (c.right f.formula f.there.stands) e in
            record {
              rest = f.others;
              holds = f.holds next yes.1;
              so = first_so fs l ∙ ap (λ b. b && same_zone later f.others) yes.0;
            };
      }

    -- every item is compared: no formula may be left over
    pub showing_end : length items ≤ k → ZoneShown m items spelled s (record { start = start; end = end }) (eqb p end)
    unfolding read_from
    showing_end h = record {
      right = λ fs holds.
          let l = t.left fs holds in
          let e : k ≡ length items = omega (arith, t.few) in
          let none : drop k (map (told m) items) ≡ [] = rw e (named_end z) in
          over l.rest l.holds ∙ ap (λ gs. same_zone (read_from k spelled gs) l.rest) (sym none) ∙ sym l.so;
    }

-- ---- the sequent

module _ {m : List ℕ} {z : Zones} (sound : Sound m z) where
  pub linear_listed : Listed m (linears z)
  linear_listed = record { wf = sound.wf; few = omega (arith, linears_length sound.fits, sound.fits.few); below = sound.within.linear }

  pub unrestricted_listed : Listed m (unrestricteds z)
  unrestricted_listed = record { wf = sound.wf; few = omega (arith, unrestricteds_length sound.fits, sound.fits.few); below = sound.within.unrestricted }

  pub unrestricted_is : {s : List ℕ} {zone : Span} {r : Bool} → ZoneShown m (unrestricteds z) None s zone r → UnrestrictedShown m z s zone r
  unrestricted_is c = record { right = c.right }

  -- the first decomposable formula is the one at the place found
  first_spelled : {i : ℕ} → FirstAt m z i → spell_first (meant (told m) z).linear ≡ spell_nth i (map (told m) (linears z))
  first_spelled {i} f =
      let n = named_length linear_listed in
      let long = linears_length sound.fits in
      spell_first_nth (meant (told m) z).linear i (omega (arith, f.low))
      (λ k h. ap decomposable (named_item k (omega (arith, f.low))) ∙ f.passed k h)
      (λ h. ap decomposable (named_item i (omega arith)) ∙ f.here (omega arith))
    where
      named_item : (k : ℕ) → k < z.linear_len → get_or (map (told m) (linears z)) k One ≡ told m (get_or z.linear k 0)
      named_item k h = named_getD linear_listed k (omega (arith, linears_length sound.fits)) ∙ ap (told m) (get_or-take z.linear_len z.linear k 0 h)

  module _ {s : List ℕ} {place i : ℕ} {n : Node} {linear : Bool} (found : NodeFound s place n) (first : FirstAt m z i)
      (shown : ZoneShown m (linears z) (Some i) s n.linear linear) where
    linear_so : (q : Sequent) → Holds s n.linear q.linear → linear ≡ same_zone (spell_first (meant (told m) z).linear) q.linear
    linear_so q holds = shown.right q.linear holds ∙ ap (λ gs. same_zone gs q.linear) (sym (first_spelled first))

    -- the linear zone tells, and then the unrestricted one
    both : (q : Sequent) {b : Bool} → b ≡ same_zone (concluded (meant (told m) z)).linear q.linear
        → b && same_zone (meant (told m) z).unrestricted q.unrestricted ≡ same_sequent (concluded (meant (told m) z)) q
    both q = ap (λ b. b && same_zone (meant (told m) z).unrestricted q.unrestricted)

    pub other_linear : linear ≡ false → Shown m z s place false
    other_linear e = record {
      right = λ rule q ps there fits.
          both q (sym e ∙ linear_so q (found.is rule q ps there fits).linear_is);
    }

    pub sequent_shown : linear ≡ true → {r : Bool} → UnrestrictedShown m z s n.unrestricted r → Shown m z s place r
    sequent_shown e unrestricted = record {
      right = λ rule q ps there fits.
          let is = found.is rule q ps there fits in
          unrestricted.right q.unrestricted is.unrestricted_is ∙ both q (sym e ∙ linear_so q is.linear_is);
    }
