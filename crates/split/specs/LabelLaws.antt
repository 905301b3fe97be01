-- Laws of numbering formulas in bytes: the number of the formula at a place, and those of a zone's formulas but for the last. Assumes nothing.
use Rattle.std.specs.Prelude.{◌≡◌, Bool, List, [], ◌∷◌, ◌++◌, map, ℕ, suc, ◌+◌, ◌≤◌, ◌<◌, get_or, length, take, set, None, Option, Some}
use Rattle.std.proofs.Math.Path.{refl, sym, ap}
use Rattle.std.proofs.Common.{subst, ◌∙◌, append_assoc, add-one, arith, get_or-take, length-append, length-set, length-take-le, take-suc-set}
use Rattle.std.proofs.Math.Bool.{true, false}
use Rattle.std.proofs.lemmas.Bool.{false≢true}
use Rattle.std.specs.Option.{is_some}
use Rattle.std.proofs.lemmas.List.{map-append, length-map, get_or_at}
use Rattle.std.proofs.Math.Dec.{ltb}
use Rattle.std.proofs.Math.ListN.{get_or-append}
use borrow.Author.Tests.{ltb-true, ltb-false}
use Rattle.logic.specs.Formula.{Formula, One, size}
use Rattle.tree.specs.FormulaPlaces.{First, holds_first, holds_none}
use Rattle.tree.specs.Places.{Holds, Passed}
use Rattle.tree.specs.declared.Span.{Span}
use Rattle.held.specs.Words.{count, told}
use Rattle.zones.specs.declared.Zones.{Zones}
use Rattle.zones.specs.Zones.{linears, Below}
use Rattle.zones.specs.ZonesLaws.{linears_length, within_linear, below_append, below_one}
use Rattle.expand.specs.Writing.{Sound}
use Rattle.bags.specs.Reading.{read_as}
use Rattle.bags.specs.declared.How.{How}
use Rattle.bags.specs.declared.How.TheVariants.{Plain}
use Rattle.shown.specs.Matching.{Comparing, Matches}
use Rattle.shown.specs.MatchingLaws.{matches_tells}
use Rattle.split.specs.declared.Labels.{Labels}
use Rattle.split.specs.Splitting.{LabelOf, LabelNone, Labelled, Unlike, Linears, Listing, LabelsListed, LabelsNone, LabelledTo}

-- ---- an answer by its test

pub some_of : (r : Option ℕ) → is_some r ≡ true → (next : ℕ) × (r ≡ Some next)
some_of (Some next) e = (next, refl)
some_of None e = absurd (false≢true e)

pub none_of : (r : Option ℕ) → is_some r ≡ false → r ≡ None
none_of (Some next) e = absurd (false≢true (sym e))
none_of None e = refl

-- ---- one formula

pub linear_item : {m : List ℕ} {z : Zones} → Sound m z → (k : ℕ) → k < length (linears z) → (k < z.linear_len) × (get_or (linears z) k 0 ≡ get_or z.linear k 0)
linear_item {z = z} sound k h =
    let low : k < z.linear_len = omega (arith, linears_length sound.fits) in
    (low, get_or-take z.linear_len z.linear k 0 low)

pub linear_low : {m : List ℕ} {z : Zones} → Sound m z → (k : ℕ) → k < z.linear_len → get_or z.linear k 0 < count m
linear_low {m} sound k l = within_linear (count m) sound.fits sound.within k l

module _ {m : List ℕ} {z : Zones} (sound : Sound m z) {s : List ℕ} {at : ℕ} where
  pub linear_compares : {k : ℕ} → at ≤ length s → k < z.linear_len → Comparing m (get_or z.linear k 0) s at
  linear_compares {k} inside l = record { wf = sound.wf; low = linear_low sound k l; inside = inside }

  pub unlike_start : Unlike m z s at 0
  unlike_start f there j l e = omega arith

  module _ {k : ℕ} {how : How} {r : Option ℕ} (l : k < z.linear_len) (plain : how ≡ Plain) (match : Matches m (get_or z.linear k 0) how s at r) where
    pub label_found : {next : ℕ} → r ≡ Some next → LabelOf m z s at (get_or z.linear k 0)
    unfolding read_as
    label_found e = record {
      low = linear_low sound k l;
      is = λ f there. sym (rw plain at ((matches_tells match there).same_formula e));
    }

    pub unlike_next : r ≡ None → Unlike m z s at k → Unlike m z s at (k + 1)
    unfolding read_as
    unlike_next e before f there j c same = go (ltb j k) refl
      where
        go : (b : Bool) → ltb j k ≡ b → ⊥
        go true h = before f there j (ltb-true j k h) same
        go false h =
            let here : j ≡ k = omega (arith, ltb-false j k h) in
            (matches_tells match there).other_formula e (rw plain (sym same ∙ ap (λ (n : ℕ). told m (get_or z.linear n 0)) here))

  pub label_none : {k : ℕ} → z.linear_len ≤ k → Unlike m z s at k → LabelNone m z s at
  label_none h u = record { is = λ f there j l e. u f there j (omega arith) e }

-- ---- the formulas of a zone

module _ {m : List ℕ} (z : Zones) {s : List ℕ} {start end : ℕ} {n p : ℕ} {numbers : List ℕ} (listing : Listing m s start end n p numbers) where
  -- so many are listed
  named_long : length (map (told m) (take n numbers)) ≡ n
  named_long = length-map (take n numbers) (told m) ∙ length-take-le n numbers (omega (arith, listing.sized, listing.few))

  -- where the zone ends here it was empty
  pub listing_end : end ≤ p → LabelsNone m z s (record { start = start; end = end })
  listing_end h = record { is = λ fs there few front final e linears. never fs there front final e }
    where
      never : (fs : List Formula) → Holds s (record { start = start; end = end }) fs → (front : List Formula) (final : Formula) → fs ≡ front ++ (final ∷ []) → ⊥
      never fs there front final e =
          let r = listing.left fs there in
          let none : r.rest ≡ [] = holds_none r.rest r.holds h in
          omega (
            arith,
            ap length r.all,
            ap length e,
            length-append front (final ∷ []),
            length-append (map (told m) (take n numbers)) r.rest,
            ap length none,
            named_long,
            listing.unread h,
          )

  -- a formula stands at the place, and the next one behind it
  module _ {next : ℕ} (l : p < end) (passed : Passed s p end next) where
    module _ (fs : List Formula) (there : Holds s (record { start = start; end = end }) fs) where
      here : First s (record { start = p; end = end }) (listing.left fs there).rest
      here = holds_first (listing.left fs there).rest (listing.left fs there).holds l

      next_is : next ≡ p + size here.formula
      next_is = passed.past here.formula here.there here.within

      all_are : fs ≡ map (told m) (take n numbers) ++ (here.formula ∷ here.others)
      all_are = (listing.left fs there).all ∙ ap (λ (gs : List Formula). map (told m) (take n numbers) ++ gs) here.joined

      behind : Holds s (record { start = next; end = end }) here.others
      behind = here.holds next next_is

      long : length fs ≡ n + suc (length here.others)
      long = omega (arith, ap length all_are, length-append (map (told m) (take n numbers)) (here.formula ∷ here.others), named_long)

    -- the last formula of the zone
    pub listing_last : end ≤ length s → next ≡ end → LabelsListed m z s (record { start = start; end = end }) n p numbers
    listing_last inside e = record {
      sized = listing.sized;
      few = listing.few;
      below = listing.below;
      inside = omega arith;
      is = λ fs there. record {
        final = (here fs there).formula;
        all =
            all_are fs there
            ∙ ap (λ (gs : List Formula). map (told m) (take n numbers) ++ ((here fs there).formula ∷ gs)) (holds_none (here fs there).others (behind fs there) (omega arith));
        there = (here fs there).there.stands;
      };
    }

    -- more than 31 formulas
    pub listing_full : n ≡ 31 → LabelsNone m z s (record { start = start; end = end })
    listing_full e = record { is = λ fs there few front final k linears. omega (arith, long fs there) }

    module _ (more : next ≡ end → ⊥) where
      -- it is not the last
      not_last : (fs : List Formula) (there : Holds s (record { start = start; end = end }) fs) → 1 ≤ length (here fs there).others
      not_last fs there =
          let second = holds_first (here fs there).others (behind fs there) (omega (arith, passed.within)) in
          omega (arith, ap length second.joined)

      -- it is none of the linear formulas
      pub listing_other : LabelNone m z s p → LabelsNone m z s (record { start = start; end = end })
      listing_other none = record { is = λ fs there few front final e linears. never fs there front final e linears }
        where
          never : (fs : List Formula) → Holds s (record { start = start; end = end }) fs → (front : List Formula) (final : Formula) → fs ≡ front ++ (final ∷ [])
              → Linears m z front → ⊥
          never fs there front final e linears =
              let low : n < length front = omega (arith, long fs there, not_last fs there, ap length e, length-append front (final ∷ [])) in
              let x = linears.each n low in
              let same : get_or front n One ≡ (here fs there).formula =
              sym (get_or-append front (final ∷ []) One n low)
              ∙ ap (λ (gs : List Formula). get_or gs n One) (sym e ∙ all_are fs there)
              ∙ get_or_at (map (told m) (take n numbers)) (here fs there).formula (here fs there).others One n named_long in
              none.is (here fs there).formula (here fs there).there.stands x.place x.low (x.here ∙ same)

      -- it is, and is listed
      pub listing_next : (n ≡ 31 → ⊥) → {x : ℕ} → LabelOf m z s p x → Listing m s start end (n + 1) next (set numbers n x)
      listing_next room {x} label = record {
        sized = length-set numbers n x ∙ listing.sized;
        few = omega (arith, listing.few);
        below = subst (Below (count m)) (sym listed) (below_append (count m) (take n numbers) (x ∷ []) listing.below (below_one (count m) label.low));
        within = passed.within;
        unread = λ h. absurd (more (omega (arith, passed.within)));
        left = λ fs there. record {
          rest = (here fs there).others;
          all =
              all_are fs there
              ∙ ap (λ (f : Formula). map (told m) (take n numbers) ++ (f ∷ (here fs there).others)) (sym (label.is (here fs there).formula (here fs there).there.stands))
              ∙ sym (named_more (here fs there).others);
          holds = behind fs there;
        };
      }
        where
          listed : take (n + 1) (set numbers n x) ≡ take n numbers ++ (x ∷ [])
          listed = rw add-one (take-suc-set numbers n x (omega (arith, listing.sized, listing.few)))

          named_more : (gs : List Formula) → map (told m) (take (n + 1) (set numbers n x)) ++ gs ≡ map (told m) (take n numbers) ++ (told m x ∷ gs)
          named_more gs =
              ap (λ (xs : List ℕ). map (told m) xs ++ gs) listed
              ∙ ap (λ (fs : List Formula). fs ++ gs) (map-append (told m) (take n numbers) (x ∷ []))
              ∙ append_assoc (map (told m) (take n numbers)) (told m x ∷ []) gs

-- the zone from its start on
pub listing_start : {m s numbers : List ℕ} {start end : ℕ} → length numbers ≡ 31 → start ≤ end → Listing m s start end 0 start numbers
listing_start sized h = record {
  sized = sized;
  few = omega arith;
  below = record { below = λ i l. absurd (omega arith) };
  within = h;
  unread = λ l. refl;
  left = λ fs there. record { rest = fs; all = refl; holds = there };
}

-- ---- an answer by its case

module _ {m : List ℕ} {z : Zones} {s : List ℕ} where
  pub labelled_of : {at x : ℕ} (r : Option ℕ) → Labelled m z s at r → r ≡ Some x → LabelOf m z s at x
  labelled_of {at} r a e = subst (λ (r : Option ℕ). Labelled m z s at r) e a

  pub labelled_none : {at : ℕ} (r : Option ℕ) → Labelled m z s at r → r ≡ None → LabelNone m z s at
  labelled_none {at} r a e = subst (λ (r : Option ℕ). Labelled m z s at r) e a

  pub labelled_listed : {zone : Span} {numbers : List ℕ} {x : Labels} (r : Option Labels) → LabelledTo m z s zone r numbers → r ≡ Some x
      → LabelsListed m z s zone x.count x.last numbers
  labelled_listed {zone} {numbers} r a e = subst (λ (r : Option Labels). LabelledTo m z s zone r numbers) e a

  pub labelled_unlisted : {zone : Span} (numbers : List ℕ) (r : Option Labels) → LabelledTo m z s zone r numbers → r ≡ None → LabelsNone m z s zone
  labelled_unlisted {zone} numbers r a e = subst (λ (r : Option Labels). LabelledTo m z s zone r numbers) e a
