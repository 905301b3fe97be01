-- Laws of reading both zones' formulas: what a count says of the formulas there, and what `read_zones` answers by its tests. Assumes nothing.
use Rattle.std.proofs.Math.Path.{◌≡◌, sym}
use Rattle.std.specs.Prelude.{refl, ◌⊎◌, List, [], ◌∷◌, ℕ, ◌+◌, ◌≤◌, ◌<◌, Err, Ok, Result}
use Rattle.std.proofs.Common.{ap, ◌∙◌, inl, inr, arith}
use borrow.Author.Tests.{le-leb, lt-leb}
use Rattle.std.proofs.Math.ListN.{length}
use Rattle.std.proofs.Math.Seq.{slice, length-slice}
use Rattle.logic.specs.Formula.{Formula}
use Rattle.logic.proofs.FormulaLaws.{size_positive}
use Rattle.logic.specs.Sequent.{Question}
use Rattle.wire.specs.Read.{Read, got, refused, ◌then◌, read_all, most_formulas}
use Rattle.wire.specs.Fits.{Bytes, first_zone, second_zone}
use Rattle.wire.specs.FitsLaws.{bytes_drop, bytes_take}
use Rattle.wire.proofs.GivesLaws.{when_got}
use Rattle.wire.proofs.ZoneBytes.{all_gives, length_write_formulas}
use Rattle.formula.specs.Answers.{coded}
use Rattle.formula.specs.declared.Refusal as refusal
use Rattle.formula.specs.declared.Refusal.TheVariants.{TooMany}
use Rattle.tree.specs.Answers.{counted}
use Rattle.tree.specs.ReadingLaws.{counted_refused}
use Rattle.question.specs.Answers.{kind_of, zone_size, places_of, answered}
use Rattle.question.specs.Stages.{make_of, formulas_of}
use Rattle.question.specs.Zone.{ZoneOf}

-- every formula takes a byte
pub zone_size_least : (fs : List Formula) → length fs ≤ zone_size fs
zone_size_least [] = omega arith
zone_size_least (f ∷ fs) = omega (arith, length_write_formulas f fs, size_positive f, zone_size_least fs)

module _ (s : List ℕ) (bytes : Bytes s) (at end : ℕ) (inside : end ≤ length s) where
  holds_got : {n : ℕ} (m : Read (List Formula)) → read_all (slice at end s) ≡ m → Ok n ≡ counted 0 m → ZoneOf s at end n
  unfolding counted
  holds_got {n} (got fs rest) e₁ e₂ =
      let back = when_got (all_gives (slice at end s)) e₁ (bytes_drop at (bytes_take end bytes)) in
      let none = back.none_left in
      let many : 0 + length fs ≡ n = cc in
      record {
        zone = record { formulas = fs; read = e₁ ∙ rw none; back = rw none at back; sized = sym (ap length back.bytes_are) ∙ length-slice at end s inside };
        many = omega arith;
      }
  holds_got (refused k) e₁ e₂ = let z : ◌≡◌ {A = ℕ} 0 1 = cc in absurd (omega arith)

  pub holds : {r : Result ℕ refusal.Refusal} {n : ℕ} → r ≡ counted 0 (read_all (slice at end s)) → r ≡ Ok n → ZoneOf s at end n
  holds e h = holds_got (read_all (slice at end s)) refl (sym h ∙ e)

kind_made : (k : ℕ) (Γ Δ : List Formula) → (k ≡ 1) ⊎ (k ≡ 2) → (k ≡ kind_of (make_of k Γ Δ)) × (first_zone (make_of k Γ Δ) ≡ Γ) × (second_zone (make_of k Γ Δ) ≡ Δ)
unfolding kind_of make_of
kind_made k Γ Δ (inl e) = rw e (refl, refl, refl)
kind_made k Γ Δ (inr e) = rw e (refl, refl, refl)

module _ (s : List ℕ) (bytes : Bytes s) (k middle : ℕ) (kind : (k ≡ 1) ⊎ (k ≡ 2)) (inside : (6 ≤ middle) × (middle + 2 ≤ length s)) where
  abbrev whole : Read Question
  whole = formulas_of (make_of k) (slice 6 middle s) (slice (middle + 2) (length s) s)

  pub zones_first : {r : Result ℕ refusal.Refusal} {why : refusal.Refusal} → r ≡ counted 0 (read_all (slice 6 middle s)) → r ≡ Err why → Err why ≡ answered whole
  unfolding formulas_of ◌then◌ answered
  zones_first e h = let by = counted_refused 0 (read_all (slice 6 middle s)) e h in rw (by.is, ← by.code)

  module _ {r : Result ℕ refusal.Refusal} {n : ℕ} (e : r ≡ counted 0 (read_all (slice 6 middle s))) (h : r ≡ Ok n) where
    pub firsts : ZoneOf s 6 middle n
    firsts = holds s bytes 6 middle (omega arith) e h

    pub zones_second : {r₂ : Result ℕ refusal.Refusal} {why : refusal.Refusal} → r₂ ≡ counted 0 (read_all (slice (middle + 2) (length s) s)) → r₂ ≡ Err why → Err why ≡ answered whole
    unfolding formulas_of ◌then◌ answered
    zones_second e₂ h₂ = let by = counted_refused 0 (read_all (slice (middle + 2) (length s) s)) e₂ h₂ in rw (firsts.zone.read, by.is, ← by.code)

    module _ {r₂ : Result ℕ refusal.Refusal} {m : ℕ} (e₂ : r₂ ≡ counted 0 (read_all (slice (middle + 2) (length s) s))) (h₂ : r₂ ≡ Ok m) where
      pub seconds : ZoneOf s (middle + 2) (length s) m
      seconds = holds s bytes (middle + 2) (length s) (omega arith) e₂ h₂

      pub counts_small : n + m ≤ length s
      counts_small = omega (arith, firsts.many, firsts.zone.sized, zone_size_least firsts.zone.formulas, seconds.many, seconds.zone.sized, zone_size_least seconds.zone.formulas)

      pub zones_overfull : 31 < n + m → Err TooMany ≡ answered whole
      unfolding formulas_of ◌then◌ answered coded
      zones_overfull more = rw (firsts.zone.read, seconds.zone.read, firsts.many, seconds.many, lt-leb (n + m) most_formulas more)

      pub zones_whole : n + m ≤ 31
          → Ok (record { kind = k; first = 6; first_end = middle; second = middle + 2; second_end = length s; first_count = n; second_count = m }) ≡ answered whole
      unfolding formulas_of ◌then◌ answered places_of
      zones_whole few =
          let made = kind_made k firsts.zone.formulas seconds.zone.formulas kind in
          let middle_is : middle ≡ 6 + zone_size firsts.zone.formulas = omega (arith, firsts.zone.sized) in
          let second_is : middle + 2 ≡ 8 + zone_size firsts.zone.formulas = omega (arith, firsts.zone.sized) in
          let end_is : length s ≡ 8 + zone_size firsts.zone.formulas + zone_size seconds.zone.formulas = omega (arith, firsts.zone.sized, seconds.zone.sized) in
          rw (firsts.zone.read, seconds.zone.read, firsts.many, seconds.many, le-leb (n + m) most_formulas few, made.1, made.2, firsts.many, seconds.many, ← made.0, ← end_is, ← second_is, ← middle_is)
