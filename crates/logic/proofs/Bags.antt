-- The test on multisets: `same_bag` says yes exactly where each formula stands equally often in both lists. Assumes nothing.
use Rattle.std.specs.Prelude.{◌≡◌, refl, ◌↔◌, Bool, true, false, List, [], ◌∷◌, map, suc, ◌+◌, length}
use Rattle.std.proofs.Common.{sym, ap, ◌∙◌, arith}
use Rattle.std.proofs.lemmas.Bool.{false≢true}
use Rattle.std.proofs.Math.Bool.{So}
use Rattle.std.proofs.Math.Option.{Option, none, some}
use Rattle.std.proofs.lemmas.List.{length-map}
use Rattle.logic.specs.Formula.{Formula, same}
use Rattle.logic.proofs.FormulaLaws.{same_iff, same_self}
use Rattle.logic.specs.Zone.{total}
use Rattle.logic.specs.Key.{without, same_bag}
use Rattle.logic.specs.Legal.{as_number, times, plain, Same}

pub counts_itself : (x : Formula) → as_number (same x x) ≡ 1
counts_itself x = rw same_self

-- what `without` answers: x stands nowhere, or all but one x
Taken : Formula → List Formula → Option (List Formula) → Type 0
Taken x ys none = times plain x ys ≡ 0
Taken x ys (some zs) = ((f : Formula) → times plain f ys ≡ as_number (same f x) + times plain f zs) × (length ys ≡ suc (length zs))

taken : (x : Formula) (ys : List Formula) → Taken x ys (without x ys)
unfolding Taken without total
taken x [] = refl
taken x (y ∷ ys) = go (same x y) (without x ys) refl (taken x ys)
  where
    go : (b : Bool) (o : Option (List Formula)) → same x y ≡ b → Taken x ys o → Taken x (y ∷ ys) (elim b as (λ _. Option (List Formula)) [ true ↦ some ys | false ↦ elim o [ none ↦ none | some zs ↦ some (y ∷ zs) ] ])
    go true o e h = (λ f. rw ((same_iff x y).0 e) refl, refl)
    go false none e h = rw (e, h) refl
    go false (some zs) e h = (λ f. omega (arith, h.0 f), ap suc h.1)

-- yes: equally often, and as many
Agree : List Formula → List Formula → Type 0
Agree xs ys = ((f : Formula) → times plain f xs ≡ times plain f ys) × (length xs ≡ length ys)

same_bag_agree : (xs ys : List Formula) → So (same_bag xs ys) → Agree xs ys
unfolding same_bag total Taken Agree
same_bag_agree [] [] e = (λ f. refl, refl)
same_bag_agree [] (y ∷ ys) e = absurd (false≢true e)
same_bag_agree (x ∷ xs) ys e = go (without x ys) (taken x ys) e (same_bag_agree xs)
  where
    go : (o : Option (List Formula)) → Taken x ys o → So (elim o as (λ _. Bool) [ none ↦ false | some zs ↦ same_bag xs zs ]) → ((zs : List Formula) → So (same_bag xs zs) → Agree xs zs) → Agree (x ∷ xs) ys
    go none h t rest = absurd (false≢true t)
    go (some zs) h t rest = let r = rest zs t in (λ f. omega (arith, h.0 f, r.0 f), ap suc r.1 ∙ sym h.1)

agree_same_bag : (xs ys : List Formula) → ((f : Formula) → times plain f xs ≡ times plain f ys) → So (same_bag xs ys)
unfolding same_bag total Taken
agree_same_bag [] [] h = refl
agree_same_bag [] (y ∷ ys) h = absurd (omega (arith, h y, counts_itself y))
agree_same_bag (x ∷ xs) ys h = go (without x ys) (taken x ys) (agree_same_bag xs)
  where
    go : (o : Option (List Formula)) → Taken x ys o → ((zs : List Formula) → ((f : Formula) → times plain f xs ≡ times plain f zs) → So (same_bag xs zs)) → So (elim o as (λ _. Bool) [ none ↦ false | some zs ↦ same_bag xs zs ])
    go none k rest = absurd (omega (arith, h x, counts_itself x))
    go (some zs) k rest = rest zs λ f. omega (arith, h f, k.0 f)

pub same_bag_iff : (xs ys : List Formula) → So (same_bag xs ys) ↔ Same plain xs ys
unfolding Agree
same_bag_iff xs ys = (λ e. record { each = (same_bag_agree xs ys e).0 }, λ s. agree_same_bag xs ys s.each)

-- a zone read through g, and the zone with g done to each formula
pub times_map : (g : Formula → Formula) (f : Formula) (xs : List Formula) → times plain f (map g xs) ≡ times g f xs
unfolding total
times_map g f [] = refl
times_map g f (x ∷ xs) = omega (arith, times_map g f xs)

pub same_map_iff : (g : Formula → Formula) (xs ys : List Formula) → So (same_bag (map g xs) (map g ys)) ↔ Same g xs ys
same_map_iff g xs ys = (
  λ e. record { each = λ f. sym (times_map g f xs) ∙ ((same_bag_iff _ _).0 e).each f ∙ times_map g f ys },
  λ h. (same_bag_iff _ _).1 record { each = λ f. times_map g f xs ∙ h.each f ∙ sym (times_map g f ys) },
)

pub same_length : {g : Formula → Formula} {xs ys : List Formula} → Same g xs ys → length xs ≡ length ys
unfolding Agree
same_length {g} {xs} {ys} h =
    sym (length-map xs g) ∙ (same_bag_agree (map g xs) (map g ys) ((same_map_iff g xs ys).1 h)).1 ∙ length-map ys g
