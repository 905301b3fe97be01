-- Laws of keys. `same_bag` is an equivalence (`Bags` shows that it compares multisets); `sequent_key` of search.rs, the sorted printed texts, tells the same sequents apart as document
-- 01's multiset of formulas; a linear ?A and an unrestricted A count alike. Assumes nothing.
use Rattle.std.specs.Prelude.{◌≡◌, refl, ◌↔◌, Bool, true, false, ℕ, ◌+◌}
use Rattle.std.proofs.Common.{sym, ap, ap₂, ◌∙◌, ⊎_elim, arith}
use Rattle.std.proofs.Math.Bool.{So}
use Rattle.std.proofs.lemmas.Bool.{false≢true}
use mathlib.Core.List.Memᴰ
use mathlib.Core.List.{List, [], ◌∷◌, ◌++◌, map, map-append, List-discrete, Memᴰ}
use Rattle.std.proofs.Math.Option.{Option, none, some}
use Rattle.logic.specs.Formula.{Formula, WhyNot, same, name_dec, is_yes}
use Rattle.logic.proofs.FormulaLaws.{same_iff, different_same}
use Rattle.logic.specs.Text.{printed, pretty}
use Rattle.logic.proofs.TextLaws.{pretty_injective}
use Rattle.logic.specs.Sequent.{Sequent, ◌﹔◌}
use Rattle.logic.specs.Zone.{total}
use Rattle.logic.proofs.ZoneLaws.{total_append}
use Rattle.logic.specs.Key.{sequent_key, string_key, without, same_bag, contains, insert, sort}
use Rattle.logic.specs.Sorted.{text_total}
use Rattle.logic.specs.SortLaws.{insert_insert, sort_total}
use Rattle.logic.specs.Legal.{as_number, times, plain, Same}
use Rattle.logic.proofs.Bags.{same_bag_iff}

pub same_bag_self : (xs : List Formula) → So (same_bag xs xs)
same_bag_self xs = (same_bag_iff xs xs).1 record { each = λ f. refl }

pub same_bag_symmetric : (xs ys : List Formula) → So (same_bag xs ys) → So (same_bag ys xs)
same_bag_symmetric xs ys h = (same_bag_iff ys xs).1 record { each = λ f. sym (((same_bag_iff xs ys).0 h).each f) }

pub same_bag_transitive : (xs ys zs : List Formula) → So (same_bag xs ys) → So (same_bag ys zs) → So (same_bag xs zs)
same_bag_transitive xs ys zs h k = (same_bag_iff xs zs).1 record { each = λ f. ((same_bag_iff xs ys).0 h).each f ∙ ((same_bag_iff ys zs).0 k).each f }

-- `sequent_key` as the sorted texts of document 01's key: the text of ?A is a `?` and the text of A
string_key_sorts : (q : Sequent) → string_key q ≡ sort (map pretty (sequent_key q))
unfolding string_key sequent_key printed
string_key_sorts q = ap sort (ap (λ l. map pretty q.linear ++ l) (marked q.unrestricted) ∙ sym (map-append pretty q.linear (map WhyNot q.unrestricted)))
  where
    marked : (fs : List Formula) → map (λ f. 63 ∷ pretty f) fs ≡ map pretty (map WhyNot fs)
    marked [] = refl
    marked (f ∷ fs) = ap₂ ◌∷◌ refl (marked fs)

-- how often a formula stands in a list is how often its text stands in the list's texts
abbrev is_text_of : Formula → List ℕ → ℕ
is_text_of f t = as_number (is_yes (List-discrete name_dec (pretty f) t))

is_text_of_pretty : (f g : Formula) → is_text_of f (pretty g) ≡ as_number (same f g)
is_text_of_pretty f g = go (List-discrete name_dec (pretty f) (pretty g))
  where
    go : (d : Dec (pretty f ≡ pretty g)) → as_number (is_yes d) ≡ as_number (same f g)
    go (yes e) = sym (ap as_number ((same_iff f g).1 (pretty_injective f g e)))
    go (no h) = sym (ap as_number (different_same f g λ e. h (ap pretty e)))

times_texts : (f : Formula) (xs : List Formula) → text_total (is_text_of f) (map pretty xs) ≡ times plain f xs
unfolding text_total total
times_texts f [] = refl
times_texts f (x ∷ xs) = ap₂ ◌+◌ (is_text_of_pretty f x) (times_texts f xs)

sort_same : (xs ys : List Formula) → sort (map pretty xs) ≡ sort (map pretty ys) → Same plain xs ys
sort_same xs ys e = record { each = λ f. sym (times_sorted f xs) ∙ ap (text_total (is_text_of f)) e ∙ times_sorted f ys }
  where
    times_sorted : (f : Formula) (zs : List Formula) → text_total (is_text_of f) (sort (map pretty zs)) ≡ times plain f zs
    times_sorted f zs = sort_total (is_text_of f) (map pretty zs) ∙ times_texts f zs

-- what is taken out can be put back: it does not matter where it stood
Refilled : Formula → List Formula → Option (List Formula) → Type 0
Refilled x ys none = Unit {0}
Refilled x ys (some zs) = sort (map pretty ys) ≡ insert (pretty x) (sort (map pretty zs))

refilled : (x : Formula) (ys : List Formula) → Refilled x ys (without x ys)
unfolding Refilled without sort
refilled x [] = tt
refilled x (y ∷ ys) = go (same x y) (without x ys) refl (refilled x ys)
  where
    go : (b : Bool) (o : Option (List Formula)) → same x y ≡ b → Refilled x ys o → Refilled x (y ∷ ys) (elim b as (λ _. Option (List Formula)) [ true ↦ some ys | false ↦ elim o [ none ↦ none | some zs ↦ some (y ∷ zs) ] ])
    go true o e h = ap (λ z. insert (pretty z) (sort (map pretty ys))) (sym ((same_iff x y).0 e))
    go false none e h = tt
    go false (some zs) e h = ap (insert (pretty y)) h ∙ insert_insert (pretty y) (pretty x) (sort (map pretty zs))

same_bag_sort : (xs ys : List Formula) → So (same_bag xs ys) → sort (map pretty xs) ≡ sort (map pretty ys)
unfolding same_bag sort Refilled
same_bag_sort [] [] h = refl
same_bag_sort [] (y ∷ ys) h = absurd (false≢true h)
same_bag_sort (x ∷ xs) ys h = go (without x ys) (refilled x ys) h (same_bag_sort xs)
  where
    go : (o : Option (List Formula)) → Refilled x ys o → So (elim o as (λ _. Bool) [ none ↦ false | some zs ↦ same_bag xs zs ]) → ((zs : List Formula) → So (same_bag xs zs) → sort (map pretty xs) ≡ sort (map pretty zs)) → insert (pretty x) (sort (map pretty xs)) ≡ sort (map pretty ys)
    go none e t rest = absurd (false≢true t)
    go (some zs) e t rest = ap (insert (pretty x)) (rest zs t) ∙ sym e

pub string_key_iff : (p q : Sequent) → (string_key p ≡ string_key q) ↔ Same plain (sequent_key p) (sequent_key q)
string_key_iff p q = (
  λ e. sort_same _ _ (sym (string_key_sorts p) ∙ e ∙ string_key_sorts q),
  λ h. string_key_sorts p ∙ same_bag_sort _ _ ((same_bag_iff _ _).1 h) ∙ sym (string_key_sorts q),
)

-- A recorded failure is found in document 01's way exactly where the Rust finds its sorted texts: `self.cache.contains(&key)`
pub contains_iff : (ps : List Sequent) (q : Sequent) → So (contains (map sequent_key ps) (sequent_key q)) ↔ Memᴰ (string_key q) (map string_key ps)
unfolding contains
contains_iff [] q = (λ e. absurd (false≢true e), λ m. absurd (Memᴰ.not-nil m))
contains_iff (p ∷ ps) q = go (same_bag (sequent_key p) (sequent_key q)) refl (contains_iff ps q)
  where
    go : (b : Bool) → same_bag (sequent_key p) (sequent_key q) ≡ b → So (contains (map sequent_key ps) (sequent_key q)) ↔ Memᴰ (string_key q) (map string_key ps) → So (elim b as (λ _. Bool) [ true ↦ true | false ↦ contains (map sequent_key ps) (sequent_key q) ]) ↔ Memᴰ (string_key q) (string_key p ∷ map string_key ps)
    go true e rest = (λ _. Memᴰ.head (sym ((string_key_iff p q).1 ((same_bag_iff _ _).0 e))), λ _. refl)
    go false e rest = (λ c. Memᴰ.tail (rest.0 c), λ m. ⊎_elim (λ k. absurd (false≢true (sym e ∙ (same_bag_iff _ _).1 ((string_key_iff p q).0 (sym k))))) rest.1 (Memᴰ.cases_cons m))

-- a linear ?A and an unrestricted A count alike
pub why_not_alike : (Γ Δ Θ Ξ : List Formula) (a : Formula) → Same plain (sequent_key (Γ ++ (WhyNot a ∷ Δ) ﹔ Θ ++ Ξ)) (sequent_key (Γ ++ Δ ﹔ Θ ++ (a ∷ Ξ)))
unfolding sequent_key total
why_not_alike Γ Δ Θ Ξ a = record { each = λ f. simp (map-append, total_append) (omega arith) }
