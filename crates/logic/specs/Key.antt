-- The key of a sequent, and the recorded failures. Document 01 has it as a multiset of formulas; `string_key` is `sequent_key` of search.rs, and `KeyLaws` shows that the two tell the
-- same sequents apart. Assumes nothing.
use Rattle.std.specs.Prelude.{Bool, true, false, List, [], ◌∷◌, ◌++◌, map, ℕ, eqb, ltb}
use Rattle.std.proofs.Math.Option.{Option, none, some}
use Rattle.logic.specs.Formula.{Formula, WhyNot, same}
use Rattle.logic.specs.Sequent.{Sequent}
use Rattle.logic.specs.Text.{pretty}

abbrev pub Key : Type 0
Key = List Formula

-- each linear formula, and each unrestricted A as ?A
unfoldable pub sequent_key : Sequent → Key
sequent_key q = q.linear ++ map WhyNot q.unrestricted

-- a list without the first copy of a formula, where there is one
unfoldable pub without : Formula → List Formula → Option (List Formula)
without x [] = none
without x (y ∷ ys) =
    elim (same x y) [
      | true ↦ some ys
      | false ↦ elim (without x ys) [ none ↦ none | some zs ↦ some (y ∷ zs) ]
    ]

-- the two lists have each formula equally often
unfoldable pub same_bag : Key → Key → Bool
same_bag [] [] = true
same_bag [] (y ∷ ys) = false
same_bag (x ∷ xs) ys = elim (without x ys) [ none ↦ false | some zs ↦ same_bag xs zs ]

-- `self.cache.contains(&key)`
unfoldable pub contains : List Key → Key → Bool
contains [] k = false
contains (f ∷ fs) k = elim (same_bag f k) [ true ↦ true | false ↦ contains fs k ]

-- `String`'s order: byte by byte, and a text before its continuations
unfoldable pub text_le : List ℕ → List ℕ → Bool
text_le [] ys = true
text_le (x ∷ xs) [] = false
text_le (x ∷ xs) (y ∷ ys) = elim (ltb x y) [ true ↦ true | false ↦ elim (eqb x y) [ true ↦ text_le xs ys | false ↦ false ] ]

-- `keys.sort()`
unfoldable pub insert : List ℕ → List (List ℕ) → List (List ℕ)
insert k [] = k ∷ []
insert k (l ∷ ls) = elim (text_le k l) [ true ↦ k ∷ l ∷ ls | false ↦ l ∷ insert k ls ]

unfoldable pub sort : List (List ℕ) → List (List ℕ)
sort [] = []
sort (k ∷ ks) = insert k (sort ks)

-- `sequent_key`: the printed linear formulas, then each unrestricted one behind a `?`; sorted
unfoldable pub string_key : Sequent → List (List ℕ)
string_key q = sort (map pretty q.linear ++ map (λ f. 63 ∷ pretty f) q.unrestricted)
