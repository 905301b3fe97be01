-- The order of texts is total, antisymmetric and transitive; `sort` puts a list in order, keeps each text as often as it stood there, and does not mind the order that it is given.
-- Assumes nothing.
use Rattle.std.specs.Prelude.{◌≡◌, refl, Bool, true, false, List, [], ◌∷◌, ℕ, ◌+◌, ◌<◌, eqb, ltb}
use Rattle.std.proofs.Common.{sym, ap₂, ◌∙◌, ltb-true, ltb-false, eqb-true, lt-ltb, le-ltb, eq-eqb, arith}
use Rattle.std.proofs.Math.Bool.{So}
use Rattle.std.proofs.lemmas.Bool.{false≢true, eqb-false}
use Rattle.logic.specs.Key.{text_le, insert, sort}
use Rattle.logic.specs.Sorted.{leads, Sorted, text_total}

-- two texts that are not empty, by their first bytes
data Compared (x y : ℕ) (xs ys : List ℕ) : Type 0 where
  less : x < y → Compared x y xs ys
  alike : x ≡ y → So (text_le xs ys) → Compared x y xs ys

compared : (x y : ℕ) (xs ys : List ℕ) → So (text_le (x ∷ xs) (y ∷ ys)) → Compared x y xs ys
unfolding text_le
compared x y xs ys = go (ltb x y) (eqb x y) refl refl
  where
    go : (l e : Bool) → ltb x y ≡ l → eqb x y ≡ e → So (elim l as (λ _. Bool) [ true ↦ true | false ↦ elim e [ true ↦ text_le xs ys | false ↦ false ] ]) → Compared x y xs ys
    go true e p q h = less (ltb-true x y p)
    go false true p q h = alike (eqb-true x y q) h
    go false false p q h = absurd (false≢true h)

text_le_less : (x y : ℕ) (xs ys : List ℕ) → x < y → So (text_le (x ∷ xs) (y ∷ ys))
unfolding text_le
text_le_less x y xs ys h = rw (lt-ltb x y h, text_le)

text_le_alike : (x y : ℕ) (xs ys : List ℕ) → x ≡ y → So (text_le xs ys) → So (text_le (x ∷ xs) (y ∷ ys))
unfolding text_le
text_le_alike x y xs ys e h = rw (le-ltb x y (omega arith), text_le) (rw (eq-eqb x y e, text_le) h)

pub text_le_antisymmetric : (xs ys : List ℕ) → So (text_le xs ys) → So (text_le ys xs) → xs ≡ ys
unfolding text_le
text_le_antisymmetric [] [] h k = refl
text_le_antisymmetric [] (y ∷ ys) h k = absurd (false≢true k)
text_le_antisymmetric (x ∷ xs) [] h k = absurd (false≢true h)
text_le_antisymmetric (x ∷ xs) (y ∷ ys) h k = go (compared x y xs ys h) (compared y x ys xs k) (text_le_antisymmetric xs ys)
  where
    go : Compared x y xs ys → Compared y x ys xs → (So (text_le xs ys) → So (text_le ys xs) → xs ≡ ys) → x ∷ xs ≡ y ∷ ys
    go (less p) (less q) ih = absurd (omega arith)
    go (less p) (alike q r) ih = absurd (omega arith)
    go (alike p r) (less q) ih = absurd (omega arith)
    go (alike p r) (alike q t) ih = ap₂ ◌∷◌ p (ih r t)

pub text_le_transitive : (xs ys zs : List ℕ) → So (text_le xs ys) → So (text_le ys zs) → So (text_le xs zs)
unfolding text_le
text_le_transitive [] ys zs h k = refl
text_le_transitive (x ∷ xs) [] zs h k = absurd (false≢true h)
text_le_transitive (x ∷ xs) (y ∷ ys) [] h k = absurd (false≢true k)
text_le_transitive (x ∷ xs) (y ∷ ys) (z ∷ zs) h k = go (compared x y xs ys h) (compared y z ys zs k) (text_le_transitive xs ys zs)
  where
    go : Compared x y xs ys → Compared y z ys zs → (So (text_le xs ys) → So (text_le ys zs) → So (text_le xs zs)) → So (text_le (x ∷ xs) (z ∷ zs))
    go (less p) (less q) ih = text_le_less x z xs zs (omega arith)
    go (less p) (alike q r) ih = text_le_less x z xs zs (omega arith)
    go (alike p r) (less q) ih = text_le_less x z xs zs (omega arith)
    go (alike p r) (alike q t) ih = text_le_alike x z xs zs (p ∙ q) (ih r t)

pub text_le_total : (xs ys : List ℕ) → text_le xs ys ≡ false → So (text_le ys xs)
unfolding text_le
text_le_total [] ys h = absurd (false≢true (sym h))
text_le_total (x ∷ xs) [] h = refl
text_le_total (x ∷ xs) (y ∷ ys) h = go (ltb x y) (eqb x y) refl refl h (text_le_total xs ys)
  where
    go : (l e : Bool) → ltb x y ≡ l → eqb x y ≡ e → elim l as (λ _. Bool) [ true ↦ true | false ↦ elim e [ true ↦ text_le xs ys | false ↦ false ] ] ≡ false → (text_le xs ys ≡ false → So (text_le ys xs)) → So (text_le (y ∷ ys) (x ∷ xs))
    go true e p q k ih = absurd (false≢true (sym k))
    go false true p q k ih = text_le_alike y x ys xs (sym (eqb-true x y q)) (ih k)
    go false false p q k ih = text_le_less y x ys xs (omega (arith, ltb-false x y p, eqb-false x y q))

-- where a text is put
insert_before : (k l : List ℕ) (ls : List (List ℕ)) → text_le k l ≡ true → insert k (l ∷ ls) ≡ k ∷ l ∷ ls
unfolding insert
insert_before k l ls e = rw (e, insert)

insert_behind : (k l : List ℕ) (ls : List (List ℕ)) → text_le k l ≡ false → insert k (l ∷ ls) ≡ l ∷ insert k ls
unfolding insert
insert_behind k l ls e = rw (e, insert)

insert_empty : (k : List ℕ) → insert k [] ≡ k ∷ []
unfolding insert
insert_empty k = refl

-- of two texts that differ it does not matter which is put in first
insert_less : (a b : List ℕ) → text_le a b ≡ true → text_le b a ≡ false → (ls : List (List ℕ)) → insert a (insert b ls) ≡ insert b (insert a ls)
insert_less a b h k [] = cc (insert_empty a, insert_empty b, insert_before a b [] h, insert_behind b a [] k)
insert_less a b h k (l ∷ ls) = go (text_le a l) (text_le b l) refl refl (insert_less a b h k ls)
  where
    go : (u v : Bool) → text_le a l ≡ u → text_le b l ≡ v → insert a (insert b ls) ≡ insert b (insert a ls) → insert a (insert b (l ∷ ls)) ≡ insert b (insert a (l ∷ ls))
    go true true p q ih = cc (insert_before a l ls p, insert_before b l ls q, insert_before a b (l ∷ ls) h, insert_behind b a (l ∷ ls) k)
    go true false p q ih = cc (insert_before a l ls p, insert_behind b l ls q, insert_before a l (insert b ls) p, insert_behind b a (l ∷ ls) k)
    go false true p q ih = absurd (false≢true (sym p ∙ text_le_transitive a b l h q))
    go false false p q ih = cc (insert_behind a l ls p, insert_behind b l ls q, insert_behind a l (insert b ls) p, insert_behind b l (insert a ls) q)

pub insert_insert : (a b : List ℕ) (ls : List (List ℕ)) → insert a (insert b ls) ≡ insert b (insert a ls)
insert_insert a b ls = go (text_le a b) (text_le b a) refl refl
  where
    go : (u v : Bool) → text_le a b ≡ u → text_le b a ≡ v → insert a (insert b ls) ≡ insert b (insert a ls)
    go true true p q = rw (text_le_antisymmetric a b p q)
    go true false p q = insert_less a b p q ls
    go false true p q = sym (insert_less b a q p ls)
    go false false p q = absurd (false≢true (sym q ∙ text_le_total a b p))

-- `sort` puts texts in order
leads_insert : (j k : List ℕ) (ls : List (List ℕ)) → So (text_le j k) → So (leads j ls) → So (leads j (insert k ls))
unfolding leads insert
leads_insert j k [] h g = h
leads_insert j k (l ∷ ls) h g = go (text_le k l) refl
  where
    go : (b : Bool) → text_le k l ≡ b → So (leads j (elim b as (λ _. List (List ℕ)) [ true ↦ k ∷ l ∷ ls | false ↦ l ∷ insert k ls ]))
    go true e = h
    go false e = g

insert_sorted : (k : List ℕ) (ls : List (List ℕ)) → Sorted ls → Sorted (insert k ls)
unfolding Sorted insert leads
insert_sorted k [] s = (refl, tt)
insert_sorted k (l ∷ ls) s = go (text_le k l) refl (insert_sorted k ls s.1)
  where
    go : (b : Bool) → text_le k l ≡ b → Sorted (insert k ls) → Sorted (elim b as (λ _. List (List ℕ)) [ true ↦ k ∷ l ∷ ls | false ↦ l ∷ insert k ls ])
    go true e ih = (e, s)
    go false e ih = (leads_insert l k ls (text_le_total k l e) s.0, ih)

pub sort_sorted : (ks : List (List ℕ)) → Sorted (sort ks)
unfolding sort Sorted
sort_sorted [] = tt
sort_sorted (k ∷ ks) = insert_sorted k (sort ks) (sort_sorted ks)

-- .. and keeps each as often as it stood there
insert_total : (w : List ℕ → ℕ) (k : List ℕ) (ls : List (List ℕ)) → text_total w (insert k ls) ≡ w k + text_total w ls
unfolding text_total insert
insert_total w k [] = refl
insert_total w k (l ∷ ls) = go (text_le k l) (insert_total w k ls)
  where
    go : (b : Bool) → text_total w (insert k ls) ≡ w k + text_total w ls → text_total w (elim b as (λ _. List (List ℕ)) [ true ↦ k ∷ l ∷ ls | false ↦ l ∷ insert k ls ]) ≡ w k + (w l + text_total w ls)
    go true ih = refl
    go false ih = omega arith

pub sort_total : (w : List ℕ → ℕ) (ks : List (List ℕ)) → text_total w (sort ks) ≡ text_total w ks
unfolding text_total sort
sort_total w [] = refl
sort_total w (k ∷ ks) = omega (arith, insert_total w k (sort ks), sort_total w ks)
