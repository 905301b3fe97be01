-- Laws of the zones' lists, and what each operation means: `meant` commutes with it, in the words of the search's definition, where a rule's place lies between `before` and `after`.
-- Assumes nothing.
use Rattle.std.specs.Prelude.{◌≡◌, Bool, not, eqb, leb, get_or, length, take, drop}
use Rattle.std.proofs.Math.Path.{refl, ap}
use Rattle.std.proofs.Common.{sym, ◌∙◌, mod-lt, add-zero, arith, length-append, length-take, length-drop, length-take-le, take-suc, drop-cons, get_or-take, get_or-drop, get_or-append-add, leb-true, leb-false, eqb-true, eq-eqb, ne_eqb}
use Rattle.std.proofs.Math.Bool.{true, false}
use mathlib.Core.List.{List, [], ◌∷◌, ◌++◌, append_assoc, map, map-append}
use Prim.Native.Nat.{ℕ, zero, suc, ◌+◌, ◌-◌, ◌/◌, ◌%◌, ◌≤◌, ◌<◌}
use Rattle.std.proofs.Math.ListN.{get_or-append}
use Rattle.std.proofs.lemmas.List.{take-append-le, drop-append-le}
use Rattle.std.proofs.lemmas.Bool.{eqb-false}
use Rattle.logic.specs.Formula.{Formula}
use Rattle.logic.specs.Sequent.{Sequent, ◌﹔◌}
use Rattle.logic.specs.Split as splits
use Rattle.zones.specs.declared.Zones.{Zones}
use Rattle.zones.specs.Zones.{linears, unrestricteds, Fits, remove, replace, as_number, past, keep, part, meant, Below, Within, Adds, Change, without, replaced, pushed, only, split, without_unrestricted, pushed_unrestricted, linear_after, unrestricted_after, Made, Empty}

-- one more item after the one taken out
pub remove_snoc : (xs : List ℕ) (i a : ℕ) → i < length xs → remove i (xs ++ (a ∷ [])) ≡ remove i xs ++ (a ∷ [])
remove_snoc xs i a h = rw (take-append-le i xs (a ∷ []) (omega arith), drop-append-le (suc i) xs (a ∷ []) h, append_assoc)

pub remove_length : (xs : List ℕ) (i : ℕ) → i < length xs → length (remove i xs) + 1 ≡ length xs
remove_length xs i h = omega (arith, length-append (take i xs) (drop (suc i) xs), length-take-le i xs (omega arith), length-drop (suc i) xs)

-- what stands at place k without the item at place i
pub remove_at : (xs : List ℕ) (i k : ℕ) → i < length xs → get_or (remove i xs) k 0 ≡ get_or xs (k + past i k) 0
remove_at xs i k h = go (leb i k) refl
  where
    low : length (take i xs) ≡ i
    low = length-take-le i xs (omega arith)

    go : (b : Bool) → leb i k ≡ b → get_or (remove i xs) k 0 ≡ get_or xs (k + as_number b) 0
    go true e =
        let g : i ≤ k = leb-true i k e in
        let from : k ≡ length (take i xs) + (k - i) = omega (arith, low) in
        let to : suc i + (k - i) ≡ k + 1 = omega arith in
        ap (λ (n : ℕ). get_or (remove i xs) n 0) from
        ∙ get_or-append-add (take i xs) (drop (suc i) xs) (k - i) 0
        ∙ get_or-drop (suc i) xs (k - i) 0
        ∙ ap (λ (n : ℕ). get_or xs n 0) to
    go false e =
        let g : k < i = leb-false i k e in
        get_or-append (take i xs) (drop (suc i) xs) 0 k (omega (arith, low)) ∙ get_or-take i xs k 0 g ∙ rw add-zero refl

pub replace_length : (xs : List ℕ) (i a : ℕ) → i < length xs → length (replace i a xs) ≡ length xs
replace_length xs i a h = omega (arith, length-append (take i xs) (a ∷ drop (suc i) xs), length-take-le i xs (omega arith), length-drop (suc i) xs)

pub part_length : (side mask : ℕ) (xs : List ℕ) → length (part side mask xs) ≤ length xs
unfolding part
part_length side mask [] = omega arith
part_length side mask (x ∷ xs) = go (eqb (mask % 2) side) (part side (mask / 2) xs) (part_length side (mask / 2) xs)
  where
    go : (b : Bool) (ys : List ℕ) → length ys ≤ length xs → length (keep b x ys) ≤ suc (length xs)
    go true ys h = omega arith
    go false ys h = omega arith

module _ {z : Zones} (f : Fits z) where
  -- the lists are as long as the counts
  pub linears_length : length (linears z) ≡ z.linear_len
  linears_length = length-take-le z.linear_len z.linear (omega (arith, f.few, f.linear_sized))

  pub unrestricteds_length : length (unrestricteds z) ≡ z.unrestricted_len
  unrestricteds_length = length-take-le z.unrestricted_len z.unrestricted (omega (arith, f.few, f.unrestricted_sized))

  -- the counts follow from the lists
  pub made : {z₀ : Zones} (change : Change ℕ) → linears z ≡ linear_after change (linears z₀) → unrestricteds z ≡ unrestricted_after change (unrestricteds z₀) → Made z₀ change z
  made change g t = record {
    fits = f;
    linear = g;
    unrestricted = t;
    linear_count = sym linears_length ∙ ap length g;
    unrestricted_count = sym unrestricteds_length ∙ ap length t;
  }

-- how many formulas an operation leaves in each zone
module _ {z r : Zones} (f : Fits z) where
  pub without_count : {i : ℕ} → Made z (without i) r → i < z.linear_len → (r.linear_len + 1 ≡ z.linear_len) × (r.unrestricted_len ≡ z.unrestricted_len)
  without_count {i} m h =
      (omega (arith, m.linear_count, remove_length (linears z) i (omega (arith, linears_length f)), linears_length f), m.unrestricted_count ∙ unrestricteds_length f)

  pub replaced_count : {i a : ℕ} → Made z (replaced i a) r → i < z.linear_len → (r.linear_len ≡ z.linear_len) × (r.unrestricted_len ≡ z.unrestricted_len)
  replaced_count {i} {a} m h =
      (omega (arith, m.linear_count, replace_length (linears z) i a (omega (arith, linears_length f)), linears_length f), m.unrestricted_count ∙ unrestricteds_length f)

  pub pushed_count : {a : ℕ} → Made z (pushed a) r → (r.linear_len ≡ z.linear_len + 1) × (r.unrestricted_len ≡ z.unrestricted_len)
  pushed_count {a} m = (omega (arith, m.linear_count, length-append (linears z) (a ∷ []), linears_length f), m.unrestricted_count ∙ unrestricteds_length f)

  pub only_count : {a : ℕ} → Made z (only a) r → (r.linear_len ≡ 1) × (r.unrestricted_len ≡ z.unrestricted_len)
  only_count m = (m.linear_count, m.unrestricted_count ∙ unrestricteds_length f)

  pub split_count : {side i mask a : ℕ} → Made z (split side i mask a) r → i < z.linear_len
      → (r.linear_len ≤ z.linear_len) × (r.unrestricted_len ≡ z.unrestricted_len)
  split_count {side} {i} {mask} {a} m h = (
    omega (
      arith,
      m.linear_count,
      length-append (part side mask (remove i (linears z))) (a ∷ []),
      part_length side mask (remove i (linears z)),
      remove_length (linears z) i (omega (arith, linears_length f)),
      linears_length f,
    ),
    m.unrestricted_count ∙ unrestricteds_length f,
  )

  pub without_unrestricted_count : {i : ℕ} → Made z (without_unrestricted i) r → i < z.unrestricted_len
      → (r.linear_len ≡ z.linear_len) × (r.unrestricted_len + 1 ≡ z.unrestricted_len)
  without_unrestricted_count {i} m h = (
    m.linear_count ∙ linears_length f,
    omega (arith, m.unrestricted_count, remove_length (unrestricteds z) i (omega (arith, unrestricteds_length f)), unrestricteds_length f),
  )

  pub pushed_unrestricted_count : {a : ℕ} → Made z (pushed_unrestricted a) r
      → (r.linear_len ≡ z.linear_len) × (r.unrestricted_len ≡ z.unrestricted_len + 1)
  pushed_unrestricted_count {a} m =
      (m.linear_count ∙ linears_length f, omega (arith, m.unrestricted_count, length-append (unrestricteds z) (a ∷ []), unrestricteds_length f))

-- `part` on formulas is the two halves of the definition's split
keep_same : (b : Bool) (x : Formula) {xs ys : List Formula} → xs ≡ ys → keep b x xs ≡ splits.keep b x ys
keep_same true x e = ap (λ (l : List Formula). x ∷ l) e
keep_same false x e = e

pub part_left : (mask : ℕ) (fs : List Formula) → part 0 mask fs ≡ splits.left_of mask fs
unfolding part splits.left_of
part_left mask [] = refl
part_left mask (f ∷ fs) = keep_same (eqb (mask % 2) 0) f (part_left (mask / 2) fs)

odd : (mask : ℕ) → eqb (mask % 2) 1 ≡ not (eqb (mask % 2) 0)
odd mask = go (eqb (mask % 2) 0) refl
  where
    go : (b : Bool) → eqb (mask % 2) 0 ≡ b → eqb (mask % 2) 1 ≡ not b
    go true e = ne_eqb (mask % 2) 1 (λ o. omega (arith, eqb-true (mask % 2) 0 e))
    go false e =
        let n : mask % 2 ≡ 0 → ⊥ = eqb-false (mask % 2) 0 e in
        eq-eqb (mask % 2) 1 (omega (arith, mod-lt mask {m = 2} (omega arith)))

pub part_right : (mask : ℕ) (fs : List Formula) → part 1 mask fs ≡ splits.right_of mask fs
unfolding part splits.right_of
part_right mask [] = refl
part_right mask (f ∷ fs) =
    ap (λ (b : Bool). keep b f (part 1 (mask / 2) fs)) (odd mask) ∙ keep_same (not (eqb (mask % 2) 0)) f (part_right (mask / 2) fs)

-- `map` commutes with the operations
module _ {A B : Type 0} (f : A → B) where
  pub map_take : (n : ℕ) (xs : List A) → map f (take n xs) ≡ take n (map f xs)
  map_take zero [] = refl
  map_take zero (x ∷ xs) = refl
  map_take (suc n) [] = refl
  map_take (suc n) (x ∷ xs) = ap (λ (l : List B). f x ∷ l) (map_take n xs)

  pub map_drop : (n : ℕ) (xs : List A) → map f (drop n xs) ≡ drop n (map f xs)
  map_drop zero [] = refl
  map_drop zero (x ∷ xs) = refl
  map_drop (suc n) [] = refl
  map_drop (suc n) (x ∷ xs) = map_drop n xs

  pub map_remove : (i : ℕ) (xs : List A) → map f (remove i xs) ≡ remove i (map f xs)
  map_remove i xs = rw (map-append, map_take, map_drop)

  pub map_replace : (i : ℕ) (a : A) (xs : List A) → map f (replace i a xs) ≡ replace i (f a) (map f xs)
  map_replace i a xs = rw (map-append, map_take, map_drop)

  map_keep : (b : Bool) (x : A) (xs : List A) → map f (keep b x xs) ≡ keep b (f x) (map f xs)
  map_keep true x xs = refl
  map_keep false x xs = refl

  pub map_part : (side mask : ℕ) (xs : List A) → map f (part side mask xs) ≡ part side mask (map f xs)
  unfolding part
  map_part side mask [] = refl
  map_part side mask (x ∷ xs) =
      map_keep (eqb (mask % 2) side) x (part side (mask / 2) xs) ∙ ap (keep (eqb (mask % 2) side) (f x)) (map_part side (mask / 2) xs)

-- the same operation on what the numbers stand for
abbrev pub map_change : {A B : Type 0} → (A → B) → Change A → Change B
map_change f (without i) = without i
map_change f (replaced i a) = replaced i (f a)
map_change f (pushed a) = pushed (f a)
map_change f (only a) = only (f a)
map_change f (split side i mask a) = split side i mask (f a)
map_change f (without_unrestricted i) = without_unrestricted i
map_change f (pushed_unrestricted a) = pushed_unrestricted (f a)

module _ {A B : Type 0} (f : A → B) where
  pub map_linear : (change : Change A) (Γ : List A) → map f (linear_after change Γ) ≡ linear_after (map_change f change) (map f Γ)
  map_linear (without i) Γ = map_remove f i Γ
  map_linear (replaced i a) Γ = map_replace f i a Γ
  map_linear (pushed a) Γ = map-append f Γ (a ∷ [])
  map_linear (only a) Γ = refl
  map_linear (split side i mask a) Γ =
      map-append f (part side mask (remove i Γ)) (a ∷ [])
      ∙ ap (λ (l : List B). l ++ (f a ∷ [])) (map_part f side mask (remove i Γ) ∙ ap (part side mask) (map_remove f i Γ))
  map_linear (without_unrestricted i) Γ = refl
  map_linear (pushed_unrestricted a) Γ = refl

  pub map_unrestricted : (change : Change A) (Θ : List A) → map f (unrestricted_after change Θ) ≡ unrestricted_after (map_change f change) (map f Θ)
  map_unrestricted (without i) Θ = refl
  map_unrestricted (replaced i a) Θ = refl
  map_unrestricted (pushed a) Θ = refl
  map_unrestricted (only a) Θ = refl
  map_unrestricted (split side i mask a) Θ = refl
  map_unrestricted (without_unrestricted i) Θ = map_remove f i Θ
  map_unrestricted (pushed_unrestricted a) Θ = map-append f Θ (a ∷ [])

-- what stands at a place, and the walk to the next place
module _ (told : ℕ → Formula) where
  pub map_at : (xs : List ℕ) (i : ℕ) → i < length xs → drop i (map told xs) ≡ told (get_or xs i 0) ∷ drop (suc i) (map told xs)
  map_at xs i h = sym (map_drop told i xs) ∙ ap (map told) (drop-cons xs i 0 h) ∙ ap (λ (l : List Formula). told (get_or xs i 0) ∷ l) (map_drop told (suc i) xs)

  pub map_next : (xs : List ℕ) (i : ℕ) → i < length xs → take (suc i) (map told xs) ≡ take i (map told xs) ++ (told (get_or xs i 0) ∷ [])
  map_next xs i h =
      sym (map_take told (suc i) xs)
      ∙ ap (map told) (take-suc xs i 0 h)
      ∙ map-append told (take i xs) (get_or xs i 0 ∷ [])
      ∙ ap (λ (l : List Formula). l ++ (told (get_or xs i 0) ∷ [])) (map_take told i xs)

  module _ {z : Zones} (f : Fits z) where
    pub linear_at : (i : ℕ) → i < z.linear_len → drop i (meant told z).linear ≡ told (get_or z.linear i 0) ∷ drop (suc i) (meant told z).linear
    linear_at i h = rw (get_or-take _ z.linear i 0 h) at (map_at (linears z) i (omega (arith, linears_length f)))

    pub linear_next : (i : ℕ) → i < z.linear_len → take (suc i) (meant told z).linear ≡ take i (meant told z).linear ++ (told (get_or z.linear i 0) ∷ [])
    linear_next i h = rw (get_or-take _ z.linear i 0 h) at (map_next (linears z) i (omega (arith, linears_length f)))

    pub unrestricted_at : (i : ℕ) → i < z.unrestricted_len
        → drop i (meant told z).unrestricted ≡ told (get_or z.unrestricted i 0) ∷ drop (suc i) (meant told z).unrestricted
    unrestricted_at i h = rw (get_or-take _ z.unrestricted i 0 h) at (map_at (unrestricteds z) i (omega (arith, unrestricteds_length f)))

    pub unrestricted_next : (i : ℕ) → i < z.unrestricted_len
        → take (suc i) (meant told z).unrestricted ≡ take i (meant told z).unrestricted ++ (told (get_or z.unrestricted i 0) ∷ [])
    unrestricted_next i h = rw (get_or-take _ z.unrestricted i 0 h) at (map_next (unrestricteds z) i (omega (arith, unrestricteds_length f)))

  -- `meant` commutes with every operation
  pub meant_made : {z r : Zones} {change : Change ℕ} → Made z change r
      → meant told r ≡ (linear_after (map_change told change) (meant told z).linear ﹔ unrestricted_after (map_change told change) (meant told z).unrestricted)
  meant_made {z} {r} {change} m =
      ap (λ (l : List ℕ). map told l ﹔ map told (unrestricteds r)) m.linear
      ∙ ap (λ (l : List ℕ). map told (linear_after change (linears z)) ﹔ map told l) m.unrestricted
      ∙ ap (λ (l : List Formula). l ﹔ map told (unrestricted_after change (unrestricteds z))) (map_linear told change (linears z))
      ∙ ap (λ (l : List Formula). linear_after (map_change told change) (meant told z).linear ﹔ l) (map_unrestricted told change (unrestricteds z))

  -- the two premises of a tensor at place i
  pub meant_left_part : {z r : Zones} {i mask a : ℕ} → Made z (split 0 i mask a) r
      → meant told r ≡ (splits.left_of mask (take i (meant told z).linear ++ drop (suc i) (meant told z).linear) ++ (told a ∷ []) ﹔ (meant told z).unrestricted)
  meant_left_part {z} {r} {i} {mask} {a} m =
      meant_made m ∙ ap (λ (l : List Formula). l ++ (told a ∷ []) ﹔ (meant told z).unrestricted) (part_left mask (remove i (meant told z).linear))

  pub meant_right_part : {z r : Zones} {i mask a : ℕ} → Made z (split 1 i mask a) r
      → meant told r ≡ (splits.right_of mask (take i (meant told z).linear ++ drop (suc i) (meant told z).linear) ++ (told a ∷ []) ﹔ (meant told z).unrestricted)
  meant_right_part {z} {r} {i} {mask} {a} m =
      meant_made m ∙ ap (λ (l : List Formula). l ++ (told a ∷ []) ﹔ (meant told z).unrestricted) (part_right mask (remove i (meant told z).linear))

  -- two operations, one after the other
  meant_then : {z r : Zones} {change : Change ℕ} {q : Sequent} → Made z change r → meant told z ≡ q
      → meant told r ≡ (linear_after (map_change told change) q.linear ﹔ unrestricted_after (map_change told change) q.unrestricted)
  meant_then {z} {r} {change} m e =
      meant_made m ∙ ap (λ (p : Sequent). linear_after (map_change told change) p.linear ﹔ unrestricted_after (map_change told change) p.unrestricted) e

  -- two parts, or two copies, put at the end
  pub meant_pushed_two : {z z₁ r : Zones} {a b : ℕ} → Made z (pushed a) z₁ → Made z₁ (pushed b) r
      → meant told r ≡ ((meant told z).linear ++ (told a ∷ told b ∷ []) ﹔ (meant told z).unrestricted)
  meant_pushed_two {z} {z₁} {r} {a} {b} g h =
      meant_then h (meant_made g)
      ∙ ap (λ (l : List Formula). l ﹔ (meant told z).unrestricted) (append_assoc (meant told z).linear (told a ∷ []) (told b ∷ []))

  -- a premise of a rule at place i of the linear zone: the formula taken out, and what is put at the end of a zone
  module _ {z z₁ : Zones} {i : ℕ} (out : Made z (without i) z₁) where
    pub meant_moved : {r : Zones} {a : ℕ} → Made z₁ (pushed a) r
        → meant told r ≡ (take i (meant told z).linear ++ drop (suc i) (meant told z).linear ++ (told a ∷ []) ﹔ (meant told z).unrestricted)
    meant_moved h = meant_then h (meant_made out)

    pub meant_moved_two : {z₂ r : Zones} {a b : ℕ} → Made z₁ (pushed a) z₂ → Made z₂ (pushed b) r
        → meant told r ≡ (take i (meant told z).linear ++ drop (suc i) (meant told z).linear ++ (told a ∷ told b ∷ []) ﹔ (meant told z).unrestricted)
    meant_moved_two {z₂} {r} {a} {b} g h =
        meant_pushed_two g h ∙ ap (λ (q : Sequent). q.linear ++ (told a ∷ told b ∷ []) ﹔ q.unrestricted) (meant_made out)

    pub meant_moved_over : {r : Zones} {a : ℕ} → Made z₁ (pushed_unrestricted a) r
        → meant told r ≡ (take i (meant told z).linear ++ drop (suc i) (meant told z).linear ﹔ (meant told z).unrestricted ++ (told a ∷ []))
    meant_moved_over h = meant_then h (meant_made out)

  -- a premise of a rule at place i of the unrestricted zone: one copy, and two
  module _ {z z₁ : Zones} {i : ℕ} (out : Made z (without_unrestricted i) z₁) where
    pub meant_copied : {r : Zones} {a : ℕ} → Made z₁ (pushed a) r
        → meant told r ≡ ((meant told z).linear ++ (told a ∷ []) ﹔ take i (meant told z).unrestricted ++ drop (suc i) (meant told z).unrestricted)
    meant_copied h = meant_then h (meant_made out)

    pub meant_copied_two : {z₂ r : Zones} {a b : ℕ} → Made z₁ (pushed a) z₂ → Made z₂ (pushed b) r
        → meant told r ≡ ((meant told z).linear ++ (told a ∷ told b ∷ []) ﹔ take i (meant told z).unrestricted ++ drop (suc i) (meant told z).unrestricted)
    meant_copied_two {z₂} {r} {a} {b} g h =
        meant_pushed_two g h ∙ ap (λ (q : Sequent). q.linear ++ (told a ∷ told b ∷ []) ﹔ q.unrestricted) (meant_made out)

-- numbers below a bound stay below it
module _ (n : ℕ) where
  below_cons : {x : ℕ} {xs : List ℕ} → x < n → Below n xs → Below n (x ∷ xs)
  below_cons {x} {xs} h b = record { below = at }
    where
      at : (i : ℕ) → i < length (x ∷ xs) → get_or (x ∷ xs) i 0 < n
      at zero l = h
      at (suc i) l = b.below i (omega arith)

  pub below_append : (xs ys : List ℕ) → Below n xs → Below n ys → Below n (xs ++ ys)
  below_append [] ys b d = d
  below_append (x ∷ xs) ys b d = below_cons (b.below zero (omega arith)) (below_append xs ys record { below = λ i l. b.below (suc i) (omega arith) } d)

  pub below_one : {a : ℕ} → a < n → Below n (a ∷ [])
  below_one h = below_cons h record { below = λ i l. absurd (omega arith) }

  pub below_take : (i : ℕ) (xs : List ℕ) → Below n xs → Below n (take i xs)
  below_take i xs b = record { below = λ j l. rw (get_or-take i xs j 0 (omega (arith, length-take i xs))) (b.below j (omega (arith, length-take i xs))) }

  pub below_drop : (i : ℕ) (xs : List ℕ) → Below n xs → Below n (drop i xs)
  below_drop i xs b = record { below = λ j l. rw (get_or-drop i xs j 0) (b.below (i + j) (omega (arith, length-drop i xs))) }

  pub below_remove : (i : ℕ) (xs : List ℕ) → Below n xs → Below n (remove i xs)
  below_remove i xs b = below_append _ _ (below_take i xs b) (below_drop (suc i) xs b)

  pub below_part : (side mask : ℕ) (xs : List ℕ) → Below n xs → Below n (part side mask xs)
  unfolding part
  below_part side mask [] b = b
  below_part side mask (x ∷ xs) b =
      go (eqb (mask % 2) side) (below_part side (mask / 2) xs record { below = λ i l. b.below (suc i) (omega arith) })
    where
      go : (t : Bool) {ys : List ℕ} → Below n ys → Below n (keep t x ys)
      go true d = below_cons (b.below zero (omega arith)) d
      go false d = d

  below_linear : (change : Change ℕ) (Γ : List ℕ) → Below n Γ → Adds n change → Below n (linear_after change Γ)
  below_linear (without i) Γ b h = below_remove i Γ b
  below_linear (replaced i a) Γ b h = below_append _ _ (below_take i Γ b) (below_cons h (below_drop (suc i) Γ b))
  below_linear (pushed a) Γ b h = below_append _ _ b (below_one h)
  below_linear (only a) Γ b h = below_one h
  below_linear (split side i mask a) Γ b h = below_append _ _ (below_part side mask _ (below_remove i Γ b)) (below_one h)
  below_linear (without_unrestricted i) Γ b h = b
  below_linear (pushed_unrestricted a) Γ b h = b

  below_unrestricted : (change : Change ℕ) (Θ : List ℕ) → Below n Θ → Adds n change → Below n (unrestricted_after change Θ)
  below_unrestricted (without i) Θ b h = b
  below_unrestricted (replaced i a) Θ b h = b
  below_unrestricted (pushed a) Θ b h = b
  below_unrestricted (only a) Θ b h = b
  below_unrestricted (split side i mask a) Θ b h = b
  below_unrestricted (without_unrestricted i) Θ b h = below_remove i Θ b
  below_unrestricted (pushed_unrestricted a) Θ b h = below_append _ _ b (below_one h)

  pub within_made : {z r : Zones} {change : Change ℕ} → Made z change r → Within n z → Adds n change → Within n r
  within_made {z} {r} {change} m w h = record {
    linear = rw m.linear (below_linear change (linears z) w.linear h);
    unrestricted = rw m.unrestricted (below_unrestricted change (unrestricteds z) w.unrestricted h);
  }

  pub within_empty : {r : Zones} → Empty r → Within n r
  within_empty e = record {
    linear = rw e.linear record { below = λ i l. absurd (omega arith) };
    unrestricted = rw e.unrestricted record { below = λ i l. absurd (omega arith) };
  }

  -- the numbers in the code's words
  pub within_linear : {z : Zones} → Fits z → Within n z → (i : ℕ) → i < z.linear_len → get_or z.linear i 0 < n
  within_linear {z} f w i h = rw (get_or-take z.linear_len z.linear i 0 h) at (w.linear.below i (omega (arith, linears_length f)))

  pub within_unrestricted : {z : Zones} → Fits z → Within n z → (i : ℕ) → i < z.unrestricted_len → get_or z.unrestricted i 0 < n
  within_unrestricted {z} f w i h = rw (get_or-take z.unrestricted_len z.unrestricted i 0 h) at (w.unrestricted.below i (omega (arith, unrestricteds_length f)))

pub below_more : {n m : ℕ} {xs : List ℕ} → n ≤ m → Below n xs → Below m xs
below_more {n} {m} {xs} h b = record { below = λ i l. omega (arith, b.below i l) }

pub within_more : {n m : ℕ} {z : Zones} → n ≤ m → Within n z → Within m z
within_more h w = record { linear = below_more h w.linear; unrestricted = below_more h w.unrestricted }

-- numbers that keep their meaning: the zones keep theirs
map_agree : (n : ℕ) (told told' : ℕ → Formula) → ((x : ℕ) → x < n → told' x ≡ told x) → (xs : List ℕ) → Below n xs → map told' xs ≡ map told xs
map_agree n told told' same [] b = refl
map_agree n told told' same (x ∷ xs) b =
    rw (same x (b.below zero (omega arith)), map_agree n told told' same xs record { below = λ i l. b.below (suc i) (omega arith) })

pub meant_agree : {n : ℕ} (told told' : ℕ → Formula) → ((x : ℕ) → x < n → told' x ≡ told x) → {z : Zones} → Within n z → meant told' z ≡ meant told z
meant_agree {n} told told' same {z} w =
    rw (map_agree n told told' same (linears z) w.linear, map_agree n told told' same (unrestricteds z) w.unrestricted)
