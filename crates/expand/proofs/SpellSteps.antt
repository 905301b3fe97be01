-- The first decomposable formula of a sequent, and the sequent with it spelled out. Assumes nothing.
use mathlib.Core.Path.{◌≡◌, refl, sym, ap, ◌∙◌}
use mathlib.Core.Bool.{Bool, true, false}
use mathlib.Core.List.{List, [], ◌∷◌, ◌++◌, map}
use Prim.Native.Nat.{ℕ, zero, suc, ◌+◌, ◌-◌, ◌≤◌, ◌<◌}
use native.Mathlib.Omega.{arith}
use borrow.Author.Count.{below_more}
use lib.ListN.{get_or, length, take, drop, take-append-drop, length-take, length-map}
use lib.Seq.{length-take-le, take-take, get_or-take, get_or_at}
use Rattle.logic.specs.Formula.{Formula, One, same, among, negate, spell}
use Rattle.logic.proofs.FormulaLaws.{same_iff}
use Rattle.logic.specs.Parts.{tag_of, signs, make}
use Rattle.logic.proofs.PartsLaws.{leaf_tags, binary_tags, unary_tags, all_tags}
use Rattle.logic.specs.Sequent.{Sequent, ◌﹔◌}
use Rattle.logic.specs.Built.{decomposable, Passed, none_yet, and_passed}
use Rattle.logic.specs.Conclusion.{spell_first}
use Rattle.logic.specs.Concludes.{spell_at}
use Rattle.held.specs.Signs.{node}
use Rattle.held.specs.SignsLaws.{node_make}
use Rattle.held.specs.Words.{at, count, view, told, Wf}
use Rattle.held.specs.WordsLaws.{held_length, number_once, row_later}
use Rattle.std.specs.Option.{unwrap_or}
use Rattle.std.specs.Prelude.{None, Option, Some}
use Rattle.held.specs.Answers.{NumberOf, Field, Next}
use Rattle.zones.specs.declared.Zones.{Zones}
use Rattle.zones.specs.Zones.{linears, Change, Adds, replace, replaced, Made, meant}
use Rattle.zones.specs.ZonesLaws.{linears_length, linear_at, map_take, within_linear, within_made, meant_made}
use Rattle.expand.specs.Short.{spelled}
use Rattle.expand.specs.ShortLaws.{spell_length, plain_passed, plain_at}
use Rattle.expand.specs.Writing.{Sound, Means, decomposes, FirstAt, Spellable, SpelledAs, SpellsOut}
use Rattle.expand.proofs.ByteSteps.{told_make, told_tag, tag_low, part_left, part_right}
use Rattle.expand.proofs.NegationSteps.{part_of_mid}

-- what a tag says: whether its formula is decomposed, and whether it is an implication
module _ (n : ℕ) (u v : Formula) where
  decomposes_make : (t : ℕ) → t < 13 → decomposable (make t n u v) ≡ decomposes t
  unfolding make signs decomposable
  decomposes_make =
      all_tags
      (λ t. decomposable (make t n u v) ≡ decomposes t)
      (leaf_tags (λ t. decomposable (make t n u v) ≡ decomposes t) refl refl refl refl refl refl)
      (binary_tags (λ t. decomposable (make t n u v) ≡ decomposes t) refl refl refl refl refl)
      (unary_tags (λ t. decomposable (make t n u v) ≡ decomposes t) refl refl)

  spell_other : (t : ℕ) → t < 13 → (t ≡ 10 → ⊥) → spell (make t n u v) ≡ make t n u v
  unfolding make signs spell
  spell_other =
      all_tags
      (λ t. (t ≡ 10 → ⊥) → spell (make t n u v) ≡ make t n u v)
      (leaf_tags (λ t. (t ≡ 10 → ⊥) → spell (make t n u v) ≡ make t n u v) (λ o. refl) (λ o. refl) (λ o. refl) (λ o. refl) (λ o. refl) (λ o. refl))
      (binary_tags (λ t. (t ≡ 10 → ⊥) → spell (make t n u v) ≡ make t n u v) (λ o. refl) (λ o. refl) (λ o. refl) (λ o. refl) (λ o. absurd (o refl)))
      (unary_tags (λ t. (t ≡ 10 → ⊥) → spell (make t n u v) ≡ make t n u v) (λ o. refl) (λ o. refl))

  spell_make : spell (make 10 n u v) ≡ make 7 n (negate u) v
  unfolding make signs spell
  spell_make = refl

module _ {m : List ℕ} {x : ℕ} (wf : Wf m) (l : x < count m) where
  decomposes_told : decomposable (told m x) ≡ decomposes (at m x 0)
  decomposes_told = ap decomposable (told_make m x wf l) ∙ decomposes_make _ _ _ (at m x 0) (tag_low m x wf l)

  spell_told : (at m x 0 ≡ 10 → ⊥) → spell (told m x) ≡ told m x
  spell_told h = ap spell (told_make m x wf l) ∙ spell_other _ _ _ (at m x 0) (tag_low m x wf l) h ∙ sym (told_make m x wf l)

  spell_lolli : at m x 0 ≡ 10 → spell (told m x) ≡ make 7 (at m x 1) (negate (told m (at m x 1))) (told m (at m x 2))
  spell_lolli e = ap spell (rw e at (told_make m x wf l)) ∙ spell_make (at m x 1) (told m (at m x 1)) (told m (at m x 2))

-- the loop of `first_decomposable`: the first i formulas are not decomposable
module _ {m : List ℕ} {z : Zones} (s : Sound m z) where
  pub linear_low : (i : ℕ) → i < z.linear_len → get_or z.linear i 0 < count m
  linear_low i h = within_linear (count m) s.fits s.within i h

  module _ {i t : ℕ} {r : Bool} (h : i < z.linear_len) (passed : (k : ℕ) → k < i → decomposable (told m (get_or z.linear k 0)) ≡ false)
      (f : Field m (get_or z.linear i 0) 0 t) (d : r ≡ decomposes t) where
    decomposes_here : decomposable (told m (get_or z.linear i 0)) ≡ r
    decomposes_here = decomposes_told s.wf (linear_low i h) ∙ ap decomposes (sym f.value) ∙ sym d

    pub first_here : r ≡ true → FirstAt m z i
    first_here e = record { low = omega arith; passed = passed; here = λ l. decomposes_here ∙ e }

    pub first_next : r ≡ false → (k : ℕ) → k < i + 1 → decomposable (told m (get_or z.linear k 0)) ≡ false
    first_next e = below_more (λ k. decomposable (told m (get_or z.linear k 0)) ≡ false) i passed (decomposes_here ∙ e)

    pub tag_decomposes : t < 13
    tag_decomposes = omega (arith, f.value, tag_low m _ s.wf (linear_low i h))

  pub first_none : {i : ℕ} → i ≤ z.linear_len → z.linear_len ≤ i → ((k : ℕ) → k < i → decomposable (told m (get_or z.linear k 0)) ≡ false) → FirstAt m z z.linear_len
  first_none {i} h l p = record { low = omega arith; passed = λ k b. p k (omega arith); here = λ b. absurd (omega arith) }

  -- what is read of the formula at a place
  pub linear_fits : (i : ℕ) → i < z.linear_len → get_or z.linear i 0 < 2048
  linear_fits i h = omega (arith, linear_low i h, s.wf.few)

pub first_in : {m : List ℕ} {z : Zones} {i : ℕ} → FirstAt m z i → (i ≡ z.linear_len → ⊥) → i < z.linear_len
first_in f n = omega (arith, f.low)

-- among a list, so at a place of it
record Stands (f : Formula) (fs : List Formula) : Type 0 where
  pub place : ℕ
  pub within : place < length fs
  pub here : get_or fs place One ≡ f

among_stands : (f : Formula) (fs : List Formula) → among f fs ≡ true → Stands f fs
unfolding among
among_stands f [] e = absurd (let o : ◌≡◌ {A = ℕ} 0 1 = cc in omega arith)
among_stands f (g ∷ gs) e = go (same f g) refl (among_stands f gs) e
  where
    go : (b : Bool) → same f g ≡ b → (among f gs ≡ true → Stands f gs) → (elim b [ true ↦ true | false ↦ among f gs ]) ≡ true → Stands f (g ∷ gs)
    go true s later e = record { place = zero; within = omega arith; here = sym ((same_iff f g).0 s) }
    go false s later e = let r = later e in record { place = suc r.place; within = omega (arith, r.within); here = r.here }

-- the held formula that spells an implication out, and how its parts are found
record Spelling (m table : List ℕ) (x : ℕ) : Type 0 where
  pub place : ℕ
  pub low : place < count m
  pub here : told m place ≡ spell (told m x)
  pub next : Next m 7 (at m place 1) (at m x 2)
  pub node_is : node 7 (at m place 1) (at m x 2) (view m) ≡ told m place
  pub entry : get_or table (at m x 1) 0 ≡ at m place 1 + 1

module _ {m table : List ℕ} {x : ℕ} (p : Spellable m table x) where
  wf : Wf m
  wf = p.table_is.wf

  left_low : at m x 1 < x
  left_low = part_left m x wf p.low (omega (arith, p.lolli))

  right_low : at m x 2 < x
  right_low = part_right m x wf p.low (omega (arith, p.lolli)) (omega (arith, p.lolli))

  spelling : Spelling m table x
  unfolding make signs tag_of
  spelling =
      let s = among_stands (spell (told m x)) (view m) p.held in
      let y = s.place in
      let l : y < count m = omega (arith, s.within, held_length m (count m)) in
      let e = s.here ∙ spell_lolli wf p.low p.lolli in
      let parts = part_of_mid m wf {y = y} l 7 (at m x 1) (negate (told m (at m x 1))) (told m (at m x 2)) e (omega arith) (omega arith) in
      let tag : at m y 0 ≡ 7 = sym (told_tag m y wf l) ∙ ap tag_of e in
      let right : at m y 2 ≡ at m x 2 = (number_once m wf (at m y 2) (at m x 2) parts.1.0 (omega (arith, right_low, p.low))).0 parts.1.1 in
      record {
        place = y;
        low = l;
        here = s.here;
        next = record { wf = wf; tall = at m y 3; wide = at m y 4; row = rw (tag, right) at (row_later (count m) (omega arith) (wf.formulas.rows y l)) };
        node_is = node_make 7 (at m y 1) (at m x 2) (view m) ∙ sym (rw (tag, right) at (told_make m y wf l));
        entry = (p.table_is.left x p.low p.lolli).complete (at m y 1) parts.0.0 parts.0.1;
      }

-- `spelled_number`, with the two fields read
module _ {m table : List ℕ} {x a b : ℕ} (p : Spellable m table x) (fa : Field m x 1 a) (fb : Field m x 2 b) where
  pub left_within : a < length table
  left_within = omega (arith, fa.value, left_low p, p.low, p.table_is.wf.few, p.table_is.sized)

  entry_is : get_or table a 0 ≡ at m (spelling p).place 1 + 1
  entry_is = rw fa.value (spelling p).entry

  pub left_some : 1 ≤ get_or table a 0
  left_some = omega (arith, entry_is)

  left_is : get_or table a 0 - 1 ≡ at m (spelling p).place 1
  left_is = omega (arith, entry_is)

  pub number_next : Next m 7 (get_or table a 0 - 1) b
  number_next = rw (left_is, fb.value) (spelling p).next

  -- it is held, so that a look-up finds it
  pub number_spells : (r : Option ℕ) → NumberOf m (node 7 (get_or table a 0 - 1) b (view m)) r → SpelledAs m x (unwrap_or r 0)
  number_spells None n = absurd (n (spelling p).place (spelling p).low (sym (rw (left_is, fb.value) (spelling p).node_is)))
  number_spells (Some i) n = record { low = n.0; here = n.1 ∙ rw (left_is, fb.value) (spelling p).node_is ∙ (spelling p).here }

pub number_fits : {m table : List ℕ} {x i : ℕ} → Spellable m table x → SpelledAs m x i → i < 65536
number_fits p s = omega (arith, s.low, p.table_is.wf.few)

-- zones that an operation makes, and what they mean
module _ {m : List ℕ} {z r : Zones} {change : Change ℕ} (s : Sound m z) (k : Made z change r) (h : Adds (count m) change) where
  pub made_sound : Sound m r
  made_sound = record { wf = s.wf; fits = k.fits; within = within_made (count m) k s.within h }

  pub made_means : {q : Sequent} → meant (told m) r ≡ q → Means m q r
  made_means e = record { sound = made_sound; means = e }

-- the sequent with its first decomposable formula spelled out
passed_map : (f : ℕ → Formula) (xs : List ℕ) → ((k : ℕ) → k < length xs → decomposable (f (get_or xs k 0)) ≡ false) → Passed (map f xs)
passed_map f [] h = none_yet
passed_map f (x ∷ xs) h = and_passed (h zero (omega arith)) (passed_map f xs (λ k l. h (suc k) (omega arith)))

module _ {m table : List ℕ} {z : Zones} (p : SpellsOut m table z) {i : ℕ} (first : FirstAt m z i) where
  passed_to : (n : ℕ) → n ≤ i → Passed (map (told m) (take n z.linear))
  passed_to n h =
      passed_map (told m) (take n z.linear)
      (λ k l.
      let b : k < n = omega (arith, length-take n z.linear) in
      rw (get_or-take n z.linear k 0 b) (first.passed k (omega arith)))

  pub spelled_none : i ≡ z.linear_len → Means m (spelled (meant (told m) z)) z
  spelled_none e = record { sound = p.sound; means = sym (plain_passed (meant (told m) z) (passed_to z.linear_len (omega (arith, e)))) }

  module _ (h : i < z.linear_len) where
    passed_before : Passed (take i (meant (told m) z).linear)
    passed_before =
        rw (sym (map_take (told m) i (linears z)), take-take i z.linear_len z.linear first.low) (passed_to i (omega arith))

    apart : (meant (told m) z).linear ≡ take i (meant (told m) z).linear ++ (told m (get_or z.linear i 0) ∷ drop (suc i) (meant (told m) z).linear)
    apart =
        sym (take-append-drop i (meant (told m) z).linear)
        ∙ ap (λ (l : List Formula). take i (meant (told m) z).linear ++ l) (linear_at (told m) p.sound.fits i h)

    spelled_here : spell_first (meant (told m) z).linear ≡ replace i (spell (told m (get_or z.linear i 0))) (meant (told m) z).linear
    spelled_here = ap spell_first apart ∙ spell_at (told m (get_or z.linear i 0)) (drop (suc i) (meant (told m) z).linear) passed_before (first.here h)

    pub spelled_plain : (at m (get_or z.linear i 0) 0 ≡ 10 → ⊥) → Means m (spelled (meant (told m) z)) z
    spelled_plain o = record {
      sound = p.sound;
      means =
          sym
          (plain_at
          (meant (told m) z)
          (told m (get_or z.linear i 0))
          (drop (suc i) (meant (told m) z).linear)
          passed_before
          (first.here h)
          (spell_told p.sound.wf (linear_low p.sound i h) o)
          apart);
    }

    pub spellable : at m (get_or z.linear i 0) 0 ≡ 10 → Spellable m table (get_or z.linear i 0)
    spellable e = record {
      table_is = p.table_is;
      low = linear_low p.sound i h;
      lolli = e;
      held =
          rw (
            spelled_here,
            get_or_at
                (take i (meant (told m) z).linear)
                (spell (told m (get_or z.linear i 0)))
                (drop (suc i) (meant (told m) z).linear)
                One
                i
                (length-take-le i (meant (told m) z).linear (omega (arith, length-map (linears z) (told m), linears_length p.sound.fits))),
          ) at
          (p.kept.held i (omega (arith, spell_length (meant (told m) z).linear, length-map (linears z) (told m), linears_length p.sound.fits)));
    }

    pub spelled_lolli : {y : ℕ} {r : Zones} → SpelledAs m (get_or z.linear i 0) y → Made z (replaced i y) r → Means m (spelled (meant (told m) z)) r
    spelled_lolli {y} {r} s k =
        made_means p.sound k s.low
        (meant_made (told m) k
        ∙ ap (λ (f : Formula). replace i f (meant (told m) z).linear ﹔ (meant (told m) z).unrestricted) s.here
        ∙ ap (λ (l : List Formula). l ﹔ (meant (told m) z).unrestricted) (sym spelled_here))
