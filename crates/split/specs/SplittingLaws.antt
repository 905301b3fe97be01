-- Laws of finding the least place and mask of a tensor: one for each way out of `is_tensor_of` and `least_split`. Assumes nothing.
use Rattle.std.specs.Prelude.{◌≡◌, refl, Bool, true, false, not, ◌&&◌, ℕ, zero, suc, ◌+◌, ◌≤◌, ◌<◌, ◌^◌, ◌/◌, ◌%◌, eqb, ltb, get_or, None, Option, Some}
use Rattle.std.proofs.Common.{sym, ap₂, subst, ◌∙◌, arith, get_or-take}
use Rattle.std.proofs.Math.Path.{ap}
use Rattle.std.proofs.lemmas.Bool.{false≢true}
use Rattle.std.proofs.Math.Bool.{and-eq-true_iff}
use mathlib.Core.List.{List, [], ◌∷◌, ◌++◌, map}
use Rattle.std.proofs.Math.ListN.{length, length-append}
use borrow.Author.Tests.{eqb-true, ltb-true, ltb-false, eq-eqb, le-ltb}
use Rattle.logic.specs.Formula.{Formula, One, same, spell}
use Rattle.logic.proofs.FormulaLaws.{same_iff}
use Rattle.logic.specs.Parts.{tag_of, left_part, right_part, make}
use Rattle.logic.proofs.PartsLaws.{tag_make, left_make, right_make}
use Rattle.logic.specs.Sequent.{Sequent, ◌﹔◌, count}
use Rattle.logic.specs.Split.{keep, left_of, right_of}
use Rattle.logic.specs.Limits.{at_most, exceeds}
use Rattle.logic.specs.Tree.{TensorIntro}
use Rattle.wire.specs.Write.{write_formula}
use Rattle.tree.specs.Stands.{Stands}
use Rattle.tree.specs.Places.{rule_number}
use Rattle.held.specs.Words as words
use Rattle.held.specs.Words.{told, Row}
use Rattle.held.specs.WordsLaws.{number_once, held_node, row_low}
use Rattle.held.specs.SignsLaws.{node_make}
use Rattle.held.specs.Answers.{Field}
use Rattle.bags.specs.Reading.{read_as}
use Rattle.bags.specs.declared.How.{How}
use Rattle.bags.specs.declared.How.TheVariants.{Spelled}
use Rattle.shown.specs.Matching.{Comparing, Matches}
use Rattle.shown.specs.MatchingLaws.{matches_tells}
use Rattle.zones.specs.declared.Zones.{Zones}
use Rattle.zones.specs.Zones.{Below, linears, unrestricteds, remove}
use Rattle.zones.specs.ZonesLaws.{linears_length, unrestricteds_length, map_remove, remove_length, below_remove}
use Rattle.expand.specs.Writing.{Sound}
use Rattle.short.specs.Few.{FewEach, few_none, few_more}
use Rattle.short.specs.Steps.{all_passed, formula_at, premises_of}
use Rattle.short.specs.MakingLaws.{few_each_made}
use Rattle.short.proofs.LeastLaws.{fits_takes, least_is, least_none}
use Rattle.deal.specs.Deal.{Answers}
use Rattle.deal.specs.Place.{Removable}
use Rattle.deal.specs.Meant.{Splits, LeastSplit, Says}
use Rattle.deal.specs.MeantLaws.{length_map, answers_meant}
use Rattle.step.specs.Taking.{sequent, Taken}
use Rattle.split.specs.Splitting.{is_tensor_of, TensorAt, TensorOf, Splitting, SplitTo}
use Rattle.split.specs.Tensors.{two_premises, fits_two, Tried}
use Rattle.std.specs.Option.{is_some}
use Rattle.split.specs.LabelLaws.{some_of, none_of, linear_low}
use Rattle.split.specs.TensorLaws.{tensor_takes, taken_tensor, fits_tensor, tensor_fits}

-- ---- lists

true_false : {b : Bool} → b ≡ true → b ≡ false → ⊥
true_false e k = false≢true (sym k ∙ e)

-- a list with one item more is that in one way
snoc_apart : (xs ys : List Formula) {a b : Formula} → xs ++ (a ∷ []) ≡ ys ++ (b ∷ []) → (xs ≡ ys) × (a ≡ b)
snoc_apart [] [] e = (refl, cc)
snoc_apart [] (y ∷ []) e = let z : ◌≡◌ {A = ℕ} 0 1 = cc in absurd (omega arith)
snoc_apart [] (y ∷ y' ∷ ys) e = let z : ◌≡◌ {A = ℕ} 0 1 = cc in absurd (omega arith)
snoc_apart (x ∷ []) [] e = let z : ◌≡◌ {A = ℕ} 0 1 = cc in absurd (omega arith)
snoc_apart (x ∷ x' ∷ xs) [] e = let z : ◌≡◌ {A = ℕ} 0 1 = cc in absurd (omega arith)
snoc_apart (x ∷ xs) (y ∷ ys) {a} {b} e =
    let head : x ≡ y = cc in
    let tail : xs ++ (a ∷ []) ≡ ys ++ (b ∷ []) = cc in
    let p = snoc_apart xs ys tail in
    (ap₂ (λ (f : Formula) (fs : List Formula). f ∷ fs) head p.0, p.1)

map_told_at : (f : ℕ → Formula) (xs : List ℕ) (i : ℕ) → i < length xs → get_or (map f xs) i One ≡ f (get_or xs i 0)
map_told_at f [] i l = absurd (omega arith)
map_told_at f (x ∷ xs) zero l = refl
map_told_at f (x ∷ xs) (suc i) l = map_told_at f xs i (omega arith)

-- a half of a list is no longer than it
keep_long : (b : Bool) (f : Formula) (fs : List Formula) {n : ℕ} → length fs ≤ n → length (keep b f fs) ≤ suc n
keep_long true f fs h = omega arith
keep_long false f fs h = omega arith

left_long : (mask : ℕ) (fs : List Formula) → length (left_of mask fs) ≤ length fs
unfolding left_of
left_long mask [] = omega arith
left_long mask (f ∷ fs) = keep_long (eqb (mask % 2) 0) f (left_of (mask / 2) fs) (left_long (mask / 2) fs)

right_long : (mask : ℕ) (fs : List Formula) → length (right_of mask fs) ≤ length fs
unfolding right_of
right_long mask [] = omega arith
right_long mask (f ∷ fs) = keep_long (not (eqb (mask % 2) 0)) f (right_of (mask / 2) fs) (right_long (mask / 2) fs)

-- parts stand before their wholes
two_below : {m : List ℕ} {n t a b h s : ℕ} → Row m n t a b h s → 6 ≤ t → t < 11 → (a < n) × (b < n)
two_below (words.unit l x y e f) p q = absurd (omega arith)
two_below (words.name k l x y e f) p q = absurd (omega arith)
two_below (words.two k l x y e f u v) p q = (x, y)
two_below (words.one k l x y e f u v) p q = absurd (omega arith)

-- ---- the sequent

module _ {m : List ℕ} {z : Zones} (sound : Sound m z) where
  pub linear_long : length (sequent m z).linear ≡ z.linear_len
  linear_long = length_map (told m) (linears z) ∙ linears_length sound.fits

  unrestricted_long : length (sequent m z).unrestricted ≡ z.unrestricted_len
  unrestricted_long = length_map (told m) (unrestricteds z) ∙ unrestricteds_length sound.fits

  pub formula_told : (i : ℕ) → i < z.linear_len → formula_at (sequent m z) i ≡ told m (get_or z.linear i 0)
  formula_told i l =
      map_told_at (told m) (linears z) i (omega (arith, linears_length sound.fits))
      ∙ ap (told m) (get_or-take z.linear_len z.linear i 0 l)

  removed : (i : ℕ) → remove i (sequent m z).linear ≡ map (told m) (remove i (linears z))
  removed i = sym (map_remove (told m) i (linears z))

  removed_long : (i : ℕ) → i < z.linear_len → length (remove i (sequent m z).linear) + 1 ≡ z.linear_len
  removed_long i l =
      let n : length (linears z) ≡ z.linear_len = linears_length sound.fits in
      omega (arith, ap length (removed i), length_map (told m) (remove i (linears z)), remove_length (linears z) i (omega arith))

  -- a tensor's premise has at most as many formulas as its conclusion
  few_premise : (f : Formula) (fs : List Formula) → length fs + 1 ≤ z.linear_len → exceeds (at_most 31) (count (fs ++ (f ∷ []) ﹔ (sequent m z).unrestricted)) ≡ false
  unfolding exceeds
  few_premise f fs h =
      le-ltb 31 (length (fs ++ (f ∷ [])) + length (sequent m z).unrestricted) (omega (arith, length-append fs (f ∷ []), unrestricted_long, sound.fits.few))

  tensor_few : (i mask : ℕ) → i < z.linear_len → FewEach (at_most 31) (premises_of TensorIntro i mask (sequent m z))
  unfolding premises_of
  tensor_few i mask l =
      let fs : List Formula = remove i (sequent m z).linear in
      few_more (few_premise (left_part (formula_at (sequent m z) i)) (left_of mask fs) (omega (arith, removed_long i l, left_long mask fs)))
      (few_more (few_premise (right_part (formula_at (sequent m z) i)) (right_of mask fs) (omega (arith, removed_long i l, right_long mask fs))) few_none)

  pub tensor_taken : (i mask : ℕ) → all_passed (sequent m z).linear ≡ true → i < z.linear_len → tag_of (formula_at (sequent m z) i) ≡ 6
      → mask < 2 ^ length (remove i (sequent m z).linear) → Taken m z 4 i mask
  unfolding rule_number
  tensor_taken i mask ps l tag spare = record {
    sound = sound;
    named = TensorIntro;
    number = refl;
    takes = tensor_takes (sequent m z) i mask ps (omega (arith, linear_long)) tag spare;
    few = few_each_made [] (tensor_few i mask l);
  }

  -- what dealing the other formulas out by number answers, in formulas
  dealt_means : {l r : List ℕ} (i : ℕ) → Below (words.count m) l → Below (words.count m) r → (d : Option ℕ) → Answers (remove i (linears z)) l r d
      → Says (remove i (sequent m z).linear) (map (told m) l) (map (told m) r) d
  dealt_means {l} {r} i bl br d a =
      subst (λ (fs : List Formula). Says fs (map (told m) l) (map (told m) r) d) (sym (removed i))
      (answers_meant (told m) (words.count m) (λ x y u v e. (number_once m sound.wf x y u v).0 e) (below_remove _ i (linears z) sound.within.linear) bl br d a)

-- ---- a tensor of two parts

module _ (q : Sequent) (i : ℕ) (g h : Formula) where
  abbrev Parts : Type 0
  Parts = (tag_of (formula_at q i) ≡ 6) × (g ≡ spell (left_part (formula_at q i))) × (h ≡ spell (right_part (formula_at q i)))

  tensor_parts : is_tensor_of q i g h ≡ true → Parts
  tensor_parts e =
      let b = (and-eq-true_iff (eqb (tag_of (formula_at q i)) 6) (same g (spell (left_part (formula_at q i))) && same h (spell (right_part (formula_at q i))))).0 e in
      let c = (and-eq-true_iff (same g (spell (left_part (formula_at q i)))) (same h (spell (right_part (formula_at q i))))).0 b.1 in
      (eqb-true _ _ b.0, (same_iff _ _).0 c.0, (same_iff _ _).0 c.1)

  parts_tensor : Parts → is_tensor_of q i g h ≡ true
  parts_tensor p = (and-eq-true_iff _ _).1 (eq-eqb _ _ p.0, (and-eq-true_iff _ _).1 ((same_iff _ _).1 p.1, (same_iff _ _).1 p.2))

-- ---- the places one after another

module _ {m : List ℕ} {z : Zones} {s : List ℕ} {left right : ℕ} {l r : List ℕ} (given : Splitting m z s left right l r) where
  module _ (g h : Formula) (i mask : ℕ) where
    -- what fits is a tensor of these parts, and the mask deals the others out
    fits_is_tensor : fits_two m z l r g h i mask ≡ true → is_tensor_of (sequent m z) i g h ≡ true
    fits_is_tensor f =
        let t = fits_tensor (sequent m z) i mask _ _ f in
        let a = (snoc_apart (map (told m) l) (left_of mask (remove i (sequent m z).linear)) t.left_linear).1 in
        let b = (snoc_apart (map (told m) r) (right_of mask (remove i (sequent m z).linear)) t.right_linear).1 in
        parts_tensor (sequent m z) i g h (t.tensor, a, b)

    fits_splits : fits_two m z l r g h i mask ≡ true → Splits (remove i (sequent m z).linear) (map (told m) l) (map (told m) r) mask
    fits_splits f =
        let t = fits_tensor (sequent m z) i mask _ _ f in
        record {
          left = sym (snoc_apart (map (told m) l) (left_of mask (remove i (sequent m z).linear)) t.left_linear).0;
          right = sym (snoc_apart (map (told m) r) (right_of mask (remove i (sequent m z).linear)) t.right_linear).0;
        }

    splits_fit : i < z.linear_len → is_tensor_of (sequent m z) i g h ≡ true → mask < 2 ^ length (remove i (sequent m z).linear)
        → Splits (remove i (sequent m z).linear) (map (told m) l) (map (told m) r) mask → fits_two m z l r g h i mask ≡ true
    splits_fit low e spare p =
        let b = tensor_parts (sequent m z) i g h e in
        tensor_fits (sequent m z) i mask _ _ given.passed (omega (arith, linear_long given.sound))
        record {
          tensor = b.0;
          spare = spare;
          left_linear = ap₂ (λ (fs : List Formula) (f : Formula). fs ++ (f ∷ [])) (sym p.left) b.1;
          left_unrestricted = refl;
          right_linear = ap₂ (λ (fs : List Formula) (f : Formula). fs ++ (f ∷ [])) (sym p.right) b.2;
          right_unrestricted = refl;
        }

  -- at each place the others can be dealt out
  pub place_removable : {i : ℕ} → i < z.linear_len → Removable (linears z) i
  place_removable low =
      let n : length (linears z) ≡ z.linear_len = linears_length given.sound.fits in
      record { inside = omega arith; few = omega (arith, given.sound.fits.few) }

  pub place_asked : {i : ℕ} → i < z.linear_len → TensorAt m z i s left right
  place_asked low = record { sound = given.sound; low = low; left_inside = given.left_inside; right_inside = given.right_inside }

  pub tried_start : Tried m z s left right l r 0
  tried_start = record { high = omega arith; none = λ g h there there' j mask low. absurd (omega arith) }

  module _ {i : ℕ} (t : Tried m z s left right l r i) (low : i < z.linear_len) where
    -- nothing fits at place i either
    tried_next : ((g h : Formula) → Stands s left (write_formula g) → Stands s right (write_formula h) → (mask : ℕ)
        → fits_two m z l r g h i mask ≡ true → ⊥) → Tried m z s left right l r (i + 1)
    tried_next never = record { high = omega arith; none = λ g h there there' j mask k. at g h there there' j mask k (ltb j i) refl }
      where
        at : (g h : Formula) → Stands s left (write_formula g) → Stands s right (write_formula h) → (j mask : ℕ) → j < i + 1 → (b : Bool) → ltb j i ≡ b
            → fits_two m z l r g h j mask ≡ false
        at g h there there' j mask k true e = t.none g h there there' j mask (ltb-true j i e)
        at g h there there' j mask k false e =
            let same : j ≡ i = omega (arith, ltb-false j i e) in
            rw same (here (fits_two m z l r g h i mask) refl)
          where
            here : (b : Bool) → fits_two m z l r g h i mask ≡ b → b ≡ false
            here true e = absurd (never g h there there' mask e)
            here false e = refl

    -- no tensor of these parts stands there
    pub tried_other : {b : Bool} → TensorOf m z i s left right b → b ≡ false → Tried m z s left right l r (i + 1)
    tried_other o e = tried_next (λ g h there there' mask f. true_false (fits_is_tensor g h i mask f) (sym (o.is g h there there') ∙ e))

    -- one does, and no mask deals the others out
    pub tried_nowhere : (d : Option ℕ) → Answers (remove i (linears z)) l r d → d ≡ None → Tried m z s left right l r (i + 1)
    tried_nowhere d a e =
        let none = subst (λ (d : Option ℕ). Answers (remove i (linears z)) l r d) e a in
        tried_next
        (λ g h there there' mask f. dealt_means given.sound i given.left_below given.right_below None none mask (fits_splits g h i mask f))

    -- or the least that does is the answer
    pub tried_found : {b : Bool} → TensorOf m z i s left right b → b ≡ true → (d : Option ℕ) {mask : ℕ} → Answers (remove i (linears z)) l r d → d ≡ Some mask
        → SplitTo m z s left right l r (Some (i, mask))
    tried_found o stands d {mask} a e =
        let p : LeastSplit (remove i (sequent m z).linear) (map (told m) l) (map (told m) r) mask =
        dealt_means given.sound i given.left_below given.right_below (Some mask) (subst (λ (d : Option ℕ). Answers (remove i (linears z)) l r d) e a) in
        record {
          taken = tensor_taken given.sound i mask given.passed low (o.tensor stands) p.spare;
          is = λ g h there there' fs.
              least_is TensorIntro (sequent m z) (two_premises m z l r g h) i mask fs
              record {
                here = splits_fit g h i mask low (sym (o.is g h there there') ∙ stands) p.spare p.splits;
                no_earlier = λ j k. t.none g h there there' j k;
                no_lesser = λ k. lesser p g h k (fits_two m z l r g h i k) refl;
              };
        }
      where
        lesser : LeastSplit (remove i (sequent m z).linear) (map (told m) l) (map (told m) r) mask → (g h : Formula) (k : ℕ) (b : Bool)
            → fits_two m z l r g h i k ≡ b → k < mask → b ≡ false
        lesser p g h k true e c = absurd (omega (arith, p.least k (fits_splits g h i k e)))
        lesser p g h k false e c = refl

  -- past the last place nothing fits
  pub tried_end : {i : ℕ} → Tried m z s left right l r i → z.linear_len ≤ i → SplitTo m z s left right l r None
  tried_end t past = record {
    taken = tt;
    is = λ g h there there' fs. least_none TensorIntro (sequent m z) (two_premises m z l r g h) fs (λ i mask. go g h there there' i mask (fits_two m z l r g h i mask) refl);
  }
    where
      go : (g h : Formula) → Stands s left (write_formula g) → Stands s right (write_formula h) → (i mask : ℕ) (b : Bool)
          → fits_two m z l r g h i mask ≡ b → b ≡ false
      go g h there there' i mask false e = refl
      go g h there there' i mask true e =
          let w = taken_tensor (sequent m z) i mask (fits_takes TensorIntro (sequent m z) (two_premises m z l r g h) i mask e) in
          absurd (true_false e (t.none g h there there' i mask (omega (arith, w.within, linear_long given.sound))))

-- ---- whether a tensor of two parts stands at a place

by_never : (b : Bool) → (b ≡ true → ⊥) → false ≡ b
by_never true never = absurd (never refl)
by_never false never = refl

module _ {m : List ℕ} {z : Zones} {i : ℕ} {s : List ℕ} {left right : ℕ} (given : TensorAt m z i s left right) where
  abbrev number : ℕ
  number = get_or z.linear i 0

  pub place_low : number < words.count m
  place_low = linear_low given.sound i given.low

  here_told : formula_at (sequent m z) i ≡ told m number
  here_told = formula_told given.sound i given.low

  told_made : told m number ≡ make (words.at m number 0) (words.at m number 1) (told m (words.at m number 1)) (told m (words.at m number 2))
  told_made = held_node m (words.count m) given.sound.wf.formulas number place_low ∙ node_make _ _ _ _

  module _ {t : ℕ} (tag : Field m number 0 t) where
    here_tag : tag_of (formula_at (sequent m z) i) ≡ t
    here_tag =
        ap tag_of (here_told ∙ told_made)
        ∙ tag_make _ _ _ (words.at m number 0) (row_low (given.sound.wf.formulas.rows number place_low))
        ∙ sym tag.value

    pub no_tensor : (t ≡ 6 → ⊥) → TensorOf m z i s left right false
    no_tensor other = record {
      is = λ g h there there'. by_never _ (λ e. other (sym here_tag ∙ (tensor_parts (sequent m z) i g h e).0));
      tensor = λ e. absurd (false≢true e);
    }

    module _ (six : t ≡ 6) where
      tag_six : words.at m number 0 ≡ 6
      tag_six = sym tag.value ∙ six

      here_made : formula_at (sequent m z) i ≡ make 6 (words.at m number 1) (told m (words.at m number 1)) (told m (words.at m number 2))
      here_made = here_told ∙ rw tag_six at told_made

      parts_low : (words.at m number 1 < number) × (words.at m number 2 < number)
      parts_low = two_below (given.sound.wf.formulas.rows number place_low) (omega (arith, tag_six)) (omega (arith, tag_six))

      module _ {a : ℕ} (a_is : Field m number 1 a) where
        pub left_compares : Comparing m a s left
        left_compares = record { wf = given.sound.wf; low = omega (arith, a_is.value, parts_low.0, place_low); inside = given.left_inside }

        left_told : left_part (formula_at (sequent m z) i) ≡ told m a
        left_told = ap left_part here_made ∙ left_make _ _ _ 6 (omega arith) (omega arith) ∙ ap (told m) (sym a_is.value)

        module _ {how : How} {r : Option ℕ} (spelled : how ≡ Spelled) (match : Matches m a how s left r) where
          pub left_differs : r ≡ None → TensorOf m z i s left right false
          unfolding read_as
          left_differs e = record {
            is = λ g h there there'. by_never _ (λ k. (matches_tells match there).other_formula e ((tensor_parts (sequent m z) i g h k).1 ∙ ap spell left_told ∙ rw spelled));
            tensor = λ e. absurd (false≢true e);
          }

          left_same : {next : ℕ} → r ≡ Some next → (g : Formula) → Stands s left (write_formula g) → g ≡ spell (left_part (formula_at (sequent m z) i))
          unfolding read_as
          left_same e g there = (matches_tells match there).same_formula e ∙ rw spelled (ap spell (sym left_told))

      module _ {b : ℕ} (b_is : Field m number 2 b) where
        pub right_compares : Comparing m b s right
        right_compares = record { wf = given.sound.wf; low = omega (arith, b_is.value, parts_low.1, place_low); inside = given.right_inside }

        right_told : right_part (formula_at (sequent m z) i) ≡ told m b
        right_told = ap right_part here_made ∙ right_make _ _ _ 6 (omega arith) (omega arith) ∙ ap (told m) (sym b_is.value)

        module _ {how : How} {r : Option ℕ} (spelled : how ≡ Spelled) (match : Matches m b how s right r) where
          pub right_differs : r ≡ None → TensorOf m z i s left right false
          unfolding read_as
          right_differs e = record {
            is = λ g h there there'. by_never _ (λ k. (matches_tells match there').other_formula e ((tensor_parts (sequent m z) i g h k).2 ∙ ap spell right_told ∙ rw spelled));
            tensor = λ e. absurd (false≢true e);
          }

          right_same : {next : ℕ} → r ≡ Some next → (h : Formula) → Stands s right (write_formula h) → h ≡ spell (right_part (formula_at (sequent m z) i))
          unfolding read_as
          right_same e h there = (matches_tells match there).same_formula e ∙ rw spelled (ap spell (sym right_told))

      pub both_match : {a b : ℕ} → Field m number 1 a → Field m number 2 b → {how how' : How} → how ≡ Spelled → how' ≡ Spelled → {r r' : Option ℕ}
          → Matches m a how s left r → Matches m b how' s right r' → {next next' : ℕ} → r ≡ Some next → r' ≡ Some next' → TensorOf m z i s left right true
      both_match a_is b_is p p' match match' e e' = record {
        is = λ g h there there'.
            sym (parts_tensor (sequent m z) i g h (here_tag ∙ six, left_same a_is p match e g there, right_same b_is p' match' e' h there'));
        tensor = λ _. here_tag ∙ six;
      }

      -- the answer by the tests of both parts
      pub left_tested : {a : ℕ} → Field m number 1 a → {r : Option ℕ} → Matches m a Spelled s left r → is_some r ≡ false → TensorOf m z i s left right false
      left_tested a_is {r} match e = left_differs a_is refl match (none_of r e)

      pub both_tested : {a b : ℕ} → Field m number 1 a → Field m number 2 b → {r : Option ℕ} → Matches m a Spelled s left r → is_some r ≡ true
          → (r' : Option ℕ) → Matches m b Spelled s right r' → TensorOf m z i s left right (is_some r')
      both_tested a_is b_is {r} match e (Some next) match' = both_match a_is b_is refl refl match match' (some_of r e).1 refl
      both_tested a_is b_is match e None match' = right_differs b_is refl match' refl
