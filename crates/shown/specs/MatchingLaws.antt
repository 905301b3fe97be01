-- A held formula and a formula in bytes: what their tags tell, and how the comparison of their parts is that of the wholes. Assumes nothing.
use Rattle.std.specs.Prelude.{◌≡◌, Bool, true, false, ◌&&◌, List, length, get_or, None, Option, Some}
use Rattle.std.proofs.Math.Path.{refl, ap}
use Rattle.std.proofs.Common.{sym, ap₂, ◌∙◌, arith, div-add-mod'}
use Prim.Native.Nat.{ℕ, suc, ◌+◌, ◌*◌, ◌/◌, ◌%◌, ◌≤◌, ◌<◌, min}
use borrow.Author.Tests.{ne_eqb, eq-eqb}
use Rattle.logic.specs.Formula.{Formula, same, size}
use Rattle.logic.proofs.FormulaLaws.{same_iff, same_false, size_positive}
use Rattle.logic.specs.Parts.{tag_of, signs, make}
use Rattle.logic.proofs.PartsLaws.{name_tags, binary_tags, unary_tags, tag_make}
use Rattle.wire.specs.Write.{two_bytes, write_formula}
use Rattle.tree.specs.Stands.{Stands}
use Rattle.tree.specs.StandsLaws.{stands_head, stands_tail}
use Rattle.tree.specs.FormulaPlaces.{tag_stands}
use Rattle.bags.specs.Reading.{read_as, Rest, unit, named, binary, unary, rest_of, write_rest, rest_size, sign_of, left_how, right_how, rest_as}
use Rattle.bags.specs.ReadingLaws.{follows, write_parts, size_parts, read_tag, read_rest, read_follows, unit_follows, name_follows, two_follow, one_follows, other_tags, same_units, same_names, same_ones, same_twos}
use Rattle.bags.specs.ComparedLaws.{ends_inside, one_here, two_here}
use Rattle.bags.specs.declared.How.{How}
use Rattle.held.specs.SignsLaws.{node_make}
use Rattle.held.specs.Words as words
use Rattle.held.specs.Words.{at, count, told, Row, RowAt, Wf}
use Rattle.held.specs.WordsLaws.{held_node, row_low}
use Rattle.held.specs.Answers.{Field}
use Rattle.shown.specs.Matching.{Comparing, matched, OnePart, TwoParts, TopsAre, Matches, MatchTells}
use Rattle.shown.specs.declared.Tops.{Tops}
use Rattle.shown.specs.declared.Tops.TheVariants.{Told, One, Two}

-- ---- a held formula: its tag, and what follows it

module _ (n : ℕ) (a b : Formula) where
  rest_name : (t : ℕ) → 4 ≤ t → t < 6 → rest_of (make t n a b) ≡ named n
  unfolding make signs rest_of
  rest_name = name_tags (λ t. rest_of (make t n a b) ≡ named n) refl refl

  rest_two : (t : ℕ) → 6 ≤ t → t < 11 → rest_of (make t n a b) ≡ binary a b
  unfolding make signs rest_of
  rest_two = binary_tags (λ t. rest_of (make t n a b) ≡ binary a b) refl refl refl refl refl

  rest_one : (t : ℕ) → 11 ≤ t → t < 13 → rest_of (make t n a b) ≡ unary a
  unfolding make signs rest_of
  rest_one = unary_tags (λ t. rest_of (make t n a b) ≡ unary a) refl refl

-- parts stand before their wholes
two_below : {m : List ℕ} {n t a b h s : ℕ} → Row m n t a b h s → 6 ≤ t → t < 11 → (a < n) × (b < n)
two_below (words.unit l x y e f) p q = absurd (omega arith)
two_below (words.name k l x y e f) p q = absurd (omega arith)
two_below (words.two k l x y e f u v) p q = (x, y)
two_below (words.one k l x y e f u v) p q = absurd (omega arith)

one_below : {m : List ℕ} {n t a b h s : ℕ} → Row m n t a b h s → 11 ≤ t → a < n
one_below (words.unit l x y e f) p = absurd (omega arith)
one_below (words.name k l x y e f) p = absurd (omega arith)
one_below (words.two k l x y e f u v) p = absurd (omega arith)
one_below (words.one k l x y e f u v) p = x

module _ {m : List ℕ} {x : ℕ} (wf : Wf m) (low : x < count m) where
  row : RowAt m x
  row = wf.formulas.rows x low

  pub tag_low : at m x 0 < 13
  tag_low = row_low row

  told_made : told m x ≡ make (at m x 0) (at m x 1) (told m (at m x 1)) (told m (at m x 2))
  told_made = held_node m (count m) wf.formulas x low ∙ node_make (at m x 0) (at m x 1) (at m x 2) _

  told_tag : tag_of (told m x) ≡ at m x 0
  told_tag = ap tag_of told_made ∙ tag_make _ _ _ (at m x 0) tag_low

  -- the tag, as it is read, settles what follows
  module _ (how : How) {t : ℕ} (sign : tag_of (read_as how (told m x)) ≡ t) where
    unit_held : t < 4 → rest_of (told m x) ≡ unit
    unit_held h = unit_follows (rest_of (told m x)) (read_follows how (told m x)) (rw sign h)

    name_held : 4 ≤ t → t < 6 → rest_of (told m x) ≡ named (at m x 1)
    name_held h k =
        let n = name_follows (rest_of (told m x)) (read_follows how (told m x)) (rw sign h) (rw sign k) in
        let tags = rw (n.1, told_tag) at (follows (told m x)) in
        ap rest_of told_made ∙ rest_name _ _ _ (at m x 0) tags.0 tags.1

    two_held : 6 ≤ t → t < 11 → (rest_of (told m x) ≡ binary (told m (at m x 1)) (told m (at m x 2))) × ((at m x 1 < x) × (at m x 2 < x))
    two_held h k =
        let n = two_follow (rest_of (told m x)) (read_follows how (told m x)) (rw sign h) (rw sign k) in
        let tags = rw (n.2, told_tag) at (follows (told m x)) in
        (ap rest_of told_made ∙ rest_two _ _ _ (at m x 0) tags.0 tags.1, two_below row tags.0 tags.1)

    one_held : 11 ≤ t → (rest_of (told m x) ≡ unary (told m (at m x 1))) × (at m x 1 < x)
    one_held h =
        let n = one_follows (rest_of (told m x)) (read_follows how (told m x)) (rw sign h) in
        let tags = rw (n.1, told_tag) at (follows (told m x)) in
        (ap rest_of told_made ∙ rest_one _ _ _ (at m x 0) tags.0 tags.1, one_below row tags.0)

-- a part may be compared at any place of the message
pub part_compares : {m : List ℕ} {x : ℕ} {s : List ℕ} {place : ℕ} → Comparing m x s place
    → {k a next : ℕ} → Field m x k a → at m x k < x → next ≤ length s → Comparing m a s next
part_compares c a_is falls inside = record { wf = c.wf; low = omega (arith, c.low, a_is.value); inside = inside }

-- the name behind a tag
name_here : {s : List ℕ} {place : ℕ} (f : Formula) → Stands s place (write_formula f) → {n : ℕ} → rest_of f ≡ named n
    → (get_or s (place + 1) 0 * 256 + get_or s (place + 1 + 1) 0 ≡ n) × (size f ≡ 3)
unfolding write_rest rest_size
name_here {s} {place} f here {n} e =
    let two : Stands s (place + 1) (two_bytes n) = rw e at (stands_tail (rw (write_parts f) at here)) in
    let high : get_or s (place + 1) 0 ≡ n / 256 = stands_head two in
    let low : get_or s (place + 1 + 1) 0 ≡ n % 256 = stands_head (stands_tail two) in
    (omega (arith, div-add-mod' n 256), size_parts f ∙ ap (λ (r : Rest). suc (rest_size r)) e)

-- ---- the tags

module _ {m : List ℕ} {x : ℕ} (how : How) {s : List ℕ} {place : ℕ} (c : Comparing m x s place)
    {tag t byte : ℕ} (tag_is : Field m x 0 tag) (t_is : t ≡ sign_of tag how) (byte_is : byte ≡ get_or s place 0) where
  sign_told : tag_of (read_as how (told m x)) ≡ t
  sign_told = read_tag how (told m x) ∙ ap (λ (n : ℕ). sign_of n how) (told_tag c.wf c.low ∙ sym tag_is.value) ∙ sym t_is

  rest_told : {r r' : Rest} → rest_of (told m x) ≡ r → rest_as how (at m x 0) r ≡ r' → rest_of (read_as how (told m x)) ≡ r'
  rest_told e k = read_rest how (told m x) ∙ ap₂ (rest_as how) (told_tag c.wf c.low) e ∙ k

  pub tops_other : (byte ≡ t → ⊥) → TopsAre m x how s place (Told None)
  unfolding matched
  tops_other h = record {
    inside = tt;
    below = tt;
    right = λ f here. rw (other_tags f (read_as how (told m x)) λ e. h (byte_is ∙ tag_stands f here ∙ e ∙ sign_told));
  }

  module _ (alike : byte ≡ t) where
    tag_here : (f : Formula) → Stands s place (write_formula f) → tag_of f ≡ t
    tag_here f here = sym (tag_stands f here) ∙ sym byte_is ∙ alike

    tags_alike : (f : Formula) → Stands s place (write_formula f) → tag_of f ≡ tag_of (read_as how (told m x))
    tags_alike f here = tag_here f here ∙ sym sign_told

    pub tops_unit : t < 4 → {next : ℕ} → next ≡ min (place + 1) (length s) → TopsAre m x how s place (Told (Some next))
    unfolding matched rest_size rest_as
    tops_unit small {next} next_is = record {
      inside = omega arith;
      below = tt;
      right = λ f here.
          let r : rest_of f ≡ unit = unit_follows (rest_of f) (follows f) (rw (tag_here f here) small) in
          let z : size f ≡ 1 = size_parts f ∙ ap (λ (r : Rest). suc (rest_size r)) r in
          let e : next ≡ place + size f = omega (arith, ends_inside f here) in
          rw (same_units f (read_as how (told m x)) (tags_alike f here) r (rest_told (unit_held c.wf c.low how sign_told small) refl)) (ap Some e);
    }

    module _ (low : 4 ≤ t) (high : t < 6) {after two name : ℕ} (after_is : after ≡ min (place + 1) (length s))
        (two_is : two ≡ get_or s after 0 * 256 + get_or s (after + 1) 0) (name_is : Field m x 1 name) where
      name_of_f : (f : Formula) → Stands s place (write_formula f) → (rest_of f ≡ named two) × (size f ≡ 3)
      name_of_f f here =
          let n = name_follows (rest_of f) (follows f) (rw (tag_here f here) low) (rw (tag_here f here) high) in
          let p = name_here f here n.1 in
          let next : after ≡ place + 1 = omega (arith, ends_inside f here) in
          (n.1 ∙ ap named (sym (two_is ∙ ap (λ (j : ℕ). get_or s j 0 * 256 + get_or s (j + 1) 0) next ∙ p.0)), p.1)

      name_told : rest_of (read_as how (told m x)) ≡ named name
      unfolding rest_as
      name_told = rest_told (name_held c.wf c.low how sign_told low high) refl ∙ ap named (sym name_is.value)

      pub tops_names_other : (two ≡ name → ⊥) → TopsAre m x how s place (Told None)
      unfolding matched
      tops_names_other h = record {
        inside = tt;
        below = tt;
        right = λ f here. rw (same_names f (read_as how (told m x)) (tags_alike f here) (name_of_f f here).0 name_told, ne_eqb two name h);
      }

      pub tops_names : two ≡ name → {next : ℕ} → next ≡ min (place + 3) (length s) → TopsAre m x how s place (Told (Some next))
      unfolding matched
      tops_names h {next} next_is = record {
        inside = omega arith;
        below = tt;
        right = λ f here.
            let e : next ≡ place + size f = omega (arith, (name_of_f f here).1, ends_inside f here) in
            rw (same_names f (read_as how (told m x)) (tags_alike f here) (name_of_f f here).0 name_told, eq-eqb two name h) (ap Some e);
      }

    pub tops_two : 6 ≤ t → t < 11 → TopsAre m x how s place Two
    unfolding rest_as
    tops_two low high =
        let held = two_held c.wf c.low how sign_told low high in
        record {
          inside = tt;
          below = held.1;
          right = λ f here.
              let n = two_follow (rest_of f) (follows f) (rw (tag_here f here) low) (rw (tag_here f here) high) in
              record {
                left = n.0;
                right = n.1;
                of_f = n.2;
                both = same_twos f (read_as how (told m x)) (tags_alike f here) n.2 (rest_told held.0 refl);
              };
        }

    pub tops_one : 11 ≤ t → TopsAre m x how s place One
    unfolding rest_as
    tops_one low =
        let held = one_held c.wf c.low how sign_told low in
        record {
          inside = tt;
          below = held.1;
          right = λ f here.
              let n = one_follows (rest_of f) (follows f) (rw (tag_here f here) low) in
              record {
                part = n.0;
                of_f = n.1;
                both = same_ones f (read_as how (told m x)) (tags_alike f here) n.1 (rest_told held.0 refl);
              };
        }

-- ---- the comparison

elsewhere : {r : Option ℕ} {b b' : Bool} {p p' : ℕ} → r ≡ matched b p → b ≡ b' → p ≡ p' → r ≡ matched b' p'
elsewhere e h k = cc

-- the left parts differ: so do the wholes
not_both : {r : Option ℕ} (a b : Bool) (p p' : ℕ) → r ≡ matched a p → r ≡ None → r ≡ matched (a && b) p'
unfolding matched
not_both true b p p' e k = let z : ◌≡◌ {A = ℕ} 0 1 = cc in absurd (omega arith)
not_both false b p p' e k = k

-- a comparison that says yes, and where it ends; and one that says no
pub matched_same : {r : Option ℕ} (a : Bool) (p : ℕ) {next : ℕ} → r ≡ matched a p → r ≡ Some next → (a ≡ true) × (next ≡ p)
unfolding matched
matched_same true p e k = (refl, cc)
matched_same false p e k = let z : ◌≡◌ {A = ℕ} 0 1 = cc in absurd (omega arith)

pub matched_different : {r : Option ℕ} (a : Bool) (p : ℕ) → r ≡ matched a p → r ≡ None → a ≡ false
unfolding matched
matched_different true p e k = let z : ◌≡◌ {A = ℕ} 0 1 = cc in absurd (omega arith)
matched_different false p e k = refl

module _ {m : List ℕ} {x : ℕ} {how : How} {s : List ℕ} {place : ℕ} where
  pub match_told : {t : Tops} {r : Option ℕ} → TopsAre m x how s place t → t ≡ Told r → Matches m x how s place r
  match_told tops e = let tops = rw e at tops in record { inside = tops.inside; right = tops.right }

  pub one_falls : {t : Tops} → TopsAre m x how s place t → t ≡ One → at m x 1 < x
  one_falls tops e = rw e at tops.below

  pub two_fall : {t : Tops} → TopsAre m x how s place t → t ≡ Two → (at m x 1 < x) × (at m x 2 < x)
  two_fall tops e = rw e at tops.below

  -- the left part, or the only one, compared behind the tag
  module _ {t : Tops} {tag a after : ℕ} {how' : How} {r : Option ℕ} (tops : TopsAre m x how s place t)
      (tag_is : Field m x 0 tag) (a_is : Field m x 1 a) (how_is : how' ≡ left_how tag how) (after_is : after ≡ min (place + 1) (length s)) (lefts : Matches m a how' s after r) where
    after_tag : (f : Formula) → Stands s place (write_formula f) → after ≡ place + 1
    after_tag f here = omega (arith, ends_inside f here, size_positive f)

    left_read : read_as (left_how (at m x 0) how) (told m (at m x 1)) ≡ read_as how' (told m a)
    left_read = ap₂ read_as (ap (λ (n : ℕ). left_how n how) (sym tag_is.value) ∙ sym how_is) (ap (told m) (sym a_is.value))

    one_right : (f : Formula) → Stands s place (write_formula f) → OnePart m x how s place f → r ≡ matched (same f (read_as how (told m x))) (place + size f)
    one_right f here one =
        let p = one_here f here one.of_f in
        elsewhere
        (lefts.right one.part (rw (after_tag f here) p.0))
        (sym (one.both ∙ ap (same one.part) left_read))
        (omega (arith, after_tag f here, p.1))

    pub match_one : t ≡ One → Matches m x how s place r
    match_one e = record { inside = lefts.inside; right = λ f here. one_right f here (rw e at (tops.right f here)) }

    module _ (f : Formula) (here : Stands s place (write_formula f)) (two : TwoParts m x how s place f) where
      left_same : r ≡ matched (same two.left (read_as how' (told m a))) (after + size two.left)
      left_same = lefts.right two.left (rw (after_tag f here) (two_here f here two.of_f).0)

      both_same : same f (read_as how (told m x)) ≡ same two.left (read_as how' (told m a)) && same two.right (read_as (right_how how) (told m (at m x 2)))
      both_same = two.both ∙ ap (λ g. same two.left g && same two.right (read_as (right_how how) (told m (at m x 2)))) left_read

      other_right : r ≡ None → r ≡ matched (same f (read_as how (told m x))) (place + size f)
      other_right e = rw both_same (not_both _ _ _ _ left_same e)

      two_right : {next b : ℕ} {how'' : How} {r' : Option ℕ} → r ≡ Some next → Field m x 2 b → how'' ≡ right_how how → Matches m b how'' s next r'
          → r' ≡ matched (same f (read_as how (told m x))) (place + size f)
      two_right {next} {b} {how''} e b_is right_is rights =
          let l = matched_same _ _ left_same e in
          let p = two_here f here two.of_f in
          let there : next ≡ place + 1 + size two.left = omega (arith, l.1, after_tag f here) in
          let reads : read_as (right_how how) (told m (at m x 2)) ≡ read_as how'' (told m b) = ap₂ read_as (sym right_is) (ap (told m) (sym b_is.value)) in
          elsewhere
          (rights.right two.right (rw there p.1))
          (sym (both_same ∙ ap₂ ◌&&◌ l.0 (ap (same two.right) reads)))
          (omega (arith, there, p.2))

    pub match_left : t ≡ Two → r ≡ None → Matches m x how s place r
    match_left e d = record { inside = lefts.inside; right = λ f here. other_right f here (rw e at (tops.right f here)) d }

    pub match_two : t ≡ Two → {next b : ℕ} {how'' : How} {r' : Option ℕ} → r ≡ Some next → Field m x 2 b → how'' ≡ right_how how → Matches m b how'' s next r'
        → Matches m x how s place r'
    match_two e k b_is right_is rights = record { inside = rights.inside; right = λ f here. two_right f here (rw e at (tops.right f here)) k b_is right_is rights }

  -- the place after the formula lies in the message
  pub next_inside : {r : Option ℕ} {next : ℕ} → Matches m x how s place r → r ≡ Some next → next ≤ length s
  next_inside c e = rw e at c.inside

  -- what the answer tells of the formula that stands there
  pub matches_tells : {r : Option ℕ} {f : Formula} → Matches m x how s place r → Stands s place (write_formula f) → MatchTells m x how place f r
  matches_tells {r} {f} c here = record {
    same_formula = λ e. (same_iff f (read_as how (told m x))).0 (matched_same _ _ (c.right f here) e).0;
    next_place = λ e. (matched_same _ _ (c.right f here) e).1;
    other_formula = λ e. same_false f (read_as how (told m x)) (matched_different _ _ (c.right f here) e);
  }
