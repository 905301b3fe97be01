-- Two formulas of a message compared: what their tags tell, and how the comparison of their parts is that of the whole. Assumes nothing.
use Rattle.std.proofs.Math.Path.{◌≡◌, refl, sym, ap}
use Rattle.std.proofs.Common.{ap₂, ◌∙◌, ne_eqb, eq-eqb}
use Rattle.std.specs.Prelude.{Bool, ◌&&◌, Option, Some, None, List, ◌++◌, length}
use Rattle.std.specs.Option.{is_some}
use mir.Val.{bool_byte}
use Rattle.std.proofs.Math.Bool.{true, false}
use Prim.Native.Nat.{ℕ, suc, ◌+◌, ◌-◌, ◌*◌, ◌/◌, ◌%◌, ◌≤◌, ◌<◌, max, min}
use native.Mathlib.Omega.{arith}
use Rattle.std.proofs.Math.Nat.{div-add-mod'}
use Rattle.std.proofs.Math.ListN.{get_or}
use Rattle.logic.specs.Formula.{Formula, same, size, height}
use Rattle.logic.proofs.FormulaLaws.{height_positive}
use Rattle.logic.specs.Parts.{tag_of}
use Rattle.logic.specs.Legal.{as_number}
use Rattle.wire.specs.Write.{two_bytes, write_formula}
use Rattle.wire.proofs.FormulaBytes.{length_write}
use Rattle.wire.specs.Read.{highest_formula}
use Rattle.tree.specs.Stands.{Stands}
use Rattle.tree.specs.StandsLaws.{stands_left, stands_right, stands_head, stands_tail}
use Rattle.tree.specs.FormulaPlaces.{tag_stands}
use Rattle.bags.specs.Reading.{read_as, Rest, unit, named, binary, unary, rest_of, write_rest, rest_size, rest_height, sign_of, left_how, right_how, rest_as}
use Rattle.bags.specs.ReadingLaws.{write_parts, size_parts, height_parts, read_tag, read_rest, read_follows, unit_follows, name_follows, two_follow, one_follows, other_tags, same_units, same_names, same_ones, same_twos}
use Rattle.bags.specs.Compared.{read_at, compared, SignOf, LeftOf, RightOf, Names, OnePart, TwoParts, TopsAre, Compares, Once}
use Rattle.bags.specs.declared.Place.{Place}
use Rattle.bags.specs.declared.Tops.{Tops}
use Rattle.bags.specs.declared.Tops.TheVariants.{Told, One, Two}

-- ---- what stands behind a tag

module _ {s : List ℕ} {at : ℕ} (f : Formula) (here : Stands s at (write_formula f)) where
  pub ends_inside : at + size f ≤ length s
  ends_inside = omega (arith, here.inside, length_write f)

  rest_here : Stands s (at + 1) (write_rest (rest_of f))
  rest_here = stands_tail (rw (write_parts f) at here)

  name_here : {n : ℕ} → rest_of f ≡ named n → (get_or s (at + 1) 0 * 256 + get_or s (at + 1 + 1) 0 ≡ n) × (size f ≡ 3)
  unfolding write_rest rest_size
  name_here {n} e =
      let two : Stands s (at + 1) (two_bytes n) = rw e at rest_here in
      let high : get_or s (at + 1) 0 ≡ n / 256 = stands_head two in
      let low : get_or s (at + 1 + 1) 0 ≡ n % 256 = stands_head (stands_tail two) in
      (omega (arith, div-add-mod' n 256), size_parts f ∙ ap (λ (r : Rest). suc (rest_size r)) e)

  pub one_here : {a : Formula} → rest_of f ≡ unary a → Stands s (at + 1) (write_formula a) × (size f ≡ suc (size a)) × (height f ≡ suc (height a))
  unfolding write_rest rest_size rest_height
  one_here e = (rw e at rest_here, size_parts f ∙ ap (λ (r : Rest). suc (rest_size r)) e, height_parts f ∙ ap (λ (r : Rest). suc (rest_height r)) e)

  pub two_here : {a b : Formula} → rest_of f ≡ binary a b → Stands s (at + 1) (write_formula a) × Stands s (at + 1 + size a) (write_formula b) × (size f ≡ suc (size a + size b)) × (height f ≡ suc (max (height a) (height b)))
  unfolding write_rest rest_size rest_height
  two_here {a} {b} e =
      let both : Stands s (at + 1) (write_formula a ++ write_formula b) = rw e at rest_here in (
        stands_left (write_formula a) (write_formula b) both,
        rw (← length_write a) (stands_right (write_formula a) (write_formula b) both),
        size_parts f ∙ ap (λ (r : Rest). suc (rest_size r)) e,
        height_parts f ∙ ap (λ (r : Rest). suc (rest_height r)) e,
      )

-- ---- the tags

module _ (s : List ℕ) (x : Place) where
  pub sign_is : {byte r : ℕ} → byte ≡ get_or s x.at 0 → r ≡ sign_of byte x.how → SignOf s x r
  sign_is e k = record { is = λ f here. k ∙ ap (λ (t : ℕ). sign_of t x.how) (e ∙ tag_stands f here) ∙ sym (read_tag x.how f) }

  pub left_is : {r : Place} {byte : ℕ} → r.at ≡ min (x.at + 1) (length s) → byte ≡ get_or s x.at 0 → r.how ≡ left_how byte x.how → LeftOf s x r
  left_is a b h = record { at_is = a; how_is = h ∙ ap (λ (t : ℕ). left_how t x.how) b }

module _ (s : List ℕ) (a b : ℕ) (a_inside : a ≤ length s) (b_inside : b ≤ length s) where
  module _ {a₁ b₁ m n : ℕ} (a₁_is : a₁ ≡ min (a + 1) (length s)) (b₁_is : b₁ ≡ min (b + 1) (length s)) (m_is : m ≡ get_or s a₁ 0 * 256 + get_or s (a₁ + 1) 0) (n_is : n ≡ get_or s b₁ 0 * 256 + get_or s (b₁ + 1) 0) where
    two_is : (at at₁ k : ℕ) → at₁ ≡ min (at + 1) (length s) → k ≡ get_or s at₁ 0 * 256 + get_or s (at₁ + 1) 0 → (f : Formula) (i : ℕ) → Stands s at (write_formula f) → rest_of f ≡ named i → k ≡ i
    two_is at at₁ k e d f i here r =
        let p = name_here f here r in
        let next : at₁ ≡ at + 1 = omega (arith, ends_inside f here) in
        d ∙ ap (λ (j : ℕ). get_or s j 0 * 256 + get_or s (j + 1) 0) next ∙ p.0

    pub names_other : (m ≡ n → ⊥) → Names s a b None
    unfolding compared
    names_other h = record {
      inside = tt;
      right = λ f g i j fs gs fr gr.
          rw (ne_eqb i j (λ e. h (two_is a a₁ m a₁_is m_is f i fs fr ∙ e ∙ sym (two_is b b₁ n b₁_is n_is g j gs gr))));
    }

    pub names_alike : m ≡ n → {a₃ b₃ : ℕ} → a₃ ≡ min (a + 3) (length s) → b₃ ≡ min (b + 3) (length s) → Names s a b (Some (a₃, b₃))
    unfolding compared
    names_alike h {a₃} {b₃} ea eb = record {
      inside = (omega arith, omega arith);
      right = λ f g i j fs gs fr gr.
          let e : a₃ ≡ a + size f = omega (arith, (name_here f fs fr).1, ends_inside f fs) in
          let e' : b₃ ≡ b + size g = omega (arith, (name_here g gs gr).1, ends_inside g gs) in
          rw (eq-eqb i j (sym (two_is a a₁ m a₁_is m_is f i fs fr) ∙ h ∙ two_is b b₁ n b₁_is n_is g j gs gr)) (ap₂ (λ (i j : ℕ). Some (i, j)) e e');
    }

module _ (s : List ℕ) (x y : Place) {t u : ℕ} (sign_x : SignOf s x t) (sign_y : SignOf s y u) where
  pub tops_other : (t ≡ u → ⊥) → TopsAre s x y (Told None)
  unfolding compared
  tops_other h = record {
    inside = tt;
    right = λ f g fs gs. rw (other_tags (read_at x f) (read_at y g) λ e. h (sign_x.is f fs ∙ e ∙ sym (sign_y.is g gs)));
  }

  module _ (alike : t ≡ u) where
    tags_alike : (f g : Formula) → Stands s x.at (write_formula f) → Stands s y.at (write_formula g) → tag_of (read_at x f) ≡ tag_of (read_at y g)
    tags_alike f g fs gs = sym (sign_x.is f fs) ∙ alike ∙ sign_y.is g gs

    module _ (f : Formula) where
      rest_x : {r r' : Rest} → rest_of f ≡ r → rest_as x.how (tag_of f) r ≡ r' → rest_of (read_at x f) ≡ r'
      rest_x e k = read_rest x.how f ∙ ap (rest_as x.how (tag_of f)) e ∙ k

      rest_y : {r r' : Rest} → rest_of f ≡ r → rest_as y.how (tag_of f) r ≡ r' → rest_of (read_at y f) ≡ r'
      rest_y e k = read_rest y.how f ∙ ap (rest_as y.how (tag_of f)) e ∙ k

    pub tops_unit : t < 4 → {a b : ℕ} → a ≡ min (x.at + 1) (length s) → b ≡ min (y.at + 1) (length s) → TopsAre s x y (Told (Some (a, b)))
    unfolding compared rest_size rest_as
    tops_unit small {a} {b} a_is b_is = record {
      inside = (omega arith, omega arith);
      right = λ f g fs gs.
          let ft : t ≡ tag_of (read_at x f) = sign_x.is f fs in
          let gt : u ≡ tag_of (read_at y g) = sign_y.is g gs in
          let fr : rest_of f ≡ unit = unit_follows (rest_of f) (read_follows x.how f) (rw (← ft) small) in
          let gr : rest_of g ≡ unit = unit_follows (rest_of g) (read_follows y.how g) (rw (← gt, ← alike) small) in
          let fz : size f ≡ 1 = size_parts f ∙ ap (λ (r : Rest). suc (rest_size r)) fr in
          let gz : size g ≡ 1 = size_parts g ∙ ap (λ (r : Rest). suc (rest_size r)) gr in
          let e : a ≡ x.at + size f = omega (arith, ends_inside f fs) in
          let e' : b ≡ y.at + size g = omega (arith, ends_inside g gs) in
          rw (same_units (read_at x f) (read_at y g) (tags_alike f g fs gs) (rest_x f fr refl) (rest_y g gr refl)) (ap₂ (λ (i j : ℕ). Some (i, j)) e e');
    }

    pub tops_name : 4 ≤ t → t < 6 → {r : Option (ℕ × ℕ)} → Names s x.at y.at r → TopsAre s x y (Told r)
    unfolding rest_as
    tops_name low high {r} names = record {
      inside = names.inside;
      right = λ f g fs gs.
          let ft : t ≡ tag_of (read_at x f) = sign_x.is f fs in
          let gt : t ≡ tag_of (read_at y g) = alike ∙ sign_y.is g gs in
          let fn = name_follows (rest_of f) (read_follows x.how f) (rw (← ft) low) (rw (← ft) high) in
          let gn = name_follows (rest_of g) (read_follows y.how g) (rw (← gt) low) (rw (← gt) high) in
          rw (same_names (read_at x f) (read_at y g) (tags_alike f g fs gs) (rest_x f fn.1 refl) (rest_y g gn.1 refl))
          (names.right f g fn.0 gn.0 fs gs fn.1 gn.1);
    }

    pub tops_two : 6 ≤ t → t < 11 → TopsAre s x y Two
    unfolding rest_as
    tops_two low high = record {
      inside = tt;
      right = λ f g fs gs.
          let ft : t ≡ tag_of (read_at x f) = sign_x.is f fs in
          let gt : t ≡ tag_of (read_at y g) = alike ∙ sign_y.is g gs in
          let fn = two_follow (rest_of f) (read_follows x.how f) (rw (← ft) low) (rw (← ft) high) in
          let gn = two_follow (rest_of g) (read_follows y.how g) (rw (← gt) low) (rw (← gt) high) in
          record {
            a = fn.0;
            a' = fn.1;
            b = gn.0;
            b' = gn.1;
            of_f = fn.2;
            of_g = gn.2;
            both = same_twos (read_at x f) (read_at y g) (tags_alike f g fs gs) (rest_x f fn.2 refl) (rest_y g gn.2 refl);
          };
    }

    pub tops_one : 11 ≤ t → TopsAre s x y One
    unfolding rest_as
    tops_one low = record {
      inside = tt;
      right = λ f g fs gs.
          let ft : t ≡ tag_of (read_at x f) = sign_x.is f fs in
          let gt : t ≡ tag_of (read_at y g) = alike ∙ sign_y.is g gs in
          let fn = one_follows (rest_of f) (read_follows x.how f) (rw (← ft) low) in
          let gn = one_follows (rest_of g) (read_follows y.how g) (rw (← gt) low) in
          record {
            a = fn.0;
            b = gn.0;
            of_f = fn.1;
            of_g = gn.1;
            both = same_ones (read_at x f) (read_at y g) (tags_alike f g fs gs) (rest_x f fn.1 refl) (rest_y g gn.1 refl);
          };
    }

-- ---- the comparison

elsewhere : {r : Option (ℕ × ℕ)} {b b' : Bool} {p p' q q' : ℕ} → r ≡ compared b p q → b ≡ b' → p ≡ p' → q ≡ q' → r ≡ compared b' p' q'
elsewhere e h k l = cc

-- the left parts differ: so do the wholes
not_both : {r : Option (ℕ × ℕ)} (a b : Bool) (p p' q q' : ℕ) → r ≡ compared a p q → r ≡ None → r ≡ compared (a && b) p' q'
unfolding compared
not_both true b p p' q q' e k = let z : ◌≡◌ {A = ℕ} 0 1 = cc in absurd (omega arith)
not_both false b p p' q q' e k = k

-- the left parts are the same, and end at p and q
both_left : {r : Option (ℕ × ℕ)} (a : Bool) (p q : ℕ) {p' q' : ℕ} → r ≡ compared a p q → r ≡ Some (p', q') → (a ≡ true) × (p' ≡ p) × (q' ≡ q)
unfolding compared
both_left true p q {p'} {q'} e k =
    let z : ◌≡◌ {A = ℕ × ℕ} (p', q') (p, q) = cc in (refl, ap (λ (z : ℕ × ℕ). z.0) z, ap (λ (z : ℕ × ℕ). z.1) z)
both_left false p q e k = let z : ◌≡◌ {A = ℕ} 0 1 = cc in absurd (omega arith)

module _ (s : List ℕ) (z : Place) (f : Formula) (here : Stands s z.at (write_formula f)) {z' : Place} (left : LeftOf s z z') where
  left_at : z'.at ≡ z.at + 1
  left_at = left.at_is ∙ omega (arith, ends_inside f here, size_parts f)

  left_read : (a : Formula) → read_as (left_how (tag_of f) z.how) a ≡ read_at z' a
  left_read a = ap (λ h. read_as h a) (sym (left.how_is ∙ ap (λ (n : ℕ). left_how n z.how) (tag_stands f here)))

  -- the only part, and the left part of two
  one_at : {a : Formula} → rest_of f ≡ unary a → Stands s z'.at (write_formula a) × (z'.at + size a ≡ z.at + size f)
  one_at {a} e = let p = one_here f here e in (rw left_at p.0, omega (arith, left_at, p.1))

  first_at : {a b : Formula} → rest_of f ≡ binary a b → Stands s z'.at (write_formula a)
  first_at e = rw left_at (two_here f here e).0

  second_at : {a b : Formula} → rest_of f ≡ binary a b → Stands s (z'.at + size a) (write_formula b) × (z'.at + size a + size b ≡ z.at + size f)
  second_at {a} {b} e = let p = two_here f here e in (rw left_at p.1, omega (arith, left_at, p.2))

module _ (s : List ℕ) (x y : Place) where
  pub compare_none : Compares s x y 0 None
  compare_none = record { inside = tt; right = λ f g fs gs fh gh. absurd (omega (arith, height_positive f)) }

  pub compare_told : {levels : ℕ} {t : Tops} {r : Option (ℕ × ℕ)} → TopsAre s x y t → t ≡ Told r → Compares s x y levels r
  compare_told tops e = let tops = rw e at tops in record { inside = tops.inside; right = λ f g fs gs fh gh. tops.right f g fs gs }

  module _ {levels : ℕ} {t : Tops} {x' y' : Place} {r : Option (ℕ × ℕ)} (tops : TopsAre s x y t) (some : 0 < levels) (left_x : LeftOf s x x') (left_y : LeftOf s y y') (lefts : Compares s x' y' (levels - 1) r) where
    lefts_same : (f g a b : Formula) → Stands s x.at (write_formula f) → Stands s y.at (write_formula g) → same (read_as (left_how (tag_of f) x.how) a) (read_as (left_how (tag_of g) y.how) b) ≡ same (read_at x' a) (read_at y' b)
    lefts_same f g a b fs gs = ap₂ same (left_read s x f fs left_x a) (left_read s y g gs left_y b)

    one_right : (f g : Formula) → Stands s x.at (write_formula f) → Stands s y.at (write_formula g) → height f ≤ levels → height g ≤ levels → OnePart s x y f g → r ≡ compared (same (read_at x f) (read_at y g)) (x.at + size f) (y.at + size g)
    one_right f g fs gs fh gh one =
        let a_at = one_at s x f fs left_x one.of_f in
        let b_at = one_at s y g gs left_y one.of_g in
        elsewhere
        (lefts.right one.a one.b a_at.0 b_at.0 (omega (arith, (one_here f fs one.of_f).2)) (omega (arith, (one_here g gs one.of_g).2)))
        (sym (one.both ∙ lefts_same f g one.a one.b fs gs))
        a_at.1
        b_at.1

    pub compare_one : t ≡ One → Compares s x y levels r
    compare_one e = record { inside = lefts.inside; right = λ f g fs gs fh gh. one_right f g fs gs fh gh (rw e at (tops.right f g fs gs)) }

    module _ (f g : Formula) (fs : Stands s x.at (write_formula f)) (gs : Stands s y.at (write_formula g)) (fh : height f ≤ levels) (gh : height g ≤ levels) (two : TwoParts s x y f g) where
      left_same : r ≡ compared (same (read_at x' two.a) (read_at y' two.b)) (x'.at + size two.a) (y'.at + size two.b)
      left_same =
          lefts.right two.a two.b (first_at s x f fs left_x two.of_f) (first_at s y g gs left_y two.of_g)
          (omega (arith, (two_here f fs two.of_f).3))
          (omega (arith, (two_here g gs two.of_g).3))

      both_same : same (read_at x f) (read_at y g) ≡ same (read_at x' two.a) (read_at y' two.b) && same (read_as (right_how x.how) two.a') (read_as (right_how y.how) two.b')
      both_same = two.both ∙ ap (λ b. b && same (read_as (right_how x.how) two.a') (read_as (right_how y.how) two.b')) (lefts_same f g two.a two.b fs gs)

      other_right : r ≡ None → r ≡ compared (same (read_at x f) (read_at y g)) (x.at + size f) (y.at + size g)
      other_right e = rw both_same (not_both _ _ _ _ _ _ left_same e)

      two_right : {a b : ℕ} {x'' y'' : Place} {r' : Option (ℕ × ℕ)} → r ≡ Some (a, b) → RightOf x a x'' → RightOf y b y'' → Compares s x'' y'' (levels - 1) r' → r' ≡ compared (same (read_at x f) (read_at y g)) (x.at + size f) (y.at + size g)
      two_right {x'' = x''} {y'' = y''} e right_x right_y rights =
          let l = both_left _ _ _ left_same e in
          let fp = second_at s x f fs left_x two.of_f in
          let gp = second_at s y g gs left_y two.of_g in
          let ax : x''.at ≡ x'.at + size two.a = right_x.at_is ∙ l.1 in
          let ay : y''.at ≡ y'.at + size two.b = right_y.at_is ∙ l.2 in
          let both : same (read_at x f) (read_at y g) ≡ same (read_as (right_how x.how) two.a') (read_as (right_how y.how) two.b') = both_same ∙ ap (λ b. b && same (read_as (right_how x.how) two.a') (read_as (right_how y.how) two.b')) l.0 in
          elsewhere
          (rights.right two.a' two.b' (rw ax fp.0) (rw ay gp.0) (omega (arith, (two_here f fs two.of_f).3)) (omega (arith, (two_here g gs two.of_g).3)))
          (sym (both ∙ ap₂ same (ap (λ h. read_as h two.a') (sym right_x.how_is)) (ap (λ h. read_as h two.b') (sym right_y.how_is))))
          (omega (arith, fp.1))
          (omega (arith, gp.1))

    pub compare_left : t ≡ Two → r ≡ None → Compares s x y levels r
    compare_left e d = record { inside = lefts.inside; right = λ f g fs gs fh gh. other_right f g fs gs fh gh (rw e at (tops.right f g fs gs)) d }

    pub compare_two : t ≡ Two → {a b : ℕ} {x'' y'' : Place} {r' : Option (ℕ × ℕ)} → r ≡ Some (a, b) → RightOf x a x'' → RightOf y b y'' → Compares s x'' y'' (levels - 1) r' → Compares s x y levels r'
    compare_two e k right_x right_y rights =
        record { inside = rights.inside; right = λ f g fs gs fh gh. two_right f g fs gs fh gh (rw e at (tops.right f g fs gs)) k right_x right_y rights }

-- the places after both are inside
pub after_inside : {s : List ℕ} {x y z w z' w' : Place} {levels : ℕ} {r : Option (ℕ × ℕ)} {a b : ℕ} → Compares s x y levels r → r ≡ Some (a, b) → RightOf z a z' → RightOf w b w' → (z'.at ≤ length s) × (w'.at ≤ length s)
after_inside c e right_z right_w = let c = rw e at c in (rw right_z.at_is c.inside.0, rw right_w.at_is c.inside.1)

module _ (s : List ℕ) (x y : Place) {r : Option (ℕ × ℕ)} (c : Compares s x y highest_formula r) where
  as_numbered : (b : Bool) (p q : ℕ) {p' q' : ℕ} → r ≡ compared b p q → r ≡ Some (p', q') → 1 ≡ as_number b
  unfolding compared
  as_numbered true p q e k = refl
  as_numbered false p q e k = let z : ◌≡◌ {A = ℕ} 0 1 = cc in absurd (omega arith)

  as_none : (b : Bool) (p q : ℕ) → r ≡ compared b p q → r ≡ None → 0 ≡ as_number b
  unfolding compared
  as_none true p q e k = let z : ◌≡◌ {A = ℕ} 0 1 = cc in absurd (omega arith)
  as_none false p q e k = refl

  pub once_same : {p q : ℕ} → r ≡ Some (p, q) → Once s x y 1
  once_same e = record { small = omega arith; right = λ f g fs gs. as_numbered _ _ _ (c.right f g fs.stands gs.stands fs.fits.height_fits gs.fits.height_fits) e }

  pub once_other : r ≡ None → Once s x y 0
  once_other e = record { small = omega arith; right = λ f g fs gs. as_none _ _ _ (c.right f g fs.stands gs.stands fs.fits.height_fits gs.fits.height_fits) e }

  pub once_told : {n : ℕ} → n ≡ bool_byte (is_some r) → Once s x y n
  once_told {n} k = go r refl k
    where
      go : (o : Option (ℕ × ℕ)) → r ≡ o → n ≡ bool_byte (is_some o) → Once s x y n
      go (Some p) e k = rw k (once_same e)
      go None e k = rw k (once_other e)
