-- Laws of a formula that stands in bytes: its sign by the tag's form, and its parts entered one after another. Assumes nothing.
use Rattle.std.specs.Prelude.{◌≡◌, refl, List, ℕ, ◌+◌, ◌*◌, ◌≤◌, ◌<◌, length, get_or, None, Option, Some}
use Rattle.std.proofs.Common.{sym, ap, ◌∙◌, inl, inr, arith}
use Rattle.logic.specs.Formula.{Formula}
use Rattle.wire.specs.Read.{Sign, unit, named, binary, unary, signs}
use Rattle.wire.specs.Gives.{AllAt, ◌&◌}
use Rattle.formula.specs.Reading.{form_of}
use Rattle.formula.specs.Signs.{Stands}
use Rattle.formula.specs.SignsLaws.{all_at, shaped}
use Rattle.formula.specs.declared.Form.TheVariants.{Unit, Named, Binary, Unary, Unknown}
use Rattle.logic.specs.Parts as parts
use Rattle.held.specs.Answers.{Stored, NoRoom, AddedTo}
use Rattle.enter.specs.Standing.{SignOf}
use Rattle.enter.specs.declared.Sign.TheVariants as sign

-- document 01's table of tags is the one that the held formulas are made by
abbrev Makes : ℕ → Sign → Type 0
Makes t (unit f) = (t < 4) × ((n : ℕ) (x y : Formula) → parts.make t n x y ≡ f)
Makes t (named make) = ((4 ≤ t) × (t < 6)) × ((n : ℕ) (x y : Formula) → parts.make t n x y ≡ make n)
Makes t (binary make) = ((6 ≤ t) × (t < 11)) × ((n : ℕ) (x y : Formula) → parts.make t n x y ≡ make x y)
Makes t (unary make) = ((11 ≤ t) × (t < 13)) × ((n : ℕ) (x y : Formula) → parts.make t n x y ≡ make x)

signs_make : AllAt Makes signs
unfolding parts.make parts.signs
signs_make =
    (omega arith, λ n x y. refl)
    & (omega arith, λ n x y. refl)
    & (omega arith, λ n x y. refl)
    & (omega arith, λ n x y. refl)
    & (omega arith, λ n x y. refl)
    & (omega arith, λ n x y. refl)
    & (omega arith, λ n x y. refl)
    & (omega arith, λ n x y. refl)
    & (omega arith, λ n x y. refl)
    & (omega arith, λ n x y. refl)
    & (omega arith, λ n x y. refl)
    & (omega arith, λ n x y. refl)
    & (omega arith, λ n x y. refl)
    & tt

module _ (s : List ℕ) (at t : ℕ) (tag : t ≡ get_or s at 0) where
  pub unit_sign : form_of (get_or s at 0) ≡ Unit → SignOf s at (sign.Leaf t 0 (at + 1))
  unit_sign e f stands =
      let u = shaped s at f stands e in
      let w = all_at Makes signs signs_make (get_or s at 0) (unit f) u.sign in
      record { made = λ x y. rw tag (w.1 0 x y); kind = inl (omega (arith, w.0), refl); after = omega (arith, u.wide) }

  pub name_sign : (n : ℕ) → n ≡ get_or s (at + 1) 0 * 256 + get_or s (at + 1 + 1) 0 → n < 65536 → form_of (get_or s at 0) ≡ Named → SignOf s at (sign.Leaf t n (at + 3))
  name_sign n p l e f stands =
      let u = shaped s at f stands e in
      let w = all_at Makes signs signs_make (get_or s at 0) (named u.make) u.sign in
      let two : at + 1 + 1 ≡ at + 2 = omega arith in
      let q : n ≡ u.name = omega (arith, u.high, u.low, ap (λ k. get_or s k 0) two) in
      record { made = λ x y. rw tag (w.1 n x y) ∙ (ap u.make q ∙ sym u.same); kind = inr (omega (arith, w.0), l); after = omega (arith, u.wide) }

  pub pair_sign : form_of (get_or s at 0) ≡ Binary → SignOf s at (sign.Two t)
  pair_sign e f stands =
      let u = shaped s at f stands e in
      let w = all_at Makes signs signs_make (get_or s at 0) (binary u.make) u.sign in
      record {
        left = u.first;
        right = u.second;
        made = λ n. rw tag (w.1 n u.first u.second) ∙ sym u.same;
        low = omega (arith, w.0);
        high = omega (arith, w.0);
        first = u.first_stands;
        second = u.second_stands;
        wide = u.wide;
      }

  pub part_sign : form_of (get_or s at 0) ≡ Unary → SignOf s at (sign.One t)
  part_sign e f stands =
      let u = shaped s at f stands e in
      let w = all_at Makes signs signs_make (get_or s at 0) (unary u.make) u.sign in
      record {
        part = u.part;
        made = λ n y. rw tag (w.1 n u.part y) ∙ sym u.same;
        low = omega (arith, w.0);
        high = omega (arith, w.0);
        stands = u.part_stands;
        wide = u.wide;
      }

pub no_sign : (s : List ℕ) (at : ℕ) (f : Formula) → Stands s at f → form_of (get_or s at 0) ≡ Unknown → ⊥
no_sign s at f stands e = shaped s at f stands e

pub name_inside : (s : List ℕ) (at : ℕ) (f : Formula) → Stands s at f → form_of (get_or s at 0) ≡ Named → at + 3 ≤ length s
name_inside s at f stands e = (shaped s at f stands e).inside

-- ---- the cases of an answer

pub added_at : (m : List ℕ) (f : Formula) (r : Option ℕ) (i : ℕ) (m' : List ℕ) → AddedTo m f r m' → r ≡ Some i → Stored m f i m'
added_at m f r i m' x e = rw e at x

pub added_full : (m : List ℕ) (f : Formula) (r : Option ℕ) (m' : List ℕ) → AddedTo m f r m' → r ≡ None → NoRoom m f m'
added_full m f r m' x e = rw e at x
