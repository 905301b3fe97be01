-- The items copied without one of them, and the answer for them.
use Rattle.std.specs.Prelude.{Option}
use mathlib.Core.Path.{◌≡◌, ap, subst, ◌∙◌}
use mathlib.Core.List.{List, ◌++◌}
use Prim.Native.Nat.{ℕ, suc, ◌+◌, ◌-◌}
use native.Mathlib.Omega.{arith}
use borrow.Rule.Slice.PartMut.{put_mid}
use lib.ListN.{length, take, drop}
use lib.Seq.{take_all}
use Rattle.std.proofs.Common.{length-append, length-take-le, length-drop}
use Rattle.std.proofs.lemmas.Slice.{take-put_mid}
use Rattle.zones.specs.Zones.{remove}
use Rattle.deal.specs.Deal.{Answers}
use Rattle.deal.specs.Place.{Removable, Without}

-- the items before place i are copied, and then those behind it
module _ {zone : List ℕ} {i : ℕ} (p : Removable zone i) where
  behind : {second : List ℕ} → second ≡ take (length zone - (i + 1)) (drop (i + 1) zone) → second ≡ drop (suc i) zone
  behind e =
      let one : i + 1 ≡ suc i = omega arith in
      e ∙ take_all (length zone - (i + 1)) (drop (i + 1) zone) (omega (arith, length-drop (i + 1) zone)) ∙ ap (λ (n : ℕ). drop n zone) one

  module _ (items : List ℕ) {first second : List ℕ} (long : length items ≡ 31) (first_is : first ≡ take i zone)
      (second_is : second ≡ take (length zone - (i + 1)) (drop (i + 1) zone)) where
    pub copied : Without zone i (put_mid i (length zone - 1 - i) (put_mid 0 i items first) second)
    copied =
        let begun : List ℕ = put_mid 0 i items first in
        let first_long : length first ≡ i = ap length first_is ∙ length-take-le i zone (omega (arith, p.inside)) in
        let second_long : length second + i + 1 ≡ length zone = omega (arith, ap length (behind second_is), length-drop (suc i) zone, p.inside) in
        let begun_first : take i begun ≡ first = take-put_mid 0 i items first i (omega (arith, first_long)) (omega arith) in
        let begun_long : length begun ≡ 31 = omega (arith, length-append first (drop i items), length-drop i items, first_long, long, p.inside, p.few) in
        record {
          long =
              omega (
                arith,
                length-append (take i begun) (second ++ drop (length zone - 1 - i) (drop i begun)),
                length-append second (drop (length zone - 1 - i) (drop i begun)),
                length-take-le i begun (omega (arith, begun_long, p.inside, p.few)),
                length-drop (length zone - 1 - i) (drop i begun),
                length-drop i begun,
                begun_long,
                second_long,
                p.few,
              );
          first =
              take-put_mid i (length zone - 1 - i) begun second (length zone - 1) (omega (arith, second_long)) (omega (arith, begun_long, p.inside, p.few))
              ∙ ap (λ (xs : List ℕ). xs ++ second) (begun_first ∙ first_is)
              ∙ ap (λ (xs : List ℕ). take i zone ++ xs) (behind second_is);
        }

-- the answer for the items that were copied
pub at_answer : (zone l r : List ℕ) (i : ℕ) (items : List ℕ) → Without zone i items → (d : Option ℕ) → Answers (take (length zone - 1) items) l r d
    → Answers (remove i zone) l r d
at_answer zone l r i items w d a = subst (λ (xs : List ℕ). Answers xs l r d) w.first a
