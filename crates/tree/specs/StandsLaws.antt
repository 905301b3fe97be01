-- Laws of `Stands`: the parts of what stands at a place, and a reader's slice from there. Assumes nothing.
use Rattle.std.specs.Prelude.{◌≡◌, List, [], ◌∷◌, ◌++◌, ℕ, ◌+◌, ◌-◌, ◌≤◌, ◌<◌, length, get_or, take, drop}
use Rattle.std.proofs.Common.{sym, ap, ◌∙◌, append_assoc, append-nil, arith, length-append, take-append-drop, length-take-le, drop-drop, get_or-drop}
use Rattle.std.proofs.Math.Seq.{slice, length-slice, drop-append_seam, take-append_seam, take-append-add, drop-length}
use Rattle.std.proofs.lemmas.List.{drop-append-le}
use Rattle.tree.specs.Stands.{Stands}

-- what is left past the bytes
past : (s : List ℕ) (at : ℕ) (v : List ℕ) {rest : List ℕ} → drop at s ≡ v ++ rest → drop (at + length v) s ≡ rest
past s at v {rest} e = sym (drop-drop (length v) at s) ∙ ap (drop (length v)) e ∙ drop-append_seam v rest

module _ {s : List ℕ} {at : ℕ} where
  pub stands_left : (v w : List ℕ) → Stands s at (v ++ w) → Stands s at v
  stands_left v w h =
      let e : drop at s ≡ v ++ (w ++ drop (at + length (v ++ w)) s) = h.there ∙ append_assoc v w _ in
      record { there = rw (past s at v e) e; inside = omega (arith, h.inside, length-append v w) }

  pub stands_right : (v w : List ℕ) → Stands s at (v ++ w) → Stands s (at + length v) w
  stands_right v w h =
      let e : drop at s ≡ v ++ (w ++ drop (at + length (v ++ w)) s) = h.there ∙ append_assoc v w _ in
      let n : at + length v + length w ≡ at + length (v ++ w) = omega (arith, length-append v w) in
      record { there = rw n (past s at v e); inside = omega (arith, h.inside, length-append v w) }

  pub stands_join : {v w : List ℕ} → Stands s at v → Stands s (at + length v) w → Stands s at (v ++ w)
  stands_join {v} {w} h k =
      let n : at + length v + length w ≡ at + length (v ++ w) = omega (arith, length-append v w) in
      record { there = h.there ∙ ap (◌++◌ v) (k.there ∙ ap (λ (p : ℕ). w ++ drop p s) n) ∙ sym (append_assoc v w _); inside = omega (arith, k.inside) }

  pub stands_head : {b : ℕ} {w : List ℕ} → Stands s at (b ∷ w) → get_or s at 0 ≡ b
  stands_head {b} {w} h =
      let n : at ≡ at + 0 = omega arith in ap (λ (k : ℕ). get_or s k 0) n ∙ sym (get_or-drop at s 0 0) ∙ ap (λ (l : List ℕ). get_or l 0 0) h.there

  pub stands_tail : {b : ℕ} {w : List ℕ} → Stands s at (b ∷ w) → Stands s (at + 1) w
  stands_tail {b} {w} h = stands_right (b ∷ []) w h

  pub stands_inside : {b : ℕ} {w : List ℕ} → Stands s at (b ∷ w) → at < length s
  stands_inside {b} {w} h = omega (arith, h.inside)

-- the reader's slice from there, up to a place past the bytes
pub slice_take : (at end : ℕ) (s : List ℕ) → at ≤ end → end ≤ length s → slice at end s ≡ take (end - at) (drop at s)
slice_take at end s h h' =
    let joined : drop at s ≡ slice at end s ++ drop end s =
    sym (ap (drop at) (take-append-drop end s)) ∙ drop-append-le at (take end s) (drop end s) (rw (length-take-le end s h') h)
    in
    rw (joined, ← length-slice at end s h', take-append_seam)

pub stands_slice : {s : List ℕ} {at : ℕ} {w : List ℕ} (end : ℕ) → Stands s at w → at + length w ≤ end → end ≤ length s → slice at end s ≡ w ++ slice (at + length w) end s
stands_slice {s} {at} {w} end h k k' =
    let n : end - at ≡ length w + (end - (at + length w)) = omega arith in
    rw (slice_take at end s (omega arith) k', slice_take (at + length w) end s k k', h.there, n, take-append-add)

-- what is behind the first bytes
pub stands_behind : (v w : List ℕ) → Stands (v ++ w) (length v) w
stands_behind v w =
    record {
      there = rw (drop-append_seam, ← length-append, drop-length) (sym (append-nil w));
      inside = omega (arith, length-append v w);
    }
