-- Laws of `Bytes`: of the empty list, `∷`, `++`, `take`, `drop` and numbers of two bytes. Assumes nothing.
use Rattle.std.specs.Prelude.{◌≡◌, List, [], ◌∷◌, ◌++◌, ℕ, zero, suc, ◌+◌, ◌<◌, get_or, take, drop}
use Rattle.std.proofs.Common.{subst, arith, get_or-drop, lit<}
use Rattle.wire.specs.Write.{two_bytes}
use Rattle.wire.specs.Fits.{Bytes}

pub bytes_nil : Bytes []
bytes_nil = record { byte = λ k. lit< tt }

pub bytes_cons : {b : ℕ} {bs : List ℕ} → b < 256 → Bytes bs → Bytes (b ∷ bs)
bytes_cons {b} {bs} h hs = record { byte = at }
  where
    at : (k : ℕ) → get_or (b ∷ bs) k 0 < 256
    at zero = h
    at (suc k) = hs.byte k

pub bytes_head : {b : ℕ} {bs : List ℕ} → Bytes (b ∷ bs) → b < 256
bytes_head h = h.byte 0

pub bytes_tail : {b : ℕ} {bs : List ℕ} → Bytes (b ∷ bs) → Bytes bs
bytes_tail h = record { byte = λ k. h.byte (suc k) }

pub bytes_append : {s t : List ℕ} → Bytes s → Bytes t → Bytes (s ++ t)
bytes_append {s = []} hs ht = ht
bytes_append {s = b ∷ s} hs ht = bytes_cons (bytes_head hs) (bytes_append (bytes_tail hs) ht)

pub bytes_left : (s t : List ℕ) → Bytes (s ++ t) → Bytes s
bytes_left [] t h = bytes_nil
bytes_left (b ∷ s) t h = bytes_cons (bytes_head h) (bytes_left s t (bytes_tail h))

pub bytes_right : (s t : List ℕ) → Bytes (s ++ t) → Bytes t
bytes_right [] t h = h
bytes_right (b ∷ s) t h = bytes_right s t (bytes_tail h)

pub bytes_left_over : (s rest : List ℕ) {bs : List ℕ} → bs ≡ s ++ rest → Bytes bs → Bytes rest
bytes_left_over s rest e h = bytes_right s rest (subst Bytes e h)

pub bytes_drop : (n : ℕ) {bs : List ℕ} → Bytes bs → Bytes (drop n bs)
bytes_drop n h = record { byte = λ k. rw get_or-drop (h.byte (n + k)) }

pub bytes_take : (n : ℕ) {bs : List ℕ} → Bytes bs → Bytes (take n bs)
bytes_take zero h = bytes_nil
bytes_take (suc n) {bs = []} h = bytes_nil
bytes_take (suc n) {bs = b ∷ bs} h = bytes_cons (bytes_head h) (bytes_take n (bytes_tail h))

pub bytes_two : (n : ℕ) → n < 65536 → Bytes (two_bytes n)
bytes_two n h = bytes_cons (omega arith) (bytes_cons (omega arith) bytes_nil)
