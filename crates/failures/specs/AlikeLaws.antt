-- Laws of alike lists of keys: an equivalence that keeps to appends; look-ups and lengths cannot tell them apart; `record_failure` does the same to both. Assumes nothing.
use Rattle.std.specs.Prelude.{◌≡◌, refl, Bool, true, false, List, [], ◌∷◌, ◌++◌, map, ℕ, zero, suc, ◌<◌, ◌≤◌, get_or, length}
use Rattle.std.proofs.Common.{ap, ap₂, arith}
use Rattle.std.proofs.Math.Bool.{So}
use Rattle.std.proofs.lemmas.Bool.{false≢true}
use borrow.Author.Tests.{lt-ltb, le-ltb}
use Rattle.logic.specs.Key.{Key, same_bag, contains}
use Rattle.logic.proofs.Bags.{same_bag_iff}
use Rattle.logic.specs.Legal.{Same, plain}
use Rattle.logic.proofs.SameLaws.{same_of, same_sym, same_trans}
use Rattle.logic.specs.Answer.{failures_full}
use Rattle.logic.specs.Limits.{Limit, at_most, exceeds}
use Rattle.logic.specs.Outcome.{State, nothing, refused, with_failure, record_failure, when◌then◌else◌}
use Rattle.failures.specs.Alike.{Alike, none, more}

-- an equivalence
pub alike_self : (ks : List Key) → Alike ks ks
alike_self [] = none
alike_self (k ∷ ks) = more (same_of refl) (alike_self ks)

pub alike_of : {ks ls : List Key} → ks ≡ ls → Alike ks ls
alike_of {ks} {ls} e = rw e (alike_self ls)

pub alike_sym : {ks ls : List Key} → Alike ks ls → Alike ls ks
alike_sym none = none
alike_sym (more s a) = more (same_sym s) (alike_sym a)

pub alike_trans : {ks ls ns : List Key} → Alike ks ls → Alike ls ns → Alike ks ns
alike_trans none none = none
alike_trans (more s a) (more t b) = more (same_trans s t) (alike_trans a b)

-- appends
pub alike_append : {ks ls ks' ls' : List Key} → Alike ks ls → Alike ks' ls' → Alike (ks ++ ks') (ls ++ ls')
alike_append none b = b
alike_append (more s a) b = more s (alike_append a b)

-- one key more at the end
pub alike_snoc : {ks ls : List Key} {k l : Key} → Alike ks ls → Same plain k l → Alike (ks ++ (k ∷ [])) (ls ++ (l ∷ []))
alike_snoc a s = alike_append a (more s none)

-- keys made of the same things by functions that make the same multisets
pub alike_map : {A : Type 0} (f g : A → Key) → ((x : A) → Same plain (f x) (g x)) → (xs : List A) → Alike (map f xs) (map g xs)
alike_map f g h [] = none
alike_map f g h (x ∷ xs) = more (h x) (alike_map f g h xs)

pub alike_length : {ks ls : List Key} → Alike ks ls → length ks ≡ length ls
alike_length none = refl
alike_length (more s a) = ap suc (alike_length a)

pub alike_at : {ks ls : List Key} → Alike ks ls → (i : ℕ) → Same plain (get_or ks i []) (get_or ls i [])
alike_at none i = same_of refl
alike_at (more s a) zero = s
alike_at (more s a) (suc i) = alike_at a i

-- two claims that follow from each other are told alike
so_same : (b b' : Bool) → (So b → So b') → (So b' → So b) → b ≡ b'
so_same true true f g = refl
so_same true false f g = absurd (false≢true (f refl))
so_same false true f g = absurd (false≢true (g refl))
so_same false false f g = refl

-- look-ups
pub same_bag_alike : {k k' l l' : Key} → Same plain k k' → Same plain l l' → same_bag k l ≡ same_bag k' l'
same_bag_alike {k} {k'} {l} {l'} s t =
    so_same _ _
    (λ e. (same_bag_iff k' l').1 (same_trans (same_sym s) (same_trans ((same_bag_iff k l).0 e) t)))
    (λ e. (same_bag_iff k l).1 (same_trans s (same_trans ((same_bag_iff k' l').0 e) (same_sym t))))

pub contains_alike : {ks ls : List Key} {k l : Key} → Alike ks ls → Same plain k l → contains ks k ≡ contains ls l
unfolding contains
contains_alike none t = refl
contains_alike (more s a) t = ap₂ (λ (b rest : Bool). elim b as (λ _. Bool) [ true ↦ true | false ↦ rest ]) (same_bag_alike s t) (contains_alike a t)

-- `record_failure`: a key that is known changes nothing, one that wants room and has none is refused, and else it stands last
module _ (s : State) (k : Key) where
  pub record_known : (limit : Limit) → contains s.memory.failures k ≡ true → record_failure limit k s ≡ (nothing, s)
  unfolding record_failure when◌then◌else◌
  record_known limit e = rw e

  pub record_full : {most : ℕ} → contains s.memory.failures k ≡ false → most ≤ length s.memory.failures → record_failure (at_most most) k s ≡ (refused failures_full, s)
  unfolding record_failure when◌then◌else◌ exceeds
  record_full {most} e h = rw (e, lt-ltb most (suc (length s.memory.failures)) (omega arith))

  pub record_new : {most : ℕ} → contains s.memory.failures k ≡ false → length s.memory.failures < most → record_failure (at_most most) k s ≡ (nothing, with_failure k s)
  unfolding record_failure when◌then◌else◌ exceeds
  record_new {most} e h = rw (e, le-ltb most (suc (length s.memory.failures)) h)
