-- The ring of search.rs: a visit is what `prove_with_depth` says, with `prove_with_depth(.., depth + 1)` for `deeper` and `prove_with_depth(.., depth)` for `again`.
-- The definition's count of implications at the top, which falls where the depth does not, never cuts a search short. Assumes nothing.
use Rattle.std.specs.Prelude.{◌≡◌, true, false}
use Rattle.std.proofs.Math.Path.{refl, sym, ap}
use Rattle.std.proofs.Common.{◌∙◌, arith}
use mathlib.Core.List.{List, [], ◌∷◌, ◌++◌}
use Prim.Native.Nat.{ℕ, zero, suc, ◌≤◌, ◌<◌}
use Rattle.logic.specs.Formula.{Formula, One, Bottom, Top, Zero, Atom, NegAtom, Tensor, Par, With, Plus, Lolli, OfCourse, WhyNot, negate}
use Rattle.logic.specs.Sequent.{Sequent}
use Rattle.logic.proofs.ZoneLaws.{snoc, total_at}
use Rattle.logic.specs.Key.{Key, sequent_key, contains}
use Rattle.logic.specs.Limits.{no_limit, exceeds}
use Rattle.logic.specs.Outcome.{nothing, State, Search, answer, when◌then◌else◌, ◌or_else◌, visited, hit, with_failure, record_failure, made}
use Rattle.logic.specs.Search.{Settings, unlimited, async_from, unless_empty, prove_async, entered, remembered, lolli_count, lollis, visit, prove_with_depth}

module _ (settings : Settings) (deeper again again' : Sequent → Search) (q : Sequent) (agree : (p : Sequent) → lollis p.linear < lollis q.linear → again p ≡ again' p) where
  async_agrees : (before after : List Formula) → q.linear ≡ before ++ after → async_from settings deeper again q before after ≡ async_from settings deeper again' q before after
  unfolding async_from lollis
  async_agrees before [] e = refl
  async_agrees before (Par a b ∷ after) e = refl
  async_agrees before (Bottom ∷ after) e = refl
  async_agrees before (Top ∷ after) e = refl
  async_agrees before (With a b ∷ after) e = refl
  async_agrees before (WhyNot a ∷ after) e = refl
  async_agrees before (Lolli a b ∷ after) e =
      ap (made _ _) (agree _ (omega (arith, total_at lolli_count before _ after e, total_at lolli_count before (Par (negate a) b) after refl)))
  async_agrees before (Atom a ∷ after) e = async_agrees _ after (snoc before _ after e)
  async_agrees before (NegAtom a ∷ after) e = async_agrees _ after (snoc before _ after e)
  async_agrees before (Tensor a b ∷ after) e = async_agrees _ after (snoc before _ after e)
  async_agrees before (One ∷ after) e = async_agrees _ after (snoc before _ after e)
  async_agrees before (Plus a b ∷ after) e = async_agrees _ after (snoc before _ after e)
  async_agrees before (Zero ∷ after) e = async_agrees _ after (snoc before _ after e)
  async_agrees before (OfCourse a ∷ after) e = async_agrees _ after (snoc before _ after e)

  prove_async_agrees : prove_async settings deeper again q ≡ prove_async settings deeper again' q
  unfolding prove_async unless_empty
  prove_async_agrees = go q.linear refl
    where
      go : (l : List Formula) → q.linear ≡ l → unless_empty settings deeper again q l ≡ unless_empty settings deeper again' q l
      go [] e = refl
      go (f ∷ fs) e = async_agrees [] (f ∷ fs) e

module _ (settings : Settings) (left depth : ℕ) where
  deeper : Sequent → Search
  deeper p = visit settings left (lollis p.linear) (suc depth) p

  again : Sequent → Search
  again p = visit settings (suc left) (lollis p.linear) depth p

  turn : Sequent → Search
  turn q = entered settings depth q (remembered settings q (prove_async settings deeper again q))

  -- the count k serves at q
  Serves : ℕ → Sequent → Type 0
  Serves k q = lollis q.linear ≤ k → visit settings (suc left) k depth q ≡ turn q

  serves_next : (k : ℕ) (q : Sequent) → ((j : ℕ) (p : Sequent) → lollis p.linear < lollis q.linear → Serves j p) → Serves k q
  unfolding Serves visit turn again deeper
  serves_next zero q ih g =
      ap (λ b. entered settings depth q (remembered settings q b)) (prove_async_agrees settings _ _ _ q λ p l. absurd (omega arith))
  serves_next (suc k) q ih g =
      ap (λ b. entered settings depth q (remembered settings q b)) (prove_async_agrees settings _ _ _ q λ p l. ih k p l (omega arith) ∙ sym (ih (lollis p.linear) p l (omega arith)))

  serves : (m k : ℕ) (q : Sequent) → lollis q.linear ≤ m → Serves k q
  serves zero k q h = serves_next k q λ j p l. absurd (omega arith)
  serves (suc m) k q h = serves_next k q λ j p l. serves m j p (omega arith)

module _ (settings : Settings) where
  -- `prove_with_depth` at a depth over the limit
  pub ring_over : (depth : ℕ) (q : Sequent) → prove_with_depth settings 0 depth q ≡ entered settings depth q (answer nothing)
  unfolding prove_with_depth visit
  ring_over depth q = refl

  -- and at any other
  pub ring : (left depth : ℕ) (q : Sequent) → prove_with_depth settings (suc left) depth q ≡ entered settings depth q (remembered settings q (prove_async settings (prove_with_depth settings left (suc depth)) (prove_with_depth settings (suc left) depth) q))
  unfolding prove_with_depth Serves turn again deeper
  ring left depth q = serves settings left depth (lollis q.linear) (lollis q.linear) q (omega arith) (omega arith)

-- Without limits this is the Rust's function to the letter
module _ (settings : Settings) (left depth : ℕ) (q : Sequent) (s : State) where
  -- `self.prove_async(seq, depth)`
  abbrev pub rust_async : Search
  rust_async = prove_async (unlimited settings) (prove_with_depth (unlimited settings) left (suc depth)) (prove_with_depth (unlimited settings) (suc left) depth) q

  -- a depth over the limit: the visit is counted, and the answer is no
  pub rust_over : prove_with_depth (unlimited settings) 0 depth q s ≡ (nothing, visited depth s)
  unfolding entered exceeds when◌then◌else◌
  rust_over = ap (λ m. m s) (ring_over (unlimited settings) depth q)

  -- `use_cache` off
  pub rust_cache_off : settings.use_cache ≡ false → prove_with_depth (unlimited settings) (suc left) depth q s ≡ rust_async (visited depth s)
  unfolding entered remembered exceeds when◌then◌else◌
  rust_cache_off e = ap (λ m. m s) (ring (unlimited settings) left depth q) ∙ rw (e, when◌then◌else◌)

  -- `self.cache.contains(&key)`
  pub rust_hit : settings.use_cache ≡ true → contains s.memory.failures (sequent_key q) ≡ true → prove_with_depth (unlimited settings) (suc left) depth q s ≡ (nothing, hit (visited depth s))
  unfolding entered remembered exceeds when◌then◌else◌ visited
  rust_hit e h = ap (λ m. m s) (ring (unlimited settings) left depth q) ∙ rw (e, when◌then◌else◌, h, when◌then◌else◌)

  -- the search, and the insertion of its no
  pub rust_searched : settings.use_cache ≡ true → contains s.memory.failures (sequent_key q) ≡ false → prove_with_depth (unlimited settings) (suc left) depth q s ≡ (rust_async or_else record_failure no_limit (sequent_key q)) (visited depth s)
  unfolding entered remembered exceeds when◌then◌else◌ visited
  rust_searched e h = ap (λ m. m s) (ring (unlimited settings) left depth q) ∙ rw (e, when◌then◌else◌, h, when◌then◌else◌)

-- `self.cache.insert(key)`: a key that is there already is not entered twice
pub insert_known : (k : Key) (s : State) → contains s.memory.failures k ≡ true → record_failure no_limit k s ≡ (nothing, s)
unfolding record_failure when◌then◌else◌
insert_known k s e = rw (e, when◌then◌else◌)

pub insert_new : (k : Key) (s : State) → contains s.memory.failures k ≡ false → record_failure no_limit k s ≡ (nothing, with_failure k s)
unfolding record_failure when◌then◌else◌ exceeds
insert_new k s e = rw (e, when◌then◌else◌)
