-- The least place, and there the least mask, at which a step fits. Assumes nothing: these are definitions.
use Rattle.std.specs.Prelude.{◌≡◌, Bool, true, false, List, ℕ, ◌+◌, ◌≤◌, ◌<◌}
use Rattle.logic.specs.Sequent.{Sequent}
use Rattle.logic.specs.Tree.{Rule}
use Rattle.short.specs.Shortening.{fits}

pub record Least (r : Rule) (q : Sequent) (ds : List Sequent) (i mask : ℕ) : Type 0 where
  pub here : fits r q ds i mask ≡ true
  pub no_earlier : (j m : ℕ) → j < i → fits r q ds j m ≡ false
  pub no_lesser : (m : ℕ) → m < mask → fits r q ds i m ≡ false

-- the first of `left` numbers from k on that passes
pub record First (test : ℕ → Bool) (k left n : ℕ) : Type 0 where
  pub low : k ≤ n
  pub high : n < k + left
  pub passes : test n ≡ true
  pub earlier : (j : ℕ) → k ≤ j → j < n → test j ≡ false
