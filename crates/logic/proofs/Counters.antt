-- What the counters and the memory stay within under document 01's limits, whatever the search answers: the sums of a port need these. Assumes nothing.
use Rattle.std.specs.Prelude.{Bool, [], ◌∷◌, ℕ, suc, ◌+◌, ◌≤◌, length}
use Rattle.std.proofs.Common.{arith}
use Rattle.std.proofs.Math.ListN.{length-append}
use borrow.Author.Tests.{ltb-false}
use Rattle.logic.specs.Sequent.{Sequent, Question}
use Rattle.logic.specs.Held.{enter, enter_question}
use Rattle.logic.specs.Limits.{exceeds}
use Rattle.logic.specs.Outcome.{State, Memory, visited, hit}
use Rattle.logic.specs.Search.{as_stated, prove, ask}
use Rattle.logic.proofs.Found.{Keeps, prove_meets, ask_meets}

-- `slack` is 1 between the count of a visit and what follows it: there a hit still fits
pub record Within (budget limit slack : ℕ) (s : State) : Type 0 where
  pub hits_fit : slack + s.hits ≤ s.explored
  pub explored_fits : s.explored ≤ budget
  pub reached_fits : s.reached ≤ suc limit
  pub failures_fit : length s.memory.failures ≤ 1000
  pub held_fit : length s.memory.held ≤ 2048

module _ (use_cache : Bool) (budget limit : ℕ) where
  within_kept : Keeps (as_stated use_cache budget) limit (Within budget limit 0) (Within budget limit 1)
  unfolding visited hit exceeds
  within_kept =
      record {
        on_visit = λ depth s d b i. omega (arith, ltb-false budget (suc s.explored) b);
        on_hit = λ s j. omega arith;
        on_search = λ s j. omega arith;
        on_failure = λ k s e b i. omega (arith, ltb-false 1000 (suc (length s.memory.failures)) b, length-append s.memory.failures (k ∷ []));
        on_made = λ f s b i. omega (arith, ltb-false 2048 (length (enter f s.memory.held)) b);
      }

  pub prove_within : (q : Sequent) (memory : Memory) → length memory.failures ≤ 1000 → length memory.held ≤ 2048 → Within budget limit 0 (prove (as_stated use_cache budget) limit q memory).1
  prove_within q memory f h = (prove_meets _ limit _ _ within_kept q memory (omega arith)).0

  pub ask_within : (question : Question) (memory : Memory) → length memory.failures ≤ 1000 → length memory.held ≤ 2048 → Within budget limit 0 (ask (as_stated use_cache budget) limit question memory).1
  unfolding exceeds
  ask_within question memory f h =
      (ask_meets _ limit _ _ within_kept question memory (omega arith) (λ e. omega (arith, ltb-false 2048 (length (enter_question question memory.held)) e))).0
