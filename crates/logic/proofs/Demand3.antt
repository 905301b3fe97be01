-- Demand 3, whole: for any memory, settings and limits, each tree that the search finds has only legal steps, concludes the question, is at most the depth limit and one high, and is
-- balanced name by name in the multiplicative fragment. Assumes nothing.
use Rattle.std.specs.Prelude.{◌≡◌, [], ℕ, suc, ◌≤◌}
use Rattle.std.proofs.Common.{subst}
use Rattle.logic.specs.Sequent.{Sequent, Question, to_one_sided}
use Rattle.logic.specs.Tree.{Tree, depth, conclusion}
use Rattle.logic.specs.Outcome.{found, Memory}
use Rattle.logic.specs.Search.{Settings, prove, ask}
use Rattle.logic.specs.Built.{Built}
use Rattle.logic.proofs.Found.{Of, prove_builds, ask_builds}
use Rattle.logic.specs.Conclusion.{concluded}
use Rattle.logic.specs.Concludes.{concludes, depth_bound}
use Rattle.logic.specs.Legal.{Legal}
use Rattle.logic.proofs.LegalFound.{legal}
use Rattle.logic.specs.Places.{Multiplicatives, Balanced}
use Rattle.logic.proofs.Balance.{balanced}

pub record Good (limit : ℕ) (q : Sequent) (t : Tree) : Type 0 where
  pub steps_legal : Legal t
  pub concludes_question : conclusion t ≡ concluded q
  pub depth_at_most : depth t ≤ suc limit
  pub leaves_balanced : Multiplicatives q.linear → q.unrestricted ≡ [] → (n : ℕ) → Balanced n q t

pub good : {limit : ℕ} {q : Sequent} {t : Tree} → Built (suc limit) q t → Good limit q t
good d = record { steps_legal = legal d; concludes_question = concludes d; depth_at_most = depth_bound d; leaves_balanced = λ m u n. balanced d m u n }

pub found_is_good : (settings : Settings) (limit : ℕ) (q : Sequent) (memory : Memory) (t : Tree) → (prove settings limit q memory).0 ≡ found t → Good limit q t
found_is_good settings limit q memory t e = good (subst (Of (Built (suc limit) q)) e (prove_builds settings limit q memory))

pub answer_is_good : (settings : Settings) (limit : ℕ) (question : Question) (memory : Memory) (t : Tree) → (ask settings limit question memory).0 ≡ found t → Good limit (to_one_sided question) t
answer_is_good settings limit question memory t e =
    good (subst (Of (Built (suc limit) (to_one_sided question))) e (ask_builds settings limit question memory))
