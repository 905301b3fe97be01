-- Laws of a tree's words over a spelled sequent: `expand` over the question, a node over its premises' words, more formulas held. Assumes nothing.
use Rattle.std.specs.Prelude.{◌≡◌, refl, ℕ, zero, suc}
use Rattle.std.proofs.Common.{◌∙◌}
use mathlib.Core.List.{List, [], ◌∷◌, ◌++◌, append_assoc}
use Rattle.std.proofs.Math.Option.{some}
use Rattle.logic.specs.Formula.{Formula}
use Rattle.logic.specs.Sequent.{Sequent}
use Rattle.logic.specs.Tree.{Rule, Tree, node, ∅, ◌▹◌}
use Rattle.expand.specs.Short.{spelled, ◌by◌, step, ◌and_then◌, expand_all, expand, Expands}
use Rattle.expand.specs.InMemory.{Kept}
use Rattle.expand.specs.InMemoryLaws.{Grows, in_memory_grows, in_memory_leaf, in_memory_one, in_memory_two}
use Rattle.search.specs.Told.{expand_spelled, Tells}

-- over the question
expand_as : (n : ℕ) (q : Sequent) (ws : List ℕ) → expand n q ws ≡ expand_spelled n (spelled q) ws
unfolding expand expand_spelled
expand_as zero q ws = refl
expand_as (suc n) q [] = refl
expand_as (suc n) q (w ∷ ws) = refl

-- and whatever words follow
pub tells_expands : {n : ℕ} (q : Sequent) {ws : List ℕ} {fs : List Formula} {t : Tree} → Tells n (spelled q) ws fs t → (rest : List ℕ) → Expands n q (ws ++ rest) t rest
tells_expands {n} q {ws} h rest = record { expands = expand_as n q (ws ++ rest) ∙ h.told rest }

-- more formulas held
pub tells_grows : {n : ℕ} {q : Sequent} {ws : List ℕ} {fs gs : List Formula} {t : Tree} → Grows fs gs → Tells n q ws fs t → Tells n q ws gs t
tells_grows {t = t} g h = record { told = h.told; held = in_memory_grows g t h.held }

-- a node over its premises' words
module _ (n w : ℕ) (q : Sequent) (r : Rule) {fs : List Formula} (k : Kept fs q) where
  pub tells_leaf : step q w ≡ some ([] by r) → Tells (suc n) q (w ∷ []) fs (node r q ∅)
  unfolding expand_spelled expand_all ◌and_then◌
  tells_leaf e = record { told = λ rest. rw e; held = in_memory_leaf r k }

  pub tells_one : (p : Sequent) {ws : List ℕ} {t : Tree} → step q w ≡ some (p ∷ [] by r) → Tells n (spelled p) ws fs t → Tells (suc n) q (w ∷ ws) fs (node r q (t ▹ ∅))
  unfolding expand_spelled expand_all ◌and_then◌
  tells_one p {ws} {t} e h = record { told = λ rest. rw (e, expand_as n p (ws ++ rest), h.told rest); held = in_memory_one r k t h.held }

  pub tells_two : (p p' : Sequent) {ws vs : List ℕ} {t t' : Tree} → step q w ≡ some (p ∷ p' ∷ [] by r) → Tells n (spelled p) ws fs t → Tells n (spelled p') vs fs t' → Tells (suc n) q (w ∷ ws ++ vs) fs (node r q (t ▹ t' ▹ ∅))
  unfolding expand_spelled expand_all ◌and_then◌
  tells_two p p' {ws} {vs} {t} {t'} e h h' =
      record { told = λ rest. rw (e, append_assoc ws vs rest, expand_as n p (ws ++ (vs ++ rest)), h.told (vs ++ rest), expand_as n p' (vs ++ rest), h'.told rest); held = in_memory_two r k t t' h.held h'.held }
