-- A tree that `Built` builds, read by its last step: the step's place and mask, and that its premises are built. Assumes nothing: these are definitions.
use Rattle.std.specs.Prelude.{◌≡◌, true, List, [], ◌∷◌, ℕ}
use Rattle.logic.specs.Sequent.{Sequent}
use Rattle.logic.specs.Tree.{Rule, Tree, Trees, node, ∅, ◌▹◌}
use Rattle.logic.specs.Conclusion.{concluded}
use Rattle.logic.specs.Built.{Built}
use Rattle.short.specs.Steps.{may_take, premises_of}

-- trees built for sequents, one by one
pub data BuiltAll : ℕ → List Sequent → Trees → Type 0 where
  none_left : {n : ℕ} → BuiltAll n [] ∅
  one_more : {n : ℕ} {q : Sequent} {qs : List Sequent} {t : Tree} {ts : Trees} → Built n q t → BuiltAll n qs ts → BuiltAll n (q ∷ qs) (t ▹ ts)

-- a node for the question q that concludes c: the step at a place, with a mask, over premises that are built
pub record Step (n : ℕ) (r : Rule) (q c : Sequent) (ts : Trees) : Type 0 where
  pub place : ℕ
  pub mask : ℕ
  pub concludes : c ≡ concluded q
  pub takes : may_take r place mask c ≡ true
  pub premises : BuiltAll n (premises_of r place mask c) ts

abbrev pub Taken : ℕ → Sequent → Tree → Type 0
Taken n q (node r c ts) = Step n r q c ts
