-- Laws of `Head`: a node is its own bytes and then its premises. Assumes nothing.
use Rattle.std.specs.Prelude.{◌≡◌, refl, List, [], ◌∷◌, ℕ, zero, suc}
use Rattle.logic.specs.Answer.{Refusal}
use Rattle.wire.specs.Read.{Read, got, refused, ◌then◌, entry, read_premises, read_node}
use Rattle.tree.specs.Head.{read_rule, read_head, node_of}

-- one reader after another, joined either way
pub then_assoc : {A B C : Type 0} (m : Read A) (k : A → List ℕ → Read B) (l : B → List ℕ → Read C) → ((m then k) then l) ≡ (m then λ a bs. k a bs then l)
unfolding ◌then◌
then_assoc (got a rest) k l = refl
then_assoc (refused r) k l = refl

pub entry_then : {A B C : Type 0} (table : List A) (n : ℕ) (r : Refusal) (k : A → Read B) (l : B → List ℕ → Read C) → (entry table n r k then l) ≡ entry table n r λ a. k a then l
unfolding entry ◌then◌
entry_then [] n r k l = refl
entry_then (a ∷ as') zero r k l = refl
entry_then (a ∷ as') (suc n) r k l = entry_then as' n r k l

-- a node with a level left
pub node_by_head : (levels : ℕ) (bs : List ℕ)
    → read_node (suc levels) bs ≡ (read_head bs then λ h bs. read_premises (read_node levels) h.premises bs then λ ps bs. got (node_of h ps) bs)
unfolding read_node read_head read_rule ◌then◌
node_by_head levels bs = simp (then_assoc, entry_then)
