-- The settled runs of document 01 that are marked *, as theorems about the definitions: one table, one statement. Assumes nothing.
use Rattle.std.specs.Prelude.{◌≡◌, refl, true, List, [], ◌∷◌, map, ℕ, length}
use Rattle.logic.specs.Formula.{Formula, One, Top, Atom, NegAtom, Tensor, Par, Lolli, WhyNot, negate, is_positive, same, among}
use Rattle.logic.specs.Sequent.{◌﹔◌, Question, one_sided, to_one_sided}
use Rattle.logic.specs.Tree.{Axiom, OneIntro, TensorIntro, ParIntro, TopIntro, Dereliction, Tree, node, ∅, ◌▹◌}
use Rattle.logic.specs.Split.{left_of, right_of}
use Rattle.logic.specs.Zone.{total}
use Rattle.logic.specs.Key.{sequent_key, without, same_bag, contains}
use Rattle.logic.specs.Held.{enter, enter_all, enter_question}
use Rattle.logic.specs.Limits.{exceeds}
use Rattle.logic.specs.Outcome.{Outcome, found, nothing, State, when◌then◌else◌, ◌or_else◌, ◌if_found◌, visited, hit, record_failure, made, Memory}
use Rattle.logic.specs.Search.{
  as_stated,
  from_one,
  from_two,
  tensor_masks,
  prove_focused,
  try_axiom,
  each,
  try_dereliction,
  try_contraction,
  try_weakening,
  prove_sync,
  async_from,
  unless_empty,
  prove_async,
  entered,
  remembered,
  lollis,
  visit,
  prove_with_depth,
  ask,
}

abbrev fresh : Memory
fresh = record { held = []; failures = [] }

-- a question in fresh memory, or after another in the same memory; or a formula negated twice. The cache is on and the budget 16,384
pub data Row : Type 0 where
  asks : (limit : ℕ) → Question → Row
  asks_after : (limit : ℕ) → Question → Question → Row
  negates_twice : Formula → Row

-- the answer with its tree, explored, hits, depth reached, and how many failures are held
pub data Result : Type 0 where
  says : Outcome → (explored hits reached failures : ℕ) → Result
  gives : Formula → Result

abbrev said : Outcome × State → Result
said r = says r.0 r.1.explored r.1.hits r.1.reached (length r.1.memory.failures)

pub result : Row → Result
result (asks limit q) = said (ask (as_stated true 16384) limit q fresh)
result (asks_after limit p q) = said (ask (as_stated true 16384) limit q (ask (as_stated true 16384) limit p fresh).1.memory)
result (negates_twice f) = gives (negate (negate f))

abbrev leaf_of : List Formula → List Formula → Tree
leaf_of Γ Θ = node Axiom (Γ ﹔ Θ) ∅

pub settled_rows : List (Row × Result)
settled_rows =
    (asks 32 (one_sided [] []), says nothing 1 0 0 1)
    ∷ (asks 0 (one_sided (Atom 1 ∷ NegAtom 1 ∷ []) []), says (found (leaf_of (Atom 1 ∷ NegAtom 1 ∷ []) [])) 1 0 0 0)
    ∷ (asks 32 (one_sided (Atom 1 ∷ Atom 1 ∷ []) []), says nothing 1 0 0 1)
    ∷ (asks 32 (one_sided (Atom 1 ∷ NegAtom 1 ∷ One ∷ []) []), says nothing 1 0 0 1)
    ∷ (asks 32 (one_sided (One ∷ []) (Atom 1 ∷ [])), says (found (node OneIntro (One ∷ [] ﹔ Atom 1 ∷ []) ∅)) 1 0 0 0)
    ∷ (asks 32 (one_sided (WhyNot One ∷ []) []), says nothing 2 0 1 1)
    ∷ (asks 1 (one_sided (Lolli (Atom 1) (Atom 1) ∷ []) []), says (found (node ParIntro (Par (NegAtom 1) (Atom 1) ∷ [] ﹔ []) (leaf_of (NegAtom 1 ∷ Atom 1 ∷ []) [] ▹ ∅))) 3 0 1 0)
    ∷ (asks 0 (one_sided (Lolli (Atom 1) (Atom 1) ∷ []) []), says nothing 3 0 1 2)
    ∷ (asks 0 (one_sided (Par (Atom 1) (Atom 2) ∷ Top ∷ []) []), says nothing 2 0 1 1)
    ∷ (asks_after 0 (one_sided (Par (Atom 1) (Atom 2) ∷ Top ∷ []) []) (one_sided (Top ∷ Par (Atom 1) (Atom 2) ∷ []) []), says nothing 1 1 0 1)
    ∷ (asks 0 (one_sided (Top ∷ Par (Atom 1) (Atom 2) ∷ []) []), says (found (node TopIntro (Top ∷ Par (Atom 1) (Atom 2) ∷ [] ﹔ []) ∅)) 1 0 0 0)
    ∷ (
      asks 32 (one_sided (Tensor (Atom 1) (Atom 1) ∷ []) (NegAtom 1 ∷ [])),
      says
          (found
          (node
          TensorIntro
          (Tensor (Atom 1) (Atom 1) ∷ [] ﹔ NegAtom 1 ∷ [])
          (node Dereliction (Atom 1 ∷ [] ﹔ NegAtom 1 ∷ []) (leaf_of (Atom 1 ∷ NegAtom 1 ∷ []) [] ▹ ∅)
          ▹ node Dereliction (Atom 1 ∷ [] ﹔ NegAtom 1 ∷ []) (leaf_of (Atom 1 ∷ NegAtom 1 ∷ []) [] ▹ ∅)
          ▹ ∅)))
          5
          0
          2
          0,
    )
    ∷ (negates_twice (Lolli (Atom 1) (Atom 2)), gives (Par (NegAtom 1) (Atom 2)))
    ∷ []

pub settled : map (λ r. result r.0) settled_rows ≡ map (λ r. r.1) settled_rows
unfolding result settled_rows ask to_one_sided enter_question enter_all prove_with_depth visit entered remembered prove_async async_from prove_sync each prove_focused try_axiom try_dereliction try_contraction try_weakening tensor_masks left_of right_of from_one from_two unless_empty when◌then◌else◌ among lollis total sequent_key contains same_bag without same is_positive negate ◌or_else◌ ◌if_found◌ visited hit record_failure enter made exceeds
settled = refl
