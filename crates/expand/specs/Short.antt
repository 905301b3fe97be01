-- Short trees: a word a node, in preorder, and the tree that they stand for over a question. A word holds the rule's number, the principal formula's place in its zone (0 at Axiom and
-- OneIntro) and the mask of a tensor. `expand` works a node's conclusion and premises out from the question downward, as search.rs makes them; whether a step is legal is strict mode's
-- question, and not asked here. Assumes nothing: these are definitions.
use Rattle.std.specs.Prelude.{◌≡◌, Bool, true, false, List, [], ◌∷◌, ◌++◌, ℕ, zero, suc, ◌+◌, ◌*◌, ◌/◌, ◌%◌, eqb, ltb, get_or, length}
use Rattle.std.proofs.Math.Option.{Option, none, some}
use Rattle.logic.specs.Formula.{One}
use Rattle.logic.specs.Parts.{tag_of, left_part, right_part}
use Rattle.logic.specs.Sequent.{Sequent, ◌﹔◌}
use Rattle.logic.specs.Split.{left_of, right_of}
use Rattle.logic.specs.Conclusion.{concluded}
use Rattle.logic.specs.Tree.{
  Rule,
  Axiom,
  OneIntro,
  BottomIntro,
  TensorIntro,
  ParIntro,
  TopIntro,
  WithIntro,
  PlusIntroLeft,
  PlusIntroRight,
  OfCourseIntro,
  WhyNotIntro,
  Weakening,
  Contraction,
  Dereliction,
  Tree,
  Trees,
  node,
  ∅,
  ◌▹◌,
}
use Rattle.zones.specs.Zones.{remove, replace}

-- a word, and taking it apart
abbrev pub word : (rule place mask : ℕ) → ℕ
word rule place mask = rule + 32 * place + 1024 * mask

abbrev pub rule_of : ℕ → ℕ
rule_of w = w % 32

abbrev pub place_of : ℕ → ℕ
place_of w = w / 32 % 32

abbrev pub mask_of : ℕ → ℕ
mask_of w = w / 1024

-- an implication that is the first decomposable formula is spelled out at its top: no word is written for that
abbrev pub spelled : Sequent → Sequent
spelled q = concluded q

-- the last rule of a tree, and its premises' sequents
pub record Step : Type 0 where
  pub rule : Rule
  pub premises : List Sequent

abbrev pub ◌by◌ : List Sequent → Rule → Step
ps by r = record { rule = r; premises = ps }

infix 5 ◌by◌
-- the step, where the test holds
abbrev pub if_so : Bool → Step → Option Step
if_so true s = some s
if_so false s = none

-- the steps at place i, by the rules' numbers. A rule for a linear formula wants its sign there, given by document 01's tag; past the end stands `One`, which no rule wants
unfoldable pub steps : Sequent → (i mask : ℕ) → List (Option Step)
steps q i mask =
    let Γ = q.linear in
    let Θ = q.unrestricted in
    let f = get_or Γ i One in
    let a = left_part f in
    let b = right_part f in
    let others = remove i Γ in
    let g = get_or Θ i One in
    let others' = remove i Θ in
    some ([] by Axiom)
    ∷ none
    ∷ some ([] by OneIntro)
    ∷ if_so (eqb (tag_of f) 1) ((others ﹔ Θ) ∷ [] by BottomIntro)
    ∷ if_so (eqb (tag_of f) 6) ((left_of mask others ++ (a ∷ []) ﹔ Θ) ∷ (right_of mask others ++ (b ∷ []) ﹔ Θ) ∷ [] by TensorIntro)
    ∷ if_so (eqb (tag_of f) 7) ((others ++ (a ∷ b ∷ []) ﹔ Θ) ∷ [] by ParIntro)
    ∷ some ([] by TopIntro)
    ∷ if_so (eqb (tag_of f) 8) ((others ++ (a ∷ []) ﹔ Θ) ∷ (others ++ (b ∷ []) ﹔ Θ) ∷ [] by WithIntro)
    ∷ if_so (eqb (tag_of f) 9) ((replace i a Γ ﹔ Θ) ∷ [] by PlusIntroLeft)
    ∷ if_so (eqb (tag_of f) 9) ((replace i b Γ ﹔ Θ) ∷ [] by PlusIntroRight)
    ∷ if_so (eqb (tag_of f) 11) ((a ∷ [] ﹔ Θ) ∷ [] by OfCourseIntro)
    ∷ if_so (eqb (tag_of f) 12) ((others ﹔ Θ ++ (a ∷ [])) ∷ [] by WhyNotIntro)
    ∷ if_so (ltb i (length Θ)) ((Γ ﹔ others') ∷ [] by Weakening)
    ∷ if_so (ltb i (length Θ)) ((Γ ++ (g ∷ g ∷ []) ﹔ others') ∷ [] by Contraction)
    ∷ if_so (ltb i (length Θ)) ((Γ ++ (g ∷ []) ﹔ others') ∷ [] by Dereliction)
    ∷ []

unfoldable pub step : Sequent → ℕ → Option Step
step q w = get_or (steps q (place_of w) (mask_of w)) (rule_of w) none

-- `then` for what may be missing, with the words that are left
infixr 15 ◌and_then◌
unfoldable pub ◌and_then◌ : {A B : Type 0} → Option (A × List ℕ) → (A → List ℕ → Option (B × List ℕ)) → Option (B × List ℕ)
none and_then k = none
some r and_then k = k r.0 r.1

-- the premises one after another
unfoldable pub expand_all : (Sequent → List ℕ → Option (Tree × List ℕ)) → List Sequent → List ℕ → Option (Trees × List ℕ)
expand_all deeper [] ws = some (∅, ws)
expand_all deeper (p ∷ ps) ws = deeper p ws and_then λ t ws. expand_all deeper ps ws and_then λ ts ws. some (t ▹ ts, ws)

-- a node with these premises
abbrev pub grown : (Sequent → List ℕ → Option (Tree × List ℕ)) → Sequent → Option Step → List ℕ → Option (Tree × List ℕ)
grown deeper q none ws = none
grown deeper q (some s) ws = expand_all deeper s.premises ws and_then λ ts ws. some (node s.rule q ts, ws)

-- the tree of at most so many levels that the words stand for, and the words after it
unfoldable pub expand : (levels : ℕ) → Sequent → List ℕ → Option (Tree × List ℕ)
expand zero q ws = none
expand (suc levels) q [] = none
expand (suc levels) q (w ∷ ws) = grown (expand levels) (spelled q) (step (spelled q) w) ws

-- the words stand for the tree, with some words left
pub record Expands (levels : ℕ) (q : Sequent) (ws : List ℕ) (t : Tree) (rest : List ℕ) : Type 0 where
  pub expands : expand levels q ws ≡ some (t, rest)

-- the word is a step from these premises to q, where no implication is to be spelled out first
pub record Takes (q : Sequent) (w : ℕ) (r : Rule) (premises : List Sequent) : Type 0 where
  pub plain : spelled q ≡ q
  pub takes : step q w ≡ some (premises by r)
