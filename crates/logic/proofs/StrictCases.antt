-- Both modes of the verifier on the trees of docs/DECISIONS.md: one table, one statement. Assumes nothing.
use Rattle.std.specs.Prelude.{◌≡◌, refl, List, [], ◌∷◌, map}
use Rattle.logic.specs.Formula.{Formula, Bottom, Top, Atom, NegAtom, Tensor, Par, Lolli, negate, same, among, spell}
use Rattle.logic.specs.Parts.{left_part, right_part, is_literal}
use Rattle.logic.specs.Sequent.{◌﹔◌}
use Rattle.logic.specs.Tree.{Axiom, Cut, OneIntro, BottomIntro, ParIntro, TopIntro, Blur, Tree, node, ∅, ◌▹◌, nodes, conclusions, premise_count}
use Rattle.logic.specs.Key.{without, same_bag}
use Rattle.logic.specs.Verify.{invalid_rule, context_mismatch, Verdict, accepted, rejected, any, axiom_shaped, one_shaped, shape_fault, verify_from, verify}
use Rattle.logic.specs.Strict.{linear_same, any_binary, legal_step, strict_fault, verify_strict}

abbrev a1 : Formula
a1 = Atom 1

-- a leaf that any zones with a ⊤ in them may have
abbrev topped : List Formula → List Formula → Tree
topped Γ Θ = node TopIntro (Γ ﹔ Θ) ∅

abbrev identity : Tree
identity = node Axiom (NegAtom 1 ∷ a1 ∷ [] ﹔ []) ∅

-- (a1⊸a2)⊸a3, and its negation as the Rust has it
abbrev cut_formula : Formula
cut_formula = Lolli (Lolli a1 (Atom 2)) (Atom 3)

abbrev cut_over : Formula → Tree
cut_over other = node (Cut cut_formula) (Top ∷ Top ∷ [] ﹔ []) (topped (cut_formula ∷ Top ∷ []) [] ▹ topped (other ∷ Top ∷ []) [] ▹ ∅)

pub rows : List (Tree × Verdict × Verdict)
rows =
    -- ParIntro over a lone implication: trees write the spelled conclusion
    (node ParIntro (Lolli a1 a1 ∷ [] ﹔ []) (identity ▹ ∅), rejected ParIntro 0 0 invalid_rule, rejected ParIntro 0 0 invalid_rule)
    -- beside a par it may take the implication
    ∷ (
      node ParIntro (Par (Atom 2) (Atom 3) ∷ Lolli a1 a1 ∷ Top ∷ [] ﹔ []) (topped (Par (Atom 2) (Atom 3) ∷ Top ∷ NegAtom 1 ∷ a1 ∷ []) [] ▹ ∅),
      accepted,
      accepted,
    )
    -- Cut compares with plain `negate`: an inner implication stays
    ∷ (cut_over (Tensor (Lolli a1 (Atom 2)) (NegAtom 3)), accepted, accepted)
    ∷ (cut_over (Tensor (Par (NegAtom 1) (Atom 2)) (NegAtom 3)), accepted, rejected (Cut cut_formula) 0 0 context_mismatch)
    -- the unrestricted zone is compared as it stands
    ∷ (
      node BottomIntro (Bottom ∷ Top ∷ [] ﹔ Lolli a1 a1 ∷ []) (topped (Top ∷ []) (Par (NegAtom 1) a1 ∷ []) ▹ ∅),
      accepted,
      rejected BottomIntro 0 0 context_mismatch,
    )
    -- 15 at the root comes before 13 at its child
    ∷ (
      node BottomIntro (Bottom ∷ a1 ∷ [] ﹔ []) (node OneIntro (Atom 2 ∷ [] ﹔ []) ∅ ▹ ∅),
      rejected OneIntro 1 1 invalid_rule,
      rejected BottomIntro 0 0 context_mismatch,
    )
    -- Blur passes shape mode over anything, and strict mode never
    ∷ (node Blur (a1 ∷ [] ﹔ []) ∅, accepted, rejected Blur 0 0 context_mismatch)
    ∷ []

-- what both modes say of a row's tree, and what they are to say
abbrev pub said : Tree × Verdict × Verdict → Verdict × Verdict
said r = (verify r.0, verify_strict r.0)

abbrev pub expected : Tree × Verdict × Verdict → Verdict × Verdict
expected r = (r.1, r.2)

pub strict_cases : map said rows ≡ map expected rows
unfolding rows verify verify_strict verify_from strict_fault shape_fault legal_step linear_same any_binary any axiom_shaped one_shaped same_bag without same among spell negate left_part right_part is_literal nodes conclusions premise_count
strict_cases = refl
