-- Short trees of worked examples, by computing: docs/DECISIONS.md, "Short trees". Assumes nothing.
use Rattle.std.specs.Prelude.{◌≡◌, refl, [], ◌∷◌, ℕ}
use Rattle.logic.specs.Formula.{Formula, One, Atom, NegAtom, Tensor, Par, Lolli, Top, negate, spell, same, among}
use Rattle.logic.specs.Parts.{tag_of, left_part, right_part, is_literal}
use Rattle.logic.specs.Sequent.{Sequent, ◌﹔◌}
use Rattle.logic.specs.Split.{left_of, right_of}
use Rattle.logic.specs.Built.{decomposable}
use Rattle.logic.specs.Conclusion.{spell_first}
use Rattle.logic.specs.Answer.{held_full, too_many}
use Rattle.logic.specs.Held.{enter}
use Rattle.logic.specs.Limits.{Limits, at_most, no_limit, exceeds, stated}
use Rattle.logic.specs.Tree.{Axiom, OneIntro, TensorIntro, ParIntro, TopIntro, Dereliction, Tree, node, ∅, ◌▹◌, conclusions}
use Rattle.short.specs.Steps.{all_passed, is_first, is_sync, is_focus, is_pair, may_take, premises_of}
use Rattle.short.specs.Short.{Short, short, □, ◌▸◌}
use Rattle.short.specs.Making.{made, mismatch, refused, ◌and_then◌, made_of, enter_made, few_each}
use Rattle.short.specs.Shortening.{grown, expand, expand_all, same_zone, same_sequents, fits, first_from, least_mask, least_place, least, shrunk, shorten, shorten_all}

-- the program's example, a1⊥, a1⊗a2⊥, a2: the tensor is at place 1, and of the others the second goes right
abbrev example : Sequent
example = NegAtom 1 ∷ Tensor (Atom 1) (NegAtom 2) ∷ Atom 2 ∷ [] ﹔ []

abbrev left_leaf : Tree
left_leaf = node Axiom (NegAtom 1 ∷ Atom 1 ∷ [] ﹔ []) ∅

abbrev right_leaf : Tree
right_leaf = node Axiom (Atom 2 ∷ NegAtom 2 ∷ [] ﹔ []) ∅

abbrev example_tree : Tree
example_tree = node TensorIntro example (left_leaf ▹ right_leaf ▹ ∅)

abbrev leaf : Short
leaf = short Axiom 0 0 □

abbrev example_short : (place mask : ℕ) → Short
example_short place mask = short TensorIntro place mask (leaf ▸ leaf ▸ □)

-- the same with two formulas of the root exchanged, which strict mode accepts
abbrev exchanged_tree : Tree
exchanged_tree = node TensorIntro (Tensor (Atom 1) (NegAtom 2) ∷ NegAtom 1 ∷ Atom 2 ∷ [] ﹔ []) (left_leaf ▹ right_leaf ▹ ∅)

-- two letters, and a tensor whose parts are no formulas of the zone
abbrev x : Formula
x = Atom 1

abbrev y : Formula
y = Atom 2

abbrev f : Formula
f = Tensor One One

-- (a1⊸a1)⊗1: the left premise is written a1⊥⅋a1
abbrev implied : Sequent
implied = Tensor (Lolli x x) One ∷ [] ﹔ []

abbrev implied_tree : Tree
implied_tree =
    node
    TensorIntro
    implied
    (node ParIntro (Par (NegAtom 1) x ∷ [] ﹔ []) (node Axiom (NegAtom 1 ∷ x ∷ [] ﹔ []) ∅ ▹ ∅) ▹ node OneIntro (One ∷ [] ﹔ []) ∅ ▹ ∅)

abbrev implied_short : Short
implied_short = short TensorIntro 0 0 (short ParIntro 0 0 (leaf ▸ □) ▸ short OneIntro 0 0 □ ▸ □)

-- so many formulas in a sequent, and so many held
abbrev limited : (formulas held : ℕ) → Limits
limited formulas held = record { formulas = at_most formulas; held = at_most held; visits = no_limit; failures = no_limit }

pub runs :
    (shorten (stated 0) example_tree example [] ≡ (made (example_short 1 2), []))
    × (expand (stated 0) (example_short 1 2) example [] ≡ (made example_tree, []))
    -- list for list; another order is 15
    × (shorten (stated 0) exchanged_tree example [] ≡ (mismatch, []))
    -- spare bits; a place that is no tensor's; a place past the zone
    × (expand (stated 0) (example_short 1 6) example [] ≡ (mismatch, []))
    × (expand (stated 0) (example_short 0 2) example [] ≡ (mismatch, []))
    × (expand (stated 0) (example_short 3 2) example [] ≡ (mismatch, []))
    -- the place at Axiom and at OneIntro is 0
    × (expand (stated 0) (short Axiom 1 0 □) (x ∷ NegAtom 1 ∷ [] ﹔ []) [] ≡ (mismatch, []))
    × (expand (stated 0) (short OneIntro 1 0 □) (One ∷ [] ﹔ []) [] ≡ (mismatch, []))
    × (expand (stated 0) leaf (x ∷ NegAtom 1 ∷ [] ﹔ []) [] ≡ (made (node Axiom (x ∷ NegAtom 1 ∷ [] ﹔ []) ∅), []))
    -- an earlier Par comes before ⊤
    × (expand (stated 0) (short TopIntro 1 0 □) (Par x y ∷ Top ∷ [] ﹔ []) [] ≡ (mismatch, []))
    -- an empty linear zone: no step
    × (expand (stated 0) (short Dereliction 0 0 (leaf ▸ □)) ([] ﹔ One ∷ []) [] ≡ (mismatch, []))
    -- others x y x, left x, right y x: mask 6 alone. f x f, left f x, right empty: place 2
    × (least TensorIntro (x ∷ y ∷ x ∷ f ∷ [] ﹔ []) ((x ∷ One ∷ [] ﹔ []) ∷ (y ∷ x ∷ One ∷ [] ﹔ []) ∷ []) [] ≡ (made (3, 6), []))
    × (least TensorIntro (f ∷ x ∷ f ∷ [] ﹔ []) ((f ∷ x ∷ One ∷ [] ﹔ []) ∷ (One ∷ [] ﹔ []) ∷ []) [] ≡ (made (2, 0), []))
    -- an implication is spelled out unwritten, and entered: its negated part first
    × (shorten (stated 0) implied_tree implied [] ≡ (made implied_short, NegAtom 1 ∷ x ∷ Par (NegAtom 1) x ∷ []))
    × (expand (stated 0) implied_short implied [] ≡ (made implied_tree, NegAtom 1 ∷ x ∷ Par (NegAtom 1) x ∷ []))
    -- 7 comes before 15, with nothing entered; 15 keeps what was entered
    × (expand (limited 31 2) leaf (Lolli x x ∷ [] ﹔ []) [] ≡ (refused held_full, []))
    × (expand (limited 31 3) leaf (Lolli x x ∷ [] ﹔ []) [] ≡ (mismatch, NegAtom 1 ∷ x ∷ Par (NegAtom 1) x ∷ []))
    -- premises that do not follow are 15 at the parent, before a premise's implication is entered
    × (shorten (stated 0) (node TensorIntro implied (node ParIntro (Par (NegAtom 1) x ∷ [] ﹔ []) ∅ ▹ node OneIntro (x ∷ [] ﹔ []) ∅ ▹ ∅)) implied [] ≡ (mismatch, []))
    -- 15 comes before 6 for a premise, and 6 before the premise's own 15
    × (expand (limited 1 9) (short ParIntro 1 0 (leaf ▸ □)) (Par x y ∷ [] ﹔ []) [] ≡ (mismatch, []))
    × (expand (limited 1 9) (short ParIntro 0 0 (leaf ▸ □)) (Par x y ∷ [] ﹔ []) [] ≡ (refused too_many, []))
    × (expand (limited 2 9) (short ParIntro 0 0 (leaf ▸ □)) (Par x y ∷ [] ﹔ []) [] ≡ (mismatch, []))
unfolding shorten shorten_all shrunk least least_place least_mask first_from fits same_sequents same_zone expand expand_all grown few_each exceeds may_take premises_of is_first is_sync is_focus is_pair all_passed ◌and_then◌ made_of enter_made enter among spell_first decomposable spell negate tag_of left_part right_part left_of right_of is_literal same conclusions
runs = (refl, refl, refl, refl, refl, refl, refl, refl, refl, refl, refl, refl, refl, refl, refl, refl, refl, refl, refl, refl, refl)
