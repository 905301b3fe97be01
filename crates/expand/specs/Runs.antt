-- Short trees expanded, by computing. Assumes nothing.
use Rattle.std.specs.Prelude.{◌≡◌, refl, [], ◌∷◌}
use Rattle.std.proofs.Math.Option.{none, some}
use Rattle.logic.specs.Formula.{Atom, NegAtom, Tensor, Par, Lolli, negate, spell}
use Rattle.logic.specs.Parts.{tag_of, left_part, right_part}
use Rattle.logic.specs.Sequent.{◌﹔◌}
use Rattle.logic.specs.Split.{left_of, right_of}
use Rattle.logic.specs.Built.{decomposable}
use Rattle.logic.specs.Conclusion.{spell_first}
use Rattle.logic.specs.Tree.{Axiom, TensorIntro, ParIntro, node, ∅, ◌▹◌}
use Rattle.expand.specs.Short.{word, steps, step, ◌and_then◌, expand_all, expand}

-- a1⊸a1: the implication is spelled out, and no word says so
lolli : expand 65 (Lolli (Atom 1) (Atom 1) ∷ [] ﹔ []) (word 5 0 0 ∷ word 0 0 0 ∷ [])
    ≡ some (node ParIntro (Par (NegAtom 1) (Atom 1) ∷ [] ﹔ []) (node Axiom (NegAtom 1 ∷ Atom 1 ∷ [] ﹔ []) ∅ ▹ ∅), [])
unfolding expand expand_all ◌and_then◌ step steps spell_first decomposable spell negate tag_of left_part right_part
lolli = refl

-- the program's example: a1⊥, a1⊗a2⊥, a2. The tensor is at place 1, and of the others the second goes right
tensor : expand 65 (NegAtom 1 ∷ Tensor (Atom 1) (NegAtom 2) ∷ Atom 2 ∷ [] ﹔ []) (word 4 1 2 ∷ word 0 0 0 ∷ word 0 0 0 ∷ 7 ∷ [])
    ≡ some (
      node
          TensorIntro
          (NegAtom 1 ∷ Tensor (Atom 1) (NegAtom 2) ∷ Atom 2 ∷ [] ﹔ [])
          (node Axiom (NegAtom 1 ∷ Atom 1 ∷ [] ﹔ []) ∅ ▹ node Axiom (Atom 2 ∷ NegAtom 2 ∷ [] ﹔ []) ∅ ▹ ∅),
      7 ∷ [],
    )
unfolding expand expand_all ◌and_then◌ step steps spell_first decomposable spell negate tag_of left_part right_part left_of right_of
tensor = refl

-- no tensor at place 0; a level too few; a word too few; Cut has no short form
unfit : expand 65 (NegAtom 1 ∷ Atom 1 ∷ [] ﹔ []) (word 4 0 0 ∷ []) ≡ none
unfolding expand expand_all ◌and_then◌ step steps spell_first decomposable tag_of
unfit = refl

low : expand 1 (Lolli (Atom 1) (Atom 1) ∷ [] ﹔ []) (word 5 0 0 ∷ word 0 0 0 ∷ []) ≡ none
unfolding expand expand_all ◌and_then◌ step steps spell_first decomposable spell negate tag_of left_part right_part
low = refl

short : expand 65 (Lolli (Atom 1) (Atom 1) ∷ [] ﹔ []) (word 5 0 0 ∷ []) ≡ none
unfolding expand expand_all ◌and_then◌ step steps spell_first decomposable spell negate tag_of left_part right_part
short = refl

cut : expand 65 (NegAtom 1 ∷ Atom 1 ∷ [] ﹔ []) (word 1 0 0 ∷ []) ≡ none
unfolding expand expand_all ◌and_then◌ step steps spell_first decomposable tag_of
cut = refl
