-- Laws of the stages of `expand`: a node refused, a node whose step can be taken, and its premises by how many there are. Assumes nothing.
use Rattle.std.proofs.Math.Path.{◌≡◌, refl}
use Rattle.std.proofs.Common.{◌∙◌}
use Rattle.std.specs.Prelude.{true, false, ℕ}
use mathlib.Core.List.{List, [], ◌∷◌}
use Rattle.logic.specs.Formula.{Formula}
use Rattle.logic.specs.Sequent.{Sequent}
use Rattle.logic.specs.Answer.{too_many, held_full}
use Rattle.logic.specs.Limits.{at_most}
use Rattle.logic.specs.Conclusion.{concluded}
use Rattle.logic.specs.Tree.{Rule, Tree, Trees, node, ∅, ◌▹◌}
use Rattle.short.specs.Steps.{may_take, premises_of}
use Rattle.short.specs.Short.{Short, short, Shorts, □, ◌▸◌}
use Rattle.short.specs.Making.{Result, made, mismatch, refused, answer, next_of, ◌and_then◌, unless, spelt, few_each}
use Rattle.short.specs.Shortening.{grown, expand, expand_all}
use Rattle.short.specs.MakingLaws.{and_then_from, unless_true}
use Rattle.grow.specs.Growing.{limits}
use Rattle.grow.specs.Stages.{as_node, as_one, as_two, Entered}

module _ (r : Rule) (i mask : ℕ) (ss : Shorts) (q : Sequent) (fs : List Formula) {fs₁ : List Formula} where
  pub expand_full : spelt (at_most 2048) q fs ≡ (refused held_full, fs₁) → expand limits (short r i mask ss) q fs ≡ (refused held_full, fs₁)
  unfolding expand grown
  expand_full e = and_then_from (spelt (at_most 2048) q) _ fs (refused held_full) fs₁ e

  pub expand_mismatch : spelt (at_most 2048) q fs ≡ (made tt, fs₁) → may_take r i mask (concluded q) ≡ false
      → expand limits (short r i mask ss) q fs ≡ (mismatch, fs₁)
  unfolding expand grown
  expand_mismatch e f =
      and_then_from (spelt (at_most 2048) q) _ fs (made tt) fs₁ e
      ∙ and_then_from (unless (may_take r i mask (concluded q))) _ fs₁ mismatch fs₁ (rw f)

  pub expand_crowded : spelt (at_most 2048) q fs ≡ (made tt, fs₁) → may_take r i mask (concluded q) ≡ true
      → few_each (at_most 31) (premises_of r i mask (concluded q)) fs₁ ≡ (refused too_many, fs₁)
      → expand limits (short r i mask ss) q fs ≡ (refused too_many, fs₁)
  unfolding expand grown
  expand_crowded e f g =
      and_then_from (spelt (at_most 2048) q) _ fs (made tt) fs₁ e
      ∙ and_then_from (unless (may_take r i mask (concluded q))) _ fs₁ (made tt) fs₁ (unless_true _ fs₁ f)
      ∙ and_then_from (few_each (at_most 31) (premises_of r i mask (concluded q))) _ fs₁ (refused too_many) fs₁ g

  pub expand_entered : {x : Result Trees} {fs₂ : List Formula} → Entered r i mask q fs fs₁
      → expand_all limits ss (premises_of r i mask (concluded q)) fs₁ ≡ (x, fs₂)
      → expand limits (short r i mask ss) q fs ≡ (as_node (node r (concluded q)) x, fs₂)
  unfolding expand grown
  expand_entered {x} {fs₂} h e =
      and_then_from (spelt (at_most 2048) q) _ fs (made tt) fs₁ h.spells
      ∙ and_then_from (unless (may_take r i mask (concluded q))) _ fs₁ (made tt) fs₁ (unless_true _ fs₁ h.takes)
      ∙ and_then_from (few_each (at_most 31) (premises_of r i mask (concluded q))) _ fs₁ (made tt) fs₁ h.few
      ∙ and_then_from (expand_all limits ss (premises_of r i mask (concluded q))) (λ ts. answer (made (node r (concluded q) ts))) fs₁ x fs₂ e
      ∙ last x
    where
      last : (y : Result Trees)
          → ◌≡◌ {A = Result Tree × List Formula} (next_of y fs₂ (λ ts. answer (made (node r (concluded q) ts)))) (as_node (node r (concluded q)) y, fs₂)
      last (made ts) = refl
      last mismatch = refl
      last (refused k) = refl

pub expand_none : (fs : List Formula) → expand_all limits □ [] fs ≡ (made ∅, fs)
unfolding expand_all
expand_none fs = refl

pub expand_one : (s : Short) (p : Sequent) (fs : List Formula) {x : Result Tree} {fs₂ : List Formula} → expand limits s p fs ≡ (x, fs₂)
    → expand_all limits (s ▸ □) (p ∷ []) fs ≡ (as_one x, fs₂)
unfolding expand_all ◌and_then◌
expand_one s p fs {x} {fs₂} e = and_then_from (expand limits s p) _ fs x fs₂ e ∙ last x
  where
    last : (y : Result Tree)
        → ◌≡◌ {A = Result Trees × List Formula} (next_of y fs₂ (λ t. expand_all limits □ [] and_then λ ts. answer (made (t ▹ ts)))) (as_one y, fs₂)
    last (made t) = refl
    last mismatch = refl
    last (refused k) = refl

module _ (s : Short) (p : Sequent) (fs : List Formula) where
  -- the first premise is none: the second is not looked at
  pub expand_first : (ss : Shorts) (ps : List Sequent) {x : Result Tree} {fs₂ : List Formula} → ((t : Tree) → x ≡ made t → ⊥) → expand limits s p fs ≡ (x, fs₂)
      → expand_all limits (s ▸ ss) (p ∷ ps) fs ≡ (as_one x, fs₂)
  unfolding expand_all
  expand_first ss ps {x} {fs₂} none e = and_then_from (expand limits s p) _ fs x fs₂ e ∙ last x none
    where
      last : (y : Result Tree) → ((t : Tree) → y ≡ made t → ⊥)
          → ◌≡◌ {A = Result Trees × List Formula} (next_of y fs₂ (λ t. expand_all limits ss ps and_then λ ts. answer (made (t ▹ ts)))) (as_one y, fs₂)
      last (made t) h = absurd (h t refl)
      last mismatch h = refl
      last (refused k) h = refl

  pub expand_two : (s₂ : Short) (p₂ : Sequent) {t : Tree} {x : Result Tree} {fs₂ fs₃ : List Formula} → expand limits s p fs ≡ (made t, fs₂)
      → expand limits s₂ p₂ fs₂ ≡ (x, fs₃) → expand_all limits (s ▸ s₂ ▸ □) (p ∷ p₂ ∷ []) fs ≡ (as_two t x, fs₃)
  unfolding expand_all ◌and_then◌
  expand_two s₂ p₂ {t} {x} {fs₂} {fs₃} e f =
      and_then_from (expand limits s p) _ fs (made t) fs₂ e
      ∙ and_then_from (expand_all limits (s₂ ▸ □) (p₂ ∷ [])) (λ ts. answer (made (t ▹ ts))) fs₂ (as_one x) fs₃ (expand_one s₂ p₂ fs₂ f)
      ∙ last x
    where
      last : (y : Result Tree) → ◌≡◌ {A = Result Trees × List Formula} (next_of (as_one y) fs₃ (λ ts. answer (made (t ▹ ts)))) (as_two t y, fs₃)
      last (made u) = refl
      last mismatch = refl
      last (refused k) = refl
