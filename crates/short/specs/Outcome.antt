-- What is said of a computation over the formulas held: what it keeps of them, and that it answers the same whatever is held, or 7. Assumes nothing: these are definitions.
use Rattle.std.specs.Prelude.{◌≡◌, List, ◌⊎◌}
use Rattle.logic.specs.Formula.{Formula}
use Rattle.logic.specs.Answer.{held_full}
use Rattle.logic.specs.Sequent.{Sequent}
use Rattle.logic.specs.Tree.{Tree}
use Rattle.logic.specs.Limits.{Limits}
use Rattle.short.specs.Making.{made, refused, Making}
use Rattle.short.specs.Short.{Short}
use Rattle.short.specs.Shortening.{shorten}

-- what holds of the formulas before holds of those after
pub record Keeps {A : Type 0} (I : List Formula → Type 0) (m : Making A) : Type 0 where
  pub keeps : (fs : List Formula) → I fs → I (m fs).1

-- it makes a, whatever is held, unless too much would be held
pub record MakesOrFull {A : Type 0} (m : Making A) (a : A) : Type 0 where
  pub outcome : (fs : List Formula) → ((m fs).0 ≡ made a) ⊎ ((m fs).0 ≡ refused held_full)

-- one computation after another made b: so did the first, and the second from there
pub record Through {A B : Type 0} (m : Making A) (k : A → Making B) (fs : List Formula) (b : B) (gs : List Formula) : Type 0 where
  pub middle : A
  pub between : List Formula
  pub first : m fs ≡ (made middle, between)
  pub second : k middle between ≡ (made b, gs)

-- and two, whose results were put together
pub record Paired {A B C : Type 0} (m : Making A) (k : Making B) (join : A → B → C) (fs : List Formula) (c : C) (gs : List Formula) : Type 0 where
  pub left : A
  pub right : B
  pub between : List Formula
  pub first : m fs ≡ (made left, between)
  pub second : k between ≡ (made right, gs)
  pub joined : c ≡ join left right

-- one short tree, whatever is held, unless too much would be held
pub record Shortens (limits : Limits) (t : Tree) (q : Sequent) : Type 0 where
  pub short_tree : Short
  pub makes : MakesOrFull (shorten limits t q) short_tree
