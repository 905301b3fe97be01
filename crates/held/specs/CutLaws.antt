-- Laws of taking formulas back: what was entered since is gone, and every word is as it was. Assumes nothing.
use Rattle.std.specs.Prelude.{◌≡◌, List, ℕ}
use Rattle.held.specs.Words.{count, Wf, Extends}
use Rattle.held.specs.WordsLaws.{agree_trans, agree_held, image_once}
use Rattle.held.specs.Answers.{TakenBack}

pub cut_back : (m m₁ m₂ : List ℕ) → Wf m → Extends m m₁ → TakenBack m₁ (count m) m₂ → m₂ ≡ m
cut_back m m₁ m₂ z p w =
    image_once m₂ m w.wf z (rw w.counted (agree_held m m₂ (count m) (agree_trans p.agree w.agree)))
