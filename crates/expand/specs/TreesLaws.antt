-- Laws of trees that words carry: how the words that a search leaves in front of its work slice carry its tree. Assumes nothing.
use Rattle.std.proofs.Common.{sym, ap, ◌∙◌, take-append-drop}
use Rattle.std.specs.Prelude.{List, [], ℕ, ◌≤◌, drop}
use Rattle.std.proofs.Math.Seq.{slice}
use Rattle.logic.specs.Tree.{Tree}
use Rattle.held.specs.Words.{view, told}
use Rattle.zones.specs.declared.Zones.{Zones}
use Rattle.zones.specs.Zones.{meant}
use Rattle.expand.specs.Short.{expand, Expands}
use Rattle.expand.specs.ShortLaws.{expands_more, expands_higher}
use Rattle.expand.specs.InMemory.{InMemory}
use Rattle.expand.specs.Writing.{Sound}
use Rattle.expand.specs.Trees.{most_levels, Carries}

-- what the search leaves: words in front of the work slice that stand for a tree of at most so many levels
pub carries_front : {m ws : List ℕ} {z : Zones} {levels : ℕ} {t : Tree} (end : ℕ) → Sound m z → levels ≤ most_levels → Expands levels (meant (told m) z) (slice 0 end ws) t []
    → InMemory (view m) t → Carries m ws z most_levels 0
carries_front {m} {ws} {z} {levels} {t} end s h x k =
    let e = expands_higher most_levels h (expands_more (drop end ws) x) in
    record {
      sound = s;
      tree = t;
      rest = drop end ws;
      expands = ap (expand most_levels (meant (told m) z)) (sym (take-append-drop end ws)) ∙ e.expands;
      held = k;
    }
