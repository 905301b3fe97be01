use native.Mathlib.Omega.{arith}
use denote.Bor.{Bor}
use Rattle.std.specs.Prelude.{◌≡◌, Option, List, ℕ, length, get_or, ltb}
use Rattle.std.specs.Option.{is_some, IfSome, unwrap_or, option_copied}
use Rattle.std.proofs.Common.{ap, ◌∙◌}
use Rattle.std.proofs.lemmas.Grind.{common_steps}
use Rattle.std.proofs.lemmas.Option.{gets}
use lib.ListN.{get_or-eq_default}
use Rattle.logic.specs.Parts.{negated_tag, negated_tags}
use Rattle.formula.proofs.rewrite.dual.Goals as goal

-- an item of a table, and 0 past its end
item_or_zero : (xs : List ℕ) (i : ℕ) (o : Option (Bor ℕ)) → is_some o ≡ ltb i (length xs) → IfSome o (λ x. x.now ≡ get_or xs i x.now) → unwrap_or (option_copied o) 0 ≡ get_or xs i 0
item_or_zero xs i o k h = grind (arith, common_steps, gets, get_or-eq_default)

pub returns : goal.returns
unfolding negated_tag
returns c = c.unwrap_or.ensures ∙ ap (λ o. unwrap_or o 0) c.copied.ensures ∙ item_or_zero negated_tags _ _ c.get.ensures.lookup.0 c.get.ensures.lookup.1
