-- Laws of what the calls of short trees say at the boundary: each answer as its number and its length, and that no second result meets a promise. Assumes nothing.
use Rattle.std.specs.Prelude.{◌≡◌, Result, List, ℕ}
use Rattle.std.proofs.Common.{sym, ap, ◌∙◌}
use Rattle.short_trees.specs.Promise.{Form, Call, left_of, Promise}
use Rattle.short_trees.specs.PromiseLaws.{no_second}
use Rattle.short_trees.specs.declared.Failure.{Failure}
use Rattle.vakelumba.specs.declared.said.Said.{Said}
use Rattle.vakelumba.specs.Says.{Says}
use Rattle.vakelumba.specs.SaysLaws.{answer_said}
use Rattle.vakelumba.specs.Shorts.{of_short, ShortSaid}

module _ {A B : Type 0} (form : Form A B) {call : Call} where
  pub short_said : {m o : List ℕ} {x : Result ℕ Failure} {a : Said} {r n : ℕ} → Promise form call (left_of x m o) → a ≡ of_short x → Says a r n → ShortSaid form call r n m o
  short_said {x} p e t = record { answer = x; promised = p; says = answer_said e t }

  pub short_once : {r r' n n' : ℕ} {m m' o o' : List ℕ} → ShortSaid form call r n m o → ShortSaid form call r' n' m' o' → (r ≡ r') × (n ≡ n') × (m ≡ m') × (o ≡ o')
  short_once a b =
      let s = no_second form a.promised b.promised in (
        a.says.number_is ∙ ap (λ x. (of_short x).number) s.same_answer ∙ sym b.says.number_is,
        a.says.value_is ∙ ap (λ x. (of_short x).value) s.same_answer ∙ sym b.says.value_is,
        s.same_memory,
        s.same_output,
      )
