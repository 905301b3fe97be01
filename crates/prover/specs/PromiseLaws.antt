-- Laws of the promise of `prove`: no second result could meet it; where it answers a tree or none, all is the Rust's; a tree found is good, and its bytes read back. Assumes nothing.
use Rattle.std.specs.Prelude.{◌≡◌, refl, Bool, true, false, List, [], ◌++◌, ℕ, suc, ◌≤◌, leb, length, take, drop}
use Rattle.std.proofs.Common.{sym, ap, subst, ◌∙◌, arith, leb-true, take_at, drop_at}
use Rattle.std.proofs.Math.Bool.{and-eq-true_iff}
use Rattle.logic.specs.Sequent.{Question, to_one_sided}
use Rattle.logic.specs.Tree.{Tree}
use Rattle.logic.specs.Outcome.{Outcome, found, nothing, refused, State}
use Rattle.logic.specs.Outcome as outcome
use Rattle.logic.specs.Answer.{Refusal}
use Rattle.logic.specs.Search.{as_stated}
use Rattle.logic.proofs.LimitsLaws.{no_limit_met_asking}
use Rattle.logic.proofs.Found.{Of, ask_builds}
use Rattle.logic.specs.Built.{Built}
use Rattle.logic.proofs.Demand3.{good}
use Rattle.logic.proofs.ShapeFound.{found_verifies_strictly}
use Rattle.wire.specs.Write.{write_node, write_tree}
use Rattle.wire.specs.Read as wire
use Rattle.wire.specs.Fits.{Bytes, NodesFew}
use Rattle.wire.proofs.QuestionBytes.{write_read_question}
use Rattle.wire.proofs.TreeBytes.{read_write_tree}
use Rattle.wire.proofs.FoundFits.{found_fits}
use Rattle.question.specs.Answers.{turned}
use Rattle.question.proofs.OneSidedLaws.{turned_fits}
use Rattle.failures.specs.AlikeLaws.{alike_sym, alike_trans}
use Rattle.memory.specs.SettledLaws.{image_once}
use Rattle.formula.specs.declared.Refusal.TheVariants.{OutputShort}
use Rattle.search.specs.declared.counters.Counters.{Counters}
use Rattle.prover.specs.declared.Answer.{Answer}
use Rattle.prover.specs.declared.Answer.TheVariants.{Found, Refused}
use Rattle.prover.specs.Promise.{Call, Left, unchanged, meaning, searched, writable, answered, output_after, Few, Settled, Searched, Promise, settings_refused, memory_refused, question_refused, question_searched}
use Rattle.prover.specs.Claims.{SameResult, Ended, AsTheRust, TreeFound}

-- ---- no second result

both : {x left left' : Left} → left ≡ x → left' ≡ x → SameResult left left'
both e e' = record { same_answer = rw (e, e'); same_memory = rw (e, e'); same_output = rw (e, e') }

settled_once : {work output : List ℕ} {o : Outcome} {s : State} {left left' : Left} → Settled work output o s left → Settled work output o s left' → SameResult left left'
settled_once a b =
    record {
      same_answer = a.answer_is ∙ sym b.answer_is;
      same_memory = image_once _ _ a.memory_formed b.memory_formed (a.formulas_are ∙ sym b.formulas_are) (alike_trans a.failures_are (alike_sym b.failures_are));
      same_output = a.output_is ∙ sym b.output_is;
    }

-- reading answers one question, or one refusal
got_once : (s : List ℕ) {q q' : Question} → wire.read_question s ≡ wire.got q [] → wire.read_question s ≡ wire.got q' [] → q ≡ q'
got_once s e e' = cc

got_or_refused : (s : List ℕ) {q : Question} {k : Refusal} → wire.read_question s ≡ wire.got q [] → wire.read_question s ≡ wire.refused k → ⊥
got_or_refused s e e' = let z : ◌≡◌ {A = ℕ} 0 1 = cc in absurd (omega arith)

pub no_second : {call : Call} {left left' : Left} → Promise call left → Promise call left' → SameResult left left'
no_second (settings_refused n e) (settings_refused n' e') = both e e'
no_second (settings_refused n e) (memory_refused f w e') = absurd (n f)
no_second (settings_refused n e) (question_refused f w k h e') = absurd (n f)
no_second (settings_refused n e) (question_searched f w q h z) = absurd (n f)
no_second (memory_refused f w e) (settings_refused n e') = absurd (n f)
no_second (memory_refused f w e) (memory_refused f' w' e') = both e e'
no_second (memory_refused f w e) (question_refused f' w' k h e') = absurd (w w')
no_second (memory_refused f w e) (question_searched f' w' q h z) = absurd (w w')
no_second (question_refused f w k h e) (settings_refused n e') = absurd (n f)
no_second (question_refused f w k h e) (memory_refused f' w' e') = absurd (w' w)
no_second (question_refused f w k h e) (question_refused f' w' k' h' e') = let same : k ≡ k' = cc in both e (e' ∙ rw same refl)
no_second (question_refused f w k h e) (question_searched f' w' q h' z) = absurd (got_or_refused _ h' h)
no_second (question_searched f w q h z) (settings_refused n e') = absurd (n f)
no_second (question_searched f w q h z) (memory_refused f' w' e') = absurd (w' w)
no_second (question_searched f w q h z) (question_refused f' w' k h' e') = absurd (got_or_refused _ h h')
no_second {call} {left} {left'} (question_searched f w q h z) (question_searched f' w' q' h' z') =
    settled_once z (subst (λ p. Searched call (searched call p) left') (sym (got_once _ h h')) z')

-- ---- no limit met: all is the Rust's

-- nothing has ended where nothing has changed
not_unchanged : (call : Call) (k : Refusal) {left : Left} → left ≡ unchanged k call → Ended left.answer → ⊥
not_unchanged call k e h = subst Ended (ap (λ l. l.answer) e) h

ended : (o : Outcome) (c : Counters) (out : List ℕ) {r : Answer} → r ≡ answered o c out → Ended r → outcome.Ended o
unfolding answered
ended (found t) c out e h = tt
ended nothing c out e h = tt
ended (refused k) c out e h = subst Ended e h

pub as_the_rust : {call : Call} {left : Left} → Promise call left → Ended left.answer → AsTheRust call left
as_the_rust {call} (settings_refused n e) h = absurd (not_unchanged call _ e h)
as_the_rust {call} (memory_refused f w e) h = absurd (not_unchanged call _ e h)
as_the_rust {call} (question_refused f w k r e) h = absurd (not_unchanged call _ e h)
as_the_rust {call} {left} (question_searched f w q r z) h =
    let same = no_limit_met_asking (as_stated call.cache call.budget) call.limit q (meaning call.memory) (ended (searched call q).0 _ _ z.answer_is h) in
    record { question = q; read = r; settled = subst (λ x. Searched call x left) (sym same) z }

-- ---- a tree found

record WrittenAs (t : Tree) (out : List ℕ) (n : ℕ) (out' : List ℕ) : Type 0 where
  bytes_are : n ≡ length (write_tree t)
  short : length (write_node t) ≤ 65535
  output_is : out' ≡ write_tree t ++ drop (length (write_tree t)) out

record FoundAs (o : Outcome) (out : List ℕ) (n : ℕ) (out' : List ℕ) : Type 0 where
  tree : Tree
  outcome_is : o ≡ found tree
  written_as : WrittenAs tree out n out'

-- an answer of n bytes is a tree found and written
found_written : (t : Tree) (c : Counters) (out : List ℕ) {n : ℕ} {d : Counters} {out' : List ℕ} → Found n d ≡ answered (found t) c out → out' ≡ output_after (found t) out → WrittenAs t out n out'
unfolding answered output_after
found_written t c out {n} {d} {out'} e f = go (writable t out) refl e f
  where
    go : (b : Bool) → writable t out ≡ b → Found n d ≡ elim b as (λ _. Answer) [ true ↦ Found (length (write_tree t)) c | false ↦ Refused OutputShort c ] → out' ≡ elim b as (λ _. List ℕ) [ true ↦ write_tree t ++ drop (length (write_tree t)) out | false ↦ out ] → WrittenAs t out n out'
    go true b e f = record { bytes_are = cc; short = leb-true _ _ ((and-eq-true_iff (leb (length (write_node t)) 65535) (leb (length (write_tree t)) (length out))).0 b).0; output_is = f }
    go false b e f = let z : ◌≡◌ {A = ℕ} 0 1 = cc in absurd (omega arith)

found_as : (o : Outcome) (c : Counters) (out : List ℕ) {n : ℕ} {d : Counters} {out' : List ℕ} → Found n d ≡ answered o c out → out' ≡ output_after o out → FoundAs o out n out'
unfolding answered
found_as (found t) c out e f = record { tree = t; outcome_is = refl; written_as = found_written t c out e f }
found_as nothing c out e f = let z : ◌≡◌ {A = ℕ} 0 1 = cc in absurd (omega arith)
found_as (refused k) c out e f = let z : ◌≡◌ {A = ℕ} 0 1 = cc in absurd (omega arith)

no_bytes : (call : Call) (k : Refusal) {left : Left} {n : ℕ} {c : Counters} → left ≡ unchanged k call → left.answer ≡ Found n c → ⊥
no_bytes call k e h = not_unchanged call k e (subst Ended (sym h) tt)

pub tree_found : {call : Call} {left : Left} {n : ℕ} {c : Counters} → Bytes call.question → Promise call left → left.answer ≡ Found n c → TreeFound call n left
unfolding turned
tree_found {call} b (settings_refused n e) h = absurd (no_bytes call _ e h)
tree_found {call} b (memory_refused f w e) h = absurd (no_bytes call _ e h)
tree_found {call} b (question_refused f w k r e) h = absurd (no_bytes call _ e h)
tree_found {call} {left} {n} b (question_searched f w q r z) h =
    let x = found_as (searched call q).0 _ call.output (sym h ∙ z.answer_is) z.output_is in
    let built : Built (suc call.limit) (to_one_sided q) x.tree = subst (Of (Built (suc call.limit) (to_one_sided q))) x.outcome_is (ask_builds (as_stated call.cache call.budget) call.limit q (meaning call.memory)) in
    let few : NodesFew x.tree = subst Few x.outcome_is z.few in
    let zones = (turned_fits q (write_read_question call.question q [] b r).fits).zones_fit in
    let fits = found_fits built zones.first_fits.formulas_fit zones.second_fits.formulas_fit few (omega (arith, f.depth_fits)) x.written_as.short in
    let front : take n left.output ≡ write_tree x.tree = ap (take n) x.written_as.output_is ∙ take_at (write_tree x.tree) _ n (sym x.written_as.bytes_are) in
    record {
      question = q;
      read = r;
      tree = x.tree;
      by_search = x.outcome_is;
      written = front;
      behind = ap (drop n) x.written_as.output_is ∙ drop_at (write_tree x.tree) _ n (sym x.written_as.bytes_are) ∙ ap (λ k. drop k call.output) (sym x.written_as.bytes_are);
      reads_back = ap wire.read_tree front ∙ read_write_tree x.tree fits;
      strictly = found_verifies_strictly built;
      sound = good built;
    }
