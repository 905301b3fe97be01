-- What a caller of the library relies on: every theorem, each proved by a citation. The promise of `prove` is `Promise` (Promise.antt); the statements are in Claims.antt. Assumes nothing.
use Rattle.std.specs.Prelude.{◌≡◌, ◌↔◌, List, [], ℕ}
use Rattle.logic.specs.Formula.{Formula}
use Rattle.logic.specs.Sequent.{Question}
use Rattle.logic.specs.Tree.{Tree}
use Rattle.logic.specs.Verify.{accepted, verify}
use Rattle.logic.specs.Strict.{verify_strict}
use Rattle.logic.proofs.StrictLaws.{strict_accepts_iff}
use Rattle.logic.specs.Legal.{Legal}
use Rattle.wire.specs.Write.{write_formula, write_question, write_tree}
use Rattle.wire.specs.Read.{got, highest_formula, read_one, read_question, read_tree}
use Rattle.wire.specs.Fits.{Bytes, FormulaFits, QuestionFits, TreeFits, OneBack, QuestionBack, TreeBack}
use Rattle.wire.proofs.MessageBytes as formula_bytes
use Rattle.wire.proofs.QuestionBytes as question_bytes
use Rattle.wire.proofs.TreeBytes as tree_bytes
use Rattle.search.specs.declared.counters.Counters.{Counters}
use Rattle.prover.specs.declared.Answer.TheVariants.{Found}
use Rattle.prover.specs.Promise.{Call, Left, Promise}
use Rattle.prover.specs.Claims.{SameResult, Ended, AsTheRust, TreeFound}
use Rattle.prover.specs.PromiseLaws as laws

-- demand 1: no second result could meet the promise of `prove`
pub one_result : {call : Call} {left left' : Left} → Promise call left → Promise call left' → SameResult left left'
one_result = laws.no_second

-- demand 2: with no added limit met, answer, tree, counters and failures are the Rust's
pub no_limit_met : {call : Call} {left : Left} → Promise call left → Ended left.answer → AsTheRust call left
no_limit_met = laws.as_the_rust

-- demand 3: each tree found has only legal steps, concludes the question, is at most depth limit and one high, and is balanced; its bytes read back, and strict mode accepts it
pub tree_is_good : {call : Call} {left : Left} {n : ℕ} {c : Counters} → Bytes call.question → Promise call left → left.answer ≡ Found n c → TreeFound call n left
tree_is_good = laws.tree_found

-- strict mode accepts exactly the trees that shape mode accepts and whose steps are all legal
pub strict_is_legal : (t : Tree) → (verify_strict t ≡ accepted) ↔ ((verify t ≡ accepted) × Legal t)
strict_is_legal = strict_accepts_iff

-- what is written reads back
pub formula_read_back : (f : Formula) → FormulaFits highest_formula f → read_one (write_formula f) ≡ got f []
formula_read_back = formula_bytes.read_write_one

pub question_read_back : (q : Question) → QuestionFits q → read_question (write_question q) ≡ got q []
question_read_back = question_bytes.read_write_question

pub tree_read_back : (t : Tree) → TreeFits t → read_tree (write_tree t) ≡ got t []
tree_read_back = tree_bytes.read_write_tree

-- and what is read is written as the same bytes
pub formula_written_back : (bs : List ℕ) (f : Formula) (rest : List ℕ) → Bytes bs → read_one bs ≡ got f rest → OneBack bs f rest
formula_written_back = formula_bytes.write_read_one

pub question_written_back : (bs : List ℕ) (q : Question) (rest : List ℕ) → Bytes bs → read_question bs ≡ got q rest → QuestionBack bs q rest
question_written_back = question_bytes.write_read_question

pub tree_written_back : (bs : List ℕ) (t : Tree) (rest : List ℕ) → Bytes bs → read_tree bs ≡ got t rest → TreeBack bs t rest
tree_written_back = tree_bytes.write_read_tree
