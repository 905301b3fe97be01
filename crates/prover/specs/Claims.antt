-- What a caller of `prove` relies on, as statements: `Main` proves each of them. Assumes nothing: these are definitions.
use Rattle.std.specs.Prelude.{◌≡◌, [], ℕ, take, drop}
use Rattle.logic.specs.Sequent.{Question, to_one_sided}
use Rattle.logic.specs.Tree.{Tree}
use Rattle.logic.specs.Outcome.{Outcome, State, found}
use Rattle.logic.specs.Search.{as_stated, unlimited, ask}
use Rattle.logic.proofs.Demand3.{Good}
use Rattle.logic.specs.Verify.{accepted}
use Rattle.logic.specs.Strict.{verify_strict}
use Rattle.wire.specs.Write.{write_tree}
use Rattle.wire.specs.Read.{got, read_question, read_tree}
use Rattle.prover.specs.declared.Answer.{Answer}
use Rattle.prover.specs.declared.Answer.TheVariants.{Found, Nothing, Refused}
use Rattle.prover.specs.Promise.{Call, Left, meaning, searched, Searched}

-- all that is promised of two results is the same: the work slice alone stands in the list of exceptions
pub record SameResult (left left' : Left) : Type 0 where
  pub same_answer : left.answer ≡ left'.answer
  pub same_memory : left.memory ≡ left'.memory
  pub same_output : left.output ≡ left'.output

-- a tree, or none: no limit was met
abbrev pub Ended : Answer → Type 0
Ended (Found n c) = Unit {0}
Ended (Nothing c) = Unit {0}
Ended (Refused k c) = ⊥

-- the Rust's search of a question: without limits, over what the memory holds
abbrev pub rust : Call → Question → Outcome × State
rust call q = ask (unlimited (as_stated call.cache call.budget)) call.limit q (meaning call.memory)

-- the bytes are a question, and answer, tree, counters and failures are the Rust's
pub record AsTheRust (call : Call) (left : Left) : Type 0 where
  pub question : Question
  pub read : read_question call.question ≡ got question []
  pub settled : Searched call (rust call question) left

-- the front bytes of the output are a tree's, found by the search, that a reader gets back and strict mode accepts; it has only legal steps, concludes the question, is at most
-- the depth limit and one high, and is balanced name by name in the multiplicative fragment (`Good`); the bytes behind are as they were
pub record TreeFound (call : Call) (bytes : ℕ) (left : Left) : Type 0 where
  pub question : Question
  pub read : read_question call.question ≡ got question []
  pub tree : Tree
  pub by_search : (searched call question).0 ≡ found tree
  pub written : take bytes left.output ≡ write_tree tree
  pub behind : drop bytes left.output ≡ drop bytes call.output
  pub reads_back : read_tree (take bytes left.output) ≡ got tree []
  pub strictly : verify_strict tree ≡ accepted
  pub sound : Good call.limit (to_one_sided question) tree
