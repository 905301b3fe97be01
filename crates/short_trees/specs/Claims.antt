-- What a caller of `shorten` and `expand` relies on, as statements: `Main` proves each of them. Assumes nothing: these are definitions.
use Rattle.std.specs.Prelude.{Ok, Err, ◌≡◌, List, [], ℕ, length, take, drop}
use Rattle.logic.specs.Sequent.{Question, to_one_sided}
use Rattle.logic.specs.Tree.{Tree}
use Rattle.logic.proofs.Demand3.{Good}
use Rattle.logic.specs.Verify.{accepted}
use Rattle.logic.specs.Strict.{verify_strict}
use Rattle.wire.specs.Write.{write_tree}
use Rattle.wire.specs.Read.{got, read_question, read_tree}
use Rattle.short.specs.Short.{Short}
use Rattle.short.specs.LeastTree.{LeastTree}
use Rattle.short_bytes.specs.Write.{write_short}
use Rattle.short_bytes.specs.Read.{read_short}
use Rattle.formula.specs.declared.Refusal.TheVariants.{HeldFull, OutputShort, WrongMemory}
use Rattle.short_trees.specs.Promise.{Answer}
use Rattle.short_trees.specs.declared.Failure.TheVariants.{Refused}
use Rattle.short_trees.specs.Promise.{Call, Left}

-- two results are the same
pub record SameResult (left left' : Left) : Type 0 where
  pub same_answer : left.answer ≡ left'.answer
  pub same_memory : left.memory ≡ left'.memory
  pub same_output : left.output ≡ left'.output

-- 7, 10 and 12: what is lent has no room for the result, or is no memory
pub data NoRoom : Answer → Type 0 where
  held_full : NoRoom (Err (Refused HeldFull))
  output_short : NoRoom (Err (Refused OutputShort))
  wrong_memory : NoRoom (Err (Refused WrongMemory))

-- the front bytes of the output are a tree's, that a reader gets back and strict mode accepts; it concludes the question, and demand 3 holds of it (`Good`, at document 01's greatest depth
-- limit); the bytes behind are as they were
pub record TreeExpanded (call : Call) (bytes : ℕ) (left : Left) : Type 0 where
  pub question : Question
  pub read : read_question call.question ≡ got question []
  pub tree : Tree
  pub written : take bytes left.output ≡ write_tree tree
  pub behind : drop bytes left.output ≡ drop bytes call.output
  pub reads_back : read_tree (take bytes left.output) ≡ got tree []
  pub strictly : verify_strict tree ≡ accepted
  pub sound : Good 64 (to_one_sided question) tree

-- the front bytes of the output are a short tree's, that a reader gets back; it has the full tree's rules, and at every node the least place, then the least mask; the bytes behind are as
-- they were
pub record TreeShortened (call : Call) (bytes : ℕ) (left : Left) : Type 0 where
  pub tree : Tree
  pub read : read_tree call.message ≡ got tree []
  pub short_tree : Short
  pub written : take bytes left.output ≡ write_short short_tree
  pub behind : drop bytes left.output ≡ drop bytes call.output
  pub reads_back : read_short (take bytes left.output) ≡ got short_tree []
  pub least : LeastTree tree short_tree

-- the bytes stand in the front of the output, or 7, 10 or 12
pub data Restored (bytes : List ℕ) (left : Left) : Type 0 where
  restored : left.answer ≡ Ok (length bytes) → take (length bytes) left.output ≡ bytes → Restored bytes left
  not_restored : NoRoom left.answer → Restored bytes left

-- something was written, or 7, 10 or 12
pub data MadeOrNoRoom (left : Left) : Type 0 where
  made : (n : ℕ) → left.answer ≡ Ok n → MadeOrNoRoom left
  not_made : NoRoom left.answer → MadeOrNoRoom left
