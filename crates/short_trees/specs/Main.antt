-- What a caller of `shorten` and `expand` relies on: every theorem, each proved by a citation. The promises are `Shortens` and `Expands` (Promise.antt); the statements are in Claims.antt. The
-- page of `prove` is crates/prover/specs/Main.antt. Assumes nothing.
use Rattle.std.specs.Prelude.{Ok, ◌≡◌, List, [], ℕ, suc, take}
use Rattle.std.proofs.Common.{ap, subst, ◌∙◌}
use Rattle.logic.specs.Sequent.{Question, to_one_sided}
use Rattle.logic.specs.Tree.{Tree}
use Rattle.logic.specs.Answer.{wrong_number}
use Rattle.logic.specs.Built.{Built}
use Rattle.logic.specs.Search.{as_stated}
use Rattle.logic.proofs.Found.{Of, ask_builds}
use Rattle.wire.specs.Read.{got, refused, read_question, read_tree}
use Rattle.wire.specs.Fits.{Bytes}
use Rattle.search.specs.declared.counters.Counters.{Counters}
use Rattle.prover.specs.Promise as prove
use Rattle.prover.specs.PromiseLaws.{tree_found}
use Rattle.prover.specs.declared.Answer.TheVariants.{Found}
use Rattle.short.specs.Short.{Short}
use Rattle.short_bytes.specs.Write.{write_short}
use Rattle.short_bytes.specs.Read.{read_short}
use Rattle.short_bytes.specs.Fits.{ShortFits, ShortBack}
use Rattle.short_bytes.proofs.ShortBytes as short_bytes
use Rattle.short_trees.specs.Promise.{Call, Left, Expands, Shortens, expanding, shortening}
use Rattle.short_trees.specs.Claims.{SameResult, TreeExpanded, TreeShortened, Restored, MadeOrNoRoom}
use Rattle.short_trees.specs.PromiseLaws as laws

-- no second result could meet either promise
pub expand_once : {call : Call} {left left' : Left} → Expands call left → Expands call left' → SameResult left left'
expand_once = laws.no_second expanding

pub shorten_once : {call : Call} {left left' : Left} → Shortens call left → Shortens call left' → SameResult left left'
shorten_once = laws.no_second shortening

-- whatever expands passes strict mode, and concludes the question as demand 3 says
pub expanded_is_good : {call : Call} {left : Left} {n : ℕ} → Bytes call.question → Bytes call.message → Expands call left → left.answer ≡ Ok n → TreeExpanded call n left
expanded_is_good = laws.tree_expanded

-- the least place, then the least mask, is written at every node, and the short tree's bytes read back
pub least_is_written : {call : Call} {left : Left} {n : ℕ} → Bytes call.message → Shortens call left → left.answer ≡ Ok n → TreeShortened call n left
least_is_written = laws.tree_shortened

-- expanding what was shortened gives the same bytes, where 7, 10 and 12 are not met
pub shortened_then_expanded : {call call' : Call} {left left' : Left} {n : ℕ} → Bytes call.message → Shortens call left → left.answer ≡ Ok n
    → call'.question ≡ call.question → call'.message ≡ take n left.output → Expands call' left' → Restored call.message left'
shortened_then_expanded = laws.shortened_expands

-- whatever the search's rules build for the question can be shortened, where 7, 10 and 12 are not met
pub built_then_shortened : {call : Call} {left : Left} {q : Question} {t : Tree} {n : ℕ} → read_question call.question ≡ got q [] → read_tree call.message ≡ got t []
    → Built n (to_one_sided q) t → Shortens call left → MadeOrNoRoom left
built_then_shortened = laws.built_shortened

-- so can each tree that `prove` finds, against its question
pub found_then_shortened : {asked : prove.Call} {answered : prove.Left} {n : ℕ} {c : Counters} {call : Call} {left : Left} → Bytes asked.question → prove.Promise asked answered
    → answered.answer ≡ Found n c → call.question ≡ asked.question → call.message ≡ take n answered.output → Shortens call left → MadeOrNoRoom left
found_then_shortened {asked} {answered} b p h eq em s =
    let x = tree_found b p h in
    let built = subst (Of (Built (suc asked.limit) (to_one_sided x.question))) x.by_search (ask_builds (as_stated asked.cache asked.budget) asked.limit x.question (prove.meaning asked.memory)) in
    laws.built_shortened (ap read_question eq ∙ x.read) (ap read_tree em ∙ x.reads_back) built s

-- short trees written and read, both ways; a reader of the other version answers 2
pub short_read_back : (s : Short) → ShortFits s → read_short (write_short s) ≡ got s []
short_read_back = short_bytes.read_write_short

pub short_written_back : (bs : List ℕ) (s : Short) (rest : List ℕ) → Bytes bs → read_short bs ≡ got s rest → ShortBack bs s rest
short_written_back = short_bytes.write_read_short

pub old_reader_answers_two : (s : Short) → read_tree (write_short s) ≡ refused wrong_number
old_reader_answers_two = short_bytes.old_readers
