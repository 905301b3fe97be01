-- A row of the stored list beside what the definitions compute: the bytes go through the readers and writers of the byte forms, so these are judged too. Assumes nothing.
use Rattle.std.specs.Prelude.{Bool, true, false, ◌&&◌, List, [], ◌∷◌, ℕ, eqb, length}
use Rattle.logic.specs.Formula.{Formula, negate, desugar, is_positive}
use Rattle.logic.specs.Text.{pretty, pretty_ascii}
use Rattle.logic.specs.Tree.{depth}
use Rattle.logic.specs.Key.{Key, contains}
use Rattle.logic.specs.Outcome.{Outcome, found, nothing, refused, outcome_number, State, Memory}
use Rattle.logic.specs.Search.{as_stated, ask}
use Rattle.logic.specs.Verify.{Fault, invalid_rule, wrong_premise_count, context_mismatch, Verdict, accepted, rejected, fault_number, verify}
use Rattle.wire.specs.Write.{write_formula, write_rule, write_tree}
use Rattle.wire.specs.Read.{Read, got, read_one, read_all, read_question, read_tree}
use Rattle.wire.specs.Read as read

abbrev pub Bytes : Type 0
Bytes = List ℕ

unfoldable pub same_bytes : Bytes → Bytes → Bool
same_bytes [] [] = true
same_bytes [] (y ∷ ys) = false
same_bytes (x ∷ xs) [] = false
same_bytes (x ∷ xs) (y ∷ ys) = elim (eqb x y) [ true ↦ same_bytes xs ys | false ↦ false ]

-- a test of what was read; a refusal fails it
abbrev pub where_read : {A : Type 0} → Read A → (A → Bool) → Bool
where_read (got a rest) test = test a
where_read (read.refused r) test = false

abbrev pub as_bit : Bool → ℕ
as_bit true = 1
as_bit false = 0

unfoldable pub all : {A : Type 0} → (A → Bool) → List A → Bool
all test [] = true
all test (x ∷ xs) = elim (test x) [ true ↦ all test xs | false ↦ false ]

-- formula.rs: a formula's bytes, its negation's, `desugar`'s, `is_positive`, `pretty`, `pretty_ascii`
pub data FormulaRow : Type 0 where
  formula_row : (bytes negated spelled : Bytes) (positive : ℕ) (unicode ascii : Bytes) → FormulaRow

abbrev pub formula_agrees : Formula → Bytes → Bytes → ℕ → Bytes → Bytes → Bool
formula_agrees f negated spelled positive unicode ascii =
    same_bytes (write_formula (negate f)) negated
    && (same_bytes (write_formula (desugar f)) spelled
    && (eqb (as_bit (is_positive f)) positive
    && (same_bytes (pretty f) unicode
    && same_bytes (pretty_ascii f) ascii)))

unfoldable pub judge_formula : FormulaRow → Bool
judge_formula (formula_row bytes negated spelled positive unicode ascii) =
    where_read (read_one bytes) λ f. formula_agrees f negated spelled positive unicode ascii

-- verify.rs and proof.rs: a tree's bytes, its depth, and the verdict as bytes: answer, rule's number, node number, wrappers, expected, got
pub data TreeRow : Type 0 where
  tree_row : (bytes : Bytes) (deep answer rule node wrappers expected premises : ℕ) → TreeRow

abbrev pub first_byte : Bytes → ℕ
first_byte [] = 0
first_byte (b ∷ bs) = b

abbrev pub fault_bytes : Fault → Bytes
fault_bytes invalid_rule = 0 ∷ 0 ∷ []
fault_bytes (wrong_premise_count expected premises) = expected ∷ premises ∷ []
fault_bytes context_mismatch = 0 ∷ 0 ∷ []

abbrev pub verdict_bytes : Verdict → Bytes
verdict_bytes accepted = 0 ∷ 0 ∷ 0 ∷ 0 ∷ 0 ∷ 0 ∷ []
verdict_bytes (rejected r n w f) = fault_number f ∷ first_byte (write_rule r) ∷ n ∷ w ∷ fault_bytes f

unfoldable pub judge_tree : TreeRow → Bool
judge_tree (tree_row bytes deep answer rule node wrappers expected premises) =
    where_read (read_tree bytes) λ t.
    eqb (depth t) deep
    && (same_bytes (write_tree t) bytes
    && same_bytes (verdict_bytes (verify t)) (answer ∷ rule ∷ node ∷ wrappers ∷ expected ∷ premises ∷ []))

-- search.rs: a question of a session, and what the Rust said: answer, explored, hits, depth reached, the tree's bytes (none for a no), how many failures are held after it, and those that
-- are new, each as the bytes of its formulas
pub data Asked : Type 0 where
  asked : (limit : ℕ) (question : Bytes) (answer explored hits reached : ℕ) (tree : Bytes) (held : ℕ) (new : List Bytes) → Asked

pub data SessionRow : Type 0 where
  session : (use_cache : Bool) → List Asked → SessionRow

abbrev pub tree_bytes : Outcome → Bytes
tree_bytes (found t) = write_tree t
tree_bytes nothing = []
tree_bytes (refused r) = []

-- the key that the bytes hold is among the failures
unfoldable pub recorded : List Key → Bytes → Bool
recorded failures bytes = where_read (read_all bytes) (contains failures)

abbrev pub answer_agrees : Asked → Outcome × State → Bool
answer_agrees (asked limit question answer explored hits reached tree held new) r =
    eqb (outcome_number r.0) answer
    && (eqb r.1.explored explored
    && (eqb r.1.hits hits
    && (eqb r.1.reached reached
    && (same_bytes (tree_bytes r.0) tree
    && (eqb (length r.1.memory.failures) held
    && all (recorded r.1.memory.failures) new)))))

abbrev pub asked_limit : Asked → ℕ
asked_limit (asked limit question answer explored hits reached tree held new) = limit

abbrev pub asked_question : Asked → Bytes
asked_question (asked limit question answer explored hits reached tree held new) = question

unfoldable pub judge_asked : Bool → List Asked → Memory → Bool
judge_asked use_cache [] memory = true
judge_asked use_cache (a ∷ as') memory =
    where_read (read_question (asked_question a)) λ q.
    let r = ask (as_stated use_cache 16384) (asked_limit a) q memory in
    elim (answer_agrees a r) [ true ↦ judge_asked use_cache as' r.1.memory | false ↦ false ]

unfoldable pub judge_session : SessionRow → Bool
judge_session (session use_cache as') = judge_asked use_cache as' record { held = []; failures = [] }
