-- Document 01's rules of a well-formed memory, one by one, over what the words say; and how the words say it. Assumes nothing: these are definitions.
use Rattle.std.specs.Prelude.{◌≡◌, ◌⊎◌, List, ℕ, suc, ◌+◌, ◌*◌, ◌/◌, ◌%◌, ◌≤◌, ◌<◌, length}
use Rattle.logic.specs.Formula as formula
use Rattle.logic.specs.Formula.{Formula, WhyNot}
use Rattle.held.specs.Words as formulas
use Rattle.held.specs.Words.{Ordered, Zeros}
use Rattle.failures.specs.Records as records
use Rattle.memory.specs.Meaning.{words, formula_words, failure_words, held_count, told}

-- formula i: its tag; its name, or the number of its left part; the number of its right part; its height and its size, as they are noted
abbrev pub tag_of : List ℕ → ℕ → ℕ
tag_of m i = formulas.at (formula_words m) i 0

abbrev pub left_of : List ℕ → ℕ → ℕ
left_of m i = formulas.at (formula_words m) i 1

abbrev pub right_of : List ℕ → ℕ → ℕ
right_of m i = formulas.at (formula_words m) i 2

abbrev pub noted_height : List ℕ → ℕ → ℕ
noted_height m i = formulas.at (formula_words m) i 3

abbrev pub noted_size : List ℕ → ℕ → ℕ
noted_size m i = formulas.at (formula_words m) i 4

-- how many failures there are; how many items failure i lists, each of them, and all
abbrev pub failed_count : List ℕ → ℕ
failed_count m = records.tally (failure_words m)

abbrev pub item_count : List ℕ → ℕ → ℕ
item_count m i = records.size_at (failure_words m) i

abbrev pub item_of : List ℕ → ℕ → ℕ → ℕ
item_of m i k = records.item_at (failure_words m) i k

abbrev pub items_of : List ℕ → ℕ → List ℕ
items_of m i = records.record_at (failure_words m) i

-- formula i: its tag is in range, its parts stand before it, its height is at most 64 and its size at most 65,535 bytes
pub record FormulaRules (m : List ℕ) (i : ℕ) : Type 0 where
  pub tag : tag_of m i < 13
  pub left : 6 ≤ tag_of m i → left_of m i < i
  pub right : 6 ≤ tag_of m i → tag_of m i < 11 → right_of m i < i
  pub height : formula.height (told m i) ≤ 64
  pub size : formula.size (told m i) ≤ 65535

-- an item x is a held formula, numbered x / 2; or, where x is odd, that formula marked with a why-not. ?A is always the marked A
pub record ItemRules (m : List ℕ) (x : ℕ) : Type 0 where
  pub held : x / 2 < held_count m
  pub bare : x % 2 ≡ 0 → (f : Formula) → told m (x / 2) ≡ WhyNot f → ⊥

-- y does not fall below x: by number, then unmarked first
abbrev pub Follows : ℕ → ℕ → Type 0
Follows x y = (x / 2 < y / 2) ⊎ ((x / 2 ≡ y / 2) × (x % 2 ≤ y % 2))

-- failure i lists 0 to 31 items, never falling
pub record FailureRules (m : List ℕ) (i : ℕ) : Type 0 where
  pub few : item_count m i ≤ 31
  pub items : (k : ℕ) → k < item_count m i → ItemRules m (item_of m i k)
  pub order : (k : ℕ) → suc k < item_count m i → Follows (item_of m i k) (item_of m i (suc k))

-- the rules: counts in range, each formula, no formula twice, each failure, no failure twice
pub record Rules (m : List ℕ) : Type 0 where
  pub formulas_few : held_count m ≤ 2048
  pub failures_few : failed_count m ≤ 1000
  pub formula : (i : ℕ) → i < held_count m → FormulaRules m i
  pub formula_once : (i j : ℕ) → i < held_count m → j < held_count m → told m i ≡ told m j → i ≡ j
  pub failure : (i : ℕ) → i < failed_count m → FailureRules m i
  pub failure_once : (i j : ℕ) → i < failed_count m → j < failed_count m → items_of m i ≡ items_of m j → i ≡ j

-- how formula i is written: height and size are noted as they are, a name is a word, and a field that holds nothing is zero
pub record FormulaWords (m : List ℕ) (i : ℕ) : Type 0 where
  pub height : noted_height m i ≡ formula.height (told m i)
  pub size : noted_size m i ≡ formula.size (told m i)
  pub name : 4 ≤ tag_of m i → tag_of m i < 6 → left_of m i < 65536
  pub no_left : tag_of m i < 4 → left_of m i ≡ 0
  pub no_right : (tag_of m i < 6) ⊎ (11 ≤ tag_of m i) → right_of m i ≡ 0

-- how all is written: as many words as there must be, the formulas' order words by rising tag, left and right, the failures' by rising number of items and then item by item, and zero
-- wherever nothing is held
pub record Layout (m : List ℕ) : Type 0 where
  pub sized : length m ≡ words
  pub formula : (i : ℕ) → i < held_count m → FormulaWords m i
  pub order : Ordered (formula_words m) (held_count m)
  pub no_formula : Zeros (formula_words m) (1 + 5 * held_count m) 10241
  pub no_order : Zeros (formula_words m) (10241 + held_count m) 12289
  pub no_item : (i : ℕ) → i < failed_count m → Zeros (failure_words m) (2 + 32 * i + item_count m i) (33 + 32 * i)
  pub failure_order : records.Ordered (failure_words m) (failed_count m)
  pub no_failure : Zeros (failure_words m) (1 + 32 * failed_count m) 32001
  pub no_failure_order : Zeros (failure_words m) (32001 + failed_count m) 33001
