-- The lent words and what they say. Word 0 is the count; formula i has five words from 1 + 5 * i: tag, left part or name, right part, height, size; order word j stands at 10241 + j.
-- Assumes nothing: these are definitions.
use Rattle.std.specs.Prelude.{◌≡◌, List, [], ◌∷◌, ◌++◌, map, ℕ, zero, suc, ◌+◌, ◌*◌, ◌≤◌, ◌<◌, max, get_or, length, take}
use Rattle.logic.specs.Formula.{Formula, One}
use Rattle.held.specs.Signs.{node}

-- how many formulas there is room for, where the order words begin, and how many words there are
abbrev pub most : ℕ
most = 2048

abbrev pub orders : ℕ
orders = 10241

abbrev pub words : ℕ
words = 12289

abbrev pub count : List ℕ → ℕ
count m = get_or m 0 0

-- field k of formula i
abbrev pub at : List ℕ → ℕ → ℕ → ℕ
at m i k = get_or m (1 + 5 * i + k) 0

-- order word j
abbrev pub order_at : List ℕ → ℕ → ℕ
order_at m j = get_or m (10241 + j) 0

-- a tag, a left part or name and a right part as one number
abbrev pub code : ℕ → ℕ → ℕ → ℕ
code t a b = t * 4294967296 + a * 65536 + b

abbrev pub code_at : List ℕ → ℕ → ℕ
code_at m i = code (at m i 0) (at m i 1) (at m i 2)

-- the first n formulas, by number: each is made of those before it
unfoldable pub held : List ℕ → ℕ → List Formula
held m zero = []
held m (suc n) = held m n ++ (node (at m n 0) (at m n 1) (at m n 2) (held m n) ∷ [])

-- what the words say
abbrev pub view : List ℕ → List Formula
view m = held m (count m)

-- the formula with number x
abbrev pub told : List ℕ → ℕ → Formula
told m x = get_or (view m) x One

-- the formulas of the first n numbers of a list
abbrev pub named : List ℕ → List ℕ → ℕ → List Formula
named m numbers n = map (told m) (take n numbers)

-- a formula with the tag t and the parts or name a and b may stand after the first n, with the height h and the size s
pub data Row (m : List ℕ) (n t a b h s : ℕ) : Type 0 where
  unit : t < 4 → a ≡ 0 → b ≡ 0 → h ≡ 1 → s ≡ 1 → Row m n t a b h s
  name : 4 ≤ t → t < 6 → a < 65536 → b ≡ 0 → h ≡ 1 → s ≡ 3 → Row m n t a b h s
  two : 6 ≤ t → t < 11 → a < n → b < n → h ≡ 1 + max (at m a 3) (at m b 3) → s ≡ 1 + at m a 4 + at m b 4 → h ≤ 64 → s < 65536 → Row m n t a b h s
  one : 11 ≤ t → t < 13 → a < n → b ≡ 0 → h ≡ 1 + at m a 3 → s ≡ 1 + at m a 4 → h ≤ 64 → s < 65536 → Row m n t a b h s

-- formula i may stand where it stands
abbrev pub RowAt : List ℕ → ℕ → Type 0
RowAt m i = Row m i (at m i 0) (at m i 1) (at m i 2) (at m i 3) (at m i 4)

-- the first n formulas: parts before wholes, heights and sizes as they are
pub record Rows (m : List ℕ) (n : ℕ) : Type 0 where
  pub rows : (i : ℕ) → i < n → RowAt m i

-- order word j is the number of one of n formulas, and its formula's code is above the one before
pub record Placed (m : List ℕ) (n j : ℕ) : Type 0 where
  pub low : order_at m j < n
  pub above : (k : ℕ) → k + 1 ≡ j → code_at m (order_at m k) < code_at m (order_at m j)

-- the first n order words are the numbers of n formulas, by rising code
pub record Ordered (m : List ℕ) (n : ℕ) : Type 0 where
  pub places : (j : ℕ) → j < n → Placed m n j

pub record Zeros (m : List ℕ) (from to : ℕ) : Type 0 where
  pub zero : (k : ℕ) → from ≤ k → k < to → get_or m k 0 ≡ 0

-- the words are well-formed: as many as there must be, a count in range, its formulas, their order, and the rest zero
pub record Wf (m : List ℕ) : Type 0 where
  pub sized : length m ≡ words
  pub few : count m ≤ most
  pub formulas : Rows m (count m)
  pub order : Ordered m (count m)
  pub rest : Zeros m (1 + 5 * count m) orders
  pub unused : Zeros m (orders + count m) words

-- formula i is written so
pub record Same (m : List ℕ) (i t a b : ℕ) : Type 0 where
  pub tag : at m i 0 ≡ t
  pub left : at m i 1 ≡ a
  pub right : at m i 2 ≡ b

-- the words of the first n formulas are the same, and as many words
pub record Agree (m m' : List ℕ) (n : ℕ) : Type 0 where
  pub long : length m' ≡ length m
  pub same : (k : ℕ) → 1 ≤ k → k < 1 + 5 * n → get_or m' k 0 ≡ get_or m k 0

-- what is held stays held
pub record Extends (m m' : List ℕ) : Type 0 where
  pub more : count m ≤ count m'
  pub agree : Agree m m' (count m)
