-- The failures' words and what they say. Word 0 is the count; failure i has 32 words from 1 + 32 * i: how many items, then 31 items; order word j stands at 32001 + j.
-- Assumes nothing: these are definitions.
use Rattle.std.specs.Prelude.{◌≡◌, Bool, true, false, List, [], ◌∷◌, ◌++◌, ℕ, zero, suc, ◌+◌, ◌*◌, ◌≤◌, ◌<◌, get_or, length, take, drop}
use Rattle.held.specs.Words.{Zeros}
use Rattle.failures.specs.declared.Noted.{Noted}
use Rattle.failures.specs.declared.Noted.TheVariants as noted
use Rattle.failures.specs.Items.{Listing}

-- how many failures there is room for, where the order words begin, and how many words there are
abbrev pub most : ℕ
most = 1000

abbrev pub orders : ℕ
orders = 32001

abbrev pub words : ℕ
words = 33001

-- how many failures are recorded
abbrev pub tally : List ℕ → ℕ
tally f = get_or f 0 0

-- how many items failure i has, and the items
abbrev pub size_at : List ℕ → ℕ → ℕ
size_at f i = get_or f (1 + 32 * i) 0

abbrev pub item_at : List ℕ → ℕ → ℕ → ℕ
item_at f i k = get_or f (2 + 32 * i + k) 0

-- word k of failure i
abbrev pub word_at : List ℕ → ℕ → ℕ → ℕ
word_at f i k = get_or f (1 + 32 * i + k) 0

-- the first n items of failure i
abbrev pub items_at : List ℕ → ℕ → ℕ → List ℕ
items_at f i n = take n (drop (2 + 32 * i) f)

abbrev pub record_at : List ℕ → ℕ → List ℕ
record_at f i = items_at f i (size_at f i)

-- order word j
abbrev pub order_at : List ℕ → ℕ → ℕ
order_at f j = get_or f (32001 + j) 0

-- word k of a failure with the items xs: how many items, then the items
abbrev pub word_of : List ℕ → ℕ → ℕ
word_of xs k = get_or (length xs ∷ xs) k 0

-- its first k words as one number, and all of them
unfoldable pub lead : List ℕ → ℕ → ℕ
lead xs zero = 0
lead xs (suc k) = lead xs k * 65536 + word_of xs k

abbrev pub code : List ℕ → ℕ
code xs = lead xs 32

abbrev pub code_at : List ℕ → ℕ → ℕ
code_at f i = code (record_at f i)

-- the first n failures, in order of entry
unfoldable pub first : List ℕ → ℕ → List (List ℕ)
first f zero = []
first f (suc n) = first f n ++ (record_at f n ∷ [])

-- what the words say
abbrev pub records : List ℕ → List (List ℕ)
records f = first f (tally f)

-- failure i may stand where it stands: its items are of formulas that the words m hold, and the rest of its words are zero
pub record Stands (m f : List ℕ) (i : ℕ) : Type 0 where
  pub few : size_at f i ≤ 31
  pub items : Listing m (record_at f i)
  pub rest : Zeros f (2 + 32 * i + size_at f i) (33 + 32 * i)

pub record Standing (m f : List ℕ) (n : ℕ) : Type 0 where
  pub stands : (i : ℕ) → i < n → Stands m f i

-- no two of the first n failures have the same items
pub record Different (f : List ℕ) (n : ℕ) : Type 0 where
  pub apart : (i j : ℕ) → i < j → j < n → record_at f i ≡ record_at f j → ⊥

-- order word j is the number of one of n failures, and its failure comes after the one before: it has more items, or as many and a higher one where they first differ
pub record Placed (f : List ℕ) (n j : ℕ) : Type 0 where
  pub low : order_at f j < n
  pub above : (k : ℕ) → k + 1 ≡ j → code_at f (order_at f k) < code_at f (order_at f j)

-- the first n order words are the numbers of n failures, in that order; so no failure stands twice (OrderLaws: `wf_different`)
pub record Ordered (f : List ℕ) (n : ℕ) : Type 0 where
  pub places : (j : ℕ) → j < n → Placed f n j

-- the words f are well-formed over the words m of formulas: as many as there must be, a count in range, its failures, their order, and the rest zero
pub record WfFailures (m f : List ℕ) : Type 0 where
  pub sized : length f ≡ words
  pub few : tally f ≤ most
  pub failures : Standing m f (tally f)
  pub order : Ordered f (tally f)
  pub rest : Zeros f (1 + 32 * tally f) orders
  pub unused : Zeros f (orders + tally f) words

-- the first n failures lie within the words
pub record Sized (f : List ℕ) (n : ℕ) : Type 0 where
  pub long : length f ≡ words
  pub low : n ≤ most
  pub small : (i : ℕ) → i < n → size_at f i ≤ 31

-- and stand in order: what looking a failure up and recording it ask for
pub record Kept (f : List ℕ) (n : ℕ) : Type 0 where
  pub within : Sized f n
  pub order : Ordered f n

-- one of the first n failures has the items xs
pub record Among (f : List ℕ) (n : ℕ) (xs : List ℕ) : Type 0 where
  pub place : ℕ
  pub low : place < n
  pub here : record_at f place ≡ xs

-- the failure n written with the items xs and put in order, and nothing else changed but the count
pub record Appended (f : List ℕ) (n : ℕ) (xs : List ℕ) (f' : List ℕ) : Type 0 where
  pub long : length f' ≡ length f
  pub counted : tally f' ≡ n + 1
  pub size : size_at f' n ≡ length xs
  pub here : record_at f' n ≡ xs
  pub order : Ordered f' (n + 1)
  pub before : (k : ℕ) → 1 ≤ k → k < 1 + 32 * n → get_or f' k 0 ≡ get_or f k 0
  pub after : (k : ℕ) → 2 + 32 * n + length xs ≤ k → k < orders → get_or f' k 0 ≡ get_or f k 0
  pub unused : (k : ℕ) → orders + n < k → get_or f' k 0 ≡ get_or f k 0

-- a failure that was recorded before; a new one, which stands last; or no room for it
pub record WasKnown (f xs f' : List ℕ) : Type 0 where
  pub same : f' ≡ f
  pub known : Among f (tally f) xs

pub record WasNew (f xs f' : List ℕ) : Type 0 where
  pub room : tally f < most
  pub new : Among f (tally f) xs → ⊥
  pub appended : Appended f (tally f) xs f'

pub record NoRoom (f xs f' : List ℕ) : Type 0 where
  pub same : f' ≡ f
  pub full : tally f ≡ most
  pub new : Among f (tally f) xs → ⊥

abbrev pub NotedTo : List ℕ → List ℕ → Noted → List ℕ → Type 0
NotedTo f xs noted.Known f' = WasKnown f xs f'
NotedTo f xs noted.Recorded f' = WasNew f xs f'
NotedTo f xs noted.Full f' = NoRoom f xs f'

-- no failure is recorded, or the words are not as many as there must be
abbrev pub ResetTo : List ℕ → Bool → List ℕ → Type 0
ResetTo f true f' = (length f' ≡ words) × Zeros f' 0 words
ResetTo f false f' = (f' ≡ f) × (length f ≡ words → ⊥)
