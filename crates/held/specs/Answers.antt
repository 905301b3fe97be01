-- What the functions on rows, order words and entries answer. Assumes nothing: these are definitions.
use Rattle.std.specs.Prelude.{◌≡◌, Bool, true, false, List, [], ℕ, ◌+◌, ◌*◌, ◌≤◌, ◌<◌, max, get_or, length, Err, None, Ok, Option, Result, Some}
use Rattle.logic.specs.Formula.{Formula, among}
use Rattle.logic.specs.Held.{add}
use Rattle.held.specs.Words.{at, order_at, code, code_at, count, most, words, orders, view, told, Row, Wf, Agree, Extends}
use Rattle.held.specs.declared.rows.Weight.{Weight}

-- a bool that tells whether a claim holds
abbrev pub Tells : Bool → Type 0 → Type 0
Tells true P = P
Tells false P = P → ⊥

pub record Field (m : List ℕ) (i k r : ℕ) : Type 0 where
  pub value : r ≡ at m i k
  pub fits : r < 65536

pub record OrderWord (m : List ℕ) (j r : ℕ) : Type 0 where
  pub value : r ≡ order_at m j
  pub fits : r < 65536

-- the height and the size of a formula that may stand after the first n, or that it may not
abbrev pub Weighed : List ℕ → ℕ → ℕ → ℕ → ℕ → Option Weight → Type 0
Weighed m n t a b (Some w) = Row m n t a b w.height w.size
Weighed m n t a b None = (h s : ℕ) → Row m n t a b h s → ⊥

-- one more than the greater height, and one more than the two sizes, where both are in bounds
abbrev pub Joined : ℕ → ℕ → ℕ → ℕ → Option Weight → Type 0
Joined h₁ h₂ s₁ s₂ (Some w) = ((w.height ≡ 1 + max h₁ h₂) × (w.size ≡ 1 + s₁ + s₂)) × ((w.height ≤ 64) × (w.size < 65536))
Joined h₁ h₂ s₁ s₂ None = 1 + max h₁ h₂ ≤ 64 → 1 + s₁ + s₂ < 65536 → ⊥

-- a test answers p at each number below n
abbrev pub Tested : (ℕ → Bool → Type 0) → (ℕ → Bool) → ℕ → Type 0
Tested answers p n = (i : ℕ) (b : Bool) → i < n → answers i b → b ≡ p i

-- no number below n passes after one that does not
abbrev pub Falling : (ℕ → Bool) → ℕ → Type 0
Falling p n = (i j : ℕ) → i ≤ j → j < n → p j ≡ true → p i ≡ true

-- of the numbers below n those below r pass, and the others not
pub record Halved (p : ℕ → Bool) (n r : ℕ) : Type 0 where
  pub low : r ≤ n
  pub below : (j : ℕ) → j < r → p j ≡ true
  pub above : (j : ℕ) → r ≤ j → j < n → p j ≡ false

-- of the first n order words, those below p have smaller codes than c, and the others not
pub record Place (m : List ℕ) (n c p : ℕ) : Type 0 where
  pub low : p ≤ n
  pub below : (j : ℕ) → j < p → code_at m (order_at m j) < c
  pub above : (j : ℕ) → p ≤ j → j < n → c ≤ code_at m (order_at m j)

-- no formula has the code c, and its order word would go to p
pub record Gap (m : List ℕ) (n c p : ℕ) : Type 0 where
  pub low : p ≤ n
  pub below : (j : ℕ) → j < p → code_at m (order_at m j) < c
  pub above : (j : ℕ) → p ≤ j → j < n → c < code_at m (order_at m j)

-- which of the first n formulas has the code c, or where its order word would go
abbrev pub LocatedIn : List ℕ → ℕ → ℕ → Result ℕ ℕ → Type 0
LocatedIn m n c (Ok i) = (i < n) × (code_at m i ≡ c)
LocatedIn m n c (Err p) = Gap m n c p

-- v put at place p of n order words, and nothing else changed
pub record Inserted (m : List ℕ) (n p v : ℕ) (m' : List ℕ) : Type 0 where
  pub long : length m' ≡ length m
  pub below : (j : ℕ) → j < p → order_at m' j ≡ order_at m j
  pub here : order_at m' p ≡ v
  pub above : (j : ℕ) → p ≤ j → j < n → order_at m' (j + 1) ≡ order_at m j
  pub after : (j : ℕ) → n < j → order_at m' j ≡ order_at m j
  pub rows : (k : ℕ) → k < orders → get_or m' k 0 ≡ get_or m k 0

-- the order word at place p of n + 1 taken out, and nothing else changed
pub record Removed (m : List ℕ) (n p : ℕ) (m' : List ℕ) : Type 0 where
  pub long : length m' ≡ length m
  pub below : (j : ℕ) → j < p → order_at m' j ≡ order_at m j
  pub above : (j : ℕ) → p ≤ j → j < n → order_at m' j ≡ order_at m (j + 1)
  pub last : order_at m' n ≡ 0
  pub after : (j : ℕ) → n < j → order_at m' j ≡ order_at m j
  pub rows : (k : ℕ) → k < orders → get_or m' k 0 ≡ get_or m k 0

-- there is room for formula n, and each number fits a word
pub record Room (m : List ℕ) (n t a b h s c : ℕ) : Type 0 where
  pub sized : length m ≡ words
  pub few : n < most
  pub tag : t < 65536
  pub left : a < 65536
  pub right : b < 65536
  pub tall : h < 65536
  pub wide : s < 65536
  pub counted : c < 65536

-- the five words of formula n and the count written, and nothing else changed
pub record Written (m : List ℕ) (n t a b h s c : ℕ) (m' : List ℕ) : Type 0 where
  pub long : length m' ≡ length m
  pub counted : count m' ≡ c
  pub tag : at m' n 0 ≡ t
  pub left : at m' n 1 ≡ a
  pub right : at m' n 2 ≡ b
  pub tall : at m' n 3 ≡ h
  pub wide : at m' n 4 ≡ s
  pub before : (k : ℕ) → 1 ≤ k → k < 1 + 5 * n → get_or m' k 0 ≡ get_or m k 0
  pub after : (k : ℕ) → 6 + 5 * n ≤ k → get_or m' k 0 ≡ get_or m k 0

-- what the caller of `add` and `find` shows: the tag and the parts may stand next
pub record Next (m : List ℕ) (t a b : ℕ) : Type 0 where
  pub wf : Wf m
  pub tall : ℕ
  pub wide : ℕ
  pub row : Row m (count m) t a b tall wide

-- the same with the place of its order word
pub record Entry (m : List ℕ) (n p t a b : ℕ) : Type 0 where
  pub next : Next m t a b
  pub counted : n ≡ count m
  pub gap : Gap m n (code t a b) p

-- which number the formula f has
abbrev pub NumberOf : List ℕ → Formula → Option ℕ → Type 0
NumberOf m f (Some i) = (i < count m) × (told m i ≡ f)
NumberOf m f None = (i : ℕ) → i < count m → told m i ≡ f → ⊥

-- the formula f is held: nothing changes, or it stands last; or there is no room, and nothing changes
pub record Stored (m : List ℕ) (f : Formula) (i : ℕ) (m' : List ℕ) : Type 0 where
  pub wf : Wf m'
  pub all : view m' ≡ add f (view m)
  pub low : i < count m'
  pub here : told m' i ≡ f
  pub grew : Extends m m'

pub record NoRoom (m : List ℕ) (f : Formula) (m' : List ℕ) : Type 0 where
  pub same : m' ≡ m
  pub full : count m ≡ most
  pub new : among f (view m) ≡ false

abbrev pub AddedTo : List ℕ → Formula → Option ℕ → List ℕ → Type 0
AddedTo m f (Some i) m' = Stored m f i m'
AddedTo m f None m' = NoRoom m f m'

-- the formulas from n on taken back
pub record TakenBack (m : List ℕ) (n : ℕ) (m' : List ℕ) : Type 0 where
  pub wf : Wf m'
  pub counted : count m' ≡ n
  pub agree : Agree m m' n

abbrev pub ResetTo : List ℕ → Bool → List ℕ → Type 0
ResetTo m true m' = Wf m' × (view m' ≡ [])
ResetTo m false m' = (m' ≡ m) × (length m ≡ words → ⊥)
