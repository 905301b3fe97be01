-- What the functions on bytes, steps and trees ask and answer. Assumes nothing: these are definitions.
use Rattle.std.specs.Prelude.{◌≡◌, Bool, true, false, List, [], ◌∷◌, ℕ, ◌+◌, ◌*◌, ◌≤◌, ◌<◌, get_or, length, take}
use Rattle.std.proofs.Math.Option.{Option, none, some}
use Rattle.std.proofs.lemmas.List.Edits.{sets}
use Rattle.logic.specs.Formula.{among, spell, size}
use Rattle.logic.specs.Sequent.{Sequent, ◌﹔◌, count}
use Rattle.logic.specs.Built.{decomposable}
use Rattle.logic.specs.Tree.{Rule}
use Rattle.wire.specs.Write.{write_formulas, write_zone}
use Rattle.held.specs.Words as words
use Rattle.held.specs.Words.{view, told, named, Wf}
use Rattle.zones.specs.declared.Zones.{Zones}
use Rattle.zones.specs.Zones.{Fits, Within, Below, meant}
use Rattle.expand.specs.Short.{Step, ◌by◌, step, spelled}
use Rattle.expand.specs.InMemory.{Kept}
use Rattle.expand.specs.Negations.{Negated}

-- the bytes stand in the output from place `to` on, and nothing else has changed
pub record Wrote (out : List ℕ) (to : ℕ) (bs out' : List ℕ) (next : ℕ) : Type 0 where
  pub after : next ≡ to + length bs
  pub written : out' ≡ sets out to bs

-- formula x is held, and the output has room for it
pub record FormulaRoom (m : List ℕ) (x : ℕ) (out : List ℕ) (to : ℕ) : Type 0 where
  pub wf : Wf m
  pub low : x < words.count m
  pub room : to + size (told m x) ≤ length out

-- the first n items name held formulas
pub record Items (m items : List ℕ) (n : ℕ) : Type 0 where
  pub wf : Wf m
  pub sized : n ≤ length items
  pub few : n ≤ 31
  pub below : Below (words.count m) (take n items)

pub record ItemsRoom (m items : List ℕ) (n : ℕ) (out : List ℕ) (to : ℕ) : Type 0 where
  pub good : Items m items n
  pub room : to + length (write_formulas (named m items n)) ≤ length out

pub record ZoneRoom (m items : List ℕ) (n : ℕ) (out : List ℕ) (to : ℕ) : Type 0 where
  pub good : Items m items n
  pub room : to + length (write_zone (named m items n)) ≤ length out
  pub short : length (write_formulas (named m items n)) < 65536

-- how many bytes they take
pub record Weighs (m items : List ℕ) (n r : ℕ) : Type 0 where
  pub bytes : r ≡ length (write_formulas (named m items n))
  pub small : r ≤ n * 65535

-- the memory is well-formed, and the zones fit and name held formulas
pub record Sound (m : List ℕ) (z : Zones) : Type 0 where
  pub wf : Wf m
  pub fits : Fits z
  pub within : Within (words.count m) z

-- the zones mean this sequent
pub record Means (m : List ℕ) (q : Sequent) (z : Zones) : Type 0 where
  pub sound : Sound m z
  pub means : meant (told m) z ≡ q

-- the tags of what `prove_async` decomposes: Bottom, Top, Par, With, Lolli, WhyNot
abbrev pub decomposes : ℕ → Bool
decomposes t = get_or (false ∷ true ∷ true ∷ false ∷ false ∷ false ∷ false ∷ true ∷ true ∷ false ∷ true ∷ false ∷ true ∷ []) t false

-- r is the place of the first decomposable formula, or how many there are
pub record FirstAt (m : List ℕ) (z : Zones) (r : ℕ) : Type 0 where
  pub low : r ≤ z.linear_len
  pub passed : (k : ℕ) → k < r → decomposable (told m (get_or z.linear k 0)) ≡ false
  pub here : r < z.linear_len → decomposable (told m (get_or z.linear r 0)) ≡ true

-- formula x is an implication, and it is held spelled out
pub record Spellable (m table : List ℕ) (x : ℕ) : Type 0 where
  pub table_is : Negated m table
  pub low : x < words.count m
  pub lolli : words.at m x 0 ≡ 10
  pub held : among (spell (told m x)) (view m) ≡ true

pub record SpelledAs (m : List ℕ) (x r : ℕ) : Type 0 where
  pub low : r < words.count m
  pub here : told m r ≡ spell (told m x)

-- what `spelled` asks
pub record SpellsOut (m table : List ℕ) (z : Zones) : Type 0 where
  pub table_is : Negated m table
  pub sound : Sound m z
  pub kept : Kept (view m) (spelled (meant (told m) z))

-- how many premises each rule has, by its number
abbrev pub premise_counts : List ℕ
premise_counts = 0 ∷ 0 ∷ 0 ∷ 1 ∷ 2 ∷ 1 ∷ 0 ∷ 2 ∷ 1 ∷ 1 ∷ 1 ∷ 1 ∷ 1 ∷ 1 ∷ 1 ∷ []

-- the first premise of a step, and the second
abbrev pub first_of : Option Step → Sequent
first_of none = [] ﹔ []
first_of (some s) = get_or s.premises 0 ([] ﹔ [])

abbrev pub second_of : Option Step → Sequent
second_of none = [] ﹔ []
second_of (some s) = get_or s.premises 1 ([] ﹔ [])

-- the word is a step with a premise that fits; and with a second one
pub record Stepping (m : List ℕ) (z : Zones) (w : ℕ) : Type 0 where
  pub sound : Sound m z
  pub rule : Rule
  pub first : Sequent
  pub others : List Sequent
  pub takes : step (meant (told m) z) w ≡ some (first ∷ others by rule)
  pub few : count first ≤ 31

pub record Stepping₂ (m : List ℕ) (z : Zones) (w : ℕ) : Type 0 where
  pub sound : Sound m z
  pub rule : Rule
  pub first : Sequent
  pub second : Sequent
  pub takes : step (meant (told m) z) w ≡ some (first ∷ second ∷ [] by rule)
  pub few : count second ≤ 31
