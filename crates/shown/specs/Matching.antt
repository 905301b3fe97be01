-- What comparing held formulas with formulas in bytes answers. A contract speaks of any formulas that stand at the places. Assumes nothing: these are definitions.
use Rattle.std.specs.Prelude.{◌≡◌, Bool, true, false, ◌&&◌, List, [], ◌∷◌, ℕ, zero, suc, ◌+◌, ◌≤◌, ◌<◌, eqb, length, drop, map, Option, Some, None}
use Rattle.logic.specs.Formula.{Formula, same, spell, size}
use Rattle.logic.specs.Sequent.{Sequent}
use Rattle.logic.specs.Tree.{Rule, Trees, node}
use Rattle.logic.specs.Conclusion.{concluded}
use Rattle.wire.specs.Write.{write_formula, write_node}
use Rattle.wire.specs.Fits.{NodeFits}
use Rattle.tree.specs.Stands.{Stands}
use Rattle.tree.specs.Places.{Holds}
use Rattle.tree.specs.declared.Span.{Span}
use Rattle.bags.specs.Reading.{read_as, rest_of, unary, binary, left_how, right_how}
use Rattle.bags.specs.declared.How.{How}
use Rattle.bags.specs.declared.How.TheVariants.{Plain, Spelled}
use Rattle.held.specs.Words.{at, count, told, Wf}
use Rattle.zones.specs.declared.Zones.{Zones}
use Rattle.zones.specs.Zones.{Below, meant}
use Rattle.short.specs.Shortening.{same_zone, same_sequent}
use Rattle.shown.specs.declared.Tops.{Tops}
use Rattle.shown.specs.declared.Tops.TheVariants.{Told, One, Two}

-- a held formula and a place of the message
pub record Comparing (m : List ℕ) (x : ℕ) (s : List ℕ) (at : ℕ) : Type 0 where
  pub wf : Wf m
  pub low : x < count m
  pub inside : at ≤ length s

unfoldable pub matched : Bool → ℕ → Option ℕ
matched true next = Some next
matched false next = None

-- the place after the formula lies in the message
abbrev pub Inside : ℕ → Option ℕ → Type 0
Inside len (Some next) = next ≤ len
Inside len None = Unit {0}

abbrev pub TopsInside : ℕ → Tops → Type 0
TopsInside len (Told r) = Inside len r
TopsInside len One = Unit {0}
TopsInside len Two = Unit {0}

module _ (m : List ℕ) (x : ℕ) (how : How) (s : List ℕ) (place : ℕ) where
  -- the formulas are the same exactly where their only parts are; or where their left parts and their right parts are
  pub record OnePart (f : Formula) : Type 0 where
    pub part : Formula
    pub of_f : rest_of f ≡ unary part
    pub both : same f (read_as how (told m x)) ≡ same part (read_as (left_how (at m x 0) how) (told m (at m x 1)))

  pub record TwoParts (f : Formula) : Type 0 where
    pub left : Formula
    pub right : Formula
    pub of_f : rest_of f ≡ binary left right
    pub both : same f (read_as how (told m x)) ≡ same left (read_as (left_how (at m x 0) how) (told m (at m x 1))) && same right (read_as (right_how how) (told m (at m x 2)))

  abbrev pub Tell : Formula → Tops → Type 0
  Tell f (Told r) = r ≡ matched (same f (read_as how (told m x))) (place + size f)
  Tell f One = OnePart f
  Tell f Two = TwoParts f

  -- parts stand before their wholes, so a comparison of parts is one of smaller numbers
  abbrev pub PartsBelow : Tops → Type 0
  PartsBelow (Told r) = Unit {0}
  PartsBelow One = at m x 1 < x
  PartsBelow Two = (at m x 1 < x) × (at m x 2 < x)

  pub record TopsAre (r : Tops) : Type 0 where
    pub inside : TopsInside (length s) r
    pub below : PartsBelow r
    pub right : (f : Formula) → Stands s place (write_formula f) → Tell f r

  pub record Matches (r : Option ℕ) : Type 0 where
    pub inside : Inside (length s) r
    pub right : (f : Formula) → Stands s place (write_formula f) → r ≡ matched (same f (read_as how (told m x))) (place + size f)

-- what an answer tells of the formula f at a place: where it is the same, and where it ends; or that it is not
pub record MatchTells (m : List ℕ) (x : ℕ) (how : How) (place : ℕ) (f : Formula) (r : Option ℕ) : Type 0 where
  pub same_formula : {next : ℕ} → r ≡ Some next → f ≡ read_as how (told m x)
  pub next_place : {next : ℕ} → r ≡ Some next → next ≡ place + size f
  pub other_formula : r ≡ None → f ≡ read_as how (told m x) → ⊥

-- how the item at place k is read, where the one at place `spelled`, if there is one, is spelled out
abbrev pub how_of : ℕ → Option ℕ → How
how_of k None = Plain
how_of k (Some spelled) = elim (eqb k spelled) [ true ↦ Spelled | false ↦ Plain ]

-- the formulas with the one at place k spelled out at its top
unfoldable pub spell_nth : ℕ → List Formula → List Formula
spell_nth k [] = []
spell_nth zero (f ∷ fs) = spell f ∷ fs
spell_nth (suc k) (f ∷ fs) = f ∷ spell_nth k fs

-- the formulas with the one at that place, if there is one, spelled out at its top
abbrev pub spell_one : Option ℕ → List Formula → List Formula
spell_one None fs = fs
spell_one (Some k) fs = spell_nth k fs

-- formulas from place k on, each read as an item of its place is
unfoldable pub read_from : ℕ → Option ℕ → List Formula → List Formula
read_from k spelled [] = []
read_from k spelled (f ∷ fs) = read_as (how_of k spelled) f ∷ read_from (suc k) spelled fs

-- the items from place k on
abbrev pub items_from : (m items : List ℕ) (spelled : Option ℕ) (k : ℕ) → List Formula
items_from m items spelled k = read_from k spelled (drop k (map (told m) items))

-- the items are numbers of held formulas
pub record Listed (m items : List ℕ) : Type 0 where
  pub wf : Wf m
  pub few : length items ≤ 31
  pub below : Below (count m) items

pub record ZoneShown (m items : List ℕ) (spelled : Option ℕ) (s : List ℕ) (zone : Span) (r : Bool) : Type 0 where
  pub right : (fs : List Formula) → Holds s zone fs → r ≡ same_zone (spell_one spelled (map (told m) items)) fs

-- the items from place k on are still to be compared with what the zone holds from p on: the loop's invariant
module _ (m items : List ℕ) (spelled : Option ℕ) (s : List ℕ) (start end p k : ℕ) where
  pub record Remaining (fs : List Formula) : Type 0 where
    pub rest : List Formula
    pub holds : Holds s (record { start = p; end = end }) rest
    pub so : same_zone (spell_one spelled (map (told m) items)) fs ≡ same_zone (items_from m items spelled k) rest

  pub record Showing : Type 0 where
    pub few : k ≤ length items
    pub inside : p ≤ length s
    pub left : (fs : List Formula) → Holds s (record { start = start; end = end }) fs → Remaining fs

pub record UnrestrictedShown (m : List ℕ) (z : Zones) (s : List ℕ) (zone : Span) (r : Bool) : Type 0 where
  pub right : (fs : List Formula) → Holds s zone fs → r ≡ same_zone (meant (told m) z).unrestricted fs

-- the node at a place concludes the sequent, an implication that is its first decomposable formula spelled out
pub record Shown (m : List ℕ) (z : Zones) (s : List ℕ) (place : ℕ) (r : Bool) : Type 0 where
  pub right : (rule : Rule) (q : Sequent) (ps : Trees) → Stands s place (write_node (node rule q ps)) → NodeFits rule q ps
      → r ≡ same_sequent (concluded (meant (told m) z)) q
