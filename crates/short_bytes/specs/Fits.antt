-- What fits the byte form of short trees: rules with a short form, a place of one byte, a mask of four bytes at TensorIntro and 0 elsewhere, as many premises as the rule has, 65 levels, a body
-- of at most 65,535 bytes. And what it means that bytes were read back. Assumes nothing.
use Rattle.std.specs.Prelude.{◌≡◌, Bool, true, false, List, [], ◌∷◌, ◌++◌, ℕ, ◌≤◌, ◌<◌, length}
use Rattle.logic.specs.Tree.{
  Rule,
  Axiom,
  Cut,
  OneIntro,
  BottomIntro,
  TensorIntro,
  ParIntro,
  TopIntro,
  WithIntro,
  PlusIntroLeft,
  PlusIntroRight,
  OfCourseIntro,
  WhyNotIntro,
  Weakening,
  Contraction,
  Dereliction,
  FocusPositive,
  FocusNegative,
  Blur,
}
use Rattle.short.specs.Short.{Short, Shorts, short, □, ◌▸◌, height, heights, many, follow}
use Rattle.wire.specs.Write.{write_rule}
use Rattle.wire.specs.Read.{Read, highest_tree}
use Rattle.wire.specs.Fits.{ReadRefusal}
use Rattle.wire.specs.Gives.{Gives}
use Rattle.short_bytes.specs.Write.{has_mask, write_short_node, write_short_nodes, message_two, write_short}

-- Cut, the focus rules and Blur have no short form
abbrev pub HasShort : Rule → Type 0
HasShort Axiom = Unit {0}
HasShort (Cut c) = ⊥
HasShort OneIntro = Unit {0}
HasShort BottomIntro = Unit {0}
HasShort TensorIntro = Unit {0}
HasShort ParIntro = Unit {0}
HasShort TopIntro = Unit {0}
HasShort WithIntro = Unit {0}
HasShort PlusIntroLeft = Unit {0}
HasShort PlusIntroRight = Unit {0}
HasShort OfCourseIntro = Unit {0}
HasShort WhyNotIntro = Unit {0}
HasShort Weakening = Unit {0}
HasShort Contraction = Unit {0}
HasShort Dereliction = Unit {0}
HasShort (FocusPositive i) = ⊥
HasShort (FocusNegative i) = ⊥
HasShort Blur = ⊥

-- a mask where one is written; and elsewhere
abbrev pub MaskFits : Bool → ℕ → Type 0
MaskFits true mask = mask < 4294967296
MaskFits false mask = mask ≡ 0

-- a node by itself; and every node of a short tree
pub record ShortNodeFits (r : Rule) (place mask : ℕ) (ss : Shorts) : Type 0 where
  pub rule_short : HasShort r
  pub place_fits : place < 256
  pub mask_fits : MaskFits (has_mask r) mask
  pub premises_follow : many ss ≡ follow r

abbrev mutual
  pub ShortNodesFit : Short → Type 0
  ShortNodesFit (short r place mask ss) = ShortNodeFits r place mask ss × ShortNodesFit* ss

  pub ShortNodesFit* : Shorts → Type 0
  ShortNodesFit* □ = Unit {0}
  ShortNodesFit* (s ▸ ss) = ShortNodesFit s × ShortNodesFit* ss

pub record ShortFits (s : Short) : Type 0 where
  pub nodes_fit : ShortNodesFit s
  pub height_fits : height s ≤ highest_tree
  pub body_short : length (write_short_node s) ≤ 65535

-- a node, a list of premises, and what is left over
pub record ShortNodeBack (levels : ℕ) (bs : List ℕ) (s : Short) (rest : List ℕ) : Type 0 where
  pub bytes_are : bs ≡ write_short_node s ++ rest
  pub height_fits : height s ≤ levels
  pub nodes_fit : ShortNodesFit s

pub record ShortPremisesBack (levels n : ℕ) (bs : List ℕ) (ss : Shorts) (rest : List ℕ) : Type 0 where
  pub bytes_are : bs ≡ write_short_nodes ss ++ rest
  pub count_is : many ss ≡ n
  pub heights_fit : heights ss ≤ levels
  pub nodes_fit : ShortNodesFit* ss

-- the whole slice was a message of version 2 with that body; a short tree's bytes
pub record MessageTwoBack (bs : List ℕ) (body rest : List ℕ) : Type 0 where
  pub bytes_are : message_two body ≡ bs
  pub none_left : rest ≡ []
  pub body_short : length body ≤ 65535

pub record ShortBack (bs : List ℕ) (s : Short) (rest : List ℕ) : Type 0 where
  pub bytes_are : write_short s ≡ bs
  pub none_left : rest ≡ []
  pub fits : ShortFits s

-- a rule's entry in the table is what is written under that number; a rule without short form is refused
abbrev pub ShortRuleWritten : ℕ → Read Rule → Type 0
ShortRuleWritten n known = Gives (λ r rest. (write_rule r ≡ n ∷ []) × HasShort r) ReadRefusal known
