-- The byte form of short trees, read (document 02, 11/12): a short tree and the bytes left over, or the refusal that comes first. Assumes nothing.
use Rattle.std.specs.Prelude.{Bool, true, false, List, [], ◌∷◌, ℕ, zero, suc, ◌+◌, ◌*◌, ◌-◌}
use Rattle.logic.specs.Tree.{
  Rule,
  Axiom,
  OneIntro,
  BottomIntro,
  TensorIntro,
  ParIntro,
  TopIntro,
  WithIntro,
  PlusIntroLeft,
  PlusIntroRight,
  OfCourseIntro,
  WhyNotIntro,
  Weakening,
  Contraction,
  Dereliction,
}
use Rattle.logic.specs.Answer.{wrong_number, too_high}
use Rattle.short.specs.Short.{Short, Shorts, short, □, ◌▸◌, follow}
use Rattle.wire.specs.Read.{Read, got, refused, ◌then◌, entry, read_byte, read_two, at_end, read_message, highest_tree}
use Rattle.short_bytes.specs.Write.{has_mask}

-- a number of four bytes
unfoldable pub read_four : List ℕ → Read ℕ
read_four bs = read_two bs then λ h bs. read_two bs then λ l bs. got (h * 65536 + l) bs

-- rules by number; 1 is Cut, and 15 to 17 are the focus rules and Blur: they have no short form
abbrev pub short_rules : List (Read Rule)
short_rules =
    got Axiom []
    ∷ refused wrong_number
    ∷ got OneIntro []
    ∷ got BottomIntro []
    ∷ got TensorIntro []
    ∷ got ParIntro []
    ∷ got TopIntro []
    ∷ got WithIntro []
    ∷ got PlusIntroLeft []
    ∷ got PlusIntroRight []
    ∷ got OfCourseIntro []
    ∷ got WhyNotIntro []
    ∷ got Weakening []
    ∷ got Contraction []
    ∷ got Dereliction []
    ∷ []

-- a mask where one is written; elsewhere it is 0
unfoldable pub read_mask : Bool → List ℕ → Read ℕ
read_mask true bs = read_four bs
read_mask false bs = got 0 bs

-- so many premises, one after another
unfoldable pub read_short_premises : (List ℕ → Read Short) → ℕ → List ℕ → Read Shorts
read_short_premises premise zero bs = got □ bs
read_short_premises premise (suc n) bs = premise bs then λ s bs. read_short_premises premise n bs then λ ss bs. got (s ▸ ss) bs

-- a node of at most so many levels: no byte 3, height 5, rule 2, place 3, mask 3; then as many premises as the rule has
unfoldable pub read_short_node : (levels : ℕ) → List ℕ → Read Short
read_short_node zero bs = read_byte bs then λ n bs. refused too_high
read_short_node (suc levels) bs =
    read_byte bs then λ n bs.
    entry short_rules n wrong_number λ known.
    known then λ r _.
    read_byte bs then λ place bs.
    read_mask (has_mask r) bs then λ mask bs.
    read_short_premises (read_short_node levels) (follow r) bs then λ ss bs.
    got (short r place mask ss) bs

-- the version byte one lower: 2 becomes 1, and every other number one that is no version
unfoldable pub version_down : List ℕ → List ℕ
version_down [] = []
version_down (version ∷ bs) = (version - 1) ∷ bs

-- a message of version 2 reads as one of version 1 does
unfoldable pub read_message_two : List ℕ → Read (List ℕ)
read_message_two bs = read_message (version_down bs)

unfoldable pub read_short : List ℕ → Read Short
read_short bs = read_message_two bs then λ body _. read_short_node highest_tree body then λ s rest. at_end s rest
