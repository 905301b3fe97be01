-- The byte form of short trees, written (document 02, 11/12): a message of version byte 2 whose nodes stand in preorder, each its rule, one byte for its place and, at TensorIntro alone, the
-- mask of the split in four bytes. How many premises follow is the rule's and is not written. Assumes nothing.
use Rattle.std.specs.Prelude.{Bool, true, false, List, [], ◌∷◌, ◌++◌, ℕ, ◌/◌, ◌%◌, length}
use Rattle.logic.specs.Tree.{
  Rule,
  Axiom,
  Cut,
  OneIntro,
  BottomIntro,
  TensorIntro,
  ParIntro,
  TopIntro,
  WithIntro,
  PlusIntroLeft,
  PlusIntroRight,
  OfCourseIntro,
  WhyNotIntro,
  Weakening,
  Contraction,
  Dereliction,
  FocusPositive,
  FocusNegative,
  Blur,
}
use Rattle.short.specs.Short.{Short, Shorts, short, □, ◌▸◌}
use Rattle.wire.specs.Write.{two_bytes, write_rule}

-- a number of four bytes, big-endian
abbrev pub four_bytes : ℕ → List ℕ
four_bytes n = two_bytes (n / 65536) ++ two_bytes (n % 65536)

-- a mask follows this rule's place
unfoldable pub has_mask : Rule → Bool
has_mask Axiom = false
has_mask (Cut c) = false
has_mask OneIntro = false
has_mask BottomIntro = false
has_mask TensorIntro = true
has_mask ParIntro = false
has_mask TopIntro = false
has_mask WithIntro = false
has_mask PlusIntroLeft = false
has_mask PlusIntroRight = false
has_mask OfCourseIntro = false
has_mask WhyNotIntro = false
has_mask Weakening = false
has_mask Contraction = false
has_mask Dereliction = false
has_mask (FocusPositive i) = false
has_mask (FocusNegative i) = false
has_mask Blur = false

unfoldable pub write_mask : Bool → ℕ → List ℕ
write_mask true mask = four_bytes mask
write_mask false mask = []

-- a rule is written as in a full tree: its number alone, as no rule with a short form has an argument
unfoldable mutual
  pub write_short_node : Short → List ℕ
  write_short_node (short r place mask ss) = write_rule r ++ (place ∷ (write_mask (has_mask r) mask ++ write_short_nodes ss))

  pub write_short_nodes : Shorts → List ℕ
  write_short_nodes □ = []
  write_short_nodes (s ▸ ss) = write_short_node s ++ write_short_nodes ss

-- a message of version 2: the version byte, the length of all that follows, and that
unfoldable pub message_two : List ℕ → List ℕ
message_two body = 2 ∷ (two_bytes (length body) ++ body)

unfoldable pub write_short : Short → List ℕ
write_short s = message_two (write_short_node s)
