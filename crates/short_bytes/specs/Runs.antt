-- Short trees of worked examples as bytes, by computing: the program's example both ways, and runs for each way of being refused. Bytes are in hex, as a number with its
-- count of bytes in front. Assumes nothing.
use Rattle.std.specs.Prelude.{◌≡◌, refl, List, [], ◌∷◌, ◌++◌, map, ℕ, zero, suc, ◌/◌, ◌%◌, ◌^◌}
use Rattle.logic.specs.Tree.{Axiom, OneIntro, BottomIntro, TensorIntro, WithIntro, Dereliction}
use Rattle.logic.specs.Answer.{number, wrong_number}
use Rattle.short.specs.Short.{Short, short, □, ◌▸◌, follow}
use Rattle.wire.specs.Write.{write_rule}
use Rattle.wire.specs.Read.{Read, got, refused, ◌then◌, entry, read_byte, read_two, at_end, read_message, read_tree}
use Rattle.short_bytes.specs.Write.{has_mask, write_mask, write_short_node, write_short_nodes, message_two, write_short}
use Rattle.short_bytes.specs.Read.{read_four, read_mask, read_short_premises, read_short_node, version_down, read_message_two, read_short}

-- the last n bytes of a number
abbrev hex : ℕ → ℕ → List ℕ
hex zero x = []
hex (suc n) x = (x / 256 ^ n % 256) ∷ hex n x

-- the program's example: the tensor is at place 1, and of the others the second goes right
abbrev example : Short
example = short TensorIntro 1 2 (short Axiom 0 0 □ ▸ short Axiom 0 0 □ ▸ □)

abbrev example_bytes : List ℕ
example_bytes = hex 13 0x02_000A_04_01_00000002_00_00_00_00

example_written : write_short example ≡ example_bytes
unfolding write_short message_two write_short_node write_short_nodes write_rule has_mask write_mask
example_written = refl

-- what a run answers: a short tree, or document 01's number of a refusal
pub data Output : Type 0 where
  a_short : Short → Output
  refusal : ℕ → Output
  bytes_left : Output

abbrev answer : Read Short → Output
answer (got s []) = a_short s
answer (got s (b ∷ bs)) = bytes_left
answer (refused r) = refusal (number r)

pub record Row : Type 0 where
  pub input : List ℕ
  pub output : Output

infix 5 ◌gives◌
abbrev ◌gives◌ : List ℕ → Output → Row
◌gives◌ i o = record { input = i; output = o }

infix 5 ◌refused_by◌
abbrev ◌refused_by◌ : List ℕ → ℕ → Row
◌refused_by◌ i n = i gives refusal n

-- so many times BottomIntro at place 0, over a short tree, and the bytes before it
abbrev bottoms : ℕ → Short → Short
bottoms zero s = s
bottoms (suc n) s = short BottomIntro 0 0 (bottoms n s ▸ □)

abbrev bottom_bytes : ℕ → List ℕ
bottom_bytes zero = []
bottom_bytes (suc n) = 0x03 ∷ 0x00 ∷ bottom_bytes n

pub cases : List Row
cases =
    -- the program's example; no premise follows OneIntro; a mask is big-endian, and a place is a byte
    (example_bytes gives a_short example)
    ∷ (hex 5 0x02_0002_02_00 gives a_short (short OneIntro 0 0 □))
    ∷ (hex 13 0x02_000A_04_FF_01020304_00_00_02_00 gives a_short (short TensorIntro 255 0x01020304 (short Axiom 0 0 □ ▸ short OneIntro 0 0 □ ▸ □)))
    -- With has two premises and no mask; the last rule with a short form is Dereliction
    ∷ (hex 9 0x02_0006_07_00_00_00_02_00 gives a_short (short WithIntro 0 0 (short Axiom 0 0 □ ▸ short OneIntro 0 0 □ ▸ □)))
    ∷ (hex 7 0x02_0004_0E_00_00_00 gives a_short (short Dereliction 0 0 (short Axiom 0 0 □ ▸ □)))
    -- fewer than three bytes, then the version, then the length; no node
    ∷ ([] refused_by 3)
    ∷ (hex 2 0x01_00 refused_by 3)
    ∷ (hex 3 0x01_0005 refused_by 2)
    ∷ (hex 5 0x00_0002_00_00 refused_by 2)
    ∷ (hex 5 0x03_0002_00_00 refused_by 2)
    ∷ (hex 5 0x02_0003_00_00 refused_by 3)
    ∷ (hex 5 0x02_0001_00_00 refused_by 3)
    ∷ (hex 3 0x02_0000 refused_by 3)
    -- no short form: Cut, the focus rules, Blur; and no rule. The rule comes before the place
    ∷ (hex 5 0x02_0002_01_00 refused_by 2)
    ∷ (hex 5 0x02_0002_0F_00 refused_by 2)
    ∷ (hex 5 0x02_0002_10_00 refused_by 2)
    ∷ (hex 5 0x02_0002_11_00 refused_by 2)
    ∷ (hex 5 0x02_0002_12_00 refused_by 2)
    ∷ (hex 4 0x02_0001_12 refused_by 2)
    -- no place; a mask of three bytes; a premise too few, and one too many
    ∷ (hex 4 0x02_0001_00 refused_by 3)
    ∷ (hex 8 0x02_0005_04_01_000000 refused_by 3)
    ∷ (hex 11 0x02_0008_04_01_00000002_00_00 refused_by 3)
    ∷ (hex 7 0x02_0004_00_00_00_00 refused_by 3)
    -- leftover bytes come after all nodes, whatever they are
    ∷ (hex 6 0x02_0003_00_00_12 refused_by 3)
    -- a node at level 66: no byte 3, height 5, which comes before an unknown rule
    ∷ (hex 3 0x02_0082 ++ (bottom_bytes 64 ++ hex 2 0x00_00) gives a_short (bottoms 64 (short Axiom 0 0 □)))
    ∷ (hex 3 0x02_0081 ++ (bottom_bytes 64 ++ hex 1 0x12) refused_by 2)
    ∷ (hex 3 0x02_0083 ++ (bottom_bytes 65 ++ hex 1 0x12) refused_by 5)
    ∷ (hex 3 0x02_0083 ++ (bottom_bytes 65 ++ hex 1 0x00) refused_by 5)
    ∷ (hex 3 0x02_0082 ++ bottom_bytes 65 refused_by 3)
    ∷ []

pub read_cases : map (λ r. answer (read_short r.input)) cases ≡ map (λ r. r.output) cases
unfolding cases read_short read_message_two version_down read_message read_byte read_two read_four read_mask has_mask ◌then◌ entry at_end read_short_node read_short_premises follow
read_cases = refl

-- an old reader meets version 2 and answers 2
old_reader : read_tree example_bytes ≡ refused wrong_number
unfolding read_tree read_message read_byte ◌then◌
old_reader = refl
