-- Small inputs whose answer tells readings of document 01 apart, read by the definitions: one table, one statement. Bytes are in hex, as a number with its count of bytes in front.
-- Assumes nothing.
use Rattle.std.specs.Prelude.{◌≡◌, refl, List, [], ◌∷◌, ◌++◌, map, ℕ, zero, suc, ◌/◌, ◌%◌, ◌^◌, replicate}
use Rattle.logic.specs.Formula.{Formula, One, Atom, NegAtom, Tensor, Lolli, OfCourse}
use Rattle.logic.specs.Sequent.{Question, one_sided, two_sided, ◌﹔◌}
use Rattle.logic.specs.Tree.{Tree, node, ∅, ◌▹◌, Axiom, Cut, TensorIntro, Blur}
use Rattle.logic.specs.Answer.{number}
use Rattle.wire.specs.Read.{Read, got, refused, ◌then◌, entry, read_byte, read_two, read_parts, read_formula, read_formulas, read_bytes, zone_bytes, at_end, read_message, read_question, read_argument, read_zone, read_sequent, read_premises, read_node, read_tree, read_one}

-- the last n bytes of a number
abbrev hex : ℕ → ℕ → List ℕ
hex zero x = []
hex (suc n) x = (x / 256 ^ n % 256) ∷ hex n x

pub data Input : Type 0 where
  question tree formula : List ℕ → Input

pub data Output : Type 0 where
  a_question : Question → Output
  a_tree : Tree → Output
  a_formula : Formula → Output
  -- document 01's number of a refusal
  refusal : ℕ → Output
  bytes_left : Output

abbrev pub answer : {A : Type 0} → (A → Output) → Read A → Output
answer f (got a []) = f a
answer f (got a (b ∷ bs)) = bytes_left
answer f (refused r) = refusal (number r)

abbrev pub read : Input → Output
read (question bs) = answer a_question (read_question bs)
read (tree bs) = answer a_tree (read_tree bs)
read (formula bs) = answer a_formula (read_one bs)

pub record Row : Type 0 where
  pub input : Input
  pub output : Output

infix 5 ◌gives◌
infix 5 ◌refused_by◌
abbrev ◌gives◌ : Input → Output → Row
◌gives◌ i o = record { input = i; output = o }

abbrev ◌refused_by◌ : Input → ℕ → Row
◌refused_by◌ i n = i gives refusal n

-- n times `!` over 1, and its bytes before the 1
abbrev bangs : ℕ → Formula
bangs zero = One
bangs (suc n) = OfCourse (bangs n)

abbrev bang_bytes : ℕ → List ℕ
bang_bytes n = replicate n 0x0B

-- n times Blur with one premise, over a tree, and the bytes before it
abbrev blurs : ℕ → Tree → Tree
blurs zero t = t
blurs (suc n) t = node Blur ([] ﹔ []) (blurs n t ▹ ∅)

abbrev blur_bytes : ℕ → List ℕ
blur_bytes zero = []
blur_bytes (suc n) = hex 6 0x11_0000_0000_01 ++ blur_bytes n

-- the tree that answers the program's example
abbrev example : Tree
example =
    node TensorIntro (NegAtom 1 ∷ Tensor (Atom 1) (NegAtom 2) ∷ Atom 2 ∷ [] ﹔ [])
    (node Axiom (NegAtom 1 ∷ Atom 1 ∷ [] ﹔ []) ∅ ▹ node Axiom (Atom 2 ∷ NegAtom 2 ∷ [] ﹔ []) ∅ ▹ ∅)

pub cases : List Row
cases =
    -- the program's example; the empty question; the tree of the program's answer
    (question (hex 21 0x01_0012_02_000A_040001_0A040001040002_0003_040002) gives a_question (two_sided (Atom 1 ∷ Lolli (Atom 1) (Atom 2) ∷ []) (Atom 2 ∷ [])))
    ∷ (question (hex 8 0x01_0005_01_0000_0000) gives a_question (one_sided [] []))
    ∷ (tree (hex 46 0x01_002B_04_000D_050001_06040001050002_040002_0000_02_00_0006_050001_040001_0000_00_00_0006_040002_050002_0000_00) gives a_tree example)
    -- fewer than three bytes, then the version, then the length, then the kind
    ∷ (question (hex 2 0x02_00) refused_by 3)
    ∷ (tree (hex 2 0x02_00) refused_by 3)
    ∷ (question (hex 3 0x02_0005) refused_by 2)
    ∷ (tree (hex 3 0x02_0005) refused_by 2)
    ∷ (question (hex 5 0x01_0001_03_00) refused_by 3)
    ∷ (question (hex 3 0x01_0000) refused_by 3)
    ∷ (tree (hex 3 0x01_0000) refused_by 3)
    ∷ (question (hex 4 0x01_0001_03) refused_by 2)
    ∷ (question (hex 8 0x01_0005_00_0000_0000) refused_by 2)
    ∷ (question (hex 9 0x01_0005_01_0000_0000_00) refused_by 3)
    -- numbers are big-endian
    ∷ (formula (hex 3 0x04_0102) gives a_formula (Atom 258))
    -- a question tests both zone lengths and leftover bytes before any formula
    ∷ (question (hex 10 0x01_0007_01_0001_0D_0000_00) refused_by 3)
    ∷ (question (hex 9 0x01_0006_01_0001_0D_0000) refused_by 4)
    -- a tree does not: the first zone's formulas come before the second zone
    ∷ (tree (hex 7 0x01_0004_02_0001_0D) refused_by 4)
    -- a formula ends at its zone's end, though bytes follow
    ∷ (question (hex 11 0x01_0008_01_0001_06_0002_00_00) refused_by 3)
    ∷ (question (hex 10 0x01_0007_01_0002_0400_0000) refused_by 3)
    -- a formula at level 65: no byte 3, tag 4, height 5, which comes before a cut number
    ∷ (formula (bang_bytes 63 ++ hex 1 0x00) gives a_formula (bangs 63))
    ∷ (formula (bang_bytes 64) refused_by 3)
    ∷ (formula (bang_bytes 64 ++ hex 1 0x0D) refused_by 4)
    ∷ (formula (bang_bytes 64 ++ hex 1 0x00) refused_by 5)
    ∷ (formula (bang_bytes 64 ++ hex 2 0x04_00) refused_by 5)
    -- a node at level 66: no byte 3, height 5, which comes before an unknown rule
    ∷ (tree (hex 3 0x01_0186 ++ (blur_bytes 64 ++ hex 6 0x11_0000_0000_00)) gives a_tree (blurs 64 (node Blur ([] ﹔ []) ∅)))
    ∷ (tree (hex 3 0x01_0181 ++ (blur_bytes 64 ++ hex 1 0x12)) refused_by 2)
    ∷ (tree (hex 3 0x01_0187 ++ (blur_bytes 65 ++ hex 1 0x12)) refused_by 5)
    ∷ (tree (hex 3 0x01_0186 ++ blur_bytes 65) refused_by 3)
    -- in a tree every zone formula and Cut formula counts its height from 1; a Cut formula may reach to the message's end, and no further
    ∷ (tree (hex 3 0x01_008C ++ (hex 7 0x11_0000_0000_01_01 ++ (bang_bytes 63 ++ (hex 3 0x00_0040 ++ (bang_bytes 63 ++ hex 4 0x00_0000_00))))) gives a_tree (blurs 1 (node (Cut (bangs 63)) (bangs 63 ∷ [] ﹔ []) ∅)))
    ∷ (tree (hex 6 0x01_0003_01_0400) refused_by 3)
    -- 6 in a question comes after all formulas, of both zones together
    ∷ (question (hex 6 0x01_0024_01_001F ++ (replicate 31 0x00 ++ hex 2 0x0000)) gives a_question (one_sided (replicate 31 One) []))
    ∷ (question (hex 6 0x01_0025_01_0020 ++ (replicate 32 0x00 ++ hex 2 0x0000)) refused_by 6)
    ∷ (question (hex 6 0x01_0026_01_0020 ++ (replicate 32 0x00 ++ hex 3 0x0001_0D)) refused_by 4)
    ∷ (question (hex 6 0x01_0025_02_0010 ++ (replicate 16 0x00 ++ (hex 2 0x0010 ++ replicate 16 0x00))) refused_by 6)
    -- 6 at a node comes before its premise count
    ∷ (tree (hex 6 0x01_0025_02_0020 ++ (replicate 32 0x00 ++ hex 2 0x0000)) refused_by 6)
    ∷ (tree (hex 6 0x01_0024_02_001F ++ (replicate 31 0x00 ++ hex 2 0x0000)) refused_by 3)
    -- bytes left over: at once behind a message, after all nodes behind a tree's root, and unread behind one formula
    ∷ (tree (hex 9 0x01_0005_02_0000_0000_00) refused_by 3)
    ∷ (tree (hex 10 0x01_0007_02_0000_0000_00_00) refused_by 3)
    ∷ (tree (hex 11 0x01_0008_02_0001_0D_0000_00_00) refused_by 4)
    ∷ (formula (hex 2 0x00_0D) refused_by 3)
    -- reading ends before checking: OneIntro over a1 with a premise, whose own zone has a bad tag
    ∷ (tree (hex 16 0x01_000D_02_0003_040001_0000_01_00_0001_0D) refused_by 4)
    ∷ []

pub read_cases : map (λ r. read r.input) cases ≡ map (λ r. r.output) cases
unfolding cases read_question read_message read_byte read_two ◌then◌ entry zone_bytes read_bytes at_end read_formulas read_formula read_parts read_tree read_node read_argument read_sequent read_zone read_premises read_one
read_cases = refl
