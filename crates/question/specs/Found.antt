-- What a caller of `read_question` relies on: the question that was read, and that the places cut its zones out of the bytes. Assumes nothing.
use Rattle.std.specs.Prelude.{◌≡◌, List, [], ℕ, ◌+◌, ◌≤◌, length}
use Rattle.std.proofs.Math.Seq.{slice}
use Rattle.logic.specs.Formula.{Formula}
use Rattle.logic.specs.Sequent.{Question}
use Rattle.wire.specs.Write.{write_formulas, write_question}
use Rattle.wire.specs.Read.{got, read_all, most_formulas, read_question}
use Rattle.wire.specs.Fits.{first_zone, second_zone, QuestionFits}
use Rattle.question.specs.declared.Places.{Places}
use Rattle.question.specs.Answers.{kind_of, zone_size}

-- from one place up to another stand these formulas
pub record Cut (s : List ℕ) (from to : ℕ) (fs : List Formula) : Type 0 where
  pub inside : to ≤ length s
  pub sized : to ≡ from + zone_size fs
  pub bytes_are : slice from to s ≡ write_formulas fs
  pub read : read_all (slice from to s) ≡ got fs []

-- the bytes s are the question q, and p says where its zones stand
pub record Found (s : List ℕ) (p : Places) (q : Question) : Type 0 where
  pub read : read_question s ≡ got q []
  pub bytes_are : write_question q ≡ s
  pub fits : QuestionFits q
  pub kind_is : p.kind ≡ kind_of q
  pub first_cut : Cut s p.first p.first_end (first_zone q)
  pub second_cut : Cut s p.second p.second_end (second_zone q)
  pub starts : p.first ≡ 6
  pub behind : p.second ≡ p.first_end + 2
  pub ended : p.second_end ≡ length s
  pub first_many : p.first_count ≡ length (first_zone q)
  pub second_many : p.second_count ≡ length (second_zone q)
  pub few : p.first_count + p.second_count ≤ most_formulas
