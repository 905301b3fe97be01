-- What the calls on a question answer: where its zones stand, the code's refusals, and what is written into the output buffer. Assumes nothing.
use Rattle.formula.specs.declared.Refusal.{Refusal}
use Rattle.std.specs.Prelude.{◌≡◌, true, false, List, [], ◌++◌, ℕ, ◌+◌, leb, length, take, drop, Err, Ok, Result}
use Rattle.logic.specs.Formula.{Formula}
use Rattle.logic.specs.Sequent.{Question, one_sided, two_sided, to_one_sided}
use Rattle.wire.specs.Write.{write_formulas, write_question}
use Rattle.wire.specs.Read.{Read, got, refused, read_question}
use Rattle.wire.specs.Fits.{first_zone, second_zone}
use Rattle.formula.specs.Answers.{coded}
use Rattle.formula.specs.declared.Refusal.TheVariants.{OutputShort}
use Rattle.question.specs.declared.Places.{Places}

-- document 01's number of a question's kind
unfoldable pub kind_of : Question → ℕ
kind_of (one_sided Γ Θ) = 1
kind_of (two_sided Γ Δ) = 2

-- how many bytes a zone's formulas take
abbrev pub zone_size : List Formula → ℕ
zone_size fs = length (write_formulas fs)

-- where a question's zones stand
unfoldable pub places_of : Question → Places
places_of q =
    record {
      kind = kind_of q;
      first = 6;
      first_end = 6 + zone_size (first_zone q);
      second = 8 + zone_size (first_zone q);
      second_end = 8 + zone_size (first_zone q) + zone_size (second_zone q);
      first_count = length (first_zone q);
      second_count = length (second_zone q);
    }

-- the answer of `read_question`
unfoldable pub answered : Read Question → Result Places Refusal
answered (got q rest) = Ok (places_of q)
answered (refused k) = Err (coded k)

-- sequent.rs: `to_one_sided`, as a question
unfoldable pub turned : Question → Question
turned q = one_sided (to_one_sided q).linear (to_one_sided q).unrestricted

abbrev pub turned_bytes : Question → List ℕ
turned_bytes q = write_question (turned q)

-- the answer of `to_one_sided`, and the output buffer after it: changed on 0 only, in the front part written
module _ (out : List ℕ) where
  unfoldable pub wrote : Read Question → Result ℕ Refusal
  wrote (got q rest) = elim (leb (length (turned_bytes q)) (length out)) [ true ↦ Ok (length (turned_bytes q)) | false ↦ Err OutputShort ]
  wrote (refused k) = Err (coded k)

  unfoldable pub left_in : Read Question → List ℕ
  left_in (got q rest) = elim (leb (length (turned_bytes q)) (length out)) [ true ↦ turned_bytes q ++ drop (length (turned_bytes q)) out | false ↦ out ]
  left_in (refused k) = out

-- the promise of `to_one_sided`: bytes s, output buffer out before and out' after, answer r
pub record OneSided (s out : List ℕ) (r : Result ℕ Refusal) (out' : List ℕ) : Type 0 where
  pub answer : r ≡ wrote out (read_question s)
  pub buffer : out' ≡ left_in out (read_question s)

-- where it answers a length n: the front n bytes read as the question turned one-sided, and those behind are as they were
pub record ReadsBack (s out : List ℕ) (n : ℕ) (out' : List ℕ) : Type 0 where
  pub question : Question
  pub read : read_question s ≡ got question []
  pub all_written : n ≡ length s
  pub back : read_question (take n out') ≡ got (turned question) []
  pub kept : drop n out' ≡ drop n out
