-- Laws of `to_one_sided`: how the code keeps its promise, and what its callers rely on. What is written reads as the question turned one-sided, so questions written to bytes read back the same.
-- Assumes nothing.
use Rattle.std.proofs.Math.Path.{◌≡◌, refl, sym, ap}
use Rattle.std.proofs.Common.{◌∙◌, arith, length-append}
use Rattle.std.specs.Prelude.{Bool, List, [], ◌∷◌, ◌++◌, map, ℕ, ◌≤◌, ◌<◌, take, Err, Ok, Result}
use Rattle.std.proofs.Math.Bool.{true, false}
use borrow.Author.Tests.{le-leb, lt-leb}
use Rattle.std.proofs.Math.Dec.{leb}
use Rattle.std.proofs.Math.ListN.{length, drop}
use Rattle.std.proofs.lemmas.List.{length-map}
use Rattle.std.proofs.Math.Seq.{take-length, take_at, drop_at}
use Rattle.logic.specs.Formula.{Formula, negate}
use Rattle.logic.specs.Sequent.{Question, one_sided, two_sided, to_one_sided}
use Rattle.wire.specs.Write.{write_formulas, write_body, write_question}
use Rattle.wire.specs.Read.{Read, got, refused, read_question}
use Rattle.wire.specs.Fits.{Bytes, FormulasFit, first_zone, QuestionFits}
use Rattle.wire.proofs.FoundFits.{negate_fits}
use Rattle.wire.proofs.QuestionBytes.{read_write_question, write_read_question}
use Rattle.formula.specs.Answers.{coded}
use Rattle.formula.specs.declared.Refusal as refusal
use Rattle.formula.specs.declared.Refusal.TheVariants.{OutputShort}
use Rattle.question.specs.declared.Places.{Places}
use Rattle.question.specs.Answers.{kind_of, zone_size, answered, turned, turned_bytes, wrote, left_in, OneSided, ReadsBack}
use Rattle.question.specs.Found.{Found}
use Rattle.question.specs.FoundLaws.{question_length, body_length, found}
use Rattle.question.specs.Turning.{TwoSided}
use Rattle.question.proofs.TurningLaws.{turned_length, turned_zone_size, left_in_got}

-- ---- by the tests of the code

refused_as : {why : refusal.Refusal} (s out : List ℕ) (m : Read Question) → read_question s ≡ m → Err why ≡ answered m → OneSided s out (Err why) out
unfolding answered wrote left_in
refused_as s out (got q rest) e h = let z : ◌≡◌ {A = ℕ} 0 1 = cc in absurd (omega arith)
refused_as {why} s out (refused k) e h = let same : why ≡ coded k = cc in record { answer = rw (e, same); buffer = rw e }

module _ (s : List ℕ) (bytes : Bytes s) (out : List ℕ) {r : Result Places refusal.Refusal} (e : r ≡ answered (read_question s)) where
  pub one_sided_refused : {why : refusal.Refusal} → r ≡ Err why → OneSided s out (Err why) out
  one_sided_refused h = refused_as s out (read_question s) refl (sym h ∙ e)

  module _ {p : Places} (h : r ≡ Ok p) where
    abbrev q : Question
    q = (found s bytes (sym h ∙ e)).0

    there : Found s p q
    there = (found s bytes (sym h ∙ e)).1

    length_is : length (turned_bytes q) ≡ length s
    length_is = turned_length q ∙ ap length there.bytes_are

    pub one_sided_short : length out < length s → OneSided s out (Err OutputShort) out
    unfolding wrote left_in
    one_sided_short short =
        let no = lt-leb (length (turned_bytes q)) (length out) (omega (arith, length_is)) in
        record { answer = rw (there.read, wrote, no); buffer = rw (there.read, left_in, no) }

    module _ (room : length s ≤ length out) where
      pub one_sided_written : {last : List ℕ} → last ≡ left_in out (read_question s) → OneSided s out (Ok (length s)) last
      unfolding wrote
      one_sided_written w = record { answer = rw (there.read, wrote, le-leb (length (turned_bytes q)) (length out) (omega (arith, length_is)), length_is); buffer = w }

      turned_same : (q : Question) → 1 ≡ kind_of q → turned q ≡ q
      unfolding kind_of turned to_one_sided
      turned_same (one_sided Γ Θ) k = refl
      turned_same (two_sided Γ Δ) k = absurd (omega arith)

      -- a one-sided question is copied
      pub one_sided_copied : p.kind ≡ 1 → {last : List ℕ} → last ≡ take (length s) s ++ drop (length s) out → OneSided s out (Ok (length s)) last
      one_sided_copied k w =
          let same : turned_bytes q ≡ s = ap write_question (turned_same q (sym k ∙ there.kind_is)) ∙ there.bytes_are in
          one_sided_written (w ∙ rw (take-length s, there.read, left_in_got out q (omega (arith, length_is)), same))

      two_sided_of : (x : Question) → q ≡ x → (kind_of x ≡ 1 → ⊥) → TwoSided s p.first_end out
      unfolding kind_of
      two_sided_of (one_sided Γ Θ) same n = absurd (n refl)
      two_sided_of (two_sided Γ Δ) same n = record { antecedent = Γ; succedent = Δ; read = there.read ∙ rw same; middle_is = omega (arith, there.first_cut.sized, there.starts, ap (λ (x : Question). zone_size (first_zone x)) same); room = room }

      pub two_sided_ready : (p.kind ≡ 1 → ⊥) → TwoSided s p.first_end out
      two_sided_ready n = two_sided_of q refl λ k. n (there.kind_is ∙ k)

-- ---- what is written reads back

turned_formulas_fit : (Γ Δ : List Formula) → FormulasFit Γ → FormulasFit Δ → FormulasFit (map negate Γ ++ Δ)
turned_formulas_fit [] Δ g d = d
turned_formulas_fit (f ∷ Γ) Δ g d = (negate_fits f g.0, turned_formulas_fit Γ Δ g.1 d)

-- a question that fits the byte form fits it one-sided
pub turned_fits : (q : Question) → QuestionFits q → QuestionFits (turned q)
unfolding turned to_one_sided write_formulas
turned_fits (one_sided Γ Θ) h = h
turned_fits (two_sided Γ Δ) h =
    let q = two_sided Γ Δ in
    let short : length (write_body (turned q)) ≡ length (write_body q) = omega (arith, body_length q, body_length (turned q), turned_length q) in
    record {
      zones_fit =
          record {
            first_fits =
                record {
                  formulas_fit = turned_formulas_fit Γ Δ h.zones_fit.first_fits.formulas_fit h.zones_fit.second_fits.formulas_fit;
                  zone_short = omega (arith, turned_zone_size Γ Δ, body_length q, question_length q, h.body_short);
                };
            second_fits = record { formulas_fit = tt; zone_short = omega arith };
            few_formulas = omega (arith, length-append (map negate Γ) Δ, length-map Γ negate, h.zones_fit.few_formulas);
          };
      body_short = rw short h.body_short;
    }

pub turned_reads : (q : Question) → QuestionFits q → read_question (turned_bytes q) ≡ got (turned q) []
turned_reads q h = read_write_question (turned q) (turned_fits q h)

module _ (s out : List ℕ) (bytes : Bytes s) where
  back_got : {n : ℕ} {out' : List ℕ} (m : Read Question) → read_question s ≡ m → Ok n ≡ wrote out m → out' ≡ left_in out m → ReadsBack s out n out'
  unfolding wrote left_in
  back_got {n} {out'} (got q rest) e a b = go (leb (length (turned_bytes q)) (length out)) refl
    where
      go : (t : Bool) → leb (length (turned_bytes q)) (length out) ≡ t → ReadsBack s out n out'
      go true y =
          let there = write_read_question s q rest bytes e in
          let told : Ok n ≡ Ok (length (turned_bytes q)) = rw (wrote, y) at a in
          let long : length (turned_bytes q) ≡ n = cc in
          let stored : out' ≡ turned_bytes q ++ drop n out = b ∙ rw (left_in, y, long) in
          record {
            question = q;
            read = e ∙ rw there.none_left;
            all_written = sym long ∙ turned_length q ∙ ap length there.bytes_are;
            back = rw (stored, take_at (turned_bytes q) (drop n out) n long) (turned_reads q there.fits);
            kept = rw (stored, drop_at (turned_bytes q) (drop n out) n long);
          }
      go false y = let told : Ok n ≡ Err OutputShort = rw (wrote, y) at a in let z : ◌≡◌ {A = ℕ} 0 1 = cc in absurd (omega arith)
  back_got (refused k) e a b = let z : ◌≡◌ {A = ℕ} 0 1 = cc in absurd (omega arith)

  -- what is written reads as the question turned one-sided
  pub reads_back : {n : ℕ} {out' : List ℕ} → OneSided s out (Ok n) out' → ReadsBack s out n out'
  reads_back o = back_got (read_question s) refl o.answer o.buffer
