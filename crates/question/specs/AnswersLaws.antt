-- Laws of `read_question`'s answer: from the answers of its steps. Assumes nothing.
use Rattle.question.specs.declared.Places.{Places}
use Rattle.std.specs.Prelude.{◌≡◌, refl, ◌⊎◌, List, ℕ, ◌+◌, ◌≤◌, length, Err, Ok, Result}
use Rattle.std.proofs.Math.Path.{sym, ap}
use Rattle.std.proofs.Common.{◌∙◌}
use Rattle.std.proofs.Math.Seq.{slice}
use Rattle.logic.specs.Sequent as logic
use Rattle.wire.specs.Read.{Read, refused, read_question}
use Rattle.formula.specs.Answers.{coded, named}
use Rattle.formula.specs.declared.Refusal as refusal
use Rattle.formula.specs.declared.Refusal.TheVariants.{WrongNumber, WrongLength, WrongTag, TooHigh, TooMany, HeldFull, BudgetSpent, FailuresFull, OutputShort, WrongSetting, WrongMemory}
use Rattle.question.specs.Answers.{answered}
use Rattle.question.specs.Stages.{make_of, formulas_of, kind_on, KindInside, KindRead, ends_on, EndsInside, EndsRead}

-- the code's refusals are document 01's
pub coded_named : (k : refusal.Refusal) → coded (named k) ≡ k
unfolding coded
coded_named WrongNumber = refl
coded_named WrongLength = refl
coded_named WrongTag = refl
coded_named TooHigh = refl
coded_named TooMany = refl
coded_named HeldFull = refl
coded_named BudgetSpent = refl
coded_named FailuresFull = refl
coded_named OutputShort = refl
coded_named WrongSetting = refl
coded_named WrongMemory = refl

answered_refused : {m : Read logic.Question} {why : refusal.Refusal} → m ≡ refused (named why) → Err why ≡ answered m
unfolding answered
answered_refused {why = why} e = rw (e, coded_named why)

module _ (s : List ℕ) {r : Result ℕ refusal.Refusal} (first : KindRead s r) where
  pub question_unkind : {why : refusal.Refusal} → r ≡ Err why → Err why ≡ answered (read_question s)
  unfolding kind_on
  question_unkind e = answered_refused (first.right ∙ ap (kind_on s) e)

  module _ {k : ℕ} (here : r ≡ Ok k) where
    pub kind_inside : (4 ≤ length s) × ((k ≡ 1) ⊎ (k ≡ 2))
    unfolding KindInside
    kind_inside = rw here at first.inside

    module _ {x : Result ℕ refusal.Refusal} (ends : EndsRead s x) where
      by_ends : read_question s ≡ ends_on s (make_of k) x
      unfolding kind_on
      by_ends = first.right ∙ ap (kind_on s) here ∙ ends.right (make_of k)

      pub question_unended : {why : refusal.Refusal} → x ≡ Err why → Err why ≡ answered (read_question s)
      unfolding ends_on
      question_unended e = answered_refused (by_ends ∙ ap (ends_on s (make_of k)) e)

      module _ {middle : ℕ} (there : x ≡ Ok middle) where
        pub ends_inside : (6 ≤ middle) × (middle + 2 ≤ length s)
        unfolding EndsInside
        ends_inside = rw there at ends.inside

        pub question_read : {q : Result Places refusal.Refusal} → q ≡ answered (formulas_of (make_of k) (slice 6 middle s) (slice (middle + 2) (length s) s)) → q ≡ answered (read_question s)
        unfolding ends_on
        question_read e = e ∙ sym (ap answered (by_ends ∙ ap (ends_on s (make_of k)) there))
