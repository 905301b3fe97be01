-- What the functions below both calls ask and answer, over the words of formulas. Assumes nothing: these are definitions.
use Rattle.std.specs.Prelude.{Err, ◌≡◌, List, [], ℕ, ◌≤◌, ◌<◌, length}
use Rattle.logic.specs.Formula.{Formula}
use Rattle.logic.specs.Answer as answer
use Rattle.logic.specs.Sequent.{Question, to_one_sided}
use Rattle.logic.specs.Held.{enter_question}
use Rattle.wire.specs.Read as wire
use Rattle.wire.specs.Fits.{Bytes}
use Rattle.formula.specs.Answers.{coded}
use Rattle.formula.specs.declared.Refusal.{Refusal}
use Rattle.held.specs.Words.{view, Wf, Extends}
use Rattle.held.specs.Answers.{TakenBack}
use Rattle.zones.specs.declared.Zones.{Zones}
use Rattle.expand.specs.Writing.{Sound}
use Rattle.short.specs.Making.{Result}
use Rattle.step.specs.Taking.{sequent}
use Rattle.ask.specs.Asking.{Askable}
use Rattle.question.specs.declared.Places.{Places}
use Rattle.short_trees.specs.Promise.{Form, answered, output_after}
use Rattle.short_trees.specs.Promise.{Answer}
use Rattle.short_trees.specs.declared.Failure.{Failure}
use Rattle.short_trees.specs.declared.Failure.TheVariants.{Mismatch, Refused}
use Rattle.formula.specs.declared.Refusal.TheVariants.{HeldFull, TooMany}
use Rattle.grow.specs.declared.Stop as grow
use Rattle.grow.specs.declared.Stop.TheVariants as grow_stop
use Rattle.shrink.specs.declared.Stop as shrink
use Rattle.shrink.specs.declared.Stop.TheVariants as shrink_stop

-- why a walk stopped, as the calls answer it
abbrev pub grow_failed : grow.Stop → Failure
grow_failed grow_stop.Full = Refused HeldFull
grow_failed grow_stop.Mismatch = Mismatch
grow_failed grow_stop.TooMany = Refused TooMany

abbrev pub shrink_failed : shrink.Stop → Failure
shrink_failed shrink_stop.Full = Refused HeldFull
shrink_failed shrink_stop.Mismatch = Mismatch

-- refused, and what was entered since the first n formulas is taken back
pub record Unread (m : List ℕ) (n : ℕ) (why : Refusal) (r : Answer) (m' : List ℕ) : Type 0 where
  pub answer_is : r ≡ Err (Refused why)
  pub back : TakenBack m n m'

module _ {A B : Type 0} (form : Form A B) where
  -- a message that was read, for a sequent of held formulas
  pub record Readable (m s : List ℕ) (z : Zones) : Type 0 where
    pub sound : Sound m z
    pub bytes : Bytes s
    pub value : A
    pub read : form.read s ≡ wire.got value []

  -- answer, output and formulas are the definition's
  pub record DoneAs (x : Result B × List Formula) (out : List ℕ) (r : Answer) (fs : List Formula) (out' : List ℕ) : Type 0 where
    pub answer_is : r ≡ answered form x.0 out
    pub output_is : out' ≡ output_after form x.0 out
    pub held_is : fs ≡ x.1

  pub record Done (m s : List ℕ) (z : Zones) (out : List ℕ) (r : Answer) (m' out' : List ℕ) : Type 0 where
    pub wf : Wf m'
    pub grew : Extends m m'
    pub is : (a : A) → form.read s ≡ wire.got a [] → DoneAs (form.make a (sequent m z) (view m)) out r (view m') out'

  -- a question that was read, and any message
  pub record Enterable (m question : List ℕ) (p : Places) (s : List ℕ) : Type 0 where
    pub askable : Askable m question p
    pub bytes : Bytes s

  -- refused with nothing changed
  pub record Back (k : answer.Refusal) (m out : List ℕ) (r : Answer) (m' out' : List ℕ) : Type 0 where
    pub answer_is : r ≡ Err (Refused (coded k))
    pub memory_is : m' ≡ m
    pub output_is : out' ≡ out

  -- the ways of both calls once the question was read, whichever it is
  pub data Entered (m : List ℕ) (q : Question) (s out : List ℕ) (r : Answer) (m' out' : List ℕ) : Type 0 where
    over : 2048 < length (enter_question q (view m)) → Back answer.held_full m out r m' out' → Entered m q s out r m' out'
    unread : length (enter_question q (view m)) ≤ 2048 → (k : answer.Refusal) → form.read s ≡ wire.refused k → Back k m out r m' out' → Entered m q s out r m' out'
    taken : length (enter_question q (view m)) ≤ 2048 → Wf m' → Extends m m' → (a : A) → form.read s ≡ wire.got a []
        → DoneAs (form.make a (to_one_sided q) (enter_question q (view m))) out r (view m') out' → Entered m q s out r m' out'

  pub record EnteredAs (m question s out : List ℕ) (r : Answer) (m' out' : List ℕ) : Type 0 where
    pub is : (q : Question) → wire.read_question question ≡ wire.got q [] → Entered m q s out r m' out'
