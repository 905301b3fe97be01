-- Laws of both calls over the words of formulas, over their form: no room for the question, a message that is refused, and one that is read. Assumes nothing.
use Rattle.std.specs.Prelude.{Option, None, Some, Err, ◌≡◌, ℕ, ◌≤◌, length, Ok, Result}
use Rattle.std.proofs.Math.Path.{refl}
use Rattle.std.proofs.Common.{ap, subst, ◌∙◌, arith}
use mathlib.Core.List.{List, []}
use Rattle.logic.specs.Formula.{Formula}
use Rattle.logic.specs.Sequent.{Sequent, Question, to_one_sided}
use Rattle.logic.specs.Held.{enter_question}
use Rattle.wire.specs.Read as wire
use Rattle.wire.specs.Fits.{Bytes}
use Rattle.wire.proofs.TreeBytes.{write_read_tree}
use Rattle.formula.specs.Answers.{coded}
use Rattle.formula.specs.declared.Refusal.{Refusal}
use Rattle.formula.specs.declared.Refusal.TheVariants.{HeldFull}
use Rattle.tree.specs.Answers.{tree_read}
use Rattle.tree.specs.ReadingLaws.{RefusedBy}
use Rattle.tree.specs.declared.Subtree.{Subtree}
use Rattle.held.specs.Words.{count, view, Wf}
use Rattle.held.specs.WordsLaws.{extends_trans}
use Rattle.held.specs.Answers.{TakenBack}
use Rattle.held.specs.CutLaws.{cut_back}
use Rattle.question.specs.declared.Places.{Places}
use Rattle.zones.specs.declared.Zones.{Zones}
use Rattle.ask.specs.Asking.{Held, NoRoom, AskedTo}
use Rattle.short_bytes.specs.Read.{read_short}
use Rattle.short_read.specs.Reading.{short_read}
use Rattle.short_read.specs.ReadingLaws.{short_got, short_stands}
use Rattle.short_trees.specs.Promise.{Form}
use Rattle.short_trees.specs.Steps.{Readable, DoneAs, Done, Unread, Enterable, Entered, over, unread, taken, EnteredAs}
use Rattle.short_trees.specs.HeldLaws.{held_few}
use Rattle.short_trees.specs.Promise.{Answer}
use Rattle.short_trees.specs.declared.Failure.TheVariants.{Refused}

-- the message was read
pub record GotAll {A : Type 0} (m : wire.Read A) : Type 0 where
  pub value : A
  pub is : m ≡ wire.got value []

module _ {A B : Type 0} (form : Form A B) {m question : List ℕ} {p : Places} {s : List ℕ} (x : Enterable form m question p s) (out : List ℕ)
    (a : Option Zones) (m₁ : List ℕ) (y : AskedTo m question a m₁) where
  pub asked_over : a ≡ None → EnteredAs form m question s out (Err (Refused HeldFull)) m₁ out
  unfolding coded
  asked_over full = record { is = λ q e. let n = none q e in over n.over record { answer_is = refl; memory_is = n.same; output_is = refl } }
    where
      none : (q : Question) → wire.read_question question ≡ wire.got q [] → NoRoom m q m₁
      none q e = rw full at (y q e)

  module _ {z : Zones} (room : a ≡ Some z) where
    held : (q : Question) → wire.read_question question ≡ wire.got q [] → Held m q z m₁
    held q e = rw room at (y q e)

    -- the question that was read
    entered : Held m x.askable.question z m₁
    entered = held x.askable.question x.askable.found.read

    few : (q : Question) → wire.read_question question ≡ wire.got q [] → length (enter_question q (view m)) ≤ 2048
    few q e = let h = held q e in omega (arith, ap length h.all, held_few h.wf)

    -- what was entered can be taken back
    pub asked_back : {n : ℕ} → n ≡ count m → Wf m₁ × (n ≤ count m₁)
    asked_back e = (entered.wf, omega (arith, entered.grew.more))

    pub asked_unread : {why : Refusal} {n : ℕ} {r : Answer} {m₂ : List ℕ} → RefusedBy (form.read s) why → n ≡ count m → Unread m₁ n why r m₂
        → EnteredAs form m question s out r m₂ out
    asked_unread {why} {n} {r} {m₂} by same u = record {
      is = λ q e.
          unread (few q e) by.kind by.is record {
            answer_is = u.answer_is ∙ ap (λ (k : Refusal). Err (Refused k)) by.code;
            memory_is = cut_back m m₁ m₂ x.askable.wf entered.grew (subst (λ (k : ℕ). TakenBack m₁ k m₂) same u.back);
            output_is = refl;
          };
    }

    module _ (g : GotAll (form.read s)) where
      pub asked_readable : Readable form m₁ s z
      asked_readable =
          record { sound = record { wf = entered.wf; fits = entered.fits; within = entered.within }; bytes = x.bytes; value = g.value; read = g.is }

      pub asked_taken : {r : Answer} {m₂ out' : List ℕ} → Done form m₁ s z out r m₂ out' → EnteredAs form m question s out r m₂ out'
      asked_taken {r} {m₂} {out'} d = record { is = by_question }
        where
          by_question : (q : Question) → wire.read_question question ≡ wire.got q [] → Entered form m q s out r m₂ out'
          by_question q e =
              let h = held q e in
              let made : DoneAs form (form.make g.value (to_one_sided q) (enter_question q (view m))) out r (view m₂) out' =
              subst (λ (fs : List Formula). DoneAs form (form.make g.value (to_one_sided q) fs) out r (view m₂) out') h.all
              (subst (λ (o : Sequent). DoneAs form (form.make g.value o (view m₁)) out r (view m₂) out') h.means (d.is g.value g.is))
              in
              taken (few q e) d.wf (extends_trans h.grew d.grew) g.value g.is made

-- ---- what the readers' answers say

pub short_whole : {s : List ℕ} {x : Result ℕ Refusal} {next : ℕ} → Bytes s → x ≡ short_read (length s) (read_short s) → x ≡ Ok next
    → GotAll (read_short s)
short_whole {s} bytes e₁ e₂ =
    let g = short_got (length s) (read_short s) e₁ e₂ in
    record { value = g.tree; is = g.is ∙ ap (λ (bs : List ℕ). wire.got g.tree bs) (short_stands bytes g.is).none_left }

pub tree_whole : {s : List ℕ} {x : Result Subtree Refusal} {w : Subtree} → Bytes s → x ≡ tree_read (length s) (wire.read_tree s) → x ≡ Ok w
    → GotAll (wire.read_tree s)
unfolding tree_read
tree_whole {s} {x} bytes e₁ e₂ = go (wire.read_tree s) refl e₁
  where
    go : (m : wire.Read _) → wire.read_tree s ≡ m → x ≡ tree_read (length s) m → GotAll (wire.read_tree s)
    go (wire.got t rest) e e₃ = record { value = t; is = e ∙ ap (λ (bs : List ℕ). wire.got t bs) (write_read_tree s t rest bytes e).none_left }
    go (wire.refused k) e e₃ = let z : ◌≡◌ {A = ℕ} 0 1 = cc in absurd (omega arith)
