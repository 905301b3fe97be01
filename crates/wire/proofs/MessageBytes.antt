-- Whole slices written and read: a message with its version and length in front, and one formula with nothing behind it. Assumes nothing.
use Rattle.std.specs.Prelude.{◌≡◌, refl, List, [], ◌∷◌, ℕ, suc, ◌≤◌, leb, eqb, length}
use Rattle.std.proofs.Common.{sym, ◌∙◌, subst, append-nil, arith, lit<, eqb-true, eq-eqb, le-leb}
use Rattle.logic.specs.Formula.{Formula}
use Rattle.logic.specs.Answer.{Refusal, wrong_length, wrong_number}
use Rattle.wire.specs.Write.{two_bytes, write_formula, message}
use Rattle.wire.specs.Read.{Read, got, refused, ◌then◌, read_byte, read_message, at_end, highest_formula, read_one}
use Rattle.wire.specs.Fits.{Bytes, FormulaFits, MessageBack, OneBack, FormulaRefusal, cut_short, ReadRefusal, unknown_number, in_formula}
use Rattle.wire.specs.FitsLaws.{bytes_cons, bytes_append, bytes_tail, bytes_left_over, bytes_two}
use Rattle.wire.proofs.FormulaBytes.{read_write, byte_gives, two_gives, formula_gives, read_write_two}
use Rattle.wire.specs.Gives.{Gives}
use Rattle.wire.proofs.GivesLaws.{gives_got, gives_then, gives_widen, gives_unless, gives_end, when_got, when_refused}

-- what a formula's bytes can refuse, a question's and a tree's can
pub in_reading : {A : Type 0} {P : A → List ℕ → Type 0} {m : Read A} → Gives P FormulaRefusal m → Gives P ReadRefusal m
in_reading g = gives_widen (λ r. in_formula) g

-- a message
pub read_write_message : (body : List ℕ) → read_message (message body) ≡ got body []
unfolding read_message message read_byte ◌then◌
read_write_message body =
    rw (le-leb 3 (suc (suc (suc (length body)))) (omega arith), read_write_two (length body) body, eq-eqb (length body) (length body) refl)

pub message_bytes : (body : List ℕ) → length body ≤ 65535 → Bytes body → Bytes (message body)
unfolding message
message_bytes body short h = bytes_cons (lit< tt) (bytes_append (bytes_two _ (omega arith)) h)

pub message_gives : (bs : List ℕ) → Gives (λ body rest. Bytes bs → MessageBack bs body rest) ReadRefusal (read_message bs)
unfolding read_message message
message_gives bs =
    gives_unless (leb 3 (length bs)) wrong_length (in_formula cut_short) λ _.
    gives_then (in_reading (byte_gives bs)) λ version mid p.
    gives_unless (eqb version 1) wrong_number unknown_number λ e.
    gives_then (in_reading (two_gives mid)) λ n body q.
    gives_unless (eqb (length body) n) wrong_length (in_formula cut_short) λ l.
    gives_got λ h.
    let known : version ≡ 1 = eqb-true version 1 e in
    let long : length body ≡ n = eqb-true (length body) n l in
    let front = q (bytes_tail (subst Bytes p h)) in
    record { bytes_are = rw (p, known, front.0, long); none_left = refl; short = omega (arith, front.1) }

pub body_bytes : {bs body rest : List ℕ} → MessageBack bs body rest → Bytes bs → Bytes body
unfolding message
body_bytes {body} m h = bytes_left_over (1 ∷ two_bytes (length body)) body (sym m.bytes_are) h

-- one formula
pub read_write_one : (f : Formula) → FormulaFits highest_formula f → read_one (write_formula f) ≡ got f []
unfolding read_one ◌then◌ at_end
read_write_one f h = rw (← append-nil (write_formula f), read_write highest_formula f [] h.height_fits h.names_fit)

pub one_gives : (bs : List ℕ) → Gives (λ f rest. Bytes bs → OneBack bs f rest) FormulaRefusal (read_one bs)
unfolding read_one
one_gives bs =
    gives_then (formula_gives highest_formula bs) λ f mid p.
    gives_end f mid cut_short λ e h.
    let back = p h in
    record {
      bytes_are = sym (append-nil (write_formula f)) ∙ sym (rw e at back.bytes_are);
      none_left = refl;
      fits = record { height_fits = back.height_fits; names_fit = back.names_fit };
    }

pub write_read_one : (bs : List ℕ) (f : Formula) (rest : List ℕ) → Bytes bs → read_one bs ≡ got f rest → OneBack bs f rest
write_read_one bs f rest h e = when_got (one_gives bs) e h

pub read_one_refusals : (bs : List ℕ) (r : Refusal) → read_one bs ≡ refused r → FormulaRefusal r
read_one_refusals bs r e = when_refused (one_gives bs) e
