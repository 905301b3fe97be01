-- Questions written and read: what is written reads back the same, what was read is written as the same bytes, and reading refuses with 2 to 6 alone. Assumes nothing.
use Rattle.std.specs.Prelude.{◌≡◌, refl, List, [], ◌∷◌, ◌++◌, ℕ, ◌+◌, ◌≤◌, leb, length}
use Rattle.std.proofs.Common.{ap, ◌∙◌, subst, append-nil, lit<, leb-true, le-leb}
use Rattle.logic.specs.Formula.{Formula}
use Rattle.logic.specs.Sequent.{Question, one_sided, two_sided}
use Rattle.logic.specs.Answer.{Refusal, wrong_number, too_many}
use Rattle.wire.specs.Write.{write_formulas, write_zone, message, write_body, write_question}
use Rattle.wire.specs.Read.{got, refused, ◌then◌, unless, entry, read_byte, zone_bytes, at_end, read_all, most_formulas, kinds, read_question}
use Rattle.wire.specs.Fits.{Bytes, ZonesFit, first_zone, second_zone, QuestionFits, QuestionBack, MessageBack, FormulasBack, ZoneBack, KindWritten, cut_short, ReadRefusal, unknown_number, in_formula, overfull}
use Rattle.wire.specs.FitsLaws.{bytes_cons, bytes_append, bytes_tail}
use Rattle.wire.proofs.FormulaBytes.{byte_gives}
use Rattle.wire.proofs.ZoneBytes.{read_write_all, read_write_zone_bytes, zone_bytes_give, all_gives, framed_zone, framed_rest, framed_back, write_zone_bytes}
use Rattle.wire.proofs.MessageBytes.{in_reading, read_write_message, message_bytes, message_gives, body_bytes}
use Rattle.wire.specs.Gives.{Gives, AllAt, ◌&◌}
use Rattle.wire.proofs.GivesLaws.{gives_got, gives_refused, gives_then, gives_entry, gives_unless, gives_end, when_got, when_refused}

-- both zones, after the kind
read_write_zones : (make : List Formula → List Formula → Question) (Γ Δ : List Formula) → ZonesFit Γ Δ
    → (zone_bytes (write_zone Γ ++ write_zone Δ) then λ first bs.
    zone_bytes bs then λ second bs.
    at_end second bs then λ second _.
    read_all first then λ Γ _.
    read_all second then λ Δ _.
    unless (leb (length Γ + length Δ) most_formulas) too_many (got (make Γ Δ) []))
    ≡ got (make Γ Δ) []
unfolding write_zone ◌then◌ at_end
read_write_zones make Γ Δ h =
    rw (
      ← append-nil (write_zone Δ),
      read_write_zone_bytes (write_formulas Γ) (write_zone Δ ++ []),
      read_write_zone_bytes (write_formulas Δ) [],
      read_write_all Γ h.first_fits.formulas_fit,
      read_write_all Δ h.second_fits.formulas_fit,
      le-leb (length Γ + length Δ) most_formulas h.few_formulas,
    )

pub read_write_question : (q : Question) → QuestionFits q → read_question (write_question q) ≡ got q []
unfolding read_question write_question write_body read_byte entry ◌then◌
read_write_question (one_sided Γ Θ) h = rw read_write_message (read_write_zones one_sided Γ Θ h.zones_fit)
read_write_question (two_sided Γ Δ) h = rw read_write_message (read_write_zones two_sided Γ Δ h.zones_fit)

kinds_written : AllAt KindWritten kinds
unfolding write_body
kinds_written = gives_refused unknown_number & gives_got (λ Γ Δ. (refl, refl, refl)) & gives_got (λ Γ Δ. (refl, refl, refl)) & tt

-- what is known once both zones were read, put together
question_back : {bs body left : List ℕ} → MessageBack bs body left → (k : ℕ) {tail mid end : List ℕ} → body ≡ k ∷ tail → (Γ Δ : List Formula) → ZoneBack tail Γ mid → ZoneBack mid Δ end → end ≡ []
    → length Γ + length Δ ≤ most_formulas → (q : Question) → (write_body q ≡ k ∷ (write_zone Γ ++ write_zone Δ)) × (first_zone q ≡ Γ) × (second_zone q ≡ Δ) → QuestionBack bs q []
unfolding write_question
question_back {body} m k p Γ Δ first second e few q w =
    let body_is : write_body q ≡ body = rw (w.0, p, first.bytes_are, second.bytes_are, e, append-nil (write_zone Δ)) in
    record {
      bytes_are = ap message body_is ∙ m.bytes_are;
      none_left = refl;
      fits = record { zones_fit = rw (w.1, w.2) (record { first_fits = first.fits; second_fits = second.fits; few_formulas = few }); body_short = rw body_is m.short };
    }

nothing_left : (zone bs : List ℕ) → Gives (λ x rest. (x ≡ zone) × (bs ≡ [])) ReadRefusal (at_end zone bs)
nothing_left zone bs = gives_end zone bs (in_formula cut_short) λ e. (refl, e)

pub question_gives : (bs : List ℕ) → Gives (λ q rest. Bytes bs → QuestionBack bs q rest) ReadRefusal (read_question bs)
unfolding read_question
question_gives bs =
    gives_then (message_gives bs) λ body left m.
    gives_then (in_reading (byte_gives body)) λ k tail p.
    gives_entry KindWritten kinds kinds_written k wrong_number unknown_number λ kind w.
    gives_then w λ make _ written.
    gives_then (in_reading (zone_bytes_give tail)) λ first mid a.
    gives_then (in_reading (zone_bytes_give mid)) λ second end b.
    gives_then (nothing_left second end) λ zone _ e.
    gives_then (in_reading (all_gives first)) λ Γ _ c.
    gives_then (in_reading (all_gives zone)) λ Δ done d.
    gives_unless (leb (length Γ + length Δ) most_formulas) too_many overfull λ few.
    gives_got λ h.
    let tail_bytes : Bytes tail = bytes_tail (subst Bytes p (body_bytes (m h) h)) in
    let mid_bytes : Bytes mid = framed_rest (a tail_bytes) tail_bytes in
    let zone_back : FormulasBack second Δ done = subst (λ (z : List ℕ). Bytes z → FormulasBack z Δ done) e.0 d (framed_zone (b mid_bytes) mid_bytes) in
    question_back
    (m h)
    k
    p
    Γ
    Δ
    (framed_back (a tail_bytes) (c (framed_zone (a tail_bytes) tail_bytes)))
    (framed_back (b mid_bytes) zone_back)
    e.1
    (leb-true (length Γ + length Δ) most_formulas few)
    (make Γ Δ)
    (written Γ Δ)

pub write_read_question : (bs : List ℕ) (q : Question) (rest : List ℕ) → Bytes bs → read_question bs ≡ got q rest → QuestionBack bs q rest
write_read_question bs q rest h e = when_got (question_gives bs) e h

pub read_question_refusals : (bs : List ℕ) (r : Refusal) → read_question bs ≡ refused r → ReadRefusal r
read_question_refusals bs r e = when_refused (question_gives bs) e

-- the bytes of a question that fits are bytes
pub write_body_bytes : (q : Question) → QuestionFits q → Bytes (write_body q)
unfolding write_body
write_body_bytes (one_sided Γ Θ) h = bytes_cons (lit< tt) (bytes_append (write_zone_bytes Γ h.zones_fit.first_fits) (write_zone_bytes Θ h.zones_fit.second_fits))
write_body_bytes (two_sided Γ Δ) h = bytes_cons (lit< tt) (bytes_append (write_zone_bytes Γ h.zones_fit.first_fits) (write_zone_bytes Δ h.zones_fit.second_fits))

pub write_question_bytes : (q : Question) → QuestionFits q → Bytes (write_question q)
unfolding write_question
write_question_bytes q h = message_bytes (write_body q) h.body_short (write_body_bytes q h)
