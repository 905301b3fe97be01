-- Laws of printing: how walks over texts follow one another, the digits of a number, and the text of each sign. Assumes nothing.
use Rattle.std.specs.Prelude.{◌≡◌, Bool, false, ℕ, zero, suc, ◌+◌, ◌-◌, ◌*◌, ◌/◌, ◌%◌, ◌≤◌, ◌<◌, T, eqb, leb, get_or, take, drop, Option, Some, None, Ok, Err}
use Rattle.std.proofs.Math.Path.{refl, sym, ap}
use Rattle.std.proofs.Common.{subst, ◌∙◌, le_of_suc-le-suc, not-suc-le-zero, arith, eq-eqb, ne_eqb, leb→le, length-append, drop-drop}
use Rattle.std.proofs.Math.Bool.{true}
use Rattle.std.proofs.lemmas.Bool.{eqb-false}
use Rattle.std.proofs.lemmas.List.Edits.{sets-eq}
use Rattle.std.proofs.lemmas.Option.{none-some}
use mathlib.Core.List.{List, [], ◌∷◌, ◌++◌, append_assoc, append-nil}
use Rattle.std.proofs.Math.ListN.{length}
use Rattle.std.proofs.Math.Seq.{sets, length-sets}
use Rattle.logic.specs.Formula.{Formula, size}
use Rattle.logic.specs.Text.{Signs, unicode, ascii, digits_within, digits, name, infix_text, printed}
use Rattle.wire.specs.Read.{Sign, unit, named, binary, unary, signs}
use Rattle.wire.specs.Gives.{AllAt, ◌&◌}
use Rattle.formula.specs.Signs.{At, Stands, BinaryAt, UnaryAt}
use Rattle.formula.specs.Calls.{Writes}
use Rattle.formula.proofs.CallsLaws.{Whole, whole_stands, writes_short, writes_bytes}
use Rattle.formula.specs.declared.Refusal.TheVariants.{OutputShort}
use Rattle.formula.specs.Reading.{form_of}
use Rattle.formula.specs.declared.Form.TheVariants.{Unit, Named, Binary, Unary, Unknown}
use Rattle.formula.specs.SignsLaws.{all_at, shaped, starts_inside, tag_below}
use Rattle.formula.proofs.RewritingLaws.{sets_append}
use Rattle.print.specs.Printing.{signs_of, spaced, sign_texts, sign_text, sign_row, laid, place, Emitted, went, stopped, Ready, Printed}
use Rattle.print.specs.declared.Style.{Style}
use Rattle.print.specs.declared.Style.TheVariants.{Unicode, Ascii}
use Rattle.print.specs.declared.Pass.{Pass}
use Rattle.print.specs.declared.Pass.TheVariants.{Count, Write}
use Rattle.print.specs.declared.Place.{Place}

length_laid : (pass : Pass) (out : List ℕ) (to : ℕ) (text : List ℕ) → length (laid pass out to text) ≡ length out
unfolding laid
length_laid Count out to text = refl
length_laid Write out to text = length-sets out to text

laid_append : (pass : Pass) (out : List ℕ) (to : ℕ) (a b : List ℕ) → laid pass (laid pass out to a) (to + length a) b ≡ laid pass out to (a ++ b)
unfolding laid
laid_append Count out to a b = refl
laid_append Write out to a b = sym (sets_append a b out to)

laid_count : (pass : Pass) (out : List ℕ) (to : ℕ) (text : List ℕ) → pass ≡ Count → laid pass out to text ≡ out
unfolding laid
laid_count Count out to text e = refl
laid_count Write out to text e = let z : ◌≡◌ {A = ℕ} 0 1 = cc in absurd (omega arith)

-- ---- walks, one behind the other

module _ {pass : Pass} {out : List ℕ} {to : Option ℕ} {a : List ℕ} {n : ℕ} {q : Place} {mid : List ℕ} where
  -- reading is where it was said to be
  pub read_on : Emitted pass out to a n q mid → q.next ≡ n
  read_on (went t f h e l) = ap (λ (x : Place). x.next) e
  read_on (stopped h e f k l) = e

  module _ {b : List ℕ} {m : ℕ} {r : Place} {last : List ℕ} where
    pub then_emitted : Emitted pass out to a n q mid → Emitted pass mid q.to b m r last → Emitted pass out to (a ++ b) m r last
    then_emitted (went t f h e l) (went t₂ f₂ h₂ e₂ l₂) =
        let o : Some t₂ ≡ Some (t + length a) = sym f₂ ∙ ap (λ (x : Place). x.to) e in
        let p : t₂ ≡ t + length a = cc in
        let wide : length mid ≡ length out = ap length l ∙ length_laid pass out t a in
        let at_end : t₂ + length b ≡ t + length (a ++ b) = omega (arith, length-append a b) in
        went t f (omega arith) (e₂ ∙ ap (place m) at_end) (l₂ ∙ rw (l, p) (laid_append pass out t a b))
    then_emitted (went t f h e l) (stopped h₂ e₂ f₂ k₂ l₂) =
        let wide : length mid ≡ length out = ap length l ∙ length_laid pass out t a in
        let past : length mid < t + length a + length b = h₂ (t + length a) (ap (λ (x : Place). x.to) e) in
        let so : (u : ℕ) → to ≡ Some u → length out < u + length (a ++ b) = λ u g. let same : u ≡ t = cc in omega (arith, length-append a b) in
        stopped so e₂ f₂ (k₂ ∙ wide) (λ c. l₂ c ∙ l ∙ laid_count pass out t a c)
    then_emitted (stopped h e f k l) (went t₂ f₂ h₂ e₂ l₂) = absurd (none-some t₂ (sym f ∙ f₂))
    then_emitted (stopped h e f k l) (stopped h₂ e₂ f₂ k₂ l₂) = stopped (λ u g. omega (arith, h u g, length-append a b)) e₂ f₂ (k₂ ∙ k) (λ c. l₂ c ∙ l c)

-- the same walk over the same text
pub as_text : {pass : Pass} {out : List ℕ} {to : Option ℕ} {a b : List ℕ} {n m : ℕ} {r : Place} {last : List ℕ}
    → Emitted pass out to a n r last → a ≡ b → n ≡ m → Emitted pass out to b m r last
as_text {pass} {out} {to} {a} {b} {n} {m} {r} {last} e p q = rw (← p, ← q) e

-- ---- numbers

-- fuel above the number makes no difference
digits_enough : (fuel fuel₂ n : ℕ) → n < fuel → n < fuel₂ → digits_within fuel n ≡ digits_within fuel₂ n
unfolding digits_within
digits_enough zero fuel₂ n h h₂ = absurd (omega arith)
digits_enough (suc fuel) zero n h h₂ = absurd (omega arith)
digits_enough (suc fuel) (suc fuel₂) n h h₂ = go (eqb (n / 10) 0) refl (digits_enough fuel fuel₂ (n / 10))
  where
    go : (b : Bool) → eqb (n / 10) 0 ≡ b → (n / 10 < fuel → n / 10 < fuel₂ → digits_within fuel (n / 10) ≡ digits_within fuel₂ (n / 10)) → digits_within (suc fuel) n ≡ digits_within (suc fuel₂) n
    go true e same = rw (e, digits_within)
    go false e same = rw (e, digits_within) (ap (λ (l : List ℕ). l ++ ((48 + n % 10) ∷ [])) (same (omega (arith, eqb-false (n / 10) 0 e)) (omega (arith, eqb-false (n / 10) 0 e))))

digits_one : (n : ℕ) → n < 10 → digits n ≡ (48 + n % 10) ∷ []
unfolding digits_within
digits_one n h = rw (eq-eqb (n / 10) 0 (omega arith), digits_within)

digits_more : (n : ℕ) → 10 ≤ n → digits n ≡ digits (n / 10) ++ ((48 + n % 10) ∷ [])
unfolding digits_within
digits_more n h =
    rw (ne_eqb (n / 10) 0 (λ e. omega arith), digits_within) (ap (λ (l : List ℕ). l ++ ((48 + n % 10) ∷ [])) (digits_enough n (suc (n / 10)) (n / 10) (omega arith) (omega arith)))

pub name_one : (n : ℕ) → n < 10 → name n ≡ 97 ∷ (48 + n % 10) ∷ []
name_one n h = ap (λ (l : List ℕ). 97 ∷ l) (digits_one n h)

pub name_more : (n : ℕ) → 10 ≤ n → name n ≡ name (n / 10) ++ ((48 + n % 10) ∷ [])
name_more n h = ap (λ (l : List ℕ). 97 ∷ l) (digits_more n h)

-- ---- a text, as the code passes over it

-- a part of the buffer that becomes the text
pub part_copied : (out text : List ℕ) (to : ℕ) {part : List ℕ} → to + length text ≤ length out → part ≡ text → take to out ++ (part ++ drop (to + length text - to) (drop to out)) ≡ sets out to text
part_copied out text to room e = let behind : to + length text - to ≡ length text = omega arith in rw (e, behind, drop-drop (length text) to out, sets-eq text out to room, append_assoc)

pub emit_no_more : {pass : Pass} {out : List ℕ} (p : Place) (text : List ℕ) → p.to ≡ None → Emitted pass out p.to text p.next p out
emit_no_more p text f = stopped (λ t g. absurd (none-some t (sym f ∙ g))) refl f refl (λ c. refl)

module _ {pass : Pass} {out : List ℕ} {o : Option ℕ} {to : ℕ} (text : List ℕ) (next : ℕ) (f : o ≡ Some to) where
  pub emit_short : length out < to + length text → Emitted pass out o text next (record { next = next; to = None }) out
  emit_short h = let so : (t : ℕ) → o ≡ Some t → length out < t + length text = λ t g. let same : t ≡ to = cc in omega arith in stopped so refl refl refl (λ c. refl)

  module _ (room : to + length text ≤ length out) where
    pub emit_written : {last : List ℕ} → pass ≡ Write → last ≡ sets out to text → Emitted pass out o text next (place next (to + length text)) last
    unfolding laid
    emit_written p e = went to f room refl (e ∙ sym (ap (λ (x : Pass). laid x out to text) p))

    pub emit_counted : pass ≡ Count → Emitted pass out o text next (place next (to + length text)) out
    unfolding laid
    emit_counted p = went to f room refl (sym (ap (λ (x : Pass). laid x out to text) p))

-- ---- signs by tag

-- the code's table: the bytes, and where each sign starts
abbrev pub sign_bytes : List ℕ
sign_bytes = 49 ∷ 226 ∷ 138 ∷ 165 ∷ 226 ∷ 138 ∷ 164 ∷ 48 ∷ 226 ∷ 138 ∷ 165 ∷ 32 ∷ 226 ∷ 138 ∷ 151 ∷ 32 ∷ 32 ∷ 226 ∷ 133 ∷ 139 ∷ 32 ∷ 32 ∷ 38 ∷ 32 ∷ 32 ∷ 226 ∷ 138 ∷ 149 ∷ 32 ∷ 32 ∷ 226 ∷ 138 ∷ 184 ∷ 32 ∷ 33 ∷ 63 ∷ 49 ∷ 98 ∷ 111 ∷ 116 ∷ 116 ∷ 111 ∷ 112 ∷ 48 ∷ 94 ∷ 32 ∷ 42 ∷ 32 ∷ 32 ∷ 124 ∷ 32 ∷ 32 ∷ 38 ∷ 32 ∷ 32 ∷ 43 ∷ 32 ∷ 32 ∷ 45 ∷ 111 ∷ 32 ∷ 33 ∷ 63 ∷ []

abbrev pub sign_starts : List ℕ
sign_starts = 0 ∷ 1 ∷ 4 ∷ 7 ∷ 8 ∷ 8 ∷ 11 ∷ 16 ∷ 21 ∷ 24 ∷ 29 ∷ 34 ∷ 35 ∷ 36 ∷ 37 ∷ 40 ∷ 43 ∷ 44 ∷ 44 ∷ 45 ∷ 48 ∷ 51 ∷ 54 ∷ 57 ∷ 61 ∷ 62 ∷ 63 ∷ []

abbrev pub sign_cut : ℕ → List ℕ
sign_cut row = take (get_or sign_starts (row + 1) 0 - get_or sign_starts row 0) (drop (get_or sign_starts row 0) sign_bytes)

-- what holds of each entry holds at its place
entry_at : (W : ℕ → List ℕ → Type 0) (xs : List (List ℕ)) → AllAt W xs → (t : ℕ) → t < length xs → W t (get_or xs t [])
entry_at W [] all t h = absurd (not-suc-le-zero h)
entry_at W (x ∷ xs) all zero h = all.0
entry_at W (x ∷ xs) all (suc t) h = entry_at (λ n. W (suc n)) xs all.1 t (le_of_suc-le-suc h)

-- a row of the code's table: from its start to the next one's, a text
pub record Row (row : ℕ) (text : List ℕ) : Type 0 where
  pub cut : sign_cut row ≡ text
  pub in_order : get_or sign_starts row 0 ≤ get_or sign_starts (row + 1) 0
  pub inside_all : get_or sign_starts (row + 1) 0 ≤ 63

row_made : (row : ℕ) (text : List ℕ) → sign_cut row ≡ text → T (leb (get_or sign_starts row 0) (get_or sign_starts (row + 1) 0)) → T (leb (get_or sign_starts (row + 1) 0) 63) → Row row text
row_made row text e h k = record { cut = e; in_order = leb→le _ _ h; inside_all = leb→le _ _ k }

-- the code's table is that of the printing
row_is : (style : Style) (t : ℕ) → t < 13 → Row (sign_row style t) (sign_text (signs_of style) t)
unfolding sign_text
row_is Unicode t h = entry_at (λ n x. Row (sign_row Unicode n) x) (sign_texts unicode) (row_made _ _ refl tt tt & row_made _ _ refl tt tt & row_made _ _ refl tt tt & row_made _ _ refl tt tt & row_made _ _ refl tt tt & row_made _ _ refl tt tt & row_made _ _ refl tt tt & row_made _ _ refl tt tt & row_made _ _ refl tt tt & row_made _ _ refl tt tt & row_made _ _ refl tt tt & row_made _ _ refl tt tt & row_made _ _ refl tt tt & tt) t h
row_is Ascii t h = entry_at (λ n x. Row (sign_row Ascii n) x) (sign_texts ascii) (row_made _ _ refl tt tt & row_made _ _ refl tt tt & row_made _ _ refl tt tt & row_made _ _ refl tt tt & row_made _ _ refl tt tt & row_made _ _ refl tt tt & row_made _ _ refl tt tt & row_made _ _ refl tt tt & row_made _ _ refl tt tt & row_made _ _ refl tt tt & row_made _ _ refl tt tt & row_made _ _ refl tt tt & row_made _ _ refl tt tt & tt) t h

pub row_at : {row : ℕ} (style : Style) (t : ℕ) → row ≡ sign_row style t → t < 13 → Row row (sign_text (signs_of style) t)
row_at style t e h = rw e (row_is style t h)

-- ---- the text of each sign

abbrev Prints : ℕ → Sign → Type 0
Prints t (unit f) = (σ : Signs) → printed σ f ≡ sign_text σ t
Prints t (named make) = (σ : Signs) (n : ℕ) → printed σ (make n) ≡ name n ++ sign_text σ t
Prints t (binary make) = (σ : Signs) (a b : Formula) → printed σ (make a b) ≡ ((((40 ∷ []) ++ printed σ a) ++ sign_text σ t) ++ printed σ b) ++ (41 ∷ [])
Prints t (unary make) = (σ : Signs) (a : Formula) → printed σ (make a) ≡ sign_text σ t ++ printed σ a

infix_left : (sign a b : List ℕ) → infix_text sign a b ≡ ((((40 ∷ []) ++ a) ++ spaced sign) ++ b) ++ (41 ∷ [])
infix_left sign a b = simp append_assoc

signs_printed : AllAt Prints signs
unfolding printed sign_text
signs_printed =
    (λ σ. refl)
    & (λ σ. refl)
    & (λ σ. refl)
    & (λ σ. refl)
    & (λ σ n. sym (append-nil (name n)))
    & (λ σ n. refl)
    & (λ σ a b. infix_left σ.tensor (printed σ a) (printed σ b))
    & (λ σ a b. infix_left σ.par (printed σ a) (printed σ b))
    & (λ σ a b. infix_left σ.with (printed σ a) (printed σ b))
    & (λ σ a b. infix_left σ.plus (printed σ a) (printed σ b))
    & (λ σ a b. infix_left σ.lolli (printed σ a) (printed σ b))
    & (λ σ a. refl)
    & (λ σ a. refl)
    & tt

printed_at : (t : ℕ) (x : Sign) → At signs t x → Prints t x
printed_at t x h = all_at Prints signs signs_printed t x h

-- ---- the steps of the code, at each form of a tag

module _ (s : List ℕ) (p : Place) (out : List ℕ) (style : Style) (pass : Pass) where
  abbrev tag : ℕ
  tag = get_or s p.next 0

  -- a walk over a text from that place
  abbrev Goes : List ℕ → ℕ → Place → List ℕ → Type 0
  Goes text next r last = Emitted pass out p.to text next r last

  pub unit_printed : {r : Place} {last : List ℕ} → form_of tag ≡ Unit → Goes (sign_text (signs_of style) tag) (p.next + 1) r last → Printed s p out style pass r last
  unit_printed e m =
      record {
        text = λ f stands. let u = shaped s p.next f stands e in as_text m (sym (printed_at tag (unit f) u.sign (signs_of style))) (omega (arith, u.wide));
      }

  pub name_printed : {n : ℕ} {q r : Place} {mid last : List ℕ} → form_of tag ≡ Named → n ≡ get_or s (p.next + 1) 0 * 256 + get_or s (p.next + 2) 0
      → Goes (name n) (p.next + 3) q mid → Emitted pass mid q.to (sign_text (signs_of style) tag) q.next r last → Printed s p out style pass r last
  name_printed {n} e g m m₂ =
      record {
        text =
            λ f stands.
            let u = shaped s p.next f stands e in
            let same : n ≡ u.name = omega (arith, u.high, u.low) in
            let made : printed (signs_of style) f ≡ name n ++ sign_text (signs_of style) tag =
            ap (printed (signs_of style)) u.same ∙ printed_at tag (named u.make) u.sign (signs_of style) u.name ∙ rw same
            in
            as_text (then_emitted m m₂) (sym made) (omega (arith, u.wide, read_on m));
      }

  module _ (e : form_of tag ≡ Unary) {q : Place} {mid : List ℕ} (sign : Goes (sign_text (signs_of style) tag) (p.next + 1) q mid) where
    part_stands : (f : Formula) (u : UnaryAt s p.next f) → Stands s q.next u.part
    part_stands f u = subst (λ (k : ℕ). Stands s k u.part) (sym (read_on sign)) u.part_stands

    pub unary_ready : Ready s p.next → Ready s q.next
    unary_ready ready =
        let u = shaped s p.next ready.formula ready.stands e in record { formula = u.part; stands = part_stands ready.formula u }

    pub unary_printed : {r : Place} {last : List ℕ} → Printed s q mid style pass r last → Printed s p out style pass r last
    unary_printed part =
        record {
          text =
              λ f stands.
              let u = shaped s p.next f stands e in
              let made : printed (signs_of style) f ≡ sign_text (signs_of style) tag ++ printed (signs_of style) u.part =
              ap (printed (signs_of style)) u.same ∙ printed_at tag (unary u.make) u.sign (signs_of style) u.part
              in
              as_text (then_emitted sign (part.text u.part (part_stands f u))) (sym made) (omega (arith, u.wide, read_on sign));
        }

  -- two parts, one after the other
  module _ (e : form_of tag ≡ Binary) {q₁ : Place} {o₁ : List ℕ} (bracket : Goes (40 ∷ []) (p.next + 1) q₁ o₁) where
    first_stands : (f : Formula) (u : BinaryAt s p.next f) → Stands s q₁.next u.first
    first_stands f u = subst (λ (k : ℕ). Stands s k u.first) (sym (read_on bracket)) u.first_stands

    pub first_ready : Ready s p.next → Ready s q₁.next
    first_ready ready =
        let u = shaped s p.next ready.formula ready.stands e in record { formula = u.first; stands = first_stands ready.formula u }

    module _ {q₂ q₃ : Place} {o₂ o₃ : List ℕ} (first : Printed s q₁ o₁ style pass q₂ o₂) (sign : Emitted pass o₂ q₂.to (sign_text (signs_of style) tag) q₂.next q₃ o₃) where
      second_place : (f : Formula) (u : BinaryAt s p.next f) → q₃.next ≡ p.next + 1 + size u.first
      second_place f u = omega (arith, read_on sign, read_on (first.text u.first (first_stands f u)), read_on bracket)

      second_stands : (f : Formula) (u : BinaryAt s p.next f) → Stands s q₃.next u.second
      second_stands f u = subst (λ (k : ℕ). Stands s k u.second) (sym (second_place f u)) u.second_stands

      pub second_after : Ready s p.next → p.next < q₃.next
      second_after ready = let u = shaped s p.next ready.formula ready.stands e in omega (arith, second_place ready.formula u)

      pub second_ready : Ready s p.next → Ready s q₃.next
      second_ready ready =
          let u = shaped s p.next ready.formula ready.stands e in record { formula = u.second; stands = second_stands ready.formula u }

      pub binary_printed : {q₄ r : Place} {o₄ last : List ℕ} → Printed s q₃ o₃ style pass q₄ o₄ → Emitted pass o₄ q₄.to (41 ∷ []) q₄.next r last → Printed s p out style pass r last
      binary_printed second close =
          record {
            text =
                λ f stands.
                let u = shaped s p.next f stands e in
                let m₂ = second.text u.second (second_stands f u) in
                let made : printed (signs_of style) f
                ≡ ((((40 ∷ []) ++ printed (signs_of style) u.first) ++ sign_text (signs_of style) tag) ++ printed (signs_of style) u.second) ++ (41 ∷ []) =
                ap (printed (signs_of style)) u.same ∙ printed_at tag (binary u.make) u.sign (signs_of style) u.first u.second
                in
                as_text (then_emitted (then_emitted (then_emitted (then_emitted bracket (first.text u.first (first_stands f u))) sign) m₂) close) (sym made)
                (omega (arith, u.wide, read_on m₂, second_place f u));
          }

-- ---- what the code asks of the slice it reads

module _ (s : List ℕ) (at : ℕ) (ready : Ready s at) where
  pub inside : at < length s
  inside = starts_inside s at ready.formula ready.stands

  pub known : form_of (get_or s at 0) ≡ Unknown → ⊥
  known e = shaped s at ready.formula ready.stands e

  pub name_inside : form_of (get_or s at 0) ≡ Named → at + 3 ≤ length s
  name_inside e = (shaped s at ready.formula ready.stands e).inside

  pub tag_known : get_or s at 0 < 13
  tag_known = tag_below s at ready.formula ready.stands

-- ---- the call: the whole slice printed, once to count and once to write

module _ {s : List ℕ} {n : ℕ} (w : Whole s n) where
  pub one_ready : Ready s 0
  one_ready = record { formula = w.formula; stands = whole_stands w }

  module _ (out : List ℕ) (style : Style) {q : Place} {mid : List ℕ} (counted : Printed s (place 0 0) out style Count q mid) where
    pub count_short : q.to ≡ None → Writes (printed (signs_of style)) s out (Err OutputShort) mid
    count_short g = go (counted.text w.formula (whole_stands w))
      where
        go : Emitted Count out (Some 0) (printed (signs_of style) w.formula) (0 + size w.formula) q mid → Writes (printed (signs_of style)) s out (Err OutputShort) mid
        go (went t f h e l) = absurd (none-some (t + length (printed (signs_of style) w.formula)) (sym g ∙ ap (λ (x : Place). x.to) e))
        go (stopped h e f k l) = rw (l refl) (writes_short (printed (signs_of style)) s out w (omega (arith, h 0 refl)))

    pub print_done : {r : Place} {last : List ℕ} {to : ℕ} → q.to ≡ Some to → Printed s (place 0 0) mid style Write r last → Writes (printed (signs_of style)) s out (Ok to) last
    unfolding laid
    print_done {r} {last} {to} g p = go (counted.text w.formula (whole_stands w)) (p.text w.formula (whole_stands w))
      where
        go : Emitted Count out (Some 0) (printed (signs_of style) w.formula) (0 + size w.formula) q mid
            → Emitted Write mid (Some 0) (printed (signs_of style) w.formula) (0 + size w.formula) r last → Writes (printed (signs_of style)) s out (Ok to) last
        go (went t f h e l) (went t₂ f₂ h₂ e₂ l₂) =
            let z : t ≡ 0 = cc in
            let z₂ : t₂ ≡ 0 = cc in
            let o : Some to ≡ Some (t + length (printed (signs_of style) w.formula)) = sym g ∙ ap (λ (x : Place). x.to) e in
            let same : to ≡ t + length (printed (signs_of style) w.formula) = cc in
            writes_bytes (printed (signs_of style)) s out w (omega arith) (omega arith) (l₂ ∙ rw (l, z₂))
        go (went t f h e l) (stopped h₂ e₂ f₂ k₂ l₂) = let z : t ≡ 0 = cc in absurd (omega (arith, h₂ 0 refl, ap length l))
        go (stopped h e f k l) m = absurd (none-some to (sym f ∙ g))
