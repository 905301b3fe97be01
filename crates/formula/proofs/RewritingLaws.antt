-- Laws of rewriting: each sign keeps its parts' places, and what the code's steps store is the rewritten formula. Assumes nothing.
use Rattle.std.specs.Prelude.{◌≡◌, refl, List, [], ◌∷◌, ◌++◌, ℕ, suc, ◌+◌, ◌/◌, ◌%◌, ◌≤◌, ◌<◌, length, get_or, set}
use Rattle.std.proofs.Common.{sym, ap, subst, ◌∙◌, arith, add-one, ne_eqb, length-set}
use Rattle.std.proofs.lemmas.List.Edits.{sets}
use Rattle.logic.specs.Formula as of
use Rattle.logic.specs.Formula.{Formula, negate, desugar, desugar_negation, size}
use Rattle.logic.proofs.FormulaLaws.{negate_size, desugar_size, desugar_negation_size}
use Rattle.wire.specs.Write.{write_formula, two_bytes}
use Rattle.wire.specs.Read.{Sign, unit, named, binary, unary, signs}
use Rattle.wire.specs.Gives.{AllAt}
use Rattle.wire.proofs.FormulaBytes.{length_write}
use Rattle.formula.specs.Reading.{form_of}
use Rattle.formula.specs.Signs.{At, Stands}
use Rattle.formula.specs.SignsLaws.{all_at, shaped, starts_inside, tag_below}
use Rattle.formula.specs.Calls.{Writes}
use Rattle.formula.proofs.CallsLaws.{Whole, whole_stands, writes_short, writes_bytes}
use Rattle.formula.specs.declared.Refusal.TheVariants.{OutputShort}
use Rattle.std.specs.Prelude.{Ok, Err}
use Rattle.formula.specs.Rewriting.{rewritten, turned_of, other_way, left_of, Ready, Rewritten}
use Rattle.formula.specs.declared.Form.TheVariants.{Unit, Named, Binary, Unary, Unknown}
use Rattle.formula.specs.declared.rewrite.How.{How}
use Rattle.formula.specs.declared.rewrite.How.TheVariants.{Copy, Negate, Spell, SpellNegated}

pub left_of_lolli : (t : ℕ) (how : How) → t ≡ 10 → left_of t how ≡ other_way how
unfolding left_of
left_of_lolli t how e = rw (e, left_of)

pub left_of_other : (t : ℕ) (how : How) → (t ≡ 10 → ⊥) → left_of t how ≡ how
unfolding left_of
left_of_other t how n = rw (ne_eqb t 10 n, left_of)

-- what is written of a formula with the sign x at the tag t, rewritten
abbrev Turned : ℕ → Sign → Type 0
Turned t (unit f) = (how : How) → write_formula (rewritten how f) ≡ turned_of t how ∷ []
Turned t (named make) = (n : ℕ) (how : How) → write_formula (rewritten how (make n)) ≡ turned_of t how ∷ two_bytes n
Turned t (binary make) =
    (a b : Formula) (how : How)
    → write_formula (rewritten how (make a b)) ≡ turned_of t how ∷ (write_formula (rewritten (left_of t how) a) ++ write_formula (rewritten how b))
Turned t (unary make) = (a : Formula) (how : How) → write_formula (rewritten how (make a)) ≡ turned_of t how ∷ write_formula (rewritten how a)

signs_turned : AllAt Turned signs
unfolding write_formula turned_of left_of other_way negate desugar desugar_negation
signs_turned = (λ how. elim how as (λ k. write_formula (rewritten k of.One) ≡ turned_of 0 k ∷ []) [ Copy ↦ refl | Negate ↦ refl | Spell ↦ refl | SpellNegated ↦ refl ], (λ how. elim how as (λ k. write_formula (rewritten k of.Bottom) ≡ turned_of 1 k ∷ []) [ Copy ↦ refl | Negate ↦ refl | Spell ↦ refl | SpellNegated ↦ refl ], (λ how. elim how as (λ k. write_formula (rewritten k of.Top) ≡ turned_of 2 k ∷ []) [ Copy ↦ refl | Negate ↦ refl | Spell ↦ refl | SpellNegated ↦ refl ], (λ how. elim how as (λ k. write_formula (rewritten k of.Zero) ≡ turned_of 3 k ∷ []) [ Copy ↦ refl | Negate ↦ refl | Spell ↦ refl | SpellNegated ↦ refl ], (λ n how. elim how as (λ k. write_formula (rewritten k (of.Atom n)) ≡ turned_of 4 k ∷ two_bytes n) [ Copy ↦ refl | Negate ↦ refl | Spell ↦ refl | SpellNegated ↦ refl ], (λ n how. elim how as (λ k. write_formula (rewritten k (of.NegAtom n)) ≡ turned_of 5 k ∷ two_bytes n) [ Copy ↦ refl | Negate ↦ refl | Spell ↦ refl | SpellNegated ↦ refl ], (λ a b how. elim how as (λ k. write_formula (rewritten k (of.Tensor a b)) ≡ turned_of 6 k ∷ (write_formula (rewritten (left_of 6 k) a) ++ write_formula (rewritten k b))) [ Copy ↦ refl | Negate ↦ refl | Spell ↦ refl | SpellNegated ↦ refl ], (λ a b how. elim how as (λ k. write_formula (rewritten k (of.Par a b)) ≡ turned_of 7 k ∷ (write_formula (rewritten (left_of 7 k) a) ++ write_formula (rewritten k b))) [ Copy ↦ refl | Negate ↦ refl | Spell ↦ refl | SpellNegated ↦ refl ], (λ a b how. elim how as (λ k. write_formula (rewritten k (of.With a b)) ≡ turned_of 8 k ∷ (write_formula (rewritten (left_of 8 k) a) ++ write_formula (rewritten k b))) [ Copy ↦ refl | Negate ↦ refl | Spell ↦ refl | SpellNegated ↦ refl ], (λ a b how. elim how as (λ k. write_formula (rewritten k (of.Plus a b)) ≡ turned_of 9 k ∷ (write_formula (rewritten (left_of 9 k) a) ++ write_formula (rewritten k b))) [ Copy ↦ refl | Negate ↦ refl | Spell ↦ refl | SpellNegated ↦ refl ], (λ a b how. elim how as (λ k. write_formula (rewritten k (of.Lolli a b)) ≡ turned_of 10 k ∷ (write_formula (rewritten (left_of 10 k) a) ++ write_formula (rewritten k b))) [ Copy ↦ refl | Negate ↦ refl | Spell ↦ refl | SpellNegated ↦ refl ], (λ a how. elim how as (λ k. write_formula (rewritten k (of.OfCourse a)) ≡ turned_of 11 k ∷ write_formula (rewritten k a)) [ Copy ↦ refl | Negate ↦ refl | Spell ↦ refl | SpellNegated ↦ refl ], (λ a how. elim how as (λ k. write_formula (rewritten k (of.WhyNot a)) ≡ turned_of 12 k ∷ write_formula (rewritten k a)) [ Copy ↦ refl | Negate ↦ refl | Spell ↦ refl | SpellNegated ↦ refl ], tt)))))))))))))

turned_at : (t : ℕ) (x : Sign) → At signs t x → Turned t x
turned_at t x h = all_at Turned signs signs_turned t x h

-- two runs of stores, one behind the other
pub sets_append : (a b l : List ℕ) (i : ℕ) → sets l i (a ++ b) ≡ sets (sets l i a) (i + length a) b
sets_append [] b l i = let e : i + 0 ≡ i = omega arith in rw e
sets_append (x ∷ a) b l i = let e : i + suc (length a) ≡ suc i + length a = omega arith in sets_append a b (set l i x) (suc i) ∙ rw e

pub rewritten_size : (how : How) (f : Formula) → size (rewritten how f) ≡ size f
rewritten_size Copy f = refl
rewritten_size Negate f = negate_size f
rewritten_size Spell f = desugar_size f
rewritten_size SpellNegated f = desugar_negation_size f

-- ---- the steps of the code: at each tag, what was stored is the formula rewritten

module _ (s : List ℕ) (at : ℕ) (how : How) (out : List ℕ) {t : ℕ} (turned : t ≡ turned_of (get_or s at 0) how) where
  next_place : at + 1 ≡ suc at
  next_place = add-one at

  pub unit_rewritten : form_of (get_or s at 0) ≡ Unit → Rewritten s at how out (at + 1) (set out at t)
  unit_rewritten e =
      record {
        after = λ f stands. let u = shaped s at f stands e in omega (arith, u.wide);
        bytes = λ f stands. let u = shaped s at f stands e in ap (set out at) turned ∙ ap (sets out at) (sym (turned_at (get_or s at 0) (unit f) u.sign how));
      }

  pub named_rewritten : {b c : ℕ} → form_of (get_or s at 0) ≡ Named → b ≡ get_or s (at + 1) 0 → c ≡ get_or s (at + 2) 0 → Rewritten s at how out (at + 3) (set (set (set out at t) (at + 1) b) (at + 2) c)
  named_rewritten {b} {c} e p q =
      record {
        after = λ f stands. let u = shaped s at f stands e in omega (arith, u.wide);
        bytes =
            λ f stands.
            let u = shaped s at f stands e in
            let made : write_formula (rewritten how f) ≡ turned_of (get_or s at 0) how ∷ two_bytes u.name =
            ap (λ (g : Formula). write_formula (rewritten how g)) u.same ∙ turned_at (get_or s at 0) (named u.make) u.sign u.name how
            in
            let second : at + 2 ≡ suc (suc at) = omega arith in
            let high = u.high in
            let low = u.low in
            let stored : set (set (set out at t) (at + 1) b) (at + 2) c ≡ set (set (set out at (turned_of (get_or s at 0) how)) (suc at) (u.name / 256)) (suc (suc at)) (u.name % 256) = cc next_place in
            stored ∙ ap (sets out at) (sym made);
      }

  pub unary_rewritten : {next : ℕ} {last : List ℕ} → form_of (get_or s at 0) ≡ Unary → Rewritten s (at + 1) how (set out at t) next last → Rewritten s at how out next last
  unary_rewritten {next} {last} e part =
      record {
        after = λ f stands. let u = shaped s at f stands e in omega (arith, u.wide, part.after u.part u.part_stands);
        bytes =
            λ f stands.
            let u = shaped s at f stands e in
            let made : write_formula (rewritten how f) ≡ turned_of (get_or s at 0) how ∷ write_formula (rewritten how u.part) =
            ap (λ (g : Formula). write_formula (rewritten how g)) u.same ∙ turned_at (get_or s at 0) (unary u.make) u.sign u.part how
            in
            let stored : last ≡ sets (set out at (turned_of (get_or s at 0) how)) (suc at) (write_formula (rewritten how u.part)) =
            part.bytes u.part u.part_stands ∙ rw (turned, next_place)
            in
            stored ∙ ap (sets out at) (sym made);
      }

  pub binary_rewritten : {left : How} {second next : ℕ} {mid last : List ℕ} → form_of (get_or s at 0) ≡ Binary → left ≡ left_of (get_or s at 0) how
      → Rewritten s (at + 1) left (set out at t) second mid → Rewritten s second how mid next last → Rewritten s at how out next last
  binary_rewritten {left} {second} {next} {mid} {last} e l first then =
      record {
        after =
            λ f stands.
            let u = shaped s at f stands e in
            let place = first.after u.first u.first_stands in
            omega (arith, u.wide, then.after u.second (subst (λ (k : ℕ). Stands s k u.second) (sym place) u.second_stands));
        bytes =
            λ f stands.
            let u = shaped s at f stands e in
            let place = first.after u.first u.first_stands in
            let a : List ℕ = write_formula (rewritten (left_of (get_or s at 0) how) u.first) in
            let b : List ℕ = write_formula (rewritten how u.second) in
            let made : write_formula (rewritten how f) ≡ turned_of (get_or s at 0) how ∷ (a ++ b) =
            ap (λ (g : Formula). write_formula (rewritten how g)) u.same ∙ turned_at (get_or s at 0) (binary u.make) u.sign u.first u.second how
            in
            let half : mid ≡ sets (set out at (turned_of (get_or s at 0) how)) (suc at) a = first.bytes u.first u.first_stands ∙ rw (turned, next_place, l) in
            let wide : length a ≡ size u.first = length_write (rewritten (left_of (get_or s at 0) how) u.first) ∙ rewritten_size (left_of (get_or s at 0) how) u.first in
            let there : second ≡ suc at + length a = omega arith in
            let stored : last ≡ sets mid second b = then.bytes u.second (subst (λ (k : ℕ). Stands s k u.second) (sym place) u.second_stands) in
            stored ∙ rw (half, there) (sym (sets_append a b (set out at (turned_of (get_or s at 0) how)) (suc at))) ∙ ap (sets out at) (sym made);
      }

-- ---- and what the calls ask

module _ (s : List ℕ) (at : ℕ) (out : List ℕ) (ready : Ready s at out) where
  pub inside : at < length s
  inside = starts_inside s at ready.formula ready.stands

  pub below : get_or s at 0 < 13
  below = tag_below s at ready.formula ready.stands

  pub known : form_of (get_or s at 0) ≡ Unknown → ⊥
  known e = shaped s at ready.formula ready.stands e

  pub name_inside : form_of (get_or s at 0) ≡ Named → at + 3 ≤ length s
  name_inside e = (shaped s at ready.formula ready.stands e).inside

  pub part_ready : (t : ℕ) → form_of (get_or s at 0) ≡ Unary → Ready s (at + 1) (set out at t)
  part_ready t e =
      let u = shaped s at ready.formula ready.stands e in record { formula = u.part; stands = u.part_stands; room = omega (arith, ready.room, length-set out at t) }

  pub first_ready : (t : ℕ) → form_of (get_or s at 0) ≡ Binary → Ready s (at + 1) (set out at t)
  first_ready t e =
      let u = shaped s at ready.formula ready.stands e in record { formula = u.first; stands = u.first_stands; room = omega (arith, ready.room, length-set out at t) }

  pub second_ready : {left : How} {from mid : List ℕ} {second : ℕ} → form_of (get_or s at 0) ≡ Binary → Rewritten s (at + 1) left from second mid → length mid ≡ length out
      → Ready s second mid
  second_ready e first kept =
      let u = shaped s at ready.formula ready.stands e in
      record {
        formula = u.second;
        stands = subst (λ (k : ℕ). Stands s k u.second) (sym (first.after u.first u.first_stands)) u.second_stands;
        room = omega (arith, ready.room);
      }

  -- the second part stands behind the first
  pub second_after : {left : How} {from mid : List ℕ} {second : ℕ} → form_of (get_or s at 0) ≡ Binary → Rewritten s (at + 1) left from second mid → at < second
  second_after e first =
      let u = shaped s at ready.formula ready.stands e in omega (arith, first.after u.first u.first_stands)

-- ---- the call: the whole slice rewritten

module _ (s out : List ℕ) {n : ℕ} (w : Whole s n) where
  pub rewrite_ready : n ≤ length out → Ready s 0 out
  rewrite_ready h = record { formula = w.formula; stands = whole_stands w; room = omega (arith, w.wide, ap length w.bytes_are, length_write w.formula) }

  module _ (how : How) where
    wide_text : length (write_formula (rewritten how w.formula)) ≡ n
    wide_text = length_write (rewritten how w.formula) ∙ rewritten_size how w.formula ∙ sym w.wide

    pub rewrite_short : length out < n → Writes (λ f. write_formula (rewritten how f)) s out (Err OutputShort) out
    rewrite_short h = writes_short (λ f. write_formula (rewritten how f)) s out w (omega (arith, wide_text))

    pub rewrite_done : {next : ℕ} {last : List ℕ} → n ≤ length out → Rewritten s 0 how out next last → Writes (λ f. write_formula (rewritten how f)) s out (Ok next) last
    rewrite_done {next} {last} h r =
        writes_bytes (λ f. write_formula (rewritten how f)) s out w (omega (arith, wide_text)) (omega (arith, wide_text, w.wide, r.after w.formula (whole_stands w)))
        (r.bytes w.formula (whole_stands w))
