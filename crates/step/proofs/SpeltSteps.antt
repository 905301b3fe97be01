-- The first decomposable formula of a sequent spelled out, where it is an implication. Assumes nothing.
use Rattle.std.specs.Prelude.{None, Some}
use mathlib.Core.Path.{◌≡◌, refl, sym, ap, ◌∙◌}
use mathlib.Core.Bool.{true, false}
use mathlib.Core.List.{List, [], ◌∷◌, ◌++◌}
use mathlib.Core.Option.{Option, none, some}
use Prim.Native.Nat.{ℕ, zero, suc, ◌≤◌, ◌<◌}
use native.Mathlib.Omega.{arith}
use borrow.Author.Tests.{lt-ltb, le-ltb}
use lib.ListN.{get_or, length, take, drop, take-append-drop}
use lib.Seq.{length-take-le, get_or-take}
use Rattle.logic.specs.Formula.{Formula, One, Bottom, Top, Zero, Atom, NegAtom, Tensor, Par, With, Plus, Lolli, OfCourse, WhyNot, spell}
use Rattle.logic.specs.Parts.{tag_of}
use Rattle.logic.specs.Sequent.{Sequent, ◌﹔◌}
use Rattle.logic.specs.Answer.{held_full}
use Rattle.logic.specs.Held.{enter}
use Rattle.logic.specs.Limits.{at_most, exceeds}
use Rattle.logic.specs.Built.{decomposable, Passed, none_yet, and_passed}
use Rattle.logic.specs.Conclusion.{spell_first, concluded}
use Rattle.logic.specs.Concludes.{spell_at}
use Rattle.held.specs.Words as words
use Rattle.held.specs.Words.{at, view, told}
use Rattle.held.specs.WordsLaws.{held_length, extends_refl}
use Rattle.held.specs.Answers.{Field}
use Rattle.held.specs.Turn.{Entered, Refused, Implication}
use Rattle.zones.specs.declared.Zones.{Zones}
use Rattle.zones.specs.Zones.{replace, replaced, Made}
use Rattle.zones.specs.ZonesLaws.{linear_at, within_made, within_more, meant_made}
use Rattle.expand.specs.ShortLaws.{plain_passed, plain_at}
use Rattle.expand.specs.Writing.{Sound, FirstAt}
use Rattle.short.specs.Making.{Result, made, refused, if_lolli, made_of, enter_made}
use Rattle.step.specs.Taking.{sequent, SpeltTo}
use Rattle.step.specs.SequentLaws.{linear_length}
use Rattle.step.specs.TakingLaws.{sequent_same}
use Rattle.step.proofs.TakingSteps.{told_tag, linear_low, linear_told}

-- which formula is made of one, by its tag
lolli_none : (f : Formula) → (tag_of f ≡ 10 → ⊥) → if_lolli f ≡ none
unfolding tag_of
lolli_none One n = refl
lolli_none Bottom n = refl
lolli_none Top n = refl
lolli_none Zero n = refl
lolli_none (Atom a) n = refl
lolli_none (NegAtom a) n = refl
lolli_none (Tensor a b) n = refl
lolli_none (Par a b) n = refl
lolli_none (With a b) n = refl
lolli_none (Plus a b) n = refl
lolli_none (Lolli a b) n = absurd (n refl)
lolli_none (OfCourse a) n = refl
lolli_none (WhyNot a) n = refl

lolli_some : (f : Formula) → tag_of f ≡ 10 → if_lolli f ≡ some (spell f)
unfolding tag_of spell
lolli_some One e = absurd (omega arith)
lolli_some Bottom e = absurd (omega arith)
lolli_some Top e = absurd (omega arith)
lolli_some Zero e = absurd (omega arith)
lolli_some (Atom a) e = absurd (omega arith)
lolli_some (NegAtom a) e = absurd (omega arith)
lolli_some (Tensor a b) e = absurd (omega arith)
lolli_some (Par a b) e = absurd (omega arith)
lolli_some (With a b) e = absurd (omega arith)
lolli_some (Plus a b) e = absurd (omega arith)
lolli_some (Lolli a b) e = refl
lolli_some (OfCourse a) e = absurd (omega arith)
lolli_some (WhyNot a) e = absurd (omega arith)

spell_other : (f : Formula) → (tag_of f ≡ 10 → ⊥) → spell f ≡ f
unfolding tag_of spell
spell_other One n = refl
spell_other Bottom n = refl
spell_other Top n = refl
spell_other Zero n = refl
spell_other (Atom a) n = refl
spell_other (NegAtom a) n = refl
spell_other (Tensor a b) n = refl
spell_other (Par a b) n = refl
spell_other (With a b) n = refl
spell_other (Plus a b) n = refl
spell_other (Lolli a b) n = absurd (n refl)
spell_other (OfCourse a) n = refl
spell_other (WhyNot a) n = refl

made_passed : {fs : List Formula} → Passed fs → made_of fs ≡ none
unfolding made_of
made_passed none_yet = refl
made_passed (and_passed {f = f} h ps) = rw (h, made_passed ps)

made_at : {before : List Formula} (f : Formula) (after : List Formula) → Passed before → decomposable f ≡ true → made_of (before ++ (f ∷ after)) ≡ if_lolli f
unfolding made_of
made_at f after none_yet h = rw h
made_at f after (and_passed p ps) h = rw (p, made_at f after ps h)

-- what is entered
abbrev with_held : List Formula → Result (Unit {0}) × List Formula
with_held fs = (made tt, fs)

entered_none : (o : Option Formula) (fs : List Formula) → o ≡ none → enter_made (at_most 2048) o fs ≡ (made tt, fs)
unfolding enter_made
entered_none o fs e = rw e

entered_full : (o : Option Formula) (f : Formula) (fs : List Formula) → o ≡ some f → 2048 < length (enter f fs)
    → enter_made (at_most 2048) o fs ≡ (refused held_full, fs)
unfolding enter_made exceeds
entered_full o f fs e h = rw (e, lt-ltb 2048 (length (enter f fs)) h, enter_made)

entered_some : (o : Option Formula) (f : Formula) (fs : List Formula) → o ≡ some f → length (enter f fs) ≤ 2048
    → enter_made (at_most 2048) o fs ≡ (made tt, enter f fs)
unfolding enter_made exceeds
entered_some o f fs e h = rw (e, le-ltb 2048 (length (enter f fs)) h, enter_made)

passed_list : (fs : List Formula) → ((k : ℕ) → k < length fs → decomposable (get_or fs k One) ≡ false) → Passed fs
passed_list [] h = none_yet
passed_list (f ∷ fs) h = and_passed (h zero (omega arith)) (passed_list fs (λ k l. h (suc k) (omega arith)))

pub first_in : {m : List ℕ} {z : Zones} {i : ℕ} → FirstAt m z i → (i ≡ z.linear_len → ⊥) → i < z.linear_len
first_in f n = omega (arith, f.low)

pub number_fits : {m m' : List ℕ} {f : Formula} {p : ℕ} → Entered m f p m' → p < 65536
number_fits e = omega (arith, e.low, e.wf.few)

module _ {m : List ℕ} {z : Zones} {i : ℕ} (s : Sound m z) (first : FirstAt m z i) where
  passed_before : Passed (take i (sequent m z).linear)
  passed_before =
      passed_list (take i (sequent m z).linear)
      (λ k l.
      let b : k < i = omega (arith, length-take-le i (sequent m z).linear (omega (arith, first.low, linear_length s))) in
      ap decomposable (get_or-take i (sequent m z).linear k One b ∙ linear_told s k (omega (arith, first.low))) ∙ first.passed k b)

  -- nothing is made
  spelt_plain : made_of (sequent m z).linear ≡ none → concluded (sequent m z) ≡ sequent m z → SpeltTo m z (Some z) m
  spelt_plain e c = record {
    wf = s.wf;
    grew = extends_refl m;
    made_is = entered_none (made_of (sequent m z).linear) (view m) e;
    means = record { sound = s; means = sym c };
  }

  pub spelt_none : i ≡ z.linear_len → SpeltTo m z (Some z) m
  spelt_none e =
      let p : Passed (sequent m z).linear =
      passed_list (sequent m z).linear
      (λ k l.
      let b : k < z.linear_len = omega (arith, linear_length s) in
      ap decomposable (linear_told s k b) ∙ first.passed k (omega arith)) in
      spelt_plain (made_passed p) (plain_passed (sequent m z) p)

  module _ (h : i < z.linear_len) where
    apart : (sequent m z).linear ≡ take i (sequent m z).linear ++ (told m (get_or z.linear i 0) ∷ drop (suc i) (sequent m z).linear)
    apart =
        sym (take-append-drop i (sequent m z).linear)
        ∙ ap (λ (l : List Formula). take i (sequent m z).linear ++ l) (linear_at (told m) s.fits i h)

    made_here : made_of (sequent m z).linear ≡ if_lolli (told m (get_or z.linear i 0))
    made_here = ap made_of apart ∙ made_at (told m (get_or z.linear i 0)) (drop (suc i) (sequent m z).linear) passed_before (first.here h)

    concluded_here : spell_first (sequent m z).linear ≡ replace i (spell (told m (get_or z.linear i 0))) (sequent m z).linear
    concluded_here = ap spell_first apart ∙ spell_at (told m (get_or z.linear i 0)) (drop (suc i) (sequent m z).linear) passed_before (first.here h)

    tag_here : tag_of (told m (get_or z.linear i 0)) ≡ at m (get_or z.linear i 0) 0
    tag_here = told_tag m _ s.wf (linear_low s i h)

    module _ {t : ℕ} (f : Field m (get_or z.linear i 0) 0 t) where
      pub spelt_other : (t ≡ 10 → ⊥) → SpeltTo m z (Some z) m
      spelt_other n =
          let o : tag_of (told m (get_or z.linear i 0)) ≡ 10 → ⊥ = λ e. n (f.value ∙ sym tag_here ∙ e) in
          spelt_plain
          (made_here ∙ lolli_none _ o)
          (plain_at
          (sequent m z)
          (told m (get_or z.linear i 0))
          (drop (suc i) (sequent m z).linear)
          passed_before
          (first.here h)
          (spell_other _ o)
          apart)

      module _ (e : t ≡ 10) where
        pub is_implication : Implication m (get_or z.linear i 0)
        is_implication = record { wf = s.wf; low = linear_low s i h; lolli = sym f.value ∙ e }

        made_some : made_of (sequent m z).linear ≡ some (spell (told m (get_or z.linear i 0)))
        made_some = made_here ∙ lolli_some _ (tag_here ∙ sym f.value ∙ e)

        pub spelt_full : {m' : List ℕ} → Refused m (spell (told m (get_or z.linear i 0))) m' → SpeltTo m z None m'
        spelt_full {m'} r =
            rw r.same
            record {
              wf = s.wf;
              grew = extends_refl m;
              made_is = entered_full (made_of (sequent m z).linear) _ (view m) made_some r.over;
              means = tt;
            }

        pub spelt_lolli : {m' : List ℕ} {p : ℕ} {r : Zones} → Entered m (spell (told m (get_or z.linear i 0))) p m' → Made z (replaced i p) r
            → SpeltTo m z (Some r) m'
        spelt_lolli {m'} {p} {r} n k =
            let g = spell (told m (get_or z.linear i 0)) in
            record {
              wf = n.wf;
              grew = n.grew;
              made_is =
                  entered_some
                  (made_of (sequent m z).linear)
                  g
                  (view m)
                  made_some
                  (omega (arith, ap length n.all, held_length m' (words.count m'), n.wf.few))
                  ∙ ap with_held (sym n.all);
              means = record {
                sound = record {
                  wf = n.wf;
                  fits = k.fits;
                  within = within_made (words.count m') k (within_more n.grew.more s.within) n.low;
                };
                means =
                    meant_made (told m') k
                    ∙ ap (λ (q : Sequent). replace i (told m' p) q.linear ﹔ q.unrestricted) (sequent_same n.grew s)
                    ∙ ap (λ (f : Formula). replace i f (sequent m z).linear ﹔ (sequent m z).unrestricted) n.here
                    ∙ ap (λ (l : List Formula). l ﹔ (sequent m z).unrestricted) (sym concluded_here);
              };
            }
