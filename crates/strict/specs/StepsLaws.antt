-- The tests of strict mode with the principal formula given, from what the code compares: a tag test is the sign's, and the whole formula spelled out is the sign over its parts. Assumes
-- nothing.
use Rattle.std.specs.Prelude.{◌≡◌, refl, Bool, true, false, ◌&&◌, List, [], ◌∷◌, ◌++◌, ℕ, ◌<◌}
use Rattle.std.proofs.Common.{sym, ◌∙◌, arith}
use Rattle.std.proofs.Math.Path.{ap, ap₂}
use Rattle.std.proofs.lemmas.List.{map-append}
use Rattle.logic.specs.Formula.{Formula, Bottom, Tensor, Par, With, Plus, OfCourse, WhyNot, negate, spell, same, among}
use Rattle.logic.proofs.FormulaLaws.{same_iff, different_same, spell_twice}
use Rattle.logic.specs.Parts.{tag_of, name_of, left_part, right_part, signs, make, signed}
use Rattle.logic.proofs.PartsLaws.{tag_make, by_tag}
use Rattle.logic.specs.Sequent.{Sequent}
use Rattle.logic.specs.Key.{same_bag}
use Rattle.logic.specs.Strict.{spelled, linear_same}
use Rattle.bags.specs.Runs.{Reads}
use Rattle.bags.specs.declared.Run.{Run}
use Rattle.strict.specs.Steps.{bottom_step, par_step, with_step, plus_step, tensor_step, of_course_step, why_not_step, takes_out, weakening_step, contraction_step, dereliction_step, cut_step}

-- two tests in a row
pub no_first : {a : Bool} (b : Bool) → a ≡ false → false ≡ a && b
no_first b e = sym (ap (λ c. c && b) e)

pub yes_first : {a b r : Bool} → a ≡ true → r ≡ b → r ≡ a && b
yes_first {b = b} e k = k ∙ sym (ap (λ c. c && b) e)

-- one formula in the place of another, in zones as they are read
pub replaced : (x a : Formula) (q p : Sequent) {r : Bool} → r ≡ same_bag (spell x ∷ spelled p.linear) (spell a ∷ spelled q.linear) → r ≡ linear_same (x ∷ p.linear) (a ∷ q.linear)
unfolding linear_same
replaced x a q p e = e

-- ---- signs and tags

-- the tag t makes this sign of a formula's parts
record SignOf (sign : Formula → Formula) (t : ℕ) : Type 0 where
  low : t < 13
  made : (f : Formula) → signed t f ≡ sign f

module _ {sign : Formula → Formula} {t : ℕ} (known : SignOf sign t) (f : Formula) where
  formed : tag_of f ≡ t → f ≡ sign f
  formed e = by_tag t f e ∙ known.made f

  has_sign : tag_of f ≡ t → same f (sign f) ≡ true
  has_sign e = (same_iff f (sign f)).1 (formed e)

  no_sign : (tag_of f ≡ t → ⊥) → same f (sign f) ≡ false
  no_sign h = different_same f (sign f) λ e. h (ap tag_of (e ∙ sym (known.made f)) ∙ tag_make (name_of f) (left_part f) (right_part f) t known.low)

bottom_sign : SignOf (λ f. Bottom) 1
unfolding make signs
bottom_sign = record { low = omega arith; made = λ f. refl }

tensor_sign : SignOf (λ f. Tensor (left_part f) (right_part f)) 6
unfolding make signs
tensor_sign = record { low = omega arith; made = λ f. refl }

par_sign : SignOf (λ f. Par (left_part f) (right_part f)) 7
unfolding make signs
par_sign = record { low = omega arith; made = λ f. refl }

with_sign : SignOf (λ f. With (left_part f) (right_part f)) 8
unfolding make signs
with_sign = record { low = omega arith; made = λ f. refl }

plus_sign : SignOf (λ f. Plus (left_part f) (right_part f)) 9
unfolding make signs
plus_sign = record { low = omega arith; made = λ f. refl }

of_course_sign : SignOf (λ f. OfCourse (left_part f)) 11
unfolding make signs
of_course_sign = record { low = omega arith; made = λ f. refl }

why_not_sign : SignOf (λ f. WhyNot (left_part f)) 12
unfolding make signs
why_not_sign = record { low = omega arith; made = λ f. refl }

-- ---- the steps. x is the principal formula, as it stands; its sign is that of x spelled out

module _ (x : Formula) where
  -- spelled out, it is the sign over its parts, and that spelled out
  whole : {sign : Formula → Formula} {t : ℕ} → SignOf sign t → tag_of (spell x) ≡ t → spell x ≡ spell (sign (spell x))
  whole known e = sym (spell_twice x) ∙ ap spell (formed known (spell x) e)

  -- so a run that reads as the whole reads as the sign over its parts
  module _ {s : List ℕ} {run : Run} where
    pub with_whole : tag_of (spell x) ≡ 8 → Reads s run (spell x ∷ []) → Reads s run (spell (With (left_part (spell x)) (right_part (spell x))) ∷ [])
    with_whole e h = rw (← whole with_sign e) h

    pub plus_whole : tag_of (spell x) ≡ 9 → Reads s run (spell x ∷ []) → Reads s run (spell (Plus (left_part (spell x)) (right_part (spell x))) ∷ [])
    plus_whole e h = rw (← whole plus_sign e) h

  module _ (q p : Sequent) where
    pub bottom_other : (tag_of (spell x) ≡ 1 → ⊥) → false ≡ bottom_step x q p
    unfolding bottom_step
    bottom_other h = no_first _ (no_sign bottom_sign (spell x) h)

    pub bottom_told : {r : Bool} → tag_of (spell x) ≡ 1 → r ≡ same_bag (spelled q.linear) (spell x ∷ spelled p.linear) → r ≡ bottom_step x q p
    unfolding bottom_step linear_same
    bottom_told e same_r =
        yes_first (has_sign bottom_sign (spell x) e) (same_r ∙ ap (λ w. same_bag (spelled q.linear) (w ∷ spelled p.linear)) (whole bottom_sign e))

    pub par_other : (tag_of (spell x) ≡ 7 → ⊥) → false ≡ par_step x q p
    unfolding par_step
    par_other h = no_first _ (no_sign par_sign (spell x) h)

    pub par_told : {r : Bool} → tag_of (spell x) ≡ 7 → r ≡ same_bag (spell x ∷ spelled p.linear) (spell (left_part (spell x)) ∷ spell (right_part (spell x)) ∷ spelled q.linear) → r ≡ par_step x q p
    unfolding par_step linear_same
    par_told e same_r =
        yes_first (has_sign par_sign (spell x) e)
        (same_r ∙ ap (λ w. same_bag (w ∷ spelled p.linear) (spell (left_part (spell x)) ∷ spell (right_part (spell x)) ∷ spelled q.linear)) (whole par_sign e))

    pub plus_other : (a : Formula) → (tag_of (spell x) ≡ 9 → ⊥) → false ≡ plus_step a x q p
    unfolding plus_step
    plus_other a h = no_first _ (no_sign plus_sign (spell x) h)

    pub plus_told : (a : Formula) {r : Bool} → tag_of (spell x) ≡ 9 → r ≡ linear_same (Plus (left_part (spell x)) (right_part (spell x)) ∷ p.linear) (a ∷ q.linear) → r ≡ plus_step a x q p
    unfolding plus_step
    plus_told a e same_r = yes_first (has_sign plus_sign (spell x) e) same_r

    pub of_course_other : (tag_of (spell x) ≡ 11 → ⊥) → false ≡ of_course_step x q p
    unfolding of_course_step
    of_course_other h = no_first _ (no_sign of_course_sign (spell x) h)

    module _ (e : tag_of (spell x) ≡ 11) {r : Bool} (conclusion : r ≡ same_bag (spelled q.linear) (spell x ∷ [])) where
      alone : r ≡ linear_same q.linear (OfCourse (left_part (spell x)) ∷ [])
      unfolding linear_same
      alone = conclusion ∙ ap (λ w. same_bag (spelled q.linear) (w ∷ [])) (whole of_course_sign e)

      pub of_course_no : r ≡ false → false ≡ of_course_step x q p
      unfolding of_course_step
      of_course_no k = yes_first (has_sign of_course_sign (spell x) e) (no_first _ (sym alone ∙ k))

      pub of_course_told : {r' : Bool} → r ≡ true → r' ≡ same_bag (spelled p.linear) (spell (left_part (spell x)) ∷ []) → r' ≡ of_course_step x q p
      unfolding of_course_step linear_same
      of_course_told k same_r = yes_first (has_sign of_course_sign (spell x) e) (yes_first (sym alone ∙ k) same_r)

    pub why_not_other : (tag_of (spell x) ≡ 12 → ⊥) → false ≡ why_not_step x q p
    unfolding why_not_step
    why_not_other h = no_first _ (no_sign why_not_sign (spell x) h)

    module _ (e : tag_of (spell x) ≡ 12) {r : Bool} (conclusion : r ≡ same_bag (spelled q.linear) (spell x ∷ spelled p.linear)) where
      moved : r ≡ linear_same q.linear (WhyNot (left_part (spell x)) ∷ p.linear)
      unfolding linear_same
      moved = conclusion ∙ ap (λ w. same_bag (spelled q.linear) (w ∷ spelled p.linear)) (whole why_not_sign e)

      pub why_not_no : r ≡ false → false ≡ why_not_step x q p
      unfolding why_not_step
      why_not_no k = yes_first (has_sign why_not_sign (spell x) e) (no_first _ (sym moved ∙ k))

      pub why_not_told : {r' : Bool} → r ≡ true → r' ≡ same_bag p.unrestricted (left_part (spell x) ∷ q.unrestricted) → r' ≡ why_not_step x q p
      unfolding why_not_step
      why_not_told k same_r = yes_first (has_sign why_not_sign (spell x) e) (yes_first (sym moved ∙ k) same_r)

    -- on the unrestricted zone
    pub weakening_no : {r : Bool} → r ≡ same_bag (spelled p.linear) (spelled q.linear) → r ≡ false → false ≡ weakening_step x q p
    unfolding weakening_step linear_same
    weakening_no e k = no_first _ (sym e ∙ k)

    pub weakening_told : {r r' : Bool} → r ≡ same_bag (spelled p.linear) (spelled q.linear) → r ≡ true → r' ≡ takes_out x q p → r' ≡ weakening_step x q p
    unfolding weakening_step linear_same
    weakening_told e k same_r = yes_first (sym e ∙ k) same_r

    pub contraction_no : {r : Bool} → r ≡ same_bag (spelled p.linear) (spell x ∷ spell x ∷ spelled q.linear) → r ≡ false → false ≡ contraction_step x q p
    unfolding contraction_step linear_same
    contraction_no e k = no_first _ (sym e ∙ k)

    pub contraction_told : {r r' : Bool} → r ≡ same_bag (spelled p.linear) (spell x ∷ spell x ∷ spelled q.linear) → r ≡ true → r' ≡ takes_out x q p → r' ≡ contraction_step x q p
    unfolding contraction_step linear_same
    contraction_told e k same_r = yes_first (sym e ∙ k) same_r

    pub dereliction_no : {r : Bool} → r ≡ same_bag (spelled p.linear) (spell x ∷ spelled q.linear) → r ≡ false → false ≡ dereliction_step x q p
    unfolding dereliction_step linear_same
    dereliction_no e k = no_first _ (sym e ∙ k)

    pub dereliction_told : {r r' : Bool} → r ≡ same_bag (spelled p.linear) (spell x ∷ spelled q.linear) → r ≡ true → r' ≡ takes_out x q p → r' ≡ dereliction_step x q p
    unfolding dereliction_step linear_same
    dereliction_told e k same_r = yes_first (sym e ∙ k) same_r

  module _ (q p p' : Sequent) where
    pub with_other : (tag_of (spell x) ≡ 8 → ⊥) → false ≡ with_step x q p p'
    unfolding with_step
    with_other h = no_first _ (no_sign with_sign (spell x) h)

    module _ (e : tag_of (spell x) ≡ 8) {r : Bool} (first : r ≡ linear_same (With (left_part (spell x)) (right_part (spell x)) ∷ p.linear) (left_part (spell x) ∷ q.linear)) where
      pub with_no : r ≡ false → false ≡ with_step x q p p'
      unfolding with_step
      with_no k = yes_first (has_sign with_sign (spell x) e) (no_first _ (sym first ∙ k))

      pub with_told : {r' : Bool} → r ≡ true → r' ≡ linear_same (With (left_part (spell x)) (right_part (spell x)) ∷ p'.linear) (right_part (spell x) ∷ q.linear) → r' ≡ with_step x q p p'
      unfolding with_step
      with_told k same_r = yes_first (has_sign with_sign (spell x) e) (yes_first (sym first ∙ k) same_r)

    pub tensor_other : (tag_of (spell x) ≡ 6 → ⊥) → false ≡ tensor_step x q p p'
    unfolding tensor_step
    tensor_other h = no_first _ (no_sign tensor_sign (spell x) h)

    module _ (e : tag_of (spell x) ≡ 6) {r : Bool} (first : r ≡ among (spell (left_part (spell x))) (spelled p.linear)) where
      pub tensor_no_left : r ≡ false → false ≡ tensor_step x q p p'
      unfolding tensor_step
      tensor_no_left k = yes_first (has_sign tensor_sign (spell x) e) (no_first _ (sym (no_first _ (sym first ∙ k))))

      module _ (yes_left : r ≡ true) {r' : Bool} (second : r' ≡ among (spell (right_part (spell x))) (spelled p'.linear)) where
        pub tensor_no_right : r' ≡ false → false ≡ tensor_step x q p p'
        unfolding tensor_step
        tensor_no_right k = yes_first (has_sign tensor_sign (spell x) e) (no_first _ (sym (yes_first (sym first ∙ yes_left) (sym (sym second ∙ k)))))

        pub tensor_told : {r'' : Bool} → r' ≡ true → r'' ≡ same_bag (spell x ∷ (spelled p.linear ++ spelled p'.linear)) (spell (left_part (spell x)) ∷ spell (right_part (spell x)) ∷ spelled q.linear) → r'' ≡ tensor_step x q p p'
        unfolding tensor_step linear_same
        tensor_told k same_r =
            yes_first (has_sign tensor_sign (spell x) e)
            (yes_first (sym (yes_first (sym first ∙ yes_left) (sym (sym second ∙ k))))
            (same_r
            ∙ ap₂ (λ w l. same_bag (w ∷ l) (spell (left_part (spell x)) ∷ spell (right_part (spell x)) ∷ spelled q.linear)) (whole tensor_sign e) (sym (map-append spell p.linear p'.linear))))

-- the cut of c
module _ (c : Formula) (q p p' : Sequent) {r : Bool} (first : r ≡ among (spell c) (spelled p.linear)) where
  pub cut_no_left : r ≡ false → false ≡ cut_step c q p p'
  unfolding cut_step
  cut_no_left k = no_first _ (sym (no_first _ (sym first ∙ k)))

  module _ (yes_left : r ≡ true) {r' : Bool} (second : r' ≡ among (spell (negate c)) (spelled p'.linear)) where
    pub cut_no_right : r' ≡ false → false ≡ cut_step c q p p'
    unfolding cut_step
    cut_no_right k = no_first _ (sym (yes_first (sym first ∙ yes_left) (sym (sym second ∙ k))))

    pub cut_told : {r'' : Bool} → r' ≡ true → r'' ≡ same_bag (spelled p.linear ++ spelled p'.linear) (spell c ∷ spell (negate c) ∷ spelled q.linear) → r'' ≡ cut_step c q p p'
    unfolding cut_step linear_same
    cut_told k same_r =
        yes_first (sym (yes_first (sym first ∙ yes_left) (sym (sym second ∙ k))))
        (same_r ∙ ap (λ l. same_bag l (spell c ∷ spell (negate c) ∷ spelled q.linear)) (sym (map-append spell p.linear p'.linear)))
