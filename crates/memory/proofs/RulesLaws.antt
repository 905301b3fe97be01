-- A memory is well-formed exactly where it keeps document 01's rules and is written as it must be. Assumes nothing.
use Rattle.std.specs.Prelude.{◌≡◌, ◌↔◌, Bool, true, false, List, ℕ, suc, ◌+◌, ◌*◌, ◌/◌, ◌≤◌, ◌<◌, get_or, length}
use Rattle.std.proofs.Math.Path.{sym, ap}
use Rattle.std.proofs.Common.{◌∙◌, inl, inr, arith, length-drop, length-take-le}
use Rattle.std.proofs.Math.Logic.{⊎_elim}
use Rattle.logic.specs.Formula as formula
use Rattle.logic.specs.Formula.{Formula, One}
use Rattle.held.specs.Answers.{Tells}
use Rattle.held.specs.OrderLaws.{le_or_lt}
use Rattle.held.specs.Signs.{node}
use Rattle.held.specs.SignsLaws.{height_low, height_mid, height_high, size_unit, size_name, size_mid, size_high}
use Rattle.held.specs.Words as formulas
use Rattle.held.specs.Words.{Row, unit, name, two, one}
use Rattle.held.specs.WordsLaws.{held_at, held_prefix, row_low, row_left_fits, row_weight_fits, weights, number_once}
use Rattle.held.proofs.RowSteps.{row_short, row_single, row_left, row_right}
use Rattle.failures.specs.Items.{Item}
use Rattle.failures.specs.ItemsLaws.{why_not_told, why_not_tag}
use Rattle.failures.specs.OrderLaws.{wf_different}
use Rattle.failures.specs.Records as records
use Rattle.failures.specs.RecordsLaws.{items_listing, listing_item, listing_next}
use Rattle.memory.specs.Meaning.{formula_words, failure_words, held_count, told, Wf}
use Rattle.memory.specs.MeaningLaws.{wf_length}
use Rattle.memory.specs.Rules.{tag_of, left_of, right_of, noted_height, noted_size, failed_count, item_count, item_of, FormulaRules, ItemRules, Follows, FailureRules, Rules, FormulaWords, Layout}

-- never falling as numbers is by number, then unmarked first
follows : (x y : ℕ) → x ≤ y → Follows x y
follows x y l = ⊎_elim (λ h. inr (omega arith, omega arith)) (λ h. inl h) (le_or_lt (y / 2) (x / 2))

follows_le : (x y : ℕ) → Follows x y → x ≤ y
follows_le x y (inl h) = omega arith
follows_le x y (inr h) = omega (arith, h.0, h.1)

-- a row by its tag
row_no_left : {m : List ℕ} {n t a b h s : ℕ} → Row m n t a b h s → t < 4 → a ≡ 0
row_no_left (unit l x y e f) p = x
row_no_left (name k l x y e f) p = absurd (omega arith)
row_no_left (two k l x y e f u v) p = absurd (omega arith)
row_no_left (one k l x y e f u v) p = absurd (omega arith)

-- what well-formed words keep
module _ (m : List ℕ) (w : Wf m) where
  formula_rules : (i : ℕ) → i < held_count m → FormulaRules m i
  unfolding told held_count
  formula_rules i l =
      let f = formula_words m in
      let row = w.formulas.formulas.rows i l in
      let weight = weights f (formulas.count f) w.formulas.formulas i l in
      record {
        tag = row_low row;
        left = row_left row;
        right = row_right row;
        height = omega (arith, weight.0, (row_weight_fits row).0);
        size = omega (arith, weight.1, (row_weight_fits row).1);
      }

  formula_written : (i : ℕ) → i < held_count m → FormulaWords m i
  unfolding told held_count
  formula_written i l =
      let f = formula_words m in
      let row = w.formulas.formulas.rows i l in
      let weight = weights f (formulas.count f) w.formulas.formulas i l in
      record {
        height = sym weight.0;
        size = sym weight.1;
        name = λ k h. row_left_fits row (omega (arith, w.formulas.few));
        no_left = row_no_left row;
        no_right = ⊎_elim (row_short row) (row_single row);
      }

  item_rules : (x : ℕ) → Item (formula_words m) x → ItemRules m x
  unfolding told held_count
  item_rules x z = record { held = z.low; bare = λ e f q. z.bare e (why_not_tag w.formulas (x / 2) z.low f q) }

  failure_rules : (i : ℕ) → i < failed_count m → FailureRules m i
  failure_rules i l =
      let s = w.failures.failures.stands i l in
      let f = formula_words m in
      let g = failure_words m in
      let room : 2 + 32 * i + item_count m i ≤ length g = omega (arith, s.few, w.failures.few, w.failures.sized) in
      record {
        few = s.few;
        items = λ k u. item_rules (item_of m i k) (listing_item f g i (item_count m i) room s.items k u);
        order = λ k u. follows (item_of m i k) (item_of m i (suc k)) (listing_next f g i (item_count m i) room s.items k u);
      }

  pub wf_rules : Rules m
  unfolding told held_count
  wf_rules =
      record {
        formulas_few = w.formulas.few;
        failures_few = w.failures.few;
        formula = formula_rules;
        formula_once = λ i j u v e. (number_once (formula_words m) w.formulas i j u v).0 e;
        failure = failure_rules;
        failure_once = λ i j u v e. ⊎_elim (λ l. ⊎_elim (λ k. omega arith) (λ k. absurd ((wf_different w.failures).apart j i k u (sym e))) (le_or_lt i j)) (λ l. absurd ((wf_different w.failures).apart i j l v e)) (le_or_lt j i);
      }

  pub wf_layout : Layout m
  unfolding held_count
  wf_layout =
      record {
        sized = wf_length m w;
        formula = formula_written;
        order = w.formulas.order;
        no_formula = w.formulas.rest;
        no_order = w.formulas.unused;
        no_item = λ i l. (w.failures.failures.stands i l).rest;
        failure_order = w.failures.order;
        no_failure = w.failures.rest;
        no_failure_order = w.failures.unused;
      }

-- and the other way round
module _ (m : List ℕ) (rules : Rules m) (layout : Layout m) where
  abbrev fs : List ℕ
  fs = formula_words m

  abbrev gs : List ℕ
  gs = failure_words m

  front_sized : length fs ≡ 12289
  front_sized = length-take-le 12289 m (omega (arith, layout.sized))

  back_sized : length gs ≡ 33001
  back_sized = length-drop 12289 m ∙ omega (arith, layout.sized)

  -- a part of formula i, as the list before i has it, weighs what is noted
  part_height : (i a : ℕ) → i < held_count m → a < i → formula.height (get_or (formulas.held fs i) a One) ≡ noted_height m a
  unfolding told held_count
  part_height i a l u = ap formula.height (held_prefix fs (formulas.count fs) i a u (omega arith)) ∙ sym (layout.formula a (omega arith)).height

  part_size : (i a : ℕ) → i < held_count m → a < i → formula.size (get_or (formulas.held fs i) a One) ≡ noted_size m a
  unfolding told held_count
  part_size i a l u = ap formula.size (held_prefix fs (formulas.count fs) i a u (omega arith)) ∙ sym (layout.formula a (omega arith)).size

  module _ (i : ℕ) (low : i < held_count m) where
    abbrev t : ℕ
    t = tag_of m i

    abbrev a : ℕ
    a = left_of m i

    abbrev b : ℕ
    b = right_of m i

    abbrev before : List Formula
    before = formulas.held fs i

    tall : noted_height m i ≡ formula.height (node t a b before)
    unfolding told held_count
    tall = (layout.formula i low).height ∙ ap formula.height (held_at fs (formulas.count fs) i low)

    wide : noted_size m i ≡ formula.size (node t a b before)
    unfolding told held_count
    wide = (layout.formula i low).size ∙ ap formula.size (held_at fs (formulas.count fs) i low)

    in_bounds : (noted_height m i ≤ 64) × (noted_size m i < 65536)
    in_bounds = let r = rules.formula i low in let w = layout.formula i low in (omega (arith, r.height, w.height), omega (arith, r.size, w.size))

    leaf_row : t < 6 → formulas.RowAt fs i
    leaf_row l = ⊎_elim named plain (le_or_lt 4 t)
      where
        plain : t < 4 → formulas.RowAt fs i
        plain h = unit h ((layout.formula i low).no_left h) ((layout.formula i low).no_right (inl l)) (tall ∙ height_low a b before t l) (wide ∙ size_unit a b before t h)

        named : 4 ≤ t → formulas.RowAt fs i
        named h = name h l ((layout.formula i low).name h l) ((layout.formula i low).no_right (inl l)) (tall ∙ height_low a b before t l) (wide ∙ size_name a b before t h l)

    whole_row : 6 ≤ t → formulas.RowAt fs i
    whole_row k = ⊎_elim single pair (le_or_lt 11 t)
      where
        u : a < i
        u = (rules.formula i low).left k

        single : 11 ≤ t → formulas.RowAt fs i
        single h =
            let l = (rules.formula i low).tag in
            one h l u ((layout.formula i low).no_right (inr h))
            (omega (arith, tall, height_high a b before t h l, part_height i a low u))
            (omega (arith, wide, size_high a b before t h l, part_size i a low u))
            in_bounds.0 in_bounds.1

        pair : t < 11 → formulas.RowAt fs i
        pair l =
            let v = (rules.formula i low).right k l in
            two k l u v
            (omega (arith, tall, height_mid a b before t k l, part_height i a low u, part_height i b low v))
            (omega (arith, wide, size_mid a b before t k l, part_size i a low u, part_size i b low v))
            in_bounds.0 in_bounds.1

    row_at : formulas.RowAt fs i
    row_at = ⊎_elim whole_row leaf_row (le_or_lt 6 t)

  formulas_wf : formulas.Wf fs
  unfolding held_count
  formulas_wf =
      record {
        sized = front_sized;
        few = rules.formulas_few;
        formulas = record { rows = row_at };
        order = layout.order;
        rest = layout.no_formula;
        unused = layout.no_order;
      }

  rules_item : (x : ℕ) → ItemRules m x → Item fs x
  unfolding told held_count
  rules_item x z = record { low = z.held; bare = λ e q. z.bare e _ (why_not_told formulas_wf (x / 2) z.held q) }

  stands : (i : ℕ) → i < failed_count m → records.Stands fs gs i
  stands i l =
      let r = rules.failure i l in
      let room : 2 + 32 * i + item_count m i ≤ length gs = omega (arith, r.few, rules.failures_few, back_sized) in
      record {
        few = r.few;
        items = items_listing fs gs i (item_count m i) room (λ k u. rules_item (item_of m i k) (r.items k u)) (λ k u. follows_le (item_of m i k) (item_of m i (suc k)) (r.order k u));
        rest = layout.no_item i l;
      }

  pub rules_wf : Wf m
  rules_wf =
      record {
        formulas = formulas_wf;
        failures =
            record {
              sized = back_sized;
              few = rules.failures_few;
              failures = record { stands = stands };
              order = layout.failure_order;
              rest = layout.no_failure;
              unused = layout.no_failure_order;
            };
      }

pub wf_is_rules : (m : List ℕ) → Wf m ↔ (Rules m × Layout m)
wf_is_rules m = (λ w. (wf_rules m w, wf_layout m w), λ r. rules_wf m r.0 r.1)

-- so the test tells exactly whether the rules are kept
pub tells_rules : (m : List ℕ) (r : Bool) → Tells r (Wf m) → Tells r (Rules m × Layout m)
tells_rules m true w = (wf_is_rules m).0 w
tells_rules m false h = λ r. h ((wf_is_rules m).1 r)
