-- A rule's number says whether it has a short form, how many premises follow and how many bytes its node has: laws of the tables. Assumes nothing.
use Rattle.std.specs.Prelude.{◌≡◌, Bool, List, [], ◌∷◌, ℕ, zero, suc, ◌≤◌, ◌<◌, eqb, length, get_or}
use Rattle.std.proofs.Math.Path.{refl}
use Rattle.std.proofs.Common.{ap, ◌∙◌, arith, ltb-true, ltb-false, eq-eqb, ne_eqb}
use Rattle.std.proofs.Math.Bool.{true, false}
use Rattle.std.proofs.Math.Dec.{ltb}
use Rattle.std.proofs.Math.ListN.{get_or-eq_default}
use Rattle.logic.specs.Tree.{
  Rule,
  Axiom,
  OneIntro,
  BottomIntro,
  TensorIntro,
  ParIntro,
  TopIntro,
  WithIntro,
  PlusIntroLeft,
  PlusIntroRight,
  OfCourseIntro,
  WhyNotIntro,
  Weakening,
  Contraction,
  Dereliction,
}
use Rattle.logic.specs.Answer.{Refusal, wrong_number}
use Rattle.wire.specs.Read.{Read, got, refused, ◌then◌, entry}
use Rattle.wire.specs.Gives.{AllAt, ◌&◌}
use Rattle.short.specs.Short.{Short, follow}
use Rattle.short_bytes.specs.Write.{has_mask}
use Rattle.short_bytes.specs.Read.{short_rules}
use Rattle.short_read.specs.Reading.{premise_counts, premises_by, node_bytes}

-- a rule of this number has a short form
pub record Known (n : ℕ) (known : Read Rule) : Type 0 where
  pub rule : Rule
  pub is : known ≡ got rule []
  pub follows : follow rule ≡ premises_by n
  pub few : premises_by n ≤ 2
  pub masked : has_mask rule ≡ eqb n 4

-- what stands in the table under a number, by how many premises follow
record Tabled (n : ℕ) (known : Read Rule) : Type 0 where
  none : premises_by n ≡ 3 → known ≡ refused wrong_number
  some : (premises_by n ≡ 3 → ⊥) → Known n known

known_rule : {n : ℕ} (r : Rule) → follow r ≡ premises_by n → has_mask r ≡ eqb n 4 → premises_by n ≤ 2 → Tabled n (got r [])
known_rule r f m h = record { none = λ e. absurd (omega arith); some = λ _. record { rule = r; is = refl; follows = f; few = h; masked = m } }

tabled : AllAt Tabled short_rules
unfolding follow has_mask
tabled =
    known_rule Axiom refl refl (omega arith)
    & record { none = λ e. refl; some = λ h. absurd (h refl) }
    & known_rule OneIntro refl refl (omega arith)
    & known_rule BottomIntro refl refl (omega arith)
    & known_rule TensorIntro refl refl (omega arith)
    & known_rule ParIntro refl refl (omega arith)
    & known_rule TopIntro refl refl (omega arith)
    & known_rule WithIntro refl refl (omega arith)
    & known_rule PlusIntroLeft refl refl (omega arith)
    & known_rule PlusIntroRight refl refl (omega arith)
    & known_rule OfCourseIntro refl refl (omega arith)
    & known_rule WhyNotIntro refl refl (omega arith)
    & known_rule Weakening refl refl (omega arith)
    & known_rule Contraction refl refl (omega arith)
    & known_rule Dereliction refl refl (omega arith)
    & tt

-- a node's bytes: a mask at TensorIntro alone
pub bytes_six : {n : ℕ} → n ≡ 4 → node_bytes n ≡ 6
bytes_six {n} e = ap (λ (b : Bool). elim b as (λ _. ℕ) [ true ↦ 6 | false ↦ 2 ]) (eq-eqb n 4 e)

pub bytes_two : {n : ℕ} → (n ≡ 4 → ⊥) → node_bytes n ≡ 2
bytes_two {n} h = ap (λ (b : Bool). elim b as (λ _. ℕ) [ true ↦ 6 | false ↦ 2 ]) (ne_eqb n 4 h)

-- what stands in a table at a number, and that nothing stands past it
record EntryAt {A : Type 0} (table : List A) (n : ℕ) (P : A → Type 0) : Type 0 where
  form : A
  found : (r : Refusal) (k : A → Read Short) → entry table n r k ≡ k form
  also : P form

entry_at : {A : Type 0} (W : ℕ → A → Type 0) (table : List A) → AllAt W table → (n : ℕ) → n < length table → EntryAt table n (W n)
unfolding entry
entry_at W [] ws n h = absurd (omega arith)
entry_at W (a ∷ as') ws zero h = record { form = a; found = λ r k. refl; also = ws.0 }
entry_at W (a ∷ as') ws (suc n) h =
    let there = entry_at (λ n. W (suc n)) as' ws.1 n (omega arith) in record { form = there.form; found = there.found; also = there.also }

entry_past : {A B : Type 0} (table : List A) (n : ℕ) (r : Refusal) (k : A → Read B) → length table ≤ n → entry table n r k ≡ refused r
unfolding entry
entry_past [] n r k h = refl
entry_past (a ∷ as') zero r k h = absurd (omega arith)
entry_past (a ∷ as') (suc n) r k h = entry_past as' n r k (omega arith)

-- the table's items, and what stands past them
item_inside : (xs : List ℕ) (n d d' : ℕ) → n < length xs → get_or xs n d ≡ get_or xs n d'
item_inside [] n d d' h = absurd (omega arith)
item_inside (x ∷ xs) zero d d' h = refl
item_inside (x ∷ xs) (suc n) d d' h = item_inside xs n d d' (omega arith)

pub some_inside : (n : ℕ) → n < 15 → get_or premise_counts n 0 ≡ premises_by n
some_inside n h = item_inside premise_counts n 0 3 h

pub none_past : (n : ℕ) → 15 ≤ n → premises_by n ≡ 3
none_past n h = get_or-eq_default premise_counts 3 h

module _ (n : ℕ) (k : Rule → Read Short) where
  -- no short form: 2
  pub rule_refused : premises_by n ≡ 3 → (entry short_rules n wrong_number λ known. known then λ r _. k r) ≡ refused wrong_number
  unfolding ◌then◌
  rule_refused e = go (ltb n 15) refl
    where
      go : (b : Bool) → ltb n 15 ≡ b → (entry short_rules n wrong_number λ known. known then λ r _. k r) ≡ refused wrong_number
      go true l =
          let there = entry_at Tabled short_rules tabled n (ltb-true n 15 l) in
          there.found wrong_number (λ known. known then λ r _. k r) ∙ rw (there.also.none e)
      go false l = entry_past short_rules n wrong_number (λ known. known then λ r _. k r) (ltb-false n 15 l)

-- a short form: the rule of that number
pub record RuleThere (n : ℕ) : Type 0 where
  pub rule : Rule
  pub found : (k : Rule → Read Short) → (entry short_rules n wrong_number λ known. known then λ r _. k r) ≡ k rule
  pub follows : follow rule ≡ premises_by n
  pub few : premises_by n ≤ 2
  pub masked : has_mask rule ≡ eqb n 4

pub rule_there : (n : ℕ) → (premises_by n ≡ 3 → ⊥) → RuleThere n
unfolding ◌then◌
rule_there n h = go (ltb n 15) refl
  where
    go : (b : Bool) → ltb n 15 ≡ b → RuleThere n
    go true l =
        let there = entry_at Tabled short_rules tabled n (ltb-true n 15 l) in
        let known = there.also.some h in
        record {
          rule = known.rule;
          found = λ k. there.found wrong_number (λ known. known then λ r _. k r) ∙ rw known.is;
          follows = known.follows;
          few = known.few;
          masked = known.masked;
        }
    go false l = absurd (h (none_past n (ltb-false n 15 l)))
