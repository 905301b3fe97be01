-- Each reader leaves an end of its bytes: what it read, it read from the front. So formulas until the bytes end are one formula and then the formulas of what is left; and a tree that was
-- read has no more levels than were allowed. Assumes nothing.
use Rattle.std.specs.Prelude.{◌≡◌, refl, List, [], ◌∷◌, ◌++◌, leb, length, take}
use Rattle.std.proofs.Common.{sym, ap, ◌∙◌, append_assoc, take-append-drop, length-append, length-take}
use Prim.Native.Nat.{ℕ, zero, suc, ◌+◌, ◌≤◌, ◌<◌}
use native.Mathlib.Omega.{arith}
use Rattle.logic.specs.Formula.{Formula}
use Rattle.logic.specs.Tree.{Tree, Trees, depth, depths}
use Rattle.logic.specs.Answer.{Refusal, wrong_length, wrong_tag, wrong_number, too_many}
use Rattle.wire.specs.Read.{Read, got, refused, ◌then◌, read_byte, read_two, Sign, unit, named, binary, unary, signs, read_parts, read_formula, highest_formula, read_formulas, read_all, read_bytes, zone_bytes, RuleForm, bare, with_formula, with_number, rule_forms, read_argument, read_zone, read_sequent, most_formulas, read_premises, read_node}
use Rattle.wire.specs.Gives.{Gives, AllAt}
use Rattle.wire.proofs.GivesLaws.{gives_got, gives_refused, gives_then, gives_map, gives_unless, gives_entry, when_got}
use Rattle.tree.specs.Head.{read_rule, read_head}
use Rattle.tree.specs.HeadLaws.{node_by_head}

-- `rest` is an end of bs
pub record Ends (bs rest : List ℕ) : Type 0 where
  pub front : List ℕ
  pub joined : bs ≡ front ++ rest

ends_all : {bs : List ℕ} → Ends bs bs
ends_all = record { front = []; joined = refl }

ends_cons : {b : ℕ} {bs : List ℕ} → Ends (b ∷ bs) bs
ends_cons {b} = record { front = b ∷ []; joined = refl }

ends_trans : {bs mid rest : List ℕ} → Ends bs mid → Ends mid rest → Ends bs rest
ends_trans p q = record { front = p.front ++ q.front; joined = p.joined ∙ rw (append_assoc, q.joined) }

abbrev pub Any : Refusal → Type 0
Any r = Unit {0}

-- a reader that leaves an end of bs
abbrev pub LeavesEnd : {A : Type 0} → List ℕ → Read A → Type 0
LeavesEnd {A} bs m = Gives {A = A} (λ a rest. Ends bs rest) Any m

module _ {A B : Type 0} {bs : List ℕ} where
  after_it : {m : Read A} {k : A → List ℕ → Read B} → LeavesEnd bs m → ((a : A) (rest : List ℕ) → LeavesEnd rest (k a rest)) → LeavesEnd bs (m then k)
  after_it g f = gives_then g λ a mid p. gives_map (f a mid) λ b rest q. ends_trans p q

-- every entry of a table
abbrev Every : {A : Type 0} → ℕ → A → Type 0
Every n a = Unit {0}

every : {A : Type 0} (table : List A) → AllAt Every table
every [] = tt
every (a ∷ as') = (tt, every as')

byte_ends : (bs : List ℕ) → LeavesEnd bs (read_byte bs)
unfolding read_byte
byte_ends [] = gives_refused tt
byte_ends (b ∷ bs) = gives_got ends_cons

two_ends : (bs : List ℕ) → LeavesEnd bs (read_two bs)
unfolding read_two
two_ends bs = after_it (byte_ends bs) λ h mid. after_it (byte_ends mid) λ l rest. gives_got ends_all

parts_end : (part : List ℕ → Read Formula) → ((bs : List ℕ) → LeavesEnd bs (part bs)) → (s : Sign) (bs : List ℕ) → LeavesEnd bs (read_parts part s bs)
unfolding read_parts
parts_end part ends (unit f) bs = gives_got ends_all
parts_end part ends (named f) bs = after_it (two_ends bs) λ n rest. gives_got ends_all
parts_end part ends (binary f) bs = after_it (ends bs) λ a mid. after_it (ends mid) λ b rest. gives_got ends_all
parts_end part ends (unary f) bs = after_it (ends bs) λ a rest. gives_got ends_all

pub formula_ends : (levels : ℕ) (bs : List ℕ) → LeavesEnd bs (read_formula levels bs)
unfolding read_formula
formula_ends zero bs = after_it (byte_ends bs) λ t rest. gives_entry Every signs (every signs) t wrong_tag tt λ s w. gives_refused tt
formula_ends (suc levels) bs =
    after_it (byte_ends bs) λ t rest.
    gives_entry Every signs (every signs) t wrong_tag tt λ s w. parts_end (read_formula levels) (formula_ends levels) s rest

-- a formula takes a byte
abbrev Takes : List ℕ → List ℕ → Type 0
Takes bs rest = length rest < length bs

ends_short : {bs rest : List ℕ} → Ends bs rest → length rest ≤ length bs
ends_short {rest} e = omega (arith, ap length e.joined, length-append e.front rest)

byte_taken : (bs : List ℕ) → Gives (λ b rest. Takes bs rest) Any (read_byte bs)
unfolding read_byte
byte_taken [] = gives_refused tt
byte_taken (b ∷ bs) = gives_got (omega arith)

taken : (levels : ℕ) (bs : List ℕ) → Gives (λ f rest. Takes bs rest) Any (read_formula levels bs)
unfolding read_formula
taken zero bs = gives_then (byte_taken bs) λ t mid p. gives_entry Every signs (every signs) t wrong_tag tt λ s w. gives_refused tt
taken (suc levels) bs =
    gives_then (byte_taken bs) λ t mid p.
    gives_entry Every signs (every signs) t wrong_tag tt λ s w.
    gives_map (parts_end (read_formula levels) (formula_ends levels) s mid) λ f rest q. omega (arith, ends_short q)

pub formula_taken : (levels : ℕ) (bs : List ℕ) {rest : List ℕ} {f : Formula} → read_formula levels bs ≡ got f rest → length rest < length bs
formula_taken levels bs e = when_got (taken levels bs) e

-- what follows a reader makes a difference only where it read something
then_same : {A B : Type 0} (m : Read A) (k k' : A → List ℕ → Read B) → ((a : A) (rest : List ℕ) → m ≡ got a rest → k a rest ≡ k' a rest) → (m then k) ≡ (m then k')
unfolding ◌then◌
then_same (got a rest) k k' h = h a rest refl
then_same (refused r) k k' h = refl

-- more formulas allowed than bytes are no more
most_enough : (most most' : ℕ) (bs : List ℕ) → length bs ≤ most → length bs ≤ most' → read_formulas most bs ≡ read_formulas most' bs
unfolding read_formulas
most_enough zero zero bs h h' = refl
most_enough zero (suc most') [] h h' = refl
most_enough zero (suc most') (b ∷ bs) h h' = absurd (omega arith)
most_enough (suc most) zero [] h h' = refl
most_enough (suc most) zero (b ∷ bs) h h' = absurd (omega arith)
most_enough (suc most) (suc most') [] h h' = refl
most_enough (suc most) (suc most') (b ∷ bs) h h' =
    then_same (read_formula highest_formula (b ∷ bs)) (λ f rest. read_formulas most rest then λ fs end. got (f ∷ fs) end) (λ f rest. read_formulas most' rest then λ fs end. got (f ∷ fs) end) λ f rest e.
    ap (λ (m : Read (List Formula)). m then λ fs end. got (f ∷ fs) end) (most_enough most most' rest (omega (arith, formula_taken highest_formula (b ∷ bs) e)) (omega (arith, formula_taken highest_formula (b ∷ bs) e)))

pub read_all_cons : (b : ℕ) (bs : List ℕ)
    → read_all (b ∷ bs) ≡ (read_formula highest_formula (b ∷ bs) then λ f rest. read_all rest then λ fs end. got (f ∷ fs) end)
unfolding read_formulas
read_all_cons b bs =
    then_same (read_formula highest_formula (b ∷ bs)) (λ f rest. read_formulas (length bs) rest then λ fs end. got (f ∷ fs) end) (λ f rest. read_all rest then λ fs end. got (f ∷ fs) end) λ f rest e.
    ap (λ (m : Read (List Formula)). m then λ fs end. got (f ∷ fs) end) (most_enough (length bs) (length rest) rest (omega (arith, formula_taken highest_formula (b ∷ bs) e)) (omega arith))

bytes_end : (n : ℕ) (bs : List ℕ) → LeavesEnd bs (read_bytes n bs)
unfolding read_bytes
bytes_end n bs = gives_unless (leb n (length bs)) wrong_length tt λ e. gives_got (record { front = take n bs; joined = sym (take-append-drop n bs) })

zone_bytes_end : (bs : List ℕ) → LeavesEnd bs (zone_bytes bs)
unfolding zone_bytes
zone_bytes_end bs = after_it (two_ends bs) λ n rest. bytes_end n rest

pub zone_ends : (bs : List ℕ) → LeavesEnd bs (read_zone bs)
unfolding read_zone
zone_ends bs = after_it (zone_bytes_end bs) λ zone rest. gives_then (any_gives (read_all zone)) λ fs end p. gives_got ends_all
  where
    any_gives : (m : Read (List Formula)) → Gives (λ a rest. Unit {0}) Any m
    any_gives (got a rest) = gives_got tt
    any_gives (refused r) = gives_refused tt

-- a zone has no more formulas than bytes
few_formulas : (most : ℕ) (bs : List ℕ) → Gives (λ fs rest. length fs ≤ most) Any (read_formulas most bs)
unfolding read_formulas
few_formulas zero [] = gives_got (omega arith)
few_formulas zero (b ∷ bs) = gives_refused tt
few_formulas (suc most) [] = gives_got (omega arith)
few_formulas (suc most) (b ∷ bs) =
    gives_then (formula_ends highest_formula (b ∷ bs)) λ f mid p.
    gives_then (few_formulas most mid) λ fs rest q. gives_got (omega arith)

short_bytes : (n : ℕ) (bs : List ℕ) → Gives (λ zone rest. length zone ≤ length bs) Any (read_bytes n bs)
unfolding read_bytes
short_bytes n bs = gives_unless (leb n (length bs)) wrong_length tt λ e. gives_got (omega (arith, length-take n bs))

pub zone_few : (bs : List ℕ) → Gives (λ fs rest. length fs ≤ length bs) Any (read_zone bs)
unfolding read_zone zone_bytes
zone_few bs =
    gives_then
    (gives_then (two_ends bs) λ n mid p. gives_map (short_bytes n mid) λ zone rest q. short zone mid p q)
    λ zone rest p. gives_then (few_formulas (length zone) zone) λ fs end q. gives_got (omega arith)
  where
    short : (zone mid : List ℕ) → Ends bs mid → length zone ≤ length mid → length zone ≤ length bs
    short zone mid p q = omega (arith, ends_short p)

pub sequent_ends : (bs : List ℕ) → LeavesEnd bs (read_sequent bs)
unfolding read_sequent
sequent_ends bs =
    after_it (zone_ends bs) λ Γ mid.
    after_it (zone_ends mid) λ Θ rest.
    gives_unless (leb (length Γ + length Θ) most_formulas) too_many tt λ e. gives_got ends_all

argument_ends : (form : RuleForm) (bs : List ℕ) → LeavesEnd bs (read_argument form bs)
unfolding read_argument
argument_ends (bare r) bs = gives_got ends_all
argument_ends (with_formula r) bs = after_it (formula_ends highest_formula bs) λ c rest. gives_got ends_all
argument_ends (with_number r) bs = after_it (two_ends bs) λ n rest. gives_got ends_all

pub rule_ends : (bs : List ℕ) → LeavesEnd bs (read_rule bs)
unfolding read_rule
rule_ends bs = after_it (byte_ends bs) λ r rest. gives_entry Every rule_forms (every rule_forms) r wrong_number tt λ form w. argument_ends form rest

pub head_ends : (bs : List ℕ) → LeavesEnd bs (read_head bs)
unfolding read_head
head_ends bs =
    after_it (rule_ends bs) λ r above.
    after_it (sequent_ends above) λ q mid.
    after_it (byte_ends mid) λ n rest. gives_got ends_all

-- a tree of so many levels, premises of so many
pub record TreeEnds (levels : ℕ) (bs : List ℕ) (t : Tree) (rest : List ℕ) : Type 0 where
  pub ends : Ends bs rest
  pub low : depth t ≤ levels

pub record TreesEnd (levels : ℕ) (bs : List ℕ) (ts : Trees) (rest : List ℕ) : Type 0 where
  pub ends : Ends bs rest
  pub low : depths ts ≤ levels

module _ (levels : ℕ) (premise : List ℕ → Read Tree) (premise_ends : (bs : List ℕ) → Gives (TreeEnds levels bs) Any (premise bs)) where
  some_end : (n : ℕ) (bs : List ℕ) → Gives (TreesEnd levels bs) Any (read_premises premise n bs)
  unfolding read_premises depths
  some_end zero bs = gives_got (record { ends = ends_all; low = omega arith })
  some_end (suc n) bs =
      gives_then (premise_ends bs) λ t mid p.
      gives_then (some_end n mid) λ ts rest q.
      gives_got (record { ends = ends_trans p.ends q.ends; low = omega arith })

pub tree_ends : (levels : ℕ) (bs : List ℕ) → Gives (TreeEnds levels bs) Any (read_node levels bs)
unfolding read_node depth
tree_ends zero bs = gives_then (byte_ends bs) λ r rest p. gives_refused tt
tree_ends (suc levels) bs =
    rw node_by_head
    (gives_then (head_ends bs) λ h mid p.
    gives_then (some_end levels (read_node levels) (tree_ends levels) h.premises mid) λ ts rest q.
    gives_got (record { ends = ends_trans p q.ends; low = omega arith }))

pub premises_end : (levels n : ℕ) (bs : List ℕ) → Gives (TreesEnd levels bs) Any (read_premises (read_node levels) n bs)
premises_end levels = some_end levels (read_node levels) (tree_ends levels)
