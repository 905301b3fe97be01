-- What the readers' answers say, and what each step of the code adds: laws of `Answers` over a message s. Assumes nothing.
use Rattle.std.proofs.Math.Path.{◌≡◌, refl, sym, ap}
use Rattle.std.proofs.Common.{◌∙◌, add-one, length-append, drop-cons}
use Rattle.std.specs.Prelude.{Bool, Result, Ok, Err}
use Rattle.std.proofs.Math.Bool.{true, false}
use mathlib.Core.List.{List, [], ◌∷◌}
use Prim.Native.Nat.{ℕ, zero, suc, ◌+◌, ◌-◌, ◌*◌, ◌≤◌, ◌<◌, max}
use native.Mathlib.Omega.{arith}
use borrow.Author.Tests.{le-leb, lt-leb, eq-eqb, ne_eqb, eqb-true, eqb-false}
use Rattle.std.proofs.Math.Dec.{eqb}
use Rattle.std.proofs.Math.ListN.{length, get_or, take, drop, length-drop}
use Rattle.std.proofs.Math.Seq.{slice, slice_empty, slice-cons, drop-drop, drop-append_seam, drop-length, take-length}
use Rattle.logic.specs.Formula.{Formula}
use Rattle.logic.proofs.FormulaLaws.{size_positive}
use Rattle.logic.specs.Tree.{
  Rule,
  Axiom,
  Cut,
  OneIntro,
  BottomIntro,
  TensorIntro,
  ParIntro,
  TopIntro,
  WithIntro,
  PlusIntroLeft,
  PlusIntroRight,
  OfCourseIntro,
  WhyNotIntro,
  Weakening,
  Contraction,
  Dereliction,
  FocusPositive,
  FocusNegative,
  Blur,
  Tree,
  Trees,
  ◌▹◌,
  depth,
  depths,
}
use Rattle.logic.specs.Answer as answer
use Rattle.wire.specs.Read.{
  Read,
  got,
  refused,
  ◌then◌,
  unless,
  entry,
  at_end,
  read_message,
  read_byte,
  read_two,
  read_formula,
  highest_formula,
  read_formulas,
  read_all,
  read_bytes,
  zone_bytes,
  RuleForm,
  bare,
  with_number,
  rule_forms,
  read_argument,
  read_zone,
  read_sequent,
  most_formulas,
  read_premises,
  read_node,
  highest_tree,
  read_tree,
}
use Rattle.wire.specs.Fits.{Bytes}
use Rattle.wire.specs.Gives.{Gives, AllAt, ◌&◌}
use Rattle.wire.proofs.GivesLaws.{when_got, gives_map}
use Rattle.formula.specs.Answers.{coded, reads}
use Rattle.formula.specs.ReadingLaws.{Reached, reached}
use Rattle.formula.specs.declared.Refusal.{Refusal}
use Rattle.formula.specs.declared.Refusal.TheVariants.{WrongNumber, WrongLength, TooHigh, TooMany}
use Rattle.tree.specs.Head.{Head, read_rule, read_head, node_of}
use Rattle.tree.specs.HeadLaws.{node_by_head}
use Rattle.tree.specs.EndsLaws.{Any, Ends, LeavesEnd, TreeEnds, TreesEnd, read_all_cons, zone_ends, zone_few, sequent_ends, rule_ends, head_ends, tree_ends, premises_end}
use Rattle.tree.specs.StandsLaws.{slice_take}
use Rattle.tree.specs.Answers.{counted, zone_read, own_read, tree_read, trees_read, depth_of}
use Rattle.tree.specs.declared.Zone.{Zone}
use Rattle.tree.specs.declared.Own.{Own}
use Rattle.tree.specs.declared.Subtree.{Subtree}

-- ---- answers taken apart: a refusal, and a value with the next place

-- the reader refused, with the code's `why`
pub record RefusedBy {A : Type 0} (m : Read A) (why : Refusal) : Type 0 where
  pub kind : answer.Refusal
  pub is : m ≡ refused kind
  pub code : why ≡ coded kind

-- what is left over is the end of s from `next` on
pub record RestAt (s : List ℕ) (at next : ℕ) (rest : List ℕ) : Type 0 where
  pub rest_is : rest ≡ drop next s
  pub further : at ≤ next
  pub inside : next ≤ length s

rest_at : (s : List ℕ) (at : ℕ) {rest : List ℕ} → at ≤ length s → Ends (drop at s) rest → RestAt s at (length s - length rest) rest
rest_at s at {rest} h e =
    let n : length s - at ≡ length e.front + length rest = sym (length-drop at s) ∙ ap length e.joined ∙ length-append e.front rest in
    let next : length s - length rest ≡ at + length e.front = omega arith in
    record {
      rest_is = sym (rw next (sym (drop-drop (length e.front) at s) ∙ ap (drop (length e.front)) e.joined ∙ drop-append_seam e.front rest));
      further = omega arith;
      inside = omega arith;
    }

-- a value, and the next place
pub record Landed {A : Type 0} (s : List ℕ) (at : ℕ) (m : Read A) (next : ℕ) (P : A → Type 0) : Type 0 where
  pub value : A
  pub is : m ≡ got value (drop next s)
  pub further : at ≤ next
  pub inside : next ≤ length s
  pub also : P value

landed : {A : Type 0} {P : A → Type 0} (s : List ℕ) (at : ℕ) {m : Read A} {a : A} {rest : List ℕ} {next : ℕ} → at ≤ length s → LeavesEnd (drop at s) m → m ≡ got a rest → length s - length rest ≡ next → P a → Landed s at m next P
landed s at {a = a} h ends e n p =
    let there = rest_at s at h (when_got ends e) in
    record { value = a; is = e ∙ ap (got a) (there.rest_is ∙ ap (λ (k : ℕ). drop k s) n); further = rw (← n) there.further; inside = rw (← n) there.inside; also = p }

module _ (s : List ℕ) (at : ℕ) (inside : at ≤ length s) where
  pub reads_next : {A : Type 0} (m : Read A) {x : Result ℕ Refusal} {next : ℕ} → LeavesEnd (drop at s) m → x ≡ reads (length s) m → x ≡ Ok next → Landed s at m next (λ a. Unit {0})
  unfolding reads
  reads_next (got a rest) {next = next} ends e₁ e₂ = let n : length s - length rest ≡ next = cc in landed s at inside ends refl n tt
  reads_next (refused k) ends e₁ e₂ = let z : ◌≡◌ {A = ℕ} 0 1 = cc in absurd (omega arith)

  pub zone_holds : (m : Read (List Formula)) {x : Result Zone Refusal} {z : Zone} → LeavesEnd (drop at s) m → x ≡ zone_read (length s) m → x ≡ Ok z → Landed s at m z.next (λ fs. z.count ≡ length fs)
  unfolding zone_read
  zone_holds (got fs rest) {z = z} ends e₁ e₂ =
      let e : z ≡ record { count = length fs; next = length s - length rest } = cc in
      landed s at inside ends refl (sym (ap (λ (z : Zone). z.next) e)) (ap (λ (z : Zone). z.count) e)
  zone_holds (refused k) ends e₁ e₂ = let z : ◌≡◌ {A = ℕ} 0 1 = cc in absurd (omega arith)

  pub own_premises : (m : Read Head) {x : Result Own Refusal} {o : Own} → LeavesEnd (drop at s) m → x ≡ own_read (length s) m → x ≡ Ok o → Landed s at m o.next (λ h. o.premises ≡ h.premises)
  unfolding own_read
  own_premises (got h rest) {o = o} ends e₁ e₂ =
      let e : o ≡ record { premises = h.premises; next = length s - length rest } = cc in
      landed s at inside ends refl (sym (ap (λ (o : Own). o.next) e)) (ap (λ (o : Own). o.premises) e)
  own_premises (refused k) ends e₁ e₂ = let z : ◌≡◌ {A = ℕ} 0 1 = cc in absurd (omega arith)

  pub tree_whole : (levels : ℕ) (m : Read Tree) {x : Result Subtree Refusal} {w : Subtree} → Gives (TreeEnds levels (drop at s)) Any m → x ≡ tree_read (length s) m → x ≡ Ok w → Landed s at m w.next (λ t. (w.depth ≡ depth t) × (w.depth ≤ levels))
  unfolding tree_read
  tree_whole levels (got t rest) {w = w} ends e₁ e₂ =
      let e : w ≡ record { next = length s - length rest; depth = depth t } = cc in
      let k : w.depth ≡ depth t = ap (λ (w : Subtree). w.depth) e in
      landed s at inside (gives_map ends λ t rest p. p.ends) refl (sym (ap (λ (w : Subtree). w.next) e)) (k, rw k (when_got ends refl).low)
  tree_whole levels (refused k) ends e₁ e₂ = let z : ◌≡◌ {A = ℕ} 0 1 = cc in absurd (omega arith)

  pub trees_whole : (levels : ℕ) (m : Read Trees) {x : Result Subtree Refusal} {w : Subtree} → Gives (TreesEnd levels (drop at s)) Any m → x ≡ trees_read (length s) 0 m → x ≡ Ok w → Landed s at m w.next (λ ts. (w.depth ≡ depths ts) × (w.depth ≤ levels))
  unfolding trees_read
  trees_whole levels (got ts rest) {w = w} ends e₁ e₂ =
      let e : w ≡ record { next = length s - length rest; depth = max 0 (depths ts) } = cc in
      let k : w.depth ≡ max 0 (depths ts) = ap (λ (w : Subtree). w.depth) e in
      let k' : w.depth ≡ depths ts = omega arith in
      landed s at inside (gives_map ends λ t rest p. p.ends) refl (sym (ap (λ (w : Subtree). w.next) e)) (k', rw k' (when_got ends refl).low)
  trees_whole levels (refused k) ends e₁ e₂ = let z : ◌≡◌ {A = ℕ} 0 1 = cc in absurd (omega arith)

-- a zone has no more formulas than the message has bytes
pub zone_small : (s : List ℕ) (at : ℕ) {x : Result Zone Refusal} {z : Zone} → x ≡ zone_read (length s) (read_zone (drop at s)) → x ≡ Ok z → z.count ≤ length s
unfolding zone_read
zone_small s at {x = x} {z = z} e₁ e₂ = go (read_zone (drop at s)) (zone_few (drop at s)) e₁
  where
    go : (m : Read (List Formula)) → Gives (λ fs rest. length fs ≤ length (drop at s)) Any m → x ≡ zone_read (length s) m → z.count ≤ length s
    go (got fs rest) few e =
        let here : z ≡ record { count = length fs; next = length s - length rest } = cc in
        omega (arith, ap (λ (z : Zone). z.count) here, when_got few refl, length-drop at s)
    go (refused k) few e = let no : ◌≡◌ {A = ℕ} 0 1 = cc in absurd (omega arith)

-- the same for refusals
module _ {A : Type 0} (end : ℕ) where
  pub reads_refused : (m : Read A) {x : Result ℕ Refusal} {why : Refusal} → x ≡ reads end m → x ≡ Err why → RefusedBy m why
  unfolding reads
  reads_refused (got a rest) e₁ e₂ = let z : ◌≡◌ {A = ℕ} 0 1 = cc in absurd (omega arith)
  reads_refused (refused k) e₁ e₂ = record { kind = k; is = refl; code = cc }

pub counted_refused : (n : ℕ) (m : Read (List Formula)) {x : Result ℕ Refusal} {why : Refusal} → x ≡ counted n m → x ≡ Err why → RefusedBy m why
unfolding counted
counted_refused n (got a rest) e₁ e₂ = let z : ◌≡◌ {A = ℕ} 0 1 = cc in absurd (omega arith)
counted_refused n (refused k) e₁ e₂ = record { kind = k; is = refl; code = cc }

pub zone_refused : (end : ℕ) (m : Read (List Formula)) {x : Result Zone Refusal} {why : Refusal} → x ≡ zone_read end m → x ≡ Err why → RefusedBy m why
unfolding zone_read
zone_refused end (got a rest) e₁ e₂ = let z : ◌≡◌ {A = ℕ} 0 1 = cc in absurd (omega arith)
zone_refused end (refused k) e₁ e₂ = record { kind = k; is = refl; code = cc }

pub own_refused : (end : ℕ) (m : Read Head) {x : Result Own Refusal} {why : Refusal} → x ≡ own_read end m → x ≡ Err why → RefusedBy m why
unfolding own_read
own_refused end (got a rest) e₁ e₂ = let z : ◌≡◌ {A = ℕ} 0 1 = cc in absurd (omega arith)
own_refused end (refused k) e₁ e₂ = record { kind = k; is = refl; code = cc }

pub tree_refused : (end : ℕ) (m : Read Tree) {x : Result Subtree Refusal} {why : Refusal} → x ≡ tree_read end m → x ≡ Err why → RefusedBy m why
unfolding tree_read
tree_refused end (got a rest) e₁ e₂ = let z : ◌≡◌ {A = ℕ} 0 1 = cc in absurd (omega arith)
tree_refused end (refused k) e₁ e₂ = record { kind = k; is = refl; code = cc }

pub trees_refused : (end deepest : ℕ) (m : Read Trees) {x : Result Subtree Refusal} {why : Refusal} → x ≡ trees_read end deepest m → x ≡ Err why → RefusedBy m why
unfolding trees_read
trees_refused end deepest (got a rest) e₁ e₂ = let z : ◌≡◌ {A = ℕ} 0 1 = cc in absurd (omega arith)
trees_refused end deepest (refused k) e₁ e₂ = record { kind = k; is = refl; code = cc }

-- answers of the same places
same_zone : {n n' p p' : ℕ} → n ≡ n' → p ≡ p' → ◌≡◌ {A = Result Zone Refusal} (Ok (record { count = n; next = p })) (Ok (record { count = n'; next = p' }))
same_zone e e' = rw (e, e')

same_own : {n n' p p' : ℕ} → n ≡ n' → p ≡ p' → ◌≡◌ {A = Result Own Refusal} (Ok (record { premises = n; next = p })) (Ok (record { premises = n'; next = p' }))
same_own e e' = rw (e, e')

same_tree : {p p' d d' : ℕ} → p ≡ p' → d ≡ d' → ◌≡◌ {A = Result Subtree Refusal} (Ok (record { next = p; depth = d })) (Ok (record { next = p'; depth = d' }))
same_tree e e' = rw (e, e')

-- ---- formulas, one after another

-- so many were counted from `at` to p, and the rest is still to be read
pub record Counting (s : List ℕ) (at end count p : ℕ) : Type 0 where
  pub within : p ≤ end
  pub few : count ≤ p
  pub same : counted 0 (read_all (slice at end s)) ≡ counted count (read_all (slice p end s))

counted_more : (n : ℕ) (f : Formula) (m : Read (List Formula)) → counted n (m then λ fs end. got (f ∷ fs) end) ≡ counted (n + 1) m
unfolding counted ◌then◌
counted_more n f (got fs rest) = ap Ok (omega arith)
counted_more n f (refused k) = refl

module _ (s : List ℕ) (at end : ℕ) (inside : end ≤ length s) where
  pub counting_start : at ≤ end → Counting s at end 0 at
  counting_start h = record { within = h; few = omega arith; same = refl }

  pub counting_end : {count p : ℕ} → end ≤ p → Counting s at end count p → Ok count ≡ counted 0 (read_all (slice at end s))
  unfolding counted read_formulas
  counting_end {count} {p} h c =
      let e : p ≡ end = omega arith in
      let n : count ≡ count + 0 = omega arith in
      sym (c.same ∙ rw (e, slice_empty end s, ← n))

  module _ {count p : ℕ} (h : p < end) (c : Counting s at end count p) where
    first : read_all (slice p end s) ≡ (read_formula highest_formula (slice p end s) then λ f rest. read_all rest then λ fs end. got (f ∷ fs) end)
    first = rw (slice-cons p end s 0 h inside) (read_all_cons (get_or s p 0) (slice (suc p) end s))

    pub counting_refused : {x : Result ℕ Refusal} {why : Refusal} → x ≡ reads end (read_formula highest_formula (slice p end s)) → x ≡ Err why → Err why ≡ counted 0 (read_all (slice at end s))
    unfolding counted ◌then◌
    counting_refused e₁ e₂ =
        let by = reads_refused end (read_formula highest_formula (slice p end s)) e₁ e₂ in
        sym (c.same ∙ ap (counted count) first ∙ rw (by.is, ← by.code))

    module _ (bytes : Bytes s) {x : Result ℕ Refusal} {next : ℕ} (e₁ : x ≡ reads end (read_formula highest_formula (slice p end s))) (e₂ : x ≡ Ok next) where
      there : Reached s bytes end inside highest_formula p next
      there = reached s bytes end inside highest_formula p next (omega arith) (sym e₁ ∙ e₂)

      pub counting_further : p < next
      counting_further = omega (arith, there.after, size_positive there.formula)

      pub counting_next : Counting s at end (count + 1) next
      unfolding ◌then◌
      counting_next =
          record {
            within = there.within;
            few = omega (arith, counting_further, c.few);
            same = c.same ∙ ap (counted count) first ∙ rw there.read (counted_more count there.formula (read_all (slice next end s)));
          }

-- ---- a zone

two_bytes_lacking : (bs : List ℕ) → length bs < 2 → read_two bs ≡ refused answer.wrong_length
unfolding read_two read_byte ◌then◌
two_bytes_lacking [] h = refl
two_bytes_lacking (b ∷ []) h = refl
two_bytes_lacking (b ∷ b₂ ∷ bs) h = absurd (omega arith)

module _ (s : List ℕ) (at : ℕ) where
  pub two_there : at + 2 ≤ length s → drop at s ≡ get_or s at 0 ∷ get_or s (at + 1) 0 ∷ drop (at + 2) s
  two_there h =
      let n : suc (suc at) ≡ at + 2 = omega arith in
      drop-cons s at 0 (omega arith) ∙ ap (λ (l : List ℕ). get_or s at 0 ∷ l) (rw add-one (drop-cons s (suc at) 0 (omega arith) ∙ rw n))

  pub two_read : at + 2 ≤ length s → read_two (drop at s) ≡ got (get_or s at 0 * 256 + get_or s (at + 1) 0) (drop (at + 2) s)
  unfolding read_two read_byte ◌then◌
  two_read h = rw (two_there h)

  pub zone_short : length s - at < 2 → Err WrongLength ≡ zone_read (length s) (read_zone (drop at s))
  unfolding zone_read read_zone zone_bytes ◌then◌ coded
  zone_short h = let n : length (drop at s) < 2 = rw length-drop h in rw (two_bytes_lacking (drop at s) n)

  module _ (two : at + 2 ≤ length s) {n : ℕ} (e : n ≡ get_or s at 0 * 256 + get_or s (at + 1) 0) where
    framed : zone_bytes (drop at s) ≡ read_bytes n (drop (at + 2) s)
    unfolding zone_bytes ◌then◌
    framed = rw (two_read two, ← e)

    pub zone_cut : length s - (at + 2) < n → Err WrongLength ≡ zone_read (length s) (read_zone (drop at s))
    unfolding zone_read read_zone read_bytes ◌then◌ coded
    zone_cut h = rw (framed, lt-leb n (length (drop (at + 2) s)) (rw length-drop h))

    module _ (fits : n ≤ length s - (at + 2)) where
      zone_there : read_zone (drop at s) ≡ (read_all (slice (at + 2) (at + 2 + n) s) then λ fs left. got fs (drop (at + 2 + n) s))
      unfolding read_zone read_bytes ◌then◌
      zone_there =
          let k : n ≡ at + 2 + n - (at + 2) = omega arith in
          let part : slice (at + 2) (at + 2 + n) s ≡ take n (drop (at + 2) s) = slice_take (at + 2) (at + 2 + n) s (omega arith) (omega arith) ∙ rw (← k) in
          rw (framed, le-leb n (length (drop (at + 2) s)) (rw length-drop fits), part, drop-drop n (at + 2) s)

      pub zone_formula_refused : {x : Result ℕ Refusal} {why : Refusal} → x ≡ counted 0 (read_all (slice (at + 2) (at + 2 + n) s)) → x ≡ Err why → Err why ≡ zone_read (length s) (read_zone (drop at s))
      unfolding zone_read ◌then◌
      zone_formula_refused e₁ e₂ = let by = counted_refused 0 (read_all (slice (at + 2) (at + 2 + n) s)) e₁ e₂ in rw (zone_there, by.is) (ap Err by.code)

      zone_all : (m : Read (List Formula)) {x : Result ℕ Refusal} {count : ℕ} → x ≡ counted 0 m → x ≡ Ok count → Ok (record { count = count; next = at + 2 + n }) ≡ zone_read (length s) (m then λ fs left. got fs (drop (at + 2 + n) s))
      unfolding zone_read counted ◌then◌
      zone_all (got fs rest) {count = count} e₁ e₂ =
          let k : count ≡ 0 + length fs = cc in
          let k' : count ≡ length fs = omega arith in
          let next : at + 2 + n ≡ length s - length (drop (at + 2 + n) s) = rw length-drop (omega arith) in
          same_zone k' next
      zone_all (refused k) e₁ e₂ = let z : ◌≡◌ {A = ℕ} 0 1 = cc in absurd (omega arith)

      pub zone_counted : {x : Result ℕ Refusal} {count : ℕ} → x ≡ counted 0 (read_all (slice (at + 2) (at + 2 + n) s)) → x ≡ Ok count → Ok (record { count = count; next = at + 2 + n }) ≡ zone_read (length s) (read_zone (drop at s))
      zone_counted e₁ e₂ = rw zone_there (zone_all (read_all (slice (at + 2) (at + 2 + n) s)) e₁ e₂)

-- ---- both zones

module _ (s : List ℕ) (at : ℕ) (inside : at ≤ length s) where
  pub first_zone_refused : {x : Result Zone Refusal} {why : Refusal} → x ≡ zone_read (length s) (read_zone (drop at s)) → x ≡ Err why → Err why ≡ reads (length s) (read_sequent (drop at s))
  unfolding reads read_sequent ◌then◌
  first_zone_refused e₁ e₂ = let by = zone_refused (length s) (read_zone (drop at s)) e₁ e₂ in rw by.is (ap Err by.code)

  module _ {x : Result Zone Refusal} {z : Zone} (e₁ : x ≡ zone_read (length s) (read_zone (drop at s))) (e₂ : x ≡ Ok z) where
    pub first_zone : Landed s at (read_zone (drop at s)) z.next (λ fs. z.count ≡ length fs)
    first_zone = zone_holds s at inside (read_zone (drop at s)) (zone_ends (drop at s)) e₁ e₂

    pub second_zone_refused : {y : Result Zone Refusal} {why : Refusal} → y ≡ zone_read (length s) (read_zone (drop z.next s)) → y ≡ Err why → Err why ≡ reads (length s) (read_sequent (drop at s))
    unfolding reads read_sequent ◌then◌
    second_zone_refused e₃ e₄ = let by = zone_refused (length s) (read_zone (drop z.next s)) e₃ e₄ in rw (first_zone.is, by.is) (ap Err by.code)

    module _ {y : Result Zone Refusal} {z' : Zone} (e₃ : y ≡ zone_read (length s) (read_zone (drop z.next s))) (e₄ : y ≡ Ok z') where
      pub second_zone : Landed s z.next (read_zone (drop z.next s)) z'.next (λ fs. z'.count ≡ length fs)
      second_zone = zone_holds s z.next first_zone.inside (read_zone (drop z.next s)) (zone_ends (drop z.next s)) e₃ e₄

      pub counts_small : (z.count ≤ length s) × (z'.count ≤ length s)
      counts_small = (zone_small s at e₁ e₂, zone_small s z.next e₃ e₄)

      count_is : z.count + z'.count ≡ length first_zone.value + length second_zone.value
      count_is = omega (arith, first_zone.also, second_zone.also)

      pub sequent_too_many : 31 < z.count + z'.count → Err TooMany ≡ reads (length s) (read_sequent (drop at s))
      unfolding reads read_sequent ◌then◌ coded
      sequent_too_many h = rw (first_zone.is, second_zone.is, lt-leb (length first_zone.value + length second_zone.value) most_formulas (rw (← count_is) h))

      pub sequent_read : z.count + z'.count ≤ 31 → Ok z'.next ≡ reads (length s) (read_sequent (drop at s))
      unfolding reads read_sequent ◌then◌
      sequent_read h =
          let k : z'.next ≡ length s - length (drop z'.next s) = rw length-drop (omega (arith, second_zone.inside)) in
          rw (first_zone.is, second_zone.is, le-leb (length first_zone.value + length second_zone.value) most_formulas (rw (← count_is) h)) (ap Ok k)

-- ---- a rule and its argument

reads_map : {A B : Type 0} (end : ℕ) (x : A → B) (m : Read A) → reads end (m then λ a rest. got (x a) rest) ≡ reads end m
unfolding reads ◌then◌
reads_map end x (got a rest) = refl
reads_map end x (refused k) = refl

-- what stands in a table at a number, and that nothing stands past it
pub record EntryAt {A : Type 0} (table : List A) (n : ℕ) (P : A → Type 0) : Type 0 where
  pub form : A
  pub found : (r : answer.Refusal) (k : A → Read Rule) → entry table n r k ≡ k form
  pub also : P form

entry_at : {A : Type 0} (W : ℕ → A → Type 0) (table : List A) → AllAt W table → (n : ℕ) → n < length table → EntryAt table n (W n)
unfolding entry
entry_at W [] ws n h = absurd (omega arith)
entry_at W (a ∷ as') ws zero h = record { form = a; found = λ r k. refl; also = ws.0 }
entry_at W (a ∷ as') ws (suc n) h =
    let there = entry_at (λ n. W (suc n)) as' ws.1 n (omega arith) in record { form = there.form; found = there.found; also = there.also }

entry_past : {A B : Type 0} (table : List A) (n : ℕ) (r : answer.Refusal) (k : A → Read B) → length table ≤ n → entry table n r k ≡ refused r
unfolding entry
entry_past [] n r k h = refl
entry_past (a ∷ as') zero r k h = absurd (omega arith)
entry_past (a ∷ as') (suc n) r k h = entry_past as' n r k (omega arith)

-- rules but 1, 15 and 16 have no argument
pub record Bare (form : RuleForm) : Type 0 where
  pub rule : Rule
  pub is : form ≡ bare rule

abbrev BareUnless : ℕ → RuleForm → Type 0
BareUnless n form = (n ≡ 1 → ⊥) → (n ≡ 15 → ⊥) → (n ≡ 16 → ⊥) → Bare form

no_argument : (r : Rule) (n : ℕ) → BareUnless n (bare r)
no_argument r n h h' h'' = record { rule = r; is = refl }

bare_unless : AllAt BareUnless rule_forms
bare_unless =
    no_argument Axiom 0
    & (λ h h' h''. absurd (h refl))
    & no_argument OneIntro 2
    & no_argument BottomIntro 3
    & no_argument TensorIntro 4
    & no_argument ParIntro 5
    & no_argument TopIntro 6
    & no_argument WithIntro 7
    & no_argument PlusIntroLeft 8
    & no_argument PlusIntroRight 9
    & no_argument OfCourseIntro 10
    & no_argument WhyNotIntro 11
    & no_argument Weakening 12
    & no_argument Contraction 13
    & no_argument Dereliction 14
    & (λ h h' h''. absurd (h' refl))
    & (λ h h' h''. absurd (h'' refl))
    & no_argument Blur 17
    & tt

module _ (s : List ℕ) (at : ℕ) (inside : at < length s) where
  byte_there : drop at s ≡ get_or s at 0 ∷ drop (at + 1) s
  byte_there = rw add-one (drop-cons s at 0 inside)

  -- the rule's number, then what it is followed by
  by_number : {n : ℕ} → get_or s at 0 ≡ n → read_rule (drop at s) ≡ entry rule_forms n answer.wrong_number λ form. read_argument form (drop (at + 1) s)
  unfolding read_rule read_byte ◌then◌
  by_number e = rw (byte_there, e)

  pub rule_cut : {x : Result ℕ Refusal} → get_or s at 0 ≡ 1 → x ≡ reads (length s) (read_formula highest_formula (slice (at + 1) (length s) s)) → x ≡ reads (length s) (read_rule (drop at s))
  unfolding entry read_argument
  rule_cut e₁ e₂ =
      let whole : slice (at + 1) (length s) s ≡ drop (at + 1) s = ap (drop (at + 1)) (take-length s) in
      e₂ ∙ rw (by_number e₁, whole) (sym (reads_map (length s) Cut (read_formula highest_formula (drop (at + 1) s))))

  numbered : {n : ℕ} {x : Result ℕ Refusal} (r : ℕ → Rule) → get_or s at 0 ≡ n → ((k : RuleForm → Read Rule) → entry rule_forms n answer.wrong_number k ≡ k (with_number r)) → x ≡ reads (length s) (read_two (drop (at + 1) s)) → x ≡ reads (length s) (read_rule (drop at s))
  unfolding read_argument
  numbered r e₁ at_n e₂ = e₂ ∙ rw (by_number e₁, at_n) (sym (reads_map (length s) r (read_two (drop (at + 1) s))))

  module _ (focus : 15 ≤ get_or s at 0) (known : get_or s at 0 ≤ 17) (not_last : get_or s at 0 ≡ 17 → ⊥) where
    with_two : {x : Result ℕ Refusal} → x ≡ reads (length s) (read_two (drop (at + 1) s)) → x ≡ reads (length s) (read_rule (drop at s))
    unfolding entry
    with_two {x} h = go (eqb (get_or s at 0) 15) refl
      where
        go : (b : Bool) → eqb (get_or s at 0) 15 ≡ b → x ≡ reads (length s) (read_rule (drop at s))
        go true e = numbered FocusPositive (eqb-true (get_or s at 0) 15 e) (λ k. refl) h
        go false e = let not_first = eqb-false (get_or s at 0) 15 e in let n : get_or s at 0 ≡ 16 = omega arith in numbered FocusNegative n (λ k. refl) h

    pub rule_two_short : length s - (at + 1) < 2 → Err WrongLength ≡ reads (length s) (read_rule (drop at s))
    unfolding reads coded
    rule_two_short h = let n : length (drop (at + 1) s) < 2 = rw length-drop h in with_two (rw (two_bytes_lacking (drop (at + 1) s) n))

    pub rule_two : 2 ≤ length s - (at + 1) → Ok (at + 1 + 2) ≡ reads (length s) (read_rule (drop at s))
    unfolding reads
    rule_two h =
        let k : at + 1 + 2 ≡ length s - length (drop (at + 1 + 2) s) = rw length-drop (omega arith) in
        with_two (rw (two_read s (at + 1) (omega arith)) (ap Ok k))

  pub rule_unknown : 17 < get_or s at 0 → Err WrongNumber ≡ reads (length s) (read_rule (drop at s))
  unfolding reads coded
  rule_unknown h = rw (by_number refl, entry_past rule_forms (get_or s at 0) answer.wrong_number (λ form. read_argument form (drop (at + 1) s)) (omega arith))

  pub rule_bare : get_or s at 0 ≤ 17 → (get_or s at 0 ≡ 1 → ⊥) → (get_or s at 0 ≡ 15 → ⊥) → (get_or s at 0 ≡ 16 → ⊥) → Ok (at + 1) ≡ reads (length s) (read_rule (drop at s))
  unfolding reads read_argument
  rule_bare h h₁ h₁₅ h₁₆ =
      let there = entry_at BareUnless rule_forms bare_unless (get_or s at 0) (omega arith) in
      let k : at + 1 ≡ length s - length (drop (at + 1) s) = rw length-drop (omega arith) in
      rw (by_number refl, there.found answer.wrong_number (λ form. read_argument form (drop (at + 1) s)), (there.also h₁ h₁₅ h₁₆).is) (ap Ok k)

-- ---- a node's own bytes

module _ (s : List ℕ) (at : ℕ) (inside : at ≤ length s) where
  pub head_rule_refused : {x : Result ℕ Refusal} {why : Refusal} → x ≡ reads (length s) (read_rule (drop at s)) → x ≡ Err why → Err why ≡ own_read (length s) (read_head (drop at s))
  unfolding own_read read_head ◌then◌
  head_rule_refused e₁ e₂ = let by = reads_refused (length s) (read_rule (drop at s)) e₁ e₂ in rw by.is (ap Err by.code)

  module _ {x : Result ℕ Refusal} {next : ℕ} (e₁ : x ≡ reads (length s) (read_rule (drop at s))) (e₂ : x ≡ Ok next) where
    pub rule_landed : Landed s at (read_rule (drop at s)) next (λ r. Unit {0})
    rule_landed = reads_next s at inside (read_rule (drop at s)) (rule_ends (drop at s)) e₁ e₂

    pub head_sequent_refused : {y : Result ℕ Refusal} {why : Refusal} → y ≡ reads (length s) (read_sequent (drop next s)) → y ≡ Err why → Err why ≡ own_read (length s) (read_head (drop at s))
    unfolding own_read read_head ◌then◌
    head_sequent_refused e₃ e₄ = let by = reads_refused (length s) (read_sequent (drop next s)) e₃ e₄ in rw (rule_landed.is, by.is) (ap Err by.code)

    module _ {y : Result ℕ Refusal} {last : ℕ} (e₃ : y ≡ reads (length s) (read_sequent (drop next s))) (e₄ : y ≡ Ok last) where
      pub sequent_landed : Landed s next (read_sequent (drop next s)) last (λ q. Unit {0})
      sequent_landed = reads_next s next rule_landed.inside (read_sequent (drop next s)) (sequent_ends (drop next s)) e₃ e₄

      pub head_short : last ≡ length s → Err WrongLength ≡ own_read (length s) (read_head (drop at s))
      unfolding own_read read_head read_byte ◌then◌ coded
      head_short e = let none_left : drop last s ≡ [] = ap (λ (k : ℕ). drop k s) e ∙ drop-length s in rw (rule_landed.is, sequent_landed.is, none_left)

      pub head_read : {count : ℕ} → last < length s → count ≡ get_or s last 0 → Ok (record { premises = count; next = last + 1 }) ≡ own_read (length s) (read_head (drop at s))
      unfolding own_read read_head read_byte ◌then◌
      head_read {count} h e =
          let k : last + 1 ≡ length s - length (drop (last + 1) s) = rw length-drop (omega arith) in
          rw (rule_landed.is, sequent_landed.is, byte_there s last h) (same_own e k)

-- ---- a node and its premises

module _ (s : List ℕ) (at levels : ℕ) where
  pub node_none : at ≡ length s → Err WrongLength ≡ tree_read (length s) (read_node levels (drop at s))
  unfolding tree_read read_node read_byte ◌then◌ coded
  node_none e = rw (e, drop-length s) (no_byte levels)
    where
      no_byte : (levels : ℕ) → Err WrongLength ≡ tree_read (length s) (read_node levels [])
      no_byte zero = refl
      no_byte (suc levels) = refl

module _ (s : List ℕ) (at levels : ℕ) (inside : at < length s) where
  pub node_too_high : levels ≡ 0 → Err TooHigh ≡ tree_read (length s) (read_node levels (drop at s))
  unfolding tree_read read_node read_byte ◌then◌ coded
  node_too_high e = rw (e, byte_there s at inside)

  module _ (level : 0 < levels) where
    by_head : read_node levels (drop at s) ≡ (read_head (drop at s) then λ h bs. read_premises (read_node (levels - 1)) h.premises bs then λ ps bs. got (node_of h ps) bs)
    by_head = let e : levels ≡ suc (levels - 1) = omega arith in ap (λ (l : ℕ). read_node l (drop at s)) e ∙ node_by_head (levels - 1) (drop at s)

    pub node_head_refused : {x : Result Own Refusal} {why : Refusal} → x ≡ own_read (length s) (read_head (drop at s)) → x ≡ Err why → Err why ≡ tree_read (length s) (read_node levels (drop at s))
    unfolding tree_read ◌then◌
    node_head_refused e₁ e₂ = let by = own_refused (length s) (read_head (drop at s)) e₁ e₂ in rw (by_head, by.is) (ap Err by.code)

    module _ {x : Result Own Refusal} {o : Own} (e₁ : x ≡ own_read (length s) (read_head (drop at s))) (e₂ : x ≡ Ok o) where
      pub head_landed : Landed s at (read_head (drop at s)) o.next (λ h. o.premises ≡ h.premises)
      head_landed = own_premises s at (omega arith) (read_head (drop at s)) (head_ends (drop at s)) e₁ e₂

      by_premises : read_node levels (drop at s) ≡ (read_premises (read_node (levels - 1)) o.premises (drop o.next s) then λ ps bs. got (node_of head_landed.value ps) bs)
      unfolding ◌then◌
      by_premises =
          rw (by_head, head_landed.is) (ap (λ (n : ℕ). read_premises (read_node (levels - 1)) n (drop o.next s) then λ ps bs. got (node_of head_landed.value ps) bs) (sym head_landed.also))

      pub node_premise_refused : {y : Result Subtree Refusal} {why : Refusal} → y ≡ trees_read (length s) 0 (read_premises (read_node (levels - 1)) o.premises (drop o.next s)) → y ≡ Err why → Err why ≡ tree_read (length s) (read_node levels (drop at s))
      unfolding tree_read ◌then◌
      node_premise_refused e₃ e₄ =
          let by = trees_refused (length s) 0 (read_premises (read_node (levels - 1)) o.premises (drop o.next s)) e₃ e₄ in rw (by_premises, by.is) (ap Err by.code)

      module _ {y : Result Subtree Refusal} {w : Subtree} (e₃ : y ≡ trees_read (length s) 0 (read_premises (read_node (levels - 1)) o.premises (drop o.next s))) (e₄ : y ≡ Ok w) where
        pub premises_landed : Landed s o.next (read_premises (read_node (levels - 1)) o.premises (drop o.next s)) w.next (λ ts. (w.depth ≡ depths ts) × (w.depth ≤ levels - 1))
        premises_landed = trees_whole s o.next head_landed.inside (levels - 1) (read_premises (read_node (levels - 1)) o.premises (drop o.next s)) (premises_end (levels - 1) o.premises (drop o.next s)) e₃ e₄

        pub node_read : Ok (record { next = w.next; depth = w.depth + 1 }) ≡ tree_read (length s) (read_node levels (drop at s))
        unfolding tree_read ◌then◌ depth
        node_read =
            let k : w.next ≡ length s - length (drop w.next s) = rw length-drop (omega (arith, premises_landed.inside)) in
            let d : w.depth + 1 ≡ suc (depths premises_landed.value) = omega (arith, premises_landed.also.0) in
            rw (by_premises, premises_landed.is) (same_tree k d)

-- so many premises are left from p on, and the deepest of those before is so deep
pub record Reading (s : List ℕ) (at count levels left p deepest : ℕ) : Type 0 where
  pub inside : p ≤ length s
  pub low : deepest ≤ levels
  pub same : trees_read (length s) 0 (read_premises (read_node levels) count (drop at s)) ≡ trees_read (length s) deepest (read_premises (read_node levels) left (drop p s))

trees_more : (end deepest : ℕ) (t : Tree) (m : Read Trees) → trees_read end deepest (m then λ ts bs. got (t ▹ ts) bs) ≡ trees_read end (max deepest (depth t)) m
unfolding trees_read depths ◌then◌
trees_more end deepest t (got ts rest) = same_tree refl (omega arith)
trees_more end deepest t (refused k) = refl

module _ (s : List ℕ) (at count levels : ℕ) where
  pub reading_start : at ≤ length s → Reading s at count levels count at 0
  reading_start h = record { inside = h; low = omega arith; same = refl }

  module _ {left p deepest : ℕ} (r : Reading s at count levels left p deepest) where
    pub reading_end : left ≡ 0 → Ok (record { next = p; depth = deepest }) ≡ trees_read (length s) 0 (read_premises (read_node levels) count (drop at s))
    unfolding trees_read read_premises depths
    reading_end e =
        let k : p ≡ length s - length (drop p s) = rw length-drop (omega (arith, r.inside)) in
        let d : deepest ≡ max deepest 0 = omega arith in
        sym (r.same ∙ rw e (sym (same_tree k d)))

    module _ (more : 0 < left) where
      by_first : read_premises (read_node levels) left (drop p s) ≡ (read_node levels (drop p s) then λ t bs. read_premises (read_node levels) (left - 1) bs then λ ts bs. got (t ▹ ts) bs)
      unfolding read_premises
      by_first = let e : left ≡ suc (left - 1) = omega arith in ap (λ (n : ℕ). read_premises (read_node levels) n (drop p s)) e

      pub reading_refused : {x : Result Subtree Refusal} {why : Refusal} → x ≡ tree_read (length s) (read_node levels (drop p s)) → x ≡ Err why → Err why ≡ trees_read (length s) 0 (read_premises (read_node levels) count (drop at s))
      unfolding trees_read ◌then◌
      reading_refused e₁ e₂ =
          let by = tree_refused (length s) (read_node levels (drop p s)) e₁ e₂ in sym (r.same ∙ rw (by_first, by.is) (ap Err (sym by.code)))

      module _ {x : Result Subtree Refusal} {w : Subtree} (e₁ : x ≡ tree_read (length s) (read_node levels (drop p s))) (e₂ : x ≡ Ok w) where
        premise : Landed s p (read_node levels (drop p s)) w.next (λ t. (w.depth ≡ depth t) × (w.depth ≤ levels))
        premise = tree_whole s p r.inside levels (read_node levels (drop p s)) (tree_ends levels (drop p s)) e₁ e₂

        pub reading_next : {left' deepest' : ℕ} → left ≡ left' + 1 → deepest' ≡ max deepest w.depth → Reading s at count levels left' w.next deepest'
        unfolding ◌then◌
        reading_next {left'} n e =
            let fewer : left - 1 ≡ left' = omega arith in
            record {
              inside = premise.inside;
              low = omega (arith, e, r.low, premise.also.1);
              same =
                  rw (← fewer)
                  (r.same
                  ∙ rw (by_first, premise.is) (trees_more (length s) deepest premise.value (read_premises (read_node levels) (left - 1) (drop w.next s)))
                  ∙ ap (λ (d : ℕ). trees_read (length s) d (read_premises (read_node levels) (left - 1) (drop w.next s))) (sym (e ∙ ap (max deepest) premise.also.0)));
            }

-- ---- a tree

module _ (s : List ℕ) where
  pub tree_short : length s < 3 → Err WrongLength ≡ tree_read (length s) (read_tree s)
  unfolding tree_read read_tree read_message ◌then◌ coded
  tree_short h = rw (lt-leb 3 (length s) h)

  module _ (three : 3 ≤ length s) where
    body : drop 1 s ≡ get_or s 1 0 ∷ get_or s 2 0 ∷ drop 3 s
    body = two_there s 1 three

    version : read_message s ≡ unless (eqb (get_or s 0 0) 1) answer.wrong_number (unless (eqb (length (drop 3 s)) (get_or s 1 0 * 256 + get_or s 2 0)) answer.wrong_length (got (drop 3 s) []))
    unfolding read_message read_byte read_two ◌then◌
    version = rw (le-leb 3 (length s) three, byte_there s 0 (omega arith), body)

    pub tree_version : (get_or s 0 0 ≡ 1 → ⊥) → Err WrongNumber ≡ tree_read (length s) (read_tree s)
    unfolding tree_read read_tree ◌then◌ coded
    tree_version h = rw (version, ne_eqb (get_or s 0 0) 1 h)

    module _ (one : get_or s 0 0 ≡ 1) {n : ℕ} (two : n ≡ get_or s 1 0 * 256 + get_or s 2 0) where
      pub tree_length : (length s - 3 ≡ n → ⊥) → Err WrongLength ≡ tree_read (length s) (read_tree s)
      unfolding tree_read read_tree ◌then◌ coded
      tree_length h = rw (version, eq-eqb (get_or s 0 0) 1 one, ← two, ne_eqb (length (drop 3 s)) n (rw length-drop h))

      module _ (fits : length s - 3 ≡ n) where
        by_node : read_tree s ≡ (read_node highest_tree (drop 3 s) then λ t rest. at_end t rest)
        unfolding read_tree ◌then◌
        by_node = rw (version, eq-eqb (get_or s 0 0) 1 one, ← two, eq-eqb (length (drop 3 s)) n (rw length-drop fits))

        pub tree_node_refused : {x : Result Subtree Refusal} {why : Refusal} → x ≡ tree_read (length s) (read_node highest_tree (drop 3 s)) → x ≡ Err why → Err why ≡ tree_read (length s) (read_tree s)
        unfolding tree_read ◌then◌
        tree_node_refused e₁ e₂ = let by = tree_refused (length s) (read_node highest_tree (drop 3 s)) e₁ e₂ in rw (by_node, by.is) (ap Err by.code)

        module _ {x : Result Subtree Refusal} {w : Subtree} (e₁ : x ≡ tree_read (length s) (read_node highest_tree (drop 3 s))) (e₂ : x ≡ Ok w) where
          root : Landed s 3 (read_node highest_tree (drop 3 s)) w.next (λ t. (w.depth ≡ depth t) × (w.depth ≤ highest_tree))
          root = tree_whole s 3 three highest_tree (read_node highest_tree (drop 3 s)) (tree_ends highest_tree (drop 3 s)) e₁ e₂

          pub tree_left_over : w.next < length s → Err WrongLength ≡ tree_read (length s) (read_tree s)
          unfolding tree_read at_end ◌then◌ coded
          tree_left_over h = rw (by_node, root.is, byte_there s w.next h)

          pub tree_read_whole : length s ≤ w.next → Ok w ≡ tree_read (length s) (read_tree s)
          unfolding tree_read at_end ◌then◌
          tree_read_whole h =
              let e : w.next ≡ length s = omega (arith, root.inside) in
              let none_left : drop w.next s ≡ [] = ap (λ (k : ℕ). drop k s) e ∙ drop-length s in
              let k : length s ≡ length s - 0 = omega arith in
              rw (by_node, root.is, none_left) (same_tree (e ∙ k) root.also.0)

-- ---- the answer of `depth`

pub depth_refused : (end : ℕ) (m : Read Tree) {x : Result Subtree Refusal} {why : Refusal} → x ≡ tree_read end m → x ≡ Err why → Err why ≡ depth_of m
unfolding depth_of
depth_refused end m e₁ e₂ = let by = tree_refused end m e₁ e₂ in rw by.is (ap Err by.code)

pub depth_measured : (end : ℕ) (m : Read Tree) {x : Result Subtree Refusal} {w : Subtree} → x ≡ tree_read end m → x ≡ Ok w → Ok w.depth ≡ depth_of m
unfolding tree_read depth_of
depth_measured end (got t rest) {w = w} e₁ e₂ =
    let e : w ≡ record { next = end - length rest; depth = depth t } = cc in ap (λ (w : Subtree). Ok w.depth) e
depth_measured end (refused k) e₁ e₂ = let z : ◌≡◌ {A = ℕ} 0 1 = cc in absurd (omega arith)
