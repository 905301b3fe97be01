-- What `prove_focused`, `masks` and `plus` return. Assumes nothing.
use mathlib.Core.Path.{◌≡◌, refl, sym, ap, ◌∙◌}
use mathlib.Core.Bool.{true, ◌&&◌}
use mathlib.Core.List.{List, [], ◌∷◌}
use Prim.Native.Nat.{ℕ, suc, ◌+◌, ◌-◌, ◌^◌, ◌≤◌, ◌<◌}
use native.Mathlib.Omega.{arith}
use types.Run.{OneOf}
use lib.Dec.{eqb}
use lib.ListN.{length, take, drop}
use borrow.Author.Tests.{eq-eqb}
use Rattle.logic.specs.Formula as formula
use Rattle.logic.specs.Formula.{Formula, Atom, NegAtom, among}
use Rattle.logic.proofs.FormulaLaws.{same_self}
use Rattle.logic.specs.Sequent.{Sequent, ◌﹔◌}
use Rattle.logic.specs.Tree.{Axiom, OneIntro, OfCourseIntro, PlusIntroLeft, PlusIntroRight, TensorIntro, node, ∅}
use Rattle.logic.specs.Outcome as logic
use Rattle.logic.specs.Outcome.{Search, ◌or_else◌, when◌then◌else◌}
use Rattle.logic.specs.Search.{from_one, tensor_masks, prove_focused}
use Rattle.zones.specs.declared.Zones.{Zones}
use Rattle.zones.specs.Zones.{Made, remove, replace, replaced, only}
use Rattle.zones.specs.Zones as zones
use Rattle.zones.specs.ZonesLaws.{meant_made, meant_left_part, meant_right_part}
use Rattle.memory.specs.Meaning.{told}
use Rattle.expand.specs.Short.{word}
use Rattle.expand.specs.ShortLaws.{step_axiom, step_one, step_tensor, step_plus_left, step_plus_right, step_of_course}
use Rattle.expand.specs.InMemoryLaws.{kept_grows}
use Rattle.search.specs.declared.Prover.{Prover}
use Rattle.search.specs.declared.counters.Counters.{Counters}
use Rattle.search.specs.declared.Outcome.{Outcome}
use Rattle.search.specs.declared.Outcome.TheVariants.{Nothing}
use Rattle.search.specs.Plans.{sequent, linear_formula, Two, AxiomAt, Alone, AlonePart}
use Rattle.search.specs.Contract.{deeper, Ready, Agrees, Leaf, Focuses, Splits, Pluses, Puts, PutsBoth}
use Rattle.search.proofs.Steps.{tag, Kept, Goes, holds_grow, of, stops, or_then, nothing_kept, kept_then, leaf_found}
use Rattle.search.proofs.Leaves.{linear_length}
use Rattle.search.specs.AskedLaws.{sequent_later, stands_later}
use Rattle.search.proofs.Ready.{kept_now, kept_sequent, below_explored, stands_made, ready_zones, ready_after}
use Rattle.search.proofs.Rules.{put_one, put_two, stepped, removed_length, place_low, in_zone}
use Rattle.search.proofs.Choices.{from_mask, at_mask, masks_starts, masks_go, masks_stop, masks_done}

among_alone : (name : ℕ) (l : List Formula) (n : ℕ) → l ≡ NegAtom name ∷ [] → n ≡ 2 → among (NegAtom name) l && eqb n 2 ≡ true
unfolding among
among_alone name l n e k = rw (e, k, among, same_self (NegAtom name))

module _ (left depth : ℕ) {z : Zones} {far at : ℕ} {p : Prover} {c : Counters} {m w : List ℕ} (ready : Ready 1 z far at p c m w) where
  abbrev q₀ : Sequent
  q₀ = sequent m z

  abbrev Γ : List Formula
  Γ = q₀.linear

  abbrev deep : Sequent → Search
  deep = deeper p left depth

  abbrev focused_at : ℕ → Formula → Search
  focused_at i f = prove_focused deep q₀ (take i Γ) f (drop (suc i) Γ)

  -- the formula there, by its sign
  at_sign : (i : ℕ) {f : Formula} {run : Search} {r : Outcome} {m' w' : List ℕ} → linear_formula m z i ≡ f → focused_at i f ≡ run → Agrees (suc left) q₀ run at p c m w r m' w' → Focuses p left depth z at c m w r m' w' i
  at_sign i e k a = of (ap (focused_at i) e ∙ k) a

  axiom_clause : (i name : ℕ) → among (NegAtom name) (remove i Γ) && eqb (length Γ) 2 ≡ true → focused_at i (Atom name) ≡ logic.answer (logic.found (node Axiom q₀ ∅))
  unfolding prove_focused when◌then◌else◌
  axiom_clause i name e = rw e

  one_clause : (i : ℕ) → length Γ ≡ 1 → focused_at i formula.One ≡ logic.answer (logic.found (node OneIntro q₀ ∅))
  unfolding prove_focused when◌then◌else◌
  one_clause i e = rw (eq-eqb (length Γ) 1 e)

  of_course_clause : (i : ℕ) (f : Formula) → length Γ ≡ 1 → focused_at i (formula.OfCourse f) ≡ from_one OfCourseIntro q₀ (deep (f ∷ [] ﹔ q₀.unrestricted))
  unfolding prove_focused when◌then◌else◌
  of_course_clause i f e = rw (eq-eqb (length Γ) 1 e)

  tensor_clause : (i : ℕ) (f g : Formula) → focused_at i (formula.Tensor f g) ≡ tensor_masks deep q₀ f g (remove i Γ) (2 ^ length (remove i Γ)) 0
  unfolding prove_focused
  tensor_clause i f g = refl

  plus_clause : (i : ℕ) (f g : Formula) → focused_at i (formula.Plus f g) ≡ from_one PlusIntroLeft q₀ (deep (replace i f Γ ﹔ q₀.unrestricted)) or_else from_one PlusIntroRight q₀ (deep (replace i g Γ ﹔ q₀.unrestricted))
  unfolding prove_focused
  plus_clause i f g = refl

  module _ {i : ℕ} (place : i < z.linear_len) where
    pub on_axiom : {x : ℕ} {r : Outcome} {w' : List ℕ} → AxiomAt m z i → x ≡ 0 → Leaf x at c w r w' → Focuses p left depth z at c m w r m w' i
    on_axiom {x} {r} {w'} a e l =
        let two : length Γ ≡ 2 = sym (removed_length Γ i (in_zone left depth ready place)) ∙ ap (λ (k : List Formula). length k + 1) a.beside in
        rw (l.answer, l.words)
        (at_sign i a.here (axiom_clause i a.name (among_alone a.name (remove i Γ) (length Γ) a.beside two))
        (leaf_found left q₀ Axiom x (kept_sequent ready.zones) (stepped q₀ e (step_axiom q₀ {i = 0} 0 (omega arith))) refl ready.stack ready.within ready.room ready.wf))

    alone_length : z.linear_len ≡ 1 → length Γ ≡ 1
    alone_length e = linear_length m ready.zones.fits ∙ e

    pub on_one : {x : ℕ} {r : Outcome} {w' : List ℕ} → Alone m z i formula.One → x ≡ 2 → Leaf x at c w r w' → Focuses p left depth z at c m w r m w' i
    on_one {x} {r} {w'} a e l =
        rw (l.answer, l.words)
        (at_sign i a.here (one_clause i (alone_length a.alone))
        (leaf_found left q₀ OneIntro x (kept_sequent ready.zones) (stepped q₀ e (step_one q₀ {i = 0} 0 (omega arith))) refl ready.stack ready.within ready.room ready.wf))

    pub on_of_course : {a x : ℕ} {y : Zones} {r : Outcome} {m' w' : List ℕ} → AlonePart m z i a → Made z (only a) y → x ≡ word 10 i 0 → Puts p left depth y at c m w r m' w' x → Focuses p left depth z at c m w r m' w' i
    on_of_course {a} {x} {y} s o e u =
        at_sign i s.only.here (of_course_clause i (told m a) (alone_length s.only.alone))
        (put_one left depth q₀ OfCourseIntro y u (meant_made (told m) o) (kept_sequent ready.zones) (stepped q₀ e (step_of_course q₀ 0 (place_low left depth ready place) s.only.here)))

    pub on_tensor : {a b : ℕ} {r : Outcome} {m' w' : List ℕ} → Two formula.Tensor m z i a b → Splits p left depth z at c m w r m' w' i a b → Focuses p left depth z at c m w r m' w' i
    on_tensor {a} {b} t s = at_sign i t.here (tensor_clause i (told m a) (told m b)) s

    pub on_plus : {a b : ℕ} {r : Outcome} {m' w' : List ℕ} → Two formula.Plus m z i a b → Pluses p left depth z at c m w r m' w' i a b → Focuses p left depth z at c m w r m' w' i
    on_plus {a} {b} t s = at_sign i t.here (plus_clause i (told m a) (told m b)) s

  -- `plus`: left, then right
  module _ {i a b : ℕ} (t : Two formula.Plus m z i a b) where
    plus_left : {x : ℕ} {y : Zones} {r : Outcome} {m' w' : List ℕ} → Made z (replaced i a) y → x ≡ word 8 i 0 → Puts p left depth y at c m w r m' w' x → Agrees (suc left) q₀ (from_one PlusIntroLeft q₀ (deep (replace i (told m a) Γ ﹔ q₀.unrestricted))) at p c m w r m' w'
    plus_left {y = y} o e u =
        put_one left depth q₀ PlusIntroLeft y u (meant_made (told m) o) (kept_sequent ready.zones) (stepped q₀ e (step_plus_left q₀ {i = i} 0 (place_low left depth ready t.place) {b = told m b} t.here))

    pub plus_stops : {x : ℕ} {y : Zones} {r : Outcome} {m' w' : List ℕ} → Made z (replaced i a) y → x ≡ word 8 i 0 → Puts p left depth y at c m w r m' w' x → OneOf (0 ∷ 2 ∷ []) (tag r) → Pluses p left depth z at c m w r m' w' i a b
    plus_stops o e u k = stops (plus_left o e u) k _

    pub plus_kept : {x : ℕ} {y : Zones} {r : Outcome} {d : Counters} {m' w' : List ℕ} → Made z (replaced i a) y → x ≡ word 8 i 0 → Puts p left depth y at c m w r m' w' x → r ≡ Nothing d → Kept at p c m w d m' w'
    plus_kept o e u k = nothing_kept (plus_left o e u) k

    pub plus_again : {x : ℕ} {y y' : Zones} {r : Outcome} {d : Counters} {m' w' : List ℕ} → Made z (replaced i a) y → x ≡ word 8 i 0 → Puts p left depth y at c m w r m' w' x → r ≡ Nothing d
        → Made z (replaced i b) y' → Ready 1 y' far at p d m' w'
    plus_again o e u k o' =
        let f = plus_kept o e u k in
        ready_zones (ready_after ready f) (stands_later f.grew (stands_made ready.zones o' t.right))

    pub plus_goes : {x x' : ℕ} {y y' : Zones} {r₁ r : Outcome} {d : Counters} {m₁ w₁ m' w' : List ℕ} → Made z (replaced i a) y → x ≡ word 8 i 0 → Puts p left depth y at c m w r₁ m₁ w₁ x → r₁ ≡ Nothing d
        → Made z (replaced i b) y' → x' ≡ word 9 i 0 → Puts p left depth y' at d m₁ w₁ r m' w' x' → Pluses p left depth z at c m w r m' w' i a b
    plus_goes {y' = y'} o e u k o' e' u' =
        let f = plus_left o e u in
        let g = (nothing_kept f k).grew in
        or_then f k
        (put_one left depth q₀ PlusIntroRight y' u' (sequent_later g (stands_made ready.zones o' t.right) ∙ meant_made (told m) o') (kept_grows (holds_grow g) (kept_sequent ready.zones))
        (stepped q₀ e' (step_plus_right q₀ {i = i} 0 (place_low left depth ready t.place) {a = told m a} t.here)))

-- `masks`
pub record Splitting (left depth : ℕ) (z : Zones) (i a b at : ℕ) (p : Prover) (c₀ : Counters) (m₀ w₀ : List ℕ) (n x : ℕ) (c : Counters) (m w : List ℕ) : Type 0 where
  pub masks : n ≡ 2 ^ length (remove i (sequent m₀ z).linear)
  pub kept : Kept at p c₀ m₀ w₀ c m w
  pub goes : Goes (tensor_masks (deeper p left depth) (sequent m₀ z) (told m₀ a) (told m₀ b) (remove i (sequent m₀ z).linear) (2 ^ length (remove i (sequent m₀ z).linear)) 0) c₀ m₀
      (from_mask (deeper p left depth) (sequent m₀ z) (told m₀ a) (told m₀ b) (remove i (sequent m₀ z).linear) n x) c m

module _ (left depth : ℕ) {z : Zones} {far at : ℕ} {p : Prover} {c₀ : Counters} {m₀ w₀ : List ℕ} (ready : Ready 1 z far at p c₀ m₀ w₀) {i a b : ℕ} (t : Two formula.Tensor m₀ z i a b) where
  abbrev q₁ : Sequent
  q₁ = sequent m₀ z

  abbrev deep₁ : Sequent → Search
  deep₁ = deeper p left depth

  abbrev others : List Formula
  others = remove i q₁.linear

  pub splitting_starts : {n : ℕ} → n ≡ 2 ^ (z.linear_len - 1) → Splitting left depth z i a b at p c₀ m₀ w₀ n 0 c₀ m₀ w₀
  splitting_starts {n} e =
      let l : z.linear_len - 1 ≡ length others = omega (arith, removed_length q₁.linear i (in_zone left depth ready t.place), linear_length m₀ ready.zones.fits) in
      let k : n ≡ 2 ^ length others = e ∙ ap (λ (j : ℕ). 2 ^ j) l in
      record { masks = k; kept = kept_now ready; goes = masks_starts deep₁ q₁ (told m₀ a) (told m₀ b) others n (ap (λ (j : ℕ). tensor_masks deep₁ q₁ (told m₀ a) (told m₀ b) others j 0) (sym k)) }

  module _ {n x : ℕ} {c : Counters} {m w : List ℕ} (s : Splitting left depth z i a b at p c₀ m₀ w₀ n x c m w) where
    module _ (h : x < n) {y v : Zones} {k : ℕ} {r : Outcome} {m' w' : List ℕ} (o : Made z (zones.split 0 i x a) y) (o' : Made z (zones.split 1 i x b) v) (e : k ≡ word 4 i x) (u : PutsBoth p left depth y at c m w r m' w' k v) where
      both_before : Agrees (suc left) q₁ (at_mask deep₁ q₁ (told m₀ a) (told m₀ b) others n x) at p c m w r m' w'
      both_before =
          put_two left depth q₁ TensorIntro y v u
          (sequent_later s.kept.grew (stands_made ready.zones o t.left) ∙ meant_left_part (told m₀) o)
          (sequent_later s.kept.grew (stands_made ready.zones o' t.right) ∙ meant_right_part (told m₀) o')
          (kept_grows (holds_grow s.kept.grew) (kept_sequent ready.zones))
          (stepped q₁ e (step_tensor q₁ x (place_low left depth ready t.place) t.here))

      pub splitting_goes : {d : Counters} → r ≡ Nothing d → Splitting left depth z i a b at p c₀ m₀ w₀ n (x + 1) d m' w'
      splitting_goes g = record {
        masks = s.masks;
        kept = kept_then s.kept (nothing_kept both_before g);
        goes = masks_go deep₁ q₁ (told m₀ a) (told m₀ b) others n x s.kept s.goes h both_before g;
      }

      pub splitting_stops : OneOf (0 ∷ 2 ∷ []) (tag r) → Splits p left depth z at c₀ m₀ w₀ r m' w' i a b
      splitting_stops g = masks_stop deep₁ q₁ (told m₀ a) (told m₀ b) others n x s.kept s.goes h both_before g

    pub splitting_ends : n ≤ x → Splits p left depth z at c₀ m₀ w₀ (Nothing c) m w i a b
    splitting_ends h = masks_done deep₁ q₁ (told m₀ a) (told m₀ b) others n x s.kept s.goes (suc left) h (omega (arith, below_explored ready, s.kept.more))
