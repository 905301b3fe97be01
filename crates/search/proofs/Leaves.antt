-- Laws that the ring's leaves cite: a formula by its place, the first decomposable one, what focusing gives, the premises of the unrestricted rules. Assumes nothing.
use mathlib.Core.Path.{◌≡◌, refl, sym, ap, ◌∙◌, subst}
use mathlib.Core.Bool.{Bool, true, false, ◌&&◌}
use mathlib.Core.List.{List, [], ◌∷◌, map}
use Prim.Native.Nat.{ℕ, zero, suc, ◌+◌, ◌-◌, ◌^◌, ◌≤◌, ◌<◌}
use native.Mathlib.Omega.{arith}
use Rattle.std.proofs.Common.{Option, Some, None}
use native.Mathlib.Numerals.{add-one}
use lib.Dec.{eqb}
use lib.ListN.{length, get_or, take, drop, length-map, length-append}
use lib.Seq.{take-suc, get_or-take}
use borrow.Author.Tests.{ne_eqb}
use native.Mathlib.Nat.{pow-le-pow_right}
use Rattle.logic.specs.Formula as formula
use Rattle.logic.specs.Formula.{Formula, NegAtom, Atom, among}
use Rattle.logic.proofs.FormulaLaws.{different_same}
use Rattle.logic.specs.Sequent.{Sequent}
use Rattle.logic.specs.Outcome as logic
use Rattle.logic.specs.Outcome.{Search, when◌then◌else◌}
use Rattle.logic.specs.Search.{prove_focused}
use Rattle.logic.specs.Built.{decomposable, Passed}
use Rattle.logic.proofs.Found.{passed_snoc}
use Rattle.zones.specs.declared.Zones.{Zones}
use Rattle.zones.specs.Zones.{Fits, Made, remove, meant, linears, unrestricteds, pushed, without, without_unrestricted}
use Rattle.zones.specs.ZonesLaws.{linears_length, unrestricteds_length, meant_made, meant_copied, meant_copied_two, within_made, within_unrestricted, remove_length}
use Rattle.memory.specs.declared.shape.Shape.{Shape}
use Rattle.memory.specs.declared.shape.Shape.TheVariants as shape
use Rattle.memory.specs.Meaning.{told, held_count, Wf}
use Rattle.memory.specs.Shapes.{OfTwo, ShapeOf, Implication, Spelled, NoRoom, SpelledOr}
use Rattle.search.specs.declared.plan.Plan.{Plan}
use Rattle.search.specs.declared.plan.Plan.TheVariants as plan
use Rattle.search.specs.declared.plan.Exponential.{Exponential}
use Rattle.search.specs.declared.plan.Exponential.TheVariants.{Dereliction, Contraction, Weakening}
use Rattle.search.specs.Plans.{sequent, linear_formula, First, Planned, PlannedAt, Two, Unfocused, long, Premise}

-- what stands at a place
map_here : (f : ℕ → Formula) (xs : List ℕ) (i : ℕ) (d : Formula) → i < length xs → get_or (map f xs) i d ≡ f (get_or xs i 0)
map_here f [] i d h = absurd (omega arith)
map_here f (x ∷ xs) zero d h = refl
map_here f (x ∷ xs) (suc i) d h = map_here f xs i d (omega arith)

module _ (m : List ℕ) {z : Zones} (f : Fits z) where
  pub linear_here : (i : ℕ) → i < z.linear_len → linear_formula m z i ≡ told m (get_or z.linear i 0)
  linear_here i h = map_here (told m) (linears z) i formula.One (omega (arith, linears_length f)) ∙ ap (told m) (get_or-take z.linear_len z.linear i 0 h)

  pub linear_length : length (sequent m z).linear ≡ z.linear_len
  linear_length = length-map (linears z) (told m) ∙ linears_length f

pub unrestricted_here : (told : ℕ → Formula) {z : Zones} → Fits z → (i : ℕ) → i < z.unrestricted_len → get_or (meant told z).unrestricted i formula.One ≡ told (get_or z.unrestricted i 0)
unrestricted_here told {z} f i h = map_here told (unrestricteds z) i formula.One (omega (arith, unrestricteds_length f)) ∙ ap told (get_or-take z.unrestricted_len z.unrestricted i 0 h)

-- the first decomposable formula
module _ (m : List ℕ) {z : Zones} (f : Fits z) (i : ℕ) (h : i < z.linear_len) (passed : Passed (take i (sequent m z).linear)) where
  pub passed_next : decomposable (told m (get_or z.linear i 0)) ≡ false → Passed (take (i + 1) (sequent m z).linear)
  passed_next e =
      let l : i < length (sequent m z).linear = omega (arith, linear_length m f) in
      rw (add-one, take-suc (sequent m z).linear i formula.One l) (passed_snoc (linear_formula m z i) passed (ap decomposable (linear_here m f i h) ∙ e))

  first_is : (g : Formula) → told m (get_or z.linear i 0) ≡ g → First m z i g
  first_is g e = record { place = h; passed = passed; here = linear_here m f i h ∙ e }

  pub planned_here : (p : Plan) → PlannedAt m (get_or z.linear i 0) i p → (p ≡ plan.Rest → ⊥) → Planned m z p
  planned_here plan.Empty k o = absurd k
  planned_here (plan.Par j a b) k o = rw k.0 record { first = first_is _ k.1.here; left = k.1.left; right = k.1.right }
  planned_here (plan.Bottom j) k o = rw k.0 (first_is _ k.1)
  planned_here (plan.Top j) k o = rw k.0 (first_is _ k.1)
  planned_here (plan.With j a b) k o = rw k.0 record { first = first_is _ k.1.here; left = k.1.left; right = k.1.right }
  planned_here (plan.WhyNot j a) k o = rw k.0 record { first = first_is _ k.1.here; part = k.1.part }
  planned_here (plan.Lolli j y) k o = rw (k.0, k.1.0) record { first = first_is _ refl; implication = k.1.1 }
  planned_here plan.Rest k o = absurd (o refl)

-- the shapes that are not decomposable
pub undecomposable : (m : List ℕ) (x : ℕ) (s : Shape) → ShapeOf m x s
    → (s ≡ shape.Bottom → ⊥) → (s ≡ shape.Top → ⊥) → ((a b : ℕ) → s ≡ shape.Par a b → ⊥) → ((a b : ℕ) → s ≡ shape.With a b → ⊥)
    → ((a b : ℕ) → s ≡ shape.Lolli a b → ⊥) → ((a : ℕ) → s ≡ shape.WhyNot a → ⊥) → decomposable (told m x) ≡ false
unfolding decomposable
undecomposable m x shape.One h b t p w l y = rw h
undecomposable m x shape.Bottom h b t p w l y = absurd (b refl)
undecomposable m x shape.Top h b t p w l y = absurd (t refl)
undecomposable m x shape.Zero h b t p w l y = rw h
undecomposable m x (shape.Atom a) h b t p w l y = rw h
undecomposable m x (shape.NegAtom a) h b t p w l y = rw h
undecomposable m x (shape.Tensor a a') h b t p w l y = rw h.here
undecomposable m x (shape.Par a a') h b t p w l y = absurd (p a a' refl)
undecomposable m x (shape.With a a') h b t p w l y = absurd (w a a' refl)
undecomposable m x (shape.Plus a a') h b t p w l y = rw h.here
undecomposable m x (shape.Lolli a a') h b t p w l y = absurd (l a a' refl)
undecomposable m x (shape.OfCourse a) h b t p w l y = rw h.here
undecomposable m x (shape.WhyNot a) h b t p w l y = absurd (y a refl)

-- an implication
pub implication_here : (m : List ℕ) (x : ℕ) (a b : ℕ) → Wf m → x < held_count m → ShapeOf m x (shape.Lolli a b) → Implication m x
implication_here m x a b w l h = record { wf = w; low = l; left = told m a; right = told m b; here = h.here }

-- what focusing gives: at an atom, beside which its negation must stand alone
module _ (m : List ℕ) {z : Zones} (f : Fits z) (i : ℕ) (h : i < z.linear_len) where
  abbrev Γ : List Formula
  Γ = (sequent m z).linear

  two_beside : (xs : List Formula) (i : ℕ) (d : Formula) → length xs ≡ 2 → i < 2 → remove i xs ≡ get_or xs (1 - i) d ∷ []
  two_beside (x ∷ y ∷ []) zero d e l = refl
  two_beside (x ∷ y ∷ []) (suc zero) d e l = refl
  two_beside (x ∷ y ∷ []) (suc (suc i)) d e l = absurd (omega arith)
  two_beside [] i d e l = absurd (omega arith)
  two_beside (x ∷ []) i d e l = absurd (omega arith)
  two_beside (x ∷ y ∷ w ∷ xs) i d e l = absurd (omega arith)

  pub beside : z.linear_len ≡ 2 → remove i Γ ≡ told m (get_or z.linear (1 - i) 0) ∷ []
  beside e =
      let l : length Γ ≡ 2 = linear_length m f ∙ e in
      let k : i < 2 = omega arith in
      let j : 1 - i < z.linear_len = omega arith in
      two_beside Γ i formula.One l k ∙ ap (λ (g : Formula). g ∷ []) (linear_here m f (1 - i) j)

  abbrev is_axiom : ℕ → Bool
  is_axiom name = among (NegAtom name) (remove i Γ) && eqb (length Γ) 2

  no_axiom : (name : ℕ) → linear_formula m z i ≡ Atom name → is_axiom name ≡ false → Unfocused m z i
  no_axiom name e k = record { none = λ deeper. ap (λ (g : Formula). prove_focused deeper (sequent m z) (take i Γ) g (drop (suc i) Γ)) e ∙ unfold prove_focused when◌then◌else◌ in rw k }

  and_false : (b : Bool) → b && false ≡ false
  and_false true = refl
  and_false false = refl

  pub not_two : (name : ℕ) → linear_formula m z i ≡ Atom name → (z.linear_len ≡ 2 → ⊥) → Unfocused m z i
  not_two name e k =
      no_axiom name e (ap (λ (b : Bool). among (NegAtom name) (remove i Γ) && b) (ne_eqb (length Γ) 2 (λ j. k (sym (linear_length m f) ∙ j))) ∙ and_false (among (NegAtom name) (remove i Γ)))

  pub not_beside : (name : ℕ) → linear_formula m z i ≡ Atom name → z.linear_len ≡ 2 → (told m (get_or z.linear (1 - i) 0) ≡ NegAtom name → ⊥) → Unfocused m z i
  not_beside name e two k =
      no_axiom name e (ap (λ (l : List Formula). among (NegAtom name) l && eqb (length Γ) 2) (beside two) ∙ unfold among in rw (among, different_same (NegAtom name) _ λ j. k (sym j)))

  -- at a formula that must stand alone
  pub not_alone_one : linear_formula m z i ≡ formula.One → (z.linear_len ≡ 1 → ⊥) → Unfocused m z i
  not_alone_one e k = record { none = λ deeper. ap (λ (g : Formula). prove_focused deeper (sequent m z) (take i Γ) g (drop (suc i) Γ)) e ∙ unfold prove_focused when◌then◌else◌ in rw (ne_eqb (length Γ) 1 (λ j. k (sym (linear_length m f) ∙ j))) }

  pub not_alone_of_course : (a : Formula) → linear_formula m z i ≡ formula.OfCourse a → (z.linear_len ≡ 1 → ⊥) → Unfocused m z i
  not_alone_of_course a e k = record { none = λ deeper. ap (λ (g : Formula). prove_focused deeper (sequent m z) (take i Γ) g (drop (suc i) Γ)) e ∙ unfold prove_focused when◌then◌else◌ in rw (ne_eqb (length Γ) 1 (λ j. k (sym (linear_length m f) ∙ j))) }

  -- at a formula that is focused on
  pub two_here : (sign : Formula → Formula → Formula) (a b : ℕ) → OfTwo m (get_or z.linear i 0) sign a b → Two sign m z i a b
  two_here sign a b k = record { place = h; here = linear_here m f i h ∙ k.here; left = k.left; right = k.right }

  -- at any other formula that is not focused on
  other : (g : Formula) → linear_formula m z i ≡ g → ((deeper : Sequent → Search) → prove_focused deeper (sequent m z) (take i Γ) g (drop (suc i) Γ) ≡ logic.answer logic.nothing) → Unfocused m z i
  other g e k = record { none = λ deeper. ap (λ (g : Formula). prove_focused deeper (sequent m z) (take i Γ) g (drop (suc i) Γ)) e ∙ k deeper }

  pub not_focused : (s : Shape) → ShapeOf m (get_or z.linear i 0) s
      → ((a : ℕ) → s ≡ shape.Atom a → ⊥) → (s ≡ shape.One → ⊥) → ((a b : ℕ) → s ≡ shape.Tensor a b → ⊥) → ((a b : ℕ) → s ≡ shape.Plus a b → ⊥)
      → ((a : ℕ) → s ≡ shape.OfCourse a → ⊥) → Unfocused m z i
  unfolding prove_focused
  not_focused shape.One k n o t p c = absurd (o refl)
  not_focused shape.Bottom k n o t p c = other _ (linear_here m f i h ∙ k) λ d. refl
  not_focused shape.Top k n o t p c = other _ (linear_here m f i h ∙ k) λ d. refl
  not_focused shape.Zero k n o t p c = other _ (linear_here m f i h ∙ k) λ d. refl
  not_focused (shape.Atom a) k n o t p c = absurd (n a refl)
  not_focused (shape.NegAtom a) k n o t p c = other _ (linear_here m f i h ∙ k) λ d. refl
  not_focused (shape.Tensor a b) k n o t p c = absurd (t a b refl)
  not_focused (shape.Par a b) k n o t p c = other _ (linear_here m f i h ∙ k.here) λ d. refl
  not_focused (shape.With a b) k n o t p c = other _ (linear_here m f i h ∙ k.here) λ d. refl
  not_focused (shape.Plus a b) k n o t p c = absurd (p a b refl)
  not_focused (shape.Lolli a b) k n o t p c = other _ (linear_here m f i h ∙ k.here) λ d. refl
  not_focused (shape.OfCourse a) k n o t p c = absurd (c a refl)
  not_focused (shape.WhyNot a) k n o t p c = other _ (linear_here m f i h ∙ k.here) λ d. refl

-- an atom's negation is told from any other formula
pub not_neg_atom : (m : List ℕ) (x name : ℕ) (s : Shape) → ShapeOf m x s → ((a : ℕ) → s ≡ shape.NegAtom a → ⊥) → told m x ≡ NegAtom name → ⊥
not_neg_atom m x name shape.One h o e = let z : ◌≡◌ {A = ℕ} 0 1 = cc in omega arith
not_neg_atom m x name shape.Bottom h o e = let z : ◌≡◌ {A = ℕ} 0 1 = cc in omega arith
not_neg_atom m x name shape.Top h o e = let z : ◌≡◌ {A = ℕ} 0 1 = cc in omega arith
not_neg_atom m x name shape.Zero h o e = let z : ◌≡◌ {A = ℕ} 0 1 = cc in omega arith
not_neg_atom m x name (shape.Atom a) h o e = let z : ◌≡◌ {A = ℕ} 0 1 = cc in omega arith
not_neg_atom m x name (shape.NegAtom a) h o e = absurd (o a refl)
not_neg_atom m x name (shape.Tensor a b) h o e = let k = h.here in let z : ◌≡◌ {A = ℕ} 0 1 = cc in omega arith
not_neg_atom m x name (shape.Par a b) h o e = let k = h.here in let z : ◌≡◌ {A = ℕ} 0 1 = cc in omega arith
not_neg_atom m x name (shape.With a b) h o e = let k = h.here in let z : ◌≡◌ {A = ℕ} 0 1 = cc in omega arith
not_neg_atom m x name (shape.Plus a b) h o e = let k = h.here in let z : ◌≡◌ {A = ℕ} 0 1 = cc in omega arith
not_neg_atom m x name (shape.Lolli a b) h o e = let k = h.here in let z : ◌≡◌ {A = ℕ} 0 1 = cc in omega arith
not_neg_atom m x name (shape.OfCourse a) h o e = let k = h.here in let z : ◌≡◌ {A = ℕ} 0 1 = cc in omega arith
not_neg_atom m x name (shape.WhyNot a) h o e = let k = h.here in let z : ◌≡◌ {A = ℕ} 0 1 = cc in omega arith

pub other_name : (m : List ℕ) (x a name : ℕ) → told m x ≡ NegAtom a → (a ≡ name → ⊥) → told m x ≡ NegAtom name → ⊥
other_name m x a name h d e = d (let k : NegAtom a ≡ NegAtom name = sym h ∙ e in cc)

-- the premises of the rules on the unrestricted zone
pub long_other : (e : Exponential) (z : Zones) → (e ≡ Contraction → ⊥) → false ≡ long e z
long_other Dereliction z o = refl
long_other Contraction z o = absurd (o refl)
long_other Weakening z o = refl

-- one formula more
pub longer : {z y : Zones} {a : ℕ} → Fits z → Made z (pushed a) y → (y.linear_len ≡ z.linear_len + 1) × (y.unrestricted_len ≡ z.unrestricted_len)
longer {z} {y} {a} f m = (m.linear_count ∙ length-append (linears z) (a ∷ []) ∙ ap (λ (n : ℕ). n + 1) (linears_length f), m.unrestricted_count ∙ unrestricteds_length f)

-- the number of masks
pub pow_small : (k : ℕ) → k ≤ 30 → 2 ^ k ≤ 1073741824
pow_small k h = pow-le-pow_right {n = 2} (omega arith) h

module _ {z : Zones} (f : Fits z) (i : ℕ) (h : i < z.unrestricted_len) {y : Zones} (out : Made z (without_unrestricted i) y) where
  -- one formula less
  pub shorter : (y.linear_len ≡ z.linear_len) × (y.unrestricted_len + 1 ≡ z.unrestricted_len)
  shorter =
      let u = unrestricteds_length f in
      let g : i < length (unrestricteds z) = omega (arith, u) in
      (out.linear_count ∙ linears_length f, omega (arith, out.unrestricted_count, remove_length (unrestricteds z) i g, u))

  -- the formula that was taken out
  copied : (told : ℕ → Formula) → told (get_or z.unrestricted i 0) ≡ get_or (meant told z).unrestricted i formula.One
  copied told = sym (unrestricted_here told f i h)

  pub premise_weakening : Premise Weakening z i y
  premise_weakening = record { fits = out.fits; means = λ told. meant_made told out; within = λ n w. within_made n out w tt }

  module _ {x : Zones} (one : Made y (pushed (get_or z.unrestricted i 0)) x) where
    pub premise_dereliction : Premise Dereliction z i x
    premise_dereliction = record {
      fits = one.fits;
      means = λ told. rw (← (copied told)) (meant_copied told out one);
      within = λ n w. within_made n one (within_made n out w tt) (within_unrestricted n f w i h);
    }

    pub premise_contraction : {x' : Zones} → Made x (pushed (get_or z.unrestricted i 0)) x' → Premise Contraction z i x'
    premise_contraction two = record {
      fits = two.fits;
      means = λ told. rw (← (copied told)) (meant_copied_two told out one two);
      within = λ n w. within_made n two (within_made n one (within_made n out w tt) (within_unrestricted n f w i h)) (within_unrestricted n f w i h);
    }

-- a linear formula taken out
pub fewer : {z y : Zones} {i : ℕ} → Fits z → i < z.linear_len → Made z (without i) y → (y.linear_len + 1 ≡ z.linear_len) × (y.unrestricted_len ≡ z.unrestricted_len)
fewer {z} {y} {i} f h m =
    let u = linears_length f in
    let g : i < length (linears z) = omega (arith, u) in
    (omega (arith, m.linear_count, remove_length (linears z) i g, u), m.unrestricted_count ∙ unrestricteds_length f)

pub not_full : {z : Zones} {k : ℕ} → Fits z → k ≡ length (linears z) + length (unrestricteds z) → (k ≡ 31 → ⊥) → z.linear_len + z.unrestricted_len < 31
not_full {z} {k} f e h = omega (arith, linears_length f, unrestricteds_length f, f.few)

-- an answer of `spell`, by its case
pub spelled_by : (m : List ℕ) (f : Formula) (m' : List ℕ) {g : Option ℕ} {i : ℕ} → g ≡ Some i → SpelledOr m f g m' → Spelled m f i m'
spelled_by m f m' e s = subst (λ (x : Option ℕ). SpelledOr m f x m') e s

pub full_by : (m : List ℕ) (f : Formula) (m' : List ℕ) {g : Option ℕ} → g ≡ None → SpelledOr m f g m' → NoRoom m f m'
full_by m f m' e s = subst (λ (x : Option ℕ). SpelledOr m f x m') e s
