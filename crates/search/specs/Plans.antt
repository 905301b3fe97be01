-- What the ring's leaves answer: which rule is next and on what, what focusing on a formula gives, the rules on the unrestricted zone. Assumes nothing: these are definitions.
use Rattle.std.specs.Prelude.{◌≡◌, Bool, false, List, [], ◌∷◌, ◌++◌, ℕ, suc, ◌+◌, ◌<◌, eqb, get_or, take, drop}
use Rattle.logic.specs.Formula as formula
use Rattle.logic.specs.Formula.{Formula}
use Rattle.logic.specs.Sequent.{Sequent, ◌﹔◌}
use Rattle.logic.specs.Tree as tree
use Rattle.logic.specs.Tree.{Rule}
use Rattle.logic.specs.Outcome.{Search, nothing, answer}
use Rattle.logic.specs.Search.{prove_focused, try_dereliction, try_contraction, try_weakening}
use Rattle.logic.specs.Built.{decomposable, Passed}
use Rattle.zones.specs.declared.Zones.{Zones}
use Rattle.zones.specs.Zones.{Fits, Within, remove, meant}
use Rattle.memory.specs.Meaning.{told, held_count}
use Rattle.memory.specs.Shapes.{OfTwo, OfOne, Implication}
use Rattle.search.specs.declared.plan.Plan.{Plan}
use Rattle.search.specs.declared.plan.Plan.TheVariants as plan
use Rattle.search.specs.declared.plan.Focus.{Focus}
use Rattle.search.specs.declared.plan.Focus.TheVariants as focus
use Rattle.search.specs.declared.plan.Exponential.{Exponential}
use Rattle.search.specs.declared.plan.Exponential.TheVariants.{Dereliction, Contraction, Weakening}

-- the sequent that the zones mean over a memory
abbrev pub sequent : List ℕ → Zones → Sequent
sequent m z = meant (told m) z

-- the formula at place i of the linear zone
abbrev pub linear_formula : List ℕ → Zones → ℕ → Formula
linear_formula m z i = get_or (sequent m z).linear i formula.One

-- f stands at place i of the linear zone, and nothing before it is decomposable
pub record First (m : List ℕ) (z : Zones) (i : ℕ) (f : Formula) : Type 0 where
  pub place : i < z.linear_len
  pub passed : Passed (take i (sequent m z).linear)
  pub here : linear_formula m z i ≡ f

-- with its two parts, or its one
pub record FirstTwo (sign : Formula → Formula → Formula) (m : List ℕ) (z : Zones) (i a b : ℕ) : Type 0 where
  pub first : First m z i (sign (told m a) (told m b))
  pub left : a < held_count m
  pub right : b < held_count m

pub record FirstOne (sign : Formula → Formula) (m : List ℕ) (z : Zones) (i a : ℕ) : Type 0 where
  pub first : First m z i (sign (told m a))
  pub part : a < held_count m

-- it is the implication x
pub record FirstLolli (m : List ℕ) (z : Zones) (i x : ℕ) : Type 0 where
  pub first : First m z i (told m x)
  pub implication : Implication m x

-- none is decomposable
pub record NoneFirst (m : List ℕ) (z : Zones) : Type 0 where
  pub some : 0 < z.linear_len
  pub passed : Passed (sequent m z).linear

abbrev pub Planned : List ℕ → Zones → Plan → Type 0
Planned m z plan.Empty = z.linear_len ≡ 0
Planned m z (plan.Par i a b) = FirstTwo formula.Par m z i a b
Planned m z (plan.Bottom i) = First m z i formula.Bottom
Planned m z (plan.Top i) = First m z i formula.Top
Planned m z (plan.With i a b) = FirstTwo formula.With m z i a b
Planned m z (plan.WhyNot i a) = FirstOne formula.WhyNot m z i a
Planned m z (plan.Lolli i x) = FirstLolli m z i x
Planned m z plan.Rest = NoneFirst m z

-- the same of one formula, at a place
abbrev pub PlannedAt : List ℕ → ℕ → ℕ → Plan → Type 0
PlannedAt m x i plan.Empty = ⊥
PlannedAt m x i (plan.Par j a b) = (j ≡ i) × OfTwo m x formula.Par a b
PlannedAt m x i (plan.Bottom j) = (j ≡ i) × (told m x ≡ formula.Bottom)
PlannedAt m x i (plan.Top j) = (j ≡ i) × (told m x ≡ formula.Top)
PlannedAt m x i (plan.With j a b) = (j ≡ i) × OfTwo m x formula.With a b
PlannedAt m x i (plan.WhyNot j a) = (j ≡ i) × OfOne m x formula.WhyNot a
PlannedAt m x i (plan.Lolli j y) = (j ≡ i) × ((y ≡ x) × Implication m x)
PlannedAt m x i plan.Rest = decomposable (told m x) ≡ false

-- a formula at place i with its two parts, or its one
pub record Two (sign : Formula → Formula → Formula) (m : List ℕ) (z : Zones) (i a b : ℕ) : Type 0 where
  pub place : i < z.linear_len
  pub here : linear_formula m z i ≡ sign (told m a) (told m b)
  pub left : a < held_count m
  pub right : b < held_count m

-- the atom at place i, its negation beside it, and nothing else
pub record AxiomAt (m : List ℕ) (z : Zones) (i : ℕ) : Type 0 where
  pub name : ℕ
  pub here : linear_formula m z i ≡ formula.Atom name
  pub beside : remove i (sequent m z).linear ≡ formula.NegAtom name ∷ []

-- a formula that stands alone
pub record Alone (m : List ℕ) (z : Zones) (i : ℕ) (f : Formula) : Type 0 where
  pub here : linear_formula m z i ≡ f
  pub alone : z.linear_len ≡ 1

pub record AlonePart (m : List ℕ) (z : Zones) (i a : ℕ) : Type 0 where
  pub only : Alone m z i (formula.OfCourse (told m a))
  pub part : a < held_count m

-- focusing gives nothing
pub record Unfocused (m : List ℕ) (z : Zones) (i : ℕ) : Type 0 where
  pub none : (deeper : Sequent → Search)
      → prove_focused deeper (sequent m z) (take i (sequent m z).linear) (linear_formula m z i) (drop (suc i) (sequent m z).linear) ≡ answer nothing

abbrev pub Focused : List ℕ → Zones → ℕ → Focus → Type 0
Focused m z i focus.Axiom = AxiomAt m z i
Focused m z i focus.One = Alone m z i formula.One
Focused m z i (focus.Tensor a b) = Two formula.Tensor m z i a b
Focused m z i (focus.Plus a b) = Two formula.Plus m z i a b
Focused m z i (focus.OfCourse a) = AlonePart m z i a
Focused m z i focus.Nothing = Unfocused m z i

-- the rules on the unrestricted zone: document 01's numbers, the premises, and the loops over the zone
abbrev pub number_of : Exponential → ℕ
number_of Dereliction = 14
number_of Contraction = 13
number_of Weakening = 12

abbrev pub rule_named : Exponential → Rule
rule_named Dereliction = tree.Dereliction
rule_named Contraction = tree.Contraction
rule_named Weakening = tree.Weakening

abbrev pub premise_of : Exponential → ℕ → Sequent → Sequent
premise_of Dereliction i q = q.linear ++ (get_or q.unrestricted i formula.One ∷ []) ﹔ remove i q.unrestricted
premise_of Contraction i q = q.linear ++ (get_or q.unrestricted i formula.One ∷ get_or q.unrestricted i formula.One ∷ []) ﹔ remove i q.unrestricted
premise_of Weakening i q = q.linear ﹔ remove i q.unrestricted

abbrev pub exponential : Exponential → (Sequent → Search) → Sequent → Search
exponential Dereliction deeper q = try_dereliction deeper q
exponential Contraction deeper q = try_contraction deeper q
exponential Weakening deeper q = try_weakening deeper q

-- the premise would have more than 31 formulas
abbrev pub long : Exponential → Zones → Bool
long Dereliction z = false
long Contraction z = eqb (z.linear_len + z.unrestricted_len) 31
long Weakening z = false

pub record Premise (e : Exponential) (z : Zones) (i : ℕ) (y : Zones) : Type 0 where
  pub fits : Fits y
  pub means : (told : ℕ → Formula) → meant told y ≡ premise_of e i (meant told z)
  pub within : (n : ℕ) → Within n z → Within n y
