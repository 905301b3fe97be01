-- What the functions on steps ask and answer. A contract speaks of the rule that has the number asked for. Assumes nothing: these are definitions.
use Rattle.std.specs.Prelude.{◌≡◌, Bool, true, false, ◌&&◌, List, [], ◌∷◌, ℕ, ◌<◌, ◌^◌, eqb, ltb, get_or, length, Option, None, Some, MatchOption}
use Rattle.std.specs.Option.{IfSome}
use Rattle.rule.specs.Numbers as by_name
use Rattle.rule.specs.declared.Rule as code
use Rattle.logic.specs.Formula.{Formula}
use Rattle.logic.specs.Parts.{tag_of}
use Rattle.logic.specs.Sequent.{Sequent}
use Rattle.logic.specs.Answer.{held_full, too_many}
use Rattle.logic.specs.Limits.{at_most}
use Rattle.logic.specs.Conclusion.{concluded}
use Rattle.logic.specs.Tree.{Rule}
use Rattle.tree.specs.Places.{rule_number}
use Rattle.held.specs.Words.{view, told, Wf, Extends}
use Rattle.zones.specs.declared.Zones.{Zones}
use Rattle.zones.specs.Zones.{meant, remove}
use Rattle.expand.specs.Writing.{Sound, Means}
use Rattle.short.specs.Steps.{formula_at, is_pair, is_sync, may_take, premises_of}
use Rattle.short.specs.Making.{Result, made, refused, spelt, few_each}

-- the sequent that the zones mean
abbrev pub sequent : List ℕ → Zones → Sequent
sequent m z = meant (told m) z

-- no room for what is spelled out (7), or it is held
abbrev pub if_full : Option Zones → Result (Unit {0})
if_full None = refused held_full
if_full (Some y) = made tt

-- the sequent z over the memory m, spelled out: the memory is m' then, and the zones mean what the node concludes
pub record SpeltTo (m : List ℕ) (z : Zones) (r : Option Zones) (m' : List ℕ) : Type 0 where
  pub wf : Wf m'
  pub grew : Extends m m'
  pub made_is : spelt (at_most 2048) (sequent m z) (view m) ≡ (if_full r, view m')
  pub means : IfSome r (λ y. Means m' (concluded (sequent m z)) y)

pub record TagAt (m : List ℕ) (z : Zones) (i r : ℕ) : Type 0 where
  pub is : r ≡ tag_of (formula_at (sequent m z) i)

-- the rule with this number, or none where the number is above all of them
pub record Numbered (n : ℕ) (r : Option code.Rule) : Type 0 where
  pub is : MatchOption r (17 < n) (λ rule. by_name.number_of rule ≡ n)

-- the tag of what a rule of `prove_async` decomposes, by the rule's number; 13 is no tag
abbrev pub decomposed_tags : List ℕ
decomposed_tags = 13 ∷ 13 ∷ 13 ∷ 1 ∷ 13 ∷ 7 ∷ 2 ∷ 8 ∷ 13 ∷ 13 ∷ 13 ∷ 12 ∷ 13 ∷ 13 ∷ 13 ∷ 13 ∷ 13 ∷ 13 ∷ []

abbrev pub decomposed_tag : ℕ → ℕ
decomposed_tag rule = get_or decomposed_tags rule 13

pub record Pair (m : List ℕ) (z : Zones) (r : Bool) : Type 0 where
  pub is : r ≡ is_pair (sequent m z).linear

pub record Alone (m : List ℕ) (z : Zones) (place tag : ℕ) (r : Bool) : Type 0 where
  pub is : r ≡ (eqb (tag_of (formula_at (sequent m z) place)) tag && (eqb place 0 && eqb (length (sequent m z).linear) 1))

pub record Split (m : List ℕ) (z : Zones) (place mask : ℕ) (r : Bool) : Type 0 where
  pub is : r ≡ (eqb (tag_of (formula_at (sequent m z) place)) 6 && ltb mask (2 ^ length (remove place (sequent m z).linear)))

-- no formula is decomposable, and there is one
pub record Focused (m : List ℕ) (z : Zones) : Type 0 where
  pub sound : Sound m z
  pub sync : is_sync (sequent m z) ≡ true

-- the number is a rule's
pub record Named (rule : ℕ) : Type 0 where
  pub named : Rule
  pub number : rule ≡ rule_number named

-- whether the rule of that number can be taken; where it can, there is one
pub record Asked (m : List ℕ) (z : Zones) (rule place mask : ℕ) (b : Bool) : Type 0 where
  pub is : (r : Rule) → rule ≡ rule_number r → b ≡ may_take r place mask (sequent m z)
  pub some : b ≡ true → Named rule

-- 6 for a premise, or not
abbrev pub if_crowded : Bool → Result (Unit {0})
if_crowded true = refused too_many
if_crowded false = made tt

pub record Crowded (z : Zones) (rule : ℕ) (b : Bool) : Type 0 where
  pub is : (told : ℕ → Formula) (r : Rule) (i mask : ℕ) (fs : List Formula) → rule ≡ rule_number r → may_take r i mask (meant told z) ≡ true
      → few_each (at_most 31) (premises_of r i mask (meant told z)) fs ≡ (if_crowded b, fs)

-- the rule of that number is taken at the place, with that mask, and its premises are few enough: what is needed to make them
pub record Taken (m : List ℕ) (z : Zones) (rule place mask : ℕ) : Type 0 where
  pub sound : Sound m z
  pub named : Rule
  pub number : rule ≡ rule_number named
  pub takes : may_take named place mask (sequent m z) ≡ true
  pub few : few_each (at_most 31) (premises_of named place mask (sequent m z)) [] ≡ (made tt, [])
