-- Laws of what the memory means: its length, numbers and formulas, what stays over more formulas and over a record. Assumes nothing.
use Rattle.std.specs.Prelude.{◌≡◌, refl, Bool, true, false, List, [], ◌∷◌, ℕ, suc, ◌<◌, length, get_or}
use Rattle.std.proofs.Common.{sym, ◌∙◌, arith, get_or-take}
use Rattle.std.proofs.lemmas.Bool.{false≢true}
use Rattle.logic.specs.Formula.{Formula, One, same, among}
use Rattle.logic.proofs.FormulaLaws.{same_iff}
use Rattle.held.specs.Words as formulas
use Rattle.held.specs.WordsLaws.{held_length, among_true, keeps}
use Rattle.memory.specs.Meaning.{words, formula_words, holds, held_count, told, Wf, Grew}
use Rattle.memory.specs.PartsLaws.{parts_length}

-- as many words as there must be, both parts together
pub wf_length : (m : List ℕ) → Wf m → length m ≡ words
wf_length m z = parts_length 12289 m ∙ omega (arith, z.formulas.sized, z.failures.sized)

-- word 0 is how many formulas are held
pub count_word : (m : List ℕ) → held_count m ≡ get_or m 0 0
unfolding held_count
count_word m = get_or-take 12289 m 0 0 (omega arith)

-- as many formulas as numbers
pub holds_length : (m : List ℕ) → length (holds m) ≡ held_count m
unfolding holds held_count
holds_length m = held_length (formula_words m) (formulas.count (formula_words m))

-- the formula of a number is held
pub told_among : (m : List ℕ) (x : ℕ) → x < held_count m → among (told m x) (holds m) ≡ true
unfolding told holds held_count
told_among m x h = among_true (told m x) (holds m) x (omega (arith, holds_length m)) refl

-- a formula that is held has a number
pub record Numbered (f : Formula) (fs : List Formula) : Type 0 where
  pub number : ℕ
  pub low : number < length fs
  pub here : get_or fs number One ≡ f

among_numbered : (f : Formula) (fs : List Formula) → among f fs ≡ true → Numbered f fs
unfolding among
among_numbered f [] e = absurd (false≢true e)
among_numbered f (g ∷ fs) e = go (same f g) refl e (among_numbered f fs)
  where
    go : (b : Bool) → same f g ≡ b → elim b as (λ _. Bool) [ true ↦ true | false ↦ among f fs ] ≡ true → (among f fs ≡ true → Numbered f fs) → Numbered f (g ∷ fs)
    go true s e rest = record { number = 0; low = omega arith; here = sym ((same_iff f g).0 s) }
    go false s e rest = let r = rest e in record { number = suc r.number; low = omega (arith, r.low); here = r.here }

-- what is held stays held
pub grew_among : {m m' : List ℕ} → Grew m m' → (f : Formula) → among f (holds m) ≡ true → among f (holds m') ≡ true
unfolding holds told held_count
grew_among {m} {m'} g f e =
    let n = among_numbered f (holds m) e in
    let l : n.number < held_count m = omega (arith, n.low, holds_length m) in
    among_true f (holds m') n.number (omega (arith, g.more, holds_length m')) (g.same n.number l ∙ n.here)

pub extends_grew : (m m' : List ℕ) → formulas.Extends (formula_words m) (formula_words m') → Grew m m'
unfolding told held_count
extends_grew m m' e = record { more = e.more; same = λ x l. keeps (formula_words m) (formula_words m') e x l }
