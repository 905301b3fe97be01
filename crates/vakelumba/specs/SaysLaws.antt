-- Laws of what the boundary's calls say: from the promise of the call below, and that no second result meets the boundary's. Assumes nothing.
use Rattle.std.specs.Prelude.{◌≡◌, refl, Bool, true, false, cond, Result, Ok, List, ℕ}
use Rattle.std.proofs.Common.{sym, ap, ◌∙◌}
use Rattle.std.proofs.lemmas.Bool.{false≢true}
use mir.Val.{bool_byte}
use Rattle.logic.specs.Answer.{number, wrong_memory}
use Rattle.logic.specs.Formula.{Formula}
use Rattle.formula.specs.Answers.{number_of}
use Rattle.formula.specs.Calls.{Writes}
use Rattle.formula.specs.declared.Refusal.{Refusal}
use Rattle.question.specs.Answers.{OneSided}
use Rattle.held.specs.Answers.{Tells}
use Rattle.memory.specs.Meaning.{Wf}
use Rattle.vakelumba.specs.declared.said.Said.{Said}
use Rattle.vakelumba.specs.Says.{refusal, of_written, of_positive, Says, WrittenSaid, TextSaid, TurnedSaid, FormedSaid, well, ill}

-- a refusal is its number, with no value
pub refusal_is : {n : ℕ} (k : Refusal) → n ≡ number_of k → ◌≡◌ {A = Said} (record { number = n; value = 0 }) (refusal k)
refusal_is k e = λ i. record { number = e i; value = 0 }

-- a call's answer, as its number and its value, is told
pub answer_said : {a b : Said} {r value : ℕ} → a ≡ b → Says a r value → Says b r value
answer_said e t = rw (sym e) t

pub text_said : {text : Formula → List ℕ} {s out last : List ℕ} {w : Result ℕ Refusal} {a : Said} {r value : ℕ} → Writes text s out w last → a ≡ of_written w → Says a r value → TextSaid text s out r value last
text_said p e t = record { says = answer_said (e ∙ ap of_written p.answer) t; buffer_is = p.buffer }

pub turned_said : {s out last : List ℕ} {w : Result ℕ Refusal} {a : Said} {r value : ℕ} → OneSided s out w last → a ≡ of_written w → Says a r value → TurnedSaid s out r value last
turned_said p e t = record { says = answer_said (e ∙ ap of_written p.answer) t; buffer_is = p.buffer }

-- a bool is 1 or 0
bit_is : (b : Bool) → bool_byte b ≡ cond b 1 0
bit_is true = refl
bit_is false = refl

pub bit_said : {p : Result Bool Refusal} {b : Bool} → p ≡ Ok b → Says (of_positive p) 0 (bool_byte b)
bit_said {p} {b} e = answer_said (ap of_positive (sym e)) (record { number_is = refl; value_is = bit_is b })

-- the test of a lent memory
pub formed_well : {m : List ℕ} (t : Bool) → Tells t (Wf m) → t ≡ true → FormedSaid m 0
formed_well true z e = well z refl
formed_well false z e = absurd (false≢true e)

pub formed_ill : {m : List ℕ} (t : Bool) → Tells t (Wf m) → t ≡ false → FormedSaid m (number wrong_memory)
formed_ill true z e = absurd (false≢true (sym e))
formed_ill false z e = ill z refl

-- ---- no second result meets a promise

pub says_once : {a : Said} {r r' v v' : ℕ} → Says a r v → Says a r' v' → (r ≡ r') × (v ≡ v')
says_once x y = (x.number_is ∙ sym y.number_is, x.value_is ∙ sym y.value_is)

pub written_once : {w : Result ℕ Refusal} {buffer last last' : List ℕ} {r r' v v' : ℕ} → WrittenSaid w buffer r v last → WrittenSaid w buffer r' v' last' → (r ≡ r') × (v ≡ v') × (last ≡ last')
written_once x y = let s = says_once x.says y.says in (s.0, s.1, x.buffer_is ∙ sym y.buffer_is)

pub formed_once : {m : List ℕ} {r r' : ℕ} → FormedSaid m r → FormedSaid m r' → r ≡ r'
formed_once (well z e) (well z' e') = e ∙ sym e'
formed_once (well z e) (ill n e') = absurd (n z)
formed_once (ill n e) (well z e') = absurd (n z)
formed_once (ill n e) (ill n' e') = e ∙ sym e'
