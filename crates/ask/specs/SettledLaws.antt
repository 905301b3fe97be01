-- The answer of `read_into`, its sequent's numbers and the words after it are settled by what it promises: no second result keeps the promise. Assumes nothing.
use Rattle.std.specs.Prelude.{◌≡◌, refl, Err, Ok, Result, List, [], ◌∷◌, map, ℕ, suc, ◌<◌, length, get_or, drop}
use Rattle.std.proofs.Common.{sym, ap, ap₂, subst, ◌∙◌, arith}
use Rattle.std.proofs.lemmas.List.{length-map}
use Rattle.logic.specs.Formula.{One}
use Rattle.logic.specs.Sequent.{to_one_sided}
use Rattle.logic.specs.Held.{enter_question}
use Rattle.wire.specs.Read.{got}
use Rattle.held.specs.WordsLaws.{number_once}
use Rattle.failures.specs.AlikeLaws.{alike_of}
use Rattle.zones.specs.declared.Zones.{Zones}
use Rattle.zones.specs.Zones.{linears, unrestricteds, meant, Below}
use Rattle.memory.specs.Meaning.{Wf, StandsIn, formula_words, holds, held_count, told}
use Rattle.memory.specs.SettledLaws.{image_once}
use Rattle.formula.specs.declared.Refusal.{Refusal}
use Rattle.ask.specs.Reading.{reading_of, Taken, TakenOr, ReadInto}

number_same : (m : List ℕ) → Wf m → (x y : ℕ) → x < held_count m → y < held_count m → told m x ≡ told m y → x ≡ y
unfolding told held_count
number_same m z x y l k e = (number_once (formula_words m) z.formulas x y l k).0 e

-- numbers of held formulas are settled by what they say
numbers_once : (m : List ℕ) → Wf m → (xs ys : List ℕ) → Below (held_count m) xs → Below (held_count m) ys → map (told m) xs ≡ map (told m) ys → xs ≡ ys
numbers_once m z [] [] b d e = refl
numbers_once m z [] (y ∷ ys) b d e = let l : 0 ≡ suc (length ys) = ap length e ∙ ap suc (length-map ys (told m)) in absurd (omega arith)
numbers_once m z (x ∷ xs) [] b d e = let l : suc (length xs) ≡ 0 = ap suc (sym (length-map xs (told m))) ∙ ap length e in absurd (omega arith)
numbers_once m z (x ∷ xs) (y ∷ ys) b d e =
    let head : told m x ≡ told m y = ap (λ fs. get_or fs 0 One) e in
    let tail : map (told m) xs ≡ map (told m) ys = ap (drop 1) e in
    ap₂ ◌∷◌ (number_same m z x y (b.below 0 (omega arith)) (d.below 0 (omega arith)) head) (numbers_once m z xs ys record { below = λ i l. b.below (suc i) (omega arith) } record { below = λ i l. d.below (suc i) (omega arith) } tail)

module _ {m s : List ℕ} {z z' : Zones} {m' m'' : List ℕ} (a : Taken m s z m') (b : Taken m s z' m'') where
  same_question : a.question ≡ b.question
  same_question = let e : got a.question [] ≡ got b.question [] = sym a.read ∙ b.read in cc

  taken_words : m' ≡ m''
  taken_words = image_once m' m'' a.wf b.wf (a.all ∙ (ap (λ q. enter_question q (holds m)) same_question ∙ sym b.all)) (alike_of (a.failures ∙ sym b.failures))

  same_meaning : meant (told m') z ≡ meant (told m') z'
  same_meaning = a.means ∙ (ap to_one_sided same_question ∙ sym (subst (λ w. meant (told w) z' ≡ to_one_sided b.question) (sym taken_words) b.means))

  same_stands : StandsIn m' z'
  same_stands = subst (λ w. StandsIn w z') (sym taken_words) b.stands

  pub taken_once : ((linears z ≡ linears z') × (unrestricteds z ≡ unrestricteds z')) × (m' ≡ m'')
  taken_once = (
    (
      numbers_once m' a.wf (linears z) (linears z') a.stands.within.linear same_stands.within.linear (ap (λ q. q.linear) same_meaning),
      numbers_once m' a.wf (unrestricteds z) (unrestricteds z') a.stands.within.unrestricted same_stands.within.unrestricted (ap (λ q. q.unrestricted) same_meaning),
    ),
    taken_words,
  )

pub read_once : (m s : List ℕ) (r r' : Result Zones Refusal) (m' m'' : List ℕ) → ReadInto m s r m' → ReadInto m s r' m'' → (reading_of r ≡ reading_of r') × (m' ≡ m'')
read_once m s r r' m' m'' x y = (same, go r r' same x.after y.after)
  where
    same : reading_of r ≡ reading_of r'
    same = x.answer ∙ sym y.answer

    go : (r r' : Result Zones Refusal) → reading_of r ≡ reading_of r' → TakenOr r m s m' → TakenOr r' m s m'' → m' ≡ m''
    go (Ok z) (Ok z') e a b = (taken_once a b).1
    go (Ok z) (Err why) e a b = absurd cc
    go (Err why) (Ok z') e a b = absurd cc
    go (Err why) (Err why') e a b = a ∙ sym b
