-- Document 01's byte forms, read: each reader answers a value and the bytes left over, or the refusal that comes first in document 01's order. A formula's bytes end where its zone ends.
-- Assumes nothing.
use Rattle.std.specs.Prelude.{Bool, true, false, List, [], ◌∷◌, ℕ, zero, suc, ◌+◌, ◌*◌, eqb, leb, length, take, drop}
use Rattle.logic.specs.Formula.{Formula, One, Bottom, Top, Zero, Atom, NegAtom, Tensor, Par, With, Plus, Lolli, OfCourse, WhyNot}
use Rattle.logic.specs.Sequent.{Sequent, ◌﹔◌, Question, one_sided, two_sided}
use Rattle.logic.specs.Tree.{
  Rule,
  Axiom,
  Cut,
  OneIntro,
  BottomIntro,
  TensorIntro,
  ParIntro,
  TopIntro,
  WithIntro,
  PlusIntroLeft,
  PlusIntroRight,
  OfCourseIntro,
  WhyNotIntro,
  Weakening,
  Contraction,
  Dereliction,
  FocusPositive,
  FocusNegative,
  Blur,
  Tree,
  Trees,
  node,
  ∅,
  ◌▹◌,
}
use Rattle.logic.specs.Answer.{Refusal, wrong_number, wrong_length, wrong_tag, too_high, too_many}

-- a value with the bytes left over, or a refusal
pub data Read (A : Type 0) : Type 0 where
  got : A → List ℕ → Read A
  refused : Refusal → Read A

infixr 15 ◌then◌
unfoldable pub ◌then◌ : {A B : Type 0} → Read A → (A → List ℕ → Read B) → Read B
got a rest then k = k a rest
refused r then k = refused r

-- refused where the test fails
abbrev pub unless : {A : Type 0} → Bool → Refusal → Read A → Read A
unless true r m = m
unless false r m = refused r

-- what stands in a table at n, or a refusal
unfoldable pub entry : {A B : Type 0} → List A → ℕ → Refusal → (A → Read B) → Read B
entry [] n r k = refused r
entry (a ∷ as') zero r k = k a
entry (a ∷ as') (suc n) r k = entry as' n r k

-- a byte; a number of two bytes
unfoldable pub read_byte : List ℕ → Read ℕ
read_byte [] = refused wrong_length
read_byte (b ∷ bs) = got b bs

unfoldable pub read_two : List ℕ → Read ℕ
read_two bs = read_byte bs then λ h bs. read_byte bs then λ l bs. got (h * 256 + l) bs

-- What a tag is followed by. Document 01's table of tags
pub data Sign : Type 0 where
  unit : Formula → Sign
  named : (ℕ → Formula) → Sign
  binary : (Formula → Formula → Formula) → Sign
  unary : (Formula → Formula) → Sign

abbrev pub signs : List Sign
signs =
    unit One
    ∷ unit Bottom
    ∷ unit Top
    ∷ unit Zero
    ∷ named Atom
    ∷ named NegAtom
    ∷ binary Tensor
    ∷ binary Par
    ∷ binary With
    ∷ binary Plus
    ∷ binary Lolli
    ∷ unary OfCourse
    ∷ unary WhyNot
    ∷ []

unfoldable pub read_parts : (List ℕ → Read Formula) → Sign → List ℕ → Read Formula
read_parts part (unit f) bs = got f bs
read_parts part (named f) bs = read_two bs then λ n bs. got (f n) bs
read_parts part (binary f) bs = part bs then λ a bs. part bs then λ b bs. got (f a b) bs
read_parts part (unary f) bs = part bs then λ a bs. got (f a) bs

-- a formula of at most so many levels: no byte 3, tag 4, height 5, cut number 3
unfoldable pub read_formula : (levels : ℕ) → List ℕ → Read Formula
read_formula zero bs = read_byte bs then λ t bs. entry signs t wrong_tag λ s. refused too_high
read_formula (suc levels) bs = read_byte bs then λ t bs. entry signs t wrong_tag λ s. read_parts (read_formula levels) s bs

abbrev pub highest_formula : ℕ
highest_formula = 64

-- formulas until the bytes end; each takes a byte, so there are at most as many as bytes
unfoldable pub read_formulas : (most : ℕ) → List ℕ → Read (List Formula)
read_formulas zero [] = got [] []
read_formulas zero (b ∷ bs) = refused wrong_length
read_formulas (suc most) [] = got [] []
read_formulas (suc most) (b ∷ bs) =
    read_formula highest_formula (b ∷ bs) then λ f rest. read_formulas most rest then λ fs end. got (f ∷ fs) end

abbrev pub read_all : List ℕ → Read (List Formula)
read_all bs = read_formulas (length bs) bs

-- so many bytes, as they stand
unfoldable pub read_bytes : ℕ → List ℕ → Read (List ℕ)
read_bytes n bs = unless (leb n (length bs)) wrong_length (got (take n bs) (drop n bs))

-- a zone's bytes: its length, and that many
unfoldable pub zone_bytes : List ℕ → Read (List ℕ)
zone_bytes bs = read_two bs then λ n bs. read_bytes n bs

-- nothing may be left over
unfoldable pub at_end : {A : Type 0} → A → List ℕ → Read A
at_end a [] = got a []
at_end a (b ∷ bs) = refused wrong_length

-- a message's body: fewer than three bytes 3, version 2, length 3
unfoldable pub read_message : List ℕ → Read (List ℕ)
read_message bs =
    unless (leb 3 (length bs)) wrong_length
    (read_byte bs then λ version bs.
    unless (eqb version 1) wrong_number
    (read_two bs then λ n body. unless (eqb (length body) n) wrong_length (got body [])))

abbrev pub most_formulas : ℕ
most_formulas = 31

-- kinds by number; 0 is none
abbrev pub kinds : List (Read (List Formula → List Formula → Question))
kinds = refused wrong_number ∷ got one_sided [] ∷ got two_sided [] ∷ []

-- a question: kind, both zones' lengths and what is left over, then the formulas in byte order, then 6
unfoldable pub read_question : List ℕ → Read Question
read_question bs =
    read_message bs then λ body _.
    read_byte body then λ k bs.
    entry kinds k wrong_number λ kind.
    kind then λ make _.
    zone_bytes bs then λ first bs.
    zone_bytes bs then λ second bs.
    at_end second bs then λ second _.
    read_all first then λ Γ _.
    read_all second then λ Δ _.
    unless (leb (length Γ + length Δ) most_formulas) too_many (got (make Γ Δ) [])

-- What a rule's number is followed by. Document 01's table of rules
pub data RuleForm : Type 0 where
  bare : Rule → RuleForm
  with_formula : (Formula → Rule) → RuleForm
  with_number : (ℕ → Rule) → RuleForm

abbrev pub rule_forms : List RuleForm
rule_forms =
    bare Axiom
    ∷ with_formula Cut
    ∷ bare OneIntro
    ∷ bare BottomIntro
    ∷ bare TensorIntro
    ∷ bare ParIntro
    ∷ bare TopIntro
    ∷ bare WithIntro
    ∷ bare PlusIntroLeft
    ∷ bare PlusIntroRight
    ∷ bare OfCourseIntro
    ∷ bare WhyNotIntro
    ∷ bare Weakening
    ∷ bare Contraction
    ∷ bare Dereliction
    ∷ with_number FocusPositive
    ∷ with_number FocusNegative
    ∷ bare Blur
    ∷ []

unfoldable pub read_argument : RuleForm → List ℕ → Read Rule
read_argument (bare r) bs = got r bs
read_argument (with_formula r) bs = read_formula highest_formula bs then λ c bs. got (r c) bs
read_argument (with_number r) bs = read_two bs then λ n bs. got (r n) bs

-- a zone of a node: its end, then its formulas
unfoldable pub read_zone : List ℕ → Read (List Formula)
read_zone bs = zone_bytes bs then λ zone bs. read_all zone then λ fs _. got fs bs

-- a node's own bytes before its premises: linear zone, unrestricted zone, 6, premise count
unfoldable pub read_sequent : List ℕ → Read Sequent
read_sequent bs =
    read_zone bs then λ Γ bs. read_zone bs then λ Θ bs. unless (leb (length Γ + length Θ) most_formulas) too_many (got (Γ ﹔ Θ) bs)

-- so many premises, one after another
unfoldable pub read_premises : (List ℕ → Read Tree) → ℕ → List ℕ → Read Trees
read_premises premise zero bs = got ∅ bs
read_premises premise (suc n) bs = premise bs then λ t bs. read_premises premise n bs then λ ts bs. got (t ▹ ts) bs

-- a node of at most so many levels: no byte 3, height 5, rule 2, argument, zones, 6, premise count 3; then its premises
unfoldable pub read_node : (levels : ℕ) → List ℕ → Read Tree
read_node zero bs = read_byte bs then λ r bs. refused too_high
read_node (suc levels) bs =
    read_byte bs then λ r bs.
    entry rule_forms r wrong_number λ form.
    read_argument form bs then λ rule bs.
    read_sequent bs then λ q bs.
    read_byte bs then λ n bs.
    read_premises (read_node levels) n bs then λ ps bs.
    got (node rule q ps) bs

abbrev pub highest_tree : ℕ
highest_tree = 65

unfoldable pub read_tree : List ℕ → Read Tree
read_tree bs = read_message bs then λ body _. read_node highest_tree body then λ t rest. at_end t rest

-- one formula as a whole slice: leftover bytes are 3
unfoldable pub read_one : List ℕ → Read Formula
read_one bs = read_formula highest_formula bs then λ f rest. at_end f rest
