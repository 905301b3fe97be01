-- Laws of the promises of `shorten` and `expand`: no second result could meet them; whatever expands is a tree that strict mode accepts, of the question; what was shortened expands to the same
-- bytes; whatever the search's rules build for the question shortens. Assumes nothing.
use Rattle.std.proofs.Math.Path.{◌≡◌, refl, ap, subst}
use Rattle.std.proofs.Common.{sym, ◌∙◌, ⊎_elim, arith}
use Rattle.std.specs.Prelude.{Ok, Err, Bool, ◌⊎◌, ℕ, ◌≤◌, ◌<◌, leb, take}
use Rattle.std.proofs.Math.Bool.{true, false, and-eq-true_iff}
use Rattle.std.proofs.Math.Logic.{inl, inr}
use mathlib.Core.List.{List, [], ◌++◌}
use borrow.Author.Tests.{leb-true}
use Rattle.std.proofs.Math.ListN.{length, drop}
use Rattle.std.proofs.Math.Seq.{take_at, drop_at}
use Rattle.logic.specs.Formula.{Formula}
use Rattle.logic.specs.Sequent.{Question, count, to_one_sided}
use Rattle.logic.specs.Tree.{
  Rule,
  Axiom,
  Cut,
  OneIntro,
  BottomIntro,
  TensorIntro,
  ParIntro,
  TopIntro,
  WithIntro,
  PlusIntroLeft,
  PlusIntroRight,
  OfCourseIntro,
  WhyNotIntro,
  Weakening,
  Contraction,
  Dereliction,
  FocusPositive,
  FocusNegative,
  Blur,
  Tree,
  Trees,
  node,
  ∅,
  ◌▹◌,
  depth,
}
use Rattle.logic.specs.Answer as answer
use Rattle.logic.specs.Held.{enter_question}
use Rattle.logic.specs.Built.{Built}
use Rattle.logic.proofs.Demand3.{good}
use Rattle.logic.proofs.ShapeFound.{found_verifies_strictly}
use Rattle.wire.specs.Write.{write_tree}
use Rattle.wire.specs.Read as wire
use Rattle.wire.specs.Fits.{Bytes, NodesFit, NodesFit*, NodesFew, NodesFew*}
use Rattle.wire.proofs.QuestionBytes.{write_read_question}
use Rattle.wire.proofs.TreeBytes.{read_write_tree, write_read_tree}
use Rattle.wire.proofs.FoundFits.{found_fits}
use Rattle.question.specs.Answers.{turned}
use Rattle.question.proofs.OneSidedLaws.{turned_fits}
use Rattle.failures.specs.AlikeLaws.{alike_of}
use Rattle.formula.specs.Answers.{coded}
use Rattle.formula.specs.declared.Refusal.TheVariants.{OutputShort}
use Rattle.memory.specs.Meaning.{holds}
use Rattle.memory.specs.SettledLaws.{image_once}
use Rattle.short.specs.Short.{Short, short, Shorts, □, ◌▸◌}
use Rattle.short.specs.Making.{Result, made, mismatch, refused}
use Rattle.short.proofs.StepsLaws.{built_more}
use Rattle.short.specs.Few.{Few, Few*}
use Rattle.short.proofs.ExpandLaws.{expand_builds, expand_few}
use Rattle.short.specs.Regular.{has_short, Regular, Regular*}
use Rattle.short.proofs.ShortenLaws.{shorten_expands, built_shortens, shortened_regular, shortened_height}
use Rattle.short.proofs.WalkedLaws.{expanded_depth, shortened_least}
use Rattle.short_bytes.specs.Write.{has_mask}
use Rattle.short_bytes.specs.Read.{read_short}
use Rattle.short_bytes.specs.Fits.{HasShort, MaskFits, ShortNodesFit, ShortNodesFit*, ShortFits}
use Rattle.short_bytes.proofs.ShortBytes.{read_write_short, write_read_short}
use Rattle.short_trees.specs.Promise.{Answer}
use Rattle.short_trees.specs.declared.Failure.TheVariants.{Refused}
use Rattle.short_trees.specs.Promise.{
  Call,
  Left,
  unchanged,
  limits,
  Form,
  writable,
  answered,
  output_after,
  Settled,
  result,
  Promise,
  memory_refused,
  question_refused,
  question_over,
  message_refused,
  message_taken,
  expanding,
  shortening,
  Expands,
  Shortens,
}
use Rattle.short_trees.specs.Claims as claims
use Rattle.short_trees.specs.Claims.{SameResult, NoRoom, held_full, output_short, wrong_memory, TreeExpanded, TreeShortened, Restored, restored, MadeOrNoRoom}

-- ---- no second result

both : {x left left' : Left} → left ≡ x → left' ≡ x → SameResult left left'
both e e' = record { same_answer = rw (e, e'); same_memory = rw (e, e'); same_output = rw (e, e') }

module _ {A B : Type 0} (form : Form A B) where
  settled_once : {call : Call} {x : Result B × List Formula} {left left' : Left} → Settled form call x left → Settled form call x left' → SameResult left left'
  settled_once a b =
      record {
        same_answer = a.answer_is ∙ sym b.answer_is;
        same_memory = image_once _ _ a.memory_formed b.memory_formed (a.formulas_are ∙ sym b.formulas_are) (alike_of (a.failures_are ∙ sym b.failures_are));
        same_output = a.output_is ∙ sym b.output_is;
      }

-- what is read is read once
got_once : {C : Type 0} {m : wire.Read C} {a b : C} → m ≡ wire.got a [] → m ≡ wire.got b [] → a ≡ b
got_once e e' = cc

refused_once : {C : Type 0} {m : wire.Read C} {k j : answer.Refusal} → m ≡ wire.refused k → m ≡ wire.refused j → k ≡ j
refused_once e e' = cc

got_or_refused : {C : Type 0} {m : wire.Read C} {a : C} {k : answer.Refusal} → m ≡ wire.got a [] → m ≡ wire.refused k → ⊥
got_or_refused e e' = let z : ◌≡◌ {A = ℕ} 0 1 = cc in absurd (omega arith)

-- the question is one
length_once : (call : Call) {q q' : Question} → wire.read_question call.question ≡ wire.got q [] → wire.read_question call.question ≡ wire.got q' []
    → length (enter_question q (holds call.memory)) ≤ 2048 → 2048 < length (enter_question q' (holds call.memory)) → ⊥
length_once call r r' few over = let same = got_once r r' in omega (arith, few, subst (λ q. 2048 < length (enter_question q (holds call.memory))) (sym same) over)

module _ {A B : Type 0} (form : Form A B) {call : Call} where
  pub no_second : {left left' : Left} → Promise form call left → Promise form call left' → SameResult left left'
  no_second (memory_refused n e) (memory_refused n' e') = both e e'
  no_second (memory_refused n e) (question_refused w k r e') = absurd (n w)
  no_second (memory_refused n e) (question_over w q r h e') = absurd (n w)
  no_second (memory_refused n e) (message_refused w q r h k m e') = absurd (n w)
  no_second (memory_refused n e) (message_taken w q r h a m z) = absurd (n w)
  no_second (question_refused w k r e) (memory_refused n e') = absurd (n w)
  no_second (question_refused w k r e) (question_refused w' k' r' e') = both e (e' ∙ ap (λ j. unchanged j call) (sym (refused_once r r')))
  no_second (question_refused w k r e) (question_over w' q r' h e') = absurd (got_or_refused r' r)
  no_second (question_refused w k r e) (message_refused w' q r' h k' m e') = absurd (got_or_refused r' r)
  no_second (question_refused w k r e) (message_taken w' q r' h a m z) = absurd (got_or_refused r' r)
  no_second (question_over w q r h e) (memory_refused n e') = absurd (n w)
  no_second (question_over w q r h e) (question_refused w' k r' e') = absurd (got_or_refused r r')
  no_second (question_over w q r h e) (question_over w' q' r' h' e') = both e e'
  no_second (question_over w q r h e) (message_refused w' q' r' h' k m e') = absurd (length_once call r' r h' h)
  no_second (question_over w q r h e) (message_taken w' q' r' h' a m z) = absurd (length_once call r' r h' h)
  no_second (message_refused w q r h k m e) (memory_refused n e') = absurd (n w)
  no_second (message_refused w q r h k m e) (question_refused w' k' r' e') = absurd (got_or_refused r r')
  no_second (message_refused w q r h k m e) (question_over w' q' r' h' e') = absurd (length_once call r r' h h')
  no_second (message_refused w q r h k m e) (message_refused w' q' r' h' k' m' e') = both e (e' ∙ ap (λ j. unchanged j call) (sym (refused_once m m')))
  no_second (message_refused w q r h k m e) (message_taken w' q' r' h' a m' z) = absurd (got_or_refused m' m)
  no_second (message_taken w q r h a m z) (memory_refused n e') = absurd (n w)
  no_second (message_taken w q r h a m z) (question_refused w' k r' e') = absurd (got_or_refused r r')
  no_second (message_taken w q r h a m z) (question_over w' q' r' h' e') = absurd (length_once call r r' h h')
  no_second (message_taken w q r h a m z) (message_refused w' q' r' h' k m' e') = absurd (got_or_refused m m')
  no_second {left} {left'} (message_taken w q r h a m z) (message_taken w' q' r' h' a' m' z') =
      settled_once form z (subst (λ p. Settled form call (result form call p a) left') (sym (got_once r r')) (subst (λ b. Settled form call (result form call q' b) left') (sym (got_once m m')) z'))

-- ---- something written

module _ {A B : Type 0} (form : Form A B) where
  -- what stands in the output where something was written
  record Wrote (b : B) (out : List ℕ) (n : ℕ) (out' : List ℕ) : Type 0 where
    bytes_are : n ≡ length (form.write b)
    short : length (form.body b) ≤ 65535
    front : take n out' ≡ form.write b
    behind : drop n out' ≡ drop n out

  wrote_made : (b : B) (out : List ℕ) {n : ℕ} {out' : List ℕ} → Ok n ≡ answered form (made b) out → out' ≡ output_after form (made b) out → Wrote b out n out'
  unfolding answered output_after
  wrote_made b out {n} {out'} e f = go (writable form b out) refl e f
    where
      go : (t : Bool) → writable form b out ≡ t
          → Ok n ≡ elim t as (λ _. Answer) [ true ↦ Ok (length (form.write b)) | false ↦ Err (Refused OutputShort) ]
          → out' ≡ elim t as (λ _. List ℕ) [ true ↦ form.write b ++ drop (length (form.write b)) out | false ↦ out ] → Wrote b out n out'
      go true t e f =
          let size : n ≡ length (form.write b) = cc in
          record {
            bytes_are = size;
            short = leb-true _ _ ((and-eq-true_iff (leb (length (form.body b)) 65535) (leb (length (form.write b)) (length out))).0 t).0;
            front = ap (take n) f ∙ take_at (form.write b) _ n (sym size);
            behind = ap (drop n) f ∙ drop_at (form.write b) _ n (sym size) ∙ ap (λ k. drop k out) (sym size);
          }
      go false t e f = let z : ◌≡◌ {A = ℕ} 0 1 = cc in absurd (omega arith)

  record WroteSome (x : Result B) (out : List ℕ) (n : ℕ) (out' : List ℕ) : Type 0 where
    value : B
    is : x ≡ made value
    wrote : Wrote value out n out'

  wrote_some : (x : Result B) (out : List ℕ) {n : ℕ} {out' : List ℕ} → Ok n ≡ answered form x out → out' ≡ output_after form x out → WroteSome x out n out'
  unfolding answered
  wrote_some (made b) out e f = record { value = b; is = refl; wrote = wrote_made b out e f }
  wrote_some mismatch out e f = let z : ◌≡◌ {A = ℕ} 0 1 = cc in absurd (omega arith)
  wrote_some (refused k) out e f = let z : ◌≡◌ {A = ℕ} 0 1 = cc in absurd (omega arith)

  -- the case of the promise in which something is written
  record TakenAs (call : Call) (n : ℕ) (left : Left) : Type 0 where
    question : Question
    read : wire.read_question call.question ≡ wire.got question []
    value : A
    message_read : form.read call.message ≡ wire.got value []
    some : WroteSome (result form call question value).0 call.output n left.output

  unwritten : (call : Call) (k : answer.Refusal) {left : Left} {n : ℕ} → left ≡ unchanged k call → left.answer ≡ Ok n → ⊥
  unwritten call k e h = let w : Err (Refused (coded k)) ≡ Ok _ = sym (ap (λ l. l.answer) e) ∙ h in let z : ◌≡◌ {A = ℕ} 0 1 = cc in omega arith

  taken_as : {call : Call} {left : Left} {n : ℕ} → Promise form call left → left.answer ≡ Ok n → TakenAs call n left
  taken_as {call} (memory_refused m e) h = absurd (unwritten call _ e h)
  taken_as {call} (question_refused w k r e) h = absurd (unwritten call _ e h)
  taken_as {call} (question_over w q r o e) h = absurd (unwritten call _ e h)
  taken_as {call} (message_refused w q r o k m e) h = absurd (unwritten call _ e h)
  taken_as {call} (message_taken w q r o a m z) h = record { question = q; read = r; value = a; message_read = m; some = wrote_some _ call.output (sym h ∙ z.answer_is) z.output_is }

-- ---- few formulas at each node

mutual
  few_nodes : (t : Tree) → Few t → NodesFew t
  few_nodes (node r q ts) f = (f.0, few_nodes* ts f.1)

  few_nodes* : (ts : Trees) → Few* ts → NodesFew* ts
  few_nodes* ∅ f = tt
  few_nodes* (t ▹ ts) f = (few_nodes t f.0, few_nodes* ts f.1)

mutual
  fit_few : (t : Tree) → NodesFit t → Few t
  fit_few (node r q ts) f = (f.0.zones_fit.few_formulas, fit_few* ts f.1)

  fit_few* : (ts : Trees) → NodesFit* ts → Few* ts
  fit_few* ∅ f = tt
  fit_few* (t ▹ ts) f = (fit_few t f.0, fit_few* ts f.1)

-- ---- whatever expands

-- a question that was read has at most 31 formulas, one-sided too
question_few : {s : List ℕ} (bytes : Bytes s) {q : Question} → wire.read_question s ≡ wire.got q [] → count (to_one_sided q) ≤ 31
unfolding turned
question_few {s} bytes {q} e = (turned_fits q (write_read_question s q [] bytes e).fits).zones_fit.few_formulas

pub tree_expanded : {call : Call} {left : Left} {n : ℕ} → Bytes call.question → Bytes call.message → Expands call left → left.answer ≡ Ok n → TreeExpanded call n left
unfolding turned
tree_expanded {call} {left} {n} b b' p h =
    let x = taken_as expanding p h in
    let q = x.question in
    let s = x.value in
    let t = x.some.value in
    let w = x.some.wrote in
    let fits = (write_read_short call.message s [] b' x.message_read).fits in
    let low : depth t ≤ 65 = omega (arith, expanded_depth limits s (to_one_sided q) _ x.some.is, fits.height_fits) in
    let built : Built 65 (to_one_sided q) t = built_more 65 low (expand_builds limits s (to_one_sided q) _ x.some.is) in
    let few : NodesFew t = few_nodes t (expand_few 0 s (to_one_sided q) _ (question_few b x.read) x.some.is) in
    let zones = (turned_fits q (write_read_question call.question q [] b x.read).fits).zones_fit in
    let tree_fits = found_fits built zones.first_fits.formulas_fit zones.second_fits.formulas_fit few (omega arith) w.short in
    record {
      question = q;
      read = x.read;
      tree = t;
      written = w.front;
      behind = w.behind;
      reads_back = ap wire.read_tree w.front ∙ read_write_tree t tree_fits;
      strictly = found_verifies_strictly built;
      sound = good built;
    }

-- ---- whatever shortens

-- a rule with a short form, and its mask
short_rule : (r : Rule) → has_short r ≡ true → HasShort r
unfolding has_short
short_rule Axiom e = tt
short_rule OneIntro e = tt
short_rule BottomIntro e = tt
short_rule TensorIntro e = tt
short_rule ParIntro e = tt
short_rule TopIntro e = tt
short_rule WithIntro e = tt
short_rule PlusIntroLeft e = tt
short_rule PlusIntroRight e = tt
short_rule OfCourseIntro e = tt
short_rule WhyNotIntro e = tt
short_rule Weakening e = tt
short_rule Contraction e = tt
short_rule Dereliction e = tt
short_rule (Cut c) e = let z : ◌≡◌ {A = ℕ} 0 1 = cc in absurd (omega arith)
short_rule (FocusPositive i) e = let z : ◌≡◌ {A = ℕ} 0 1 = cc in absurd (omega arith)
short_rule (FocusNegative i) e = let z : ◌≡◌ {A = ℕ} 0 1 = cc in absurd (omega arith)
short_rule Blur e = let z : ◌≡◌ {A = ℕ} 0 1 = cc in absurd (omega arith)

mask_fits : (r : Rule) (mask : ℕ) → mask < 2147483648 → (r ≡ TensorIntro) ⊎ (mask ≡ 0) → MaskFits (has_mask r) mask
unfolding has_mask
mask_fits r mask low used = ⊎_elim (λ e. subst (λ x. MaskFits (has_mask x) mask) (sym e) (omega arith)) (λ e. none (has_mask r) e) used
  where
    none : (b : Bool) → mask ≡ 0 → MaskFits b mask
    none true e = omega arith
    none false e = e

mutual
  regular_fits : (s : Short) → Regular s → ShortNodesFit s
  regular_fits (short r i mask ss) h =
      (record { rule_short = short_rule r h.0.form; place_fits = omega (arith, h.0.place_low); mask_fits = mask_fits r mask h.0.mask_low h.0.mask_used; premises_follow = h.0.premises }, regular_fits* ss h.1)

  regular_fits* : (ss : Shorts) → Regular* ss → ShortNodesFit* ss
  regular_fits* □ h = tt
  regular_fits* (s ▸ ss) h = (regular_fits s h.0, regular_fits* ss h.1)

-- a short tree that was written reads back
record ShortThere (call : Call) (n : ℕ) (left : Left) : Type 0 where
  taken : TakenAs shortening call n left
  reads : read_short (take n left.output) ≡ wire.got taken.some.value []
  few : Few taken.value

short_there : {call : Call} {left : Left} {n : ℕ} → Bytes call.message → Shortens call left → left.answer ≡ Ok n → ShortThere call n left
short_there {call} {left} {n} b p h =
    let x = taken_as shortening p h in
    let t = x.value in
    let s = x.some.value in
    let tree_fits = (write_read_tree call.message t [] b x.message_read).fits in
    let few = fit_few t tree_fits.nodes_fit in
    let fits : ShortFits s = record {
      nodes_fit = regular_fits s (shortened_regular limits t (to_one_sided x.question) _ few x.some.is);
      height_fits = omega (arith, shortened_height limits t (to_one_sided x.question) _ x.some.is, tree_fits.depth_fits);
      body_short = x.some.wrote.short;
    } in
    record { taken = x; reads = ap read_short x.some.wrote.front ∙ read_write_short s fits; few = few }

pub tree_shortened : {call : Call} {left : Left} {n : ℕ} → Bytes call.message → Shortens call left → left.answer ≡ Ok n → TreeShortened call n left
tree_shortened {call} {left} {n} b p h =
    let y = short_there b p h in
    let x = y.taken in
    record {
      tree = x.value;
      read = x.message_read;
      short_tree = x.some.value;
      written = x.some.wrote.front;
      behind = x.some.wrote.behind;
      reads_back = y.reads;
      least = shortened_least limits x.value (to_one_sided x.question) _ x.some.is;
    }

-- ---- what has no room

-- the answer to a result that is written or too long; and to 7
module _ {A B : Type 0} (form : Form A B) where
  made_answer : (b : B) (out : List ℕ) {r : Answer} {out' : List ℕ} → r ≡ answered form (made b) out → out' ≡ output_after form (made b) out
      → ((r ≡ Ok (length (form.write b))) × (take (length (form.write b)) out' ≡ form.write b)) ⊎ NoRoom r
  unfolding answered output_after
  made_answer b out {r} {out'} e f = go (writable form b out) e f
    where
      go : (t : Bool) → r ≡ elim t as (λ _. Answer) [ true ↦ Ok (length (form.write b)) | false ↦ Err (Refused OutputShort) ]
          → out' ≡ elim t as (λ _. List ℕ) [ true ↦ form.write b ++ drop (length (form.write b)) out | false ↦ out ]
          → ((r ≡ Ok (length (form.write b))) × (take (length (form.write b)) out' ≡ form.write b)) ⊎ NoRoom r
      go true e f = inl (e, ap (take (length (form.write b))) f ∙ take_at (form.write b) _ _ refl)
      go false e f = inr (subst NoRoom (sym e) output_short)

  full_answer : (out : List ℕ) {r : Answer} → r ≡ answered form (refused answer.held_full) out → NoRoom r
  unfolding answered coded
  full_answer out e = subst NoRoom (sym e) held_full

  -- a result that is this value or 7, whatever is held
  made_or_full : {x : Result B} (b : B) (out : List ℕ) {r : Answer} {out' : List ℕ} → (x ≡ made b) ⊎ (x ≡ refused answer.held_full) → r ≡ answered form x out → out' ≡ output_after form x out
      → ((r ≡ Ok (length (form.write b))) × (take (length (form.write b)) out' ≡ form.write b)) ⊎ NoRoom r
  made_or_full {x} b out {r} {out'} c e f =
      ⊎_elim (λ h. made_answer b out (e ∙ ap (λ y. answered form y out) h) (f ∙ ap (λ y. output_after form y out) h)) (λ h. inr (full_answer out (e ∙ ap (λ y. answered form y out) h))) c

  -- the ways in which a call ends whose question and message can be read, where the message's result is this value or 7
  ways : {call : Call} {left : Left} {q : Question} {a : A} (b : B) → wire.read_question call.question ≡ wire.got q [] → form.read call.message ≡ wire.got a []
      → ((fs : List Formula) → ((form.make a (to_one_sided q) fs).0 ≡ made b) ⊎ ((form.make a (to_one_sided q) fs).0 ≡ refused answer.held_full)) → Promise form call left
      → ((left.answer ≡ Ok (length (form.write b))) × (take (length (form.write b)) left.output ≡ form.write b)) ⊎ NoRoom left.answer
  unfolding coded
  ways b r m c (memory_refused n e) = inr (subst NoRoom (sym (ap (λ l. l.answer) e)) wrong_memory)
  ways b r m c (question_refused w k r' e) = absurd (got_or_refused r r')
  ways b r m c (question_over w q r' h e) = inr (subst NoRoom (sym (ap (λ l. l.answer) e)) held_full)
  ways b r m c (message_refused w q r' h k m' e) = absurd (got_or_refused m m')
  ways {call} {left} {q} {a} b r m c (message_taken w q' r' h a' m' z) =
      let same : result form call q' a' ≡ result form call q a = ap (λ p. result form call p a') (got_once r' r) ∙ ap (result form call q) (got_once m' m) in
      made_or_full b call.output (c _) (z.answer_is ∙ ap (λ y. answered form y.0 call.output) same) (z.output_is ∙ ap (λ y. output_after form y.0 call.output) same)

-- what was shortened expands to the same bytes
pub shortened_expands : {call call' : Call} {left left' : Left} {n : ℕ} → Bytes call.message → Shortens call left → left.answer ≡ Ok n
    → call'.question ≡ call.question → call'.message ≡ take n left.output → Expands call' left' → Restored call.message left'
shortened_expands {call} {call'} {left} {left'} {n} b p h eq em p' =
    let y = short_there b p h in
    let x = y.taken in
    let t = x.value in
    let bytes : write_tree t ≡ call.message = (write_read_tree call.message t [] b x.message_read).bytes_are in
    let end = ways expanding t (ap wire.read_question eq ∙ x.read) (ap read_short em ∙ y.reads) (shorten_expands 0 t (to_one_sided x.question) _ y.few x.some.is) p' in
    ⊎_elim
    (λ w. restored (w.0 ∙ ap (λ l. Ok (length l)) bytes) (subst (λ l. take (length l) left'.output ≡ l) bytes w.1))
    (λ w. claims.not_restored w)
    end

-- whatever the search's rules build for the question shortens
pub built_shortened : {call : Call} {left : Left} {q : Question} {t : Tree} {n : ℕ} → wire.read_question call.question ≡ wire.got q [] → wire.read_tree call.message ≡ wire.got t []
    → Built n (to_one_sided q) t → Shortens call left → MadeOrNoRoom left
built_shortened {call} {left} {q} {t} {n} r m d p =
    let s = built_shortens limits d in
    ⊎_elim (λ w. claims.made _ w.0) (λ w. claims.not_made w) (ways shortening s.short_tree r m s.makes.outcome p)
