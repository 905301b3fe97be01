-- Laws of `Walks`: what a node's own test and its premises, one after another, make of the walk. Assumes nothing.
use Rattle.std.proofs.Math.Path.{◌≡◌, refl, sym, ap, subst}
use Rattle.std.proofs.Common.{◌∙◌, add-one, length-append}
use Rattle.std.specs.Prelude as code
use Rattle.std.specs.Prelude.{Some, None, Result, Ok, Err, Bool, List, ◌∷◌}
use Rattle.std.proofs.lemmas.Option.{same_Some}
use Rattle.std.proofs.Math.Bool.{true, false}
use Rattle.std.proofs.Math.Option.{Option, none, some}
use Prim.Native.Nat.{ℕ, suc, ◌+◌, ◌-◌, ◌≤◌, ◌<◌}
use native.Mathlib.Omega.{arith}
use Rattle.std.proofs.Math.ListN.{length}
use Rattle.logic.specs.Sequent.{Sequent}
use Rattle.logic.specs.Tree.{Rule, Tree, Trees, node, ∅, ◌▹◌, depth, depths, nodes, nodes*, premise_count}
use Rattle.logic.specs.Verify as logic
use Rattle.logic.specs.Verify.{need, shape_fault, own_verdict, first_verdict, verify_from, verify_premises}
use Rattle.logic.specs.Strict.{or_fault, strict_fault}
use Rattle.wire.specs.Write.{two_bytes, write_node, write_nodes, write_tree, message}
use Rattle.wire.specs.Read.{Read, got, refused, read_tree, highest_tree}
use Rattle.wire.specs.Fits.{Bytes, NodesFit, NodesFit*, TreeBack}
use Rattle.wire.proofs.TreeBytes.{write_read_tree}
use Rattle.formula.specs.declared.Refusal.{Refusal}
use Rattle.tree.specs.Answers.{tree_read}
use Rattle.tree.specs.Stands.{Stands}
use Rattle.tree.specs.StandsLaws.{stands_left, stands_right, stands_behind}
use Rattle.tree.specs.Places.{rule_number, NodeFound}
use Rattle.tree.specs.PlacesLaws.{node_long}
use Rattle.tree.specs.ReadingLaws.{tree_refused}
use Rattle.bags.specs.Runs.{Short}
use Rattle.strict.specs.Steps.{LegalStep}
use Rattle.tree.specs.declared.Node.{Node}
use Rattle.tree.specs.declared.Subtree.{Subtree}
use Rattle.verify.specs.Verdicts.{fault_of, rejected_of, verdict_of, told, walk_of, checked}
use Rattle.verify.specs.Shapes.{ShapeFault}
use Rattle.verify.specs.Walks.{WalkWithin, mode_test, Faulted, Walk, PremisesWalk}
use Rattle.verify.specs.declared.Fault.{Fault}
use Rattle.verify.specs.declared.Fault.TheVariants as fault
use Rattle.verify.specs.declared.Rejected.{Rejected}
use Rattle.verify.specs.declared.Rejected.TheVariants as rejected
use Rattle.verify.specs.declared.Passed.{Passed}

-- ---- the fault at a node, in both modes

fault_none : (o : Option logic.Fault) → fault_of o ≡ None → o ≡ none
unfolding fault_of
fault_none none e = refl
fault_none (some logic.invalid_rule) e = cc
fault_none (some (logic.wrong_premise_count expected given)) e = cc
fault_none (some logic.context_mismatch) e = cc

module _ {s : List ℕ} {n : Node} {x : code.Option Fault} (shape : ShapeFault s n x) where
  -- shape mode's comes first
  pub fault_first : (is_strict : Bool) → (x ≡ None → ⊥) → Faulted (mode_test is_strict) s n x
  unfolding mode_test strict_fault fault_of
  fault_first false h = record { is = λ r q ps is fits. shape.is r q ps is }
  fault_first true h = record { is = λ r q ps is fits. go (shape_fault r q (premise_count ps)) _ (shape.is r q ps is) }
    where
      go : (o g : Option logic.Fault) → x ≡ fault_of o → x ≡ fault_of (or_fault o g)
      go none g e = absurd (h e)
      go (some f) g e = e

  module _ (passed : x ≡ None) {is_strict : Bool} where
    pub fault_shape : is_strict ≡ false → Faulted (mode_test is_strict) s n None
    unfolding mode_test
    fault_shape e = rw e (record { is = λ r q ps is fits. sym passed ∙ shape.is r q ps is })

    -- in strict mode, where there is none, the step decides
    module _ (mode : is_strict ≡ true) {b : Bool} (step : LegalStep s n b) where
      fault_step : Faulted (mode_test is_strict) s n (fault_of (need b logic.context_mismatch none))
      unfolding mode_test strict_fault
      fault_step = rw mode (record {
        is = λ r q ps is fits.
            let no_fault = fault_none (shape_fault r q (premise_count ps)) (sym (shape.is r q ps is) ∙ passed) in
            rw (no_fault, ← step.right r q ps is fits no_fault) refl;
      })

      pub fault_mismatch : b ≡ false → Faulted (mode_test is_strict) s n (Some fault.Mismatch)
      unfolding fault_of
      fault_mismatch e = rw e at fault_step

      pub fault_legal : b ≡ true → Faulted (mode_test is_strict) s n None
      unfolding fault_of
      fault_legal e = rw e at fault_step

-- ---- a node

depth_positive : (t : Tree) → 1 ≤ depth t
unfolding depth
depth_positive (node r q ps) = omega arith

-- a fault is told of its node
fault_told : {x : Fault} (r : Rule) {m : ℕ} (number wrappers : ℕ) → (o : Option logic.Fault) → m ≡ rule_number r → Some x ≡ fault_of o → (below : logic.Verdict) (end all : ℕ) → Err (told x m number wrappers) ≡ walk_of (own_verdict r number wrappers o below) end all
unfolding fault_of told rejected_of walk_of
fault_told r number wrappers none k e below end all = cc
fault_told r number wrappers (some logic.invalid_rule) k e below end all = let f = same_Some _ _ e in rw (f, k)
fault_told r number wrappers (some (logic.wrong_premise_count expected given)) k e below end all = let f = same_Some _ _ e in rw (f, k)
fault_told r number wrappers (some logic.context_mismatch) k e below end all = let f = same_Some _ _ e in rw (f, k)

module _ (test : Rule → Sequent → Trees → Option logic.Fault) (s : List ℕ) (at levels number wrappers : ℕ) (inside : at ≤ length s) (few : number ≤ at) where
  -- no level is left, or no byte: no tree stands there
  pub walk_no_level : levels ≡ 0 → Walk test s at levels number wrappers (Ok (record { next = at; number = number }))
  walk_no_level e = record { within = (inside, few); is = λ t there fits low. absurd (omega (arith, depth_positive t)) }

  pub walk_no_byte : at ≡ length s → Walk test s at levels number wrappers (Ok (record { next = at; number = number }))
  walk_no_byte e = record { within = (inside, few); is = λ t there fits low. absurd (omega (arith, node_long t, there.inside)) }

  module _ (n : Node) (found : NodeFound s at n) {x : code.Option Fault} (tested : Faulted test s n x) where
    -- the fault, on the tree that stands there
    fault_is : (r : Rule) (q : Sequent) (ps : Trees) → Stands s at (write_node (node r q ps)) → NodesFit (node r q ps) → x ≡ fault_of (test r q ps)
    fault_is r q ps there fits = tested.is r q ps (found.is r q ps there fits.0) fits.1

    rule_is : (r : Rule) (q : Sequent) (ps : Trees) → Stands s at (write_node (node r q ps)) → NodesFit (node r q ps) → n.rule ≡ rule_number r
    rule_is r q ps there fits = (found.is r q ps there fits.0).rule_is

    -- a node whose own test finds a fault
    pub walk_failed : {f : Fault} → x ≡ Some f → Walk test s at levels number wrappers (Err (told f n.rule number wrappers))
    unfolding verify_from walk_of
    walk_failed {f} e = record { within = tt; is = by_node }
      where
        by_node : (t : Tree) → Stands s at (write_node t) → NodesFit t → depth t ≤ levels → Err (told f n.rule number wrappers) ≡ walk_of (verify_from test t number wrappers) (at + length (write_node t)) (number + nodes t)
        by_node (node r q ps) there fits low =
            fault_told r number wrappers (test r q ps) (rule_is r q ps there fits) (sym e ∙ fault_is r q ps there fits) _ (at + length (write_node (node r q ps))) (number + nodes (node r q ps))

    -- a node that passes its own test: its premises decide
    pub walk_premises : x ≡ None → 0 < levels → {w : Result Passed Rejected} → PremisesWalk test s n.next n.premises (levels - 1) (number + 1) (wrappers + 1) w → Walk test s at levels number wrappers w
    unfolding verify_from fault_of depth nodes
    walk_premises e level {w} p = record { within = p.within; is = by_node }
      where
        by_fault : (r : Rule) (o : Option logic.Fault) (rest : logic.Verdict) → x ≡ fault_of o → own_verdict r number wrappers o rest ≡ rest
        by_fault r o rest e₂ = ap (λ o. own_verdict r number wrappers o rest) (fault_none o (sym e₂ ∙ e))

        by_node : (t : Tree) → Stands s at (write_node t) → NodesFit t → depth t ≤ levels → w ≡ walk_of (verify_from test t number wrappers) (at + length (write_node t)) (number + nodes t)
        by_node (node r q ps) there fits low =
            let is = found.is r q ps there fits.0 in
            let below : w ≡ walk_of (verify_premises test ps (number + 1) (wrappers + 1)) (n.next + length (write_nodes ps)) (number + 1 + nodes* ps) =
            p.is ps is.premises_are fits.1 (omega arith) (sym is.count_is)
            in
            let k : number + 1 + nodes* ps ≡ number + suc (nodes* ps) = omega arith in
            below
            ∙ rw (by_fault r (test r q ps) (verify_premises test ps (suc number) (suc wrappers)) (fault_is r q ps there fits), found.ends r q ps there fits.0, k, add-one number, add-one wrappers)

-- ---- premises, one after another

-- the trees that are left from p on
pub record Left (test : Rule → Sequent → Trees → Option logic.Fault) (s : List ℕ) (levels wrappers left p m : ℕ) (verdict : logic.Verdict) (end all : ℕ) : Type 0 where
  pub trees : Trees
  pub stands : Stands s p (write_nodes trees)
  pub fit : NodesFit* trees
  pub low : depths trees ≤ levels
  pub count_is : premise_count trees ≡ left
  pub same : verdict ≡ verify_premises test trees m wrappers
  pub ends : p + length (write_nodes trees) ≡ end
  pub numbered : m + nodes* trees ≡ all

-- the first of those left passed
record Over (test : Rule → Sequent → Trees → Option logic.Fault) (p m wrappers next number : ℕ) (t : Tree) (ts : Trees) : Type 0 where
  next_is : next ≡ p + length (write_node t)
  number_is : number ≡ m + nodes t
  same : verify_premises test (t ▹ ts) m wrappers ≡ verify_premises test ts (m + nodes t) wrappers

module _ (test : Rule → Sequent → Trees → Option logic.Fault) (s : List ℕ) (at count levels number wrappers : ℕ) where
  pub record Walking (left p m : ℕ) : Type 0 where
    pub inside : p ≤ length s
    pub few : m ≤ p
    pub remain : (ts : Trees) → Stands s at (write_nodes ts) → NodesFit* ts → depths ts ≤ levels → premise_count ts ≡ count → Left test s levels wrappers left p m (verify_premises test ts number wrappers) (at + length (write_nodes ts)) (number + nodes* ts)

  pub walking_start : at ≤ length s → number ≤ at → Walking count at number
  walking_start h k =
      record { inside = h; few = k; remain = λ ts there fits low e. record { trees = ts; stands = there; fit = fits; low = low; count_is = e; same = refl; ends = refl; numbered = refl } }

  module _ {left p m : ℕ} (k : Walking left p m) where
    pub walking_end : left ≡ 0 → PremisesWalk test s at count levels number wrappers (Ok (record { next = p; number = m }))
    unfolding walk_of verify_from premise_count write_nodes nodes
    walking_end e = record { within = (k.inside, k.few); is = λ ts there fits low e'. let l = k.remain ts there fits low e' in none_left l.trees (l.count_is ∙ e) l.same l.ends l.numbered }
      where
        none_left : (us : Trees) {v : logic.Verdict} {end all : ℕ} → premise_count us ≡ 0 → v ≡ verify_premises test us m wrappers → p + length (write_nodes us) ≡ end → m + nodes* us ≡ all → Ok (record { next = p; number = m }) ≡ walk_of v end all
        none_left ∅ {v} {end} {all} e₁ e₂ e₃ e₄ =
            let a : p ≡ end = omega arith in
            let b : m ≡ all = omega arith in
            rw (e₂, a, b) refl
        none_left (t ▹ ts) e₁ e₂ e₃ e₄ = absurd (omega arith)

    module _ (more : 0 < left) {x : Result Passed Rejected} (w : Walk test s p levels m wrappers x) where
      -- what the first of those left made of the walk
      first_is : (t : Tree) (ts : Trees) → Stands s p (write_nodes (t ▹ ts)) → NodesFit* (t ▹ ts) → depths (t ▹ ts) ≤ levels → x ≡ walk_of (verify_from test t m wrappers) (p + length (write_node t)) (m + nodes t)
      unfolding write_nodes depths
      first_is t ts there fits low = w.is t (stands_left (write_node t) (write_nodes ts) there) fits.0 (omega arith)

      pub walking_failed : {v : Rejected} → x ≡ Err v → PremisesWalk test s at count levels number wrappers (Err v)
      unfolding walk_of verify_from premise_count
      walking_failed {v} e = record { within = tt; is = λ ts there fits low e'. let l = k.remain ts there fits low e' in go l.trees (at + length (write_nodes ts)) (number + nodes* ts) l.stands l.fit l.low l.count_is l.same }
        where
          by_first : (a b : logic.Verdict) (next all next' all' : ℕ) → Err v ≡ walk_of a next all → Err v ≡ walk_of (first_verdict a b) next' all'
          by_first logic.accepted b next all next' all' e = cc
          by_first (logic.rejected r n w f) b next all next' all' e = e

          go : (us : Trees) (end all : ℕ) {c : logic.Verdict} → Stands s p (write_nodes us) → NodesFit* us → depths us ≤ levels → premise_count us ≡ left → c ≡ verify_premises test us m wrappers → Err v ≡ walk_of c end all
          go ∅ end all there fits low count same = absurd (omega arith)
          go (t ▹ ts) end all {c} there fits low count same =
              rw same (by_first (verify_from test t m wrappers) (verify_premises test ts (m + nodes t) wrappers) (p + length (write_node t)) (m + nodes t) end all (sym e ∙ first_is t ts there fits low))

      pub walking_next : {q : Passed} → x ≡ Ok q → Walking (left - 1) q.next q.number
      unfolding walk_of verify_from premise_count write_nodes nodes depths
      walking_next {q} e =
          let within : WalkWithin (length s) (Ok q) = subst (WalkWithin (length s)) e w.within in
          record { inside = within.0; few = within.1; remain = λ ts there fits low e'. let l = k.remain ts there fits low e' in go l.trees l.stands l.fit l.low l.count_is l.same l.ends l.numbered }
        where
          by_first : (t : Tree) (ts : Trees) (a : logic.Verdict) → verify_from test t m wrappers ≡ a → Ok q ≡ walk_of a (p + length (write_node t)) (m + nodes t) → Over test p m wrappers q.next q.number t ts
          by_first t ts logic.accepted e₁ e₂ = record { next_is = cc; number_is = cc; same = rw e₁ }
          by_first t ts (logic.rejected r n w f) e₁ e₂ = absurd cc

          go : (us : Trees) {c : logic.Verdict} {end all : ℕ} → Stands s p (write_nodes us) → NodesFit* us → depths us ≤ levels → premise_count us ≡ left → c ≡ verify_premises test us m wrappers → p + length (write_nodes us) ≡ end → m + nodes* us ≡ all → Left test s levels wrappers (left - 1) q.next q.number c end all
          go ∅ there fits low count same ends numbered = absurd (omega arith)
          go (t ▹ ts) {c} there fits low count same ends numbered =
              let over = by_first t ts (verify_from test t m wrappers) refl (sym e ∙ first_is t ts there fits low) in
              record {
                trees = ts;
                stands = rw over.next_is (stands_right (write_node t) (write_nodes ts) there);
                fit = fits.1;
                low = omega arith;
                count_is = omega arith;
                same = same ∙ over.same ∙ rw over.number_is;
                ends = omega (arith, over.next_is, length-append (write_node t) (write_nodes ts));
                numbered = omega (arith, over.number_is);
              }

-- ---- the whole tree

-- the tree of a message that was read
record WasRead (s : List ℕ) : Type 0 where
  tree : Tree
  rest : List ℕ
  is : read_tree s ≡ got tree rest
  back : TreeBack s tree rest
  long : length s ≡ 3 + length (write_node tree)

module _ (s : List ℕ) (bytes : Bytes s) {x : Result Subtree Refusal} {u : Subtree} (e₁ : x ≡ tree_read (length s) (read_tree s)) (e₂ : x ≡ Ok u) where
  was_read : WasRead s
  unfolding tree_read write_tree message
  was_read = go (read_tree s) refl e₁
    where
      go : (m : Read Tree) → read_tree s ≡ m → x ≡ tree_read (length s) m → WasRead s
      go (got t rest) e e₃ =
          let back = write_read_tree s t rest bytes e in
          let n : suc (suc (suc (length (write_node t)))) ≡ length s = ap length back.bytes_are in
          record { tree = t; rest = rest; is = e; back = back; long = omega arith }
      go (refused k) e e₃ = let z : ◌≡◌ {A = ℕ} 0 1 = cc in absurd (omega arith)

  -- it has its first three bytes, and a body that two bytes count
  pub three_bytes : 3 ≤ length s
  three_bytes = omega (arith, was_read.long)

  pub read_short : Short s
  read_short = record { short = omega (arith, was_read.long, was_read.back.fits.body_short) }

-- the walk of the tree that was read, and the answer
record Through (test : Rule → Sequent → Trees → Option logic.Fault) (s : List ℕ) (w : Result Passed Rejected) : Type 0 where
  verdict : logic.Verdict
  answer : checked test (read_tree s) ≡ verdict_of verdict
  end : ℕ
  all : ℕ
  walked_is : w ≡ walk_of verdict end all

module _ (test : Rule → Sequent → Trees → Option logic.Fault) (s : List ℕ) where
  pub checked_refused : {x : Result Subtree Refusal} {why : Refusal} → x ≡ tree_read (length s) (read_tree s) → x ≡ Err why → Err (rejected.Refused why) ≡ checked test (read_tree s)
  unfolding checked
  checked_refused e₁ e₂ = let by = tree_refused (length s) (read_tree s) e₁ e₂ in rw by.is (ap (λ (k : Refusal). Err (rejected.Refused k)) by.code)

  module _ (bytes : Bytes s) {x : Result Subtree Refusal} {u : Subtree} (e₁ : x ≡ tree_read (length s) (read_tree s)) (e₂ : x ≡ Ok u) {w : Result Passed Rejected} (walk : Walk test s 3 highest_tree 0 0 w) where
    -- the tree that was read stands behind the three bytes
    through : Through test s w
    unfolding checked write_tree message
    through =
        let was = was_read s bytes e₁ e₂ in
        let t = was.tree in
        let there : Stands s 3 (write_node t) = rw was.back.bytes_are at (stands_behind (1 ∷ two_bytes (length (write_node t))) (write_node t)) in
        record {
          verdict = verify_from test t 0 0;
          answer = rw was.is;
          end = 3 + length (write_node t);
          all = 0 + nodes t;
          walked_is = walk.is t there was.back.fits.nodes_fit was.back.fits.depth_fits;
        }

    pub checked_accepted : {q : Passed} → w ≡ Ok q → Ok tt ≡ checked test (read_tree s)
    unfolding verdict_of walk_of
    checked_accepted e = let t = through in sym (t.answer ∙ by_verdict t.verdict t.end t.all (sym t.walked_is ∙ e))
      where
        by_verdict : (v : logic.Verdict) (end all : ℕ) {q : Passed} → walk_of v end all ≡ Ok q → verdict_of v ≡ Ok tt
        by_verdict logic.accepted end all e = refl
        by_verdict (logic.rejected r n w f) end all e = absurd cc

    pub checked_failed : {v : Rejected} → w ≡ Err v → Err v ≡ checked test (read_tree s)
    unfolding verdict_of walk_of
    checked_failed {v} e = let t = through in sym (t.answer ∙ by_verdict t.verdict t.end t.all (sym t.walked_is ∙ e))
      where
        by_verdict : (c : logic.Verdict) (end all : ℕ) → walk_of c end all ≡ Err v → verdict_of c ≡ Err v
        by_verdict logic.accepted end all e = absurd cc
        by_verdict (logic.rejected r n w f) end all e = cc
