-- Trees written and read: what is written reads back the same, what was read is written as the same bytes, and reading refuses with 2 to 6 alone. Assumes nothing.
use Rattle.std.specs.Prelude.{◌≡◌, refl, List, [], ◌∷◌, ◌++◌, leb, length}
use Rattle.std.proofs.Common.{sym, ◌∙◌, subst, append-nil, append_assoc, arith, lit<, leb-true, le-leb}
use Rattle.std.proofs.Math.Path.{ap}
use Prim.Native.Nat.{ℕ, zero, suc, ◌+◌, ◌≤◌, ◌<◌}
use Rattle.logic.specs.Sequent.{Sequent}
use Rattle.logic.specs.Tree.{Rule, Axiom, Cut, OneIntro, BottomIntro, TensorIntro, ParIntro, TopIntro, WithIntro, PlusIntroLeft, PlusIntroRight, OfCourseIntro, WhyNotIntro, Weakening, Contraction, Dereliction, FocusPositive, FocusNegative, Blur, Tree, Trees, node, ∅, ◌▹◌, depth, depths, premise_count}
use Rattle.logic.specs.Answer.{Refusal, wrong_number, too_many}
use Rattle.wire.specs.Write.{write_zone, message, write_rule, write_node, write_nodes, write_tree}
use Rattle.wire.specs.Read.{Read, got, refused, ◌then◌, entry, read_byte, at_end, highest_formula, most_formulas, RuleForm, bare, with_formula, with_number, rule_forms, read_argument, read_sequent, read_premises, read_node, highest_tree, read_tree}
use Rattle.wire.specs.Fits.{Bytes, ZonesFit, RuleFits, NodesFit, NodesFit*, TreeFits, TreeBack, NodeBack, PremisesBack, RuleBack, SequentBack, RuleWritten, cut_short, too_tall, ReadRefusal, unknown_number, in_formula, overfull}
use Rattle.wire.specs.FitsLaws.{bytes_nil, bytes_cons, bytes_append, bytes_head, bytes_tail, bytes_left_over, bytes_two}
use Rattle.wire.proofs.FormulaBytes.{read_write, write_bytes, read_write_two, byte_gives, two_gives, formula_gives}
use Rattle.wire.proofs.ZoneBytes.{read_write_zone, zone_gives, write_zone_bytes}
use Rattle.wire.proofs.MessageBytes.{in_reading, read_write_message, message_bytes, message_gives, body_bytes}
use Rattle.wire.specs.Gives.{Gives, AllAt, ◌&◌}
use Rattle.wire.proofs.GivesLaws.{gives_got, gives_refused, gives_then, gives_entry, gives_unless, gives_end, when_got, when_refused}

-- a rule with its argument
read_write_rule : (r : Rule) (rest : List ℕ) (k : Rule → List ℕ → Read Tree) → RuleFits r
    → (read_byte (write_rule r ++ rest) then λ n bs. entry rule_forms n wrong_number λ form. read_argument form bs then k) ≡ k r rest
unfolding write_rule read_byte ◌then◌ entry read_argument
read_write_rule Axiom rest k h = refl
read_write_rule (Cut c) rest k h = rw (read_write highest_formula c rest h.height_fits h.names_fit)
read_write_rule OneIntro rest k h = refl
read_write_rule BottomIntro rest k h = refl
read_write_rule TensorIntro rest k h = refl
read_write_rule ParIntro rest k h = refl
read_write_rule TopIntro rest k h = refl
read_write_rule WithIntro rest k h = refl
read_write_rule PlusIntroLeft rest k h = refl
read_write_rule PlusIntroRight rest k h = refl
read_write_rule OfCourseIntro rest k h = refl
read_write_rule WhyNotIntro rest k h = refl
read_write_rule Weakening rest k h = refl
read_write_rule Contraction rest k h = refl
read_write_rule Dereliction rest k h = refl
read_write_rule (FocusPositive i) rest k h = rw read_write_two
read_write_rule (FocusNegative i) rest k h = rw read_write_two
read_write_rule Blur rest k h = refl

write_rule_bytes : (r : Rule) → RuleFits r → Bytes (write_rule r)
unfolding write_rule
write_rule_bytes Axiom h = bytes_cons (lit< tt) bytes_nil
write_rule_bytes (Cut c) h = bytes_cons (lit< tt) (write_bytes c h.names_fit)
write_rule_bytes OneIntro h = bytes_cons (lit< tt) bytes_nil
write_rule_bytes BottomIntro h = bytes_cons (lit< tt) bytes_nil
write_rule_bytes TensorIntro h = bytes_cons (lit< tt) bytes_nil
write_rule_bytes ParIntro h = bytes_cons (lit< tt) bytes_nil
write_rule_bytes TopIntro h = bytes_cons (lit< tt) bytes_nil
write_rule_bytes WithIntro h = bytes_cons (lit< tt) bytes_nil
write_rule_bytes PlusIntroLeft h = bytes_cons (lit< tt) bytes_nil
write_rule_bytes PlusIntroRight h = bytes_cons (lit< tt) bytes_nil
write_rule_bytes OfCourseIntro h = bytes_cons (lit< tt) bytes_nil
write_rule_bytes WhyNotIntro h = bytes_cons (lit< tt) bytes_nil
write_rule_bytes Weakening h = bytes_cons (lit< tt) bytes_nil
write_rule_bytes Contraction h = bytes_cons (lit< tt) bytes_nil
write_rule_bytes Dereliction h = bytes_cons (lit< tt) bytes_nil
write_rule_bytes (FocusPositive i) h = bytes_cons (lit< tt) (bytes_two i h)
write_rule_bytes (FocusNegative i) h = bytes_cons (lit< tt) (bytes_two i h)
write_rule_bytes Blur h = bytes_cons (lit< tt) bytes_nil

rules_written : AllAt RuleWritten rule_forms
unfolding write_rule
rules_written =
    (refl, tt)
    & (λ c. (refl, λ h. h))
    & (refl, tt)
    & (refl, tt)
    & (refl, tt)
    & (refl, tt)
    & (refl, tt)
    & (refl, tt)
    & (refl, tt)
    & (refl, tt)
    & (refl, tt)
    & (refl, tt)
    & (refl, tt)
    & (refl, tt)
    & (refl, tt)
    & (λ i. (refl, λ h. h))
    & (λ i. (refl, λ h. h))
    & (refl, tt)
    & tt

argument_gives : (n : ℕ) (form : RuleForm) (bs : List ℕ) → RuleWritten n form → Gives (λ r rest. Bytes (n ∷ bs) → RuleBack (n ∷ bs) r rest) ReadRefusal (read_argument form bs)
unfolding read_argument
argument_gives n (bare r) bs w = gives_got λ h. record { bytes_are = rw w.0; fits = w.1 }
argument_gives n (with_formula r) bs w =
    gives_then (in_reading (formula_gives highest_formula bs)) λ c rest p.
    gives_got λ h.
    let back = p (bytes_tail h) in
    record { bytes_are = rw ((w c).0, back.bytes_are); fits = (w c).1 (record { height_fits = back.height_fits; names_fit = back.names_fit }) }
argument_gives n (with_number r) bs w =
    gives_then (in_reading (two_gives bs)) λ i rest p.
    gives_got λ h.
    let back = p (bytes_tail h) in
    record { bytes_are = rw ((w i).0, back.0); fits = (w i).1 back.1 }

-- both zones of a node
read_write_sequent : (q : Sequent) (rest : List ℕ) → ZonesFit q.linear q.unrestricted → read_sequent (write_zone q.linear ++ (write_zone q.unrestricted ++ rest)) ≡ got q rest
unfolding read_sequent ◌then◌
read_write_sequent q rest h =
    rw (
      read_write_zone q.linear (write_zone q.unrestricted ++ rest) h.first_fits,
      read_write_zone q.unrestricted rest h.second_fits,
      le-leb (length q.linear + length q.unrestricted) most_formulas h.few_formulas,
    )

sequent_gives : (bs : List ℕ) → Gives (λ q rest. Bytes bs → SequentBack bs q rest) ReadRefusal (read_sequent bs)
unfolding read_sequent
sequent_gives bs =
    gives_then (in_reading (zone_gives bs)) λ Γ mid p.
    gives_then (in_reading (zone_gives mid)) λ Θ rest q.
    gives_unless (leb (length Γ + length Θ) most_formulas) too_many overfull λ few.
    gives_got λ h.
    let first = p h in
    let second = q (bytes_left_over (write_zone Γ) mid first.bytes_are h) in
    record {
      bytes_are = first.bytes_are ∙ ap (λ (x : List ℕ). write_zone Γ ++ x) second.bytes_are;
      fits = record { first_fits = first.fits; second_fits = second.fits; few_formulas = leb-true (length Γ + length Θ) most_formulas few };
    }

-- a node and its premises
node_bytes : (r : Rule) (q : Sequent) (ps : Trees) (rest : List ℕ)
    → write_node (node r q ps) ++ rest ≡ write_rule r ++ (write_zone q.linear ++ (write_zone q.unrestricted ++ (premise_count ps ∷ (write_nodes ps ++ rest))))
unfolding write_node
node_bytes r q ps rest = simp append_assoc

mutual
  unfolding read_node read_byte ◌then◌ depth read_premises write_nodes premise_count depths

  read_write_node : (t : Tree) (levels : ℕ) (rest : List ℕ) → depth t ≤ levels → NodesFit t → read_node levels (write_node t ++ rest) ≡ got t rest
  read_write_node (node r q ps) zero rest h n = absurd (omega arith)
  read_write_node (node r q ps) (suc levels) rest h n =
      rw (node_bytes r q ps rest)
      (read_write_rule r _ _ n.0.rule_fits ∙ rw (read_write_sequent q _ n.0.zones_fit, read_write_nodes ps levels rest (omega arith) n.1))

  read_write_nodes : (ts : Trees) (levels : ℕ) (rest : List ℕ) → depths ts ≤ levels → NodesFit* ts → read_premises (read_node levels) (premise_count ts) (write_nodes ts ++ rest) ≡ got ts rest
  read_write_nodes ∅ levels rest h n = refl
  read_write_nodes (t ▹ ts) levels rest h n =
      rw (append_assoc, read_write_node t levels (write_nodes ts ++ rest) (omega arith) n.0, read_write_nodes ts levels rest (omega arith) n.1)

mutual
  unfolding write_node write_nodes

  write_node_bytes : (t : Tree) → NodesFit t → Bytes (write_node t)
  write_node_bytes (node r q ps) n =
      bytes_append
      (write_rule_bytes r n.0.rule_fits)
      (bytes_append
      (write_zone_bytes q.linear n.0.zones_fit.first_fits)
      (bytes_append (write_zone_bytes q.unrestricted n.0.zones_fit.second_fits) (bytes_cons n.0.few_premises (write_nodes_bytes ps n.1))))

  write_nodes_bytes : (ts : Trees) → NodesFit* ts → Bytes (write_nodes ts)
  write_nodes_bytes ∅ n = bytes_nil
  write_nodes_bytes (t ▹ ts) n = bytes_append (write_node_bytes t n.0) (write_nodes_bytes ts n.1)

module _ (levels : ℕ) (premise : List ℕ → Read Tree) (premise_gives : (bs : List ℕ) → Gives (λ t rest. Bytes bs → NodeBack levels bs t rest) ReadRefusal (premise bs)) where
  premises_give : (n : ℕ) (bs : List ℕ) → Gives (λ ts rest. Bytes bs → PremisesBack levels n bs ts rest) ReadRefusal (read_premises premise n bs)
  unfolding read_premises write_nodes premise_count depths
  premises_give zero bs = gives_got λ h. record { bytes_are = refl; count_is = refl; depths_fit = omega arith; nodes_fit = tt }
  premises_give (suc n) bs =
      gives_then (premise_gives bs) λ t mid p.
      gives_then (premises_give n mid) λ ts rest q.
      gives_got λ h.
      let first = p h in
      let others = q (bytes_left_over (write_node t) mid first.bytes_are h) in
      record {
        bytes_are = rw (append_assoc, first.bytes_are, others.bytes_are);
        count_is = ap suc others.count_is;
        depths_fit = omega arith;
        nodes_fit = (first.nodes_fit, others.nodes_fit);
      }

-- what is known once a node's parts were read, put together
node_back : (levels : ℕ) {bs above mid rest below : List ℕ} (r : Rule) (q : Sequent) (n : ℕ) (ps : Trees)
    → RuleBack bs r above → SequentBack above q mid → mid ≡ n ∷ rest → n < 256 → PremisesBack levels n rest ps below → NodeBack (suc levels) bs (node r q ps) below
unfolding depth
node_back levels {below} r q n ps rule sequent e small premises =
    record {
      bytes_are = rw (node_bytes r q ps below, rule.bytes_are, sequent.bytes_are, e, premises.bytes_are, premises.count_is);
      depth_fits = omega arith;
      nodes_fit = (record { rule_fits = rule.fits; zones_fit = sequent.fits; few_premises = omega arith }, premises.nodes_fit);
    }

node_gives : (levels : ℕ) (bs : List ℕ) → Gives (λ t rest. Bytes bs → NodeBack levels bs t rest) ReadRefusal (read_node levels bs)
unfolding read_node
node_gives zero bs = gives_then (in_reading (byte_gives bs)) λ r rest p. gives_refused (in_formula too_tall)
node_gives (suc levels) bs =
    gives_then (in_reading (byte_gives bs)) λ r tail p.
    gives_entry RuleWritten rule_forms rules_written r wrong_number unknown_number λ form w.
    gives_then (argument_gives r form tail w) λ rule above a.
    gives_then (sequent_gives above) λ q mid b.
    gives_then (in_reading (byte_gives mid)) λ n rest c.
    gives_then (premises_give levels (read_node levels) (node_gives levels) n rest) λ ps below d.
    gives_got λ h.
    let rule_back : RuleBack bs rule above = rw p (a (subst Bytes p h)) in
    let above_bytes : Bytes above = bytes_left_over (write_rule rule) above rule_back.bytes_are h in
    let mid_bytes : Bytes (n ∷ rest) =
    subst Bytes c (bytes_left_over (write_zone q.linear ++ write_zone q.unrestricted) mid (rw (append_assoc) (b above_bytes).bytes_are) above_bytes) in
    node_back levels rule q n ps rule_back (b above_bytes) c (bytes_head mid_bytes) (d (bytes_tail mid_bytes))

-- a tree
pub read_write_tree : (t : Tree) → TreeFits t → read_tree (write_tree t) ≡ got t []
unfolding read_tree write_tree ◌then◌ at_end
read_write_tree t h = rw (read_write_message, ← append-nil (write_node t), read_write_node t highest_tree [] h.depth_fits h.nodes_fit)

pub write_tree_bytes : (t : Tree) → TreeFits t → Bytes (write_tree t)
unfolding write_tree
write_tree_bytes t h = message_bytes (write_node t) h.body_short (write_node_bytes t h.nodes_fit)

pub tree_gives : (bs : List ℕ) → Gives (λ t rest. Bytes bs → TreeBack bs t rest) ReadRefusal (read_tree bs)
unfolding read_tree write_tree
tree_gives bs =
    gives_then (message_gives bs) λ body left m.
    gives_then (node_gives highest_tree body) λ t rest p.
    gives_end t rest (in_formula cut_short) λ e h.
    let back = p (body_bytes (m h) h) in
    let body_is : write_node t ≡ body = sym (append-nil (write_node t)) ∙ sym (rw e at back.bytes_are) in
    record {
      bytes_are = ap message body_is ∙ (m h).bytes_are;
      none_left = refl;
      fits = record { nodes_fit = back.nodes_fit; depth_fits = back.depth_fits; body_short = rw body_is (m h).short };
    }

pub write_read_tree : (bs : List ℕ) (t : Tree) (rest : List ℕ) → Bytes bs → read_tree bs ≡ got t rest → TreeBack bs t rest
write_read_tree bs t rest h e = when_got (tree_gives bs) e h

pub read_tree_refusals : (bs : List ℕ) (r : Refusal) → read_tree bs ≡ refused r → ReadRefusal r
read_tree_refusals bs r e = when_refused (tree_gives bs) e
