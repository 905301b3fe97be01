-- A tree's length and its bytes, node by node: a node's own bytes, its premises' words, and how both go on from one to the next. Assumes nothing.
use Rattle.std.specs.Prelude.{None, Some}
use mathlib.Core.Path.{◌≡◌, refl, sym, ap, subst, ◌∙◌}
use mathlib.Core.List.{List, [], ◌∷◌, ◌++◌, append_assoc, append-nil}
use mathlib.Core.Option.{Option, some}
use Prim.Native.Nat.{ℕ, suc, ◌+◌, ◌-◌, ◌≤◌, ◌<◌}
use native.Mathlib.Numerals.{add-one}
use native.Mathlib.Omega.{arith}
use lib.ListN.{get_or, set, length, drop, length-append, length-drop, length-set}
use lib.Seq.{drop-cons}
use Rattle.logic.specs.Formula.{Formula}
use Rattle.logic.specs.Sequent as sequent
use Rattle.logic.specs.Sequent.{Sequent}
use Rattle.logic.specs.Tree.{Rule, Tree, Trees, node, ∅, ◌▹◌, premise_count}
use Rattle.wire.proofs.ZoneBytes.{length_write_zone}
use Rattle.wire.specs.Write.{two_bytes, write_formulas, write_zone, write_node, write_nodes, message, write_tree}
use Rattle.held.specs.Words.{view, told}
use Rattle.zones.specs.declared.Zones.{Zones}
use Rattle.zones.specs.Zones.{meant}
use Rattle.expand.specs.Short.{rule_of, ◌by◌, step, spelled, ◌and_then◌, expand_all, expand}
use Rattle.expand.specs.ShortLaws.{spell_length, some_both, then_apart, grown_apart}
use Rattle.expand.specs.InMemory.{Kept, InMemory, InMemory*}
use Rattle.expand.specs.Negations.{Negated}
use Rattle.expand.specs.Writing.{Wrote, Items, ZoneRoom, Weighs, Sound, Means, SpellsOut, premise_counts, first_of, second_of, Stepping, Stepping₂}
use Rattle.expand.specs.Trees.{most_bytes, most_levels, head, HeadLength, HeadRoom, Carries, OfTree, Counted, Writing, Written, Long, MessageRoom, Message, Answered}
use Rattle.expand.specs.declared.nodes.Place.{Place}
use Rattle.expand.proofs.ByteSteps.{wrote_one, wrote_then, wrote_as, wrote_length}
use Rattle.expand.proofs.PremiseSteps.{fifteen, step_known, step_sized}

-- a node's own bytes
head_length_is : (w : ℕ) (q : Sequent) → length (head w q) ≡ 6 + length (write_formulas q.linear) + length (write_formulas q.unrestricted)
head_length_is w q =
    omega (
      arith,
      length-append (write_zone q.linear) (write_zone q.unrestricted ++ (get_or premise_counts (rule_of w) 0 ∷ [])),
      length-append (write_zone q.unrestricted) (get_or premise_counts (rule_of w) 0 ∷ []),
      length_write_zone q.linear,
      length_write_zone q.unrestricted,
    )

-- at most two premises
premises_few : (k : ℕ) → k < 15 → get_or premise_counts k 0 ≤ 2
premises_few =
    fifteen
    (λ k. get_or premise_counts k 0 ≤ 2)
    (omega arith)
    (omega arith)
    (omega arith)
    (omega arith)
    (omega arith)
    (omega arith)
    (omega arith)
    (omega arith)
    (omega arith)
    (omega arith)
    (omega arith)
    (omega arith)
    (omega arith)
    (omega arith)
    (omega arith)

module _ {m : List ℕ} {z : Zones} (s : Sound m z) where
  pub linear_items : Items m z.linear z.linear_len
  linear_items = record { wf = s.wf; sized = omega (arith, s.fits.few, s.fits.linear_sized); few = omega (arith, s.fits.few); below = s.within.linear }

  pub unrestricted_items : Items m z.unrestricted z.unrestricted_len
  unrestricted_items = record { wf = s.wf; sized = omega (arith, s.fits.few, s.fits.unrestricted_sized); few = omega (arith, s.fits.few); below = s.within.unrestricted }

  pub head_weighs : {a b : ℕ} → Weighs m z.linear z.linear_len a → Weighs m z.unrestricted z.unrestricted_len b → HeadLength m z (6 + a + b)
  head_weighs {a} {b} x y = record {
    bytes = λ w. omega (arith, head_length_is w (meant (told m) z), x.bytes, y.bytes);
    small = omega (arith, x.small, y.small, s.fits.few);
  }

module _ {m : List ℕ} {z : Zones} {w : ℕ} {out : List ℕ} {to : ℕ} (p : HeadRoom m z w out to) where
  pub head_start : to < length out
  head_start = omega (arith, p.room, head_length_is w (meant (told m) z))

  pub linear_room : ZoneRoom m z.linear z.linear_len (set out to (rule_of w)) (to + 1)
  linear_room = record {
    good = linear_items p.sound;
    room = omega (arith, p.room, head_length_is w (meant (told m) z), length_write_zone (meant (told m) z).linear, length-set out to (rule_of w));
    short = omega (arith, p.short, head_length_is w (meant (told m) z));
  }

  module _ {out₁ : List ℕ} {n₁ : ℕ} (x : Wrote (set out to (rule_of w)) (to + 1) (write_zone (meant (told m) z).linear) out₁ n₁) where
    pub unrestricted_room : ZoneRoom m z.unrestricted z.unrestricted_len out₁ n₁
    unrestricted_room = record {
      good = unrestricted_items p.sound;
      room =
          omega (
            arith,
            p.room,
            head_length_is w (meant (told m) z),
            length_write_zone (meant (told m) z).linear,
            length_write_zone (meant (told m) z).unrestricted,
            length-set out to (rule_of w),
            wrote_length x,
            x.after,
          );
      short = omega (arith, p.short, head_length_is w (meant (told m) z));
    }

    module _ {out₂ : List ℕ} {n₂ : ℕ} (y : Wrote out₁ n₁ (write_zone (meant (told m) z).unrestricted) out₂ n₂) where
      pub count_room : n₂ < length out₂
      count_room =
          omega (
            arith,
            p.room,
            head_length_is w (meant (told m) z),
            length_write_zone (meant (told m) z).linear,
            length_write_zone (meant (told m) z).unrestricted,
            length-set out to (rule_of w),
            wrote_length x,
            x.after,
            wrote_length y,
            y.after,
          )

      pub count_low : n₂ < length out
      count_low = omega (arith, count_room, length-set out to (rule_of w), wrote_length x, wrote_length y)

      pub head_wrote : {c : ℕ} → c ≡ get_or premise_counts (rule_of w) 0 → Wrote out to (head w (meant (told m) z)) (set out₂ n₂ c) (n₂ + 1)
      head_wrote e = rw e (wrote_then (wrote_one out to (rule_of w)) (wrote_then x (wrote_then y (wrote_one out₂ n₂ (get_or premise_counts (rule_of w) 0)))))

empty : {A : Type 0} (l : List A) → length l ≡ 0 → l ≡ []
empty [] e = refl
empty (x ∷ l) e = absurd (omega arith)

-- the premises' trees, one after another
record First (d : Sequent → List ℕ → Option (Tree × List ℕ)) (ps : List Sequent) (ws : List ℕ) (ts : Trees) (rest : List ℕ) : Type 0 where
  pub premise : Sequent
  pub others : List Sequent
  pub premises_are : ps ≡ premise ∷ others
  pub tree : Tree
  pub trees : Trees
  pub trees_are : ts ≡ tree ▹ trees
  pub mid : List ℕ
  pub expands : d premise ws ≡ some (tree, mid)
  pub deeper : expand_all d others mid ≡ some (trees, rest)

module _ (d : Sequent → List ℕ → Option (Tree × List ℕ)) where
  all_first : (ps : List Sequent) (ws : List ℕ) (ts : Trees) (rest : List ℕ) → expand_all d ps ws ≡ some (ts, rest) → 1 ≤ length ps → First d ps ws ts rest
  unfolding expand_all
  all_first [] ws ts rest e h = absurd (omega arith)
  all_first (p ∷ ps) ws ts rest e h =
      let a = then_apart (d p ws) (λ t ws. expand_all d ps ws and_then λ ts ws. some (t ▹ ts, ws)) (ts, rest) e in
      let b = then_apart (expand_all d ps a.left) (λ ts ws. some (a.value ▹ ts, ws)) (ts, rest) a.next in
      let c = some_both b.next in
      record {
        premise = p;
        others = ps;
        premises_are = refl;
        tree = a.value;
        trees = b.value;
        trees_are = sym c.0;
        mid = a.left;
        expands = a.first;
        deeper = b.first ∙ ap (λ (l : List ℕ). some (b.value, l)) c.1;
      }

  all_none : (ps : List Sequent) (ws : List ℕ) (ts : Trees) (rest : List ℕ) → expand_all d ps ws ≡ some (ts, rest) → length ps ≡ 0 → (ts ≡ ∅) × (rest ≡ ws)
  unfolding expand_all
  all_none [] ws ts rest e h = let b = some_both e in (sym b.0, sym b.1)
  all_none (p ∷ ps) ws ts rest e h = absurd (omega arith)

  all_count : (ps : List Sequent) (ws : List ℕ) (ts : Trees) (rest : List ℕ) → expand_all d ps ws ≡ some (ts, rest) → premise_count ts ≡ length ps
  unfolding expand_all premise_count
  all_count [] ws ts rest e = ap premise_count (sym (some_both e).0)
  all_count (p ∷ ps) ws ts rest e =
      let a = then_apart (d p ws) (λ t ws. expand_all d ps ws and_then λ ts ws. some (t ▹ ts, ws)) (ts, rest) e in
      let b = then_apart (expand_all d ps a.left) (λ ts ws. some (a.value ▹ ts, ws)) (ts, rest) a.next in
      ap premise_count (sym (some_both b.next).0) ∙ ap suc (all_count ps a.left b.value b.left b.first)

-- a node of the words: q is what it concludes, its question spelled out
record Node (ws : List ℕ) (q : Sequent) (left at : ℕ) (t : Tree) (rest : List ℕ) : Type 0 where
  pub in_levels : 1 ≤ left
  pub in_words : at < length ws
  pub rule : Rule
  pub premises : List Sequent
  pub takes : step q (get_or ws at 0) ≡ some (premises by rule)
  pub trees : Trees
  pub deeper : expand_all (expand (left - 1)) premises (drop (at + 1) ws) ≡ some (trees, rest)
  pub tree_is : t ≡ node rule q trees

module _ (ws : List ℕ) (q : Sequent) (left at : ℕ) (t : Tree) (rest : List ℕ) (e : expand left q (drop at ws) ≡ some (t, rest)) where
  node_apart : Node ws (spelled q) left at t rest
  node_apart =
      let g = grown_apart left q (drop at ws) t rest e in
      let l : at < length ws = omega (arith, length-drop at ws, ap length g.words_are) in
      let c : g.first ∷ g.others ≡ get_or ws at 0 ∷ drop (suc at) ws = sym g.words_are ∙ drop-cons ws at 0 l in
      let first : g.first ≡ get_or ws at 0 = cc in
      let others : g.others ≡ drop (suc at) ws = cc in
      let below : g.below ≡ left - 1 = omega (arith, g.levels_are) in
      record {
        in_levels = omega (arith, g.levels_are);
        in_words = l;
        rule = g.rule;
        premises = g.premises;
        takes = rw first at g.takes;
        trees = g.trees;
        deeper = rw add-one (rw (below, others) at g.deeper);
        tree_is = g.tree_is;
      }

node_as : {m ws : List ℕ} {q : Sequent} {s : Zones} {left at : ℕ} {t : Tree} {rest : List ℕ} → Means m q s → Node ws q left at t rest → Node ws (meant (told m) s) left at t rest
node_as {ws = ws} {left = left} {at = at} {t = t} {rest = rest} k n = subst (λ (p : Sequent). Node ws p left at t rest) (sym k.means) n

-- a premise's words, over the zones that mean it
premise_expands : {m : List ℕ} {q p : Sequent} {s : Zones} (n : ℕ) (ws : List ℕ) {r : Option (Tree × List ℕ)} → Means m q s → q ≡ p → expand n p ws ≡ r → expand n (meant (told m) s) ws ≡ r
premise_expands n ws k e x = ap (λ (p : Sequent). expand n p ws) (k.means ∙ e) ∙ x

-- what the node's word says
module _ {ws : List ℕ} {q : Sequent} {left at : ℕ} {t : Tree} {rest : List ℕ} (n : Node ws q left at t rest) where
  word_known : rule_of (get_or ws at 0) < 15
  word_known = step_known q (get_or ws at 0) n.takes

  premises_are : length n.premises ≡ get_or premise_counts (rule_of (get_or ws at 0)) 0
  premises_are = (step_sized q (get_or ws at 0) n.takes).premises_are

  -- its bytes, then its premises'
  node_bytes : write_node t ≡ head (get_or ws at 0) q ++ write_nodes n.trees
  unfolding write_node
  node_bytes =
      ap write_node n.tree_is
      ∙ rw (
        (step_sized q (get_or ws at 0) n.takes).rule_is,
        all_count (expand (left - 1)) n.premises (drop (at + 1) ws) n.trees rest n.deeper,
        premises_are,
        append_assoc (write_zone q.linear) (write_zone q.unrestricted ++ (get_or premise_counts (rule_of (get_or ws at 0)) 0 ∷ [])) (write_nodes n.trees),
        append_assoc (write_zone q.unrestricted) (get_or premise_counts (rule_of (get_or ws at 0)) 0 ∷ []) (write_nodes n.trees),
      )

  node_kept : {fs : List Formula} → InMemory fs t → Kept fs q
  unfolding InMemory
  node_kept {fs} h = (rw n.tree_is at h).0

  trees_kept : (fs : List Formula) → InMemory fs t → InMemory* fs n.trees
  unfolding InMemory
  trees_kept fs h = (rw n.tree_is at h).1

-- a node without premises, with one, with two
nodes_one : (t : Tree) → write_nodes (t ▹ ∅) ≡ write_node t
unfolding write_nodes
nodes_one t = append-nil (write_node t)

nodes_two : (t u : Tree) → write_nodes (t ▹ u ▹ ∅) ≡ write_node t ++ write_node u
unfolding write_nodes
nodes_two t u = ap (λ (l : List ℕ). write_node t ++ l) (append-nil (write_node u))

record Leaf (ws : List ℕ) (q : Sequent) (left at : ℕ) (t : Tree) (rest : List ℕ) : Type 0 where
  pub bytes : write_node t ≡ head (get_or ws at 0) q
  pub rest_is : rest ≡ drop (at + 1) ws

record Stem (ws : List ℕ) (q : Sequent) (left at : ℕ) (t : Tree) (rest : List ℕ) : Type 0 where
  pub premise : Sequent
  pub others : List Sequent
  pub rule : Rule
  pub takes : step q (get_or ws at 0) ≡ some (premise ∷ others by rule)
  pub tree : Tree
  pub trees : Trees
  pub mid : List ℕ
  pub expands : expand (left - 1) premise (drop (at + 1) ws) ≡ some (tree, mid)
  pub deeper : expand_all (expand (left - 1)) others mid ≡ some (trees, rest)
  pub bytes : write_node t ≡ head (get_or ws at 0) q ++ write_nodes (tree ▹ trees)
  pub sized : suc (length others) ≡ get_or premise_counts (rule_of (get_or ws at 0)) 0
  pub kept : (fs : List Formula) → InMemory fs t → InMemory fs tree × InMemory* fs trees

-- one premise: the words after it are the words after the node
record Single {ws : List ℕ} {q : Sequent} {left at : ℕ} {t : Tree} {rest : List ℕ} (x : Stem ws q left at t rest) : Type 0 where
  pub bytes : write_node t ≡ head (get_or ws at 0) q ++ write_node x.tree
  pub rest_is : rest ≡ x.mid

record Fork (ws : List ℕ) (q : Sequent) (left at : ℕ) (t : Tree) (rest : List ℕ) : Type 0 where
  pub premise : Sequent
  pub second : Sequent
  pub rule : Rule
  pub takes : step q (get_or ws at 0) ≡ some (premise ∷ second ∷ [] by rule)
  pub tree : Tree
  pub tree₂ : Tree
  pub mid : List ℕ
  pub expands : expand (left - 1) premise (drop (at + 1) ws) ≡ some (tree, mid)
  pub expands₂ : expand (left - 1) second mid ≡ some (tree₂, rest)
  pub bytes : write_node t ≡ head (get_or ws at 0) q ++ (write_node tree ++ write_node tree₂)
  pub kept : (fs : List Formula) → InMemory fs t → InMemory fs tree₂

module _ {ws : List ℕ} {q : Sequent} {left at : ℕ} {t : Tree} {rest : List ℕ} (n : Node ws q left at t rest) {c : ℕ} (e : c ≡ get_or premise_counts (rule_of (get_or ws at 0)) 0) where
  node_leaf : c ≡ 0 → Leaf ws q left at t rest
  unfolding write_nodes
  node_leaf h =
      let b = all_none (expand (left - 1)) n.premises (drop (at + 1) ws) n.trees rest n.deeper (omega (arith, premises_are n)) in
      record { bytes = node_bytes n ∙ rw b.0 (append-nil (head (get_or ws at 0) q)); rest_is = b.1 }

  node_stem : (c ≡ 0 → ⊥) → Stem ws q left at t rest
  unfolding InMemory*
  node_stem h =
      let f = all_first (expand (left - 1)) n.premises (drop (at + 1) ws) n.trees rest n.deeper (omega (arith, premises_are n)) in
      record {
        premise = f.premise;
        others = f.others;
        rule = n.rule;
        takes = rw f.premises_are at n.takes;
        tree = f.tree;
        trees = f.trees;
        mid = f.mid;
        expands = f.expands;
        deeper = f.deeper;
        bytes = rw f.trees_are at (node_bytes n);
        sized = ap length (sym f.premises_are) ∙ premises_are n;
        kept = λ fs k. rw f.trees_are at (trees_kept n fs k);
      }

  node_single : (x : Stem ws q left at t rest) → c ≡ 1 → Single x
  node_single x h =
      let b = all_none (expand (left - 1)) x.others x.mid x.trees rest x.deeper (omega (arith, x.sized)) in
      record {
        bytes =
            x.bytes
            ∙ ap (λ (us : Trees). head (get_or ws at 0) q ++ write_nodes (x.tree ▹ us)) b.0
            ∙ ap (λ (l : List ℕ). head (get_or ws at 0) q ++ l) (nodes_one x.tree);
        rest_is = b.1;
      }

  node_fork : (c ≡ 0 → ⊥) → (c ≡ 1 → ⊥) → Fork ws q left at t rest
  unfolding InMemory*
  node_fork h₀ h₁ =
      let x = node_stem h₀ in
      let few = premises_few (rule_of (get_or ws at 0)) (word_known n) in
      let f = all_first (expand (left - 1)) x.others x.mid x.trees rest x.deeper (omega (arith, x.sized)) in
      let none_left : length f.others ≡ 0 = omega (arith, x.sized, ap length f.premises_are) in
      let b = all_none (expand (left - 1)) f.others f.mid f.trees rest f.deeper none_left in
      record {
        premise = x.premise;
        second = f.premise;
        rule = x.rule;
        takes = x.takes ∙ ap (λ (ps : List Sequent). some (x.premise ∷ ps by x.rule)) (f.premises_are ∙ ap (λ (ps : List Sequent). f.premise ∷ ps) (empty f.others none_left));
        tree = x.tree;
        tree₂ = f.tree;
        mid = x.mid;
        expands = x.expands;
        expands₂ = f.expands ∙ ap (λ (l : List ℕ). some (f.tree, l)) (sym b.1);
        bytes =
            x.bytes
            ∙ ap (λ (us : Trees). head (get_or ws at 0) q ++ write_nodes (x.tree ▹ us)) (f.trees_are ∙ ap (λ (us : Trees). f.tree ▹ us) b.0)
            ∙ ap (λ (l : List ℕ). head (get_or ws at 0) q ++ l) (nodes_two x.tree f.tree);
        kept = λ fs k. (subst (λ (us : Trees). InMemory* fs us) f.trees_are (x.kept fs k).1).0;
      }

expands_few : (n : ℕ) (p : Sequent) (ws : List ℕ) (t : Tree) (rest : List ℕ) (fs : List Formula) → expand n p ws ≡ some (t, rest) → InMemory fs t → sequent.count p ≤ 31
unfolding InMemory
expands_few n p ws t rest fs e h =
    let g = grown_apart n p ws t rest e in
    let k : Kept fs (spelled p) = (rw g.tree_is at h).0 in
    omega (arith, k.few, spell_length p.linear)

-- the words carry one tree only
same_tree : {m ws : List ℕ} {z : Zones} {left at : ℕ} (k : Carries m ws z left at) {t : Tree} {rest : List ℕ} → expand left (meant (told m) z) (drop at ws) ≡ some (t, rest) → k.tree ≡ t
same_tree k e = (some_both (sym k.expands ∙ e)).0

-- what a node's words carry: the question spelled out, and the premises
module _ {m ws : List ℕ} {z : Zones} {left at : ℕ} (k : Carries m ws z left at) where
  carried : Node ws (spelled (meant (told m) z)) left at k.tree k.rest
  carried = node_apart ws (meant (told m) z) left at k.tree k.rest k.expands

  pub level_left : 1 ≤ left
  level_left = carried.in_levels

  pub word_in : at < length ws
  word_in = carried.in_words

  pub word_rule : rule_of (get_or ws at 0) < 15
  word_rule = word_known carried

  pub carries_spells : {table : List ℕ} → Negated m table → SpellsOut m table z
  carries_spells t = record { table_is = t; sound = k.sound; kept = node_kept carried k.held }

  module _ {s : Zones} (x : Means m (spelled (meant (told m) z)) s) {c : ℕ} (e : c ≡ get_or premise_counts (rule_of (get_or ws at 0)) 0) where
    here : Node ws (meant (told m) s) left at k.tree k.rest
    here = node_as x carried

    pub first_step : (c ≡ 0 → ⊥) → Stepping m s (get_or ws at 0)
    first_step h =
        let f = node_stem here e h in
        record {
          sound = x.sound;
          rule = f.rule;
          first = f.premise;
          others = f.others;
          takes = f.takes;
          few = expands_few (left - 1) f.premise (drop (at + 1) ws) f.tree f.mid (view m) f.expands (f.kept (view m) k.held).0;
        }

    pub second_step : (c ≡ 0 → ⊥) → (c ≡ 1 → ⊥) → Stepping₂ m s (get_or ws at 0)
    second_step h₀ h₁ =
        let f = node_fork here e h₀ h₁ in
        record {
          sound = x.sound;
          rule = f.rule;
          first = f.premise;
          second = f.second;
          takes = f.takes;
          few = expands_few (left - 1) f.second f.mid f.tree₂ k.rest (view m) f.expands₂ (f.kept (view m) k.held);
        }

    module _ {s₁ : Zones} (y₁ : Means m (first_of (step (meant (told m) s) (get_or ws at 0))) s₁) where
      pub first_carries : (c ≡ 0 → ⊥) → Carries m ws s₁ (left - 1) (at + 1)
      first_carries h =
          let f = node_stem here e h in
          record { sound = y₁.sound; tree = f.tree; rest = f.mid; expands = premise_expands (left - 1) (drop (at + 1) ws) y₁ (ap first_of f.takes) f.expands; held = (f.kept (view m) k.held).0 }

      pub second_carries : {s₂ : Zones} {y : ℕ} → (c ≡ 0 → ⊥) → (c ≡ 1 → ⊥) → OfTree m ws s₁ (left - 1) (at + 1) (λ t rest. rest ≡ drop y ws)
          → Means m (second_of (step (meant (told m) s) (get_or ws at 0))) s₂ → Carries m ws s₂ (left - 1) y
      second_carries {s₂} {y} h₀ h₁ on y₂ =
          let f = node_fork here e h₀ h₁ in
          let mid_is = on.of_tree f.tree f.mid (premise_expands (left - 1) (drop (at + 1) ws) y₁ (ap first_of f.takes) f.expands) in
          record {
            sound = y₂.sound;
            tree = f.tree₂;
            rest = k.rest;
            expands = premise_expands (left - 1) (drop y ws) y₂ (ap second_of f.takes) (rw mid_is at f.expands₂);
            held = f.kept (view m) k.held;
          }

-- a node counted
pub counted_on : {m ws : List ℕ} {z : Zones} {left at sum : ℕ} {r : Place} → OfTree m ws z left at (Counted ws sum r) → r.to ≤ most_bytes → OfTree m ws z left at (λ t rest. rest ≡ drop r.at ws)
counted_on x h = record { of_tree = λ t rest e. ((x.of_tree t rest e).exact h).1 }

node_here : {m ws : List ℕ} (z : Zones) {s : Zones} {left at : ℕ} → Means m (spelled (meant (told m) z)) s → (t : Tree) (rest : List ℕ)
    → expand left (meant (told m) z) (drop at ws) ≡ some (t, rest) → Node ws (meant (told m) s) left at t rest
node_here {m} {ws} z {left = left} {at = at} x t rest g = node_as x (node_apart ws (meant (told m) z) left at t rest g)

node_long : {m ws : List ℕ} {s : Zones} {left at hl : ℕ} {t : Tree} {rest : List ℕ} → HeadLength m s hl → Node ws (meant (told m) s) left at t rest → hl ≤ length (write_node t)
node_long {m} {ws} {s} {at = at} hd n =
    omega (arith, hd.bytes (get_or ws at 0), ap length (node_bytes n), length-append (head (get_or ws at 0) (meant (told m) s)) (write_nodes n.trees))

module _ {m ws : List ℕ} (z : Zones) {s : Zones} {left at : ℕ} (x : Means m (spelled (meant (told m) z)) s) {c : ℕ} (e : c ≡ get_or premise_counts (rule_of (get_or ws at 0)) 0) where
  module _ {hl : ℕ} (hd : HeadLength m s hl) where
    module _ {sum : ℕ} where
      pub counted_leaf : {r : Place} → c ≡ 0 → r.at ≡ at + 1 → r.to ≡ sum + hl → OfTree m ws z left at (Counted ws sum r)
      counted_leaf {r} h ra rt = record { of_tree = λ t rest g. go t rest (node_leaf (node_here z x t rest g) e h) }
        where
          go : (t : Tree) (rest : List ℕ) → Leaf ws (meant (told m) s) left at t rest → Counted ws sum r t rest
          go t rest f = record {
            exact = λ l. (omega (arith, hd.bytes (get_or ws at 0), ap length f.bytes), f.rest_is ∙ ap (λ (k : ℕ). drop k ws) (sym ra));
            over = λ l. omega (arith, hd.bytes (get_or ws at 0), ap length f.bytes);
          }

      pub counted_over : {r : Place} → most_bytes < sum + hl → r.to ≡ sum + hl → OfTree m ws z left at (Counted ws sum r)
      counted_over {r} l rt = record {
        of_tree = λ t rest g. record { exact = λ h. absurd (omega arith); over = λ h. let n : Node ws (meant (told m) s) left at t rest = node_here z x t rest g in omega (arith, node_long hd n) };
      }

      module _ {s₁ : Zones} (h₀ : c ≡ 0 → ⊥) (y₁ : Means m (first_of (step (meant (told m) s) (get_or ws at 0))) s₁) {r₁ : Place}
          (k₁ : OfTree m ws s₁ (left - 1) (at + 1) (Counted ws (sum + hl) r₁)) where
        pub counted_one : c ≡ 1 → OfTree m ws z left at (Counted ws sum r₁)
        counted_one h = record { of_tree = λ t rest g. let n = node_here z x t rest g in let f = node_stem n e h₀ in go t rest f (node_single n e f h) }
          where
            go : (t : Tree) (rest : List ℕ) (f : Stem ws (meant (told m) s) left at t rest) → Single f → Counted ws sum r₁ t rest
            go t rest f b =
                let d = k₁.of_tree f.tree f.mid (premise_expands (left - 1) (drop (at + 1) ws) y₁ (ap first_of f.takes) f.expands) in
                let long : length (write_node t) ≡ hl + length (write_node f.tree) =
                omega (arith, hd.bytes (get_or ws at 0), ap length b.bytes, length-append (head (get_or ws at 0) (meant (told m) s)) (write_node f.tree)) in
                record {
                  exact = λ l. (omega (arith, (d.exact l).0), b.rest_is ∙ (d.exact l).1);
                  over = λ l. omega (arith, d.over l);
                }

        pub counted_first_over : most_bytes < r₁.to → OfTree m ws z left at (Counted ws sum r₁)
        unfolding write_nodes
        counted_first_over h = record { of_tree = λ t rest g. go t rest (node_stem (node_here z x t rest g) e h₀) }
          where
            go : (t : Tree) (rest : List ℕ) → Stem ws (meant (told m) s) left at t rest → Counted ws sum r₁ t rest
            go t rest f =
                let long : hl + length (write_node f.tree) ≤ length (write_node t) =
                omega (
                  arith,
                  hd.bytes (get_or ws at 0),
                  ap length f.bytes,
                  length-append (head (get_or ws at 0) (meant (told m) s)) (write_nodes (f.tree ▹ f.trees)),
                  length-append (write_node f.tree) (write_nodes f.trees),
                ) in
                let d = k₁.of_tree f.tree f.mid (premise_expands (left - 1) (drop (at + 1) ws) y₁ (ap first_of f.takes) f.expands) in
                record { exact = λ l. absurd (omega arith); over = λ l. omega (arith, d.over h) }

        pub counted_two : {s₂ : Zones} {r₂ : Place} → (c ≡ 1 → ⊥) → r₁.to ≤ most_bytes → Means m (second_of (step (meant (told m) s) (get_or ws at 0))) s₂
            → OfTree m ws s₂ (left - 1) r₁.at (Counted ws r₁.to r₂) → OfTree m ws z left at (Counted ws sum r₂)
        counted_two {s₂} {r₂} h₁ low y₂ k₂ = record { of_tree = λ t rest g. go t rest (node_fork (node_here z x t rest g) e h₀ h₁) }
          where
            go : (t : Tree) (rest : List ℕ) → Fork ws (meant (told m) s) left at t rest → Counted ws sum r₂ t rest
            go t rest f =
                let d = (k₁.of_tree f.tree f.mid (premise_expands (left - 1) (drop (at + 1) ws) y₁ (ap first_of f.takes) f.expands)).exact low in
                let d₂ = k₂.of_tree f.tree₂ rest (premise_expands (left - 1) (drop r₁.at ws) y₂ (ap second_of f.takes) (rw d.1 at f.expands₂)) in
                let long : length (write_node t) ≡ hl + length (write_node f.tree) + length (write_node f.tree₂) =
                omega (
                  arith,
                  hd.bytes (get_or ws at 0),
                  ap length f.bytes,
                  length-append (head (get_or ws at 0) (meant (told m) s)) (write_node f.tree ++ write_node f.tree₂),
                  length-append (write_node f.tree) (write_node f.tree₂),
                ) in
                record { exact = λ l. (omega (arith, d.0, (d₂.exact l).0), (d₂.exact l).1); over = λ l. omega (arith, d.0, d₂.over l) }

-- a node written
written_on : {m ws : List ℕ} {z : Zones} {left at : ℕ} {out : List ℕ} {to : ℕ} {out' : List ℕ} {r : Place} → OfTree m ws z left at (Written ws out to out' r)
    → OfTree m ws z left at (λ t rest. rest ≡ drop r.at ws)
written_on x = record { of_tree = λ t rest e. (x.of_tree t rest e).rest_is }

module _ {m table ws : List ℕ} {z s : Zones} {left at : ℕ} {out : List ℕ} {to : ℕ} (p : Writing m table ws z left at out to) (x : Means m (spelled (meant (told m) z)) s) where
  writing_here : Node ws (meant (told m) s) left at p.carries.tree p.carries.rest
  writing_here = here p.carries x refl

  pub writing_head : HeadRoom m s (get_or ws at 0) out to
  writing_head = record {
    sound = x.sound;
    known = word_rule p.carries;
    room = omega (arith, p.room, ap length (node_bytes writing_here), length-append (head (get_or ws at 0) (meant (told m) s)) (write_nodes writing_here.trees));
    short = omega (arith, p.short, ap length (node_bytes writing_here), length-append (head (get_or ws at 0) (meant (told m) s)) (write_nodes writing_here.trees));
  }

  module _ {c : ℕ} (e : c ≡ get_or premise_counts (rule_of (get_or ws at 0)) 0) {out₁ : List ℕ} {next : ℕ} (wrote : Wrote out to (head (get_or ws at 0) (meant (told m) s)) out₁ next) where
    node_at : (t : Tree) (rest : List ℕ) → expand left (meant (told m) z) (drop at ws) ≡ some (t, rest) → Node ws (meant (told m) s) left at t rest
    node_at = node_here z x

    pub written_leaf : {r : Place} → c ≡ 0 → r.at ≡ at + 1 → r.to ≡ next → OfTree m ws z left at (Written ws out to out₁ r)
    written_leaf {r} h ra rt = record { of_tree = λ t rest g. go t rest (node_leaf (node_at t rest g) e h) }
      where
        go : (t : Tree) (rest : List ℕ) → Leaf ws (meant (told m) s) left at t rest → Written ws out to out₁ r t rest
        go t rest f = record { wrote = wrote_as (rw rt wrote) (sym f.bytes); rest_is = f.rest_is ∙ ap (λ (k : ℕ). drop k ws) (sym ra) }

    module _ {s₁ : Zones} (h₀ : c ≡ 0 → ⊥) (y₁ : Means m (first_of (step (meant (told m) s) (get_or ws at 0))) s₁) where
      pub first_writing : Writing m table ws s₁ (left - 1) (at + 1) out₁ next
      unfolding write_nodes
      first_writing =
          let f = node_stem writing_here e h₀ in
          let k = first_carries p.carries x e y₁ h₀ in
          let same = ap (λ (t : Tree). length (write_node t)) (same_tree k (premise_expands (left - 1) (drop (at + 1) ws) y₁ (ap first_of f.takes) f.expands)) in
          let long : length (write_node p.carries.tree) ≡ length (head (get_or ws at 0) (meant (told m) s)) + length (write_node f.tree) + length (write_nodes f.trees) =
          omega (
            arith,
            ap length f.bytes,
            length-append (head (get_or ws at 0) (meant (told m) s)) (write_nodes (f.tree ▹ f.trees)),
            length-append (write_node f.tree) (write_nodes f.trees),
          ) in
          record {
            table_is = p.table_is;
            carries = k;
            room = omega (arith, p.room, wrote_length wrote, wrote.after);
            short = omega (arith, p.short);
          }

      module _ {out₂ : List ℕ} {r₁ : Place} (k₁ : OfTree m ws s₁ (left - 1) (at + 1) (Written ws out₁ next out₂ r₁)) where
        pub written_one : c ≡ 1 → OfTree m ws z left at (Written ws out to out₂ r₁)
        written_one h = record { of_tree = λ t rest g. let n = node_at t rest g in let f = node_stem n e h₀ in go t rest f (node_single n e f h) }
          where
            go : (t : Tree) (rest : List ℕ) (f : Stem ws (meant (told m) s) left at t rest) → Single f → Written ws out to out₂ r₁ t rest
            go t rest f b =
                let d = k₁.of_tree f.tree f.mid (premise_expands (left - 1) (drop (at + 1) ws) y₁ (ap first_of f.takes) f.expands) in
                record { wrote = wrote_as (wrote_then wrote d.wrote) (sym b.bytes); rest_is = b.rest_is ∙ d.rest_is }

        module _ {s₂ : Zones} (h₁ : c ≡ 1 → ⊥) (y₂ : Means m (second_of (step (meant (told m) s) (get_or ws at 0))) s₂) where
          pub second_writing : Writing m table ws s₂ (left - 1) r₁.at out₂ r₁.to
          second_writing =
              let f = node_fork writing_here e h₀ h₁ in
              let k = second_carries p.carries x e y₁ h₀ h₁ (written_on k₁) y₂ in
              let d = k₁.of_tree f.tree f.mid (premise_expands (left - 1) (drop (at + 1) ws) y₁ (ap first_of f.takes) f.expands) in
              let same = ap (λ (t : Tree). length (write_node t)) (same_tree k (premise_expands (left - 1) (drop r₁.at ws) y₂ (ap second_of f.takes) (rw d.rest_is at f.expands₂))) in
              let long : length (write_node p.carries.tree) ≡ length (head (get_or ws at 0) (meant (told m) s)) + length (write_node f.tree) + length (write_node f.tree₂) =
              omega (
                arith,
                ap length f.bytes,
                length-append (head (get_or ws at 0) (meant (told m) s)) (write_node f.tree ++ write_node f.tree₂),
                length-append (write_node f.tree) (write_node f.tree₂),
              ) in
              record {
                table_is = p.table_is;
                carries = k;
                room = omega (arith, p.room, wrote_length wrote, wrote.after, wrote_length d.wrote, d.wrote.after);
                short = omega (arith, p.short);
              }

          pub written_two : {out₃ : List ℕ} {r₂ : Place} → OfTree m ws s₂ (left - 1) r₁.at (Written ws out₂ r₁.to out₃ r₂) → OfTree m ws z left at (Written ws out to out₃ r₂)
          written_two {out₃} {r₂} k₂ = record { of_tree = λ t rest g. go t rest (node_fork (node_at t rest g) e h₀ h₁) }
            where
              go : (t : Tree) (rest : List ℕ) → Fork ws (meant (told m) s) left at t rest → Written ws out to out₃ r₂ t rest
              go t rest f =
                  let d = k₁.of_tree f.tree f.mid (premise_expands (left - 1) (drop (at + 1) ws) y₁ (ap first_of f.takes) f.expands) in
                  let d₂ = k₂.of_tree f.tree₂ rest (premise_expands (left - 1) (drop r₁.at ws) y₂ (ap second_of f.takes) (rw d.rest_is at f.expands₂)) in
                  record { wrote = wrote_as (wrote_then wrote (wrote_then d.wrote d₂.wrote)) (sym f.bytes); rest_is = d₂.rest_is }

-- the whole tree counted
pub counted_long : {m ws : List ℕ} {z : Zones} {left at : ℕ} {r : Place} → OfTree m ws z left at (Counted ws 0 r) → OfTree m ws z left at (Long r.to)
counted_long x = record {
  of_tree = λ t rest e. let d = x.of_tree t rest e in record { exact = λ l. omega (arith, (d.exact l).0); over = λ l. omega (arith, d.over l) };
}

-- the message: its first three bytes, and the root
message_length : (t : Tree) → length (write_tree t) ≡ length (write_node t) + 3
unfolding write_tree message
message_length t = omega arith

module _ {m table ws : List ℕ} {z : Zones} {out : List ℕ} {n : ℕ} (p : MessageRoom m table ws z out n) where
  pub message_start : (n < 65536) × (1 + 2 ≤ length (set out 0 1))
  message_start = (omega (arith, p.short), omega (arith, p.room, length-set out 0 1))

  module _ {out₁ : List ℕ} {next : ℕ} (x : Wrote (set out 0 1) 1 (two_bytes n) out₁ next) where
    pub message_writing : Writing m table ws z most_levels 0 out₁ next
    message_writing = record {
      table_is = p.table_is;
      carries = p.carries;
      room = omega (arith, p.room, p.sized, x.after, wrote_length x, length-set out 0 1);
      short = omega (arith, p.short, p.sized);
    }

    module _ {out₂ : List ℕ} {r : Place} (y : OfTree m ws z most_levels 0 (Written ws out₁ next out₂ r)) where
      pub message_wrote : OfTree m ws z most_levels 0 (Message out out₂ r.to)
      unfolding write_tree message
      message_wrote = record { of_tree = λ t rest e. go t (same_tree p.carries e) (y.of_tree t rest e).wrote }
        where
          go : (t : Tree) → p.carries.tree ≡ t → Wrote out₁ next (write_node t) out₂ r.to → Wrote out 0 (write_tree t) out₂ r.to
          go t same d =
              let n_is : n ≡ length (write_node t) = p.sized ∙ ap (λ (u : Tree). length (write_node u)) same in
              wrote_then (wrote_one out 0 1) (rw n_is at (wrote_then x d))

-- whether the message fits
module _ {m ws : List ℕ} {z : Zones} {out : List ℕ} {n : ℕ} (x : OfTree m ws z most_levels 0 (Long n)) where
  pub body_over : most_bytes < n → OfTree m ws z most_levels 0 (Answered out out None)
  body_over h = record {
    of_tree = λ t rest e. record { same = refl; long = λ l room. let o = (x.of_tree t rest e).over h in omega arith };
  }

  pub room_short : n ≤ most_bytes → length out < n + 3 → OfTree m ws z most_levels 0 (Answered out out None)
  room_short h k = record {
    of_tree = λ t rest e. record { same = refl; long = λ l room. let o = (x.of_tree t rest e).exact h in omega (arith, message_length t) };
  }

  module _ {table : List ℕ} (k : Carries m ws z most_levels 0) (t : Negated m table) (h : n ≤ most_bytes) (room : n + 3 ≤ length out) where
    pub message_room : MessageRoom m table ws z out n
    message_room = record { table_is = t; carries = k; sized = (x.of_tree k.tree k.rest k.expands).exact h; short = h; room = room }

    pub message_fits : {out' : List ℕ} {r : ℕ} → OfTree m ws z most_levels 0 (Message out out' r) → OfTree m ws z most_levels 0 (Answered out out' (Some r))
    message_fits {out'} {r} y = record {
      of_tree = λ t rest e.
          let d = y.of_tree t rest e in
          let o = (x.of_tree t rest e).exact h in
          record { wrote = d; short = omega arith; room = omega (arith, d.after, message_length t) };
    }
