-- Laws of `expand_read`, one for each way out: the first walk over the short tree that was read tells the result and its length, and the second one
-- writes it. Assumes nothing.
use Rattle.std.specs.Prelude.{Ok, Err, ◌≡◌, refl, ℕ, ◌+◌, ◌-◌, ◌≤◌, ◌<◌, length, set}
use Rattle.std.proofs.Common.{sym, ap, subst, ◌∙◌, arith}
use mathlib.Core.List.{List, [], ◌++◌}
use Rattle.std.proofs.lemmas.List.Edits.{sets}
use Rattle.logic.specs.Formula.{Formula}
use Rattle.logic.specs.Sequent.{Sequent}
use Rattle.logic.specs.Tree.{Tree}
use Rattle.logic.specs.Answer.{wrong_number, wrong_length, wrong_tag, too_high, too_many, held_full, budget_spent, failures_full, output_short, wrong_setting, wrong_memory}
use Rattle.wire.specs.Write.{two_bytes, write_node, message, write_tree}
use Rattle.wire.specs.Read as wire
use Rattle.formula.specs.Answers.{coded}
use Rattle.formula.specs.declared.Refusal.TheVariants.{HeldFull, TooMany, OutputShort}
use Rattle.held.specs.Words.{view}
use Rattle.held.specs.WordsLaws.{extends_trans}
use Rattle.zones.specs.declared.Zones.{Zones}
use Rattle.expand.specs.Writing.{Wrote}
use Rattle.short.specs.Short.{Short}
use Rattle.short.specs.Making.{Result, made, mismatch, refused}
use Rattle.short.specs.MakingLaws.{with_held}
use Rattle.short.specs.Shortening.{expand}
use Rattle.short.specs.EnteredLaws.{stay_refl}
use Rattle.short.proofs.ExpandLaws.{expand_again}
use Rattle.short_bytes.specs.Write.{write_short_node}
use Rattle.short_bytes.specs.Read.{read_short}
use Rattle.short_read.specs.Places.{RootThere}
use Rattle.short_read.specs.ReadingLaws.{short_stands}
use Rattle.step.specs.Taking.{sequent}
use Rattle.step.specs.TakingLaws.{sequent_grows, sequent_same}
use Rattle.grow.specs.declared.Grown.{Grown}
use Rattle.grow.specs.declared.Stop.{Stop}
use Rattle.grow.specs.declared.Stop.TheVariants as stop
use Rattle.grow.specs.Growing.{Grow, on, Put, Growing, Told, GrownAs, Grows}
use Rattle.short_trees.specs.Promise.{limits, expanding}
use Rattle.short_trees.specs.Steps.{grow_failed, Readable, DoneAs, Done}
use Rattle.short_trees.specs.HeldLaws.{closed_view, held_fits}
use Rattle.short_trees.specs.AnswersLaws.{done_refused, done_mismatch, done_short, done_written, unwritten, front_room, front_kept, message_stored}
use Rattle.short_trees.specs.declared.Failure.TheVariants.{Mismatch, Refused}

-- ---- the result, by the walk's answer

record MadeAs (y : Result Tree) (out : List ℕ) (to k : ℕ) (out' : List ℕ) : Type 0 where
  tree : Tree
  made_is : y ≡ made tree
  sized : k ≡ on to (length (write_node tree))
  put : Put (write_node tree) out to out'

abbrev Apart : Result Tree → (out : List ℕ) (to : ℕ) → Grow → (out' : List ℕ) → Type 0
Apart y out to (Ok g) out' = MadeAs y out to g.to out'
Apart y out to (Err stop.Full) out' = y ≡ refused held_full
Apart y out to (Err stop.Mismatch) out' = y ≡ mismatch
Apart y out to (Err stop.TooMany) out' = y ≡ refused too_many

module _ (next : ℕ) (out : List ℕ) (to : ℕ) (r : Grow) (out' : List ℕ) where
  by_answer : (y : Result Tree) {r' : Grow} → r ≡ r' → Apart y out to r' out' → Apart y out to r out'
  by_answer y e h = subst (λ (r : Grow). Apart y out to r out') (sym e) h

  told_apart : (y : Result Tree) → Told y next out to r out' → Apart y out to r out'
  told_apart (made t) h = by_answer (made t) h.answer record { tree = t; made_is = refl; sized = refl; put = h.put }
  told_apart mismatch h = by_answer mismatch h refl
  told_apart (refused held_full) h = by_answer (refused held_full) h refl
  told_apart (refused too_many) h = by_answer (refused too_many) h refl
  told_apart (refused wrong_number) h = absurd h
  told_apart (refused wrong_length) h = absurd h
  told_apart (refused wrong_tag) h = absurd h
  told_apart (refused too_high) h = absurd h
  told_apart (refused budget_spent) h = absurd h
  told_apart (refused failures_full) h = absurd h
  told_apart (refused output_short) h = absurd h
  told_apart (refused wrong_setting) h = absurd h
  told_apart (refused wrong_memory) h = absurd h

tree_length : (t : Tree) → length (write_tree t) ≡ 3 + length (write_node t)
unfolding write_tree message
tree_length t = omega arith

-- ---- the ways out

module _ {m s : List ℕ} {z : Zones} (x : Readable expanding m s z) where
  root : (a : Short) → read_short s ≡ wire.got a [] → RootThere s a []
  root a e = short_stands x.bytes e

  message_long : (3 ≤ length s) × (length s ≤ 65538)
  message_long = let there = root x.value x.read in (omega (arith, there.ends), omega (arith, there.ends, there.fits.body_short))

  pub expand_first : Growing m s 3 z 3
  expand_first = record { sound = x.sound; inside = message_long.0; short = message_long.1; from = omega arith; low = omega arith }

  module _ (out : List ℕ) {r : Grow} {m₁ part : List ℕ} (g : Grows m s 3 z [] 3 r m₁ part) where
    same : part ++ out ≡ out
    same = unwritten part out g.long

    abbrev result : Short → Result Tree × List Formula
    result a = expand limits a (sequent m z) (view m)

    grown_as : (a : Short) → read_short s ≡ wire.got a [] → GrownAs (result a) (3 + length (write_short_node a)) [] 3 r (view m₁) part
    grown_as a e = let there = root a e in g.is a there.stands there.fits.nodes_fit

    apart : (a : Short) → read_short s ≡ wire.got a [] → Apart (result a).0 [] 3 r part
    apart a e = told_apart (3 + length (write_short_node a)) [] 3 r part (result a).0 (grown_as a e).told

    pub expand_stopped : (k : Stop) → r ≡ Err k → Done expanding m s z out (Err (grow_failed k)) m₁ (part ++ out)
    unfolding coded
    expand_stopped k e = rw same record { wf = g.wf; grew = g.grew; is = λ a h. go k a (grown_as a h).held (subst (λ (r : Grow). Apart (result a).0 [] 3 r part) e (apart a h)) }
      where
        go : (k : Stop) (a : Short) → view m₁ ≡ (result a).1 → Apart (result a).0 [] 3 (Err k) part → DoneAs expanding (result a) out (Err (grow_failed k)) (view m₁) out
        go stop.Full a held h = done_refused expanding out held held_full h
        go stop.Mismatch a held h = done_mismatch expanding out held h
        go stop.TooMany a held h = done_refused expanding out held too_many h

    pub expand_full : r ≡ Err stop.Full → Done expanding m s z out (Err (Refused HeldFull)) m₁ (part ++ out)
    expand_full e = expand_stopped stop.Full e

    pub expand_crowded : r ≡ Err stop.TooMany → Done expanding m s z out (Err (Refused TooMany)) m₁ (part ++ out)
    expand_crowded e = expand_stopped stop.TooMany e

    pub expand_mismatch : r ≡ Err stop.Mismatch → Done expanding m s z out (Err Mismatch) m₁ (part ++ out)
    expand_mismatch e = expand_stopped stop.Mismatch e

    -- the tree is so long, with version and length
    module _ {w : Grown} (e : r ≡ Ok w) where
      abbrev to : ℕ
      to = w.to

      made_as : (a : Short) → read_short s ≡ wire.got a [] → MadeAs (result a).0 [] 3 to part
      made_as a h = subst (λ (r : Grow). Apart (result a).0 [] 3 r part) e (apart a h)

      pub expand_from : 3 ≤ to
      expand_from = omega (arith, (made_as x.value x.read).sized)

      pub expand_long : 65538 < to → Done expanding m s z out (Err (Refused OutputShort)) m₁ (part ++ out)
      expand_long over = rw same record {
        wf = g.wf;
        grew = g.grew;
        is = λ a h. let d = made_as a h in done_short expanding out (grown_as a h).held d.made_is (λ short room. omega (arith, d.sized));
      }

      pub expand_short : to ≤ 65538 → length (part ++ out) < to → Done expanding m s z out (Err (Refused OutputShort)) m₁ (part ++ out)
      expand_short fits over = rw same record {
        wf = g.wf;
        grew = g.grew;
        is = λ a h.
            let d = made_as a h in
            done_short expanding out (grown_as a h).held d.made_is (λ short room. omega (arith, d.sized, tree_length d.tree, ap length same));
      }

      module _ (fits : to ≤ 65538) (room : to ≤ length (part ++ out)) where
        enough : to ≤ length out
        enough = rw same at room

        pub expand_front : (to - 3 < 65536) × (1 + 2 ≤ length (set (part ++ out) 0 1))
        expand_front = front_room 1 (part ++ out) (omega arith) (omega (arith, expand_from))

        pub expand_second : Growing m₁ s 3 z 3
        expand_second = record {
          sound = sequent_grows g.grew g.wf x.sound;
          inside = message_long.0;
          short = message_long.1;
          from = omega arith;
          low = omega arith;
        }

        -- the output is as long as it was
        pub expand_kept : {out₁ : List ℕ} {next₁ : ℕ} {r₂ : Grow} {m₂ out₂ : List ℕ} → Wrote (set (part ++ out) 0 1) 1 (two_bytes (to - 3)) out₁ next₁
            → Grows m₁ s 3 z out₁ 3 r₂ m₂ out₂ → length out₂ ≡ length out
        expand_kept front g₂ = g₂.long ∙ front_kept 1 (part ++ out) (to - 3) front ∙ ap length same

        module _ {out₁ : List ℕ} {next₁ : ℕ} {r₂ : Grow} {m₂ out₂ : List ℕ} (stored : Wrote (set (part ++ out) 0 1) 1 (two_bytes (to - 3)) out₁ next₁)
            (g₂ : Grows m₁ s 3 z out₁ 3 r₂ m₂ out₂) where
          front : Wrote (set out 0 1) 1 (two_bytes (to - 3)) out₁ next₁
          front = rw same at stored

          second_as : (a : Short) (h : read_short s ≡ wire.got a []) → GrownAs (made (made_as a h).tree, view m₁) (3 + length (write_short_node a)) out₁ 3 r₂ (view m₂) out₂
          second_as a h =
              let there = root a h in
              let t = (made_as a h).tree in
              let first : result a ≡ (made t, view m₁) =
              with_held (result a) (made_as a h).made_is ∙ ap (λ (fs : List Formula). (made t, fs)) (sym (grown_as a h).held) in
              let again : expand limits a (sequent m₁ z) (view m₁) ≡ (made t, view m₁) =
              ap (λ (q : Sequent). expand limits a q (view m₁)) (sequent_same g.grew x.sound)
              ∙ expand_again limits a (sequent m z) (view m) first stay_refl (closed_view g.wf) (held_fits g.wf)
              in
              subst (λ (y : Result Tree × List Formula). GrownAs y (3 + length (write_short_node a)) out₁ 3 r₂ (view m₂) out₂) again
              (g₂.is a there.stands there.fits.nodes_fit)

          -- the second walk does not stop
          pub expand_goes_on : {k : Stop} → r₂ ≡ Err k → ⊥
          expand_goes_on e₂ =
              let w₂ = (second_as x.value x.read).told.answer in
              let o : ◌≡◌ {A = ℕ} 0 1 = cc in omega arith

          pub expand_written : Done expanding m s z out (Ok to) m₂ out₂
          unfolding write_tree message
          expand_written = record { wf = g₂.wf; grew = extends_trans g.grew g₂.grew; is = by_tree }
            where
              by_tree : (a : Short) → read_short s ≡ wire.got a [] → DoneAs expanding (result a) out (Ok to) (view m₂) out₂
              by_tree a h =
                  let d = made_as a h in
                  let t = d.tree in
                  let second = second_as a h in
                  let size : to ≡ 3 + length (write_node t) = omega (arith, d.sized) in
                  let sized : to - 3 ≡ length (write_node t) = omega arith in
                  let long = front_kept 1 out (to - 3) front in
                  let body : out₂ ≡ sets out₁ 3 (write_node t) = second.told.put.written (omega arith) (omega (arith, long, enough)) in
                  subst (λ (k : ℕ). DoneAs expanding (result a) out (Ok k) (view m₂) out₂) (tree_length t ∙ sym size)
                  (done_written expanding out (second.held ∙ (grown_as a h).held) d.made_is (omega arith) (omega (arith, tree_length t, enough))
                  (message_stored 1 out (write_node t) sized (omega (arith, enough)) front body))
