-- Laws of `shorten_read`, one for each way out: the root spelled out and compared, then the first walk over the tree that was read tells the result and
-- its length, and the second one writes it. Assumes nothing.
use Rattle.std.specs.Prelude.{Option, None, Some, Ok, Err, ◌≡◌, refl, Bool, true, false, cond, ℕ, ◌+◌, ◌-◌, ◌≤◌, ◌<◌, set}
use Rattle.std.proofs.Common.{sym, subst, ◌∙◌, arith}
use Rattle.std.proofs.Math.Path.{ap}
use mathlib.Core.List.{List, [], ◌∷◌, ◌++◌}
use Rattle.std.proofs.Math.ListN.{length}
use Rattle.std.proofs.lemmas.List.Edits.{sets}
use Rattle.logic.specs.Formula.{Formula, One, Bottom, Top, Zero, Atom, NegAtom, Tensor, Par, With, Plus, Lolli, OfCourse, WhyNot, spell}
use Rattle.logic.proofs.FormulaLaws.{spell_twice}
use Rattle.logic.specs.Sequent.{Sequent, ◌﹔◌}
use Rattle.logic.specs.Tree.{Tree, node, conclusion}
use Rattle.logic.specs.Answer.{wrong_number, wrong_length, wrong_tag, too_high, too_many, held_full, budget_spent, failures_full, output_short, wrong_setting, wrong_memory}
use Rattle.logic.specs.Built.{decomposable}
use Rattle.logic.specs.Conclusion.{spell_first, concluded}
use Rattle.wire.specs.Write.{two_bytes, write_node, message, write_tree}
use Rattle.wire.specs.Read as wire
use Rattle.wire.specs.Read.{read_tree}
use Rattle.wire.specs.Fits.{NodesFit}
use Rattle.wire.proofs.TreeBytes.{write_read_tree}
use Rattle.formula.specs.Answers.{coded}
use Rattle.formula.specs.declared.Refusal.TheVariants.{HeldFull, OutputShort}
use Rattle.tree.specs.Stands.{Stands}
use Rattle.tree.specs.StandsLaws.{stands_behind}
use Rattle.held.specs.Words.{view}
use Rattle.held.specs.WordsLaws.{extends_trans}
use Rattle.zones.specs.declared.Zones.{Zones}
use Rattle.expand.specs.Writing.{Sound, Means, Wrote}
use Rattle.short.specs.Short.{Short}
use Rattle.short.specs.Making.{Result, made, mismatch, refused, made_of, unless, spelt}
use Rattle.short.specs.MakingLaws.{result_of, with_held, and_then_from, spelt_again}
use Rattle.short.specs.Shortening.{same_sequent, shorten}
use Rattle.short.proofs.LeastLaws.{same_sequent_iff}
use Rattle.short.specs.EnteredLaws.{stay_refl}
use Rattle.short.proofs.ShortenLaws.{shorten_again}
use Rattle.short_bytes.specs.Write.{write_short_node, message_two, write_short}
use Rattle.step.specs.Taking.{sequent, if_full, SpeltTo}
use Rattle.step.specs.TakingLaws.{sequent_grows, sequent_same}
use Rattle.shown.specs.Matching.{Shown}
use Rattle.shown.specs.ShownLaws.{same_sequent_symmetric}
use Rattle.shrink.specs.declared.Shrunk.{Shrunk}
use Rattle.shrink.specs.declared.Stop.{Stop}
use Rattle.shrink.specs.declared.Stop.TheVariants as stop
use Rattle.shrink.specs.Shrinking.{Shrink, Put, Shrinking, Told, ShrunkAs, Shrinks, shorten_spelt}
use Rattle.shrink.specs.ShrinkingLaws.{shorten_tail, shorten_goes, shorten_full, short_shorter}
use Rattle.short_trees.specs.Promise.{limits, shortening}
use Rattle.short_trees.specs.Steps.{shrink_failed, Readable, DoneAs, Done}
use Rattle.short_trees.specs.HeldLaws.{closed_view, held_fits, extends_stay}
use Rattle.short_trees.specs.AnswersLaws.{done_refused, done_mismatch, done_short, done_written, unwritten, front_room, front_kept, message_stored}
use Rattle.short_trees.specs.declared.Failure.TheVariants.{Mismatch, Refused}

-- ---- a sequent spelled out is spelled out

spell_decomposable : (f : Formula) → decomposable (spell f) ≡ decomposable f
unfolding spell decomposable
spell_decomposable (Lolli a b) = refl
spell_decomposable (Par a b) = refl
spell_decomposable Bottom = refl
spell_decomposable Top = refl
spell_decomposable (With a b) = refl
spell_decomposable (WhyNot a) = refl
spell_decomposable (Atom a) = refl
spell_decomposable (NegAtom a) = refl
spell_decomposable (Tensor a b) = refl
spell_decomposable One = refl
spell_decomposable (Plus a b) = refl
spell_decomposable Zero = refl
spell_decomposable (OfCourse a) = refl

spell_first_twice : (fs : List Formula) → spell_first (spell_first fs) ≡ spell_first fs
unfolding spell_first
spell_first_twice [] = refl
spell_first_twice (f ∷ fs) = go (decomposable f) refl (spell_first_twice fs)
  where
    go : (b : Bool) → decomposable f ≡ b → spell_first (spell_first fs) ≡ spell_first fs
        → spell_first (cond b (spell f ∷ fs) (f ∷ spell_first fs)) ≡ cond b (spell f ∷ fs) (f ∷ spell_first fs)
    go true e rest = rw (spell_decomposable f ∙ e) (ap (λ (g : Formula). g ∷ fs) (spell_twice f))
    go false e rest = rw e (ap (λ (gs : List Formula). f ∷ gs) rest)

concluded_twice : (q : Sequent) → concluded (concluded q) ≡ concluded q
concluded_twice q = ap (λ (fs : List Formula). fs ﹔ q.unrestricted) (spell_first_twice q.linear)

-- ---- the result, by the walk's answer

record MadeAs (y : Result Short) (out : List ℕ) (to k : ℕ) (out' : List ℕ) : Type 0 where
  tree : Short
  made_is : y ≡ made tree
  sized : k ≡ to + length (write_short_node tree)
  put : Put (write_short_node tree) out to out'

abbrev Apart : Result Short → (out : List ℕ) (to : ℕ) → Shrink → (out' : List ℕ) → Type 0
Apart y out to (Ok g) out' = MadeAs y out to g.to out'
Apart y out to (Err stop.Full) out' = y ≡ refused held_full
Apart y out to (Err stop.Mismatch) out' = y ≡ mismatch

module _ (next : ℕ) (out : List ℕ) (to : ℕ) (r : Shrink) (out' : List ℕ) where
  by_answer : (y : Result Short) {r' : Shrink} → r ≡ r' → Apart y out to r' out' → Apart y out to r out'
  by_answer y e h = subst (λ (r : Shrink). Apart y out to r out') (sym e) h

  told_apart : (y : Result Short) → Told y next out to r out' → Apart y out to r out'
  told_apart (made t) h = by_answer (made t) h.answer record { tree = t; made_is = refl; sized = refl; put = h.put }
  told_apart mismatch h = by_answer mismatch h refl
  told_apart (refused held_full) h = by_answer (refused held_full) h refl
  told_apart (refused too_many) h = absurd h
  told_apart (refused wrong_number) h = absurd h
  told_apart (refused wrong_length) h = absurd h
  told_apart (refused wrong_tag) h = absurd h
  told_apart (refused too_high) h = absurd h
  told_apart (refused budget_spent) h = absurd h
  told_apart (refused failures_full) h = absurd h
  told_apart (refused output_short) h = absurd h
  told_apart (refused wrong_setting) h = absurd h
  told_apart (refused wrong_memory) h = absurd h

short_length : (t : Short) → length (write_short t) ≡ 3 + length (write_short_node t)
unfolding write_short message_two
short_length t = omega arith

-- the root concludes something else
shorten_other : (t : Tree) (q : Sequent) (fs hs : List Formula) → spelt limits.held q fs ≡ (made tt, hs) → same_sequent (conclusion t) (concluded q) ≡ false
    → shorten limits t q fs ≡ (mismatch, hs)
shorten_other (node r c ts) q fs hs k e =
    shorten_tail r c ts q fs
    ∙ and_then_from (spelt limits.held q) _ fs (made tt) hs k
    ∙ and_then_from (unless (same_sequent c (concluded q))) _ hs mismatch hs (ap (λ (b : Bool). unless b hs) e)

-- ---- the tree that was read

record TreeThere (s : List ℕ) (t : Tree) : Type 0 where
  stands : Stands s 3 (write_node t)
  fits : NodesFit t
  ends : 3 + length (write_node t) ≡ length s
  short : length (write_node t) ≤ 65535

module _ {m s : List ℕ} {z : Zones} (x : Readable shortening m s z) where
  root : (t : Tree) → read_tree s ≡ wire.got t [] → TreeThere s t
  unfolding write_tree message
  root t e =
      let back = write_read_tree s t [] x.bytes e in
      record {
        stands = rw back.bytes_are at (stands_behind (1 ∷ two_bytes (length (write_node t))) (write_node t));
        fits = back.fits.nodes_fit;
        ends = omega (arith, ap length back.bytes_are);
        short = back.fits.body_short;
      }

  message_long : (3 ≤ length s) × (length s ≤ 65538)
  message_long = let there = root x.value x.read in (omega (arith, there.ends), omega (arith, there.ends, there.short))

  abbrev result : Tree → Result Short × List Formula
  result t = shorten limits t (sequent m z) (view m)

  -- the root's implication spelled out
  module _ (out : List ℕ) {p : Option Zones} {m₁ : List ℕ} (spelled : SpeltTo m z p m₁) where
    pub shorten_no_room : p ≡ None → Done shortening m s z out (Err (Refused HeldFull)) m₁ out
    unfolding coded
    shorten_no_room full = record {
      wf = spelled.wf;
      grew = spelled.grew;
      is = λ t h. let e = is_full t in done_refused shortening out (sym (ap (λ y. y.1) e)) held_full (ap result_of e);
    }
      where
        is_full : (t : Tree) → result t ≡ (refused held_full, view m₁)
        is_full t = shorten_full t (sequent m z) (view m) (view m₁) (spelled.made_is ∙ ap (λ (r : Option Zones). (if_full r, view m₁)) full)

    module _ {z₁ : Zones} (held : p ≡ Some z₁) where
      spells : spelt limits.held (sequent m z) (view m) ≡ (made tt, view m₁)
      spells = spelled.made_is ∙ ap (λ (r : Option Zones). (if_full r, view m₁)) held

      means : Means m₁ (concluded (sequent m z)) z₁
      means = rw held at spelled.means

      -- what comparing the root asks
      pub shorten_shows : Sound m₁ z₁ × (3 ≤ length s)
      shorten_shows = (means.sound, message_long.0)

      module _ {b : Bool} (shown : Shown m₁ z₁ s 3 b) where
        shown_is : (t : Tree) → read_tree s ≡ wire.got t [] → b ≡ same_sequent (conclusion t) (concluded (sequent m z))
        shown_is (node r c ts) e =
            let there = root (node r c ts) e in
            shown.right r c ts there.stands there.fits.0
            ∙ ap (λ (q : Sequent). same_sequent q c) (ap (λ (q : Sequent). concluded q) means.means ∙ concluded_twice (sequent m z))
            ∙ same_sequent_symmetric (concluded (sequent m z)) c

        pub shorten_unlike : b ≡ false → Done shortening m s z out (Err Mismatch) m₁ out
        shorten_unlike other = record {
          wf = spelled.wf;
          grew = spelled.grew;
          is = λ t h.
              let e = shorten_other t (sequent m z) (view m) (view m₁) spells (sym (shown_is t h) ∙ other) in
              done_mismatch shortening out (sym (ap (λ y. y.1) e)) (ap result_of e);
        }

        -- the first walk
        module _ (yes_shown : b ≡ true) where
          concludes : (t : Tree) → read_tree s ≡ wire.got t [] → conclusion t ≡ concluded (sequent m z)
          concludes t e = (same_sequent_iff (conclusion t) (concluded (sequent m z))).0 (sym (shown_is t e) ∙ yes_shown)

          pub shorten_first : Shrinking m₁ s 3 z₁ 3
          shorten_first = record { sound = means.sound; inside = message_long.0; short = message_long.1; room = omega (arith, message_long.1) }

          module _ {r : Shrink} {m₂ part : List ℕ} (g : Shrinks m₁ s 3 z₁ [] 3 r m₂ part) where
            same : part ++ out ≡ out
            same = unwritten part out g.long

            shrunk_as : (t : Tree) → read_tree s ≡ wire.got t [] → ShrunkAs (result t) (3 + length (write_node t)) [] 3 r (view m₂) part
            shrunk_as t e =
                let there = root t e in
                subst (λ (y : Result Short × List Formula). ShrunkAs y (3 + length (write_node t)) [] 3 r (view m₂) part)
                (sym (shorten_goes t (sequent m z) (view m) (view m₁) (concludes t e) spells))
                (g.is t there.stands there.fits (concludes t e ∙ sym means.means))

            apart : (t : Tree) → read_tree s ≡ wire.got t [] → Apart (result t).0 [] 3 r part
            apart t e = told_apart (3 + length (write_node t)) [] 3 r part (result t).0 (shrunk_as t e).told

            pub shorten_stopped : (k : Stop) → r ≡ Err k → Done shortening m s z out (Err (shrink_failed k)) m₂ (part ++ out)
            unfolding coded
            shorten_stopped k e = rw same record {
              wf = g.wf;
              grew = extends_trans spelled.grew g.grew;
              is = λ t h. go k t (shrunk_as t h).held (subst (λ (r : Shrink). Apart (result t).0 [] 3 r part) e (apart t h));
            }
              where
                go : (k : Stop) (t : Tree) → view m₂ ≡ (result t).1 → Apart (result t).0 [] 3 (Err k) part
                    → DoneAs shortening (result t) out (Err (shrink_failed k)) (view m₂) out
                go stop.Full t held h = done_refused shortening out held held_full h
                go stop.Mismatch t held h = done_mismatch shortening out held h

            pub shorten_over : r ≡ Err stop.Full → Done shortening m s z out (Err (Refused HeldFull)) m₂ (part ++ out)
            shorten_over e = shorten_stopped stop.Full e

            pub shorten_mismatch : r ≡ Err stop.Mismatch → Done shortening m s z out (Err Mismatch) m₂ (part ++ out)
            shorten_mismatch e = shorten_stopped stop.Mismatch e

            -- the short tree is so long, with version and length
            module _ {w : Shrunk} (e : r ≡ Ok w) where
              abbrev to : ℕ
              to = w.to

              made_as : (t : Tree) → read_tree s ≡ wire.got t [] → MadeAs (result t).0 [] 3 to part
              made_as t h = subst (λ (r : Shrink). Apart (result t).0 [] 3 r part) e (apart t h)

              -- it is no longer than the tree
              shorter : (t : Tree) (h : read_tree s ≡ wire.got t []) → length (write_short_node (made_as t h).tree) ≤ 65535
              shorter t h = omega (arith, short_shorter limits t (sequent m z) (view m) (made_as t h).made_is, (root t h).short)

              pub shorten_from : (3 ≤ to) × (to ≤ 65538)
              shorten_from =
                  let d = made_as x.value x.read in (omega (arith, d.sized), omega (arith, d.sized, shorter x.value x.read))

              pub shorten_short : length (part ++ out) < to → Done shortening m s z out (Err (Refused OutputShort)) m₂ (part ++ out)
              shorten_short over = rw same record {
                wf = g.wf;
                grew = extends_trans spelled.grew g.grew;
                is = λ t h.
                    let d = made_as t h in
                    done_short shortening out (shrunk_as t h).held d.made_is (λ short room. omega (arith, d.sized, short_length d.tree, ap length same));
              }

              module _ (room : to ≤ length (part ++ out)) where
                enough : to ≤ length out
                enough = rw same at room

                pub shorten_front : (to - 3 < 65536) × (1 + 2 ≤ length (set (part ++ out) 0 2))
                shorten_front = front_room 2 (part ++ out) (omega (arith, shorten_from.1)) (omega (arith, shorten_from.0))

                pub shorten_second : Shrinking m₂ s 3 z₁ 3
                shorten_second = record {
                  sound = sequent_grows g.grew g.wf means.sound;
                  inside = message_long.0;
                  short = message_long.1;
                  room = omega (arith, message_long.1);
                }

                -- over what is held then, nothing more is spelled out, and the short tree is the same
                again : (t : Tree) (h : read_tree s ≡ wire.got t []) → shorten_spelt t (view m₂) ≡ (made (made_as t h).tree, view m₂)
                again t h =
                    let d = made_as t h in
                    let first : result t ≡ (made d.tree, view m₂) =
                    with_held (result t) d.made_is ∙ ap (λ (fs : List Formula). (made d.tree, fs)) (sym (shrunk_as t h).held)
                    in
                    let kept : spelt limits.held (sequent m z) (view m₂) ≡ (made tt, view m₂) =
                    spelt_again limits.held (made_of (sequent m z).linear) (view m) spells (extends_stay g.grew) (closed_view g.wf) (held_fits g.wf)
                    in
                    sym (shorten_goes t (sequent m z) (view m₂) (view m₂) (concludes t h) kept)
                    ∙ shorten_again limits t (sequent m z) (view m) first stay_refl (closed_view g.wf) (held_fits g.wf)

                -- the output is as long as it was
                pub shorten_kept : {out₁ : List ℕ} {next₁ : ℕ} {r₂ : Shrink} {m₃ out₂ : List ℕ} → Wrote (set (part ++ out) 0 2) 1 (two_bytes (to - 3)) out₁ next₁
                    → Shrinks m₂ s 3 z₁ out₁ 3 r₂ m₃ out₂ → length out₂ ≡ length out
                shorten_kept front g₂ = g₂.long ∙ front_kept 2 (part ++ out) (to - 3) front ∙ ap length same

                module _ {out₁ : List ℕ} {next₁ : ℕ} {r₂ : Shrink} {m₃ out₂ : List ℕ} (wrote : Wrote (set (part ++ out) 0 2) 1 (two_bytes (to - 3)) out₁ next₁)
                    (g₂ : Shrinks m₂ s 3 z₁ out₁ 3 r₂ m₃ out₂) where
                  front : Wrote (set out 0 2) 1 (two_bytes (to - 3)) out₁ next₁
                  front = rw same at wrote

                  second_as : (t : Tree) (h : read_tree s ≡ wire.got t []) → ShrunkAs (made (made_as t h).tree, view m₂) (3 + length (write_node t)) out₁ 3 r₂ (view m₃) out₂
                  second_as t h =
                      let there = root t h in
                      subst (λ (y : Result Short × List Formula). ShrunkAs y (3 + length (write_node t)) out₁ 3 r₂ (view m₃) out₂) (again t h)
                      (g₂.is t there.stands there.fits (concludes t h ∙ sym means.means ∙ sym (sequent_same g.grew means.sound)))

                  -- the second walk does not stop
                  pub shorten_goes_on : {k : Stop} → r₂ ≡ Err k → ⊥
                  shorten_goes_on e₂ =
                      let w₂ = (second_as x.value x.read).told.answer in
                      let o : ◌≡◌ {A = ℕ} 0 1 = cc in omega arith

                  pub shorten_written : Done shortening m s z out (Ok to) m₃ out₂
                  unfolding write_short message_two
                  shorten_written = record { wf = g₂.wf; grew = extends_trans spelled.grew (extends_trans g.grew g₂.grew); is = by_tree }
                    where
                      by_tree : (t : Tree) → read_tree s ≡ wire.got t [] → DoneAs shortening (result t) out (Ok to) (view m₃) out₂
                      by_tree t h =
                          let d = made_as t h in
                          let body = write_short_node d.tree in
                          let second = second_as t h in
                          let sized : to - 3 ≡ length body = omega (arith, d.sized) in
                          let long = front_kept 2 out (to - 3) front in
                          let stored : out₂ ≡ sets out₁ 3 body = second.told.put.written (omega (arith, d.sized, long, enough)) in
                          subst (λ (k : ℕ). DoneAs shortening (result t) out (Ok k) (view m₃) out₂) (short_length d.tree ∙ sym d.sized)
                          (done_written shortening out (second.held ∙ (shrunk_as t h).held) d.made_is (shorter t h) (omega (arith, d.sized, short_length d.tree, enough))
                          (message_stored 2 out body sized (omega (arith, d.sized, enough)) front stored))
