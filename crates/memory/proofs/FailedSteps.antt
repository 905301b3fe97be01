-- Steps of looking a sequent up among the failures and of recording it. Assumes nothing.
use mathlib.Core.Path.{◌≡◌, refl, ap, ◌∙◌}
use mathlib.Core.Bool.{Bool}
use mathlib.Core.List.{List, ◌++◌}
use Prim.Native.Nat.{ℕ}
use native.Mathlib.Omega.{arith}
use lib.ListN.{take-append-drop}
use Rattle.logic.specs.Key.{Key, contains}
use Rattle.zones.specs.declared.Zones.{Zones}
use Rattle.held.specs.Answers.{Tells}
use Rattle.held.specs.Words as formulas
use Rattle.held.specs.WordsLaws.{extends_refl}
use Rattle.failures.specs.declared.items.Items.{Items}
use Rattle.failures.specs.declared.Noted.{Noted}
use Rattle.failures.specs.declared.Noted.TheVariants as noted
use Rattle.failures.specs.Items.{key_items, Names, listed, Lists}
use Rattle.failures.specs.Failed as failures
use Rattle.failures.specs.Failed.{NotedAs}
use Rattle.failures.specs.FailedLaws.{known_contains, noted_keys}
use Rattle.failures.specs.Records.{tally, Kept, WfFailures, Among, NotedTo}
use Rattle.failures.specs.RecordsLaws.{wf_kept}
use Rattle.memory.specs.Meaning.{formula_words, holds, held_count, told, failed, Wf, StandsIn, key_of}
use Rattle.memory.specs.MeaningLaws.{wf_length, extends_grew}
use Rattle.memory.specs.PartsLaws.{back_lent, back_changed, back_put}
use Rattle.memory.specs.Shapes.{Filed, was_known, is_new, Recorded, NoPlace}
use Rattle.memory.proofs.WholeSteps.{lent, put, parts_wf, parts_holds, parts_failed}

pub sequent_named : {m : List ℕ} {z : Zones} → Wf m → StandsIn m z → Names (formula_words m) z
unfolding held_count
sequent_named w s = record { wf = w.formulas; fits = s.fits; within = s.within }

pub lent_kept : (m : List ℕ) → Wf m → Kept (lent m) (tally (lent m))
lent_kept m w = rw (back_lent 12289 m) (wf_kept w.failures)

-- what became of a failure
filed : {ks : List Key} {k : Key} {js : List Key} (r : Noted) → (r ≡ noted.Full → ⊥) → NotedAs ks k r js → Filed ks k js
filed noted.Known h n = was_known n
filed noted.Recorded h n = is_new n
filed noted.Full h n = absurd (h refl)

-- looked up
module _ (m : List ℕ) (w : Wf m) {z : Zones} (stands : StandsIn m z) {s : Items} (lists : Lists s (key_items (formula_words m) z)) where
  pub known_failed : (r : Bool) → Tells r (Among (lent m) (tally (lent m)) (listed s)) → r ≡ contains (failed m) (key_of m z)
  unfolding failed told
  known_failed r t = known_contains w.failures (sequent_named w stands) lists r (rw (back_lent 12289 m) at t)

  noted_whole : (r : Noted) {g : List ℕ} → NotedTo (lent m) (listed s) r g → WfFailures (formula_words m) g × NotedAs (failed m) (key_of m z) r (failures.failed (formulas.told (formula_words m)) g)
  unfolding failed told
  noted_whole r t = noted_keys w.failures (sequent_named w stands) lists r (rw (back_lent 12289 m) at t)

  -- recorded
  pub recorded : (r : Noted) (g : List ℕ) → (r ≡ noted.Full → ⊥) → NotedTo (lent m) (listed s) r g → Recorded m (key_of m z) (put m g)
  unfolding holds
  recorded r g h t =
      let p = back_changed 12289 m g (omega (arith, wf_length m w)) in
      let n = noted_whole r t in
      record {
        wf = parts_wf p w.formulas n.0;
        grew = extends_grew m (put m g) (rw p.front (extends_refl (formula_words m)));
        all = parts_holds p;
        failures = rw (parts_failed p) (filed r h n.1);
      }

  -- no room
  pub no_place : (r : Noted) (g : List ℕ) → r ≡ noted.Full → NotedTo (lent m) (listed s) r g → NoPlace m (key_of m z) (put m g)
  no_place noted.Known g e t = cc
  no_place noted.Recorded g e t = cc
  no_place noted.Full g e t =
      let n = noted_whole noted.Full t in
      record {
        same = back_put 12289 m g ∙ ap (λ rest. formula_words m ++ rest) (t.same ∙ back_lent 12289 m) ∙ take-append-drop 12289 m;
        new = n.1.new;
        full = n.1.full;
      }
