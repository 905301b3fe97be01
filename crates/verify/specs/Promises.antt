-- What a caller relies on of the verifier, each proved by citing the law that does the work: which bytes strict mode accepts, that shape mode's errors come first, and that trees and their
-- bytes go into one another. Assumes nothing.
use Rattle.std.specs.Prelude.{◌≡◌, refl, ◌↔◌, Ok, List, [], ℕ}
use Rattle.std.proofs.Common.{sym, ap, ◌∙◌}
use Rattle.logic.specs.Tree.{Tree}
use Rattle.logic.specs.Verify as logic
use Rattle.logic.specs.Verify.{shape_at, verify}
use Rattle.logic.specs.Legal.{Legal}
use Rattle.logic.specs.Shaped.{ParsShown}
use Rattle.logic.specs.Strict.{strict_fault, verify_strict}
use Rattle.logic.proofs.StrictLaws.{strict_accepts_iff, strict_accepts_legal_iff, strict_rejects}
use Rattle.wire.specs.Write.{write_tree}
use Rattle.wire.specs.Read.{Read, got, refused, read_tree}
use Rattle.wire.specs.Fits.{Bytes, TreeFits}
use Rattle.wire.proofs.TreeBytes.{read_write_tree, write_read_tree}
use Rattle.verify.specs.Verdicts.{verdict_of, rejected_of, checked, answer_number}

-- a tree written reads back
pub tree_reads_back : (t : Tree) → TreeFits t → read_tree (write_tree t) ≡ got t []
tree_reads_back = read_write_tree

-- and a tree that was read is written as the same bytes
pub tree_writes_back : (s : List ℕ) (t : Tree) (rest : List ℕ) → Bytes s → read_tree s ≡ got t rest → write_tree t ≡ s
tree_writes_back s t rest bytes e = (write_read_tree s t rest bytes e).bytes_are

-- ---- strict mode

accepted_iff : (v : logic.Verdict) → (verdict_of v ≡ Ok tt) ↔ (v ≡ logic.accepted)
unfolding verdict_of
accepted_iff logic.accepted = (λ e. refl, λ e. refl)
accepted_iff (logic.rejected r n w f) = (λ e. cc, λ e. cc)

-- it accepts exactly the bytes of a tree whose steps are all legal, where each node by ParIntro shows a par: shape mode does not take an implication for one
pub strict_accepts : (s : List ℕ) → Bytes s → (checked strict_fault (read_tree s) ≡ Ok tt) ↔ ((t : Tree) × (write_tree t ≡ s) × TreeFits t × Legal t × ParsShown t)
unfolding checked verify_strict
strict_accepts s bytes = (λ e. of_read (read_tree s) refl e, of_tree)
  where
    of_read : (m : Read Tree) → read_tree s ≡ m → checked strict_fault m ≡ Ok tt → (t : Tree) × (write_tree t ≡ s) × TreeFits t × Legal t × ParsShown t
    of_read (got t rest) is e =
        let back = write_read_tree s t rest bytes is in
        let legal = (strict_accepts_legal_iff t).0 ((accepted_iff (verify_strict t)).0 e) in
        (t, back.bytes_are, back.fits, legal.0, legal.1)
    of_read (refused k) is e = absurd cc

    of_tree : ((t : Tree) × (write_tree t ≡ s) × TreeFits t × Legal t × ParsShown t) → checked strict_fault (read_tree s) ≡ Ok tt
    of_tree (t, bytes_are, fits, legal, shown) =
        ap (checked strict_fault) (ap read_tree (sym bytes_are) ∙ read_write_tree t fits) ∙ (accepted_iff (verify_strict t)).1 ((strict_accepts_legal_iff t).1 (legal, shown))

-- ---- shape mode's errors come first

same_answer : (t : Tree) (v : logic.Verdict) → verify_strict t ≡ v → (answer_number (verdict_of v) ≡ 15 → ⊥) → verify t ≡ v
unfolding verdict_of rejected_of answer_number
same_answer t logic.accepted e h = ((strict_accepts_iff t).0 e).0
same_answer t (logic.rejected r n w logic.invalid_rule) e h = strict_rejects t r n w logic.invalid_rule (λ k. cc) e
same_answer t (logic.rejected r n w (logic.wrong_premise_count expected given)) e h = strict_rejects t r n w (logic.wrong_premise_count expected given) (λ k. cc) e
same_answer t (logic.rejected r n w logic.context_mismatch) e h = absurd (h refl)

-- an answer of strict mode that is not 15 is shape mode's own, at the same node
pub strict_then_shape : (s : List ℕ) → (answer_number (checked strict_fault (read_tree s)) ≡ 15 → ⊥) → checked shape_at (read_tree s) ≡ checked strict_fault (read_tree s)
unfolding checked verify verify_strict
strict_then_shape s h = go (read_tree s) h
  where
    go : (m : Read Tree) → (answer_number (checked strict_fault m) ≡ 15 → ⊥) → checked shape_at m ≡ checked strict_fault m
    go (got t rest) h = ap verdict_of (same_answer t (verify_strict t) refl h)
    go (refused k) h = refl
