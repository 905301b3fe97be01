-- Reading a short tree leaves an end of its bytes: what was read was read from the front. Assumes nothing.
use Rattle.std.specs.Prelude.{refl, Bool, true, false, List, [], ◌∷◌, ◌++◌}
use Rattle.std.proofs.Common.{◌∙◌, append_assoc}
use Prim.Native.Nat.{ℕ, zero, suc}
use Rattle.logic.specs.Tree.{Rule}
use Rattle.logic.specs.Answer.{wrong_number}
use Rattle.wire.specs.Read.{Read, got, refused, ◌then◌, read_byte, read_two}
use Rattle.wire.specs.Gives.{AllAt}
use Rattle.wire.proofs.GivesLaws.{gives_got, gives_refused, gives_then, gives_map, gives_entry}
use Rattle.tree.specs.EndsLaws.{Ends, LeavesEnd}
use Rattle.short.specs.Short.{Short, follow}
use Rattle.short_bytes.specs.Write.{has_mask}
use Rattle.short_bytes.specs.Read.{read_four, short_rules, read_mask, read_short_premises, read_short_node}

ends_all : {bs : List ℕ} → Ends bs bs
ends_all = record { front = []; joined = refl }

ends_trans : {bs mid rest : List ℕ} → Ends bs mid → Ends mid rest → Ends bs rest
ends_trans p q = record { front = p.front ++ q.front; joined = p.joined ∙ rw (append_assoc, q.joined) }

module _ {A B : Type 0} {bs : List ℕ} where
  after_it : {m : Read A} {k : A → List ℕ → Read B} → LeavesEnd bs m → ((a : A) (rest : List ℕ) → LeavesEnd rest (k a rest)) → LeavesEnd bs (m then k)
  after_it g f = gives_then g λ a mid p. gives_map (f a mid) λ b rest q. ends_trans p q

-- an entry of the table of rules, whatever it says
abbrev Every : ℕ → Read Rule → Type 0
Every n a = Unit {0}

every : (table : List (Read Rule)) → AllAt Every table
every [] = tt
every (a ∷ as') = (tt, every as')

byte_ends : (bs : List ℕ) → LeavesEnd bs (read_byte bs)
unfolding read_byte
byte_ends [] = gives_refused tt
byte_ends (b ∷ bs) = gives_got (record { front = b ∷ []; joined = refl })

two_ends : (bs : List ℕ) → LeavesEnd bs (read_two bs)
unfolding read_two
two_ends bs = after_it (byte_ends bs) λ h mid. after_it (byte_ends mid) λ l rest. gives_got ends_all

mask_ends : (b : Bool) (bs : List ℕ) → LeavesEnd bs (read_mask b bs)
unfolding read_mask read_four
mask_ends true bs = after_it (two_ends bs) λ h mid. after_it (two_ends mid) λ l rest. gives_got ends_all
mask_ends false bs = gives_got ends_all

module _ (premise : List ℕ → Read Short) (ends : (bs : List ℕ) → LeavesEnd bs (premise bs)) where
  premises_end : (n : ℕ) (bs : List ℕ) → LeavesEnd bs (read_short_premises premise n bs)
  unfolding read_short_premises
  premises_end zero bs = gives_got ends_all
  premises_end (suc n) bs = after_it (ends bs) λ s mid. after_it (premises_end n mid) λ ss rest. gives_got ends_all

-- the known rule's own end is passed over
known_ends : {bs : List ℕ} (known : Read Rule) (k : Rule → Read Short) → ((r : Rule) → LeavesEnd bs (k r)) → LeavesEnd bs (known then λ r _. k r)
unfolding ◌then◌
known_ends (got r rest) k f = f r
known_ends (refused why) k f = gives_refused tt

pub short_ends : (levels : ℕ) (bs : List ℕ) → LeavesEnd bs (read_short_node levels bs)
unfolding read_short_node
short_ends zero bs = after_it (byte_ends bs) λ n rest. gives_refused tt
short_ends (suc levels) bs =
    after_it (byte_ends bs) λ n tail.
    gives_entry Every short_rules (every short_rules) n wrong_number tt λ known w.
    known_ends known _ λ r.
    after_it (byte_ends tail) λ place above.
    after_it (mask_ends (has_mask r) above) λ mask mid.
    after_it (premises_end (read_short_node levels) (short_ends levels) (follow r) mid) λ ss rest. gives_got ends_all
