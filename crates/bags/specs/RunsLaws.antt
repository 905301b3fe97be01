-- Laws of runs: the multiset that one run makes, or two, or three. Assumes nothing.
use Rattle.std.specs.Prelude.{refl, List, [], ◌∷◌, ◌++◌, ℕ}
use Rattle.std.proofs.Common.{sym, append-nil, arith}
use Rattle.std.proofs.lemmas.List.Elements.{All-from_recursion}
use Rattle.logic.specs.Formula.{Formula}
use Rattle.bags.specs.Runs.{RunWithin, BagWithin, Reads, BagReads}
use Rattle.bags.specs.declared.Run.{Run}

module _ {len : ℕ} {a : Run} (h : RunWithin len a) where
  pub one_within : BagWithin len (a ∷ [])
  one_within = record { few = omega arith; runs_within = All-from_recursion (RunWithin len) (a ∷ []) (h, tt) }

  module _ {b : Run} (k : RunWithin len b) where
    pub two_within : BagWithin len (a ∷ b ∷ [])
    two_within = record { few = omega arith; runs_within = All-from_recursion (RunWithin len) (a ∷ b ∷ []) (h, (k, tt)) }

    pub three_within : {c : Run} → RunWithin len c → BagWithin len (a ∷ b ∷ c ∷ [])
    three_within {c} l = record { few = omega arith; runs_within = All-from_recursion (RunWithin len) (a ∷ b ∷ c ∷ []) (h, (k, (l, tt))) }

module _ {s : List ℕ} where
  one_more : {a : Run} {bag : List Run} {fs gs : List Formula} → Reads s a fs → BagReads s bag gs → BagReads s (a ∷ bag) (fs ++ gs)
  one_more {fs = fs} {gs = gs} h k = record { all_read = (fs, gs, h, k.all_read, refl) }

  pub one_reads : {a : Run} {fs : List Formula} → Reads s a fs → BagReads s (a ∷ []) fs
  one_reads {fs = fs} h = record { all_read = (fs, [], h, refl, sym (append-nil fs)) }

  module _ {a b : Run} {fs gs : List Formula} (h : Reads s a fs) (k : Reads s b gs) where
    pub two_reads : BagReads s (a ∷ b ∷ []) (fs ++ gs)
    two_reads = one_more h (one_reads k)

    pub three_reads : {c : Run} {hs : List Formula} → Reads s c hs → BagReads s (a ∷ b ∷ c ∷ []) (fs ++ (gs ++ hs))
    three_reads l = one_more h (one_more k (one_reads l))
