-- The way into the ring: what `prove` hands to the first visit, and what that visit's answer says of the logic's `prove`. Assumes nothing.
use mathlib.Core.Path.{◌≡◌, refl, subst}
use mathlib.Core.List.{List}
use Prim.Native.Nat.{ℕ, suc, ◌+◌, ◌≤◌}
use native.Mathlib.Omega.{arith}
use native.Mathlib.Numerals.{add-one}
use lib.ListN.{length}
use Rattle.logic.specs.Outcome.{Memory, start}
use Rattle.logic.specs.Search.{prove}
use Rattle.logic.proofs.Counters.{prove_within}
use Rattle.zones.specs.declared.Zones.{Zones}
use Rattle.held.specs.Words as formulas
use Rattle.failures.specs.FailedLaws.{failed_length}
use Rattle.failures.specs.AlikeLaws.{alike_self}
use Rattle.memory.specs.Meaning.{formula_words, failure_words, holds, held_count, failed, Wf}
use Rattle.memory.specs.MeaningLaws.{holds_length}
use Rattle.expand.specs.Short.{spelled}
use Rattle.search.specs.declared.Prover.{Prover}
use Rattle.search.specs.declared.counters.Counters.{Counters}
use Rattle.search.specs.declared.Outcome.{Outcome}
use Rattle.search.specs.Plans.{sequent}
use Rattle.search.specs.Contract.{Stands, Says, Visits, counters_of, zeroes}
use Rattle.search.specs.Asked.{proving, Remembers, Asked, Proves}
use Rattle.search.specs.AskedLaws.{says_stands}

-- at most 2048 formulas and 1000 failures
few_held : {m : List ℕ} → Wf m → length (holds m) ≤ 2048
unfolding held_count
few_held {m} f = omega (arith, holds_length m, f.formulas.few)

few_failures : {m : List ℕ} → Wf m → length (failed m) ≤ 1000
unfolding failed
few_failures {m} f = omega (arith, failed_length (formulas.told (formula_words m)) (failure_words m), f.failures.few)

stands_start : {m : List ℕ} {memory : Memory} → Remembers m memory → Stands zeroes m (start memory)
stands_start k = record { explored = refl; hits = refl; reached = refl; held = k.held; failures = k.failures }

module _ {p : Prover} {z : Zones} {m w : List ℕ} (asked : Asked p z m w) {c : Counters} (e : c ≡ zeroes) where
  module _ {r : Outcome} {m' w' : List ℕ} (visits : Visits p (p.limit + 1) 0 z 0 c m w r m' w') where
    from_start : Visits p (suc p.limit) 0 z 0 zeroes m w r m' w'
    from_start = subst (λ (x : Counters). Visits p (suc p.limit) 0 z 0 x m w r m' w') e (subst (λ (n : ℕ). Visits p n 0 z 0 c m w r m' w') (add-one p.limit) visits)

    start_says : (memory : Memory) → Remembers m memory → Says (suc p.limit) (spelled (sequent m z)) 0 m' w' (proving p (sequent m z) memory).0 (proving p (sequent m z) memory).1 r
    unfolding prove
    start_says memory k = from_start.says (start memory) (stands_start k)

    start_reached : (counters_of r).reached ≤ suc p.limit
    start_reached =
        let memory : Memory = record { held = holds m; failures = failed m } in
        let s = says_stands (suc p.limit) (spelled (sequent m z)) 0 m' w' (proving p (sequent m z) memory).1 (proving p (sequent m z) memory).0 r (start_says memory record { held = refl; failures = alike_self (failed m) }) in
        let b = prove_within p.cache p.budget p.limit (sequent m z) memory (few_failures asked.wf) (few_held asked.wf) in
        omega (arith, s.reached, b.reached_fits)

    pub start_proves : Proves p z m w r m' w'
    start_proves =
        let a = from_start in
        record {
          says = start_says;
          beyond = a.beyond;
          size = a.size;
          wf = a.wf;
          grew = a.grew;
          explored = a.within;
          hits = omega (arith, a.struck);
          reached = start_reached;
          words = a.stack;
        }
