-- Steps of asking a memory that was tested before: a number below the count is of a held formula, and a sequent of one held formula stands in the memory. Assumes nothing.
use Rattle.std.proofs.Common.{ap, List, ℕ, ◌+◌, ◌<◌, arith, get_or, length}
use Rattle.zones.specs.declared.Zones.{Zones}
use Rattle.zones.specs.Zones.{Empty, Made, pushed}
use Rattle.zones.specs.ZonesLaws.{linears_length, unrestricteds_length, within_empty, within_made}
use Rattle.memory.specs.Meaning.{held_count, Wf, StandsIn}
use Rattle.memory.specs.MeaningLaws.{wf_length, count_word}

pub first_word : {m : List ℕ} → Wf m → 0 < length m
first_word {m} z = omega (arith, wf_length m z)

pub number_held : (m : List ℕ) (x : ℕ) → x < get_or m 0 0 → x < held_count m
number_held m x l = omega (arith, count_word m)

-- a sequent of one formula
pub empty_room : {z : Zones} → Empty z → z.linear_len + z.unrestricted_len < 31
empty_room e = omega (arith, linears_length e.fits, unrestricteds_length e.fits, ap length e.linear, ap length e.unrestricted)

pub one_stands : (m : List ℕ) {z z' : Zones} (x : ℕ) → x < held_count m → Empty z → Made z (pushed x) z' → StandsIn m z'
one_stands m x l e a = record { fits = a.fits; within = within_made (held_count m) a (within_empty (held_count m) e) l }
