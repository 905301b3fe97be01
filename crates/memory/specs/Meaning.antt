-- What the whole lent memory means: its formulas, the formula of a number, its failures as keys; what is held stays held. Assumes nothing: these are definitions.
use Rattle.std.specs.Prelude.{◌≡◌, List, [], ℕ, ◌≤◌, ◌<◌, length, take, drop}
use Rattle.logic.specs.Answer.{number, wrong_memory}
use Rattle.logic.specs.Formula.{Formula}
use Rattle.logic.specs.Key.{Key, sequent_key}
use Rattle.zones.specs.declared.Zones.{Zones}
use Rattle.zones.specs.Zones.{Fits, Within, meant}
use Rattle.held.specs.Words as formulas
use Rattle.failures.specs.Records as records
use Rattle.failures.specs.Failed as failures

-- the two parts, and how many words there are together
abbrev pub words : ℕ
words = 45290

abbrev pub formula_words : List ℕ → List ℕ
formula_words m = take 12289 m

abbrev pub failure_words : List ℕ → List ℕ
failure_words m = drop 12289 m

-- the formulas held in order of entry, how many they are, the formula of a number, and the failures in order of entry
unfoldable pub holds : List ℕ → List Formula
holds m = formulas.view (formula_words m)

unfoldable pub held_count : List ℕ → ℕ
held_count m = formulas.count (formula_words m)

unfoldable pub told : List ℕ → ℕ → Formula
told m x = formulas.told (formula_words m) x

unfoldable pub failed : List ℕ → List Key
failed m = failures.failed (formulas.told (formula_words m)) (failure_words m)

pub record Wf (m : List ℕ) : Type 0 where
  pub formulas : formulas.Wf (formula_words m)
  pub failures : records.WfFailures (formula_words m) (failure_words m)

-- what is held stays held, under its number
pub record Grew (m m' : List ℕ) : Type 0 where
  pub more : held_count m ≤ held_count m'
  pub same : (x : ℕ) → x < held_count m → told m' x ≡ told m x

-- z is a sequent of held formulas
pub record StandsIn (m : List ℕ) (z : Zones) : Type 0 where
  pub fits : Fits z
  pub within : Within (held_count m) z

abbrev pub key_of : List ℕ → Zones → Key
key_of m z = sequent_key (meant (told m) z)

-- nothing is held
pub record Emptied (m : List ℕ) : Type 0 where
  pub wf : Wf m
  pub no_formula : holds m ≡ []
  pub no_failure : failed m ≡ []

-- `reset` answers r and leaves the words m': 0, and nothing is held; or 12, where the words are not as many as there must be, and they stay as they are
pub record ResetTo (m : List ℕ) (r : ℕ) (m' : List ℕ) : Type 0 where
  pub done : length m ≡ words → (r ≡ 0) × Emptied m'
  pub refused : (length m ≡ words → ⊥) → (r ≡ number wrong_memory) × (m' ≡ m)
