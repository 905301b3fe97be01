-- The limits that document 01 adds to the Rust's search, as a record: all off, the search is the Rust's; as stated, it is document 01's. Assumes nothing.
use Rattle.std.specs.Prelude.{Bool, false, ℕ, ltb}

pub data Limit : Type 0 where
  no_limit : Limit
  at_most : ℕ → Limit

-- the number is more than the limit allows
unfoldable pub exceeds : Limit → ℕ → Bool
exceeds no_limit n = false
exceeds (at_most m) n = ltb m n

pub record Limits : Type 0 where
  -- formulas in a sequent, both zones together (6)
  pub formulas : Limit
  -- distinct formulas held (7)
  pub held : Limit
  -- visits of one call: the budget (8)
  pub visits : Limit
  -- failures held (9)
  pub failures : Limit

abbrev pub off : Limits
off = record { formulas = no_limit; held = no_limit; visits = no_limit; failures = no_limit }

abbrev pub stated : (budget : ℕ) → Limits
stated budget = record { formulas = at_most 31; held = at_most 2048; visits = at_most budget; failures = at_most 1000 }
