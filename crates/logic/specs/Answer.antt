-- Document 01's table "What a call can say": a name for each refusal, and its number. 0 and 1 are no refusals. Assumes nothing.
use Rattle.std.specs.Prelude.{ℕ}

pub data Refusal : Type 0 where
  -- wrong version, kind or rule number
  wrong_number : Refusal
  -- a length or end does not agree
  wrong_length : Refusal
  -- formula tag above 12
  wrong_tag : Refusal
  -- formula higher than 64, or tree higher than 65
  too_high : Refusal
  -- a sequent of more than 31 formulas, both zones together
  too_many : Refusal
  -- more than 2,048 distinct formulas would be held
  held_full : Refusal
  -- a sequent is to be visited and the budget is spent
  budget_spent : Refusal
  -- a new failure is to be recorded and 1,000 are held
  failures_full : Refusal
  -- output longer than its buffer, or a tree body over 65,535 bytes
  output_short : Refusal
  -- depth limit over 64; budget 0 or over 16,384; work slice shorter than the budget
  wrong_setting : Refusal
  -- lent memory has the wrong length or is not well-formed
  wrong_memory : Refusal

abbrev pub number : Refusal → ℕ
number wrong_number = 2
number wrong_length = 3
number wrong_tag = 4
number too_high = 5
number too_many = 6
number held_full = 7
number budget_spent = 8
number failures_full = 9
number output_short = 10
number wrong_setting = 11
number wrong_memory = 12
