-- What the calls on one formula answer: the code's refusals beside document 01's, and what a reader's answer is. Assumes nothing.
use Rattle.std.specs.Prelude.{ℕ, ◌-◌, length}
use Rattle.logic.specs.Answer as answer
use Rattle.wire.specs.Read as wire
use Rattle.formula.specs.declared.Refusal.{Refusal}
use Rattle.formula.specs.declared.Refusal.TheVariants.{
  WrongNumber,
  WrongLength,
  WrongTag,
  TooHigh,
  TooMany,
  HeldFull,
  BudgetSpent,
  FailuresFull,
  OutputShort,
  WrongSetting,
  WrongMemory,
}
use Rattle.std.specs.Prelude.{Result, Ok, Err}

-- the code's refusal, by document 01's; and back, so each has document 01's number
unfoldable pub coded : answer.Refusal → Refusal
coded answer.wrong_number = WrongNumber
coded answer.wrong_length = WrongLength
coded answer.wrong_tag = WrongTag
coded answer.too_high = TooHigh
coded answer.too_many = TooMany
coded answer.held_full = HeldFull
coded answer.budget_spent = BudgetSpent
coded answer.failures_full = FailuresFull
coded answer.output_short = OutputShort
coded answer.wrong_setting = WrongSetting
coded answer.wrong_memory = WrongMemory

abbrev pub named : Refusal → answer.Refusal
named WrongNumber = answer.wrong_number
named WrongLength = answer.wrong_length
named WrongTag = answer.wrong_tag
named TooHigh = answer.too_high
named TooMany = answer.too_many
named HeldFull = answer.held_full
named BudgetSpent = answer.budget_spent
named FailuresFull = answer.failures_full
named OutputShort = answer.output_short
named WrongSetting = answer.wrong_setting
named WrongMemory = answer.wrong_memory

abbrev pub number_of : Refusal → ℕ
number_of r = answer.number (named r)

-- a reader whose bytes end at `end`: the place after what it read, or the refusal
unfoldable pub reads : {A : Type 0} → (end : ℕ) → wire.Read A → Result ℕ Refusal
reads end (wire.got a rest) = Ok (end - length rest)
reads end (wire.refused k) = Err (coded k)
