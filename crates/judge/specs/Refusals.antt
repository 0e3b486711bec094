-- Document 01, "Refusal numbers": the table; "Sizes": the most samples of one call.
-- Assumes nothing.
use Rattle.std.specs.Prelude.{ℕ}
use Rattle.judge.specs.declared.Refusal.{Refusal}
use Rattle.judge.specs.declared.Refusal.TheVariants.{Rate, History, Coefficients, EmptyInput, TooLong, NoRate, State, Mark, Version}

-- the number of each refusal
abbrev pub refusal_number : Refusal → ℕ
refusal_number Rate = 1
refusal_number History = 2
refusal_number Coefficients = 3
refusal_number EmptyInput = 4
refusal_number TooLong = 5
refusal_number NoRate = 6
refusal_number State = 7
refusal_number Mark = 8
refusal_number Version = 9

-- the most samples that one call takes, and the most that it gives
abbrev pub max_call : ℕ
max_call = 16777216
