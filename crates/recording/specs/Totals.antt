-- Document 01, demand 3 and "Numbers worked by hand": closed totals, told for any two rates and any count of samples.
-- Assumes nothing.
use Rattle.std.specs.Prelude.{ℕ, ◌^◌, Bool, true, false, cond, not, ◌||◌, ltb, Result, Ok, Err}
use Rattle.ratio.specs.Lowest.{lowest}
use Rattle.sizes.specs.Sizes.{in_limits}
use Rattle.rates.specs.Rated.{closed_total}
use Rattle.judge.specs.Refusals.{refusal_number}
use Rattle.judge.specs.declared.Refusal.{Refusal}
use Rattle.judge.specs.declared.Refusal.TheVariants.{Rate}
use Rattle.rounds.specs.declared.Written.{Written}
use Rattle.recording.specs.declared.TotalError.{TotalError}
use Rattle.recording.specs.declared.TotalError.TheVariants.{Refused, TooMany}

-- document 01's number, 0 where it has none; whether the total is the answer; and the total, 0 where it is not
pub record TotalTold : Type 0 where
  pub number : ℕ
  pub counted : Bool
  pub total : ℕ

-- a refusal: its number, and no total
abbrev pub refused_total : Refusal → TotalTold
refused_total r = record { number = refusal_number r; counted = false; total = 0 }

-- too many samples: no total, and no number of document 01 fits
abbrev pub too_many_total : TotalTold
too_many_total = record { number = 0; counted = false; total = 0 }

-- answered with this total
abbrev pub counted_total : ℕ → TotalTold
counted_total total = record { number = 0; counted = true; total = total }

-- what an answer tells
abbrev pub total_told : Result Written TotalError → TotalTold
total_told (Ok written) = counted_total written.0
total_told (Err (Refused r)) = refused_total r
total_told (Err TooMany) = too_many_total

-- the most samples of a recording whose total is told
abbrev pub max_samples : ℕ
max_samples = 2 ^ 40

-- for two rates and M samples: the rates are judged first, both alike, and then the count
unfoldable pub closed_total_told : ℕ → ℕ → ℕ → TotalTold
closed_total_told source target M =
    cond (not (in_limits source) || not (in_limits target)) (refused_total Rate)
    (cond (ltb max_samples M) too_many_total
    (counted_total (closed_total (lowest source target) M)))
