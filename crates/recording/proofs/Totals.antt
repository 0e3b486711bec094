-- Two results that the contract of `closed_total` allows for the same arguments are equal. Assumes nothing.
use mathlib.Core.Path.{◌≡◌, refl, sym, ◌∙◌, ap}
use mathlib.Core.Bool.{Bool, true, false}
use Prim.Native.Nat.{ℕ, zero, suc}
use Rattle.judge.specs.declared.Refusal.TheVariants.{Rate, History, Coefficients, EmptyInput, TooLong, NoRate, State, Mark, Version}
use Rattle.pinned.proofs.OneResult.{refusal_after}
use Rattle.recording.specs.Totals.{TotalTold, total_told, closed_total_told}
use Rattle.std.specs.Prelude.{Result, Ok, Err}
use Rattle.rounds.specs.declared.Written.{Written}
use Rattle.recording.specs.declared.TotalError.{TotalError}
use Rattle.recording.specs.declared.TotalError.TheVariants.{Refused, TooMany}

-- the answer, from what it tells
abbrev total_of : ℕ → Bool → ℕ → Result Written TotalError
total_of zero true total = Ok (record { 0 = total })
total_of zero false total = Err TooMany
total_of (suc n) counted total = Err (Refused (refusal_after n))

abbrev total_from : TotalTold → Result Written TotalError
total_from t = total_of t.number t.counted t.total

-- which undoes `total_told`
total_from_told : (a : Result Written TotalError) → total_from (total_told a) ≡ a
total_from_told (Err (Refused Rate)) = refl
total_from_told (Err (Refused History)) = refl
total_from_told (Err (Refused Coefficients)) = refl
total_from_told (Err (Refused EmptyInput)) = refl
total_from_told (Err (Refused TooLong)) = refl
total_from_told (Err (Refused NoRate)) = refl
total_from_told (Err (Refused State)) = refl
total_from_told (Err (Refused Mark)) = refl
total_from_told (Err (Refused Version)) = refl
total_from_told (Err TooMany) = refl
total_from_told (Ok written) = refl

pub total_pinned : (source target M : ℕ) (a b : Result Written TotalError) → total_told a ≡ closed_total_told source target M → total_told b ≡ closed_total_told source target M → a ≡ b
total_pinned source target M a b p q = sym (total_from_told a) ∙ ap total_from (p ∙ sym q) ∙ total_from_told b
