-- No call's counts are cut: each is at most the most samples of one call, and all but process have none. Assumes nothing.
use mathlib.Core.List.{List}
use Prim.Native.Nat.{ℕ, ◌/◌, ◌≤◌}
use native.Mathlib.Omega.{arith}
use lib.Ieee.{Float}
use lib.ListN.{length}
use Rattle.std.specs.Prelude.{Ok, Err}
use Rattle.quality.specs.House.{house}
use Rattle.quality.proofs.House.{house_sane}
use Rattle.rates.specs.Setting.{setting_of}
use Rattle.state.specs.State.{fresh_state, zero_state, moved_to}
use Rattle.state.specs.declared.ResamplerState.{ResamplerState}
use Rattle.judge.specs.Refusals.{max_call}
use Rattle.judge.specs.Verdicts.{Verdict, new_verdict, rate_verdict, reset_verdict, skip_verdict}
use Rattle.update.specs.Updated.{updated_state}
use Rattle.resampler.specs.Answers.{Told, refused, accepted, by_verdict}
use Rattle.resampler.specs.Entries.{unless_same, new_told, rate_told, process_told, reset_told, skip_told}
use Rattle.pinned.proofs.Untouched.{process_within}

-- both counts fit
abbrev pub Within : Told → Type 0
Within t = (t.consumed ≤ max_call) × (t.written ≤ max_call)

-- where an accepted call counts nothing
uncounted : (v : Verdict) (s t : ResamplerState) → Within (by_verdict v (λ r. refused r s) (accepted t 0 0))
uncounted (Err r) s t = (omega arith, omega arith)
uncounted (Ok x) s t = (omega arith, omega arith)

pub new_within : (target : ℕ) → Within (new_told target)
unfolding new_told
new_within target = uncounted (new_verdict target) zero_state (fresh_state target)

pub rate_within : (s : ResamplerState) (source : ℕ) (mem coefs : List Float) → Within (rate_told house s source mem coefs)
unfolding rate_told
rate_within s source mem coefs =
    uncounted (rate_verdict house s source (length mem) (length coefs)) s
    (unless_same s source s (updated_state s source (setting_of house source s.target)))

pub process_fits : (s : ResamplerState) (mem coefs input out : List Float) → Within (process_told house s mem coefs input out)
process_fits s mem coefs input out = process_within house house_sane s mem coefs input out

pub reset_within : (s : ResamplerState) (mem : List Float) → Within (reset_told house s mem)
unfolding reset_told
reset_within s mem = uncounted (reset_verdict house s (length mem)) s (moved_to s s.started 0 0 0)

pub skip_within : (s : ResamplerState) → Within (skip_told house s)
unfolding skip_told
skip_within s =
    uncounted (skip_verdict house s) s (moved_to s s.started (s.filt_len / 2) s.samp_frac_num s.magic_samples)
