-- Document 01, "One output, one call": what a call asks of its numbers. Assumes nothing.
use Rattle.std.specs.Prelude.{ℕ, ◌+◌, ◌-◌, ◌^◌, ◌≤◌, ◌<◌}
use Rattle.timeline.specs.Numbers as numbers
use Rattle.rates.specs.declared.Setting.{Setting}
use Rattle.rounds.specs.Rounds.{turn_of, Playable}
use Rattle.calls.specs.declared.Called.{Called}

-- what the code's call did, as the numbers that `timeline` tells
abbrev pub called_of : Called → numbers.Called
called_of c = record { turn = turn_of c.turn; magic = c.magic }

-- what a call with m magic samples asks of its setting, of alloc, of its place, and of the lengths of the history and the coefficients
pub record CallFits (s : Setting) (alloc m : ℕ) (p : numbers.Place) (mem coefs : ℕ) : Type 0 where
  pub playable : Playable s
  pub phase : p.phase < s.den
  pub position : p.position ≤ 2 ^ 32
  -- a chunk is at least one sample
  pub chunk : s.filt_len + 1 < alloc
  pub alloc_to : alloc ≤ 2 ^ 32
  pub lent : alloc ≤ mem
  pub magic : s.filt_len - 1 + m ≤ alloc
  pub table : s.coefs ≤ coefs
