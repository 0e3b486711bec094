-- A call's numbers fit each of its rounds, and still do at the place where a round ended. Assumes nothing.
use mathlib.Core.Path.{◌≡◌}
use Prim.Native.Nat.{ℕ, ◌+◌, ◌-◌, ◌*◌, ◌^◌, ◌≤◌, ◌<◌}
use native.Mathlib.Omega.{arith}
use Rattle.timeline.specs.Numbers.{Place, Fit}
use Rattle.rates.specs.Rated.{rate_with}
use Rattle.rates.specs.declared.Setting.{Setting}
use Rattle.rounds.specs.Rounds.{RoundFits}
use Rattle.calls.specs.Calls.{CallFits}

module _ {s : Setting} {alloc m : ℕ} {p : Place} {mem coefs : ℕ} (f : CallFits s alloc m p mem coefs) where
  -- a rate as `timeline` asks for it
  pub fit : Fit (rate_with s alloc)
  fit = record {
    num = f.playable.terms.num_from;
    den = f.playable.terms.den_from;
    n = f.playable.n_some;
    alloc = f.chunk;
  }

  -- an output moves the position by far less than it may be
  pub slow : s.num ≤ s.den * 2 ^ 32
  slow = omega (arith, f.playable.terms)

  -- a round over i samples at entry n-1 on, where they end by alloc
  pub round_fits : (i : ℕ) → s.filt_len - 1 + i ≤ alloc → RoundFits s p i mem coefs
  round_fits i h = record {
    playable = f.playable;
    phase = f.phase;
    position = f.position;
    samples = omega (arith, f.lent);
    samples_to = omega (arith, f.alloc_to);
    table = f.table;
  }

  -- at another place, over a history of the same length, with no magic samples left
  pub fits_at : {q : Place} {mem' : ℕ} → q.phase < s.den → q.position ≤ 2 ^ 32 → mem' ≡ mem → CallFits s alloc 0 q mem' coefs
  fits_at h k e = record {
    playable = f.playable;
    phase = h;
    position = k;
    chunk = f.chunk;
    alloc_to = f.alloc_to;
    lent = omega (arith, f.lent);
    magic = omega (arith, f.chunk);
    table = f.table;
  }
