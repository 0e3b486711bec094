-- Document 01, "One output, one call": what a run of outputs asks, and how far it has come. Assumes nothing.
use Rattle.std.specs.Prelude.{ℕ, ◌+◌, ◌-◌, ◌*◌, ◌/◌, ◌^◌, ◌≤◌, ◌<◌, ◌≡◌, List, [], ◌∷◌, length, Float}
use Rattle.std.proofs.Math.Seq.{paste}
use Rattle.timeline.specs.Numbers.{Place, ahead}
use Rattle.timeline.specs.Samples.{output, outputs}
use Rattle.rates.specs.Rated.{rate_with}
use Rattle.rates.specs.declared.Setting.{Setting}
use Rattle.lanes.specs.declared.Weave.{Weave}
use Rattle.rounds.specs.Output.{weigh_of}

-- the numbers of `count` outputs from place p on are small enough to reckon with
pub record Numbered (s : Setting) (p : Place) (count : ℕ) : Type 0 where
  pub phase : p.phase < s.den
  pub position : p.position ≤ 2 ^ 32
  pub each : (j : ℕ) → j < count → (ahead (rate_with s 0) j p).position ≤ 2 ^ 32

-- the window of an output at p lies within the history
pub record Stands (s : Setting) (p : Place) (mem : ℕ) : Type 0 where
  pub phase : p.phase < s.den
  pub position : p.position ≤ 2 ^ 32
  pub window : p.position + s.filt_len ≤ mem

-- the windows of `count` outputs from place p on lie within the history
pub record RunFits (s : Setting) (p : Place) (count mem : ℕ) : Type 0 where
  pub phase : p.phase < s.den
  pub each : (j : ℕ) → j < count → Stands s (ahead (rate_with s 0) j p) mem

-- four outputs
abbrev pub four_outputs : Setting → List Float → List Float → Place → Place → Place → Place → List Float
four_outputs s coefs mem a b c d =
    let one = output (weigh_of s coefs) (rate_with s 0) mem in
    one a ∷ one b ∷ one c ∷ one d ∷ []

-- of `count` outputs from place p on the first i are made, and the next stands at q
pub record Ran (s : Setting) (coefs mem : List Float) (p : Place) (count i : ℕ) (q : Place) (before after : List Float) : Type 0 where
  pub within : i ≤ count
  pub place : q ≡ ahead (rate_with s 0) i p
  pub same : length after ≡ length before
  pub out : after ≡ paste before 0 (outputs (weigh_of s coefs) (rate_with s 0) mem count p) i

-- the lanes' numbers are those of `count` outputs from place p on: the layout holds every window, and fits
pub record WeaveFits (s : Setting) (p : Place) (w : Weave) : Type 0 where
  pub num : w.num ≡ s.num
  pub den : w.den ≡ s.den
  pub n : w.n ≡ s.filt_len
  pub some : 0 < w.count
  pub reach : w.reach ≡ (p.phase + (w.count - 1) * s.num) / s.den + s.filt_len
  pub rows : w.num * w.stride + 32 ≤ 2048
  pub columns : w.reach ≤ w.stride * w.num
