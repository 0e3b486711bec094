-- Document 01, "One output, one call": what a round asks of its numbers, and how its contract says what it wrote. Assumes nothing.
use Rattle.std.specs.Prelude.{ℕ, ◌+◌, ◌-◌, ◌/◌, ◌%◌, ◌^◌, ◌≤◌, ◌<◌, ◌≡◌, List, length}
use Rattle.std.proofs.Math.Seq.{paste}
use Rattle.sizes.specs.Sizes.{RatioInLimits}
use Rattle.timeline.specs.Numbers as numbers
use Rattle.timeline.specs.Numbers.{Rate, made, ahead}
use Rattle.timeline.specs.Samples.{Played, outputs}
use Rattle.rates.specs.Setting.{coefficients_of}
use Rattle.rates.specs.declared.Kernel.TheVariants.{Unset}
use Rattle.rates.specs.declared.Setting.{Setting}
use Rattle.rounds.specs.declared.Place.{Place}
use Rattle.rounds.specs.declared.Turn.{Turn}

-- the code's place, as the numbers that `timeline` tells
abbrev pub place_of : Place → numbers.Place
place_of p = record { position = p.position; phase = p.phase }

-- and the code's turn
abbrev pub turn_of : Turn → numbers.Turn
turn_of t = record { consumed = t.consumed.0; written = t.written.0; place = place_of t.place }

-- what a round asks of its setting; any sane row and two rates in limits give such a setting, as `proofs/Settings.antt` proves
pub record Playable (s : Setting) : Type 0 where
  pub terms : RatioInLimits s.num s.den
  pub int_advance : s.int_advance ≡ s.num / s.den
  pub frac_advance : s.frac_advance ≡ s.num % s.den
  pub n_some : 0 < s.filt_len
  pub n_to : s.filt_len ≤ 7680
  pub oversample_to : s.oversample ≤ 16
  pub kernel_set : s.kernel ≡ Unset → ⊥
  pub count : s.coefs ≡ coefficients_of s.kernel s.filt_len s.oversample s.den

-- what a round over `inn` samples asks of its place and of the lengths of the history and the coefficients
pub record RoundFits (s : Setting) (p : numbers.Place) (inn mem coefs : ℕ) : Type 0 where
  pub playable : Playable s
  pub phase : p.phase < s.den
  pub position : p.position ≤ 2 ^ 32
  pub samples : s.filt_len - 1 + inn ≤ mem
  pub samples_to : inn ≤ 2 ^ 32
  pub table : s.coefs ≤ coefs

-- the numbers and the history are those of what was played; the lent output holds its outputs at the front, and the rest of it is untouched
pub record Wrote {N A : Type 0} (h : Played N A) (told : N) (left before after : List A) : Type 0 where
  pub numbers : told ≡ h.numbers
  pub mem : left ≡ h.mem
  pub out : after ≡ paste before 0 h.out (length h.out)

-- the outputs of a round over i samples, as they stand in the lent output, and the place that they led to
pub record Filled {A : Type 0} (weigh : ℕ → List A → A) (r : Rate) (i : ℕ) (p : numbers.Place) (mem : List A) (written : ℕ) (q : numbers.Place) (before after : List A) : Type 0 where
  pub count : written ≡ made r i (length before) p
  pub place : q ≡ ahead r written p
  pub out : after ≡ paste before 0 (outputs weigh r mem written p) written
