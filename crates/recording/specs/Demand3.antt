-- Demand 3, and the last paragraph of "One output, one call": what is claimed of every recording, in the numbers that its rates give: num, den, n, the
-- kernel and its table. `proofs/Theorems.antt` proves it, over any sane row. Assumes nothing.
use Rattle.std.specs.Prelude.{◌≡◌, ◌⊎◌, cond, ◌||◌, List, [], ◌∷◌, map, ℕ, ◌+◌, ◌-◌, ◌*◌, ◌/◌, ◌%◌, ◌≤◌, ◌<◌, eqb, ltb, Float, length, take, drop}
use Rattle.std.specs.Float.{nan}
use Rattle.math.specs.Numerals.{nought}
use Rattle.ratio.specs.Lowest.{lowest}
use Rattle.timeline.specs.Recording.{stream, stream_position}
use Rattle.timeline.specs.Laws.{Ceiling, DifferWithin}
use Rattle.quality.specs.declared.QualityMapping.{QualityMapping}
use Rattle.rates.specs.Rated.{closed_total}
use Rattle.filter.specs.Settings.{table_of}
use Rattle.kernel.specs.Sums.{at}
use Rattle.kernel.specs.Step.{step_of}
use Rattle.rounds.specs.Output.{phase_of}
use Rattle.judge.specs.Refusals.{max_call}
use Rattle.resampler.specs.Answers.{told}
use Rattle.pinned.specs.Pinned.{IsRefused}
use Rattle.recording.specs.Recording.{Call, Recording, setting_for, rate_for, whole_input, after, finished, offered, MadeUnder}

module _ (row : QualityMapping) (r : Recording) where
  -- source over target in lowest terms, the filter's length, and how many samples there are
  abbrev pub num : ℕ
  num = (setting_for row r).num

  abbrev pub den : ℕ
  den = (setting_for row r).den

  abbrev pub n : ℕ
  n = (setting_for row r).filt_len

  abbrev pub M : ℕ
  M = length r.samples

  -- how many outputs were made, by the counts that the calls told
  abbrev pub made : ℕ
  made = (finished r).written

  -- ---- the law

  -- the T samples consumed and the place reached add up to the first place, n/2, and num/den for each of the k outputs, all in den-ths:
  -- den*(T+position)+phase = den*(n/2)+k*num. The phase stays below den
  pub record PositionLaw : Type 0 where
    pub law : den * ((finished r).consumed + (finished r).state.last_sample) + (finished r).state.samp_frac_num ≡ den * (n / 2) + made * num
    pub phase : (finished r).state.samp_frac_num < den

  -- ---- the count

  -- how much is to be read: the M samples and the closing zeros
  abbrev pub to_read : ℕ
  to_read = M + n / 2

  -- all of it is read
  abbrev pub AllRead : Type 0
  AllRead = (finished r).consumed ≡ to_read

  -- M*den/num, rounded up, which is (M*den+num-1)/num, rounded down
  abbrev pub total : ℕ
  total = closed_total (lowest r.source r.target) M

  -- exactly so many outputs were made, and that is the least number whose product with num reaches M*den
  pub record Counted : Type 0 where
    pub exactly : made ≡ total
    pub least : Ceiling (M * den) num made

  -- ---- the samples

  -- the stream: n-1 zeros, the M samples, n/2 zeros
  abbrev pub whole_stream : List Float
  whole_stream = stream nought (rate_for row r) (whole_input row r)

  -- where the window of output k starts in it: its stream position, n/2 + floor(k*num/den)
  abbrev pub window_start : ℕ → ℕ
  window_start k = stream_position (rate_for row r) k

  -- output k by the kernel's own step: at phase k*num mod den, over the table of these rates, of the n entries of the stream from its position on
  abbrev pub output_at : ℕ → Float
  output_at k =
      let s = setting_for row r in
      step_of (phase_of s (k * num % den)) n s.oversample (table_of s) (take n (drop (window_start k) whole_stream))

  -- there are as many outputs as the counts say; the window of each lies within the stream; and each is that one
  pub record StreamOutputs : Type 0 where
    pub many : length (finished r).outputs ≡ made
    pub within : (k : ℕ) → k < made → window_start k + n ≤ length whole_stream
    pub each : (k : ℕ) → k < made → at (finished r).outputs k ≡ output_at k

  -- ---- damage

  -- the window of output k misses samples a to b-1
  abbrev pub Misses : ℕ → ℕ → ℕ → Type 0
  Misses a b k = (window_start k < a) ⊎ (b + n - 1 ≤ window_start k)

  -- the next positions on either side are not missed: a NaN as sample a reaches every output at stream position a, and as sample b-1 every one at b+n-2
  pub record TightBound : Type 0 where
    pub below : (a k : ℕ) → a < M → at r.samples a ≡ nan → window_start k ≡ a → k < made → at (finished r).outputs k ≡ nan
    pub above : (b k : ℕ) → 0 < b → b ≤ M → at r.samples (b - 1) ≡ nan → window_start k ≡ b + n - 2 → k < made
        → at (finished r).outputs k ≡ nan

-- two recordings under the same settings
pub record SameSettings (q r : Recording) : Type 0 where
  pub source : q.source ≡ r.source
  pub target : q.target ≡ r.target

-- the outputs that both have and whose windows miss samples a to b-1 are identical. Any NaN counts as one: the logic has one NaN
abbrev pub SameOutside : QualityMapping → ℕ → ℕ → Recording → Recording → Type 0
SameOutside row a b q r =
    (k : ℕ) → Misses row q a b k → k < made row q → k < made row r → at (finished q).outputs k ≡ at (finished r).outputs k

-- ---- calls, and how all comes to be read

-- a call made where a recording stands gets 4 where no sample is left for it or offered, else 5 where the samples offered or the room are more than one
-- call takes, and is accepted else. Refused, it changes nothing
pub record NextCall (row : QualityMapping) (r : Recording) (c : Call) : Type 0 where
  pub number : (told c.answer).number
      ≡ (let inn = length (offered (whole_input row r) (finished r) c) in
      cond (eqb inn 0) 4 (cond (ltb max_call inn || ltb max_call (length c.out)) 5 0))
  pub refused : IsRefused (told c.answer) → (after (finished r) c ≡ finished r) × (c.out' ≡ c.out)

-- a call is offered everything that is left, with more room than the outputs that the count lacks, and no more of either than one call takes
pub record OffersAll (row : QualityMapping) (r : Recording) (c : Call) : Type 0 where
  pub all : to_read row r ≤ (finished r).consumed + c.offers
  pub left_to : to_read row r ≤ (finished r).consumed + max_call
  pub room : total row r < made row r + length c.out
  pub room_to : length c.out ≤ max_call

-- a call would take a sample or more, if any is left, and has room for an output or more, and no more of either than one call takes
pub record GetsOn (c : Call) : Type 0 where
  pub some : 0 < c.offers
  pub offers_to : c.offers ≤ max_call
  pub room : 0 < length c.out
  pub room_to : length c.out ≤ max_call

-- every call of a list gets on so
abbrev pub AllGetOn : List Call → Type 0
AllGetOn [] = Unit {0}
AllGetOn (c ∷ cs) = GetsOn c × AllGetOn cs

-- what a call is given: the most samples that it is offered, and the output that it is lent
abbrev pub given : Call → ℕ × List Float
given c = (c.offers, c.out)

-- a recording of these samples at these rates, in these slices, whose calls are given this
pub record CutAs (row : QualityMapping) (source target : ℕ) (samples mem coefs : List Float) (cut : List (ℕ × List Float)) (r : Recording) : Type 0 where
  pub made_under : MadeUnder row r
  pub source_is : r.source ≡ source
  pub target_is : r.target ≡ target
  pub samples_are : r.samples ≡ samples
  pub mem_is : r.mem ≡ mem
  pub coefs_are : r.coefs ≡ coefs
  pub cut_is : map given r.calls ≡ cut

-- the last call left room
abbrev pub RoomLeft : List Call → Type 0
RoomLeft [] = ⊥
RoomLeft (c ∷ []) = (told c.answer).written < length c.out
RoomLeft (c ∷ d ∷ cs) = RoomLeft (d ∷ cs)

-- ---- demand 3, as it is asked: with room left, which the count does not need
pub record Demand3 (row : QualityMapping) : Type 0 where
  -- however a recording is cut into calls, once all of it is read the count is exact
  pub count : (r : Recording) → MadeUnder row r → AllRead row r → RoomLeft r.calls → Counted row r
  -- two that differ at most in samples a to b-1 agree in every output whose window misses those
  pub damage : (q r : Recording) → MadeUnder row q → MadeUnder row r → SameSettings q r
      → (a b : ℕ) → DifferWithin a b q.samples r.samples → SameOutside row a b q r
