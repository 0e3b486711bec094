-- What a reader is meant to see: demand 3 about what the resampler's own contracts ensure, for every sane row, every recording made under it and every
-- way to cut it. Each proof here only puts together laws of the other files. Assumes nothing.
use mathlib.Core.Path.{◌≡◌}
use mathlib.Core.List.{List, ◌∷◌, ◌++◌}
use Prim.Native.Nat.{ℕ, ◌+◌, ◌≤◌, ◌<◌}
use lib.Ieee.{Float}
use lib.ListN.{length}
use Rattle.sizes.specs.Sizes.{InLimits, history_needed}
use Rattle.timeline.specs.Laws.{DifferWithin}
use Rattle.quality.specs.Quality.{Sane}
use Rattle.quality.specs.House.{house}
use Rattle.quality.specs.declared.QualityMapping.{QualityMapping}
use Rattle.quality.proofs.House.{house_sane}
use Rattle.rates.specs.Setting.{setting_of}
use Rattle.kernel.specs.Sums.{at}
use Rattle.recording.specs.Recording.{Call, Recording, whole_input, after, finished, Follows, MadeUnder, with_calls}
use Rattle.recording.specs.Demand3.{M, made, PositionLaw, to_read, AllRead, total, Counted, StreamOutputs, TightBound, SameSettings, SameOutside, NextCall, OffersAll, AllGetOn, CutAs, Demand3}
use Rattle.recording.specs.Totals.{counted_total, max_samples, closed_total_told}
use Rattle.recording.proofs.Counts as counts
use Rattle.recording.proofs.Outputs as outputs
use Rattle.recording.proofs.Reading as reading
use Rattle.recording.proofs.Fronts as fronts
use Rattle.recording.proofs.Cuttings as cuttings

-- ONE RECORDING

module _ (row : QualityMapping) (sane : Sane row) (r : Recording) (m : MadeUnder row r) where
  -- the law, after any list of calls
  pub law_of_a_recording : PositionLaw row r
  law_of_a_recording = counts.law row sane r m

  -- the count, once all is read. That room was left is not asked
  pub count : AllRead row r → Counted row r
  count = counts.count row sane r m

  -- `closed_total` tells it, for as many samples as it takes
  pub closed_total_tells : AllRead row r → M row r ≤ max_samples → closed_total_told r.source r.target (M row r) ≡ counted_total (made row r)
  closed_total_tells = counts.closed_total_tells row sane r m

  -- the samples: each output is the stream's, whatever the cutting
  pub outputs_of_a_recording : StreamOutputs row r
  outputs_of_a_recording = outputs.stream_outputs_lem row sane r m

  -- a NaN reaches the outputs next to those that the damage rule spares
  pub tight_bound : TightBound row r
  tight_bound = outputs.tight_bound row sane r m

  -- each call of it is refused for two reasons only, and then it changes nothing
  pub each_call : (cs : List Call) (c : Call) (ds : List Call) → r.calls ≡ cs ++ (c ∷ ds) → NextCall row (with_calls r cs) c
  each_call cs c ds e = reading.next_call row sane (with_calls r cs) (fronts.every_front row r m cs (c ∷ ds) e) c (fronts.every_call row r m cs c ds e)

  -- its first calls, however many, make a recording, so all of this holds after each call
  pub every_front : (cs ds : List Call) → r.calls ≡ cs ++ ds → MadeUnder row (with_calls r cs)
  every_front cs ds = fronts.every_front row r m cs ds

  -- the next call reads everything that is left, if it is offered that and has room enough, both within what one call takes
  pub reads_to_the_end : (c : Call) → Follows row (whole_input row r) (finished r) c → OffersAll row r c → (after (finished r) c).consumed ≡ to_read row r
  reads_to_the_end = reading.reads_to_the_end row sane r m

  -- and smaller calls get there, once there are as many as there is to read and to make
  pub read_at_last : AllGetOn r.calls → to_read row r + total row r ≤ length r.calls → AllRead row r
  read_at_last = reading.read_at_last row sane r m

-- TWO RECORDINGS under the same settings, each cut in its own way

module _ (row : QualityMapping) (sane : Sane row) (q r : Recording) (o : MadeUnder row q) (m : MadeUnder row r) (same : SameSettings q r) where
  -- of the same samples: an output that both have is the same
  pub same_output : q.samples ≡ r.samples → (k : ℕ) → k < made row q → k < made row r → at (finished q).outputs k ≡ at (finished r).outputs k
  same_output = outputs.same_output row sane q r o m same

  -- and read to the end they have the same outputs
  pub cutting_is_free : q.samples ≡ r.samples → AllRead row q → AllRead row r → (finished q).outputs ≡ (finished r).outputs
  cutting_is_free = outputs.cutting_is_free row sane q r o m same

  -- of samples that differ within a..b-1: what misses them is the same
  pub damage_stays_local : (a b : ℕ) → DifferWithin a b q.samples r.samples → SameOutside row a b q r
  damage_stays_local = outputs.damage_stays_local row sane q r o m same

-- THERE ARE SUCH RECORDINGS, for all samples, rates in limits and slices that are long enough

module _ (row : QualityMapping) (source target : ℕ) (samples mem coefs : List Float) (hs : InLimits source) (ht : InLimits target)
    (m : history_needed (setting_of row source target).filt_len ≤ length mem) (k : (setting_of row source target).coefs ≤ length coefs) where
  -- cut in every way
  pub every_cutting : (cut : List (ℕ × List Float)) → (r : Recording) × CutAs row source target samples mem coefs cut r
  every_cutting = cuttings.every_cutting row source target samples mem coefs hs ht m k

  -- and read to the end
  pub can_be_read : Sane row → (cut : List (ℕ × List Float)) × (r : Recording) × CutAs row source target samples mem coefs cut r × AllRead row r
  can_be_read = cuttings.can_be_read row source target samples mem coefs hs ht m k

-- DEMAND 3

pub demand_3 : (row : QualityMapping) → Sane row → Demand3 row
demand_3 row sane = record { count = λ r m all room. count row sane r m all; damage = damage_stays_local row sane }

-- for the row that the resampler's calls name
pub house_demand_3 : Demand3 house
house_demand_3 = demand_3 house house_sane
