-- The law and the count of a recording. Assumes nothing.
use mathlib.Core.Path.{◌≡◌, refl, sym, ◌∙◌, ap}
use Prim.Native.Nat.{◌*◌, ◌≤◌}
use native.Mathlib.Omega.{arith}
use borrow.Author.Tests.{le-ltb}
use lib.Ieee.{Float}
use lib.ListN.{length, drop}
use Rattle.math.specs.Numerals.{nought}
use Rattle.sizes.proofs.Tests.{test_passes}
use Rattle.timeline.specs.Numbers.{Called, Fit, fresh}
use Rattle.timeline.specs.Samples.{Played}
use Rattle.timeline.specs.Recording.{recorded}
use Rattle.timeline.specs.Laws as laws
use Rattle.timeline.specs.Laws.{upwards}
use Rattle.timeline.proofs.Turns.{Moved}
use Rattle.timeline.proofs.Law.{recorded_moves}
use Rattle.timeline.proofs.Theorems.{law_of_a_recording, numbers_of_a_recording, length_of_a_recording, least_closed_count, closed_count_is}
use Rattle.timeline.proofs.Streams.{length_closed}
use Rattle.quality.specs.Quality.{Sane}
use Rattle.quality.specs.declared.QualityMapping.{QualityMapping}
use Rattle.rates.specs.Setting.{setting_at, setting_of}
use Rattle.rates.proofs.Limits.{limits, rate_fits}
use Rattle.recording.specs.Recording.{Recording, Progress, rate_for, whole_input, finished, MadeUnder}
use Rattle.recording.specs.Demand3.{num, den, M, made, PositionLaw, to_read, AllRead, total, Counted}
use Rattle.recording.specs.Totals.{counted_total, max_samples, closed_total_told}
use Rattle.recording.proofs.Reached.{weighing, by_offers, done, Reached, reached}

-- the total, by the numbers of the setting
pub total_is : (row : QualityMapping) (r : Recording) → total row r ≡ upwards (M row r * den row r) (num row r)
unfolding setting_of setting_at
total_is row r = refl

module _ (row : QualityMapping) (sane : Sane row) (r : Recording) (m : MadeUnder row r) where
  -- its rate is one that `timeline`'s laws ask for
  pub rate_fit : Fit (rate_for row r)
  rate_fit = rate_fits (rate_for row r).alloc sane (limits row sane r.source r.target m.source_in m.target_in) (omega arith)

  -- the numbers so far are those that the offers give
  numbers_are : (h : Progress) (g : Reached row r h) → recorded (rate_for row r) (length (whole_input row r)) g.offers ≡ (done h).numbers
  numbers_are h g =
      sym (numbers_of_a_recording (weighing row r) nought (rate_for row r) (drop (rate_for row r).alloc r.mem) (whole_input row r) g.offers)
      ∙ ap (λ (p : Played Called Float). p.numbers) g.same

  -- what the calls so far did to the numbers
  pub moved : (h : Progress) → Reached row r h → Moved (rate_for row r) 0 (to_read row r) (fresh (rate_for row r)) (done h).numbers
  moved h g =
      rw (numbers_are h g, length_closed nought (rate_for row r) r.samples) at
      (recorded_moves (rate_for row r) rate_fit (length (whole_input row r)) g.offers)

  -- there are as many outputs as the counts say
  pub outputs_many : length (finished r).outputs ≡ made row r
  outputs_many =
      let g = reached row sane r m in
      ap (λ (p : Played Called Float). length p.out) (sym g.same)
      ∙ length_of_a_recording (weighing row r) nought (rate_for row r) (drop (rate_for row r).alloc r.mem) (whole_input row r) g.offers rate_fit
      ∙ ap (λ (c : Called). c.turn.written) (numbers_are (finished r) g)

  -- the law
  pub law : PositionLaw row r
  law =
      let g = reached row sane r m in
      let l : laws.Law (rate_for row r) (done (finished r)).numbers.turn =
      rw (numbers_are (finished r) g) at (law_of_a_recording (rate_for row r) rate_fit (length (whole_input row r)) g.offers) in
      record { law = omega (arith, l.law); phase = l.phase }

  -- the count, once all is read
  pub count : AllRead row r → Counted row r
  count all =
      let g = reached row sane r m in
      let excess = drop (rate_for row r).alloc r.mem in
      let read : laws.AllRead (whole_input row r) (by_offers row r g.offers) =
      ap (λ (p : Played Called Float). p.numbers.turn.consumed) g.same ∙ all ∙ sym (length_closed nought (rate_for row r) r.samples) in
      let many : length (by_offers row r g.offers).out ≡ made row r = ap (λ (p : Played Called Float). length p.out) g.same ∙ outputs_many in
      record {
        exactly = sym many ∙ closed_count_is (weighing row r) nought (rate_for row r) rate_fit excess r.samples g.offers read ∙ sym (total_is row r);
        least = rw many at (least_closed_count (weighing row r) nought (rate_for row r) rate_fit excess r.samples g.offers read);
      }

  -- which is what `closed_total` tells
  pub closed_total_tells : AllRead row r → M row r ≤ max_samples → closed_total_told r.source r.target (M row r) ≡ counted_total (made row r)
  unfolding closed_total_told
  closed_total_tells all h =
      rw (test_passes r.source m.source_in, test_passes r.target m.target_in, le-ltb max_samples (M row r) h) (ap counted_total (sym (count all).exactly))
