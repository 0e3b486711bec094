-- Every output of a recording is the stream's, by the kernel's own step over the table of its rates. So it goes by the samples in its window, and a NaN
-- there makes it a NaN. Assumes nothing.
use mathlib.Core.Logic.{inl, inr}
use mathlib.Core.Path.{◌≡◌, refl, sym, ◌∙◌, ap, ap₂}
use mathlib.Core.List.{List}
use Prim.Native.Nat.{ℕ, ◌+◌, ◌-◌, ◌*◌, ◌%◌, ◌≤◌, ◌<◌}
use native.Mathlib.Nat.{mod-lt}
use native.Mathlib.Omega.{arith}
use lib.Ieee.{Float, nan}
use lib.ListN.{length, take, drop, replicate, length-append, length-replicate, get_or-append}
use lib.Seq.{get_or-take, get_or-drop, get_or-append-add, ext_get_or}
use Rattle.math.specs.Numerals.{nought}
use Rattle.ratio.specs.Lowest.{lowest}
use Rattle.ratio.specs.declared.Ratio.{Ratio}
use Rattle.sizes.specs.Sizes.{history_needed}
use Rattle.timeline.specs.Samples.{Played}
use Rattle.timeline.specs.Numbers.{Place, Called}
use Rattle.timeline.specs.Recording as timeline
use Rattle.timeline.specs.Recording.{stream_output}
use Rattle.timeline.specs.Laws as laws
use Rattle.timeline.specs.Laws.{DifferWithin}
use Rattle.timeline.proofs.Parts.{get_d_front}
use Rattle.timeline.proofs.Theorems.{output_of_a_recording}
use Rattle.timeline.proofs.Streams.{ahead_fresh, output_misses, length_closed, closed_differ}
use Rattle.quality.specs.Quality.{Sane}
use Rattle.quality.specs.declared.QualityMapping.{QualityMapping}
use Rattle.rates.specs.Setting.{setting_of}
use Rattle.rates.specs.Rated.{rate_with, closed_total}
use Rattle.filter.specs.Settings.{table_of}
use Rattle.filter.proofs.Settings.{length_table, setting_fits}
use Rattle.kernel.specs.Sums.{at}
use Rattle.kernel.proofs.Local.{step_table, step_nan}
use Rattle.rounds.specs.Output.{phase_of, weigh_of}
use Rattle.rounds.proofs.Phases.{reaches}
use Rattle.rounds.proofs.Settings.{setting_playable}
use Rattle.recording.specs.Recording.{Recording, setting_for, rate_for, whole_input, finished, MadeUnder}
use Rattle.recording.specs.Demand3.{num, den, n, M, made, AllRead, whole_stream, window_start, output_at, StreamOutputs, Misses, TightBound, SameSettings, SameOutside}
use Rattle.recording.proofs.Reached.{weighing, coefs_is, reached}
use Rattle.recording.proofs.Counts.{rate_fit, moved, outputs_many, count}

-- ---- one recording

-- output k of the stream, by the rates and the samples, in `timeline`'s words
abbrev streamed : QualityMapping → ℕ → ℕ → List Float → ℕ → Float
streamed row source target samples k =
    let s = setting_of row source target in
    let rate = rate_with s (history_needed s.filt_len) in
    stream_output (weigh_of s (table_of s)) nought rate (timeline.closed nought rate samples) k

-- it is the one that is claimed
streamed_is : (row : QualityMapping) (r : Recording) (k : ℕ) → streamed row r.source r.target r.samples k ≡ output_at row r k
streamed_is row r k = refl

module _ (row : QualityMapping) (sane : Sane row) (r : Recording) (m : MadeUnder row r) where
  -- an output by the coefficients that set rate left is one by the table
  by_the_table : (phase : ℕ) (window : List Float) → phase < den row r
      → weighing row r phase window ≡ weigh_of (setting_for row r) (table_of (setting_for row r)) phase window
  by_the_table phase window h =
      let s = setting_for row r in
      let fits = setting_fits row sane r.source r.target m.source_in m.target_in (length r.coefs) m.coefficients in
      let long : s.coefs ≤ length (table_of s) = omega (arith, length_table s (length r.coefs) fits) in
      let playable = setting_playable {row = row} {source = r.source} {target = r.target} sane m.source_in m.target_in in
      ap (λ (l : List Float). weigh_of s l phase window) (coefs_is row sane r m)
      ∙ step_table (phase_of s phase) (n row r) s.oversample s.coefs _ (table_of s) window (reaches playable h (omega arith))
      (λ j l. get_d_front r.coefs (table_of s) s.coefs j nan long l)

  -- output k is output k of the stream
  output_at_lem : (k : ℕ) → k < made row r → at (finished r).outputs k ≡ output_at row r k
  output_at_lem k h =
      let g = reached row sane r m in
      let out-is = ap (λ (p : Played Called Float). p.out) g.same in
      let excess = drop (rate_for row r).alloc r.mem in
      ap (λ (l : List Float). at l k) (sym out-is)
      ∙ output_of_a_recording (weighing row r) nought (rate_for row r) excess (whole_input row r) g.offers (rate_fit row sane r m) nan k
      (rw (out-is, outputs_many row sane r m) h)
      ∙ by_the_table (k * num row r % den row r) _ (mod-lt (k * num row r) (rate_fit row sane r m).den)
      ∙ streamed_is row r k

  -- its window lies within the stream, since it was made where the position was below what is to be read
  window_within : (k : ℕ) → k < made row r → window_start row r k + n row r ≤ length (whole_stream row r)
  window_within k h =
      let below = (moved row sane r m (finished r) (reached row sane r m)).below k h in
      let place = ap (λ (p : Place). p.position) (ahead_fresh (rate_for row r) (rate_fit row sane r m) k) in
      let zeros = replicate (n row r - 1) nought in
      omega (
        arith,
        below,
        place,
        (rate_fit row sane r m).n,
        length-append zeros (whole_input row r),
        length-replicate (n row r - 1) nought,
        length_closed nought (rate_for row r) r.samples,
      )

  pub stream_outputs_lem : StreamOutputs row r
  stream_outputs_lem = record { many = outputs_many row sane r m; within = λ k h. omega (arith, window_within k h); each = output_at_lem }

  -- ---- a NaN in the window
  module _ (i : ℕ) (within : i < M row r) (e : at r.samples i ≡ nan) where
    -- sample i is entry n-1+i of the stream
    entry_of : at (whole_stream row r) (n row r - 1 + i) ≡ nan
    entry_of =
        ap (λ (k : ℕ). at (whole_stream row r) (k + i)) (sym (length-replicate (n row r - 1) nought))
        ∙ get_or-append-add (replicate (n row r - 1) nought) (whole_input row r) i nan
        ∙ get_or-append r.samples _ nan i within
        ∙ e

    -- it reaches every output whose window holds it
    nan_reaches : (k : ℕ) → window_start row r k ≤ n row r - 1 + i → n row r - 1 + i < window_start row r k + n row r
        → k < made row r → at (finished r).outputs k ≡ nan
    nan_reaches k from to h =
        let s = setting_for row r in
        let at-k = window_start row r k in
        let j = n row r - 1 + i - at-k in
        let place : at-k + j ≡ n row r - 1 + i = omega arith in
        let entry : at (take (n row r) (drop at-k (whole_stream row r))) j ≡ nan =
        get_or-take (n row r) (drop at-k (whole_stream row r)) j nan (omega arith) ∙ get_or-drop at-k (whole_stream row r) j nan ∙ ap (at (whole_stream row r)) place ∙ entry_of in
        output_at_lem k h ∙ step_nan (phase_of s (k * num row r % den row r)) (n row r) s.oversample j (table_of s) _ (omega arith) entry

  pub tight_bound : TightBound row r
  tight_bound =
      let n_some = (rate_fit row sane r m).n in
      record {
        below = λ a k within e p h. nan_reaches a within e k (omega (arith, p)) (omega (arith, p, n_some)) h;
        above = λ b k some within e p h. nan_reaches (b - 1) (omega arith) e k (omega (arith, p, n_some)) (omega (arith, p, n_some)) h;
      }

-- ---- two recordings

-- what misses samples a to b-1, as `timeline` says it
missing : (row : QualityMapping) (r : Recording) (a b k : ℕ) → Misses row r a b k → laws.Misses (rate_for row r) a b k
missing row r a b k (inl h) = inl (omega arith)
missing row r a b k (inr h) = inr (omega arith)

module _ (row : QualityMapping) (sane : Sane row) (q r : Recording) (o : MadeUnder row q) (m : MadeUnder row r) (same : SameSettings q r) where
  -- outputs that both have are equal where the stream's are
  outputs_agree : (k : ℕ) → streamed row q.source q.target q.samples k ≡ streamed row q.source q.target r.samples k
      → k < made row q → k < made row r → at (finished q).outputs k ≡ at (finished r).outputs k
  outputs_agree k e h g =
      output_at_lem row sane q o k h
      ∙ e
      ∙ ap₂ (λ (source target : ℕ). streamed row source target r.samples k) same.source same.target
      ∙ sym (output_at_lem row sane r m k g)

  pub damage_stays_local : (a b : ℕ) → DifferWithin a b q.samples r.samples → SameOutside row a b q r
  damage_stays_local a b w k misses h g =
      let s = setting_for row q in
      let rate = rate_for row q in
      outputs_agree k
      (output_misses nought rate (rate_fit row sane q o) (weigh_of s (table_of s)) a b k _ _ (closed_differ nought rate a b q.samples r.samples w) (missing row q a b k misses))
      h g

  -- of the same samples, however they are cut
  pub same_output : q.samples ≡ r.samples → (k : ℕ) → k < made row q → k < made row r → at (finished q).outputs k ≡ at (finished r).outputs k
  same_output e k h g = outputs_agree k (ap (λ (l : List Float). streamed row q.source q.target l k) e) h g

  -- so once both are read to the end, they have the same outputs
  pub cutting_is_free : q.samples ≡ r.samples → AllRead row q → AllRead row r → (finished q).outputs ≡ (finished r).outputs
  cutting_is_free e x y =
      let as_many : made row q ≡ made row r =
      (count row sane q o x).exactly
      ∙ ap₂ (λ (l : List Float) (p : Ratio). closed_total p (length l)) e (ap₂ lowest same.source same.target)
      ∙ sym (count row sane r m y).exactly in
      let a = outputs_many row sane q o in
      let b = outputs_many row sane r m in
      ext_get_or nan (finished q).outputs (finished r).outputs (a ∙ as_many ∙ sym b)
      (λ k h. same_output e k (omega (arith, a)) (omega (arith, a, as_many)))
