-- What a reader is meant to see: however a file is cut into reads, the blocks that the program hands on to be written, one after another, are `conformed`
-- of all bytes read; and for rates that differ their samples are a recording's outputs, as many as `closed_total` tells. Assumes nothing.
use mathlib.Core.Path.{◌≡◌, refl, sym, ◌∙◌, ap}
use mathlib.Core.Bool.{Bool, true, false, cond}
use mathlib.Core.Logic.{inl, inr}
use mathlib.Core.List.{List, [], ◌++◌, append-nil}
use Prim.Native.Nat.{ℕ, ◌≤◌}
use Rattle.std.specs.Prelude.{Result, Ok, Err}
use Rattle.std.proofs.lemmas.List.{drop_all}
use native.Mathlib.Omega.{arith}
use borrow.Author.Tests.{le-ltb}
use lib.Dec.{eqb}
use lib.Ieee.{Float}
use lib.ListN.{length, take, drop}
use lib.Seq.{take_all, take-append_seam, drop-append_seam}
use Rattle.math.specs.Numerals.{nought}
use Rattle.sizes.specs.Sizes.{InLimits, history_needed}
use Rattle.sizes.proofs.Tests.{test_passes}
use Rattle.timeline.proofs.Places.{below_or_not}
use Rattle.timeline.proofs.Streams.{length_stream_outputs}
use Rattle.quality.specs.House.{house}
use Rattle.rates.specs.Setting.{setting_of}
use Rattle.rates.specs.Rated.{rate_with}
use Rattle.filter.specs.Settings.{table_of}
use Rattle.rounds.specs.Output.{weigh_of}
use Rattle.judge.specs.Refusals.{refusal_number}
use Rattle.judge.specs.declared.Refusal.{Refusal}
use Rattle.recording.specs.Recording.{Recording}
use Rattle.recording.specs.Totals.{counted_total, max_samples, closed_total_told}
use Rattle.pcm.specs.Header.{header_length, header_of}
use Rattle.pcm.specs.Blocks.{samples_of, bytes_of}
use Rattle.pcm.specs.declared.Rates.{Rates}
use Rattle.edges.specs.Edges.{whole_of}
use Rattle.conformed.specs.Conformed.{refusal_line, closed_input, resampled, conformed_by, conformed}
use Rattle.conformed.specs.Program.{Slices, Long, ReadAs, AllShort, joined, copied_blocks, resampled_blocks, first_stage, blocks_by, blocks, OfTheFile}
use Rattle.conformed.proofs.Headers.{rates_in_limits}
use Rattle.conformed.proofs.Opened.{filter_length_lem}
use Rattle.conformed.proofs.Odd.{copied}
use Rattle.conformed.proofs.Resampled as resampling

-- ---- the header and the body of what was read
module _ (head : List ℕ) (reads : List (List ℕ)) (r : ReadAs head reads) where
  head_is : take header_length (head ++ joined reads) ≡ head
  head_is = elim (below_or_not (length head) header_length) [
    | inl short ↦ rw (r.short_ends short, append-nil head) (take_all header_length head (omega arith))
    | inr full ↦
        (let e : header_length ≡ length head = omega (arith, r.head_to) in
        ap (λ (k : ℕ). take k (head ++ joined reads)) e ∙ take-append_seam head (joined reads))
  ]

  body_is : drop header_length (head ++ joined reads) ≡ joined reads
  body_is = elim (below_or_not (length head) header_length) [
    | inl short ↦ rw (r.short_ends short, append-nil head) (drop_all header_length head (omega arith))
    | inr full ↦
        (let e : header_length ≡ length head = omega (arith, r.head_to) in
        ap (λ (k : ℕ). drop k (head ++ joined reads)) e ∙ drop-append_seam head (joined reads))
  ]

-- ---- by what the header says
module _ (l : Slices) (long : Long l) (reads : List (List ℕ)) (short : AllShort reads) where
  by_rates : (source target : ℕ) → InLimits source → InLimits target → (same : Bool)
      → joined (cond same (copied_blocks [] reads) (resampled_blocks (first_stage l source target).state.filt_len (first_stage l source target) reads))
      ≡ cond same (whole_of (joined reads)) (bytes_of (resampled source target (samples_of (joined reads))))
  by_rates source target hs ht true = copied [] reads (omega arith)
  by_rates source target hs ht false =
      ap (λ (n : ℕ). joined (resampled_blocks n (first_stage l source target) reads)) (filter_length_lem source target hs ht l.mem l.coefs long.mem long.coefs l.out)
      ∙ resampling.handed_on source target hs ht l long (joined reads) reads short refl

  by_header : (head : List ℕ) (h : Result Rates Refusal) → header_of head ≡ h → joined (blocks_by l h reads) ≡ conformed_by h (joined reads)
  by_header head (Err refusal) e = append-nil (refusal_line (refusal_number refusal))
  by_header head (Ok rates) e =
      let w = rates_in_limits head rates e in
      by_rates rates.source rates.target w.0 w.1 (eqb rates.source rates.target)

-- THE PROGRAM

-- what it hands on is `conformed` of what it read, however that was cut
pub however_read : (l : Slices) → Long l → (head : List ℕ) (reads : List (List ℕ)) → ReadAs head reads
    → joined (blocks l head reads) ≡ conformed (head ++ joined reads)
unfolding conformed
however_read l long head reads r =
    by_header l long reads r.short head (header_of head) refl ∙ sym (rw (head_is head reads r, body_is head reads r))

-- A FILE'S OUTPUTS, for rates in limits

module _ (source target : ℕ) (hs : InLimits source) (ht : InLimits target) where
  -- they are those of a recording of its samples
  pub outputs_of_a_file : (l : Slices) → Long l → (reads : List (List ℕ)) → AllShort reads
      → (q : Recording) × OfTheFile source target (samples_of (joined reads)) (resampled source target (samples_of (joined reads))) q
  outputs_of_a_file l long reads short = resampling.recording_of source target hs ht l long (joined reads) reads short refl

  -- and `closed_total` tells how many there are
  pub as_many_as_told : (samples : List Float) → length samples ≤ max_samples
      → closed_total_told source target (length samples) ≡ counted_total (length (resampled source target samples))
  unfolding closed_total_told
  as_many_as_told samples h =
      let s = setting_of house source target in
      let rate = rate_with s (history_needed s.filt_len) in
      rw (test_passes source hs, test_passes target ht, le-ltb max_samples (length samples) h)
      (ap counted_total (sym (length_stream_outputs (weigh_of s (table_of s)) nought rate (closed_input source target samples) 0 _)))
