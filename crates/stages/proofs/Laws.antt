-- What a block leaves, from what each of its steps ensures. Assumes nothing.
use mathlib.Core.Path.{◌≡◌, sym, ◌∙◌, ap}
use mathlib.Core.Bool.{Bool, ◌||◌}
use mathlib.Core.List.{List}
use Prim.Native.Nat.{ℕ, ◌*◌, ◌/◌, ◌%◌, ◌≤◌}
use native.Mathlib.Omega.{arith}
use lib.Dec.{ltb}
use lib.Ieee.{Float}
use lib.ListN.{length, take, drop, replicate, length-take, length-drop, length-replicate, take-append-drop}
use lib.Seq.{take_all, length-paste, take-append_seam}
use Rattle.math.specs.Numerals.{nought}
use Rattle.history.specs.Zeroed.{zeroed}
use Rattle.timeline.proofs.Parts.{take_front}
use Rattle.quality.specs.House.{house}
use Rattle.quality.proofs.House.{house_sane}
use Rattle.state.specs.declared.ResamplerState.{ResamplerState}
use Rattle.resampler.specs.Answers.{Answer, Told, told}
use Rattle.resampler.specs.Entries.{new_told, rate_told, rate_history, rate_coefficients}
use Rattle.resampler.specs.Promises.{SetsRate, Processes}
use Rattle.pinned.proofs.Untouched.{process_keeps_rest}
use Rattle.pcm.specs.Blocks.{samples_of, bytes_of, laid_over, Decodes, Encodes}
use Rattle.pcm.proofs.Blocks.{length_samples, length_bytes}
use Rattle.edges.specs.Edges.{odd_of, closing_zeros, closing}
use Rattle.stages.specs.Stages.{Stage}
use Rattle.stages.specs.Promises.{bare_stage, stage_of, Opens, HandedOn, Pulls, Feeds}
use Rattle.stages.specs.declared.Kept.{Kept}
use Rattle.stages.specs.declared.Pulled.{Pulled}

-- ---- bytes and samples that all fit

-- with room for all, all are encoded
encodes_all : {xs : List Float} {text text' : List ℕ} {size : ℕ} → 2 * length xs ≤ length text → Encodes xs text text' size → HandedOn (bytes_of xs) text text' size
encodes_all {xs} {text} {text'} {size} room e =
    let half : size / 2 ≡ length xs = omega (arith, e.count) in
    record {
      count = omega (arith, e.count, length_bytes xs);
      laid = e.laid ∙ ap (λ (ys : List Float). laid_over (bytes_of ys) text) (take_all (size / 2) xs (omega arith));
      within = e.within;
      whole = e.whole;
    }

module _ {bytes : List ℕ} {out out' : List Float} {count : ℕ} (room : length bytes / 2 ≤ length out) (d : Decodes bytes out out' count) where
  -- with room for all, all are decoded
  pub decodes_count : count ≡ length bytes / 2
  decodes_count = omega (arith, d.count)

  pub decodes_all : take count out' ≡ samples_of bytes
  decodes_all =
      let xs = samples_of bytes in
      let many : count ≡ length xs = omega (arith, decodes_count, length_samples bytes) in
      ap (take count) (d.laid ∙ ap (λ (ys : List Float). laid_over ys out) (take_all count xs (omega arith)))
      ∙ ap (λ (k : ℕ). take k (laid_over xs out)) many
      ∙ take-append_seam xs (drop (length xs) out)

-- ---- opening
pub opens : {source target : ℕ} {mem coefs : List Float} {fresh r : ResamplerState} {answer : Answer} {mem' coefs' : List Float}
    (new : Answer) → told new ≡ new_told target → fresh ≡ (told new).state → SetsRate house fresh source mem coefs answer mem' coefs' → r ≡ (told answer).state
    → Opens source target mem coefs r mem' coefs'
opens {source} {target} {mem} {coefs} new n f s a =
    let e = f ∙ ap (λ (t : Told). t.state) n in
    record {
      state = a ∙ ap (λ (t : Told). t.state) s.tells ∙ ap (λ (q : ResamplerState). (rate_told house q source mem coefs).state) e;
      history = s.history ∙ ap (λ (q : ResamplerState). rate_history house q source mem coefs) e;
      coefficients = s.coefficients ∙ ap (λ (q : ResamplerState). rate_coefficients house q source mem coefs) e;
    }

-- ---- one call
module _ {s : ResamplerState} {mem coefs input out : List Float} {answer : Answer} {mem' out' : List Float}
    (p : Processes house s mem coefs input out answer mem' out') where
  -- the outputs stand in the output
  pub written_within : {written : ℕ} → written ≡ (told answer).written → written ≤ length out'
  written_within e =
      let k = process_keeps_rest house house_sane s mem coefs input out in
      omega (arith, e ∙ ap (λ (t : Told). t.written) p.tells, k.written, k.rest.long, ap length p.output)

  pub output_length : length out' ≡ length out
  output_length = ap length p.output ∙ (process_keeps_rest house house_sane s mem coefs input out).rest.long

  -- and their bytes are handed on
  pub pulls : {text text' : List ℕ} {written size : ℕ} → 2 * length out ≤ length text → written ≡ (told answer).written → Encodes (take written out') text text' size
      → {after : ResamplerState} → after ≡ (told answer).state → Pulls (bare_stage s mem coefs out) input text (record { state = after; size = size }) mem' out' text'
  pulls {text} {text'} {written} {size} room w e a =
      let outs = take written out' in
      let fits : 2 * length outs ≤ length text = omega (arith, length-take written out', output_length) in
      record {
        state = a ∙ ap (λ (t : Told). t.state) p.tells;
        history = p.history;
        output = p.output;
        handed_on =
            rw (w, p.tells, p.output) at (encodes_all fits e);
      }

-- ---- the zeros

module _ (samples samples' : List Float) (count : ℕ) (e : samples' ≡ zeroed samples 0 count) where
  pub zeros_fit : count ≤ length samples → count ≤ length samples'
  zeros_fit h = omega (arith, ap length e ∙ length-paste samples 0 (replicate count nought) count (omega arith) (omega (arith, length-replicate count nought)))

  pub zeros_are : take count samples' ≡ replicate count nought
  zeros_are =
      let z = replicate count nought in
      let long = length-replicate count nought in
      ap (take count) e ∙ take_front samples z count (omega (arith, long)) ∙ take_all count z (omega (arith, long))

  -- a call over them
  pub closes : (came : Bool) (n : ℕ) {g : Stage} {mem' out' : List Float} {text text' : List ℕ} {p : Pulled}
      → count ≡ closing_zeros came n → Pulls g (take count samples') text p mem' out' text' → Pulls g (closing came n) text p mem' out' text'
  closes came n c q = rw (← c, ← zeros_are) q

-- ---- one block
pub feeds : (k r : Kept) (bytes bytes' : List ℕ) {mem coefs out mem' out' samples samples' : List Float} {text text' : List ℕ} {count : ℕ} {p : Pulled}
    → length bytes / 2 ≤ length samples
    → Decodes bytes samples samples' count
    → Pulls (bare_stage k.state mem coefs out) (take count samples') text p mem' out' text'
    → (take r.held bytes' ≡ odd_of bytes) × (r.held ≡ length bytes % 2)
    → r.state ≡ p.state → r.came ≡ k.came || ltb 0 count
    → Feeds (stage_of k mem coefs out bytes) (drop k.held bytes) text p.size r.held (stage_of r mem' coefs out' bytes') text'
feeds k r bytes bytes' {mem} {coefs} {out} {mem'} {out'} {samples} {samples'} {text} {text'} {count} {p} room d q o s c =
    let whole = take-append-drop k.held bytes in
    let q' : Pulls (bare_stage k.state mem coefs out) (samples_of bytes) text p mem' out' text' = rw (decodes_all room d) at q in
    let came : r.came ≡ k.came || ltb 0 (length bytes / 2) = c ∙ ap (λ (m : ℕ). k.came || ltb 0 m) (decodes_count room d) in
    record {
      stage = rw (whole, s ∙ q'.state, q'.history, q'.output, o.0, came);
      held_is = o.1 ∙ rw whole (sym (length-drop (2 * (length bytes / 2)) bytes ∙ omega arith));
      held_to = omega (arith, o.1);
      handed_on = rw whole q'.handed_on;
    }
