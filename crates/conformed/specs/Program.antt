-- Document 01, "Small program": the program as it runs. It reads a header of at most 13 bytes, then the rest of the file, cut into reads in any way. Here
-- are the blocks that it hands to be written, in order. Assumes nothing.
use Rattle.std.specs.Prelude.{◌≡◌, cond, ◌⊎◌, List, [], ◌∷◌, ◌++◌, ℕ, ◌≤◌, ◌<◌, eqb, Float, length, Result, Ok, Err}
use Rattle.sizes.specs.Sizes.{max_history, max_coefficients}
use Rattle.judge.specs.Refusals.{refusal_number, max_call}
use Rattle.judge.specs.declared.Refusal.{Refusal}
use Rattle.quality.specs.House.{house}
use Rattle.recording.specs.Recording.{Recording, finished, MadeUnder}
use Rattle.pcm.specs.Header.{header_length, header_of}
use Rattle.pcm.specs.Blocks.{samples_of}
use Rattle.pcm.specs.declared.Rates.{Rates}
use Rattle.edges.specs.Edges.{whole_of, odd_of, closing}
use Rattle.stages.specs.Stages.{Stage, opened_stage, handed, block, fed}
use Rattle.conformed.specs.Conformed.{refusal_line}

-- one after another
abbrev pub joined : List (List ℕ) → List ℕ
joined [] = []
joined (x ∷ xs) = x ++ joined xs

-- ---- equal rates

-- each read, after the odd byte held, is handed on without its own odd byte
abbrev pub copied_blocks : List ℕ → List (List ℕ) → List (List ℕ)
copied_blocks held [] = []
copied_blocks held (read ∷ reads) = whole_of (held ++ read) ∷ copied_blocks (odd_of (held ++ read)) reads

-- ---- other rates

-- each read goes through the resampler, and after the last one the zeros do. n is the filter's length
abbrev pub resampled_blocks : ℕ → Stage → List (List ℕ) → List (List ℕ)
resampled_blocks n g [] = handed g (closing g.came n) ∷ []
resampled_blocks n g (read ∷ reads) = handed g (samples_of (block g read)) ∷ resampled_blocks n (fed g read) reads

-- ---- the whole

-- the slices that the program lends, as it finds them
pub record Slices : Type 0 where
  pub mem : List Float
  pub coefs : List Float
  pub out : List Float

module _ (l : Slices) where
  -- before the first read
  abbrev pub first_stage : ℕ → ℕ → Stage
  first_stage source target = opened_stage source target l.mem l.coefs l.out

  abbrev pub body_blocks : ℕ → ℕ → List (List ℕ) → List (List ℕ)
  body_blocks source target reads =
      let g = first_stage source target in
      cond (eqb source target) (copied_blocks [] reads) (resampled_blocks g.state.filt_len g reads)

  abbrev pub blocks_by : Result Rates Refusal → List (List ℕ) → List (List ℕ)
  blocks_by (Err refusal) reads = refusal_line (refusal_number refusal) ∷ []
  blocks_by (Ok rates) reads = body_blocks rates.source rates.target reads

  -- the blocks that are handed on to be written, for a header and the reads after it
  abbrev pub blocks : List ℕ → List (List ℕ) → List (List ℕ)
  blocks head reads = blocks_by (header_of head) reads

-- the most bytes that one read brings, and the most outputs that a block of so many and one held byte can lead to: 48 for each sample, and room for one
abbrev pub max_read : ℕ
max_read = 2048

abbrev pub max_outputs : ℕ
max_outputs = 49153

-- the slices are long enough
pub record Long (l : Slices) : Type 0 where
  pub mem : max_history ≤ length l.mem
  pub coefs : max_coefficients ≤ length l.coefs
  pub out : max_outputs ≤ length l.out
  pub out_to : length l.out ≤ max_call

-- no read brings more than it may
abbrev pub AllShort : List (List ℕ) → Type 0
AllShort [] = Unit {0}
AllShort (read ∷ reads) = (length read ≤ max_read) × AllShort reads

-- how a file is read: at first as much of its header as there is, and then the rest in any way
pub record ReadAs (head : List ℕ) (reads : List (List ℕ)) : Type 0 where
  pub head_to : length head ≤ header_length
  pub short_ends : length head < header_length → reads ≡ []
  pub short : AllShort reads

-- a recording of a file's samples that has these outputs
pub record OfTheFile (source target : ℕ) (samples outputs : List Float) (r : Recording) : Type 0 where
  pub made_under : MadeUnder house r
  pub source_is : r.source ≡ source
  pub target_is : r.target ≡ target
  pub samples_are : r.samples ≡ samples
  pub outputs_are : (finished r).outputs ≡ outputs

-- the refusals that a header gets
abbrev pub OfAHeader : Refusal → Type 0
OfAHeader refusal = (refusal_number refusal ≡ 8) ⊎ (refusal_number refusal ≡ 9) ⊎ (refusal_number refusal ≡ 1)
