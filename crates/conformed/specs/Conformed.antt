-- Document 01, "Small program": what the program makes of a whole file, from a list of bytes to a list of bytes. Assumes nothing.
use Rattle.std.specs.Prelude.{cond, List, [], ◌∷◌, ◌++◌, ℕ, ◌+◌, eqb, ltb, Float, length, take, drop, Result, Ok, Err}
use Rattle.math.specs.Numerals.{nought}
use Rattle.ratio.specs.Lowest.{lowest}
use Rattle.sizes.specs.Sizes.{history_needed}
use Rattle.timeline.specs.Recording.{stream_outputs}
use Rattle.quality.specs.House.{house}
use Rattle.rates.specs.Setting.{setting_of}
use Rattle.rates.specs.Rated.{rate_with, closed_total}
use Rattle.filter.specs.Settings.{table_of}
use Rattle.rounds.specs.Output.{weigh_of}
use Rattle.judge.specs.Refusals.{refusal_number}
use Rattle.judge.specs.declared.Refusal.{Refusal}
use Rattle.pcm.specs.Header.{header_length, header_of}
use Rattle.pcm.specs.Blocks.{samples_of, bytes_of}
use Rattle.pcm.specs.declared.Rates.{Rates}
use Rattle.edges.specs.Edges.{whole_of, closing}

-- the line of a refusal: `refused N`, where N has one digit, and the line's end
abbrev pub refusal_line : ℕ → List ℕ
refusal_line number = 114 ∷ 101 ∷ 102 ∷ 117 ∷ 115 ∷ 101 ∷ 100 ∷ 32 ∷ (48 + number) ∷ 10 ∷ []

module _ (source target : ℕ) (samples : List Float) where
  -- what is read: the samples, and n/2 zeros if there are any
  abbrev pub closed_input : List Float
  closed_input = samples ++ closing (ltb 0 (length samples)) (setting_of house source target).filt_len

  -- the outputs: M*den/num of the stream's, rounded up
  abbrev pub resampled : List Float
  resampled =
      let s = setting_of house source target in
      stream_outputs (weigh_of s (table_of s)) nought (rate_with s (history_needed s.filt_len)) closed_input 0 (closed_total (lowest source target) (length samples))

-- equal rates copy; a last odd byte is dropped either way
abbrev pub conformed_body : ℕ → ℕ → List ℕ → List ℕ
conformed_body source target body = cond (eqb source target) (whole_of body) (bytes_of (resampled source target (samples_of body)))

-- by its header
abbrev pub conformed_by : Result Rates Refusal → List ℕ → List ℕ
conformed_by (Err refusal) body = refusal_line (refusal_number refusal)
conformed_by (Ok rates) body = conformed_body rates.source rates.target body

-- a whole file
unfoldable pub conformed : List ℕ → List ℕ
conformed file = conformed_by (header_of (take header_length file)) (drop header_length file)
