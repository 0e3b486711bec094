-- Document 01, "Setting a rate": the quality row, and what the theorems ask of one.
-- Assumes nothing.
use Rattle.std.specs.Prelude.{◌≡◌, true, ℕ, ◌%◌, ◌≤◌, Float}
use Rattle.std.specs.Float.Ieee.Scale.{finite}
use Rattle.quality.specs.declared.QualityMapping.{QualityMapping}

-- the row of a base length, an oversample and the bandwidths down and up
abbrev pub row_of : ℕ → ℕ → Float → Float → QualityMapping
row_of base oversample down up =
    record { base_length = base; oversample = oversample; downsample_bandwidth = down; upsample_bandwidth = up }

-- a sane row: a base length that is a multiple of 8 from 16 to 160, an oversample from 1 to 16,
-- and bandwidths that are neither a NaN nor an infinity
pub record Sane (row : QualityMapping) : Type 0 where
  pub base_by_8 : row.base_length % 8 ≡ 0
  pub base_from : 16 ≤ row.base_length
  pub base_to : row.base_length ≤ 160
  pub oversample_from : 1 ≤ row.oversample
  pub oversample_to : row.oversample ≤ 16
  pub down : finite row.downsample_bandwidth ≡ true
  pub up : finite row.upsample_bandwidth ≡ true
