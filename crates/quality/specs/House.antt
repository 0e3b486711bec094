-- Document 01, "Setting a rate": the house row.
-- Assumes nothing.
use Rattle.math.specs.Numerals.{decimal32}
use Rattle.quality.specs.Quality.{row_of}
use Rattle.quality.specs.declared.QualityMapping.{QualityMapping}

-- base length 160, oversample 16, both bandwidths 0.96
unfoldable pub house : QualityMapping
unfolding decimal32
house = row_of 160 16 (decimal32 2 96) (decimal32 2 96)
