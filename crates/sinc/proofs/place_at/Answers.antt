-- `sinc::place_at` meets its contract: its steps are the definition's, and widening an f32 keeps the number. Assumes nothing.
use lib.Ieee.{of_bits, of_int}
use Rattle.sinc.specs.Sinc.{place_at}
use Rattle.sinc.proofs.place_at.Goals as goal

pub returns : goal.returns
unfolding place_at of_bits of_int
returns c = rw (c.narrow.ensures, c.abs.ensures, c.f32_to_f64_with_nan.ensures)
