-- `sinc::windowed_sinc` meets its contract: its steps are the definition's, and widening an f32 keeps the number. Assumes nothing.
use lib.Ieee.{of_bits}
use Rattle.math.specs.Numerals.{decimal64}
use Rattle.sine.specs.Sine.{C}
use Rattle.sinc.specs.Sinc.{windowed_sinc}
use Rattle.sinc.proofs.windowed_sinc.Goals as goal

pub returns : goal.returns
unfolding windowed_sinc C decimal64 of_bits
returns c =
    rw (c.narrow.ensures, c.compute_func-second_factor.ensures, c.place_at.ensures)
    (rw (c.sine.ensures, c.f32_to_f64_with_nan.ensures, c.f32_to_f64_with_nan-angle.ensures))
