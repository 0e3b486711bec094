-- `window::weights_at` meets its contract: the steps are the definition's, and each constant is the decimal that it names, which antt computes.
-- Assumes nothing.
use lib.Ieee.{of_bits, of_int}
use Rattle.math.specs.Numerals.{decimal64}
use Rattle.window.specs.Window.{weights_at}
use Rattle.window.proofs.weights_at.Goals as goal

pub returns : goal.returns
unfolding weights_at decimal64 of_bits of_int
returns c = rw (c.powi2-f2.ensures, c.powi3-f3.ensures)
