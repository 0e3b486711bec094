-- `sinc::sinc` meets its contract. What `windowed_sinc` requires follows from the test |x| > n/2 that failed (`proofs/Place.antt`).
-- Assumes nothing.
use Rattle.std.proofs.Common.{◌≡◌, ◌∙◌}
use lib.Ieee.{of_bits}
use Rattle.math.specs.Numerals.{decimal64}
use Rattle.math.specs.Sign.{magnitude}
use Rattle.sinc.proofs.Place.{in_window}
use Rattle.sinc.proofs.NearFar.{at_near, at_far, between}
use Rattle.sinc.proofs.sinc.Goals as goal
use Rattle.sinc.proofs.sinc.Goals.{After-abs-x_abs}

x-abs-is : (c : After-abs-x_abs) → c.abs-x_abs.result ≡ magnitude c.args.x
x-abs-is c = rw (c.abs-x_abs.ensures, c.f32_to_f64_with_nan.ensures)

pub returns-then-x_abs : goal.returns-then-x_abs
unfolding decimal64 of_bits
returns-then-x_abs c = at_near _ _ _ _ (x-abs-is (goal.at-returns-then-x_abs c).After-abs-x_abs) c.if-x_abs.true

pub returns-then-x_abs-n : goal.returns-then-x_abs-n
unfolding decimal64 of_bits
returns-then-x_abs-n c = at_far _ _ _ _ (x-abs-is (goal.at-returns-then-x_abs-n c).After-abs-x_abs) c.if-x_abs.false c.if-x_abs-n.true

pub windowed_sinc-requires : goal.windowed_sinc-requires
unfolding decimal64 of_bits
windowed_sinc-requires c =
    in_window c.args.n c.requires c.ranges.n.fits c.args.x (rw (x-abs-is (goal.at-windowed_sinc-requires c).After-abs-x_abs) at c.if-x_abs-n.false)

pub returns : goal.returns
unfolding decimal64 of_bits
returns c =
    c.windowed_sinc.ensures ∙ between _ _ _ _ (x-abs-is (goal.at-returns c).After-abs-x_abs) c.if-x_abs.false c.if-x_abs-n.false
