-- For rates in limits the filter is at most 7,680 long.
use mathlib.Core.Path.{◌∙◌, ap}
use mathlib.Core.List.{[]}
use Prim.Native.Nat.{◌≤◌}
use native.Mathlib.Omega.{arith}
use lib.ListN.{length}
use Rattle.sizes.specs.Sizes.{max_history, max_coefficients}
use Rattle.rates.proofs.House.{house_length}
use Rattle.state.specs.declared.ResamplerState.{ResamplerState}
use Rattle.conformed.proofs.Opened.{filter_length_lem}
use Rattle.conforming.proofs.resampling.Desk.open.Goals as goal

pub returns : goal.returns
returns c =
    let rates = c.args.rates in
    let desk = c.args.self.now in
    let h : max_history ≤ length desk.mem = omega arith in
    let k : max_coefficients ≤ length desk.coefs = omega arith in
    omega (
      arith,
      ap (λ (s : ResamplerState). s.filt_len) c.«open».ensures.state ∙ filter_length_lem rates.source rates.target c.requires.0 c.requires.1 desk.mem desk.coefs h k [],
      (house_length rates.source rates.target c.requires.0 c.requires.1).1,
    )
