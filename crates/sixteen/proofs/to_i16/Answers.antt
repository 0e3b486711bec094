-- `sixteen::to_i16` meets its contract: by x's sign, from what `step_count` and `negated` ensure (`proofs/Signs.antt`). Assumes nothing.
use Rattle.std.proofs.Common.{ℕ, ◌≤◌, min, pos, neg_ℤ, sym, ap, ◌∙◌, arith, w16}
use lib.Ieee.{of_bits}
use mir.ValLaws.{to_z-of_z, to_z_pos}
use Rattle.math.proofs.Pick.{passed, failed}
use Rattle.sixteen.proofs.Signs.{steps_le, up_is, down_is}
use Rattle.sixteen.proofs.to_i16.Goals as goal

pub negated-requires : goal.negated-requires
negated-requires c = omega (arith, c.step_count-steps.ensures, steps_le c.args.x)

pub returns-then-x : goal.returns-then-x
unfolding of_bits
returns-then-x c =
    let x = c.args.x in
    to_z-of_z w16 c.negated.result (record { sfits = c.negated.type_inv })
    ∙ c.negated.ensures
    ∙ ap (λ (n : ℕ). neg_ℤ (pos n)) c.step_count-steps.ensures
    ∙ sym (down_is x (passed c.if-x.true))

pub returns : goal.returns
unfolding of_bits
returns c =
    let x = c.args.x in
    let top : c.min.result ≤ 32767 = omega (arith, c.min.ensures) in
    to_z_pos w16 c.min.result (omega arith)
    ∙ ap pos (c.min.ensures ∙ ap (λ (n : ℕ). min n 32767) c.step_count-steps.ensures)
    ∙ sym (up_is x (failed c.if-x.false))
