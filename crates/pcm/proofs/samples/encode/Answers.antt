-- `pcm::samples::encode` meets its contract (`proofs/Laid.antt`). Assumes nothing.
use mathlib.Core.Path.{◌≡◌, ap, ◌∙◌}
use mathlib.Core.List.{List}
use Prim.Native.Nat.{ℕ, ◌*◌, ◌/◌, ◌%◌}
use native.Mathlib.Omega.{arith}
use lib.ListN.{get_or}
use mir.Syntax.{w16}
use mir.ValLaws.{to_z-of_z}
use Rattle.history.proofs.Pasted.{ends}
use Rattle.sixteen.specs.Sixteen.{word_of}
use Rattle.pcm.specs.Blocks.{bytes_of}
use Rattle.pcm.proofs.Laid.{two_more, encodes}
use Rattle.pcm.proofs.samples.encode.Goals as goal

pub loop-i-preserved : goal.loop-i-preserved
loop-i-preserved c =
    let a = c.args in
    let e = c.min-count.ensures in
    let r = c.to_i16 in
    let w = c.word_of-word.ensures ∙ ap word_of (to_z-of_z w16 r.result (record { sfits = r.type_inv }) ∙ r.ensures) in
    let low = ap (λ (l : List ℕ). get_or l 0 0) c.to_le_bytes.ensures in
    let high = ap (λ (l : List ℕ). get_or l 1 0) c.to_le_bytes.ensures in
    let one_byte : c.word_of-word.result / 256 % 256 ≡ c.word_of-word.result / 256 = omega arith in
    two_more a.xs.now a.out.now c.loop-i.out c.min-count.result c.loop-i.i _ _ c.loop-i.invariant (omega arith) (omega arith) (omega arith)
    (low ∙ ap (λ (n : ℕ). n % 256) w) (high ∙ one_byte ∙ ap (λ (n : ℕ). n / 256) w)

pub returns : goal.returns
returns c =
    let a = c.args in
    let p = c.loop-i.invariant in
    encodes a.xs.now a.out.now c.loop-i.out c.min-count.result c.min-count.ensures p.same (ends a.out.now 0 (bytes_of a.xs.now) (2 * c.min-count.result) p (omega arith))
