-- Two results that a contract allows for the same block are equal. Assumes nothing.
use mathlib.Core.Path.{◌≡◌, sym, ◌∙◌, ap}
use mathlib.Core.List.{List}
use Prim.Native.Nat.{ℕ, ◌/◌}
use lib.Ieee.{Float}
use lib.ListN.{take}
use Rattle.pcm.specs.Blocks.{samples_of, bytes_of, laid_over, Decodes, Encodes}

pub decode_pinned : {bytes : List ℕ} {out a b : List Float} {m n : ℕ} → Decodes bytes out a m → Decodes bytes out b n → (m ≡ n) × (a ≡ b)
decode_pinned {bytes} {out} p q =
    let same = p.count ∙ sym q.count in
    (same, p.laid ∙ ap (λ (k : ℕ). laid_over (take k (samples_of bytes)) out) same ∙ sym q.laid)

pub encode_pinned : {xs : List Float} {out a b : List ℕ} {m n : ℕ} → Encodes xs out a m → Encodes xs out b n → (m ≡ n) × (a ≡ b)
encode_pinned {xs} {out} p q =
    let same = p.count ∙ sym q.count in
    (same, p.laid ∙ ap (λ (k : ℕ). laid_over (bytes_of (take (k / 2) xs)) out) same ∙ sym q.laid)
