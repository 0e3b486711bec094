-- Reads that end inside a sample: an odd byte that is held until the next read changes nothing. Assumes nothing.
use mathlib.Core.Path.{◌≡◌, refl, sym, ◌∙◌, ap}
use mathlib.Core.List.{List, [], ◌∷◌, ◌++◌, append_assoc, append-nil}
use Prim.Native.Nat.{ℕ, ◌+◌, ◌*◌, ◌/◌, ◌≤◌}
use native.Mathlib.Omega.{arith}
use lib.Ieee.{Float}
use lib.ListN.{length, take, length-append, length-drop, length-take, take-append-drop}
use lib.Seq.{take-append-add}
use Rattle.pcm.specs.Blocks.{samples_of}
use Rattle.pcm.proofs.Blocks.{samples_append}
use Rattle.edges.specs.Edges.{whole_of, odd_of}
use Rattle.conformed.specs.Program.{joined, copied_blocks}

-- ---- the two parts of a block
module _ (b : List ℕ) where
  whole_length : length (whole_of b) ≡ 2 * (length b / 2)
  whole_length = length-take (2 * (length b / 2)) b ∙ omega arith

  pub odd_length : length (odd_of b) ≤ 1
  odd_length = omega (arith, length-drop (2 * (length b / 2)) b)

  parts : whole_of b ++ odd_of b ≡ b
  parts = take-append-drop (2 * (length b / 2)) b

  -- a block and what follows it, cut after its whole samples
  cut : (rest : List ℕ) → b ++ rest ≡ whole_of b ++ (odd_of b ++ rest)
  cut rest = ap (λ (l : List ℕ). l ++ rest) (sym parts) ∙ append_assoc (whole_of b) (odd_of b) rest

-- one byte is no sample
pub no_sample : (b : List ℕ) → length b ≤ 1 → samples_of b ≡ []
no_sample [] h = refl
no_sample (x ∷ []) h = refl
no_sample (x ∷ y ∷ b) h = absurd (omega arith)

-- ---- samples
module _ (b rest : List ℕ) where
  whole_samples : samples_of b ≡ samples_of (whole_of b)
  whole_samples =
      ap samples_of (sym (parts b))
      ∙ samples_append (whole_of b) (odd_of b) (omega (arith, whole_length b))
      ∙ ap (λ (l : List Float). samples_of (whole_of b) ++ l) (no_sample (odd_of b) (odd_length b))
      ∙ append-nil (samples_of (whole_of b))

  pub samples_cut : samples_of (b ++ rest) ≡ samples_of b ++ samples_of (odd_of b ++ rest)
  samples_cut =
      ap samples_of (cut b rest)
      ∙ samples_append (whole_of b) (odd_of b ++ rest) (omega (arith, whole_length b))
      ∙ ap (λ (l : List Float). l ++ samples_of (odd_of b ++ rest)) (sym whole_samples)

-- ---- bytes
module _ (b rest : List ℕ) where
  whole_cut : whole_of (b ++ rest) ≡ whole_of b ++ whole_of (odd_of b ++ rest)
  whole_cut =
      let w = whole_of b in
      let t = odd_of b ++ rest in
      let many : 2 * (length (w ++ t) / 2) ≡ length w + 2 * (length t / 2) = omega (arith, length-append w t, whole_length b) in
      ap whole_of (cut b rest) ∙ ap (λ (k : ℕ). take k (w ++ t)) many ∙ take-append-add w t (2 * (length t / 2))

no_whole : (b : List ℕ) → length b ≤ 1 → whole_of b ≡ []
no_whole [] h = refl
no_whole (x ∷ []) h = refl
no_whole (x ∷ y ∷ b) h = absurd (omega arith)

-- the copied blocks, one after another
pub copied : (held : List ℕ) (reads : List (List ℕ)) → length held ≤ 1 → joined (copied_blocks held reads) ≡ whole_of (held ++ joined reads)
copied held [] h = sym (ap whole_of (append-nil held) ∙ no_whole held h)
copied held (read ∷ reads) h =
    ap (λ (l : List ℕ). whole_of (held ++ read) ++ l) (copied (odd_of (held ++ read)) reads (odd_length (held ++ read)))
    ∙ sym (whole_cut (held ++ read) (joined reads))
    ∙ ap whole_of (append_assoc held read (joined reads))
