-- An odd byte, and how many zeros there can be. Assumes nothing.
use mathlib.Core.Path.{◌≡◌, sym, ◌∙◌, ap}
use mathlib.Core.Bool.{Bool, true, false}
use mathlib.Core.List.{List, [], ◌∷◌}
use Prim.Native.Nat.{ℕ, suc, ◌-◌, ◌*◌, ◌/◌, ◌%◌, ◌≤◌}
use native.Mathlib.Omega.{arith}
use lib.ListN.{length, get_or, set, take, drop}
use Rattle.std.proofs.Math.Seq.{drop-cons}
use Rattle.std.proofs.lemmas.List.{drop_all}
use Rattle.edges.specs.Edges.{odd_of, closing_zeros}

-- no more than half the filter's length
pub zeros_to : (came : Bool) (n : ℕ) → closing_zeros came n ≤ n / 2
zeros_to true n = omega arith
zeros_to false n = omega arith

pub none_odd : (bytes : List ℕ) → length bytes % 2 ≡ 0 → [] ≡ odd_of bytes
none_odd bytes h = sym (drop_all (2 * (length bytes / 2)) bytes (omega arith))

-- the last byte, put to the front
pub one_odd : (bytes : List ℕ) → length bytes % 2 ≡ 1 → take 1 (set bytes 0 (get_or bytes (length bytes - 1) 0)) ≡ odd_of bytes
one_odd [] h = absurd (omega arith)
one_odd (x ∷ rest) h =
    let bytes = x ∷ rest in
    let last = length rest in
    let place : suc last - 1 ≡ last = omega arith in
    let before : 2 * (length bytes / 2) ≡ last = omega arith in
    ap (λ (k : ℕ). get_or bytes k 0 ∷ []) place
    ∙ sym (
    ap (λ (k : ℕ). drop k bytes) before
    ∙ drop-cons bytes last 0 (omega arith)
    ∙ ap (λ (l : List ℕ). get_or bytes last 0 ∷ l) (drop_all (suc last) bytes (omega arith))
    )
