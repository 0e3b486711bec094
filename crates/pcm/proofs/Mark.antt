-- The mark of a header, as the library tests it. Assumes nothing.
use mathlib.Core.Path.{◌≡◌, refl, ap}
use mathlib.Core.Bool.{Bool, ◌&&◌}
use mathlib.Core.List.{List, [], ◌∷◌}
use Prim.Native.Nat.{ℕ}
use lib.Dec.{eqb}
use Rattle.std.proofs.Common.{arith}
use Rattle.std.proofs.Math.Bool.{and-true}
use Rattle.std.proofs.lemmas.Bool.Decides.{nat_tests}
use Rattle.std.specs.List.{starts_with}
use Rattle.pcm.specs.Header.{has_mark}

-- whichever of two numbers stands first
same : (a b : ℕ) → eqb a b ≡ eqb b a
same a b = grind (arith, nat_tests)

pub marked : (bytes : List ℕ) → starts_with eqb bytes (68 ∷ 86 ∷ 83 ∷ []) ≡ has_mark bytes
unfolding has_mark
marked [] = refl
marked (a ∷ []) = rw (same a 68)
marked (a ∷ b ∷ []) = rw (same a 68, same b 86)
marked (a ∷ b ∷ c ∷ bytes) = rw (same a 68, same b 86, same c 83) (ap (λ (t : Bool). eqb 68 a && (eqb 86 b && t)) (and-true (eqb 83 c)))
