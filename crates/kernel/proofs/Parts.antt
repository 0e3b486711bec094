-- A part of a slice, and a phase whose variant is known. Assumes nothing.
use Rattle.std.proofs.Common.{◌≡◌, ℕ, ◌-◌, List, length, take, drop, subst, arith, length-drop, take_all}
use Rattle.kernel.specs.Step.{Reaches}
use Rattle.kernel.specs.declared.Phase.{Phase}

-- what `&l[a..]` lends is the list from a on
pub rest : {A : Type 0} (l : List A) (a : ℕ) → take (length l - a) (drop a l) ≡ drop a l
rest l a = take_all (length l - a) (drop a l) (omega (arith, length-drop a l))

-- what the table holds, at the variant that a match has found
pub reaches_at : {p q : Phase} (n oversample size : ℕ) → p ≡ q → Reaches p n oversample size → Reaches q n oversample size
reaches_at n oversample size e h = subst (λ (r : Phase). Reaches r n oversample size) e h
