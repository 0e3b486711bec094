-- Nothing is lost at the boundary: a state comes back from its numbers, and numbers that a state has come back from it. Assumes nothing.
use mathlib.Core.Path.{◌≡◌, refl, ap}
use Prim.Native.Nat.{ℕ, zero, suc, ◌≤◌}
use native.Mathlib.Omega.{arith}
use Rattle.rates.specs.declared.Kernel.{Kernel}
use Rattle.rates.specs.declared.Kernel.TheVariants.{Unset, Direct, Interpolated}
use Rattle.state.specs.Belongs.{kernel_number}
use Rattle.state.specs.declared.ResamplerState.{ResamplerState}
use Rattle.flat.specs.Flat.{kernel_at, flat_of, state_of}
use Rattle.flat.specs.declared.FlatState.{FlatState}

kernel_back : (k : Kernel) → kernel_at (kernel_number k) ≡ k
kernel_back Unset = refl
kernel_back Direct = refl
kernel_back Interpolated = refl

number_back : (k : ℕ) → k ≤ 2 → kernel_number (kernel_at k) ≡ k
number_back zero h = refl
number_back (suc zero) h = refl
number_back (suc (suc zero)) h = refl
number_back (suc (suc (suc k))) h = absurd (omega arith)

-- a state is the one that has its numbers
pub state_back : (s : ResamplerState) → state_of (flat_of s) ≡ s
unfolding flat_of state_of
state_back s = rw (kernel_back s.kernel)

-- numbers that some state has are that state's, so a refused call hands back what it was given
pub flat_back : (f : FlatState) → f.kernel ≤ 2 → flat_of (state_of f) ≡ f
unfolding flat_of state_of
flat_back f h = rw (number_back f.kernel h)

below_3 : (k : Kernel) → kernel_number k ≤ 2
below_3 Unset = omega arith
below_3 Direct = omega arith
below_3 Interpolated = omega arith

-- and with a kernel above 2 no state has them
pub no_state_above : (f : FlatState) → 3 ≤ f.kernel → (s : ResamplerState) → flat_of s ≡ f → ⊥
unfolding flat_of
no_state_above f h s e = omega (arith, ap (λ (g : FlatState). g.kernel) e, below_3 s.kernel)
