-- `state::ResamplerState::has_setting` meets its contract: the tests in the order of the list, and kernels are the same where their numbers are. Assumes nothing.
use mathlib.Core.Path.{◌≡◌, refl}
use denote.Enum.Declared.{tag_of}
use Rattle.rates.specs.contracts.Kernel.{the_type}
use Rattle.rates.specs.declared.Kernel.{Kernel}
use Rattle.rates.specs.declared.Kernel.TheVariants.{Unset, Direct, Interpolated}
use Rattle.state.specs.Belongs.{kernel_number, setting_tests}
use Rattle.state.proofs.ResamplerState.has_setting.Goals as goal

numbered : (k : Kernel) → tag_of the_type k ≡ kernel_number k
numbered Unset = refl
numbered Direct = refl
numbered Interpolated = refl

pub returns : goal.returns
unfolding setting_tests
returns c =
    rw (c.same_bits.ensures, c.eq.ensures, numbered c.args.self.kernel, numbered c.args.given.kernel)
