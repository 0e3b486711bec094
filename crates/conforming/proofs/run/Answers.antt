-- A refusal is the header's, and rates that are not refused are in limits.
use mathlib.Core.Path.{sym}
use Rattle.conformed.proofs.Headers.{rates_in_limits, refused_header}
use Rattle.conforming.proofs.run.Goals as goal

pub refuse-requires : goal.refuse-requires
refuse-requires g c = refused_header _ _ (sym c.in-Err.ensures)

pub resample-requires : goal.resample-requires
resample-requires g c = rates_in_limits _ _ (sym c.in-Ok.ensures)
