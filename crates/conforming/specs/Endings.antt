-- Document 01, "Small program": how a run may end. What was read and written no contract can tell. Assumes nothing.
use Rattle.std.specs.Prelude.{Result, IfErr}
use Rattle.conformed.specs.Program.{OfAHeader}
use Rattle.conforming.specs.declared.Stopped.{Stopped}
use Rattle.conforming.specs.declared.Stopped.TheVariants.{Refused, ReadFailed, WriteFailed}

-- a refusal is a header's
abbrev pub Stops : Stopped → Type 0
Stops (Refused refusal) = OfAHeader refusal
Stops ReadFailed = Unit {0}
Stops WriteFailed = Unit {0}

-- why it stopped, if it did; where it did not, nothing is said
abbrev pub Ends : {A : Type 0} → Result A Stopped → Type 0
Ends r = IfErr r Stops
