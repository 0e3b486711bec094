-- `process::process` meets its contract: the verdict gives what the call asks for, and the call stays within what a state's numbers hold.
-- Assumes nothing.
use native.Mathlib.Omega.{arith}
use lib.ListN.{length}
use Rattle.rounds.specs.Rounds.{Wrote}
use Rattle.calls.specs.Calls.{called_of}
use Rattle.process.specs.Process.{played}
use Rattle.process.proofs.Processes.{CallReady, call_ready, Ended, call_ends, as_played, plays}
use Rattle.process.proofs.process.Goals as goal
use Rattle.process.proofs.process.Goals.{After-process_call-called, Start}

-- what the verdict says
known : (c : Start) → CallReady c.args.row c.args.state (length c.args.mem.now) (length c.args.coefs.now)
known c =
    call_ready c.args.row c.requires.0 c.args.state (length c.args.mem.now) (length c.args.coefs.now)
    (length c.args.input.now) (length c.args.out.now) c.requires.1

-- once the call is made

wrote : (c : After-process_call-called)
    → Wrote (played c.args.state c.args.coefs.now c.args.input.now (length c.args.out.now) c.args.mem.now)
    (called_of c.process_call-called.result) c.process_call-called.new.mem c.args.out.now
    c.process_call-called.new.out
wrote c =
    let a = c.args in
    as_played a.state a.mem.now a.coefs.now a.input.now a.out.now _ c.setting-setting.ensures c.process_call-called.ensures

ended : (c : After-process_call-called) → Ended c.args.state (called_of c.process_call-called.result)
ended c =
    let a = c.args in
    call_ends a.state a.mem.now a.coefs.now a.input.now a.out.now (known (goal.at-After-process_call-called c).Start) (wrote c)

pub setting-setting-requires : goal.setting-setting-requires
setting-setting-requires c =
    let k = known (goal.at-setting-setting-requires c).Start in
    (k.fits.playable.n_to, k.limits.oversample_to, k.limits.terms.den_to)

pub process_call-called-requires : goal.process_call-called-requires
process_call-called-requires c = rw c.setting-setting.ensures (known (goal.at-process_call-called-requires c).Start).fits

pub overflow_cast-place-3 : goal.overflow_cast-place-3
overflow_cast-place-3 c =
    let k = known (goal.at-overflow_cast-place-3 c).Start in
    omega (arith, ended (goal.at-overflow_cast-place-3 c).After-process_call-called, k.fits.playable.n_to)

pub overflow_cast-place-4 : goal.overflow_cast-place-4
overflow_cast-place-4 c =
    let k = known (goal.at-overflow_cast-place-4 c).Start in
    omega (arith, ended (goal.at-overflow_cast-place-4 c).After-process_call-called, k.limits.terms.den_to)

pub returns : goal.returns
returns c =
    let a = c.args in
    plays a.state a.mem.now a.coefs.now a.input.now a.out.now (wrote (goal.at-returns c).After-process_call-called)
    (rw (← c.started_after-started.ensures) c.moved_to.ensures)
