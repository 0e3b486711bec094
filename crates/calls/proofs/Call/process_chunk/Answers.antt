-- `calls::Call::process_chunk` plays the first round over the input. Assumes nothing.
use native.Mathlib.Omega.{arith}
use lib.ListN.{length}
use Rattle.rates.specs.Rated.{rate_with}
use Rattle.rounds.specs.Output.{weigh_of}
use Rattle.rounds.specs.Rounds.{place_of}
use Rattle.calls.proofs.Asks.{round_fits, fits_at}
use Rattle.calls.proofs.Playing.{chunk_wrote}
use Rattle.calls.proofs.Call.process_chunk.Goals as goal

pub process_native-requires : goal.process_native-requires
process_native-requires c =
    let f = c.requires in
    round_fits (fits_at f f.phase f.position c.copy_in.auto.mem) c.min-count.result (omega (arith, c.min-count.ensures, f.chunk))

pub returns : goal.returns
returns c =
    let a = c.args in
    chunk_wrote (weigh_of a.self.now.setting a.self.now.coefs.now) (rate_with a.self.now.setting a.self.now.alloc) a.input.now
    (length a.out.now) (place_of a.place) a.mem.now
    c.min-count.result c.min-count.ensures c.copy_in.ensures (c.process_native.ensures a.self.now.alloc)
