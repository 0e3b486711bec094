-- Document 01, "One output, one call": the call that a state makes, and the state after it. Assumes nothing.
use Rattle.std.specs.Prelude.{ℕ, ◌≡◌, cond, List, Float, length}
use Rattle.std.proofs.Math.Seq.{paste}
use Rattle.timeline.specs.Numbers.{Rate, Place, Called, runs}
use Rattle.timeline.specs.Samples.{Played, play_call}
use Rattle.rates.specs.Rated.{rate_with}
use Rattle.rounds.specs.Output.{weigh_of}
use Rattle.state.specs.State.{setting_in, moved_to}
use Rattle.state.specs.declared.ResamplerState.{ResamplerState}
use Rattle.process.specs.declared.Accepted.{Accepted}

-- the rate of a state, as positions and counts are told in it
abbrev pub rate_in : ResamplerState → Rate
rate_in s = rate_with (setting_in s) s.mem_alloc_size

-- the place at which a state stands
abbrev pub place_in : ResamplerState → Place
place_in s = record { position = s.last_sample; phase = s.samp_frac_num }

-- the call that a state makes of the coefficients, the input and the history, with room for so many outputs
abbrev pub played : ResamplerState → List Float → List Float → ℕ → List Float → Played Called Float
played s coefs input room mem =
    play_call (weigh_of (setting_in s) coefs) (rate_in s) s.magic_samples input room (place_in s) mem

-- started after a call with `inn` samples: 1 where a round ran
abbrev pub started_after : ResamplerState → ℕ → ℕ → ℕ
started_after s inn room = cond (runs s.magic_samples inn room) 1 s.started

-- the state after it
abbrev pub played_state : ResamplerState → ℕ → ℕ → Called → ResamplerState
played_state s inn room called =
    moved_to s (started_after s inn room) called.turn.place.position called.turn.place.phase called.magic

-- the lent output after it: the outputs first, past the written count what it held
abbrev pub played_output : Played Called Float → List Float → List Float
played_output h out = paste out 0 h.out h.numbers.turn.written

-- what a call answers and leaves
pub record Plays (s : ResamplerState) (mem coefs input out : List Float) (r : Accepted) (mem' out' : List Float) : Type 0 where
  pub state : r.state ≡ played_state s (length input) (length out) (played s coefs input (length out) mem).numbers
  pub consumed : r.consumed.0 ≡ (played s coefs input (length out) mem).numbers.turn.consumed
  pub written : r.written.0 ≡ (played s coefs input (length out) mem).numbers.turn.written
  pub history : mem' ≡ (played s coefs input (length out) mem).mem
  pub outputs : out' ≡ played_output (played s coefs input (length out) mem) out
