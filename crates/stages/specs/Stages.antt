-- Document 01, "Small program": what the program keeps between two reads of a file whose rates differ, what each read makes of it, and the block of bytes
-- that is handed on to be written. Assumes nothing.
use Rattle.std.specs.Prelude.{Bool, false, ◌||◌, List, [], ◌++◌, ℕ, ◌/◌, ltb, Float, length, take}
use Rattle.quality.specs.House.{house}
use Rattle.state.specs.declared.ResamplerState.{ResamplerState}
use Rattle.resampler.specs.Entries.{new_told, rate_told, rate_history, rate_coefficients, process_told, process_history, process_output}
use Rattle.edges.specs.Edges.{odd_of}
use Rattle.pcm.specs.Blocks.{samples_of, bytes_of}

-- what is kept: the resampler's state and slices, the output that it is lent, an odd byte whose sample is not whole yet, and whether any sample came
pub record Stage : Type 0 where
  pub state : ResamplerState
  pub mem : List Float
  pub coefs : List Float
  pub out : List Float
  pub held : List ℕ
  pub came : Bool

-- before the first read: a new state, and its source rate set
abbrev pub opened_stage : ℕ → ℕ → List Float → List Float → List Float → Stage
opened_stage source target mem coefs out =
    let fresh = (new_told target).state in
    record {
      state = (rate_told house fresh source mem coefs).state;
      mem = rate_history house fresh source mem coefs;
      coefs = rate_coefficients house fresh source mem coefs;
      out = out;
      held = [];
      came = false;
    }

module _ (g : Stage) (input : List Float) where
  -- one call of the resampler over these samples
  abbrev pub pulled : Stage
  pulled =
      record {
        state = (process_told house g.state g.mem g.coefs input g.out).state;
        mem = process_history house g.state g.mem g.coefs input g.out;
        coefs = g.coefs;
        out = process_output house g.state g.mem g.coefs input g.out;
        held = g.held;
        came = g.came;
      }

  -- the bytes of the outputs that it wrote
  abbrev pub handed : List ℕ
  handed = bytes_of (take (process_told house g.state g.mem g.coefs input g.out).written pulled.out)

module _ (g : Stage) (read : List ℕ) where
  -- what a read brought, after the odd byte that was held
  abbrev pub block : List ℕ
  block = g.held ++ read

  -- after it: its whole samples went through, a new odd byte is held
  abbrev pub fed : Stage
  fed =
      let g' = pulled g (samples_of block) in
      record {
        state = g'.state;
        mem = g'.mem;
        coefs = g'.coefs;
        out = g'.out;
        held = odd_of block;
        came = g.came || ltb 0 (length block / 2);
      }
