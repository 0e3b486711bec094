-- Document 01, "Small program": what each function of this crate answers, and what it leaves in the slices that it is lent. A primed name is a slice's
-- contents at exit. Assumes nothing.
use Rattle.std.specs.Prelude.{◌≡◌, false, List, [], ℕ, ◌≤◌, Float, length, take}
use Rattle.state.specs.declared.ResamplerState.{ResamplerState}
use Rattle.pcm.specs.Blocks.{samples_of, laid_over}
use Rattle.edges.specs.Edges.{odd_of}
use Rattle.stages.specs.Stages.{Stage, opened_stage, pulled, handed, block, fed}
use Rattle.stages.specs.declared.Kept.{Kept}
use Rattle.stages.specs.declared.Pulled.{Pulled}

-- a state and its slices as a stage, with nothing held
abbrev pub bare_stage : ResamplerState → List Float → List Float → List Float → Stage
bare_stage s mem coefs out = record { state = s; mem = mem; coefs = coefs; out = out; held = []; came = false }

-- what is kept, as a stage: the byte held stands at the start of the block of bytes
abbrev pub stage_of : Kept → List Float → List Float → List Float → List ℕ → Stage
stage_of k mem coefs out bytes =
    record { state = k.state; mem = mem; coefs = coefs; out = out; held = take k.held bytes; came = k.came }

-- opening
pub record Opens (source target : ℕ) (mem coefs : List Float) (r : ResamplerState) (mem' coefs' : List Float) : Type 0 where
  pub state : r ≡ (opened_stage source target mem coefs []).state
  pub history : mem' ≡ (opened_stage source target mem coefs []).mem
  pub coefficients : coefs' ≡ (opened_stage source target mem coefs []).coefs

-- these bytes stand at the start of `text`, and the rest of it stays. The last two fields follow from the others, and are what a caller's
-- `&text[..size]` asks
pub record HandedOn (bytes text text' : List ℕ) (size : ℕ) : Type 0 where
  pub count : size ≡ length bytes
  pub laid : text' ≡ laid_over bytes text
  pub within : size ≤ length text'
  pub whole : size ≡ length (take size text')

-- one call
pub record Pulls (g : Stage) (input : List Float) (text : List ℕ) (r : Pulled) (mem' out' : List Float) (text' : List ℕ) : Type 0 where
  pub state : r.state ≡ (pulled g input).state
  pub history : mem' ≡ (pulled g input).mem
  pub output : out' ≡ (pulled g input).out
  pub handed_on : HandedOn (handed g input) text text' r.size

-- one block, with the size that is handed on and how many bytes are held after it. `held_to` follows from the rest, and is what the loop over the reads
-- asks
pub record Feeds (g : Stage) (read text : List ℕ) (size held : ℕ) (g' : Stage) (text' : List ℕ) : Type 0 where
  pub stage : g' ≡ fed g read
  pub held_is : held ≡ length (odd_of (block g read))
  pub held_to : held ≤ 1
  pub handed_on : HandedOn (handed g (samples_of (block g read))) text text' size
