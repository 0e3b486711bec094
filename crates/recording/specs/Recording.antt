-- Document 01, "One output, one call", and demand 3: a recording, as the calls that made it. It begins with `new` and one set rate. Then comes any list
-- of calls of `process_float`, each on the state and the slices that the last one left, with samples that are not read yet. Of every call it is asked
-- that what it answers and leaves is what its contract ensures, and nothing else. Assumes nothing.
use Rattle.std.specs.Prelude.{◌≡◌, List, [], ◌∷◌, ◌++◌, ℕ, ◌+◌, ◌≤◌, Float, length, take, drop}
use Rattle.math.specs.Numerals.{nought}
use Rattle.sizes.specs.Sizes.{InLimits, history_needed}
use Rattle.timeline.specs.Numbers.{Rate}
use Rattle.timeline.specs.Recording.{closed}
use Rattle.quality.specs.declared.QualityMapping.{QualityMapping}
use Rattle.rates.specs.Setting.{setting_of}
use Rattle.rates.specs.Rated.{rate_with}
use Rattle.rates.specs.declared.Setting.{Setting}
use Rattle.state.specs.declared.ResamplerState.{ResamplerState}
use Rattle.resampler.specs.Answers.{Answer, Told, told}
use Rattle.resampler.specs.Entries.{new_told}
use Rattle.resampler.specs.Promises.{SetsRate, Processes}

-- one call of `process_float`
pub record Call : Type 0 where
  -- the most unread samples that it is offered, and what the output that it is lent holds. Its room is the output's length
  pub offers : ℕ
  pub out : List Float
  -- what it answers, and what the history and the output hold at exit
  pub answer : Answer
  pub mem' : List Float
  pub out' : List Float

-- a recording
pub record Recording : Type 0 where
  -- its rates and its M samples
  pub source : ℕ
  pub target : ℕ
  pub samples : List Float
  -- what the slices that are lent as history and coefficients hold at first
  pub mem : List Float
  pub coefs : List Float
  -- what `new` answers; what `source_hz` answers, and what the two slices hold at its exit
  pub new_answer : Answer
  pub rate_answer : Answer
  pub mem' : List Float
  pub coefs' : List Float
  -- the calls, in order
  pub calls : List Call

-- what its rates give
abbrev pub setting_for : QualityMapping → Recording → Setting
setting_for row r = setting_of row r.source r.target

-- as the rate that places and counts are told in; the history that the filter needs is used
abbrev pub rate_for : QualityMapping → Recording → Rate
rate_for row r = rate_with (setting_for row r) (history_needed (setting_for row r).filt_len)

-- all that is to be read: its samples, and half a filter length of zeros
abbrev pub whole_input : QualityMapping → Recording → List Float
whole_input row r = closed nought (rate_for row r) r.samples

-- where it stands between two calls: the state and the slices for the next one; the sums of the consumed and the written counts that the calls told;
-- and the outputs, in order
pub record Progress : Type 0 where
  pub state : ResamplerState
  pub mem : List Float
  pub coefs : List Float
  pub consumed : ℕ
  pub written : ℕ
  pub outputs : List Float

-- before the first call
abbrev pub opened : Recording → Progress
opened r = record { state = (told r.rate_answer).state; mem = r.mem'; coefs = r.coefs'; consumed = 0; written = 0; outputs = [] }

-- what a call tells, and what it leaves in the history and the output, put after what was done
abbrev pub after_told : Progress → Told → List Float → List Float → Progress
after_told h t mem out =
    record {
      state = t.state;
      mem = mem;
      coefs = h.coefs;
      consumed = h.consumed + t.consumed;
      written = h.written + t.written;
      outputs = h.outputs ++ take t.written out;
    }

-- one call more
abbrev pub after : Progress → Call → Progress
after h c = after_told h (told c.answer) c.mem' c.out'

-- all calls of a list
abbrev pub after_all : Progress → List Call → Progress
after_all h [] = h
after_all h (c ∷ cs) = after_all (after h c) cs

-- and so the whole recording
abbrev pub finished : Recording → Progress
finished r = after_all (opened r) r.calls

-- the samples that a call is offered: so many of the first that are not read yet, and all of them where fewer are left
abbrev pub offered : List Float → Progress → Call → List Float
offered xs h c = take c.offers (drop h.consumed xs)

-- a call made there is what `process_float` ensures
abbrev pub Follows : QualityMapping → List Float → Progress → Call → Type 0
Follows row xs h c = Processes row h.state h.mem h.coefs (offered xs h c) c.out c.answer c.mem' c.out'

-- and so is each of a list, after those before it
abbrev pub AllFollow : QualityMapping → List Float → Progress → List Call → Type 0
AllFollow row xs h [] = Unit {0}
AllFollow row xs h (c ∷ cs) = Follows row xs h c × AllFollow row xs (after h c) cs

-- a recording was made under a quality row: the rates are in limits, the slices at least as long as they ask, and each step is what its contract
-- ensures
pub record MadeUnder (row : QualityMapping) (r : Recording) : Type 0 where
  pub source_in : InLimits r.source
  pub target_in : InLimits r.target
  pub history : history_needed (setting_for row r).filt_len ≤ length r.mem
  pub coefficients : (setting_for row r).coefs ≤ length r.coefs
  pub new : told r.new_answer ≡ new_told r.target
  pub rate : SetsRate row (told r.new_answer).state r.source r.mem r.coefs r.rate_answer r.mem' r.coefs'
  pub calls : AllFollow row (whole_input row r) (opened r) r.calls

-- the same beginning, with other calls
abbrev pub with_calls : Recording → List Call → Recording
with_calls r cs =
    record {
      source = r.source;
      target = r.target;
      samples = r.samples;
      mem = r.mem;
      coefs = r.coefs;
      new_answer = r.new_answer;
      rate_answer = r.rate_answer;
      mem' = r.mem';
      coefs' = r.coefs';
      calls = cs;
    }
