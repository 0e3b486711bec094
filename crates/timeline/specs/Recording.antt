-- "One output, one call" and demand 3: a recording at one rate, with no reset or skip. It is any list of calls from a fresh state, each given
-- what the last one left, unread samples offered again. First the calls on numbers, then the stream that they cut up, then the calls on
-- samples. Assumes nothing.
use Rattle.std.specs.Prelude.{List, [], ◌∷◌, ◌++◌, ℕ, zero, suc, ◌+◌, ◌-◌, ◌*◌, ◌/◌, ◌%◌, min, take, drop, replicate}
use Rattle.timeline.specs.Numbers.{Rate, Called, fresh, still, and_then, call}
use Rattle.timeline.specs.Samples.{Played, unplayed, play_then, play_call}

-- what one call is given: the most samples that it is offered, and its room
pub record Offer : Type 0 where
  pub samples : ℕ
  pub room : ℕ

-- calls, and then one call more
abbrev pub call_then : Called → Called → Called
call_then c d = record { turn = and_then c.turn d.turn; magic = d.magic }

-- before the first call
abbrev pub start : Rate → Called
start r = record { turn = still (fresh r); magic = 0 }

-- one call more, of a recording of `len` samples
abbrev pub one_call_more : Rate → ℕ → Offer → Called → Called
one_call_more r len o c =
    call_then c (call r c.magic (min o.samples (len - c.turn.consumed)) o.room c.turn.place)

-- one call for each offer
abbrev pub calls : Rate → ℕ → List Offer → Called → Called
calls r len [] c = c
calls r len (o ∷ os) c = calls r len os (one_call_more r len o c)

-- the numbers of a recording of `len` samples
abbrev pub recorded : Rate → ℕ → List Offer → Called
recorded r len os = calls r len os (start r)

-- the stream of a recording: n-1 samples of silence, and then its samples
abbrev pub stream : {A : Type 0} → A → Rate → List A → List A
stream silence r xs = replicate (r.n - 1) silence ++ xs

-- a recording's samples with the n/2 of silence that close it
abbrev pub closed : {A : Type 0} → A → Rate → List A → List A
closed silence r xs = xs ++ replicate (r.n / 2) silence

-- where the window of output k starts in the stream
abbrev pub stream_position : Rate → ℕ → ℕ
stream_position r k = r.n / 2 + k * r.num / r.den

module _ {A : Type 0} (weigh : ℕ → List A → A) where
  -- one call more, of a recording of the samples xs
  abbrev pub play_one_more : Rate → List A → Offer → Played Called A → Played Called A
  play_one_more r xs o h =
      let t = h.numbers.turn in
      play_then call_then h
      (play_call weigh r h.numbers.magic (take o.samples (drop t.consumed xs)) o.room t.place h.mem)

  -- one call for each offer
  abbrev pub play_calls : Rate → List A → List Offer → Played Called A → Played Called A
  play_calls r xs [] h = h
  play_calls r xs (o ∷ os) h = play_calls r xs os (play_one_more r xs o h)

  module _ (silence : A) where
    -- a recording of the samples xs. Its history is alloc entries of silence and any `excess` beyond them
    abbrev pub recording : Rate → List A → List A → List Offer → Played Called A
    recording r excess xs os = play_calls r xs os (unplayed (start r) (replicate r.alloc silence ++ excess))

    -- a recording of the samples xs and the silence that closes it
    abbrev pub closed_recording : Rate → List A → List A → List Offer → Played Called A
    closed_recording r excess xs os = recording r excess (closed silence r xs) os

    -- output k of the stream, which no call is part of
    abbrev pub stream_output : Rate → List A → ℕ → A
    stream_output r xs k =
        weigh (k * r.num % r.den) (take r.n (drop (stream_position r k) (stream silence r xs)))

    -- `count` outputs of the stream, from output k on
    abbrev pub stream_outputs : Rate → List A → ℕ → ℕ → List A
    stream_outputs r xs k zero = []
    stream_outputs r xs k (suc count) = stream_output r xs k ∷ stream_outputs r xs (suc k) count
