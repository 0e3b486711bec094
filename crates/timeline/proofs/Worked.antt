-- A rate worked by antt: 3/2, with a filter of 8 and chunks of 5. An output is 1000 times its phase plus the sum of its window. Assumes nothing.
use mathlib.Core.Path.{◌≡◌, refl}
use mathlib.Core.List.{List, [], ◌∷◌}
use Prim.Native.Nat.{ℕ, ◌+◌, ◌*◌}
use Rattle.timeline.specs.Numbers.{Rate, Place, Called}
use Rattle.timeline.specs.Samples.{play_call}
use Rattle.timeline.specs.Recording.{Offer, closed, recording, stream_outputs}

abbrev small : Rate
small = record { num = 3; den = 2; n = 8; alloc = 14 }

abbrev total : List ℕ → ℕ
total [] = 0
total (x ∷ xs) = x + total xs

abbrev weighed : ℕ → List ℕ → ℕ
weighed phase w = 1000 * phase + total w

abbrev ten : List ℕ
ten = closed 0 small (1 ∷ 2 ∷ 3 ∷ 4 ∷ 5 ∷ 6 ∷ 7 ∷ 8 ∷ 9 ∷ 10 ∷ [])

abbrev offer : ℕ → ℕ → Offer
offer samples room = record { samples = samples; room = room }

-- ten samples and the closing four: seven outputs, by the stream, in one call, and in eight
pub by_the_stream : stream_outputs weighed 0 small ten 0 7 ≡ 15 ∷ 1021 ∷ 36 ∷ 1044 ∷ 49 ∷ 1045 ∷ 34 ∷ []
by_the_stream = refl

pub at_once : (recording weighed 0 small [] ten (offer 100 100 ∷ [])).out ≡ stream_outputs weighed 0 small ten 0 7
at_once = refl

pub in_bits :
    (recording weighed 0 small [] ten
    (offer 1 9 ∷ offer 3 0 ∷ offer 6 1 ∷ offer 2 2 ∷ offer 3 1 ∷ offer 9 1 ∷ offer 9 1 ∷ offer 9 9 ∷ [])).out
    ≡ stream_outputs weighed 0 small ten 0 7
in_bits = refl

-- calls with magic samples: entries 0..6 are the past, the two after them are magic, and the last lies past alloc
abbrev at : ℕ → ℕ → Place
at position phase = record { position = position; phase = phase }

abbrev called : ℕ → ℕ → Place → ℕ → Called
called consumed written place magic = record { turn = record { consumed = consumed; written = written; place = place }; magic = magic }

abbrev held : List ℕ
held = 1 ∷ 2 ∷ 3 ∷ 4 ∷ 5 ∷ 6 ∷ 7 ∷ 8 ∷ 9 ∷ 10 ∷ 11 ∷ 12 ∷ 13 ∷ 14 ∷ 99 ∷ []

-- with room 0 the round over them reads one; the other moves down to entry 7, and no input is consumed
abbrev moved : List ℕ
moved = 2 ∷ 3 ∷ 4 ∷ 5 ∷ 6 ∷ 7 ∷ 8 ∷ 9 ∷ 9 ∷ 10 ∷ 11 ∷ 12 ∷ 13 ∷ 14 ∷ 99 ∷ []

pub magic_left : play_call weighed small 2 (20 ∷ 21 ∷ 22 ∷ []) 0 (at 1 1) held ≡ record { numbers = called 0 0 (at 0 1) 1; out = []; mem = moved }
magic_left = refl

-- with room the one left is read, and then the input, in two chunks
pub magic_spent :
    play_call weighed small 1 (20 ∷ 21 ∷ 22 ∷ 23 ∷ 24 ∷ 25 ∷ 26 ∷ []) 9 (at 0 1) moved
    ≡ record {
      numbers = called 7 5 (at 0 0) 0;
      out = 1044 ∷ 80 ∷ 1098 ∷ 134 ∷ 1152 ∷ [];
      mem = 20 ∷ 21 ∷ 22 ∷ 23 ∷ 24 ∷ 25 ∷ 26 ∷ 25 ∷ 26 ∷ 22 ∷ 23 ∷ 24 ∷ 13 ∷ 14 ∷ 99 ∷ [];
    }
magic_spent = refl
