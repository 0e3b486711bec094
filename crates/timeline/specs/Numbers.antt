-- "One output, one call", on numbers: what an output, a round and a call do to the position, the phase, the counts and the magic samples.
-- No sample decides any of them. Assumes nothing.
use Rattle.std.specs.Prelude.{ℕ, zero, suc, ◌+◌, ◌-◌, ◌/◌, ◌%◌, ◌<◌, min, Bool, true, false, ◌&&◌, ◌||◌, ltb}

-- what a rate fixes: the ratio num/den, the filter length n, and alloc, how many entries of the history are used
pub record Rate : Type 0 where
  pub num : ℕ
  pub den : ℕ
  pub n : ℕ
  pub alloc : ℕ

-- what the laws ask of a rate: a ratio, a filter, and a history in which a chunk is at least one sample
pub record Fit (r : Rate) : Type 0 where
  pub num : 0 < r.num
  pub den : 0 < r.den
  pub n : 0 < r.n
  pub alloc : r.n + 1 < r.alloc

-- the most samples that one round reads from the input
abbrev pub chunk : Rate → ℕ
chunk r = r.alloc - r.n - 1

-- the entry of the history at which the next output's window starts, and the output's phase
pub record Place : Type 0 where
  pub position : ℕ
  pub phase : ℕ

-- the place that the first rate leads to
abbrev pub fresh : Rate → Place
fresh r = record { position = r.n / 2; phase = 0 }

-- an output adds num/den: to the phase, in den-ths, and what exceeds them to the position
abbrev pub next : Rate → Place → Place
next r p = record { position = p.position + (p.phase + r.num) / r.den; phase = (p.phase + r.num) % r.den }

-- the place after k outputs
abbrev pub ahead : Rate → ℕ → Place → Place
ahead r zero p = p
ahead r (suc k) p = ahead r k (next r p)

-- how many outputs a round over i samples makes: until the position is i or more, or the room is full
abbrev pub made : Rate → ℕ → ℕ → Place → ℕ
made r i zero p = 0
made r i (suc room) p = elim (ltb p.position i) [ true ↦ suc (made r i room (next r p)) | false ↦ 0 ]

-- what was done to the numbers: samples consumed, outputs written, and the place where it ended
pub record Turn : Type 0 where
  pub consumed : ℕ
  pub written : ℕ
  pub place : Place

-- nothing was done
abbrev pub still : Place → Turn
still p = record { consumed = 0; written = 0; place = p }

-- one turn and then another
abbrev pub and_then : Turn → Turn → Turn
and_then a b = record { consumed = a.consumed + b.consumed; written = a.written + b.written; place = b.place }

-- k outputs led to q: the smaller of its position and the i samples is consumed, and the position falls by that
abbrev pub settled : ℕ → ℕ → Place → Turn
settled i k q =
    let c = min q.position i in
    record { consumed = c; written = k; place = record { position = q.position - c; phase = q.phase } }

-- one round over i samples
abbrev pub round : Rate → ℕ → ℕ → Place → Turn
round r i room p = let k = made r i room p in settled i k (ahead r k p)

-- at most `most` rounds, each over at most a chunk, while input and room remain
abbrev pub rounds_up_to : ℕ → Rate → ℕ → ℕ → Place → Turn
rounds_up_to zero r inn room p = still p
rounds_up_to (suc most) r zero room p = still p
rounds_up_to (suc most) r (suc inn) zero p = still p
rounds_up_to (suc most) r (suc inn) (suc room) p =
    let t = round r (min (suc inn) (chunk r)) (suc room) p in
    and_then t (rounds_up_to most r (suc inn - t.consumed) (suc room - t.written) t.place)

-- rounds over `inn` samples while input and room remain. Each consumes a sample or fills the room, so `inn` rounds are enough
abbrev pub rounds : Rate → ℕ → ℕ → Place → Turn
rounds r inn room p = rounds_up_to inn r inn room p

-- what calls did to the numbers, and how many magic samples they left
pub record Called : Type 0 where
  pub turn : Turn
  pub magic : ℕ

-- one round over m magic samples, if there are any, even with room 0. Magic samples do not count as consumed
abbrev pub magic_round : Rate → ℕ → ℕ → Place → Called
magic_round r zero room p = record { turn = still p; magic = 0 }
magic_round r (suc m) room p =
    let t = round r (suc m) room p in
    record { turn = record { consumed = 0; written = t.written; place = t.place }; magic = suc m - t.consumed }

-- one call with m magic samples, `inn` samples in and `room` outputs: the magic round; with magic samples left the call ends there,
-- with none left rounds over the input follow
abbrev pub call : Rate → ℕ → ℕ → ℕ → Place → Called
call r m inn room p =
    let c = magic_round r m room p in
    elim c.magic [
      | zero ↦ record { turn = and_then c.turn (rounds r inn (room - c.turn.written) c.turn.place); magic = 0 }
      | suc left ↦ c
    ]

-- whether a call runs a round, which is what sets `started`: there are magic samples, or there are input and room
abbrev pub runs : ℕ → ℕ → ℕ → Bool
runs m inn room = ltb 0 m || ltb 0 inn && ltb 0 room
