-- "One output, one call", on samples: the outputs and the history of a round and a call. A sample is any A, and `weigh phase window` is
-- one output's weighted sum. Every number is taken from `Numbers`. Assumes nothing.
use Rattle.std.specs.Prelude.{List, [], ◌∷◌, ◌++◌, ℕ, zero, suc, ◌+◌, ◌-◌, min, length, take, drop}
use Rattle.std.proofs.Math.Seq.{paste}
use Rattle.timeline.specs.Numbers.{Rate, Place, Turn, Called, chunk, next, still, and_then, round, magic_round}

-- what was done: the numbers N, the outputs in order, and the history afterwards
pub record Played (N A : Type 0) : Type 0 where
  pub numbers : N
  pub out : List A
  pub mem : List A

-- nothing was done, and the numbers are those given
abbrev pub unplayed : {N A : Type 0} → N → List A → Played N A
unplayed numbers mem = record { numbers = numbers; out = []; mem = mem }

-- one thing was done and then another; `add` puts their numbers together
abbrev pub play_then : {N A : Type 0} → (N → N → N) → Played N A → Played N A → Played N A
play_then add h g = record { numbers = add h.numbers g.numbers; out = h.out ++ g.out; mem = g.mem }

module _ {A : Type 0} (weigh : ℕ → List A → A) where
  -- one output: its window is the n samples of the history that start at the position
  abbrev pub output : Rate → List A → Place → A
  output r mem p = weigh p.phase (take r.n (drop p.position mem))

  -- k outputs from place p on
  abbrev pub outputs : Rate → List A → ℕ → Place → List A
  outputs r mem zero p = []
  outputs r mem (suc k) p = output r mem p ∷ outputs r mem k (next r p)

  -- one round over the i samples at entry n-1 on. Then entries 0..n-2 take those that start at the first sample not consumed
  abbrev pub play_round : Rate → ℕ → ℕ → Place → List A → Played Turn A
  play_round r i room p mem =
      let t = round r i room p in
      record { numbers = t; out = outputs r mem t.written p; mem = paste mem 0 (drop t.consumed mem) (r.n - 1) }

  -- the first round over the input s: at most a chunk of it is copied to entry n-1 on
  abbrev pub play_chunk : Rate → List A → ℕ → Place → List A → Played Turn A
  play_chunk r s room p mem =
      let i = min (length s) (chunk r) in
      play_round r i room p (paste mem (r.n - 1) s i)

  -- at most `most` rounds over the input, while input and room remain
  abbrev pub play_rounds_up_to : ℕ → Rate → List A → ℕ → Place → List A → Played Turn A
  play_rounds_up_to zero r s room p mem = unplayed (still p) mem
  play_rounds_up_to (suc most) r [] room p mem = unplayed (still p) mem
  play_rounds_up_to (suc most) r (x ∷ xs) zero p mem = unplayed (still p) mem
  play_rounds_up_to (suc most) r (x ∷ xs) (suc room) p mem =
      let h = play_chunk r (x ∷ xs) (suc room) p mem in
      let t = h.numbers in
      play_then and_then h
      (play_rounds_up_to most r (drop t.consumed (x ∷ xs)) (suc room - t.written) t.place h.mem)

  -- rounds over the input while input and room remain
  abbrev pub play_rounds : Rate → List A → ℕ → Place → List A → Played Turn A
  play_rounds r s room p mem = play_rounds_up_to (length s) r s room p mem

  -- the round over m magic samples, if there are any. Those left move down, in order, to entry n-1 on
  abbrev pub play_magic : Rate → ℕ → ℕ → Place → List A → Played Called A
  play_magic r zero room p mem = unplayed (magic_round r zero room p) mem
  play_magic r (suc m) room p mem =
      let h = play_round r (suc m) room p mem in
      let c = h.numbers.consumed in
      record {
        numbers = magic_round r (suc m) room p;
        out = h.out;
        mem = paste h.mem (r.n - 1) (drop (r.n - 1 + c) h.mem) (suc m - c);
      }

  -- one call: the magic round; with magic samples left the call ends there, with none left rounds over the input follow
  abbrev pub play_call : Rate → ℕ → List A → ℕ → Place → List A → Played Called A
  play_call r m s room p mem =
      let h = play_magic r m room p mem in
      let t = h.numbers.turn in
      elim h.numbers.magic [
        | zero ↦
            (let g = play_rounds r s (room - t.written) t.place h.mem in
            record { numbers = record { turn = and_then t g.numbers; magic = 0 }; out = h.out ++ g.out; mem = g.mem })
        | suc left ↦ h
      ]
